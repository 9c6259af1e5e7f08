use Rattle.std.proofs.Common.{ℕ, Bool, subst, MatchOption}
use Rattle.sheet.specs.Lanes.{Least, NoneOf}
use Rattle.sheet.proofs.Grades.{owed_standing}
use Rattle.sheet.proofs.sheet.Sheet.lowest_owed.Goals as goal

pub returns : goal.returns
returns c = subst (λ (f : ℕ → Bool). MatchOption c.lowest.result (NoneOf f) (Least f)) (λ i k. owed_standing c.args.self.now k i) c.lowest.ensures
