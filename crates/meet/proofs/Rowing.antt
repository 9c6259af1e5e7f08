-- The lanes that are filled after a line. Assumes nothing.
use Rattle.std.proofs.Common.{◌≡◌, ℕ, List, Ok, Err, Result, subst, arith}
use Rattle.std.proofs.lemmas.Bool.Decides.{nat_tests}
use Rattle.table.specs.declared.table.Table.{Table}
use Rattle.table.specs.Content.{tree}
use Rattle.sheet.specs.declared.fault.SheetFault.{SheetFault}
use Rattle.sheet.specs.declared.sheet.Sheet.{Sheet}
use Rattle.sheet.specs.Calls.{filled}
use Rattle.meet.specs.Meet.{filled_with}
use Rattle.meet.specs.Parts.{lane_of, text_of}
use Rattle.meet.specs.Settled.{Settled}

module _ (line : List ℕ) (t : Table) (b s : Sheet) where
  lanes_after : (a : Result ℕ SheetFault) → Settled (lane_of line) (text_of line) t a b s → (k : ℕ) → filled s k ≡ filled_with (tree t) line (filled b) k
  lanes_after (Ok n) d k = grind (arith, nat_tests, d.0, d.1, d.2 k)
  lanes_after (Err f) d k = grind (arith, nat_tests, d.0, d.1 k)

  pub answer_lanes : (lane : ℕ) (text : List ℕ) → lane ≡ lane_of line → text ≡ text_of line → (a : Result ℕ SheetFault) → Settled lane text t a b s → (k : ℕ) → filled s k ≡ filled_with (tree t) line (filled b) k
  answer_lanes lane text l x a d = lanes_after a (subst (λ w. Settled (lane_of line) w t a b s) x (subst (λ i. Settled i text t a b s) l d))
