-- Every succession of calls leaves the sheet with its account. Assumes nothing.
use Rattle.std.proofs.Common.{◌≡◌, ℕ, zero, suc, ◌+◌, List, refl, ◌∙◌, arith}
use mathlib.Core.Logic.Iff
use Rattle.sheet.specs.declared.sheet.Sheet.{Sheet}
use Rattle.sheet.specs.Account.{Account, line_of}
use Rattle.sheet.specs.History.{Event, Run}
use Rattle.sheet.specs.Lanes.{has, picked}
use Rattle.sheet.specs.Sheets.{standing}
use Rattle.sheet.proofs.Grades.{equals, more, set_clean, owed_standing, set_more, set_one_of, grade_clean, grade_more, count_at, has_one, has_more}
use Rattle.sheet.proofs.Kept.{run_kept}

-- the lanes with more readings, counted set by set
by_sets : (s : Sheet) (n : ℕ) → picked (λ k. more (standing s k)) n ≡ picked (has s.taken) n + picked (has s.struck) n + picked (has s.owed) n
by_sets s zero = refl
by_sets s (suc n) = omega (arith, by_sets s n, set_more (has s.clean n) (has s.owed n) (has s.taken n) (has s.struck n) (s.apart n))

pub account : (number : ℕ) (h : List Event) (s : Sheet) → Run number h s → Account number h s
account number h s r =
    let inv = run_kept number h s r in
    record {
      slips = inv.slips ∙ by_sets s 16;
      clean = λ k.
          Iff.trans (equals (set_clean (has s.clean k) (has s.owed k) (has s.taken k) (has s.struck k)))
          (Iff.trans (grade_clean (standing s k) (count_at (line_of h k)) (inv.graded k)) (has_one (line_of h k)));
      others = λ k.
          Iff.trans (set_one_of (has s.clean k) (has s.owed k) (has s.taken k) (has s.struck k) (s.apart k))
          (Iff.trans (grade_more (standing s k) (count_at (line_of h k)) (inv.graded k)) (has_more (line_of h k)));
      owed = λ k. owed_standing s k ∙ inv.owes k;
      refused = inv.due_all;
    }
