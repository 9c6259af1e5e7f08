-- What entering a line and ruling on a lane answer, and what they leave. Assumes nothing.
use Rattle.std.specs.Prelude.{◌≡◌, ℕ, Bool, true, false, cond, not, ◌&&◌, List, Some, None, Ok, Err, Option, Result, ◌==◌}
use Rattle.table.specs.declared.fault.Refusal.{Refusal}
use Rattle.table.specs.declared.table.Table.{Table}
use Rattle.sheet.specs.declared.entry.Entry.{Entry}
use Rattle.sheet.specs.declared.fault.SheetFault.{SheetFault}
use Rattle.sheet.specs.declared.fault.SheetFault.TheVariants.{Session, BadLane, LongLine, Filled, NoSuchSlip, LanesOwed}
use Rattle.sheet.specs.declared.sheet.Sheet.{Sheet}
use Rattle.sheet.specs.declared.slip.Slip.{Slip}
use Rattle.sheet.specs.declared.slip.Returned.{Returned}
use Rattle.sheet.specs.declared.standing.Standing.{Standing}
use Rattle.sheet.specs.declared.standing.Standing.TheVariants.{Unfilled, Owed}
use Rattle.sheet.specs.Entries.{outcome, due, placed}
use Rattle.sheet.specs.Faults.{refusal_of, sheet_refusal}
use Rattle.sheet.specs.Refusals.{entry_refusal}
use Rattle.sheet.specs.Sheets.{standing}
use Rattle.sheet.specs.Standings.{same}
use Rattle.sheet.specs.Weighing.{line_weight}

-- every lane is unfilled
pub record Opened (number : ℕ) (s : Sheet) : Type 0 where
  pub numbered : s.number ≡ number
  pub unfilled : (k : ℕ) → standing s k ≡ Unfilled

-- one lane stands elsewhere, and all else is as before
pub record Moved (lane : ℕ) (to : Standing) (before after : Sheet) : Type 0 where
  pub numbered : after.number ≡ before.number
  pub stands : (k : ℕ) → standing after k ≡ cond (k == lane) to (standing before k)

abbrev pub filled : Sheet → ℕ → Bool
filled s k = not (same (standing s k) Unfilled)

-- a session's fault has the lane beside it
abbrev pub Beside : ℕ → SheetFault → Type 0
Beside lane (Session l f) = l ≡ lane
Beside lane (BadLane l) = Unit {0}
Beside lane LongLine = Unit {0}
Beside lane (Filled l) = Unit {0}
Beside lane (NoSuchSlip l) = Unit {0}
Beside lane (LanesOwed l) = Unit {0}

-- a lane is refused so, with the lane beside a session's fault, or it passes where nothing refuses it
abbrev pub Judged : ℕ → Option Refusal → Result ℕ SheetFault → Type 0
Judged lane refusal (Ok l) = (refusal ≡ None) × (l ≡ lane)
Judged lane refusal (Err f) = (refusal ≡ Some (refusal_of f)) × Beside lane f

-- entering a line by a table, with room for so many weights
abbrev pub Entered : ℕ → List ℕ → Table → ℕ → Result Entry SheetFault → Sheet → Sheet → Type 0
Entered lane line table room (Ok e) before after =
    (entry_refusal (filled before lane) lane line table room ≡ None)
    × (outcome e ≡ due before.number lane (line_weight table line))
    × Moved lane (placed (line_weight table line).first.value) before after
Entered lane line table room (Err f) before after =
    (entry_refusal (filled before lane) lane line table room ≡ Some (refusal_of f))
    × Beside lane f
    × (after ≡ before)

-- the slip is for this sheet's number, and its lane is owed
abbrev pub matches : Sheet → Slip → Bool
matches s p = p.sheet == s.number && same (standing s p.lane) Owed

-- ruling on a lane by a slip, which goes back where it does not match
abbrev pub Ruled : Standing → Slip → Result (Unit {0}) Returned → Sheet → Sheet → Type 0
Ruled to slip (Ok u) before after = (matches before slip ≡ true) × Moved slip.lane to before after
Ruled to slip (Err r) before after =
    (matches before slip ≡ false)
    × (r.slip ≡ slip)
    × (refusal_of r.fault ≡ sheet_refusal 22 slip.lane)
    × (after ≡ before)
