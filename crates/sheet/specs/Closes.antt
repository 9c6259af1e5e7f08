-- What closing a sheet answers. Assumes nothing.
use Rattle.std.specs.Prelude.{◌≡◌, ℕ, Bool, Ok, Err, Result}
use Rattle.sheet.specs.declared.sheet.ClosedSheet.{ClosedSheet}
use Rattle.sheet.specs.declared.sheet.Sheet.{Sheet}
use Rattle.sheet.specs.declared.sheet.StillOpen.{StillOpen}
use Rattle.sheet.specs.declared.standing.Standing.TheVariants.{Owed}
use Rattle.sheet.specs.Faults.{refusal_of, sheet_refusal}
use Rattle.sheet.specs.Lanes.{Least, NoneOf}
use Rattle.sheet.specs.Sheets.{standing}
use Rattle.sheet.specs.Standings.{same}

abbrev pub is_owed : Sheet → ℕ → Bool
is_owed s k = same (standing s k) Owed

-- a sheet without an owed lane is closed, its other sets as they are; another goes back, with the lowest owed lane
abbrev pub Closes : Sheet → Result ClosedSheet StillOpen → Type 0
Closes s (Ok c) = NoneOf (is_owed s) × (c.clean ≡ s.clean) × (c.taken ≡ s.taken) × (c.struck ≡ s.struck)
Closes s (Err r) = (r.sheet ≡ s) × ((lane : ℕ) × Least (is_owed s) lane × (refusal_of r.fault ≡ sheet_refusal 23 lane))
