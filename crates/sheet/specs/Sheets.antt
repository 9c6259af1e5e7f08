-- What a sheet says of a lane. Assumes nothing.
use Rattle.std.specs.Prelude.{ℕ, Bool, cond}
use Rattle.sheet.specs.declared.standing.Standing.{Standing}
use Rattle.sheet.specs.declared.standing.Standing.TheVariants.{Unfilled, Clean, Owed, Taken, Struck}
use Rattle.sheet.specs.declared.sheet.Sheet.{Sheet}
use Rattle.sheet.specs.Lanes.{has}

-- the set that has the lane, where no two of the sets do
abbrev pub set_of : Bool → Bool → Bool → Bool → Standing
set_of clean owed taken struck = cond clean Clean (cond owed Owed (cond taken Taken (cond struck Struck Unfilled)))

abbrev pub standing : Sheet → ℕ → Standing
standing s k = set_of (has s.clean k) (has s.owed k) (has s.taken k) (has s.struck k)
