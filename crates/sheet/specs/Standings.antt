-- Where a lane stands on a sheet. Assumes nothing.
use Rattle.std.specs.Prelude.{ℕ, Bool, ◌==◌}
use Rattle.sheet.specs.declared.standing.Standing.{Standing}
use Rattle.sheet.specs.declared.standing.Standing.TheVariants.{Unfilled, Clean, Owed, Taken, Struck}

abbrev rank : Standing → ℕ
rank Unfilled = 0
rank Clean = 1
rank Owed = 2
rank Taken = 3
rank Struck = 4

abbrev pub same : Standing → Standing → Bool
same a b = rank a == rank b
