-- Successions of calls on one sheet: what was asked and what was answered. Assumes nothing.
use Rattle.std.specs.Prelude.{ℕ, List, [], ◌∷◌, Result}
use Rattle.table.specs.declared.table.Table.{Table}
use Rattle.sheet.specs.declared.entry.Entry.{Entry}
use Rattle.sheet.specs.declared.fault.SheetFault.{SheetFault}
use Rattle.sheet.specs.declared.sheet.Sheet.{Sheet}
use Rattle.sheet.specs.declared.slip.Returned.{Returned}
use Rattle.sheet.specs.declared.slip.Slip.{Slip}
use Rattle.sheet.specs.declared.standing.Standing.{Standing}
use Rattle.sheet.specs.declared.standing.Standing.TheVariants.{Taken, Struck}
use Rattle.sheet.specs.Calls.{Opened, Entered, Ruled}

-- how one rules on an owed lane
pub data Ruling : Type 0 where
  take : Ruling
  strike : Ruling

abbrev pub becomes : Ruling → Standing
becomes take = Taken
becomes strike = Struck

-- a call, with what was asked and what was answered
pub data Event : Type 0 where
  -- lane, line, table and how many weights were lent
  enter : ℕ → List ℕ → Table → ℕ → Result Entry SheetFault → Event
  rule : Ruling → Slip → Result (Unit {0}) Returned → Event

-- what each call promises
abbrev pub Did : Event → Sheet → Sheet → Type 0
Did (enter lane line table room a) before after = Entered lane line table room a before after
Did (rule r p a) before after = Ruled (becomes r) p a before after

-- the calls on a sheet since it was opened, the latest first
abbrev pub Run : ℕ → List Event → Sheet → Type 0
Run number [] s = Opened number s
Run number (e ∷ h) s = (before : Sheet) × Run number h before × Did e before s
