-- The number, place and layer of each fault of a sheet. Assumes nothing.
use Rattle.std.specs.Prelude.{ℕ}
use Rattle.table.specs.declared.fault.Refusal.{Refusal}
use Rattle.session.specs.Faults as session
use Rattle.session.specs.Faults.{most_symbols}
use Rattle.sheet.specs.declared.fault.SheetFault.{SheetFault}
use Rattle.sheet.specs.declared.fault.SheetFault.TheVariants.{Session, BadLane, LongLine, Filled, NoSuchSlip, LanesOwed}

abbrev pub sheet_refusal : ℕ → ℕ → Refusal
sheet_refusal n p = record { number = n; place = p; layer = 5 }

abbrev pub refusal_of : SheetFault → Refusal
refusal_of (Session l f) = session.refusal_of f
refusal_of (BadLane l) = sheet_refusal 11 l
refusal_of LongLine = sheet_refusal 12 most_symbols
refusal_of (Filled l) = sheet_refusal 21 l
refusal_of (NoSuchSlip l) = sheet_refusal 22 l
refusal_of (LanesOwed l) = sheet_refusal 23 l
