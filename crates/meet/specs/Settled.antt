-- What a line that is entered, and struck where it has several readings, answers and leaves. Assumes nothing.
use Rattle.std.specs.Prelude.{◌≡◌, ℕ, cond, List, Some, None, Ok, Err, Result, ◌==◌, nat_le}
use Rattle.sheet.specs.declared.fault.SheetFault.{SheetFault}
use Rattle.sheet.specs.declared.sheet.Sheet.{Sheet}
use Rattle.sheet.specs.Calls.{filled}
use Rattle.sheet.specs.Faults.{refusal_of}
use Rattle.sheet.specs.Refusals.{own_refusal}
use Rattle.sheet.specs.Weighing.{line_weight}
use Rattle.table.specs.declared.table.Table.{Table}
use Rattle.meet.specs.Rows.{fault_row, row}

-- the number of readings, and a lane that is filled where there is one; or the refusal, and the lanes as they were
abbrev pub Settled : ℕ → List ℕ → Table → Result ℕ SheetFault → Sheet → Sheet → Type 0
Settled lane text table (Ok n) before after =
    (own_refusal (filled before lane) lane text ≡ None)
    × (n ≡ (line_weight table text).first.value)
    × ((k : ℕ) → filled after k ≡ cond (k == lane) (nat_le 1 n) (filled before k))
Settled lane text table (Err f) before after =
    (own_refusal (filled before lane) lane text ≡ Some (refusal_of f))
    × ((k : ℕ) → filled after k ≡ filled before k)

-- the row of such an answer
abbrev pub answer_row : ℕ → ℕ → Result ℕ SheetFault → List ℕ
answer_row number lane (Ok n) = row lane n
answer_row number lane (Err f) = fault_row number (refusal_of f)
