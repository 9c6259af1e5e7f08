-- When entering a line is refused, and by which number. Assumes nothing.
use Rattle.std.specs.Prelude.{ℕ, Bool, cond, ◌&&◌, List, length, Some, None, Option, Result, ◌==◌, nat_le}
use Rattle.std.specs.Option.{option_map}
use Rattle.std.specs.Result.{result_err}
use Rattle.table.specs.declared.fault.Refusal.{Refusal}
use Rattle.table.specs.declared.table.Table.{Table}
use Rattle.table.specs.Content.{content}
use Rattle.table.specs.Kinds.{byte_number}
use Rattle.table.specs.Rules.{or_else}
use Rattle.session.specs.Faults.{most_symbols, session_refusal}
use Rattle.sheet.specs.declared.fault.SheetFault.{SheetFault}
use Rattle.sheet.specs.Faults.{refusal_of, sheet_refusal}
use Rattle.sheet.specs.Weighing.{needed}

abbrev pub kind_refusal : ℕ → Option Refusal
kind_refusal kind = cond (kind == byte_number) None (Some (session_refusal 9 0))

abbrev pub room_refusal : ℕ → ℕ → Option Refusal
room_refusal need room = cond (nat_le need room) None (Some (session_refusal 10 need))

abbrev pub lane_refusal : ℕ → Option Refusal
lane_refusal lane = cond (nat_le 1 lane && nat_le lane 10) None (Some (sheet_refusal 11 lane))

abbrev pub line_refusal : ℕ → Option Refusal
line_refusal n = cond (nat_le n most_symbols) None (Some (sheet_refusal 12 most_symbols))

abbrev pub filled_refusal : Bool → ℕ → Option Refusal
filled_refusal filled lane = cond filled (Some (sheet_refusal 21 lane)) None

-- what the session refuses, before any symbol is read
abbrev pub session_judged : Table → ℕ → Option Refusal
session_judged table room = or_else (kind_refusal (content table).kind) (room_refusal (needed table) room)

-- what the sheet itself refuses, the lowest number first; or nothing
abbrev pub own_refusal : Bool → ℕ → List ℕ → Option Refusal
own_refusal filled lane line =
    or_else (lane_refusal lane)
    (or_else (line_refusal (length line))
    (filled_refusal filled lane))

-- what entering is refused by, the lowest number first; or nothing
abbrev pub entry_refusal : Bool → ℕ → List ℕ → Table → ℕ → Option Refusal
entry_refusal filled lane line table room = or_else (session_judged table room) (own_refusal filled lane line)

-- what an answer says of refusals
abbrev pub answered : {A : Type 0} → Result A SheetFault → Option Refusal
answered a = option_map refusal_of (result_err a)
