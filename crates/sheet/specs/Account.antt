-- What a sheet owes to its history: lines, readings, slips and refusals. Assumes nothing.
use Rattle.std.specs.Prelude.{◌≡◌, ◌↔◌, ℕ, ◌+◌, Bool, true, false, cond, ◌&&◌, ◌⊎◌, List, [], ◌∷◌, is_ok, Some, None, Ok, Err, Option, Result, ◌==◌, ◌≢◌}
use Rattle.std.specs.Option.{IsSomeAnd, option_map}
use Rattle.std.specs.Result.{result_err}
use Rattle.readings.specs.Readings.{Reading, Reads}
use Rattle.table.specs.Content.{tree}
use Rattle.table.specs.declared.fault.Refusal.{Refusal}
use Rattle.table.specs.Kinds.{byte_passing}
use Rattle.table.specs.Tree.{Tree}
use Rattle.sheet.specs.declared.entry.Entry.{Entry}
use Rattle.sheet.specs.declared.entry.Entry.TheVariants.{Unreadable, Clean, Owed}
use Rattle.sheet.specs.declared.fault.SheetFault.{SheetFault}
use Rattle.sheet.specs.declared.sheet.Sheet.{Sheet}
use Rattle.sheet.specs.declared.slip.Returned.{Returned}
use Rattle.sheet.specs.Faults.{refusal_of, sheet_refusal}
use Rattle.sheet.specs.History.{Event, enter, rule}
use Rattle.sheet.specs.Lanes.{has, size}
use Rattle.sheet.specs.Refusals.{answered, entry_refusal}

-- a line, and the pattern that it is read by
pub record Line : Type 0 where
  pub symbols : List ℕ
  pub pattern : Tree

abbrev pub ReadAs : Line → Reading → Type 0
ReadAs l r = Reads byte_passing l.pattern l.symbols r

abbrev pub SomeReading : Line → Type 0
SomeReading l = (r : Reading) × ReadAs l r

abbrev pub OneReading : Line → Type 0
OneReading l = (r : Reading) × ReadAs l r × ((q : Reading) → ReadAs l q → q ≡ r)

abbrev pub MoreReadings : Line → Type 0
MoreReadings l = (r : Reading) × (q : Reading) × ReadAs l r × ReadAs l q × (q ≢ r)

-- a lane's line: that of the last enter there that was not refused, by the table entered with it
abbrev pub line_of : List Event → ℕ → Option Line
line_of [] k = None
line_of (enter lane line table room (Ok e) ∷ h) k = cond (k == lane) (Some (record { symbols = line; pattern = tree table })) (line_of h k)
line_of (enter lane line table room (Err f) ∷ h) k = line_of h k
line_of (rule r p a ∷ h) k = line_of h k

-- the answer holds a slip
abbrev pub gives : Result Entry SheetFault → Bool
gives (Ok Unreadable) = false
gives (Ok (Clean p)) = false
gives (Ok (Owed p s)) = true
gives (Err f) = false

-- how many slips enter handed out
abbrev pub handed : List Event → ℕ
handed [] = 0
handed (enter lane line table room a ∷ h) = cond (gives a) 1 0 + handed h
handed (rule r p a ∷ h) = handed h

-- a lane is owed from the enter that hands out its slip until a take or strike there that is not refused
abbrev pub owed_in : List Event → ℕ → Bool
owed_in [] k = false
owed_in (enter lane line table room a ∷ h) k = cond (gives a && k == lane) true (owed_in h k)
owed_in (rule r p a ∷ h) k = cond (is_ok a && k == p.lane) false (owed_in h k)

-- what the answer to a slip says of refusals
abbrev pub ruled : Result (Unit {0}) Returned → Option Refusal
ruled a = option_map (λ r. refusal_of r.fault) (result_err a)

-- a slip is refused exactly where its sheet number is another or its lane is not owed
abbrev pub slip_refusal : Bool → ℕ → Option Refusal
slip_refusal matching lane = cond matching None (Some (sheet_refusal 22 lane))

-- a call was refused exactly on its conditions, after what went before
abbrev pub Due : ℕ → List Event → Event → Type 0
Due number h (enter lane line table room a) = (filled : Bool) × ((filled ≡ true) ↔ IsSomeAnd (line_of h lane) SomeReading) × (answered a ≡ entry_refusal filled lane line table room)
Due number h (rule r p a) = ruled a ≡ slip_refusal (p.sheet == number && owed_in h p.lane) p.lane

abbrev pub AllDue : ℕ → List Event → Type 0
AllDue number [] = Unit {0}
AllDue number (e ∷ h) = Due number h e × AllDue number h

-- the account of a sheet after a succession of calls
pub record Account (number : ℕ) (h : List Event) (s : Sheet) : Type 0 where
  -- the slips handed out are as many as the lanes taken, struck and owed
  pub slips : handed h ≡ size s.taken + size s.struck + size s.owed
  -- a lane is clean exactly when it has a line with one reading
  pub clean : (k : ℕ) → ((has s.clean k ≡ true) ↔ IsSomeAnd (line_of h k) OneReading)
  -- and in one of the other sets exactly when it has a line with more
  pub others : (k : ℕ) → (((has s.taken k ≡ true) ⊎ ((has s.struck k ≡ true) ⊎ (has s.owed k ≡ true))) ↔ IsSomeAnd (line_of h k) MoreReadings)
  -- among those, owed by the history
  pub owed : (k : ℕ) → has s.owed k ≡ owed_in h k
  -- every call was refused exactly on its conditions
  pub refused : AllDue number h
