-- What is known after an entry, and after a slip is struck. Assumes nothing.
use Rattle.std.proofs.Common.{◌≡◌, ℕ, ◌≤◌, Bool, true, cond, not, eqb, leb, List, None, Ok, Err, Result, sym, refl, ap, ◌∙◌, arith}
use Rattle.std.proofs.lemmas.Bool.{false≢true}
use Rattle.std.proofs.lemmas.Bool.Decides.{nat_tests}
use Rattle.std.specs.Result.{IsOk}
use Rattle.table.specs.declared.table.Table.{Table}
use Rattle.table.specs.Content.{content}
use Rattle.table.specs.Kinds.{byte_number}
use Rattle.table.specs.Rules.{or_else}
use Rattle.sheet.specs.declared.entry.Entry.{Entry}
use Rattle.sheet.specs.declared.entry.Entry.TheVariants as entries
use Rattle.sheet.specs.declared.fault.SheetFault.{SheetFault}
use Rattle.sheet.specs.declared.sheet.Sheet.{Sheet}
use Rattle.sheet.specs.declared.slip.Returned.{Returned}
use Rattle.sheet.specs.declared.slip.Slip.{Slip}
use Rattle.sheet.specs.declared.standing.Standing.{Standing}
use Rattle.sheet.specs.declared.standing.Standing.TheVariants.{Unfilled, Struck}
use Rattle.sheet.specs.Account.{gives}
use Rattle.sheet.specs.Closes.{is_owed}
use Rattle.sheet.specs.History.{strike}
use Rattle.sheet.specs.Lanes.{NoneOf}
use Rattle.sheet.proofs.Owing.{ruling_owes, slip_matches}
use Rattle.sheet.specs.Calls.{Entered, Moved, Ruled, filled, matches}
use Rattle.sheet.specs.Entries.{outcome, placed}
use Rattle.sheet.specs.Refusals.{entry_refusal, own_refusal, session_judged}
use Rattle.sheet.specs.Sheets.{standing}
use Rattle.sheet.specs.Slips.{new_slip}
use Rattle.sheet.specs.Standings.{same}
use Rattle.sheet.specs.Weighing.{line_weight, needed}
use Rattle.sheet.proofs.Answered.{gives_more, slip_due}
use Rattle.meet.specs.Settled.{Settled}

-- a lane that stands where so many readings put it is filled where there is one
filled_put : (x : Bool) (n : ℕ) (st : Standing) → not (same (cond x (placed n) st) Unfilled) ≡ cond x (leb 1 n) (not (same st Unfilled))
filled_put x n st = grind (arith, nat_tests)

-- a slip that matches is struck
struck : (p : Slip) (s after : Sheet) (r : Result (Unit {0}) Returned) → matches s p ≡ true → Ruled Struck p r s after → IsOk r × Moved p.lane Struck s after
struck p s after (Ok u) fits d = (refl, d.1)
struck p s after (Err q) fits d = absurd (false≢true (sym d.0 ∙ fits))

module _ (lane : ℕ) (line : List ℕ) (table : Table) (room : ℕ) (kind : (content table).kind ≡ byte_number) (fits : needed table ≤ room) where
  -- a byte table with room enough is not refused by the session
  session_accepts : session_judged table room ≡ None
  session_accepts = grind (arith, nat_tests)

  -- so what refuses a line is told by lane, text and filled lanes
  line_refused : (f : Bool) → own_refusal f lane line ≡ entry_refusal f lane line table room
  line_refused f = sym (ap (λ o. or_else o (own_refusal f lane line)) session_accepts)

  -- an entry without a slip
  pub settled_plain : (e : Entry) (b s : Sheet) → Entered lane line table room (Ok e) b s → (n : ℕ) → n ≡ (outcome e).count → Settled lane line table (Ok n) b s
  settled_plain e b s d n c = (line_refused (filled b lane) ∙ d.0, same_count, λ k. ap (λ st. not (same st Unfilled)) (d.2.stands k) ∙ filled_put (eqb k lane) _ (standing b k) ∙ ap (λ m. cond (eqb k lane) (leb 1 m) (filled b k)) (sym same_count))
    where
      same_count : n ≡ (line_weight table line).first.value
      same_count = c ∙ ap (λ o. o.count) d.1

  -- a refusal
  pub settled_refused : (f : SheetFault) (b s : Sheet) → Entered lane line table room (Err f) b s → Settled lane line table (Err f) b s
  settled_refused f b s d = (line_refused (filled b lane) ∙ d.0, λ k. ap (λ x. filled x k) d.2)

-- the strike of a slip that was just handed out
module _ (lane : ℕ) (line : List ℕ) (table : Table) (room : ℕ) (e : Entry) (b s : Sheet) (d : Entered lane line table room (Ok e) b s) (price : ℕ) (p : Slip) (is : e ≡ entries.Owed price p) (after : Sheet) (r : Result (Unit {0}) Returned) (m : Ruled Struck p r s after) where
  fits_slip : matches s p ≡ true
  fits_slip = slip_matches lane line table room e b s d price p is

  moved : Moved p.lane Struck s after
  moved = (struck p s after r fits_slip m).1

  pub strike_given : IsOk r
  strike_given = (struck p s after r fits_slip m).0

  pub strike_owes : NoneOf (is_owed b) → NoneOf (is_owed after)
  strike_owes none = ruling_owes lane line table room e b s d price p is strike tt after (fits_slip, moved) none

  pub strike_settles : (content table).kind ≡ byte_number → needed table ≤ room → (n : ℕ) → n ≡ p.count → Settled lane line table (Ok n) b after
  strike_settles kind fits n c =
      (line_refused lane line table room kind fits (filled b lane) ∙ d.0, same_count, λ k. grind (arith, nat_tests, moved.stands k, d.2.stands k, ap (λ q. q.lane) due_slip, same_count, gives_more e b.number lane (line_weight table line) d.1, ap (λ x. gives (Ok x)) is))
    where
      due_slip : p ≡ new_slip b.number lane (line_weight table line).first.value
      due_slip = slip_due price p b.number lane (line_weight table line) (sym (ap outcome is) ∙ d.1)

      same_count : n ≡ (line_weight table line).first.value
      same_count = c ∙ ap (λ q. q.count) due_slip
