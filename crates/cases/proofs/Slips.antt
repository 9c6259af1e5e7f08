-- What is owed on a sheet after an entry, and by another slip. Assumes nothing.
use Rattle.std.proofs.Common.{◌≡◌, ℕ, Bool, true, false, cond, not, ◌&&◌, eqb, List, Ok, Err, Result, IsOk, IsErr, sym, refl, ap, ◌∙◌}
use Rattle.table.specs.declared.table.Table.{Table}
use Rattle.sheet.specs.declared.entry.Entry.{Entry}
use Rattle.sheet.specs.declared.entry.Entry.TheVariants as entries
use Rattle.sheet.specs.declared.sheet.ClosedSheet.{ClosedSheet}
use Rattle.sheet.specs.declared.sheet.Sheet.{Sheet}
use Rattle.sheet.specs.declared.sheet.StillOpen.{StillOpen}
use Rattle.sheet.specs.declared.slip.Returned.{Returned}
use Rattle.sheet.specs.declared.slip.Slip.{Slip}
use Rattle.sheet.specs.declared.standing.Standing.{Standing}
use Rattle.sheet.specs.declared.standing.Standing.TheVariants.{Unfilled, Clean, Owed, Taken, Struck}
use Rattle.sheet.specs.Account.{gives}
use Rattle.sheet.specs.Calls.{Entered, Moved, Ruled, filled, matches}
use Rattle.sheet.specs.Closes.{Closes, is_owed}
use Rattle.sheet.specs.Entries.{outcome, placed}
use Rattle.sheet.specs.Lanes.{NoneOf}
use Rattle.sheet.specs.Sheets.{standing}
use Rattle.sheet.specs.Standings.{same}
use Rattle.sheet.specs.Weighing.{line_weight}
use Rattle.std.proofs.lemmas.Bool.{and_right, both_ways, eqb-true}
use Rattle.sheet.proofs.Accepts.{accepted}
use Rattle.sheet.proofs.Answered.{placed_owed, gives_more, slip_due}

-- the slip matches, and its lane alone is owed
abbrev pub Owes : Sheet → Slip → Type 0
Owes s p = (matches s p ≡ true) × ((k : ℕ) → is_owed s k ≡ eqb k p.lane)

-- a sheet is not closed while a slip matches it, and the slip is not refused
pub still_open : (s : Sheet) (p : Slip) → matches s p ≡ true → (r : Result ClosedSheet StillOpen) → Closes s r → IsErr r
still_open s p fits (Ok c) closes = absurd (both_ways _ (and_right _ _ (closes.0 p.lane)) fits)
still_open s p fits (Err o) closes = refl

pub struck_by : (s t : Sheet) (p : Slip) → matches s p ≡ true → (r : Result (Unit {0}) Returned) → Ruled Struck p r s t → IsOk r
struck_by s t p fits (Ok u) d = refl
struck_by s t p fits (Err r) d = absurd (both_ways _ d.0 fits)

-- so it is by another slip of that number and lane
pub other_slip : (s : Sheet) (p q : Slip) → q.sheet ≡ p.sheet → q.lane ≡ p.lane → matches s p ≡ true → ((k : ℕ) → is_owed s k ≡ eqb k p.lane) → Owes s q
other_slip s p q n l fits only =
    (ap (λ x. eqb x s.number && same (standing s q.lane) Owed) n ∙ ap (λ x. eqb p.sheet s.number && same (standing s x) Owed) l ∙ fits, λ k. only k ∙ ap (eqb k) (sym l))

-- and on a sheet that is the same
pub same_sheet : (s t : Sheet) (p : Slip) → t ≡ s → matches s p ≡ true → ((k : ℕ) → is_owed s k ≡ eqb k p.lane) → Owes t p
same_sheet s t p e fits only = (ap (λ x. matches x p) e ∙ fits, λ k. ap (λ x. is_owed x k) e ∙ only k)

module _ (lane : ℕ) (line : List ℕ) (table : Table) (room : ℕ) (e : Entry) (b s : Sheet) (d : Entered lane line table room (Ok e) b s) (price : ℕ) (p : Slip) (is : e ≡ entries.Owed price p) where
  -- where no lane was owed, the slip's lane alone is
  pub only_slip : NoneOf (is_owed b) → (k : ℕ) → is_owed s k ≡ eqb k p.lane
  only_slip none k =
      ap (λ st. same st Owed) (d.2.stands k) ∙ by (eqb k lane)
      ∙ ap (eqb k) (sym (ap (λ q. q.lane) (slip_due price p b.number lane (line_weight table line) (sym (ap outcome is) ∙ d.1))))
    where
      by : (x : Bool) → same (cond x (placed (line_weight table line).first.value) (standing b k)) Owed ≡ x
      by true = placed_owed (line_weight table line).first.value ∙ sym (gives_more e b.number lane (line_weight table line) d.1) ∙ ap (λ x. gives (Ok x)) is
      by false = none k

-- an unfilled lane is not owed
unfilled : (st : Standing) → not (same st Unfilled) ≡ false → same st Owed ≡ false
unfilled Unfilled h = refl
unfilled Clean h = refl
unfilled Owed h = h
unfilled Taken h = refl
unfilled Struck h = refl

-- as many lanes are owed under the same number
pub as_owed : (b t : Sheet) (p : Slip) → t.number ≡ b.number → ((k : ℕ) → is_owed t k ≡ is_owed b k) → matches b p ≡ true → ((k : ℕ) → is_owed b k ≡ eqb k p.lane) → Owes t p
as_owed b t p n o fits only = (ap (λ x. eqb p.sheet x && is_owed t p.lane) n ∙ ap (λ x. eqb p.sheet b.number && x) (o p.lane) ∙ fits, λ k. o k ∙ only k)

module _ (lane : ℕ) (line : List ℕ) (table : Table) (room : ℕ) (e : Entry) (b s : Sheet) (d : Entered lane line table room (Ok e) b s) where
  unfilled_there : is_owed b lane ≡ false
  unfilled_there = unfilled (standing b lane) (accepted (filled b lane) lane line table room d.0).empty

  -- a lane that stands neither as owed before nor after is no matter
  beside : (st : Standing) → same st Owed ≡ false → (k : ℕ) → same (cond (eqb k lane) st (standing b k)) Owed ≡ is_owed b k
  beside st h k = by (eqb k lane) refl
    where
      by : (x : Bool) → eqb k lane ≡ x → same (cond x st (standing b k)) Owed ≡ is_owed b k
      by true q = h ∙ sym (ap (is_owed b) (eqb-true k lane q) ∙ unfilled_there)
      by false q = refl

  -- an entry without a slip leaves the same lanes owed
  pub entry_as_owed : gives (Ok e) ≡ false → (k : ℕ) → is_owed s k ≡ is_owed b k
  entry_as_owed g k = ap (λ st. same st Owed) (d.2.stands k) ∙ beside (placed (line_weight table line).first.value) (placed_owed (line_weight table line).first.value ∙ sym (gives_more e b.number lane (line_weight table line) d.1) ∙ g) k

  -- and so do an entry with one and a strike by it
  pub struck_as_owed : (price : ℕ) (p : Slip) → e ≡ entries.Owed price p → (u t : Sheet) → u ≡ s → Moved p.lane Struck u t → (k : ℕ) → is_owed t k ≡ is_owed b k
  struck_as_owed price p is u t kept m k =
      ap (λ st. same st Owed) (m.stands k ∙ ap (λ v. cond (eqb k p.lane) Struck (standing v k)) kept ∙ ap (λ l. cond (eqb k l) Struck (standing s k)) (ap (λ q. q.lane) (slip_due price p b.number lane (line_weight table line) (sym (ap outcome is) ∙ d.1))) ∙ ap (cond (eqb k lane) Struck) (d.2.stands k) ∙ twice (eqb k lane))
      ∙ beside Struck refl k
    where
      twice : (x : Bool) → cond x Struck (cond x (placed (line_weight table line).first.value) (standing b k)) ≡ cond x Struck (standing b k)
      twice true = refl
      twice false = refl
