-- What a caller knows of owed lanes after an entry and a ruling. Assumes nothing.
use Rattle.std.proofs.Common.{◌≡◌, ℕ, true, false, eqb, List, Ok, Err, Result, sym, refl, ap, ◌∙◌, arith}
use Rattle.std.proofs.lemmas.Bool.{eq-eqb, cond-true, and_from}
use Rattle.std.proofs.lemmas.Bool.Decides.{nat_tests}
use Rattle.table.specs.declared.table.Table.{Table}
use Rattle.sheet.specs.declared.entry.Entry.{Entry}
use Rattle.sheet.specs.declared.entry.Entry.TheVariants as entries
use Rattle.sheet.specs.declared.fault.SheetFault.{SheetFault}
use Rattle.sheet.specs.declared.sheet.Sheet.{Sheet}
use Rattle.sheet.specs.declared.slip.Slip.{Slip}
use Rattle.sheet.specs.declared.standing.Standing.TheVariants.{Owed}
use Rattle.sheet.specs.Account.{gives}
use Rattle.sheet.specs.Calls.{Entered, Ruled, matches}
use Rattle.sheet.specs.Closes.{is_owed}
use Rattle.sheet.specs.Entries.{outcome}
use Rattle.sheet.specs.History.{Ruling, becomes}
use Rattle.sheet.specs.Lanes.{NoneOf}
use Rattle.sheet.specs.Sheets.{standing}
use Rattle.sheet.specs.Slips.{new_slip}
use Rattle.sheet.specs.Standings.{same}
use Rattle.sheet.specs.Weighing.{line_weight}
use Rattle.sheet.proofs.Answered.{placed_owed, gives_more, slip_due, becomes_settled}

-- an entry without a slip leaves no lane owed that was not
pub entry_owes : (lane : ℕ) (line : List ℕ) (table : Table) (room : ℕ) (a : Result Entry SheetFault) (b s : Sheet) → Entered lane line table room a b s → gives a ≡ false → NoneOf (is_owed b) → NoneOf (is_owed s)
entry_owes lane line table room (Ok e) b s d g none k =
    grind (arith, nat_tests, d.2.stands k, none k, g, gives_more e b.number lane (line_weight table line) d.1, placed_owed (line_weight table line).first.value)
entry_owes lane line table room (Err f) b s d g none k = ap (λ x. is_owed x k) d.2 ∙ none k

module _ (lane : ℕ) (line : List ℕ) (table : Table) (room : ℕ) (e : Entry) (b s : Sheet) (d : Entered lane line table room (Ok e) b s) (price : ℕ) (p : Slip) (is : e ≡ entries.Owed price p) where
  slip_is : p ≡ new_slip b.number lane (line_weight table line).first.value
  slip_is = slip_due price p b.number lane (line_weight table line) (sym (ap outcome is) ∙ d.1)

  owed_now : same (standing s p.lane) Owed ≡ true
  owed_now =
      ap (λ st. same st Owed) (ap (standing s) (ap (λ q. q.lane) slip_is) ∙ d.2.stands lane ∙ cond-true (eqb lane lane) _ _ (eq-eqb lane lane refl))
      ∙ placed_owed (line_weight table line).first.value
      ∙ sym (gives_more e b.number lane (line_weight table line) d.1) ∙ ap (λ x. gives (Ok x)) is

  -- a slip that was just handed out matches
  pub slip_matches : matches s p ≡ true
  slip_matches = and_from _ _ (eq-eqb p.sheet s.number (ap (λ q. q.sheet) slip_is ∙ sym d.2.numbered)) owed_now

  -- and once it is used, no lane is owed that was not before
  pub ruling_owes : (r : Ruling) (u : Unit {0}) (after : Sheet) → Ruled (becomes r) p (Ok u) s after → NoneOf (is_owed b) → NoneOf (is_owed after)
  ruling_owes r u after m none k = grind (arith, nat_tests, m.1.stands k, d.2.stands k, ap (λ q. q.lane) slip_is, none k, becomes_settled r)
