-- What holds of a sheet after every succession of calls. Assumes nothing.
use Rattle.std.proofs.Common.{◌≡◌, ◌↔◌, ℕ, ◌+◌, true, false, cond, not, ◌&&◌, eqb, List, [], ◌∷◌, Some, None, Ok, Err, sym, refl, ap, ◌∙◌, subst, arith}
use mathlib.Core.Logic.Iff
use Rattle.std.specs.Option.{IsSomeAnd}
use Rattle.std.proofs.lemmas.Bool.{and_parts}
use Rattle.std.proofs.lemmas.Bool.Decides.{nat_tests}
use Rattle.table.specs.declared.table.Table.{Table}
use Rattle.sheet.specs.declared.entry.Entry.{Entry}
use Rattle.sheet.specs.declared.fault.SheetFault.{SheetFault}
use Rattle.sheet.specs.declared.sheet.Sheet.{Sheet}
use Rattle.sheet.specs.declared.slip.Returned.{Returned}
use Rattle.sheet.specs.declared.slip.Slip.{Slip}
use Rattle.sheet.specs.declared.standing.Standing.{Standing}
use Rattle.sheet.specs.declared.standing.Standing.TheVariants.{Unfilled, Owed}
use Rattle.sheet.specs.Account.{SomeReading, line_of, handed, gives, owed_in, AllDue, slip_refusal}
use Rattle.sheet.specs.Calls.{Opened, Moved, Entered, Ruled, filled, matches}
use Rattle.sheet.specs.Entries.{placed}
use Rattle.sheet.specs.Faults.{refusal_of, sheet_refusal}
use Rattle.sheet.specs.History.{Event, enter, rule, Ruling, becomes, Did, Run}
use Rattle.sheet.specs.Lanes.{picked}
use Rattle.sheet.specs.Sheets.{standing}
use Rattle.sheet.specs.Standings.{same}
use Rattle.sheet.specs.Weighing.{line_weight}
use Rattle.sheet.proofs.Accepts.{Accepted, accepted}
use Rattle.sheet.proofs.Answered.{placed_owed, gives_more, becomes_more, becomes_settled, becomes_grade}
use Rattle.sheet.proofs.Counted.{count_in_pair}
use Rattle.sheet.proofs.Grades.{more, Grade, grade_placed, grade_filled, count_at, has_some}
use Rattle.sheet.proofs.Tallies.{picked_same, picked_put}

pub record Kept (number : ℕ) (h : List Event) (s : Sheet) : Type 0 where
  pub numbered : s.number ≡ number
  pub graded : (k : ℕ) → Grade (standing s k) (count_at (line_of h k))
  pub owes : (k : ℕ) → same (standing s k) Owed ≡ owed_in h k
  pub slips : handed h ≡ picked (λ k. more (standing s k)) 16
  pub due_all : AllDue number h

-- standings are told apart by their ranks

unfilled_is : (st : Standing) → not (same st Unfilled) ≡ false → st ≡ Unfilled
unfilled_is st e = grind arith

owed_is : (st : Standing) → same st Owed ≡ true → st ≡ Owed
owed_is st e = grind arith

at_open : {number : ℕ} {s : Sheet} → Opened number s → Kept number [] s
at_open {s} o = record {
  numbered = o.numbered;
  graded = λ k. rw (o.unfilled k) refl;
  owes = λ k. ap (λ st. same st Owed) (o.unfilled k);
  slips = sym (picked_same (λ k. false) (λ k. more (standing s k)) (λ k. ap more (o.unfilled k)) 16);
  due_all = tt;
}

module _ {number : ℕ} {h : List Event} {b : Sheet} (inv : Kept number h b) where
  -- a lane that was filled is known to be so from its line
  told : (lane : ℕ) → ((filled b lane ≡ true) ↔ IsSomeAnd (line_of h lane) SomeReading)
  told lane = Iff.trans (grade_filled (standing b lane) (count_at (line_of h lane)) (inv.graded lane)) (has_some (line_of h lane))

  entry_kept : {s : Sheet} (lane : ℕ) (line : List ℕ) (table : Table) (room : ℕ) (e : Entry) → Entered lane line table room (Ok e) b s → Kept number (enter lane line table room (Ok e) ∷ h) s
  entry_kept {s} lane line table room e d = record {
    numbered = d.2.numbered ∙ inv.numbered;
    graded = λ k. grind (arith, nat_tests, d.2.stands k, inv.graded k, grade_placed (line_weight table line).first.value, count_in_pair table line);
    owes = λ k. grind (arith, nat_tests, d.2.stands k, inv.owes k, unfilled, gm, placed_owed (line_weight table line).first.value);
    slips = omega (arith, inv.slips, tally, ap {B = ℕ} (λ x. cond x 1 0) gm, ap {B = ℕ} (λ st. cond (more st) 1 0) unfilled);
    due_all = ((filled b lane, told lane, sym d.0), inv.due_all);
  }
    where
      gm : gives (Ok e) ≡ more (placed (line_weight table line).first.value)
      gm = gives_more e b.number lane (line_weight table line) d.1

      ok : Accepted (filled b lane) lane line table room
      ok = accepted (filled b lane) lane line table room d.0

      unfilled : standing b lane ≡ Unfilled
      unfilled = unfilled_is (standing b lane) ok.empty

      tally : picked (λ k. more (standing s k)) 16 + cond (more (standing b lane)) 1 0 ≡ picked (λ k. more (standing b k)) 16 + cond (more (placed (line_weight table line).first.value)) 1 0
      tally =
          picked_put (λ k. more (standing b k)) (λ k. more (standing s k)) lane (more (placed (line_weight table line).first.value))
          (λ k. grind (arith, nat_tests, d.2.stands k)) 16 (omega (arith, ok.high))

  refused_kept : {s : Sheet} (lane : ℕ) (line : List ℕ) (table : Table) (room : ℕ) (f : SheetFault) → Entered lane line table room (Err f) b s → Kept number (enter lane line table room (Err f) ∷ h) s
  refused_kept {s} lane line table room f d = subst (λ x. Kept number (enter lane line table room (Err f) ∷ h) x) (sym d.2) (record {
    numbered = inv.numbered;
    graded = inv.graded;
    owes = inv.owes;
    slips = omega (arith, inv.slips);
    due_all = ((filled b lane, told lane, sym d.0), inv.due_all);
  })

  -- whether a slip matches is known from the history
  matched : (p : Slip) → matches b p ≡ (eqb p.sheet number && owed_in h p.lane)
  matched p = λ i. eqb p.sheet (inv.numbered i) && inv.owes p.lane i

  -- a ruling that was given moves the lane on among those with more readings
  module _ {s : Sheet} (r : Ruling) (p : Slip) (m : matches b p ≡ true) (mv : Moved p.lane (becomes r) b s) where
    was_owed : standing b p.lane ≡ Owed
    was_owed = owed_is (standing b p.lane) (and_parts (eqb p.sheet b.number) _ m).1

    ruled_graded : (k : ℕ) → Grade (standing s k) (count_at (line_of h k))
    ruled_graded k = grind (arith, nat_tests, mv.stands k, inv.graded k, was_owed, becomes_grade r)

    ruled_owes : (k : ℕ) → same (standing s k) Owed ≡ cond (eqb k p.lane) false (owed_in h k)
    ruled_owes k = grind (arith, nat_tests, mv.stands k, inv.owes k, becomes_settled r)

    ruled_slips : handed h ≡ picked (λ k. more (standing s k)) 16
    ruled_slips = inv.slips ∙ sym (picked_same (λ k. more (standing b k)) (λ k. more (standing s k)) (λ k. grind (arith, nat_tests, mv.stands k, was_owed, becomes_more r)) 16)

    ruled_due : None ≡ slip_refusal (eqb p.sheet number && owed_in h p.lane) p.lane
    ruled_due = sym (ap (λ x. slip_refusal x p.lane) (sym (matched p) ∙ m))

  -- a slip that went back
  back_due : (p : Slip) (r : Returned) → matches b p ≡ false → refusal_of r.fault ≡ sheet_refusal 22 p.lane → Some (refusal_of r.fault) ≡ slip_refusal (eqb p.sheet number && owed_in h p.lane) p.lane
  back_due p r m f = ap Some f ∙ sym (ap (λ x. slip_refusal x p.lane) (sym (matched p) ∙ m))

  given_kept : {s : Sheet} (r : Ruling) (p : Slip) (u : Unit {0}) → Ruled (becomes r) p (Ok u) b s → Kept number (rule r p (Ok u) ∷ h) s
  given_kept r p u d = record {
    numbered = d.1.numbered ∙ inv.numbered;
    graded = ruled_graded r p d.0 d.1;
    owes = ruled_owes r p d.0 d.1;
    slips = ruled_slips r p d.0 d.1;
    due_all = (ruled_due r p d.0 d.1, inv.due_all);
  }

  back_kept : {s : Sheet} (r : Ruling) (p : Slip) (q : Returned) → Ruled (becomes r) p (Err q) b s → Kept number (rule r p (Err q) ∷ h) s
  back_kept r p q d = subst (λ x. Kept number (rule r p (Err q) ∷ h) x) (sym d.3) (record {
    numbered = inv.numbered;
    graded = inv.graded;
    owes = inv.owes;
    slips = inv.slips;
    due_all = (back_due p q d.0 d.2, inv.due_all);
  })

step_kept : {number : ℕ} {h : List Event} {b s : Sheet} (e : Event) → Kept number h b → Did e b s → Kept number (e ∷ h) s
step_kept (enter lane line table room (Ok e)) inv d = entry_kept inv lane line table room e d
step_kept (enter lane line table room (Err f)) inv d = refused_kept inv lane line table room f d
step_kept (rule r p (Ok u)) inv d = given_kept inv r p u d
step_kept (rule r p (Err q)) inv d = back_kept inv r p q d

pub run_kept : (number : ℕ) (h : List Event) (s : Sheet) → Run number h s → Kept number h s
run_kept number [] s r = at_open r
run_kept number (e ∷ h) s r = step_kept e (run_kept number h r.0 r.1) r.2
