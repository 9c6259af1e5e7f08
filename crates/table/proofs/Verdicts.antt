-- What each step of the judge says of its answer. Assumes nothing.
use Rattle.std.proofs.Common.{◌≡◌, ℕ, zero, suc, ◌+◌, ◌-◌, ◌<◌, ◌≤◌, Bool, List, length, IfOk, Some, None, Ok, Err, Option, Result, sym, refl, ◌∙◌, add-one, arith}
use Rattle.table.specs.declared.fault.Refusal.{Refusal}
use Rattle.table.specs.declared.node.Leaf.{Leaf}
use Rattle.table.specs.declared.node.Node.{Node}
use Rattle.table.specs.declared.fault.TableFault.{TableFault}
use Rattle.table.specs.Faults.{answered, table_refusal}
use Rattle.table.specs.Rules.{wrong, node_refusal, first_wrong, or_else, count_refusal, last_refusal, verdict, Writes}
use Rattle.table.specs.Tree.{postfix, tree_of}
use Rattle.table.proofs.Judged.{none_writes, writes_none}
use Rattle.table.proofs.Postfix.{postfix_tree_of}

refused_first : (i m : ℕ) (o : Option Refusal) → ◌≡◌ {A = Option Refusal} (elim m [ zero ↦ o | suc n ↦ Some (table_refusal (suc n) i) ]) (or_else (node_refusal i m) o)
refused_first i zero o = refl
refused_first i (suc m) o = refl

-- the first wrong node from place i on is node i, or the first from the next place on
pub first_next : (w : ℕ → ℕ) (n i : ℕ) → i < n → first_wrong w (n - i) i ≡ or_else (node_refusal i (w i)) (first_wrong w (n - (i + 1)) (i + 1))
first_next w n i h =
    let more : n - i ≡ suc (n - (i + 1)) = omega arith in
    rw (more, add-one) (refused_first i (w i) _)

module _ (admitted : Leaf → Bool) (ns : List Node) where
  pub answer_means : (o : Option Refusal) → o ≡ verdict admitted ns → (o ≡ None → Writes admitted ns) × (Writes admitted ns → o ≡ None)
  answer_means o e = (λ h. none_writes admitted ns (sym e ∙ h), λ w. e ∙ writes_none admitted ns w)

  -- the first wrong node is the first from place i on
  abbrev pub Onward : ℕ → Type 0
  Onward i = let w = wrong admitted ns in first_wrong w (length ns - i) i ≡ first_wrong w (length ns) 0

  pub onward_more : (i : ℕ) → i < length ns → Onward i → None ≡ node_refusal i (wrong admitted ns i) → Onward (i + 1)
  onward_more i h on e = sym (rw (← e) at (first_next (wrong admitted ns) (length ns) i h)) ∙ on

  pub onward_refused : (i : ℕ) (r : Refusal) → i < length ns → Onward i → Some r ≡ node_refusal i (wrong admitted ns i) → Some r ≡ first_wrong (wrong admitted ns) (length ns) 0
  onward_refused i r h on e = sym (rw (← e) at (first_next (wrong admitted ns) (length ns) i h)) ∙ on

  -- the judge's three steps, and the verdict that each gives
  pub count_refused : (r : Refusal) → Some r ≡ count_refusal ns → Some r ≡ verdict admitted ns
  count_refused r e = rw (← e)

  pub node_refused : (r : Refusal) → None ≡ count_refusal ns → Some r ≡ first_wrong (wrong admitted ns) (length ns) 0 → Some r ≡ verdict admitted ns
  node_refused r count e = rw (← count, ← e)

  pub last_judged : (o : Option Refusal) → None ≡ count_refusal ns → None ≡ first_wrong (wrong admitted ns) (length ns) 0 → o ≡ last_refusal ns → o ≡ verdict admitted ns
  last_judged o count nodes e = rw (← count, ← nodes) e

  pub answer_whole : (r : Result (Unit {0}) TableFault) → answered r ≡ verdict admitted ns → IfOk r (λ _. (length ns ≤ 512) × (postfix (tree_of ns) ≡ ns))
  answer_whole (Ok u) e = let w = none_writes admitted ns (sym e) in (w.2, postfix_tree_of w.0 ns w.1)
  answer_whole (Err f) e = tt
