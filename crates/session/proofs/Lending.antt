-- A session's step over a lent list: room, the front of the list, and the root's weight. Assumes nothing.
use Rattle.std.proofs.Common.{◌≡◌, ℕ, ◌-◌, ◌*◌, ◌≤◌, Bool, cond, leb, List, [], ◌∷◌, ◌++◌, reverse, length, take, drop, Some, None, Option, nat_eq, false, refl, sym, ap, ◌∙◌, subst, arith, length-take}
use Rattle.std.proofs.lemmas.Bool.Decides.{nat_tests}
use Rattle.scale.specs.Semiring.{Ops, Semiring}
use Rattle.table.specs.declared.node.Leaf.{Leaf}
use Rattle.table.specs.declared.node.Node.{Node}
use Rattle.table.specs.Tree.{Tree, postfix, tree_of}
use Rattle.readings.specs.Weights.{weight}
use Rattle.session.specs.declared.fault.SessionFault.{SessionFault}
use Rattle.session.specs.declared.fault.SessionFault.TheVariants.{ShortList}
use Rattle.session.specs.Sessions.{Front, Next}
use Rattle.session.specs.Shifts.{Fits}
use Rattle.session.specs.Words.{needed, Follows}
use Rattle.session.specs.Marks.{empty_weight, flag_weight, last_weight, to_root}
use Rattle.session.proofs.Rooted.{root_read, marks_rooted}
use Rattle.session.proofs.Wording.{front_new, behind_same, same_tree, nodes_long, nodes_fit, root_after}

-- what is answered of a list by the weights needed: what else may be wrong, or that it is too short
abbrev by_room : ℕ → ℕ → Option SessionFault → Option SessionFault
by_room n room o = cond (leb n room) o (Some (ShortList n))

-- a list that is not refused is long enough
pub room_there : (n room : ℕ) → None ≡ by_room n room None → n ≤ room
room_there n room e = grind (arith, nat_tests)

-- and then what else may be wrong is all
pub room_then : (n m room : ℕ) (o : Option SessionFault) → n ≡ m → None ≡ by_room n room None → None ≡ o → None ≡ by_room m room o
room_then n m room o same e f = grind (arith, nat_tests)

module _ (t : Tree) (ns : List Node) (whole : postfix t ≡ ns) {W : Type 0} (ws : List W) (n : ℕ) (same : n ≡ needed t) (room : n ≤ length ws) where
  pub front_long : length (take n ws) ≡ n
  front_long = length-take n ws ∙ omega arith

  pub lent_fits : Fits (tree_of ns) ns (length (take n ws))
  lent_fits = nodes_fit t ns whole _ (front_long ∙ same ∙ ap (λ k. 3 * k) (sym (nodes_long t ns whole)))

  pub lent_next : {S : Type 0} (o : Ops W) (passing : Leaf → S → Bool) (held : ℕ) (s : S) (ms : List W) (tests : ℕ) → length ms ≡ length (take n ws) → Follows o passing (tree_of ns) (take n ws) held s ms tests → Next o passing t held s ws (ms ++ drop n ws) tests
  lent_next o passing held s ms tests kept follows =
      let long : length ms ≡ n = kept ∙ front_long in
      let after = ms ++ drop n ws in
      let here = subst (λ u. Follows o passing u (take n ws) held s ms tests) (same_tree t ns whole) follows in
      record {
        front = λ w f.
            let next = here w f.0 (ap (λ k. take k ws) same ∙ f.1) in
            (ap (λ k. take k after) (sym same) ∙ front_new ws ms n long ∙ next.0, next.1);
        rest = ap (λ k. drop k after) (sym same) ∙ behind_same ws ms n long ∙ ap (λ k. drop k ws) same;
      }

-- the root's weight, by the number of symbols held
module _ {W S : Type 0} (o : Ops W) (laws : Semiring o) (passing : Leaf → S → Bool) (t : Tree) (ws : List W) (n : ℕ) (same : n ≡ needed t) (e l f : W) (at : drop (length (take n ws) - 3) (take n ws) ≡ e ∷ l ∷ f ∷ []) where
  root_was : (w : List S) (held : ℕ) → Front o passing t held ws w → (e ≡ empty_weight o passing t) × (l ≡ last_weight o passing t (to_root o passing (reverse w))) × (f ≡ flag_weight o passing t (to_root o passing (reverse w)))
  root_was w held front = root_read (marks_rooted o passing t (to_root o passing (reverse w))) (ap (λ q. drop (length q - 3) q) (sym (ap (λ k. take k ws) same ∙ front.1)) ∙ at)

  pub new_weight : (held : ℕ) → held ≡ 0 → (w : List S) → Front o passing t held ws w → e ≡ weight o passing t w
  new_weight held none [] front = (root_was [] held front).0
  new_weight held none (s ∷ w) front = let long = front.0 in absurd (omega arith)

  pub later_weight : (held : ℕ) → (held ≡ 0 → ⊥) → (w : List S) → Front o passing t held ws w → l ≡ weight o passing t w
  later_weight held some [] front = absurd (some (sym front.0))
  later_weight held some (s ∷ w) front = (root_was (s ∷ w) held front).1 ∙ root_after o laws passing t s w (reverse (s ∷ w)) refl

  pub held_weight : (held : ℕ) (w : List S) → Front o passing t held ws w → cond (nat_eq held 0) e l ≡ weight o passing t w
  held_weight held [] front = let none : held ≡ 0 = sym front.0 in rw none (new_weight held none [] front)
  held_weight held (s ∷ w) front =
      let some : nat_eq held 0 ≡ false = let long = front.0 in grind (arith, nat_tests) in
      rw some (later_weight held (λ none. let long = front.0 in absurd (omega arith)) (s ∷ w) front)
