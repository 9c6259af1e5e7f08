-- The marks of a word, symbol by symbol, and the root's weight after it. Assumes nothing.
use Rattle.std.proofs.Common.{◌≡◌, ℕ, ◌-◌, ◌*◌, Bool, cond, eqb, List, [], ◌∷◌, ◌++◌, reverse, length, get_or, take, drop, sym, refl, ap, ◌∙◌, arith}
use mathlib.Core.List.{reverse-append, reverse-reverse}
use lib.Dec.{eqb-suc-zero}
use lib.ListN.{length-reverse}
use Rattle.std.proofs.lemmas.List.{take_at, drop_at, get_or-take}
use Rattle.scale.specs.Semiring.{Ops, Semiring}
use Rattle.table.specs.declared.node.Leaf.{Leaf}
use Rattle.table.specs.declared.node.Node.{Node}
use Rattle.table.specs.Tree.{Tree, size, postfix, tree_of}
use Rattle.table.proofs.Postfix.{size_pos, length_postfix, tree_of_postfix}
use Rattle.readings.specs.Weights.{weight}
use Rattle.session.specs.Marks.{taken, last_weight, live, marks, root_incoming, to_root}
use Rattle.session.specs.Shifts.{Fits, Shifted}
use Rattle.session.specs.Words.{needed, root_place, marks_after, Follows, Marked}
use Rattle.session.proofs.Endings.{root_weight}
use Rattle.session.proofs.Rooted.{rooted_long, rooted_empty, rooted_last, marks_rooted}

-- the front of a list, written anew
module _ {A : Type 0} (all new : List A) (n : ℕ) (long : length new ≡ n) where
  pub front_new : take n (new ++ drop n all) ≡ new
  front_new = take_at new (drop n all) n long

  pub behind_same : drop n (new ++ drop n all) ≡ drop n all
  behind_same = drop_at new (drop n all) n long

-- a tree's nodes, as the mark functions ask for them
module _ (t : Tree) (ns : List Node) (whole : postfix t ≡ ns) where
  pub same_tree : tree_of ns ≡ t
  same_tree = ap tree_of (sym whole) ∙ tree_of_postfix t

  pub nodes_long : length ns ≡ size t
  nodes_long = ap length (sym whole) ∙ length_postfix t

  pub nodes_fit : (m : ℕ) → m ≡ 3 * length ns → Fits (tree_of ns) ns m
  nodes_fit m long = record { some = omega (arith, nodes_long, size_pos t); whole = ap postfix same_tree ∙ whole; long = long }

module _ {W S : Type 0} (o : Ops W) (laws : Semiring o) (passing : Leaf → S → Bool) where
  -- what comes in at the root, by the number of symbols held
  comes : (w : List S) (held : ℕ) (i : W) → length w ≡ held → i ≡ cond (eqb held 0) o.one o.nothing → i ≡ root_incoming o passing (reverse w)
  comes w held i e is = is ∙ ap (λ k. cond (eqb k 0) o.one o.nothing) (sym e ∙ sym (length-reverse w)) ∙ go (reverse w)
    where
      go : (back : List S) → cond (eqb (length back) 0) o.one o.nothing ≡ root_incoming o passing back
      go [] = refl
      go (s ∷ back) = ap (λ b. cond b o.one o.nothing) (eqb-suc-zero (length back))

  -- what comes in at the root with one symbol more
  to_root_more : (s : S) (back : List S) → taken (root_incoming o passing back) s ∷ to_root o passing back ≡ to_root o passing (s ∷ back)
  to_root_more s [] = refl
  to_root_more s (r ∷ rs) = refl

  -- one symbol more
  pub follows : (t : Tree) (ms : List W) (held : ℕ) (s : S) (ms₁ : List W) (i : W) (n : ℕ) → i ≡ cond (eqb held 0) o.one o.nothing → Shifted o passing t ms i s ms₁ n → Follows o passing t ms held s ms₁ n
  follows t ms held s ms₁ i n is shifted w long are =
      let next = shifted (to_root o passing (reverse w)) are in
      let root = comes w held i long is in (
        next.0 ∙ ap (λ x. marks o passing t (taken x s ∷ to_root o passing (reverse w))) root ∙ ap (marks o passing t) (to_root_more s (reverse w)) ∙ ap (λ l. marks o passing t (to_root o passing l)) (sym (reverse-append w (s ∷ []))),
        next.1 ∙ ap (λ x. live o passing t x (to_root o passing (reverse w))) root,
      )

  pub root_after : (t : Tree) (s : S) (w back : List S) → reverse (s ∷ w) ≡ back → last_weight o passing t (to_root o passing back) ≡ weight o passing t (s ∷ w)
  root_after t s w [] e = absurd (omega (arith, sym (length-reverse (s ∷ w)) ∙ ap length e))
  root_after t s w (x ∷ back) e = root_weight o laws passing t x back ∙ ap (weight o passing t) (ap reverse (sym e) ∙ reverse-reverse (s ∷ w))

  -- the root's weight is the pattern's
  pub root_holds : (t : Tree) (w : List S) (after : List W) → take (needed t) after ≡ marks_after o passing t w → (d : W) → get_or after (root_place t w) d ≡ weight o passing t w
  root_holds t [] after e d =
      sym (get_or-take (needed t) after (needed t - 3) d (omega (arith, size_pos t))) ∙ ap (λ l. get_or l (needed t - 3) d) e ∙ rooted_empty (marks_rooted o passing t []) d
  root_holds t (s ∷ w) after e d =
      sym (get_or-take (needed t) after (needed t - 2) d (omega (arith, size_pos t))) ∙ ap (λ l. get_or l (needed t - 2) d) e
      ∙ rooted_last (marks_rooted o passing t (to_root o passing (reverse (s ∷ w)))) d ∙ root_after t s w (reverse (s ∷ w)) refl

  -- the front of a list holds a word's marks
  pub word_marked : (t : Tree) (w : List S) (ms before : List W) (n : ℕ) → n ≡ needed t → ms ≡ marks_after o passing t w → Marked o passing t w before (ms ++ drop n before)
  word_marked t w ms before n same are =
      let long : length ms ≡ n = ap length are ∙ rooted_long (marks_rooted o passing t (to_root o passing (reverse w))) ∙ sym same in
      let front = ap (λ k. take k (ms ++ drop n before)) (sym same) ∙ front_new before ms n long ∙ are in
      record {
        everywhere = front;
        root = root_holds t w (ms ++ drop n before) front;
        rest = ap (λ k. drop k (ms ++ drop n before)) (sym same) ∙ behind_same before ms n long ∙ ap (λ k. drop k before) same;
      }
