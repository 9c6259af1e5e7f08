-- The marks before the first symbol, put together from those of the operands. Assumes nothing.
use Rattle.std.proofs.Common.{◌≡◌, ◌+◌, ◌-◌, ◌*◌, Bool, false, cond, not, ◌||◌, List, [], ◌∷◌, ◌++◌, length, drop, set, sym, refl, ap, ◌∙◌, append_assoc, arith, length-append}
use Rattle.scale.specs.Semiring.{Ops, Tells}
use Rattle.table.specs.declared.node.Leaf.{Leaf}
use Rattle.table.specs.Tree.{Tree, empty, leaf, either, then, repeat, size}
use Rattle.session.specs.Marks.{empty_weight, marked, three}
use Rattle.session.specs.Starts.{first_marks, below_root}
use Rattle.session.proofs.Parts.{three_of}
use Rattle.session.proofs.Rooted.{rooted_long, root_read, marks_rooted}

module _ {W S : Type 0} (o : Ops W) (tells : Tells o) (passing : Leaf → S → Bool) where
  unmarked : (t : Tree) → marked o passing t [] ≡ false
  unmarked empty = refl
  unmarked (leaf l p) = ap not tells.at_nothing
  unmarked (either a b) = (λ k. unmarked a k || unmarked b k)
  unmarked (then a b) = (λ k. unmarked a k || unmarked b k)
  unmarked (repeat a) = unmarked a

  three_first : (t : Tree) → three o passing t [] ≡ empty_weight o passing t ∷ o.nothing ∷ o.nothing ∷ []
  three_first t = ap (λ b. empty_weight o passing t ∷ o.nothing ∷ cond b o.one o.nothing ∷ []) (unmarked t)

  first_split : (t : Tree) → first_marks o passing t ≡ below_root o passing t ++ (empty_weight o passing t ∷ o.nothing ∷ o.nothing ∷ [])
  first_split empty = three_first empty
  first_split (leaf l p) = three_first (leaf l p)
  first_split (either a b) =
      sym (append_assoc (first_marks o passing a) (first_marks o passing b) (three o passing (either a b) [])) ∙ ap (λ l. (first_marks o passing a ++ first_marks o passing b) ++ l) (three_first (either a b))
  first_split (then a b) =
      sym (append_assoc (first_marks o passing a) (first_marks o passing b) (three o passing (then a b) [])) ∙ ap (λ l. (first_marks o passing a ++ first_marks o passing b) ++ l) (three_first (then a b))
  first_split (repeat a) = ap (λ l. first_marks o passing a ++ l) (three_first (repeat a))

  below_long : (t : Tree) → length (below_root o passing t) + 3 ≡ 3 * size t
  below_long t = sym (length-append (below_root o passing t) (empty_weight o passing t ∷ o.nothing ∷ o.nothing ∷ [])) ∙ ap length (sym (first_split t)) ∙ rooted_long (marks_rooted o passing t [])

  -- the root's three weights, once its operands are marked
  pub root_started : (t : Tree) (below top : List W) → length top ≡ 3 → (u v w : W) → below ≡ below_root o passing t → u ≡ empty_weight o passing t → v ≡ o.nothing → w ≡ o.nothing → below ++ set (set (set top 0 u) 1 v) 2 w ≡ first_marks o passing t
  root_started t below top long u v w bx ux vx wx =
      let past = three_of top long in
      (λ k. bx k ++ set (set (set (past.3 k) 0 (ux k)) 1 (vx k)) 2 (wx k)) ∙ sym (first_split t)

  -- a root without operands
  pub none_below : (t : Tree) (below : List W) → below_root o passing t ≡ [] → length below + 3 ≡ 3 * size t → below ≡ below_root o passing t
  none_below t [] e long = sym e
  none_below t (x ∷ below) e long = absurd (omega (arith, below_long t, ap length e))

  -- an operand's weight over the empty word
  pub empty_read : (t : Tree) (ms : List W) (e l f : W) → ms ≡ first_marks o passing t → drop (length ms - 3) ms ≡ e ∷ l ∷ f ∷ [] → e ≡ empty_weight o passing t
  empty_read t ms e l f is at = (root_read (marks_rooted o passing t []) (ap (λ q. drop (length q - 3) q) (sym is) ∙ at)).0
