-- What a list of nodes says of its tree: the root's kind, and where the operands' nodes stand. Assumes nothing.
use Rattle.std.proofs.Common.{◌≡◌, ℕ, zero, suc, ◌+◌, ◌-◌, ◌*◌, ◌≤◌, Ok, Err, Result, IsOk, List, [], ◌∷◌, ◌++◌, length, take, drop, sym, refl, ap, ◌∙◌, append_assoc, append-nil, arith, length-append}
use Rattle.table.specs.declared.node.Node.{Node}
use Rattle.table.specs.declared.node.NodeKind.{NodeKind}
use Rattle.table.specs.declared.node.NodeKind.TheVariants.{Empty, Leaf, Either, Then, Repeat}
use Rattle.table.specs.declared.node.UnknownKind.{UnknownKind}
use Rattle.table.specs.NodeKinds.{number_of, Decodes}
use Rattle.table.specs.Rules.{node_at}
use Rattle.table.specs.Tree.{Tree, empty, leaf, either, then, repeat, size, leaf_of, postfix, tree_of}
use Rattle.table.proofs.Postfix.{tree_alone, postfix_tree_of, size_pos, length_postfix, root, root_at, root_size}
use Rattle.std.proofs.lemmas.List.{take_at, drop_at}
use Rattle.session.specs.Shifts.{left_of, right_of, Binary, Fits, Writes}

-- the root stands last
pub root_last : (t : Tree) (ns : List Node) → postfix t ≡ ns → node_at ns (length ns - 1) ≡ root t
root_last t ns e =
    (λ i. node_at (sym e i) (length (sym e i) - 1)) ∙ ap (λ l. node_at l (length (postfix t) - 1)) (sym (append-nil (postfix t)))
    ∙ root_at t [] [] (length (postfix t) - 1) (omega (arith, length_postfix t, size_pos t))

module _ (t : Tree) (ns : List Node) (e : postfix t ≡ ns) where
  pub kind_is : (k : ℕ) → (node_at ns (length ns - 1)).kind ≡ k → (root t).kind ≡ k
  kind_is k h = ap (λ n. n.kind) (sym (root_last t ns e)) ∙ h

-- a kind by its number
abbrev named : ℕ → NodeKind
named zero = Empty
named (suc zero) = Leaf
named (suc (suc zero)) = Either
named (suc (suc (suc zero))) = Then
named (suc (suc (suc (suc k)))) = Repeat

named_number : (k : NodeKind) → named (number_of k) ≡ k
named_number Empty = refl
named_number Leaf = refl
named_number Either = refl
named_number Then = refl
named_number Repeat = refl

-- the last node's kind is the root's
pub root_is : (t : Tree) (ns : List Node) → postfix t ≡ ns → (k j : NodeKind) → (node_at ns (length ns - 1)).kind ≡ number_of k → (root t).kind ≡ number_of j → k ≡ j
root_is t ns e k j h r =
    let same : number_of k ≡ number_of j = sym h ∙ ap (λ n. n.kind) (root_last t ns e) ∙ r in
    sym (named_number k) ∙ ap named same ∙ named_number j

-- a root of kind 1 is a leaf's
pub leaf_root : (t : Tree) → (root t).kind ≡ 1 → t ≡ leaf (leaf_of (root t)) (root t).price
leaf_root empty h = absurd (omega arith)
leaf_root (leaf l p) h = refl
leaf_root (either a b) h = absurd (omega arith)
leaf_root (then a b) h = absurd (omega arith)
leaf_root (repeat a) h = absurd (omega arith)

pub either_root : (t : Tree) → (root t).kind ≡ 2 → t ≡ either (left_of t) (right_of t)
either_root empty h = absurd (omega arith)
either_root (leaf l p) h = absurd (omega arith)
either_root (either a b) h = refl
either_root (then a b) h = absurd (omega arith)
either_root (repeat a) h = absurd (omega arith)

pub then_root : (t : Tree) → (root t).kind ≡ 3 → t ≡ then (left_of t) (right_of t)
then_root empty h = absurd (omega arith)
then_root (leaf l p) h = absurd (omega arith)
then_root (either a b) h = absurd (omega arith)
then_root (then a b) h = refl
then_root (repeat a) h = absurd (omega arith)

pub repeat_root : (t : Tree) → (root t).kind ≡ 4 → t ≡ repeat (left_of t)
repeat_root empty h = absurd (omega arith)
repeat_root (leaf l p) h = absurd (omega arith)
repeat_root (either a b) h = absurd (omega arith)
repeat_root (then a b) h = absurd (omega arith)
repeat_root (repeat a) h = refl

pub empty_root : (t : Tree) → (root t).kind ≡ 0 → t ≡ empty
empty_root empty h = refl
empty_root (leaf l p) h = absurd (omega arith)
empty_root (either a b) h = absurd (omega arith)
empty_root (then a b) h = absurd (omega arith)
empty_root (repeat a) h = absurd (omega arith)

-- a root is of a known kind
root_known : (t : Tree) → (root t).kind ≤ 4
root_known empty = omega arith
root_known (leaf l p) = omega arith
root_known (either a b) = omega arith
root_known (then a b) = omega arith
root_known (repeat a) = omega arith

pub root_decoded : (t : Tree) (ns : List Node) → postfix t ≡ ns → (r : Result NodeKind UnknownKind) → Decodes (node_at ns (length ns - 1)).kind r → IsOk r
root_decoded t ns e (Ok k) d = refl
root_decoded t ns e (Err u) d = absurd (omega (arith, d.1, ap (λ n. n.kind) (root_last t ns e), root_known t))

-- a lone root that is no leaf's
pub empty_single : (t : Tree) → size t ≡ 1 → ((root t).kind ≡ 1 → ⊥) → t ≡ empty
empty_single empty e h = refl
empty_single (leaf l p) e h = absurd (h refl)
empty_single (either x y) e h = absurd (omega (arith, size_pos x, size_pos y))
empty_single (then x y) e h = absurd (omega (arith, size_pos x, size_pos y))
empty_single (repeat x) e h = absurd (omega (arith, size_pos x))

-- a list of one node is that root
module _ (t : Tree) (ns : List Node) (e : postfix t ≡ ns) (one : length ns ≡ 1) where
  pub lone_size : size t ≡ 1
  lone_size = sym (length_postfix t) ∙ ap length e ∙ one

  pub lone_root : root t ≡ node_at ns 0
  lone_root = sym (root_last t ns e) ∙ ap (λ n. node_at ns (n - 1)) one

-- a root with nodes before it
pub has_operands : (t : Tree) → 2 ≤ size t → ((root t).kind ≡ 2 → ⊥) → ((root t).kind ≡ 3 → ⊥) → ((root t).kind ≡ 4 → ⊥) → ⊥
has_operands empty e b c d = absurd (omega arith)
has_operands (leaf l p) e b c d = absurd (omega arith)
has_operands (either x y) e b c d = b refl
has_operands (then x y) e b c d = c refl
has_operands (repeat x) e b c d = d refl

-- a tree written out, and three weights for each of its nodes
pub writes : (t : Tree) (ns : List Node) → postfix t ≡ ns → Writes t ns
writes t ns whole = record {
  some = omega (arith, ap length whole, length_postfix t, size_pos t);
  tree = sym (tree_alone t ns whole);
  whole = postfix_tree_of t ns whole;
}

module _ {t : Tree} {ns : List Node} (w : Writes t ns) where
  pub writes_size : size t ≡ length ns
  writes_size = ap size (sym w.tree) ∙ sym (length_postfix (tree_of ns)) ∙ ap length w.whole

  pub writes_fit : (m : ℕ) → m ≡ 3 * length ns → Fits (tree_of ns) ns m
  writes_fit m long = record { some = w.some; whole = w.whole; long = long }

-- the nodes of both operands, and the root
pub binary_nodes : (t : Tree) → Binary t → (r : Node) × (postfix t ≡ postfix (left_of t) ++ (postfix (right_of t) ++ (r ∷ [])))
binary_nodes empty b = absurd b
binary_nodes (leaf l p) b = absurd b
binary_nodes (either x y) b = (_, refl)
binary_nodes (then x y) b = (_, refl)
binary_nodes (repeat x) b = absurd b

-- where the operands' nodes stand; the right one's root stands just before the root
module _ (x y : Tree) (r : Node) (ns : List Node) (e : ns ≡ postfix x ++ (postfix y ++ (r ∷ []))) where
  pub all_long : length ns ≡ size x + size y + 1
  all_long = ap length e ∙ length-append (postfix x) (postfix y ++ (r ∷ [])) ∙ omega (arith, length-append (postfix y) (r ∷ []), length_postfix x, length_postfix y)

  pub right_root : (node_at ns (length ns - 1 - 1)).size ≡ size y
  right_root =
      ap (λ l. (node_at l (length ns - 1 - 1)).size) e
      ∙ ap (λ n. n.size) (root_at y (postfix x) (r ∷ []) (length ns - 1 - 1) (omega (arith, all_long, length_postfix x, size_pos y, size_pos x))) ∙ root_size y

  before_root : take (length ns - 1) ns ≡ postfix x ++ postfix y
  before_root =
      let top : length ns - 1 ≡ length (postfix x ++ postfix y) = omega (arith, all_long, length-append (postfix x) (postfix y), length_postfix x, length_postfix y) in
      (λ i. take (top i) ((e ∙ sym (append_assoc (postfix x) (postfix y) (r ∷ []))) i)) ∙ take_at (postfix x ++ postfix y) (r ∷ []) (length (postfix x ++ postfix y)) refl

  module _ (m : ℕ) (is : m ≡ size y) where
    left_long : length (postfix x) ≡ length ns - 1 - m
    left_long = omega (arith, all_long, length_postfix x)

    pub left_nodes : take (length ns - 1 - m) (take (length ns - 1) ns) ≡ postfix x
    left_nodes = ap (take (length ns - 1 - m)) before_root ∙ take_at (postfix x) (postfix y) (length ns - 1 - m) left_long

    pub right_nodes : drop (length ns - 1 - m) (take (length ns - 1) ns) ≡ postfix y
    right_nodes = ap (drop (length ns - 1 - m)) before_root ∙ drop_at (postfix x) (postfix y) (length ns - 1 - m) left_long

-- the same of a repeat
module _ (x : Tree) (ns : List Node) (e : postfix (repeat x) ≡ ns) where
  pub only_long : length ns ≡ size x + 1
  only_long = ap length (sym e) ∙ length_postfix (repeat x)

  pub only_nodes : take (length ns - 1) ns ≡ postfix x
  only_nodes =
      let top : length ns - 1 ≡ length (postfix x) = omega (arith, only_long, length_postfix x) in
      (λ i. take (top i) (sym e i)) ∙ take_at (postfix x) _ (length (postfix x)) refl
