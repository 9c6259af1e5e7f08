-- What the mark functions promise each other. Assumes nothing.
use Rattle.std.specs.Prelude.{◌≡◌, ℕ, ◌*◌, ◌≤◌, Bool, List, ◌∷◌, length}
use Rattle.scale.specs.Semiring.{Ops}
use Rattle.table.specs.declared.node.Leaf.{Leaf}
use Rattle.table.specs.declared.node.Node.{Node}
use Rattle.table.specs.Tree.{Tree, empty, leaf, either, then, repeat, postfix, tree_of}
use Rattle.session.specs.Marks.{Taken, taken, marks, live}

-- a tree's operands, or the tree itself where it has none
abbrev pub left_of : Tree → Tree
left_of empty = empty
left_of (leaf l p) = leaf l p
left_of (either a b) = a
left_of (then a b) = a
left_of (repeat a) = a

abbrev pub right_of : Tree → Tree
right_of empty = empty
right_of (leaf l p) = leaf l p
right_of (either a b) = b
right_of (then a b) = b
right_of (repeat a) = a

-- a tree with two operands
abbrev pub Binary : Tree → Type 0
Binary empty = ⊥
Binary (leaf l p) = ⊥
Binary (either a b) = Unit {0}
Binary (then a b) = Unit {0}
Binary (repeat a) = ⊥

-- the nodes write out the tree
pub record Writes (t : Tree) (ns : List Node) : Type 0 where
  pub some : 1 ≤ length ns
  pub tree : tree_of ns ≡ t
  pub whole : postfix (tree_of ns) ≡ ns

-- the nodes write out the tree, and there are three weights for each
pub record Fits (t : Tree) (ns : List Node) (weights : ℕ) : Type 0 where
  pub some : 1 ≤ length ns
  pub whole : postfix t ≡ ns
  pub long : weights ≡ 3 * length ns

-- where the marks held what the readings say, they do so after one symbol more, and the live leaves were tested
abbrev pub Shifted : {W S : Type 0} → Ops W → (Leaf → S → Bool) → Tree → List W → W → S → List W → ℕ → Type 0
Shifted {W} {S} o passing t ms i s ms₁ n =
    (h : List (Taken W S)) → ms ≡ marks o passing t h → (ms₁ ≡ marks o passing t (taken i s ∷ h)) × (n ≡ live o passing t i h)
