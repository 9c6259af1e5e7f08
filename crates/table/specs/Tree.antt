-- A pattern as a tree, and how the tree is written out as a list of nodes in postfix order. Assumes nothing.
use Rattle.std.specs.Prelude.{ℕ, zero, suc, ◌+◌, List, [], ◌∷◌, ◌++◌}
use Rattle.table.specs.declared.node.Leaf.{Leaf}
use Rattle.table.specs.declared.node.Node.{Node}

-- a leaf has its price beside it
pub data Tree : Type 0 where
  empty : Tree
  leaf : Leaf → ℕ → Tree
  either : Tree → Tree → Tree
  then : Tree → Tree → Tree
  repeat : Tree → Tree

-- how many nodes the tree has
abbrev pub size : Tree → ℕ
size empty = 1
size (leaf l p) = 1
size (either a b) = size a + size b + 1
size (then a b) = size a + size b + 1
size (repeat a) = size a + 1

-- a node that is no leaf
abbrev pub inner : ℕ → ℕ → Node
inner k n = record { kind = k; tag = 0; size = n; low = 0; high = 0; price = 0 }

abbrev pub leaf_node : Leaf → ℕ → Node
leaf_node l p = record { kind = 1; tag = l.tag; size = 1; low = l.low; high = l.high; price = p }

abbrev pub leaf_of : Node → Leaf
leaf_of n = record { tag = n.tag; low = n.low; high = n.high }

-- operands first, the left before the right
abbrev pub postfix : Tree → List Node
postfix empty = inner 0 1 ∷ []
postfix (leaf l p) = leaf_node l p ∷ []
postfix (either a b) = postfix a ++ (postfix b ++ (inner 2 (size (either a b)) ∷ []))
postfix (then a b) = postfix a ++ (postfix b ++ (inner 3 (size (then a b)) ∷ []))
postfix (repeat a) = postfix a ++ (inner 4 (size (repeat a)) ∷ [])

-- the two latest trees become one
abbrev joined : (Tree → Tree → Tree) → List Tree → List Tree
joined f [] = []
joined f (b ∷ []) = b ∷ []
joined f (b ∷ a ∷ ts) = f a b ∷ ts

abbrev repeated : List Tree → List Tree
repeated [] = []
repeated (a ∷ ts) = repeat a ∷ ts

-- one node more, by its kind, after the trees read so far, the latest first
abbrev pub grown : ℕ → Node → List Tree → List Tree
grown zero n ts = empty ∷ ts
grown (suc zero) n ts = leaf (leaf_of n) n.price ∷ ts
grown (suc (suc zero)) n ts = joined either ts
grown (suc (suc (suc zero))) n ts = joined then ts
grown (suc (suc (suc (suc zero)))) n ts = repeated ts
grown (suc (suc (suc (suc (suc k))))) n ts = ts

abbrev pub trees : List Tree → List Node → List Tree
trees ts [] = ts
trees ts (n ∷ ns) = trees (grown n.kind n ts) ns

abbrev latest : List Tree → Tree
latest [] = empty
latest (t ∷ ts) = t

-- the tree that a checked list of nodes writes out
abbrev pub tree_of : List Node → Tree
tree_of ns = latest (trees [] ns)
