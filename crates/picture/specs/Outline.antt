-- A tree as an outline. Assumes nothing.
use Rattle.std.specs.Prelude.{◌≡◌, ℕ, ◌+◌, ◌*◌, cond, List, [], ◌∷◌, ◌++◌, length, replicate, codes, decimal, ◌==◌}
use Rattle.picture.specs.Words.{leaf_words, kind_words}
use Rattle.table.specs.Tree.{Tree, empty, leaf, either, then, repeat, postfix, tree_of}
use Rattle.table.specs.declared.node.Node.{Node}

-- how many nodes there are, in a line of its own
abbrev pub counted : ℕ → List ℕ
counted n = decimal n ++ (codes " " ++ (cond (n == 1) (codes "node") (codes "nodes") ++ 10 ∷ []))

-- two blanks a level, the words, and the byte that ends the line
abbrev pub line_of : ℕ → List ℕ → List ℕ
line_of d words = replicate (2 * d) 32 ++ (words ++ 10 ∷ [])

-- a line for each node: the root's, then those of the left operand and of the right one, a level deeper
abbrev pub outlined : ℕ → Tree → List ℕ
outlined d empty = line_of d (kind_words 0 0 0)
outlined d (leaf l p) = line_of d (leaf_words l.low l.high)
outlined d (either a b) = line_of d (kind_words 2 0 0) ++ (outlined (d + 1) a ++ outlined (d + 1) b)
outlined d (then a b) = line_of d (kind_words 3 0 0) ++ (outlined (d + 1) a ++ outlined (d + 1) b)
outlined d (repeat a) = line_of d (kind_words 4 0 0) ++ outlined (d + 1) a

-- the outline of the tree that a list of nodes writes out, and nothing for no node
abbrev pub outline_of : ℕ → List Node → List ℕ
outline_of d [] = []
outline_of d (n ∷ ns) = outlined d (tree_of (n ∷ ns))

-- left and right are parts of a list of nodes, and where the list ends with a tree's nodes, these are the right part
pub record Parted (nodes left right : List Node) : Type 0 where
  pub whole : nodes ≡ left ++ right
  pub long : length left + length right ≡ length nodes
  pub cuts : (t : Tree) (front : List Node) → nodes ≡ front ++ postfix t → (left ≡ front) × (right ≡ postfix t)
