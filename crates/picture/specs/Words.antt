-- Bytes and nodes in a person's words. Assumes nothing.
use Rattle.std.specs.Prelude.{ℕ, Bool, cond, ◌&&◌, List, [], ◌∷◌, ◌++◌, codes, decimal, ◌==◌, nat_le}
use Rattle.table.specs.declared.node.Node.{Node}

-- printable ASCII
abbrev pub printable : ℕ → Bool
printable b = nat_le 32 b && nat_le b 126

-- a byte of a text: itself, or a question mark
abbrev pub shown_byte : ℕ → ℕ
shown_byte b = cond (printable b) b 63

-- a byte that a leaf names: in quotes, or its number
abbrev pub symbol : ℕ → List ℕ
symbol b = cond (printable b) (39 ∷ b ∷ 39 ∷ []) (decimal b)

abbrev pub span : ℕ → ℕ → List ℕ
span l h = codes "a byte from " ++ (symbol l ++ (codes " to " ++ symbol h))

-- the bytes from l to h
abbrev pub leaf_words : ℕ → ℕ → List ℕ
leaf_words l h = cond (l == 0 && h == 255) (codes "any byte") (cond (l == h) (cond (printable l) (codes "the byte " ++ symbol l) (codes "byte " ++ symbol l)) (span l h))

abbrev pub kind_words : ℕ → ℕ → ℕ → List ℕ
kind_words k l h = cond (k == 0) (codes "nothing") (cond (k == 1) (leaf_words l h) (cond (k == 2) (codes "one of these two") (cond (k == 3) (codes "these two in turn") (cond (k == 4) (codes "any number of") (codes "an unknown node")))))

-- what a node asks of a line, without its operands
abbrev pub node_words : Node → List ℕ
node_words n = kind_words n.kind n.low n.high
