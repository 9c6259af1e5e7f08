-- The grammar of pattern texts: how a pattern is written, and which tree it means. Assumes nothing.
use Rattle.std.specs.Prelude.{◌≡◌, ℕ, ◌≤◌, List, [], ◌∷◌, ◌++◌}
use Rattle.text.specs.declared.reader.Class.TheVariants.{Plain}
use Rattle.text.specs.Classes.{class_of}
use Rattle.table.specs.Tree.{Tree, empty, leaf, either, then, repeat}

-- a pattern is branches parted by |, a branch one or more pieces, a piece an atom and any number of *
mutual
  pub data Atom : Type 0 where
    -- ()
    unit : Atom
    -- a pattern in brackets
    group : Pattern → Atom
    -- .
    any : Atom
    -- [l-h]
    range : ℕ → ℕ → Atom
    -- \ and the byte meant
    quoted : ℕ → Atom
    -- the byte itself
    plain : ℕ → Atom

  pub data Piece : Type 0 where
    once : Atom → Piece
    star : Piece → Piece

  pub data Branch : Type 0 where
    one : Piece → Branch
    more : Branch → Piece → Branch

  pub data Pattern : Type 0 where
    only : Branch → Pattern
    or : Pattern → Branch → Pattern

-- the bytes of a pattern
abbrev mutual
  pub atom_text : Atom → List ℕ
  atom_text unit = 40 ∷ 41 ∷ []
  atom_text (group p) = 40 ∷ (text p ++ (41 ∷ []))
  atom_text any = 46 ∷ []
  atom_text (range l h) = 91 ∷ l ∷ 45 ∷ h ∷ 93 ∷ []
  atom_text (quoted b) = 92 ∷ b ∷ []
  atom_text (plain b) = b ∷ []

  pub piece_text : Piece → List ℕ
  piece_text (once a) = atom_text a
  piece_text (star p) = piece_text p ++ (42 ∷ [])

  pub branch_text : Branch → List ℕ
  branch_text (one p) = piece_text p
  branch_text (more b p) = branch_text b ++ piece_text p

  pub text : Pattern → List ℕ
  text (only b) = branch_text b
  text (or p b) = text p ++ (124 ∷ branch_text b)

-- a plain byte has no other meaning, the bounds of a range are in order, and every byte is a byte
abbrev mutual
  pub AtomLawful : Atom → Type 0
  AtomLawful unit = Unit {0}
  AtomLawful (group p) = Lawful p
  AtomLawful any = Unit {0}
  AtomLawful (range l h) = (l ≤ h) × (h ≤ 255)
  AtomLawful (quoted b) = b ≤ 255
  AtomLawful (plain b) = (class_of b ≡ Plain) × (b ≤ 255)

  pub PieceLawful : Piece → Type 0
  PieceLawful (once a) = AtomLawful a
  PieceLawful (star p) = PieceLawful p

  pub BranchLawful : Branch → Type 0
  BranchLawful (one p) = PieceLawful p
  BranchLawful (more b p) = BranchLawful b × PieceLawful p

  pub Lawful : Pattern → Type 0
  Lawful (only b) = BranchLawful b
  Lawful (or p b) = Lawful p × BranchLawful b

-- a leaf that bytes from l to h pass, at no price
abbrev bytes : ℕ → ℕ → Tree
bytes l h = leaf (record { tag = 0; low = l; high = h }) 0

-- the tree that a pattern means: branches and pieces are grouped from the left
abbrev mutual
  pub atom_tree : Atom → Tree
  atom_tree unit = empty
  atom_tree (group p) = tree p
  atom_tree any = bytes 0 255
  atom_tree (range l h) = bytes l h
  atom_tree (quoted b) = bytes b b
  atom_tree (plain b) = bytes b b

  pub piece_tree : Piece → Tree
  piece_tree (once a) = atom_tree a
  piece_tree (star p) = repeat (piece_tree p)

  pub branch_tree : Branch → Tree
  branch_tree (one p) = piece_tree p
  branch_tree (more b p) = then (branch_tree b) (piece_tree p)

  pub tree : Pattern → Tree
  tree (only b) = branch_tree b
  tree (or p b) = either (tree p) (branch_tree b)
