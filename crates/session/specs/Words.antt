-- What the marks of a whole word leave in a list of weights. Assumes nothing.
use Rattle.std.specs.Prelude.{◌≡◌, ℕ, ◌-◌, ◌*◌, Bool, List, [], ◌∷◌, ◌++◌, reverse, length, take, drop, slice_index_or}
use Rattle.scale.specs.Semiring.{Ops}
use Rattle.table.specs.declared.node.Leaf.{Leaf}
use Rattle.table.specs.Tree.{Tree, size}
use Rattle.readings.specs.Weights.{weight}
use Rattle.session.specs.Marks.{live, marks, root_incoming, to_root}

-- how many weights a tree's marks take
abbrev pub needed : Tree → ℕ
needed t = 3 * size t

-- where the root's weight stands: its empty weight before the first symbol, its last weight after
abbrev pub root_place : {S : Type 0} → Tree → List S → ℕ
root_place t [] = needed t - 3
root_place t (s ∷ w) = needed t - 2

module _ {W S : Type 0} (o : Ops W) (passing : Leaf → S → Bool) where
  -- the marks after a word's symbols
  abbrev pub marks_after : Tree → List S → List W
  marks_after t w = marks o passing t (to_root o passing (reverse w))

  -- how many leaves are live for the symbol after a word
  abbrev pub live_after : Tree → List S → ℕ
  live_after t w = live o passing t (root_incoming o passing (reverse w)) (to_root o passing (reverse w))

  -- where the marks were those of some word with as many symbols as are held, they are those of one symbol more, and
  -- the live leaves were tested
  abbrev pub Follows : Tree → List W → ℕ → S → List W → ℕ → Type 0
  Follows t before held s after tests =
      (w : List S) → length w ≡ held → before ≡ marks_after t w → (after ≡ marks_after t (w ++ s ∷ [])) × (tests ≡ live_after t w)

  -- every node holds what the readings say, the root's weight is the pattern's, and the rest of the list is as before
  pub record Marked (t : Tree) (w : List S) (before after : List W) : Type 0 where
    pub everywhere : take (needed t) after ≡ marks_after t w
    pub root : (d : W) → slice_index_or after (root_place t w) d ≡ weight o passing t w
    pub rest : drop (needed t) after ≡ drop (needed t) before
