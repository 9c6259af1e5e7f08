-- Small patterns over bytes, and how many readings each has. Assumes nothing.
use Rattle.std.specs.Prelude.{◌≡◌, ℕ, List, [], ◌∷◌}
use Rattle.scale.specs.Counts.{count_ops}
use Rattle.table.specs.Kinds.{byte_passing}
use Rattle.table.specs.Tree.{Tree, empty, leaf, either, then, repeat}
use Rattle.readings.specs.Weights.{weight}

-- one byte, at price 0
abbrev pub byte : ℕ → Tree
byte b = leaf (record { tag = 0; low = b; high = b }) 0

abbrev pub letter_a : ℕ
letter_a = 97

abbrev pub letter_b : ℕ
letter_b = 98

-- b|b*
abbrev pub one_or_many : ℕ → Tree
one_or_many b = either (byte b) (repeat (byte b))

abbrev pub byte_count : Tree → List ℕ → ℕ
byte_count t w = (weight count_ops byte_passing t w).value

pub record CountedExamples : Type 0 where
  -- ()* over no byte
  pub repeat_empty : byte_count (repeat empty) [] ≡ 1
  -- ()|() over no byte
  pub either_empty : byte_count (either empty empty) [] ≡ 2
  -- a|a* over a
  pub one_or_many_a : byte_count (one_or_many letter_a) (letter_a ∷ []) ≡ 2
  -- (a|a*)(b|b*) over ab
  pub two_and_two : byte_count (then (one_or_many letter_a) (one_or_many letter_b)) (letter_a ∷ letter_b ∷ []) ≡ 4
  -- (a|())* over a
  pub repeat_either_empty : byte_count (repeat (either (byte letter_a) empty)) (letter_a ∷ []) ≡ 1
  -- (a*)* over aa
  pub repeat_repeat : byte_count (repeat (repeat (byte letter_a))) (letter_a ∷ letter_a ∷ []) ≡ 2

-- the six counts, in the same order
abbrev pub worked : List ℕ
worked =
    byte_count (repeat empty) []
    ∷ byte_count (either empty empty) []
    ∷ byte_count (one_or_many letter_a) (letter_a ∷ [])
    ∷ byte_count (then (one_or_many letter_a) (one_or_many letter_b)) (letter_a ∷ letter_b ∷ [])
    ∷ byte_count (repeat (either (byte letter_a) empty)) (letter_a ∷ [])
    ∷ byte_count (repeat (repeat (byte letter_a))) (letter_a ∷ letter_a ∷ [])
    ∷ []
