-- Two ways that do not work: ranges as a scale, and marks that go on within one symbol. Assumes nothing.
use Rattle.std.specs.Prelude.{◌≡◌, ℕ, cond, List, [], ◌∷◌, nat_lt}
use Rattle.scale.specs.declared.count.weight.Count.{Count}
use Rattle.scale.specs.Counts.{count_ops}
use Rattle.table.specs.Kinds.{byte_passing}
use Rattle.table.specs.Tree.{Tree, then}
use Rattle.readings.specs.Examples.{byte, letter_a}
use Rattle.session.specs.Marks.{Taken, taken, empty_weight, last_weight, to_right, to_root}

-- where a reading lies, as a start and an end: product does not distribute over sum

pub record Range : Type 0 where
  pub start : ℕ
  pub stop : ℕ

abbrev pub range : ℕ → ℕ → Range
range a b = record { start = a; stop = b }

-- at an equal start the longer one
abbrev pub longer : Range → Range → Range
longer x y = cond (nat_lt x.stop y.stop) y x

-- the leftmost, then the longest
abbrev pub range_sum : Range → Range → Range
range_sum x y = cond (nat_lt x.start y.start) x (cond (nat_lt y.start x.start) y (longer x y))

-- one after the other: the first start and the last end
abbrev pub range_product : Range → Range → Range
range_product x y = range x.start y.stop

-- (3,4) × ((1,2) + (2,5))
abbrev pub product_of_sum : Range
product_of_sum = range_product (range 3 4) (range_sum (range 1 2) (range 2 5))

-- (3,4) × (1,2) + (3,4) × (2,5)
abbrev pub sum_of_products : Range
sum_of_products = range_sum (range_product (range 3 4) (range 1 2)) (range_product (range 3 4) (range 2 5))

pub record RangesStray (ends : List ℕ) : Type 0 where
  pub are : product_of_sum.stop ∷ sum_of_products.stop ∷ [] ≡ ends
  pub not_distributed : product_of_sum ≡ sum_of_products → ⊥

-- a then whose right operand takes the left's mark of the same symbol: the symbol is read twice

-- the left operand's mark of the latest symbol itself, where to_right has the one from before it
abbrev pub to_right_new : Tree → List (Taken Count ℕ) → List (Taken Count ℕ)
to_right_new a [] = []
to_right_new a (x ∷ h) = taken (count_ops.plus (count_ops.times x.incoming (empty_weight count_ops byte_passing a)) (last_weight count_ops byte_passing a (x ∷ h))) x.symbol ∷ to_right_new a h

-- the ways in which a then ends at the latest symbol, by its operands, given what came in at the right one
abbrev pub then_last : Tree → Tree → List (Taken Count ℕ) → List (Taken Count ℕ) → ℕ
then_last a b h k = (count_ops.plus (count_ops.times (last_weight count_ops byte_passing a h) (empty_weight count_ops byte_passing b)) (last_weight count_ops byte_passing b k)).value

abbrev pub one_a : List (Taken Count ℕ)
one_a = to_root count_ops byte_passing (letter_a ∷ [])

-- aa after one a: by the readings, by the mark from before the symbol, and by the new mark
abbrev pub by_readings : ℕ
by_readings = (last_weight count_ops byte_passing (then (byte letter_a) (byte letter_a)) one_a).value

abbrev pub by_mark_before : ℕ
by_mark_before = then_last (byte letter_a) (byte letter_a) one_a (to_right count_ops byte_passing (byte letter_a) one_a)

abbrev pub by_new_mark : ℕ
by_new_mark = then_last (byte letter_a) (byte letter_a) one_a (to_right_new (byte letter_a) one_a)

abbrev pub NewMarkStrays : List ℕ → Type 0
NewMarkStrays counts = by_readings ∷ by_mark_before ∷ by_new_mark ∷ [] ≡ counts
