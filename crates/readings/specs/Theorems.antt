-- What is proved about readings and weights, one statement for each public function. Assumes nothing.
use Rattle.std.specs.Prelude.{◌≡◌, ℕ, ◌≤◌, min, Bool, List, length}
use Rattle.scale.specs.Semiring.{Ops}
use Rattle.scale.specs.Yes.{yes_ops}
use Rattle.scale.specs.Counts.{count_ops}
use Rattle.scale.specs.Prices.{price_ops}
use Rattle.scale.specs.declared.pair.Pair.{Pair}
use Rattle.scale.specs.Pairs.{pair_ops}
use Rattle.table.specs.declared.node.Leaf.{Leaf}
use Rattle.table.specs.Tree.{Tree}
use Rattle.readings.specs.Readings.{Reading, Reads}
use Rattle.readings.specs.Weights.{readings, weight, In, Distinct, LeafPrices, Least}

-- a reading stands in the list exactly when it is one of the pattern over the word, and none stands twice
pub record Listed {S : Type 0} (passing : Leaf → S → Bool) : Type 0 where
  pub listed_is_read : (t : Tree) (w : List S) (r : Reading) → In r (readings passing t w) → Reads passing t w r
  pub read_is_listed : (t : Tree) (w : List S) (r : Reading) → Reads passing t w r → In r (readings passing t w)
  pub none_twice : (t : Tree) (w : List S) → Distinct (readings passing t w)

-- the weight at yes is the accepting one exactly when there is a reading
pub record YesTellsReading {S : Type 0} (passing : Leaf → S → Bool) (accepting : Bool) : Type 0 where
  pub accepted_is_read : (t : Tree) (w : List S) → weight yes_ops passing t w ≡ accepting → (r : Reading) × Reads passing t w r
  pub read_is_accepted : (t : Tree) (w : List S) (r : Reading) → Reads passing t w r → weight yes_ops passing t w ≡ accepting

-- the count is how many readings the list has, up to a cap; it is 1 exactly when there is one reading and no other
pub record CountNumbersReadings {S : Type 0} (passing : Leaf → S → Bool) (cap : ℕ) : Type 0 where
  pub number : (t : Tree) (w : List S) → (weight count_ops passing t w).value ≡ min (length (readings passing t w)) cap
  pub one_is_single : (t : Tree) (w : List S) → (weight count_ops passing t w).value ≡ 1 → (r : Reading) × Reads passing t w r × ((q : Reading) → Reads passing t w q → q ≡ r)
  pub single_is_one : (t : Tree) (w : List S) (r : Reading) → Reads passing t w r → ((q : Reading) → Reads passing t w q → q ≡ r) → (weight count_ops passing t w).value ≡ 1

-- the least price is reached by a reading and passed under by none, over words up to a length and leaf prices of 32 bits
abbrev pub PriceLeastOfReadings : {S : Type 0} → (Leaf → S → Bool) → ℕ → Type 0
PriceLeastOfReadings {S} passing longest = (t : Tree) (w : List S) → LeafPrices t → length w ≤ longest → Least passing t w (weight price_ops passing t w).value

-- where two scales weigh x and y, the pair of them weighs both
abbrev pub PairWeighsEach : {V W S : Type 0} → Ops V → Ops W → (Leaf → S → Bool) → V → W → Pair V W → Type 0
PairWeighsEach {V} {W} {S} a b passing x y both = (t : Tree) (w : List S) → weight a passing t w ≡ x → weight b passing t w ≡ y → weight (pair_ops a b) passing t w ≡ both
