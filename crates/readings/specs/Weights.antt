-- What a reading and a pattern weigh: the sum over all readings. Assumes nothing.
use Rattle.std.specs.Prelude.{◌≡◌, ℕ, ◌+◌, ◌^◌, ◌<◌, ◌≤◌, Bool, cond, ◌⊎◌, List, [], ◌∷◌, ◌++◌, map, length}
use Rattle.scale.specs.Semiring.{Ops}
use Rattle.table.specs.declared.node.Leaf.{Leaf}
use Rattle.table.specs.Tree.{Tree, empty, leaf, either, then, repeat}
use Rattle.readings.specs.Readings.{Reading, none, symbol, left, right, cut, stop, part, Reads, prices}

-- a product from left to right, one if there is no factor
abbrev pub product : {W : Type 0} → Ops W → List W → W
product o [] = o.one
product o (x ∷ xs) = o.times x (product o xs)

-- a sum, nothing if there is no term
abbrev pub total : {W : Type 0} → Ops W → List W → W
total o [] = o.nothing
total o (x ∷ xs) = o.plus x (total o xs)

-- a reading weighs the product of its leaves' prices
abbrev pub reading_weight : {W : Type 0} → Ops W → Reading → W
reading_weight o r = product o (map o.priced (prices r))

-- the list of all readings, built up from those of the parts

-- each of the first list with each of the second
abbrev pub pairs : (Reading → Reading → Reading) → List Reading → List Reading → List Reading
pairs k [] ys = []
pairs k (x ∷ xs) ys = map (k x) ys ++ pairs k xs ys

module _ {S : Type 0} where
  abbrev pub of_nothing : List S → List Reading
  of_nothing [] = none ∷ []
  of_nothing (s ∷ w) = []

  abbrev pub of_one : (S → Bool) → ℕ → List S → List Reading
  of_one pass p [] = []
  of_one pass p (s ∷ []) = cond (pass s) (symbol p ∷ []) []
  of_one pass p (s ∷ t ∷ w) = []

  -- every cut of u ++ w after u or later
  abbrev pub cuts : (List S → List Reading) → (List S → List Reading) → List S → List S → List Reading
  cuts f g u [] = pairs (cut (length u)) (f u) (g [])
  cuts f g u (s ∷ w) = pairs (cut (length u)) (f u) (g (s ∷ w)) ++ cuts f g (u ++ s ∷ []) w

  -- every division of u ++ w whose first part has u or more
  abbrev pub divided : (List S → List Reading) → List S → List S → List Reading
  divided f u [] = pairs (part (length u)) (f u) (stop ∷ [])
  divided f u (s ∷ w) = pairs (part (length u)) (f u) (divided f (s ∷ []) w) ++ divided f (u ++ s ∷ []) w

  abbrev pub divisions : (List S → List Reading) → List S → List Reading
  divisions f [] = stop ∷ []
  divisions f (s ∷ w) = divided f (s ∷ []) w

  abbrev pub readings : (Leaf → S → Bool) → Tree → List S → List Reading
  readings passing empty w = of_nothing w
  readings passing (leaf l p) w = of_one (passing l) p w
  readings passing (either a b) w = map left (readings passing a w) ++ map right (readings passing b w)
  readings passing (then a b) w = cuts (readings passing a) (readings passing b) [] w
  readings passing (repeat a) w = divisions (readings passing a) w

-- a pattern weighs the sum over all its readings of the word
abbrev pub weight : {W S : Type 0} → Ops W → (Leaf → S → Bool) → Tree → List S → W
weight o passing t w = total o (map (reading_weight o) (readings passing t w))

-- a reading stands in a list
abbrev pub In : Reading → List Reading → Type 0
In r [] = ⊥
In r (x ∷ xs) = (r ≡ x) ⊎ In r xs

-- no reading stands twice in a list
abbrev pub Distinct : List Reading → Type 0
Distinct [] = Unit {0}
Distinct (x ∷ xs) = (In x xs → ⊥) × Distinct xs

-- the plain sum of prices
abbrev pub price_sum : List ℕ → ℕ
price_sum [] = 0
price_sum (p ∷ ps) = p + price_sum ps

-- every leaf's price fits in 32 bits
abbrev pub LeafPrices : Tree → Type 0
LeafPrices empty = Unit {0}
LeafPrices (leaf l p) = p < 2 ^ 32
LeafPrices (either a b) = LeafPrices a × LeafPrices b
LeafPrices (then a b) = LeafPrices a × LeafPrices b
LeafPrices (repeat a) = LeafPrices a

-- v is the least price of a reading, and the greatest value where there is none
pub record Least {S : Type 0} (passing : Leaf → S → Bool) (t : Tree) (w : List S) (v : ℕ) : Type 0 where
  pub reached : (r : Reading) → Reads passing t w r → (q : Reading) × Reads passing t w q × (price_sum (prices q) ≡ v)
  pub lowest : (r : Reading) → Reads passing t w r → v ≤ price_sum (prices r)
  pub none_at_top : v ≡ 18_446_744_073_709_551_615 → (r : Reading) → Reads passing t w r → ⊥
  pub top_at_none : ((r : Reading) → Reads passing t w r → ⊥) → v ≡ 18_446_744_073_709_551_615
