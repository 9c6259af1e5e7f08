-- What the laws of a scale give of the weights of lists of readings. Assumes nothing.
use Rattle.std.proofs.Common.{◌≡◌, ℕ, Bool, true, false, cond, List, [], ◌∷◌, ◌++◌, map, length, sym, refl, ap, ◌∙◌}
use mathlib.Core.List.{map-append}
use Rattle.scale.specs.Semiring.{Ops, Semiring}
use Rattle.table.specs.declared.node.Leaf.{Leaf}
use Rattle.table.specs.Tree.{Tree, empty, leaf, either, then, repeat}
use Rattle.readings.specs.Readings.{Reading, symbol, left, right, cut, stop, part, prices}
use Rattle.readings.specs.Weights.{product, total, reading_weight, pairs, cuts, divided, divisions, readings, weight}

-- the sum over every cut of u ++ w after u or later
abbrev pub spread : {W S : Type 0} → Ops W → (List S → W) → (List S → W) → List S → List S → W
spread o f g u [] = o.times (f u) (g [])
spread o f g u (s ∷ w) = o.plus (o.times (f u) (g (s ∷ w))) (spread o f g (u ++ s ∷ []) w)

module _ {W : Type 0} (o : Ops W) (laws : Semiring o) where
  pub nothing_sum : (x : W) → o.plus o.nothing x ≡ x
  nothing_sum x = laws.sum_comm o.nothing x ∙ laws.sum_nothing x

  -- what a list of readings weighs
  abbrev weigh : List Reading → W
  weigh xs = total o (map (reading_weight o) xs)

  total_append : (xs ys : List W) → total o (xs ++ ys) ≡ o.plus (total o xs) (total o ys)
  total_append [] ys = sym (nothing_sum (total o ys))
  total_append (x ∷ xs) ys = ap (o.plus x) (total_append xs ys) ∙ sym (laws.sum_assoc x (total o xs) (total o ys))

  product_append : (xs ys : List W) → product o (xs ++ ys) ≡ o.times (product o xs) (product o ys)
  product_append [] ys = sym (laws.one_product (product o ys))
  product_append (x ∷ xs) ys = ap (o.times x) (product_append xs ys) ∙ sym (laws.product_assoc x (product o xs) (product o ys))

  weigh_append : (xs ys : List Reading) → weigh (xs ++ ys) ≡ o.plus (weigh xs) (weigh ys)
  weigh_append xs ys = ap (total o) (map-append (reading_weight o) xs ys) ∙ total_append (map (reading_weight o) xs) (map (reading_weight o) ys)

  -- readings told apart by a side weigh what they weighed
  weigh_map : (k : Reading → Reading) → ((r : Reading) → reading_weight o (k r) ≡ reading_weight o r) → (xs : List Reading) → weigh (map k xs) ≡ weigh xs
  weigh_map k e [] = refl
  weigh_map k e (x ∷ xs) = λ i. o.plus (e x i) (weigh_map k e xs i)

  -- readings made of two parts
  module _ (k : Reading → Reading → Reading) (joins : (x y : Reading) → prices (k x y) ≡ prices x ++ prices y) where
    both : (x y : Reading) → reading_weight o (k x y) ≡ o.times (reading_weight o x) (reading_weight o y)
    both x y = ap (λ ps. product o (map o.priced ps)) (joins x y) ∙ ap (product o) (map-append o.priced (prices x) (prices y)) ∙ product_append (map o.priced (prices x)) (map o.priced (prices y))

    with_each : (x : Reading) (ys : List Reading) → weigh (map (k x) ys) ≡ o.times (reading_weight o x) (weigh ys)
    with_each x [] = sym (laws.product_nothing (reading_weight o x))
    with_each x (y ∷ ys) = (λ i. o.plus (both x y i) (with_each x ys i)) ∙ sym (laws.product_sum (reading_weight o x) (reading_weight o y) (weigh ys))

    weigh_pairs : (xs ys : List Reading) → weigh (pairs k xs ys) ≡ o.times (weigh xs) (weigh ys)
    weigh_pairs [] ys = sym (laws.nothing_product (weigh ys))
    weigh_pairs (x ∷ xs) ys =
        weigh_append (map (k x) ys) (pairs k xs ys) ∙ (λ i. o.plus (with_each x ys i) (weigh_pairs xs ys i))
        ∙ sym (laws.sum_product (reading_weight o x) (weigh xs) (weigh ys))

  module _ {S : Type 0} where
    weigh_cuts : (f g : List S → List Reading) (u w : List S) → weigh (cuts f g u w) ≡ spread o (λ x. weigh (f x)) (λ x. weigh (g x)) u w
    weigh_cuts f g u [] = weigh_pairs (cut (length u)) (λ x y. refl) (f u) (g [])
    weigh_cuts f g u (s ∷ w) =
        weigh_append (pairs (cut (length u)) (f u) (g (s ∷ w))) (cuts f g (u ++ s ∷ []) w)
        ∙ (λ i. o.plus (weigh_pairs (cut (length u)) (λ x y. refl) (f u) (g (s ∷ w)) i) (weigh_cuts f g (u ++ s ∷ []) w i))

    weigh_divided : (f : List S → List Reading) (u w : List S) → weigh (divided f u w) ≡ spread o (λ x. weigh (f x)) (λ x. weigh (divisions f x)) u w
    weigh_divided f u [] = weigh_pairs (part (length u)) (λ x y. refl) (f u) (stop ∷ [])
    weigh_divided f u (s ∷ w) =
        weigh_append (pairs (part (length u)) (f u) (divided f (s ∷ []) w)) (divided f (u ++ s ∷ []) w)
        ∙ (λ i. o.plus (weigh_pairs (part (length u)) (λ x y. refl) (f u) (divided f (s ∷ []) w) i) (weigh_divided f (u ++ s ∷ []) w i))

    module _ (passing : Leaf → S → Bool) where
      pub weight_empty : weight o passing empty [] ≡ o.one
      weight_empty = laws.sum_nothing o.one

      pub weight_leaf : (l : Leaf) (p : ℕ) (s : S) → weight o passing (leaf l p) (s ∷ []) ≡ cond (passing l s) (o.priced p) o.nothing
      weight_leaf l p s = go (passing l s)
        where
          go : (b : Bool) → weigh (cond b (symbol p ∷ []) []) ≡ cond b (o.priced p) o.nothing
          go true = laws.sum_nothing _ ∙ laws.product_one (o.priced p)
          go false = refl

      pub weight_either : (a b : Tree) (w : List S) → weight o passing (either a b) w ≡ o.plus (weight o passing a w) (weight o passing b w)
      weight_either a b w =
          weigh_append (map left (readings passing a w)) (map right (readings passing b w))
          ∙ (λ i. o.plus (weigh_map left (λ r. refl) (readings passing a w) i) (weigh_map right (λ r. refl) (readings passing b w) i))

      pub weight_then : (a b : Tree) (w : List S) → weight o passing (then a b) w ≡ spread o (weight o passing a) (weight o passing b) [] w
      weight_then a b w = weigh_cuts (readings passing a) (readings passing b) [] w

      pub weight_stop : (a : Tree) → weight o passing (repeat a) [] ≡ o.one
      weight_stop a = laws.sum_nothing o.one

      pub weight_repeat : (a : Tree) (s : S) (w : List S) → weight o passing (repeat a) (s ∷ w) ≡ spread o (weight o passing a) (weight o passing (repeat a)) (s ∷ []) w
      weight_repeat a s w = weigh_divided (readings passing a) (s ∷ []) w
