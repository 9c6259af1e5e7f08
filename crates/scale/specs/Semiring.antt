-- A scale: weights with a sum and a product, and the laws that they keep. Assumes nothing.
use Rattle.std.specs.Prelude.{◌≡◌, ℕ, Bool, true}

-- nothing and one, sum and product, the weight of a price, and whether a weight is nothing
pub record Ops (W : Type 0) : Type 0 where
  pub nothing : W
  pub one : W
  pub plus : W → W → W
  pub times : W → W → W
  pub priced : ℕ → W
  pub vanishes : W → Bool

-- a semiring, whose product need not commute
pub record Semiring {W : Type 0} (s : Ops W) : Type 0 where
  pub sum_assoc : (x y z : W) → s.plus (s.plus x y) z ≡ s.plus x (s.plus y z)
  pub sum_comm : (x y : W) → s.plus x y ≡ s.plus y x
  pub sum_nothing : (x : W) → s.plus x s.nothing ≡ x
  pub product_assoc : (x y z : W) → s.times (s.times x y) z ≡ s.times x (s.times y z)
  pub one_product : (x : W) → s.times s.one x ≡ x
  pub product_one : (x : W) → s.times x s.one ≡ x
  pub nothing_product : (x : W) → s.times s.nothing x ≡ s.nothing
  pub product_nothing : (x : W) → s.times x s.nothing ≡ s.nothing
  pub product_sum : (x y z : W) → s.times x (s.plus y z) ≡ s.plus (s.times x y) (s.times x z)
  pub sum_product : (x y z : W) → s.times (s.plus x y) z ≡ s.plus (s.times x z) (s.times y z)

-- the test tells nothing from every other weight
pub record Tells {W : Type 0} (s : Ops W) : Type 0 where
  pub at_nothing : s.vanishes s.nothing ≡ true
  pub only_nothing : (x : W) → s.vanishes x ≡ true → x ≡ s.nothing
