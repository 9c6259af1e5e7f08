-- The scale least price: the smaller of two prices, and prices added. Assumes nothing.
use Rattle.std.specs.Prelude.{◌≡◌, ℕ, ◌+◌, ◌^◌, ◌<◌, min, ◌==◌}
use mathlib.Core.HLevel.{is_prop→PathP}
use Rattle.std.proofs.Math.Bridge.{le_prop}
use Rattle.std.proofs.Common.{arith}
use Rattle.scale.specs.declared.price.weight.Price.{Price}
use Rattle.scale.specs.Semiring.{Ops}

-- a price that stops at the greatest value, which is nothing
abbrev pub stopped : ℕ → ℕ
stopped n = min n 18_446_744_073_709_551_615

pub stopped_fits : (n : ℕ) → stopped n < 2 ^ 64
stopped_fits n = omega arith

abbrev pub priced_at : ℕ → Price
priced_at n = record { value = stopped n; fits = stopped_fits n }

abbrev pub no_price : Price
no_price = priced_at 18_446_744_073_709_551_615

pub smaller_fits : (x y : Price) → min x.value y.value < 2 ^ 64
smaller_fits x y = omega (arith, x.fits)

abbrev pub price_ops : Ops Price
price_ops = record {
  nothing = no_price;
  one = priced_at 0;
  plus = λ x y. record { value = min x.value y.value; fits = smaller_fits x y };
  times = λ x y. priced_at (x.value + y.value);
  priced = λ p. priced_at p;
  vanishes = λ x. (x.value == 18_446_744_073_709_551_615);
}

-- two prices are equal where their numbers are
pub price_path : {x y : Price} → x.value ≡ y.value → x ≡ y
price_path {x} {y} p = λ i. record { value = p i; fits = is_prop→PathP (λ j. p j < 2 ^ 64) (λ j. le_prop) x.fits y.fits i }
