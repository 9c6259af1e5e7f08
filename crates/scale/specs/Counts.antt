-- The scale count: numbers that stop at 4,294,967,295. Assumes nothing.
use Rattle.std.specs.Prelude.{◌≡◌, ℕ, ◌+◌, ◌*◌, ◌^◌, ◌<◌, min, ◌==◌}
use mathlib.Core.HLevel.{is_prop→PathP}
use Rattle.std.proofs.Math.Bridge.{le_prop}
use Rattle.std.proofs.Common.{arith}
use Rattle.scale.specs.declared.count.weight.Count.{Count}
use Rattle.scale.specs.Semiring.{Ops}

abbrev pub capped : ℕ → ℕ
capped n = min n 4_294_967_295

pub capped_fits : (n : ℕ) → capped n < 2 ^ 32
capped_fits n = omega arith

abbrev pub counted : ℕ → Count
counted n = record { value = capped n; fits = capped_fits n }

abbrev pub count_ops : Ops Count
count_ops = record {
  nothing = counted 0;
  one = counted 1;
  plus = λ x y. counted (x.value + y.value);
  times = λ x y. counted (x.value * y.value);
  priced = λ p. counted 1;
  vanishes = λ x. (x.value == 0);
}

-- two counts are equal where their numbers are
pub count_path : {x y : Count} → x.value ≡ y.value → x ≡ y
count_path {x} {y} p = λ i. record { value = p i; fits = is_prop→PathP (λ j. p j < 2 ^ 32) (λ j. le_prop) x.fits y.fits i }
