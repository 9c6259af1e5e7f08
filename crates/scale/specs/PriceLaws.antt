-- Least price keeps the laws of a scale. Assumes nothing.
use Rattle.std.specs.Prelude.{refl}
use Rattle.std.proofs.Common.{sym, arith, true-eqb}
use Rattle.scale.specs.Semiring.{Semiring, Tells}
use Rattle.scale.specs.Prices.{price_ops, price_path}

pub price_laws : Semiring price_ops
price_laws = record {
  sum_assoc = λ x y z. price_path (omega arith);
  sum_comm = λ x y. price_path (omega arith);
  sum_nothing = λ x. price_path (omega (arith, x.fits));
  product_assoc = λ x y z. price_path (omega arith);
  one_product = λ x. price_path (omega (arith, x.fits));
  product_one = λ x. price_path (omega (arith, x.fits));
  nothing_product = λ x. price_path (omega arith);
  product_nothing = λ x. price_path (omega arith);
  product_sum = λ x y z. price_path (omega arith);
  sum_product = λ x y z. price_path (omega arith);
}

pub price_tells : Tells price_ops
price_tells = record { at_nothing = refl; only_nothing = λ x e. price_path (true-eqb x.value 18_446_744_073_709_551_615 (sym e)) }
