-- Count keeps the laws of a scale. Assumes nothing.
use Rattle.std.specs.Prelude.{◌≡◌, ℕ, zero, suc, ◌+◌, ◌*◌, refl}
use Rattle.std.proofs.Common.{sym, ap, ◌∙◌, ⊎_elim, mul_assoc, mul_comm, mul-add, add-mul, zero-mul, suc-mul, arith, true-eqb}
use Rattle.std.proofs.lemmas.Bool.{cases_lt}
use Rattle.scale.specs.Semiring.{Semiring, Tells}
use Rattle.scale.specs.Counts.{capped, count_ops, count_path}

-- a factor may be capped first
pub capped_times : (a b : ℕ) → capped (a * capped b) ≡ capped (a * b)
capped_times zero b = omega (arith, zero-mul b, zero-mul (capped b))
capped_times (suc a) b =
    ⊎_elim
    (λ lt. ap (λ n. capped (suc a * n)) (omega arith))
    (λ ge. omega (arith, suc-mul a (capped b), suc-mul a b))
    (cases_lt b 4_294_967_295)

pub times_capped : (a b : ℕ) → capped (capped a * b) ≡ capped (a * b)
times_capped a b = ap capped (mul_comm (capped a) b) ∙ capped_times b a ∙ ap capped (mul_comm b a)

pub count_laws : Semiring count_ops
count_laws = record {
  sum_assoc = λ x y z. count_path (omega arith);
  sum_comm = λ x y. count_path (omega arith);
  sum_nothing = λ x. count_path (omega (arith, x.fits));
  product_assoc = λ x y z. count_path (times_capped (x.value * y.value) z.value ∙ ap capped (mul_assoc x.value y.value z.value) ∙ sym (capped_times x.value (y.value * z.value)));
  one_product = λ x. count_path (omega (arith, x.fits));
  product_one = λ x. count_path (omega (arith, x.fits));
  nothing_product = λ x. count_path (omega arith);
  product_nothing = λ x. count_path (omega arith);
  product_sum = λ x y z. count_path (capped_times x.value (y.value + z.value) ∙ omega (arith, mul-add x.value y.value z.value));
  sum_product = λ x y z. count_path (times_capped (x.value + y.value) z.value ∙ omega (arith, add-mul x.value y.value z.value));
}

pub count_tells : Tells count_ops
count_tells = record { at_nothing = refl; only_nothing = λ x e. count_path (true-eqb x.value 0 (sym e)) }
