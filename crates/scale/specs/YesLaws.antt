-- Yes keeps the laws of a scale. Assumes nothing.
use Rattle.std.specs.Prelude.{◌≡◌, true, false, not, ◌&&◌, ◌||◌, refl}
use Rattle.std.proofs.Common.{sym}
use Rattle.scale.specs.Semiring.{Semiring, Tells}
use Rattle.scale.specs.Yes.{yes_ops}

pub yes_laws : Semiring yes_ops
yes_laws = record {
  sum_assoc = λ x y z. elim x as (λ a. ((a || y) || z) ≡ (a || (y || z))) [ true ↦ refl | false ↦ refl ];
  sum_comm = λ x y. elim x as (λ a. (a || y) ≡ (y || a)) [ true ↦ (elim y as (λ b. (true || b) ≡ (b || true)) [ true ↦ refl | false ↦ refl ]) | false ↦ (elim y as (λ b. (false || b) ≡ (b || false)) [ true ↦ refl | false ↦ refl ]) ];
  sum_nothing = λ x. elim x as (λ a. (a || false) ≡ a) [ true ↦ refl | false ↦ refl ];
  product_assoc = λ x y z. elim x as (λ a. ((a && y) && z) ≡ (a && (y && z))) [ true ↦ refl | false ↦ refl ];
  one_product = λ x. refl;
  product_one = λ x. elim x as (λ a. (a && true) ≡ a) [ true ↦ refl | false ↦ refl ];
  nothing_product = λ x. refl;
  product_nothing = λ x. elim x as (λ a. (a && false) ≡ false) [ true ↦ refl | false ↦ refl ];
  product_sum = λ x y z. elim x as (λ a. (a && (y || z)) ≡ ((a && y) || (a && z))) [ true ↦ refl | false ↦ refl ];
  sum_product = λ x y z. elim x as (λ a. ((a || y) && z) ≡ ((a && z) || (y && z))) [ true ↦ (elim z as (λ c. ((true || y) && c) ≡ ((true && c) || (y && c))) [ true ↦ refl | false ↦ (elim y as (λ b. false ≡ (b && false)) [ true ↦ refl | false ↦ refl ]) ]) | false ↦ refl ];
}

pub yes_tells : Tells yes_ops
yes_tells = record { at_nothing = refl; only_nothing = λ x e. elim x as (λ a. not a ≡ true → a ≡ false) [ true ↦ (λ e. sym e) | false ↦ (λ e. refl) ] e }
