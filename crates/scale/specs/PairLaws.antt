-- Two scales side by side keep the laws of a scale. Assumes nothing.
use Rattle.std.specs.Prelude.{◌≡◌, Bool, true, false, ◌&&◌}
use Rattle.scale.specs.Semiring.{Ops, Semiring, Tells}
use Rattle.scale.specs.Pairs.{pair, pair_ops}

pub pair_laws : {A B : Type 0} {s : Ops A} {t : Ops B} → Semiring s → Semiring t → Semiring (pair_ops s t)
pair_laws l r = record {
  sum_assoc = λ x y z. λ i. pair (l.sum_assoc x.first y.first z.first i) (r.sum_assoc x.second y.second z.second i);
  sum_comm = λ x y. λ i. pair (l.sum_comm x.first y.first i) (r.sum_comm x.second y.second i);
  sum_nothing = λ x. λ i. pair (l.sum_nothing x.first i) (r.sum_nothing x.second i);
  product_assoc = λ x y z. λ i. pair (l.product_assoc x.first y.first z.first i) (r.product_assoc x.second y.second z.second i);
  one_product = λ x. λ i. pair (l.one_product x.first i) (r.one_product x.second i);
  product_one = λ x. λ i. pair (l.product_one x.first i) (r.product_one x.second i);
  nothing_product = λ x. λ i. pair (l.nothing_product x.first i) (r.nothing_product x.second i);
  product_nothing = λ x. λ i. pair (l.product_nothing x.first i) (r.product_nothing x.second i);
  product_sum = λ x y z. λ i. pair (l.product_sum x.first y.first z.first i) (r.product_sum x.second y.second z.second i);
  sum_product = λ x y z. λ i. pair (l.sum_product x.first y.first z.first i) (r.sum_product x.second y.second z.second i);
}

pub pair_tells : {A B : Type 0} {s : Ops A} {t : Ops B} → Tells s → Tells t → Tells (pair_ops s t)
pair_tells {s} {t} l r = record {
  at_nothing = λ i. l.at_nothing i && r.at_nothing i;
  only_nothing = λ x e. λ i. pair (l.only_nothing x.first (both_left _ _ e) i) (r.only_nothing x.second (both_right _ _ e) i);
}
  where
    both_left : (a b : Bool) → (a && b) ≡ true → a ≡ true
    both_left true b e = λ i. true
    both_left false b e = e

    both_right : (a b : Bool) → (a && b) ≡ true → b ≡ true
    both_right true b e = e
    both_right false true e = λ i. true
    both_right false false e = e
