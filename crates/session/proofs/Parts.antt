-- The parts of a list that belong to a root's operands, and to the root. Assumes nothing.
use Rattle.std.proofs.Common.{◌≡◌, ℕ, ◌-◌, List, [], ◌∷◌, ◌++◌, length, take, drop, refl, ap, ◌∙◌, arith, length-append}
use Rattle.std.proofs.lemmas.List.{take_at, drop_at}

pub three_of : {A : Type 0} (l : List A) → length l ≡ 3 → (x : A) × (y : A) × (z : A) × (l ≡ x ∷ y ∷ z ∷ [])
three_of [] h = absurd (omega arith)
three_of (x ∷ []) h = absurd (omega arith)
three_of (x ∷ y ∷ []) h = absurd (omega arith)
three_of (x ∷ y ∷ z ∷ []) h = (x, y, z, refl)
three_of (x ∷ y ∷ z ∷ a ∷ l) h = absurd (omega arith)

-- what stands before the last three, and those
module _ {A : Type 0} (all xs zs : List A) (is : all ≡ xs ++ zs) (three : length zs ≡ 3) where
  before_three : length all - 3 ≡ length xs
  before_three = omega (arith, ap length is ∙ length-append xs zs)

  pub below_root : take (length all - 3) all ≡ xs
  below_root = (λ i. take (before_three i) (is i)) ∙ take_at xs zs (length xs) refl

  pub at_root : drop (length all - 3) all ≡ zs
  at_root = (λ i. drop (before_three i) (is i)) ∙ drop_at xs zs (length xs) refl

-- two operands of n and m elements, and the root
module _ {A : Type 0} (all xs ys zs : List A) (is : all ≡ xs ++ (ys ++ zs)) (n m : ℕ) (long : length xs ≡ n) (right_long : length ys ≡ m) where
  pub left_part : take n all ≡ xs
  left_part = ap (take n) is ∙ take_at xs (ys ++ zs) n long

  past_left : drop n all ≡ ys ++ zs
  past_left = ap (drop n) is ∙ drop_at xs (ys ++ zs) n long

  pub right_part : take m (drop n all) ≡ ys
  right_part = ap (take m) past_left ∙ take_at ys zs m right_long

  pub root_part : drop m (drop n all) ≡ zs
  root_part = ap (drop m) past_left ∙ drop_at ys zs m right_long
