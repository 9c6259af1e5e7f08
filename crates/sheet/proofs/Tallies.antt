-- How many numbers are picked, before and after one of them changes. Assumes nothing.
use Rattle.std.proofs.Common.{◌≡◌, ℕ, zero, suc, ◌+◌, ◌<◌, ◌≤◌, Bool, cond, eqb, refl, arith}
use Rattle.std.proofs.lemmas.Bool.Decides.{nat_tests}
use Rattle.sheet.specs.Lanes.{picked}

pub picked_same : (f g : ℕ → Bool) → ((k : ℕ) → g k ≡ f k) → (n : ℕ) → picked g n ≡ picked f n
picked_same f g e zero = refl
picked_same f g e (suc n) = grind (arith, picked_same f g e n, e n)

module _ (f g : ℕ → Bool) (j : ℕ) (v : Bool) (e : (k : ℕ) → g k ≡ cond (eqb k j) v (f k)) where
  picked_below : (n : ℕ) → n ≤ j → picked g n ≡ picked f n
  picked_below zero h = refl
  picked_below (suc n) h = grind (arith, nat_tests, picked_below n, e n)

  -- one number less or more
  pub picked_put : (n : ℕ) → j < n → picked g n + cond (f j) 1 0 ≡ picked f n + cond v 1 0
  picked_put zero h = absurd (omega arith)
  picked_put (suc n) h = grind (arith, nat_tests, picked_put n, picked_below n, e n, e j)
