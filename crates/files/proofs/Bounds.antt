-- What is known of bytes that were read up to a bound. Assumes nothing.
use Rattle.std.proofs.Common.{◌≡◌, ℕ, ◌≤◌, List, take, IfSome, Some, None, Option, ap, ◌∙◌, le_refl}
use Rattle.std.proofs.lemmas.List.{take-take}
use Rattle.std.specs.Option.{option_map}

-- what was read up to a bound is the beginning of all that there is
pub bounded : (n : ℕ) (all : Option (List ℕ)) (got : List ℕ) → IfSome (option_map (take n) all) (λ xs. got ≡ xs) → IfSome all (λ xs. take n got ≡ take n xs)
bounded n None got h = tt
bounded n (Some xs) got h = ap (take n) h ∙ take-take n n xs (le_refl n)
