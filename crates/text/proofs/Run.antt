-- A state after several bytes. Assumes nothing.
use Rattle.std.proofs.Common.{◌≡◌, ℕ, List, [], ◌∷◌, ◌++◌, Some, None, Option, refl, ap, ◌∙◌}
use Rattle.text.specs.Scan.{State, feed}

abbrev pub bound : Option State → (State → Option State) → Option State
bound None f = None
bound (Some z) f = f z

unfoldable pub run : State → List ℕ → Option State
run z [] = Some z
run z (c ∷ cs) = bound (feed z c) (λ w. run w cs)

pub run_none : (z : State) → run z [] ≡ Some z
unfolding run
run_none z = refl

pub run_stuck : (z : State) (c : ℕ) (cs : List ℕ) → feed z c ≡ None → run z (c ∷ cs) ≡ None
unfolding run
run_stuck z c cs e = ap (λ x. bound x (λ y. run y cs)) e

-- one byte, and then the rest
pub run_step : (z w : State) (c : ℕ) (cs : List ℕ) (r : Option State) → feed z c ≡ Some w → run w cs ≡ r → run z (c ∷ cs) ≡ r
unfolding run
run_step z w c cs r e f = ap (λ x. bound x (λ y. run y cs)) e ∙ f

pub run_append : (z w : State) (cs ds : List ℕ) (r : Option State) → run z cs ≡ Some w → run w ds ≡ r → run z (cs ++ ds) ≡ r
unfolding run
run_append z w cs ds r e f = split z cs ∙ ap (λ x. bound x (λ y. run y ds)) e ∙ f
  where
    after : (o : Option State) (cs : List ℕ) → ((y : State) → run y (cs ++ ds) ≡ bound (run y cs) (λ x. run x ds)) → bound o (λ y. run y (cs ++ ds)) ≡ bound (bound o (λ y. run y cs)) (λ x. run x ds)
    after None cs h = refl
    after (Some y) cs h = h y

    split : (z : State) (cs : List ℕ) → run z (cs ++ ds) ≡ bound (run z cs) (λ y. run y ds)
    split z [] = refl
    split z (c ∷ cs) = after (feed z c) cs (λ y. split y cs)
