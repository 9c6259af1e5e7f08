-- The blanks that an empty text is filled up with. Assumes nothing.
use Rattle.std.proofs.Common.{◌≡◌, ℕ, zero, suc, ◌-◌, ◌^◌, Bool, true, false, cond, ◌&&◌, eqb, [], ◌∷◌, ◌++◌, replicate, Some, sym, refl, ap, ◌∙◌, arith, true-eqb}
use Rattle.std.specs.Fmt.{styled_text, padded, take_chars, char_count, format_spec}
use Rattle.picture.specs.Report.{mark_line}
use Rattle.std.specs.List.{repeat}
use lib.Utf8.{encode}

repeated : (n : ℕ) → repeat {A = ℕ} n (32 ∷ []) ≡ replicate n 32
repeated zero = refl
repeated (suc n) = ap (λ xs. 32 ∷ xs) (repeated n)

-- what a hole for the empty text writes, at a width
pub filled : (n : ℕ) → styled_text (format_spec 32 0 0 n (2 ^ 64 - 1)) [] ≡ replicate n 32
unfolding padded take_chars char_count encode
filled n = go (eqb n 0) refl
  where
    go : (b : Bool) → eqb n 0 ≡ b → cond (b && true) [] (repeat {A = ℕ} (n - 0 - 0) (32 ∷ [])) ≡ replicate n 32
    go true e = ap (λ k. replicate k 32) (sym (true-eqb n 0 (sym e)))
    go false e = ap (λ k. repeat {A = ℕ} k (32 ∷ [])) (omega arith) ∙ repeated n

-- blanks of a width that is a place, and the mark
pub mark_written : (n at : ℕ) → n ≡ at → styled_text (format_spec 32 0 0 n (2 ^ 64 - 1)) [] ++ (94 ∷ 10 ∷ []) ≡ mark_line (Some at)
mark_written n at same = ap (λ b. b ++ (94 ∷ 10 ∷ [])) (filled n) ∙ ap (λ k. replicate k 32 ++ (94 ∷ 10 ∷ [])) same
