-- A row whose lane is written in two digits. Assumes nothing.
use Rattle.std.proofs.Common.{◌≡◌, ℕ, ◌-◌, ◌/◌, ◌%◌, ◌^◌, ◌<◌, ◌≤◌, false, List, [], ◌∷◌, ◌++◌, decimal, ⊎_elim, append_assoc, arith}
use Rattle.std.proofs.lemmas.Bool.{cases_lt}
use Rattle.std.proofs.lemmas.Fmt.{decimal_digit, decimal_step}
use Rattle.std.specs.Fmt.{char_count, format_spec, padded_integral}
use Rattle.meet.specs.Rows.{letter, row}

-- the options 0 and 2 write the tens and the units
lane_padded : (n : ℕ) → n < 256 → padded_integral (format_spec 32 0 4 2 (2 ^ 64 - 1)) false [] (decimal n) ≡ decimal (n / 10) ++ decimal (n % 10)
unfolding padded_integral char_count
lane_padded n small =
    ⊎_elim
    (λ (one : n < 10). let high : n / 10 ≡ 0 = omega arith in let low : n % 10 ≡ n = omega arith in rw (high, low, decimal_digit n one, decimal_digit 0 (omega arith)))
    (λ (ten : 10 ≤ n).
    ⊎_elim
    (λ (two : n < 100). rw (decimal_step n ten (omega arith), decimal_digit (n / 10) (omega arith), decimal_digit (n % 10) (omega arith)))
    (λ (more : 100 ≤ n). rw (decimal_step n ten (omega arith), decimal_step (n / 10) (omega arith) (omega arith), decimal_digit (n / 10 / 10) (omega arith), decimal_digit (n % 10) (omega arith)))
    (cases_lt n 100))
    (cases_lt n 10)

pub row_written : (lane count : ℕ) (digits l : List ℕ) → lane < 256 → digits ≡ padded_integral (format_spec 32 0 4 2 (2 ^ 64 - 1)) false [] (decimal lane) → l ≡ letter count ∷ [] → digits ++ (32 ∷ (l ++ (32 ∷ (decimal count ++ 10 ∷ [])))) ≡ row lane count
row_written lane count digits l small d e = rw (d, e, lane_padded lane small, append_assoc)
