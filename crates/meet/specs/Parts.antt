-- A result line's lane and text. Assumes nothing.
use Rattle.std.specs.Prelude.{ℕ, ◌+◌, ◌-◌, ◌*◌, cond, ◌&&◌, List, [], ◌∷◌, Some, None, Option, ◌==◌}
use Rattle.std.specs.Char.{is_ascii_digit}

-- what two digits write
abbrev pub number : ℕ → ℕ → ℕ
number tens units = 10 * (tens - 48) + (units - 48)

-- two digits and a blank, and then the text
abbrev pub parted : List ℕ → Option (ℕ × List ℕ)
parted [] = None
parted (a ∷ []) = None
parted (a ∷ b ∷ []) = None
parted (a ∷ b ∷ c ∷ text) = cond (is_ascii_digit a && (is_ascii_digit b && c == 32)) (Some (number a b, text)) None

-- another line has lane 0
abbrev laned : List ℕ → Option (ℕ × List ℕ) → ℕ × List ℕ
laned line None = (0, line)
laned line (Some x) = x

abbrev pub lane_of : List ℕ → ℕ
lane_of line = (laned line (parted line)).0

abbrev pub text_of : List ℕ → List ℕ
text_of line = (laned line (parted line)).1
