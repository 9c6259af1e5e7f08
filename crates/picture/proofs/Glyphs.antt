-- What stands for a text's bytes is ASCII. Assumes nothing.
use Rattle.std.proofs.Common.{◌≡◌, ℕ, ◌<◌, List, [], ◌∷◌, ◌++◌, map, Ok, Err, Result, MatchResult, refl, sym, ap, ◌∙◌, arith}
use Rattle.std.proofs.lemmas.List.{map-append}
use Rattle.std.proofs.lemmas.Str.{IsUtf8-from_ascii}
use Rattle.std.proofs.lemmas.Str.Ascii.{IsAscii-cons, IsAscii-nil}
use Rattle.std.specs.Result.{IsOk}
use Rattle.std.specs.Str.{IsAscii, IsUtf8}
use Rattle.picture.specs.Words.{shown_byte}

glyph_ascii : (b : ℕ) → shown_byte b < 128
glyph_ascii b = grind (arith)

glyphs_ascii : (bs : List ℕ) → IsAscii (map shown_byte bs)
glyphs_ascii [] = IsAscii-nil
glyphs_ascii (b ∷ bs) = IsAscii-cons (shown_byte b) (map shown_byte bs) (glyph_ascii b) (glyphs_ascii bs)

pub glyphs_utf8 : (bs : List ℕ) → IsUtf8 (map shown_byte bs)
glyphs_utf8 bs = IsUtf8-from_ascii (map shown_byte bs) (glyphs_ascii bs)

-- a check of UTF-8 accepts what is UTF-8
pub accepted : {A E : Type 0} (P : A → Type 0) (Q : E → Type 0) (r : Result A E) (bs : List ℕ) → MatchResult r P (λ e. (IsUtf8 bs → ⊥) × Q e) → IsUtf8 bs → IsOk r
accepted P Q (Ok x) bs m u = refl
accepted P Q (Err e) bs m u = absurd (m.0 u)

-- a run and what is left, both shown
pub run_shown : (all run rest : List ℕ) → all ≡ run ++ rest → map shown_byte run ++ map shown_byte rest ≡ map shown_byte all
run_shown all run rest parts = sym (map-append shown_byte run rest) ∙ ap (map shown_byte) (sym parts)
