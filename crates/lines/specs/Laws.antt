-- What the lines of a file are, in terms of the bytes alone. Assumes nothing.
use Rattle.std.specs.Prelude.{◌≡◌, ℕ, ◌<◌, cond, ◌⊎◌, List, [], ◌∷◌, ◌++◌, length, ◌==◌, ◌≢◌}
use Rattle.lines.specs.Lines.{lines}
use Rattle.std.specs.List.{flat_map, AllByRecursion}

-- no byte of the line is 10
abbrev pub Unbroken : List ℕ → Type 0
Unbroken l = AllByRecursion (λ b. b ≢ 10) l

-- a line with the byte that ends it
abbrev pub closed : List ℕ → List ℕ
closed l = l ++ 10 ∷ []

-- the file, with a byte 10 more where it has bytes and the last is not 10
abbrev pub ended : List ℕ → List ℕ
ended [] = []
ended (b ∷ []) = cond (b == 10) (b ∷ []) (b ∷ 10 ∷ [])
ended (b ∷ c ∷ bs) = b ∷ ended (c ∷ bs)

-- no line holds byte 10, the lines with byte 10 after each are the file, and no other list of lines is so
pub record Lawful (file : List ℕ) : Type 0 where
  pub unbroken : AllByRecursion Unbroken (lines file)
  pub whole : flat_map closed (lines file) ≡ ended file
  pub sole : (ls : List (List ℕ)) → AllByRecursion Unbroken ls → flat_map closed ls ≡ ended file → ls ≡ lines file

-- line is the first line of file, and rest is what follows the byte 10 after it, or nothing where that byte lacks
pub record Cut (file line rest : List ℕ) : Type 0 where
  pub cuts : lines file ≡ line ∷ lines rest
  pub unbroken : Unbroken line
  pub split : (file ≡ line ++ 10 ∷ rest) ⊎ ((file ≡ line ++ rest) × (rest ≡ []))
  pub shorter : length rest < length file
