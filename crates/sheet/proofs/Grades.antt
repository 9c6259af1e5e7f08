-- Where a lane stands, by the sets that have it and by how many readings its line has. Assumes nothing.
use Rattle.std.proofs.Common.{◌≡◌, ◌↔◌, ℕ, ◌+◌, ◌≤◌, Bool, true, false, cond, not, ◌⊎◌, Some, None, Option, sym, ◌∙◌, arith}
use Rattle.std.specs.Option.{IsSomeAnd}
use Rattle.sheet.specs.declared.sheet.Sheet.{Sheet}
use Rattle.sheet.specs.declared.standing.Standing.{Standing}
use Rattle.sheet.specs.declared.standing.Standing.TheVariants.{Unfilled, Clean, Owed, Taken, Struck}
use Rattle.sheet.specs.Account.{Line, SomeReading, OneReading, MoreReadings}
use Rattle.sheet.specs.Entries.{placed}
use Rattle.sheet.specs.Lanes.{has}
use Rattle.sheet.specs.Sheets.{set_of, standing}
use Rattle.sheet.specs.Standings.{same}
use Rattle.sheet.proofs.Counted.{count_of, counted_some, some_counted, counted_one, one_counted, counted_more, more_counted}

pub equals : {a b : Bool} → a ≡ b → ((a ≡ true) ↔ (b ≡ true))
equals e = (λ h. sym e ∙ h, λ h. e ∙ h)

-- owed, taken or struck
abbrev pub more : Standing → Bool
more Unfilled = false
more Clean = false
more Owed = true
more Taken = true
more Struck = true

-- by the sets, of which one at most has the lane

abbrev pub sets : Bool → Bool → Bool → Bool → ℕ
sets c o t s = cond c 1 0 + (cond o 1 0 + (cond t 1 0 + (cond s 1 0 + 0)))

pub set_clean : (c o t s : Bool) → c ≡ same (set_of c o t s) Clean
set_clean c o t s = grind arith

set_owed : (c o t s : Bool) → sets c o t s ≤ 1 → o ≡ same (set_of c o t s) Owed
set_owed c o t s h = grind arith

pub owed_standing : (s : Sheet) (k : ℕ) → has s.owed k ≡ same (standing s k) Owed
owed_standing s k = set_owed (has s.clean k) (has s.owed k) (has s.taken k) (has s.struck k) (s.apart k)

pub set_more : (c o t s : Bool) → sets c o t s ≤ 1 → cond (more (set_of c o t s)) 1 0 ≡ cond t 1 0 + cond s 1 0 + cond o 1 0
set_more c o t s h = grind arith

-- one of three is true where they add up to something
pub set_one_of : (c o t s : Bool) → sets c o t s ≤ 1 → (((t ≡ true) ⊎ ((s ≡ true) ⊎ (o ≡ true))) ↔ (more (set_of c o t s) ≡ true))
set_one_of c o t s h = grind arith

-- by the number of readings

abbrev pub Grade : Standing → ℕ → Type 0
Grade Unfilled n = n ≡ 0
Grade Clean n = n ≡ 1
Grade Owed n = 2 ≤ n
Grade Taken n = 2 ≤ n
Grade Struck n = 2 ≤ n

pub grade_placed : (n : ℕ) → Grade (placed n) n
grade_placed n = grind arith

pub grade_filled : (st : Standing) (n : ℕ) → Grade st n → ((not (same st Unfilled) ≡ true) ↔ (1 ≤ n))
grade_filled st n g = grind arith

pub grade_clean : (st : Standing) (n : ℕ) → Grade st n → ((same st Clean ≡ true) ↔ (n ≡ 1))
grade_clean st n g = grind arith

pub grade_more : (st : Standing) (n : ℕ) → Grade st n → ((more st ≡ true) ↔ (2 ≤ n))
grade_more st n g = grind arith

-- by the line

abbrev pub count_at : Option Line → ℕ
count_at None = 0
count_at (Some l) = count_of l

pub has_some : (o : Option Line) → ((1 ≤ count_at o) ↔ IsSomeAnd o SomeReading)
has_some None = (λ h. omega arith, λ h. absurd h)
has_some (Some l) = (counted_some l, some_counted l)

pub has_one : (o : Option Line) → ((count_at o ≡ 1) ↔ IsSomeAnd o OneReading)
has_one None = (λ h. omega arith, λ h. absurd h)
has_one (Some l) = (counted_one l, one_counted l)

pub has_more : (o : Option Line) → ((2 ≤ count_at o) ↔ IsSomeAnd o MoreReadings)
has_more None = (λ h. omega arith, λ h. absurd h)
has_more (Some l) = (counted_more l, more_counted l)
