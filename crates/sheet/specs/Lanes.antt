-- Sets of lanes as masks: a lane's bit is its own number. Assumes nothing.
use Rattle.std.specs.Prelude.{◌≡◌, ℕ, zero, suc, ◌+◌, ◌/◌, ◌%◌, ◌^◌, ◌<◌, ◌≤◌, Bool, true, false, cond, List, [], ◌∷◌, ◌==◌}
use Rattle.sheet.specs.declared.lanes.LaneSet.{LaneSet}

-- the lane's bit is set in the mask
abbrev pub on : ℕ → ℕ → Bool
on m k = m / 2 ^ k % 2 == 1

-- the lane is in the set
abbrev pub has : LaneSet → ℕ → Bool
has s k = on s.mask k

-- how many of the first n numbers are picked
abbrev pub picked : (ℕ → Bool) → ℕ → ℕ
picked f zero = 0
picked f (suc n) = cond (f n) 1 0 + picked f n

-- how many lanes are in the set, whose mask has sixteen bits
abbrev pub size : LaneSet → ℕ
size s = picked (has s) 16

-- no number is picked
abbrev pub NoneOf : (ℕ → Bool) → Type 0
NoneOf f = (k : ℕ) → f k ≡ false

-- the number is picked, and none below it
pub record Least (f : ℕ → Bool) (n : ℕ) : Type 0 where
  pub picks : f n ≡ true
  pub first : (k : ℕ) → k < n → f k ≡ false

-- b has the lane as told, and every other lane as a has it
pub record Put (lane : ℕ) (member : Bool) (a b : LaneSet) : Type 0 where
  pub at : (k : ℕ) → has b k ≡ cond (k == lane) member (has a k)

-- in how many of the sets the lane is
abbrev pub times_in : ℕ → List LaneSet → ℕ
times_in k [] = 0
times_in k (s ∷ ss) = cond (has s k) 1 0 + times_in k ss

-- no lane is in two of the sets
abbrev pub Apart : List LaneSet → Type 0
Apart ss = (k : ℕ) → times_in k ss ≤ 1
