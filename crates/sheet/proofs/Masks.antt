-- Bits of masks of sixteen bits, whichever lane is meant. Assumes nothing.
use Rattle.std.proofs.Common.{◌≡◌, ℕ, ◌-◌, ◌^◌, ◌<◌, ◌≤◌, true, false, cond, eqb, bit_and, bit_or, MatchOption, None, Some, Option, ap, ⊎_elim, w16, arith}
use Rattle.std.proofs.lemmas.Nat.Bits.{bit_at-lt, bit_at-pow_same, bit_at-pow_other, bit_at_above, bit_at_and, bit_at_not, bit_at_or}
use Rattle.std.proofs.lemmas.Bool.{cases_lt}
use Rattle.std.proofs.lemmas.Bool.Decides.{nat_tests}
use Rattle.sheet.specs.declared.lanes.LaneSet.{LaneSet}
use Rattle.sheet.specs.Lanes.{Least, NoneOf, has, on}

-- a mask has no lane from 16 on
pub on_above : (m k : ℕ) → m < 65_536 → 16 ≤ k → on m k ≡ false
on_above m k h le = ap (λ (d : ℕ). eqb d 1) (bit_at_above m 16 k h le)

pub on_set : (m lane k : ℕ) → on (bit_or m (2 ^ lane)) k ≡ cond (eqb k lane) true (on m k)
on_set m lane k = grind (arith, nat_tests, bit_at_or, bit_at-lt, bit_at-pow_same, bit_at-pow_other)

pub on_cleared : (m lane k : ℕ) → m < 65_536 → 2 ^ lane < 65_536 → on (bit_and m (65_535 - 2 ^ lane)) k ≡ cond (eqb k lane) false (on m k)
on_cleared m lane k h few = grind (arith, nat_tests, bit_at_and, bit_at-lt, bit_at_not w16, bit_at-pow_same, bit_at-pow_other, bit_at_above m 16 k h)

-- the first lane below 16 that a set has is its least, and without one it is empty
pub first_has : (s : LaneSet) → s.mask < 65_536 → (r : Option ℕ) → MatchOption r ((k : ℕ) → 0 ≤ k → k < 16 → has s k ≡ false) (λ l. (0 ≤ l) × (l < 16) × (l < 16 → has s l ≡ true) × ((k : ℕ) → 0 ≤ k → k < l → has s k ≡ false)) → MatchOption r (NoneOf (has s)) (Least (has s))
first_has s h None none = λ k. ⊎_elim (λ lt. none k (omega arith) lt) (λ ge. on_above s.mask k h ge) (cases_lt k 16)
first_has s h (Some l) found = record { picks = found.2 found.1; first = λ k lt. found.3 k (omega arith) lt }
