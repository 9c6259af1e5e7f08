-- What the answers of accepted calls say of standings. Assumes nothing.
use Rattle.std.proofs.Common.{◌≡◌, ℕ, ◌≤◌, true, false, cond, leb, Some, None, Ok, ap, arith}
use Rattle.std.proofs.lemmas.Bool.Decides.{nat_tests}
use Rattle.scale.specs.declared.count.weight.Count.{Count}
use Rattle.scale.specs.declared.pair.Pair.{Pair}
use Rattle.scale.specs.declared.price.weight.Price.{Price}
use Rattle.sheet.specs.declared.entry.Entry.{Entry}
use Rattle.sheet.specs.declared.entry.Entry.TheVariants as entries
use Rattle.sheet.specs.declared.slip.Slip.{Slip}
use Rattle.sheet.specs.declared.standing.Standing.TheVariants.{Owed}
use Rattle.sheet.specs.Account.{gives}
use Rattle.sheet.specs.Entries.{outcome, due, placed}
use Rattle.sheet.specs.History.{Ruling, becomes}
use Rattle.sheet.specs.Slips.{new_slip}
use Rattle.sheet.specs.Standings.{same}
use Rattle.sheet.proofs.Grades.{more, Grade}

pub placed_owed : (n : ℕ) → same (placed n) Owed ≡ more (placed n)
placed_owed n = grind arith

-- a slip comes with two readings or more
slip_more : (n : ℕ) (p q : Slip) → Some p ≡ cond (leb 2 n) (Some q) None → true ≡ more (placed n)
slip_more n p q e = grind (arith, nat_tests)

pub gives_more : (e : Entry) (number lane : ℕ) (x : Pair Count Price) → outcome e ≡ due number lane x → gives (Ok e) ≡ more (placed x.first.value)
gives_more entries.Unreadable number lane x o = ap (λ y. more (placed y.count)) o
gives_more (entries.Clean p) number lane x o = ap (λ y. more (placed y.count)) o
gives_more (entries.Owed p s) number lane x o = slip_more x.first.value s (new_slip number lane x.first.value) (ap (λ y. y.slip) o)

-- the slip in an answer is the one that is due
slip_same : (n : ℕ) (p q : Slip) → Some p ≡ cond (leb 2 n) (Some q) None → p ≡ q
slip_same n p q e = grind (arith, nat_tests)

pub slip_due : (price : ℕ) (p : Slip) (number lane : ℕ) (x : Pair Count Price) → outcome (entries.Owed price p) ≡ due number lane x → p ≡ new_slip number lane x.first.value
slip_due price p number lane x o = slip_same x.first.value p (new_slip number lane x.first.value) (ap (λ y. y.slip) o)

pub becomes_more : (r : Ruling) → more (becomes r) ≡ true
becomes_more r = grind arith

pub becomes_settled : (r : Ruling) → same (becomes r) Owed ≡ false
becomes_settled r = grind arith

pub becomes_grade : (r : Ruling) (n : ℕ) → 2 ≤ n → Grade (becomes r) n
becomes_grade r n g = grind arith
