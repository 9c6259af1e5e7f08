-- What is answered when a line is entered: count, price and slip. Assumes nothing.
use Rattle.std.specs.Prelude.{ℕ, zero, suc, cond, Some, None, Option, nat_le}
use Rattle.scale.specs.declared.count.weight.Count.{Count}
use Rattle.scale.specs.declared.pair.Pair.{Pair}
use Rattle.scale.specs.declared.price.weight.Price.{Price}
use Rattle.sheet.specs.declared.entry.Entry.{Entry}
use Rattle.sheet.specs.declared.entry.Entry.TheVariants.{Unreadable, Clean, Owed}
use Rattle.sheet.specs.declared.slip.Slip.{Slip}
use Rattle.sheet.specs.declared.standing.Standing.{Standing}
use Rattle.sheet.specs.declared.standing.Standing.TheVariants as standings
use Rattle.sheet.specs.Slips.{new_slip}

pub record Outcome : Type 0 where
  pub count : ℕ
  pub price : ℕ
  pub slip : Option Slip

-- the values that each answer carries
abbrev pub outcome : Entry → Outcome
outcome Unreadable = record { count = 0; price = 18_446_744_073_709_551_615; slip = None }
outcome (Clean p) = record { count = 1; price = p; slip = None }
outcome (Owed p s) = record { count = s.count; price = p; slip = Some s }

-- those that a line of that weight is owed: its count, its price, and a slip where there are two readings or more
abbrev pub due : ℕ → ℕ → Pair Count Price → Outcome
due number lane x = record {
  count = x.first.value;
  price = x.second.value;
  slip = cond (nat_le 2 x.first.value) (Some (new_slip number lane x.first.value)) None;
}

-- where a line of that many readings puts its lane
abbrev pub placed : ℕ → Standing
placed zero = standings.Unfilled
placed (suc zero) = standings.Clean
placed (suc (suc n)) = standings.Owed
