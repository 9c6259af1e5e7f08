-- What is known of an entry that nothing refuses. Assumes nothing.
use Rattle.std.proofs.Common.{◌≡◌, ℕ, ◌≤◌, Bool, false, List, length, None, arith}
use Rattle.std.proofs.lemmas.Bool.Decides.{nat_tests}
use Rattle.table.specs.declared.table.Table.{Table}
use Rattle.table.specs.Content.{content}
use Rattle.table.specs.Kinds.{byte_number}
use Rattle.session.specs.Faults.{most_symbols}
use Rattle.sheet.specs.Refusals.{entry_refusal}
use Rattle.sheet.specs.Weighing.{needed}

pub record Accepted (filled : Bool) (lane : ℕ) (line : List ℕ) (table : Table) (room : ℕ) : Type 0 where
  pub kind : (content table).kind ≡ byte_number
  pub roomy : needed table ≤ room
  pub low : 1 ≤ lane
  pub high : lane ≤ 10
  pub short : length line ≤ most_symbols
  pub empty : filled ≡ false

pub accepted : (filled : Bool) (lane : ℕ) (line : List ℕ) (table : Table) (room : ℕ) → entry_refusal filled lane line table room ≡ None → Accepted filled lane line table room
accepted filled lane line table room e = grind (arith, nat_tests)
