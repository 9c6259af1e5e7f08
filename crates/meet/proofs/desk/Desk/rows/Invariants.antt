use Rattle.std.proofs.Common.{◌≡◌, ℕ, ◌+◌, ◌≤◌, List, [], ◌++◌, length, vec_items}
use Rattle.std.specs.Iterator.Adapters.{enumerate_count, enumerate_source}
use Rattle.lines.specs.Lines.{lines}
use Rattle.lines.specs.Rest.{lines_left}
use Rattle.meet.specs.Meet.{filled_by, rows}
use Rattle.sheet.specs.Calls.{filled}
use Rattle.table.specs.Content.{tree}
use Rattle.meet.proofs.desk.Desk.rows.Given as goal

abbrev pub invariant-loop-number : goal.invariant-loop-number
invariant-loop-number l = record {
  table : l.self.table.now ≡ l.initial.self.table.now;
  few : enumerate_count l.number-iterator + length (lines_left (enumerate_source l.number-iterator)) ≤ length l.results;
  written : (before : List (List ℕ))
      × (enumerate_count l.number-iterator ≡ length before)
      × ((k : ℕ) → filled l.self.sheet k ≡ filled_by (tree l.initial.self.table.now) before k)
      × (vec_items l.out ++ rows (tree l.initial.self.table.now) before (lines_left (enumerate_source l.number-iterator)) ≡ rows (tree l.initial.self.table.now) [] (lines l.results));
}
