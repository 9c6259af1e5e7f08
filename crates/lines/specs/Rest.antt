-- The lines that an iterator over a file has still to hand out. Assumes nothing.
use Rattle.std.specs.Prelude.{ℕ, List}
use Rattle.lines.specs.declared.Lines.{Lines}
use Rattle.lines.specs.Lines as file

abbrev pub lines_left : Lines → List (List ℕ)
lines_left l = file.lines l.rest.now
