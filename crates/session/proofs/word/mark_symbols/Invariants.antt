use Rattle.std.proofs.Common.{◌≡◌, take}
use Rattle.session.proofs.word.mark_symbols.Given as goal
use Rattle.session.specs.Words.{marks_after}
use Rattle.table.specs.Tree.{tree_of}

abbrev pub invariant-loop-held : goal.invariant-loop-held
invariant-loop-held g l = l.marks ≡ marks_after g.W.Scale.ops g.S.Symbol.passing (tree_of l.nodes) (take l.held l.word)
