use Rattle.session.proofs.Wording.{follows}
use Rattle.session.proofs.word.mark_symbol.Goals as goal
use Rattle.table.specs.Tree.{tree_of}

pub returns : goal.returns
returns g c = follows g.W.Scale.ops g.W.Scale.laws g.S.Symbol.passing (tree_of c.args.nodes.now) c.args.marks.now c.args.held c.args.symbol _ _ _ c.to_root.ensures c.shift.ensures.shifted
