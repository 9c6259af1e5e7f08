use Rattle.std.proofs.Common.{sym, ◌∙◌, ap}
use Rattle.session.proofs.Shapes.{writes, only_nodes}
use Rattle.session.proofs.marks.operand.Goals as goal
use Rattle.table.specs.Tree.{postfix, tree_of}
use Rattle.session.specs.Shifts.{left_of}

pub returns-clause-only : goal.returns-clause-only
returns-clause-only c = writes _ _ (sym (only_nodes (left_of (tree_of c.args.nodes.now)) c.args.nodes.now (ap postfix (sym c.requires.one) ∙ c.requires.whole)))
