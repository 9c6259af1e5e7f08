use Rattle.std.proofs.Common.{sym, ◌∙◌, arith}
use Rattle.session.proofs.Shapes.{writes, binary_nodes, all_long, right_root, left_nodes, right_nodes}
use Rattle.session.proofs.marks.operands.Goals as goal
use Rattle.table.specs.Tree.{tree_of}
use Rattle.session.specs.Shifts.{left_of, right_of}

pub overflow_sub-top-3 : goal.overflow_sub-top-3
overflow_sub-top-3 c =
    let nodes = c.args.nodes.now in
    let tree = tree_of nodes in
    let split = binary_nodes tree c.requires.two in
    let e = sym c.requires.whole ∙ split.1 in
    omega (arith, c.from-right.ensures, all_long (left_of tree) (right_of tree) split.0 nodes e, right_root (left_of tree) (right_of tree) split.0 nodes e)

pub returns-clause-left : goal.returns-clause-left
returns-clause-left c =
    let nodes = c.args.nodes.now in
    let tree = tree_of nodes in
    let split = binary_nodes tree c.requires.two in
    let e = sym c.requires.whole ∙ split.1 in
    writes _ _ (sym (c.split_at.ensures.front ∙ left_nodes (left_of tree) (right_of tree) split.0 nodes e _ (c.from-right.ensures ∙ right_root (left_of tree) (right_of tree) split.0 nodes e)))

pub returns-clause-right : goal.returns-clause-right
returns-clause-right c =
    let nodes = c.args.nodes.now in
    let tree = tree_of nodes in
    let split = binary_nodes tree c.requires.two in
    let e = sym c.requires.whole ∙ split.1 in
    writes _ _ (sym (c.split_at.ensures.back ∙ right_nodes (left_of tree) (right_of tree) split.0 nodes e _ (c.from-right.ensures ∙ right_root (left_of tree) (right_of tree) split.0 nodes e)))
