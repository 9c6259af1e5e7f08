use Rattle.table.specs.Tree.{tree_of}
use Rattle.session.proofs.Shapes.{root_decoded}
use Rattle.session.proofs.marks.root_kind.Goals as goal

pub unwrap-requires : goal.unwrap-requires
unwrap-requires c = root_decoded (tree_of c.args.nodes.now) c.args.nodes.now c.requires.whole c.try_from.result c.try_from.ensures
