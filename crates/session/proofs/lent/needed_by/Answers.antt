use Rattle.std.proofs.Common.{◌*◌, ap}
use Rattle.session.proofs.Wording.{nodes_long}
use Rattle.session.proofs.lent.needed_by.Goals as goal
use Rattle.table.specs.Content.{tree}

pub returns : goal.returns
returns c = ap (λ k. 3 * k) (nodes_long (tree c.args.table.now) _ c.nodes.ensures.whole)
