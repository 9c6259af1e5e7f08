use Rattle.std.proofs.Common.{length}
use Rattle.picture.proofs.tree.OutlineDisplay.+fmt.Given as goal

abbrev pub decreases-fmt : goal.decreases-fmt
decreases-fmt g l = length l.self.now.nodes.now
