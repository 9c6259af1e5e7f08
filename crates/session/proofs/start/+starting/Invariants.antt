use Rattle.std.proofs.Common.{◌+◌, ◌*◌, length}
use Rattle.session.proofs.start.+starting.Given as goal

abbrev pub decreases-start : goal.decreases-start
decreases-start g l = 3 * length l.nodes.now + 2

abbrev pub decreases-start_below : goal.decreases-start_below
decreases-start_below g l = 3 * length l.nodes.now + 1

abbrev pub decreases-start_both : goal.decreases-start_both
decreases-start_both g l = 3 * length l.nodes.now
