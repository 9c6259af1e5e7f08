use Rattle.std.proofs.Common.{◌+◌, ◌*◌, length}
use Rattle.session.proofs.marks.+shifting.Given as goal

abbrev pub decreases-shift : goal.decreases-shift
decreases-shift g l = 3 * length l.nodes.now + 2

abbrev pub decreases-shift_either : goal.decreases-shift_either
decreases-shift_either g l = 3 * length l.nodes.now

abbrev pub decreases-shift_inner : goal.decreases-shift_inner
decreases-shift_inner g l = 3 * length l.nodes.now + 1

abbrev pub decreases-shift_repeat : goal.decreases-shift_repeat
decreases-shift_repeat g l = 3 * length l.nodes.now

abbrev pub decreases-shift_then : goal.decreases-shift_then
decreases-shift_then g l = 3 * length l.nodes.now
