use Rattle.std.proofs.Common.{arith}
use Rattle.sheet.proofs.Masks.{on_above}
use Rattle.sheet.proofs.lanes.LaneSet.has.Goals as goal

pub returns-clause-value : goal.returns-clause-value
returns-clause-value c = grind (arith, on_above)
