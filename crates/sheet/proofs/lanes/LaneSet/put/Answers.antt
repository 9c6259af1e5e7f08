use Rattle.std.proofs.Common.{arith}
use Rattle.sheet.proofs.Masks.{on_set, on_cleared}
use Rattle.sheet.proofs.lanes.LaneSet.put.Goals as goal

pub returns-then-member : goal.returns-then-member
returns-then-member c = record { at = λ k. simp (c.flag-flag.ensures, c.if-member.true) (on_set c.args.self.mask c.args.lane k) }

pub returns-else-member : goal.returns-else-member
returns-else-member c = record { at = λ k. simp (c.flag-flag.ensures, c.if-member.false) (on_cleared c.args.self.mask c.args.lane k (omega arith) (omega arith)) }
