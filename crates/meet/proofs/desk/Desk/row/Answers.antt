use Rattle.meet.proofs.Rowing.{answer_lanes}
use Rattle.meet.proofs.desk.Desk.row.Goals as goal

pub returns-clause-lanes : goal.returns-clause-lanes
returns-clause-lanes c = answer_lanes c.args.line.now c.args.self.now.table.now c.args.self.now.sheet c.settle-answer.new.self.sheet _ _ c.laned-lane.ensures.lane c.laned-lane.ensures.text c.settle-answer.result c.settle-answer.ensures.settled
