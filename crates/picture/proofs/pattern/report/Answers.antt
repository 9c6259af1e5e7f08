use Rattle.picture.proofs.Reports.{reported_nodes, reported_fault}
use Rattle.picture.proofs.pattern.report.Goals as goal

pub returns-in-Ok : goal.returns-in-Ok
returns-in-Ok c = reported_nodes _ c.args.title.now c.args.text.now _ _ c.in-Ok.ensures c.nodes.ensures.value c.format.ensures.ok

pub returns-in-Err : goal.returns-in-Err
returns-in-Err c = reported_fault _ c.args.title.now c.args.text.now _ c.in-Err.ensures c.format-in-Err.ensures.ok
