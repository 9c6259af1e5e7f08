use Rattle.std.proofs.Common.{length, arith}
use Rattle.std.proofs.lemmas.Result.{err_from_is_err_and}
use Rattle.text.proofs.Wholes.{stop_answers, fits, left}
use Rattle.text.proofs.reader.read_nodes.Goals as goal

pub returns-in_err-count-clause-answer : goal.returns-in_err-count-clause-answer
returns-in_err-count-clause-answer c =
    let p = err_from_is_err_and c.from_residual.result c.from_residual.ensures.1 in
    rw p.1 (stop_answers c.args.text.now (length c.args.nodes.now) _ _ c.if-text-gt-MOST_BYTES.false c.in_err-count.ensures p.2)

pub returns-then-count-gt-MOST_NODES-clause-answer : goal.returns-then-count-gt-MOST_NODES-clause-answer
returns-then-count-gt-MOST_NODES-clause-answer c =
    let w = c.in_ok-count.ensures in
    (w.0, fits c.args.text.now _ _ _ c.if-text-gt-MOST_BYTES.false w, w.2, c.if-count-gt-MOST_NODES.true)

pub returns-then-count-nodes-clause-answer : goal.returns-then-count-nodes-clause-answer
returns-then-count-nodes-clause-answer c =
    let w = c.in_ok-count.ensures in
    (w.0, fits c.args.text.now _ _ _ c.if-text-gt-MOST_BYTES.false w, w.2, c.if-count-gt-MOST_NODES.false, omega (arith, c.if-count-nodes.true))

pub returns-clause-answer : goal.returns-clause-answer
returns-clause-answer c =
    let w = c.in_ok-count.ensures in
    (w.0, fits c.args.text.now _ _ _ c.if-text-gt-MOST_BYTES.false w, w.2, c.if-count-gt-MOST_NODES.false, omega (arith, c.if-count-nodes.false))

pub returns-clause-after : goal.returns-clause-after
returns-clause-after c = left c.args.text.now _ _ _ c.if-text-gt-MOST_BYTES.false c.in_ok-count.ensures (omega (arith, c.if-count-nodes.false))
