use Rattle.std.proofs.Common.{length}
use Rattle.text.proofs.Unique.{unambiguous, one_answer}
use Rattle.text.proofs.Wholes.{judged}
use Rattle.text.proofs.reader.read.Goals as goal

pub returns-then-is_err-clause-only : goal.returns-then-is_err-clause-only
returns-then-is_err-clause-only c a h = one_answer c.args.text.now (length c.args.nodes.now) a _ h c.read_nodes-answer.ensures.answer

pub returns-then-is_err-clause-unambiguous : goal.returns-then-is_err-clause-unambiguous
returns-then-is_err-clause-unambiguous c = unambiguous c.args.text.now

pub returns-else-is_err-clause-only : goal.returns-else-is_err-clause-only
returns-else-is_err-clause-only c a h = one_answer c.args.text.now (length c.args.nodes.now) a _ h c.read_nodes-answer.ensures.answer

pub returns-else-is_err-clause-unambiguous : goal.returns-else-is_err-clause-unambiguous
returns-else-is_err-clause-unambiguous c = unambiguous c.args.text.now

pub returns-else-is_err-clause-judged : goal.returns-else-is_err-clause-judged
returns-else-is_err-clause-judged c = judged c.args.text.now c.args.nodes.now _ _ c.read_nodes-answer.ensures.answer c.read_nodes-answer.ensures.after
