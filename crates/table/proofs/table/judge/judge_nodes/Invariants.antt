use Rattle.table.proofs.Verdicts.{Onward}
use Rattle.table.proofs.table.judge.judge_nodes.Given as goal

abbrev pub invariant-loop-at : goal.invariant-loop-at
invariant-loop-at g l = Onward g.S.Symbol.admitted l.nodes l.at
