use Rattle.table.proofs.Postfix.{tree_alone}
use Rattle.table.proofs.Verdicts.{answer_means, answer_whole}
use Rattle.table.proofs.table.judge.judge_list.Goals as goal

pub returns : goal.returns
returns g c =
    let e = c.judge_steps.ensures in
    record { answer = e; means = answer_means _ _ _ e; whole = answer_whole g.S.Symbol.admitted _ _ e; alone = λ t. tree_alone t _ }
