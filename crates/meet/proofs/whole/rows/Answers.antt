use Rattle.std.proofs.Common.{vec_items, ap, ◌∙◌}
use Rattle.std.proofs.lemmas.Result.{IfOk-weaker}
use Rattle.meet.proofs.Judging.{by_rows, by_fault}
use Rattle.meet.proofs.whole.rows.Goals as goal

pub returns-in-Ok : goal.returns-in-Ok
returns-in-Ok c =
    let d = c.in-Ok.ensures in
    let t = c.in-Ok.tables in
    IfOk-weaker c.rows_by.result _ _ (λ v e. by_rows c.args.patterns.now c.args.results.now (vec_items v) t.line t.club d.0 d.1 e) c.rows_by.ensures

pub returns-in_ok-pattern_fault-in-Err : goal.returns-in_ok-pattern_fault-in-Err
returns-in_ok-pattern_fault-in-Err c =
    by_fault c.args.patterns.now c.args.results.now _ c.in-Err.fault c.in-Err.ensures
    (ap vec_items c.into_bytes.ensures.value ∙ c.in_ok-pattern_fault-in-Err.ensures)
