use Rattle.text.proofs.Tabling.{tabled}
use Rattle.text.proofs.judged.table_of.Goals as goal

pub returns : goal.returns
returns c =
    let r = c.in_ok-count.ensures in
    tabled c.args.text.now c.judge.new.self _ _ c.in_ok-count.count r.answer r.after (rw c.unwrap.ensures at c.judge.ensures.after)
