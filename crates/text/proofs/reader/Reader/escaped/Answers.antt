use Rattle.std.proofs.lemmas.Result.{err_from_is_err_and}
use Rattle.text.proofs.Ranges.{escape_stops, escape_read}
use Rattle.text.proofs.reader.Reader.escaped.Goals as goal

pub returns-in_err-b : goal.returns-in_err-b
returns-in_err-b c =
    let p = err_from_is_err_and c.from_residual.result c.from_residual.ensures.1 in
    rw (p.1, p.2) (escape_stops _ _ c.requires c.skip.ensures _ c.in_err-b.ensures)

pub returns : goal.returns
returns c = escape_read _ _ c.requires c.skip.ensures _ c.in_ok-b.ensures _ c.leaf.ensures _ c.take.ensures
