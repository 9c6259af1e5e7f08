use Rattle.std.proofs.lemmas.Result.{err_from_is_err_and}
use Rattle.text.proofs.Ranges.{low_stops, dash_stops, high_stops, order_stops, close_stops, range_read}
use Rattle.text.proofs.reader.Reader.range.Goals as goal

pub returns-in_err-low : goal.returns-in_err-low
returns-in_err-low c =
    let p = err_from_is_err_and c.from_residual.result c.from_residual.ensures.1 in
    rw (p.1, p.2) (low_stops _ _ c.requires c.skip.ensures _ c.in_err-low.ensures)

pub returns-in_err-expect : goal.returns-in_err-expect
returns-in_err-expect c =
    let p = err_from_is_err_and c.from_residual-in_err-expect.result c.from_residual-in_err-expect.ensures.1 in
    rw (p.1, p.2) (dash_stops _ _ c.requires c.skip.ensures _ _ c.in_ok-low.ensures _ c.in_err-expect.ensures)

pub returns-in_err-high : goal.returns-in_err-high
returns-in_err-high c =
    let p = err_from_is_err_and c.from_residual-in_err-high.result c.from_residual-in_err-high.ensures.1 in
    rw (p.1, p.2) (high_stops _ _ c.requires c.skip.ensures _ _ c.in_ok-low.ensures _ c.in_ok-expect.ensures _ c.in_err-high.ensures)

pub returns-then-high-low : goal.returns-then-high-low
returns-then-high-low c =
    order_stops _ _ c.requires c.skip.ensures _ _ c.in_ok-low.ensures _ c.in_ok-expect.ensures _ c.in_ok-high.ensures c.if-high-low.true

pub returns-in_err-expect-2 : goal.returns-in_err-expect-2
returns-in_err-expect-2 c =
    let p = err_from_is_err_and c.from_residual-in_err-expect-2.result c.from_residual-in_err-expect-2.ensures.1 in
    rw (p.1, p.2) (close_stops _ _ c.requires c.skip.ensures _ _ c.in_ok-low.ensures _ c.in_ok-expect.ensures _ c.in_ok-high.ensures c.if-high-low.false _ c.skip-2.ensures _ c.in_err-expect-2.ensures)

pub returns : goal.returns
returns c =
    range_read _ _ c.requires c.skip.ensures _ _ c.in_ok-low.ensures _ c.in_ok-expect.ensures _ c.in_ok-high.ensures c.if-high-low.false _ c.skip-2.ensures _ c.in_ok-expect-2.ensures _ c.leaf.ensures _ c.push.ensures
