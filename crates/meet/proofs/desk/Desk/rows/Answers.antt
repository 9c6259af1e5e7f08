use Rattle.std.proofs.Common.{◌≡◌, ◌+◌, [], ◌∷◌, ◌++◌, length, vec_items, string_bytes, ap, ◌∙◌, inl, arith}
use Rattle.std.specs.Iterator.Adapters.{enumerate_count, enumerate_source}
use Rattle.lines.specs.Lines.{lines}
use Rattle.lines.specs.Rest.{lines_left}
use Rattle.sheet.specs.Calls.{filled}
use Rattle.table.specs.Content.{tree}
use Rattle.meet.specs.Meet.{filled_with, line_row, rows}
use Rattle.meet.specs.Parts.{lane_of}
use Rattle.meet.proofs.Running.{few_lines, next_filled, next_rows}
use Rattle.meet.proofs.desk.Desk.rows.Goals as goal

pub loop-number-init : goal.loop-number-init
loop-number-init c =
    let gives = c.into_iter-number-iterator.ensures.into_iter_gives in
    let left : lines_left (enumerate_source c.into_iter-number-iterator.result) ≡ lines c.args.results.now = ap (λ i. lines_left (enumerate_source i)) gives ∙ ap lines_left c.enumerate-number-items.ensures.source ∙ c.new.ensures in
    let none : enumerate_count c.into_iter-number-iterator.result ≡ 0 = ap enumerate_count gives ∙ c.enumerate-number-items.ensures.count in
    record {
      table = λ i. c.args.self.now.table.now;
      few = omega (arith, few_lines c.args.results.now, ap length left, none);
      written = ([], none, (λ k. c.requires k), ap (λ x. x ++ rows (tree c.args.self.now.table.now) [] (lines_left (enumerate_source c.into_iter-number-iterator.result))) c.new-out.ensures.items ∙ ap (rows (tree c.args.self.now.table.now) []) left);
    }

pub loop-number-init-derived : goal.loop-number-init-derived
loop-number-init-derived c =
    let gives = c.into_iter-number-iterator.ensures.into_iter_gives in
    let left : lines_left (enumerate_source c.into_iter-number-iterator.result) ≡ lines c.args.results.now = ap (λ i. lines_left (enumerate_source i)) gives ∙ ap lines_left c.enumerate-number-items.ensures.source ∙ c.new.ensures in
    let none : enumerate_count c.into_iter-number-iterator.result ≡ 0 = ap enumerate_count gives ∙ c.enumerate-number-items.ensures.count in
    ((tt, tt, inl (omega (arith, few_lines c.args.results.now, ap length left, none))), tt)

pub loop-number-preserved : goal.loop-number-preserved
loop-number-preserved c =
    let inv = c.loop-number.invariant in
    let p = tree c.args.self.now.table.now in
    let line = c.in-Some.line.now in
    let before = inv.written.0 in
    let f = filled c.loop-number.self.sheet in
    let steps = c.in-Some.ensures.steps in
    record {
      table = c.in_ok-row.ensures.table ∙ inv.table;
      few = omega (arith, inv.few, ap length steps.0, steps.2);
      written = (
        line ∷ before,
        omega (arith, inv.written.1, steps.2),
        (λ k. next_filled p before line f inv.written.2 k _ (c.in_ok-row.ensures.lanes k ∙ ap (λ t. filled_with (tree t) line f k) inv.table)),
        next_rows p before line f inv.written.2 _ _ (vec_items c.loop-number.out) (vec_items c.extend_from_slice.new.self) c.as_bytes.result.now (string_bytes c.in_ok-row.row) (rows p [] (lines c.args.results.now)) c.in-Some.number (steps.1 ∙ inv.written.1) steps.0 c.in_ok-extend_from_slice.ensures.items c.as_bytes.ensures.value (c.in_ok-row.ensures.row ∙ ap (λ t. line_row (tree t) (c.in-Some.number + 1) (f (lane_of line)) line) inv.table) inv.written.3,
      );
    }
