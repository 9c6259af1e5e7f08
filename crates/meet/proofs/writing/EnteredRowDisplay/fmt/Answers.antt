use Rattle.std.proofs.Common.{List, ℕ, ap, subst, arith}
use Rattle.std.specs.Fmt.{HasWritten, styled_decimal}
use Rattle.meet.proofs.Padding.{row_written}
use Rattle.meet.proofs.writing.EnteredRowDisplay.fmt.Goals as goal

pub returns-clause-writes : goal.returns-clause-writes
returns-clause-writes g c plain ok =
    subst (λ (bs : List ℕ). HasWritten g.W.Write.write_str_gives c.args.f.now bs c.writeln.new.self)
    (row_written c.args.self.now.lane c.args.self.now.count _ c.letter-letter.result.now (omega arith) (ap (λ s. styled_decimal s c.args.self.now.lane) c.laid_out.ensures) c.letter-letter.ensures)
    (c.writeln.ensures.writes plain ok)
