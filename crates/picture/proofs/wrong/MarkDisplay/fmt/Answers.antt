use Rattle.std.proofs.Common.{[], ◌∷◌, ◌++◌, ◌∙◌, sym, ap, arith}
use Rattle.std.specs.Fmt.{styled_text}
use Rattle.std.proofs.Output.{has_written_of_eq}
use Rattle.picture.specs.Report.{mark_line}
use Rattle.picture.proofs.Blanks.{mark_written}
use Rattle.picture.proofs.wrong.MarkDisplay.fmt.Goals as goal

pub returns-in-Some-clause-writes : goal.returns-in-Some-clause-writes
returns-in-Some-clause-writes g c plain ok =
    has_written_of_eq _ _ _ _ _ (ap (λ s. styled_text s [] ++ (94 ∷ 10 ∷ [])) c.laid_out.ensures ∙ mark_written _ c.in-Some.at (omega arith) ∙ ap mark_line (sym c.in-Some.is)) (c.writeln.ensures.writes plain ok)
