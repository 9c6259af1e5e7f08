use Rattle.std.proofs.Common.{[], ◌∷◌, ◌++◌, ap, ◌∙◌}
use Rattle.std.specs.Fmt.{styled_text}
use Rattle.std.proofs.Output.{has_written_of_eq}
use Rattle.picture.specs.Words.{node_words}
use Rattle.picture.proofs.Blanks.{filled}
use Rattle.picture.proofs.tree.LineDisplay.fmt.Goals as goal

pub returns-clause-writes : goal.returns-clause-writes
returns-clause-writes g c plain ok =
    has_written_of_eq _ _ _ _ _ (ap (λ s. styled_text s [] ++ (node_words c.args.self.now.node.now ++ 10 ∷ [])) c.laid_out.ensures ∙ ap (λ b. b ++ (node_words c.args.self.now.node.now ++ 10 ∷ [])) (filled _)) (c.writeln.ensures.writes plain ok)
