use Rattle.std.proofs.Common.{Err, subst, inr}
use Rattle.std.proofs.lemmas.Result.{err_from_is_err_and}
use Rattle.text.specs.Reads.{Answers}
use Rattle.text.specs.Tables.{Tabled}
use Rattle.meet.proofs.patterns.tables_of.Goals as goal

pub returns-in_err-club : goal.returns-in_err-club
returns-in_err-club c =
    let p = err_from_is_err_and c.from_residual-in_err-club.result c.from_residual-in_err-club.ensures.1 in
    let line = subst (λ s. Tabled s c.in_ok-line.line) c.pattern_text.ensures c.in_ok-line.ensures in
    let club = subst (λ s. Answers s 512 (Err c.in_err-club.field-0.0)) c.pattern_text-2.ensures c.in_err-club.ensures in
    rw (p.1, p.2) (inr ((c.in_ok-line.line, line), club))
