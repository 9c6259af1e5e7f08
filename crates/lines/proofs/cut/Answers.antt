use Rattle.std.proofs.Common.{◌+◌, rules, arith, sym, ◌∙◌, false-eqb}
use Rattle.lines.proofs.Joins.{lawful, cut_at_end, cut_without_end}
use Rattle.lines.proofs.cut.Goals as goal
use Rattle.std.proofs.lemmas.List.{take_rest}

pub returns-in-Some-clause-parts : goal.returns-in-Some-clause-parts
returns-in-Some-clause-parts c =
    let parts = cut_at_end c.args.file.now _ c.in-Some.end (search rules) (take_rest c.args.file.now (c.in-Some.end + 1)) in
    grind (arith, parts)

pub returns-in-Some-clause-law : goal.returns-in-Some-clause-law
returns-in-Some-clause-law c = lawful _

pub returns-in-None-clause-law : goal.returns-in-None-clause-law
returns-in-None-clause-law c = lawful _

pub returns-in-None-2-clause-parts : goal.returns-in-None-2-clause-parts
returns-in-None-2-clause-parts c = cut_without_end _ (search rules) (false-eqb _ 0 (sym c.if-is_empty.false ∙ c.is_empty.ensures))

pub returns-in-None-2-clause-law : goal.returns-in-None-2-clause-law
returns-in-None-2-clause-law c = lawful _
