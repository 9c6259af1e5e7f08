use Rattle.std.proofs.Common.{arith}
use Rattle.std.proofs.lemmas.Iterator.Consumers.{nth_from_yields_List, YieldsList-from_first}
use Rattle.lines.proofs.nth_line.Goals as goal
use Rattle.lines.specs.Rest.{lines_left}

pub returns : goal.returns
returns c =
    let found = nth_from_yields_List _ c.nth.new.self _ c.nth.ensures.ran (YieldsList-from_first (λ x. x.now) lines_left _ c.new.ensures) in
    grind (arith, found)
