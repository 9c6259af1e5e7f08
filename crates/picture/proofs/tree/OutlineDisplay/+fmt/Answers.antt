use Rattle.std.proofs.Common.{rules}
use Rattle.std.proofs.Output.{has_written_of_eq, has_written_append}
use Rattle.picture.proofs.Trees.{fewer, whole_left, whole_right, outline_parts}
use Rattle.picture.proofs.tree.OutlineDisplay.+fmt.Goals as goal

pub invariant_of-left : goal.invariant_of-left
invariant_of-left g t c =
    let split = c.in-Some.ensures.cases.0 in
    let parts = c.apart.ensures in
    record {
      whole = whole_left _ split parts c.args.self.now.whole;
      shallow = (fewer _ split parts _ c.args.self.now.shallow).0;
    }

pub invariant_of-right : goal.invariant_of-right
invariant_of-right g t c =
    let split = c.in-Some.ensures.cases.0 in
    let parts = c.apart.ensures in
    record {
      whole = whole_right _ split parts c.args.self.now.whole;
      shallow = (fewer _ split parts _ c.args.self.now.shallow).1;
    }

pub returns-clause-writes : goal.returns-clause-writes
returns-clause-writes g t c plain ok =
    let split = c.in-Some.ensures.cases.0 in
    let parts = c.apart.ensures in
    let line = c.in_ok-fmt.ensures.writes plain (search rules) in
    let left = c.in_ok-fmt-2.ensures.writes line.plain (search rules) in
    let right = c.fmt-3.ensures.writes left.plain ok in
    has_written_of_eq _ _ _ _ _ (outline_parts _ split parts _ c.args.self.now.whole)
    (has_written_append _ _ _ _ _ _ line (has_written_append _ _ _ _ _ _ left right))
