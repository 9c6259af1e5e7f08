use Rattle.std.proofs.Common.{sym, subst}
use Rattle.sheet.specs.Weighing.{Consistent}
use Rattle.sheet.proofs.Counted.{consistent}
use Rattle.sheet.proofs.sheet.Sheet.enter.Goals as goal

pub entry_of-standing-requires : goal.entry_of-standing-requires
entry_of-standing-requires c = subst Consistent (sym c.weigh-weight.ensures.weight) (consistent c.args.table.now c.args.line.now)
