use Rattle.std.proofs.Common.{length}
use Rattle.sheet.proofs.Owing.{slip_matches}
use Rattle.cases.proofs.Slips.{only_slip}
use Rattle.cases.proofs.settled.Settled.enter.Goals as goal

pub invariant_of-result-in-Ok-Owed : goal.invariant_of-result-in-Ok-Owed
invariant_of-result-in-Ok-Owed c =
    let o = c.in-Ok-Owed in
    record {
      fits = slip_matches c.args.lane c.args.line.now c.args.table.now (length c.args.weights.now) o.field-0 c.args.self.sheet c.enter.new.self o.ensures.entered o.price o.slip o.field-0-is;
      only = only_slip c.args.lane c.args.line.now c.args.table.now (length c.args.weights.now) o.field-0 c.args.self.sheet c.enter.new.self o.ensures.entered o.price o.slip o.field-0-is c.args.self.none;
    }
