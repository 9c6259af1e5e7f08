use Rattle.std.proofs.Common.{length, sym, ap, arith}
use Rattle.std.proofs.lemmas.Result.{err_from_is_err_and}
use Rattle.sheet.specs.Entries.{outcome}
use Rattle.meet.proofs.Running.{room_enough}
use Rattle.meet.proofs.Settling.{settled_plain, settled_refused, strike_given, strike_owes, strike_settles}
use Rattle.meet.proofs.desk.Desk.settle.Goals as goal

pub returns-in_err-enter-clause-settled : goal.returns-in_err-enter-clause-settled
returns-in_err-enter-clause-settled c =
    let p = err_from_is_err_and c.from_residual.result c.from_residual.ensures.1 in
    let desk = c.args.self.now in
    rw (p.1, p.2) (settled_refused c.args.lane c.args.line.now desk.table.now (length desk.weights) desk.bytes (omega (arith, room_enough desk.table.now)) c.in_err-enter.field-0.0 desk.sheet c.enter.new.self c.in_err-enter.ensures.entered)

pub returns-in-Unreadable-clause-settled : goal.returns-in-Unreadable-clause-settled
returns-in-Unreadable-clause-settled c =
    let desk = c.args.self.now in
    settled_plain c.args.lane c.args.line.now desk.table.now (length desk.weights) desk.bytes (omega (arith, room_enough desk.table.now)) c.in_ok-enter.field-0 desk.sheet c.enter.new.self c.in_ok-enter.ensures.entered 0 (sym (ap (λ e. (outcome e).count) c.in-Unreadable.is))

pub returns-in-Clean-clause-settled : goal.returns-in-Clean-clause-settled
returns-in-Clean-clause-settled c =
    let desk = c.args.self.now in
    settled_plain c.args.lane c.args.line.now desk.table.now (length desk.weights) desk.bytes (omega (arith, room_enough desk.table.now)) c.in_ok-enter.field-0 desk.sheet c.enter.new.self c.in_ok-enter.ensures.entered 1 (sym (ap (λ e. (outcome e).count) c.in-Clean.is))

pub invariant_of-self-in-Owed : goal.invariant_of-self-in-Owed
invariant_of-self-in-Owed c =
    let desk = c.args.self.now in
    record {
      bytes = desk.bytes;
      settled = strike_owes c.args.lane c.args.line.now desk.table.now (length desk.weights) c.in_ok-enter.field-0 desk.sheet c.enter.new.self c.in_ok-enter.ensures.entered c.in-Owed.price c.in-Owed.slip c.in-Owed.is c.strike.new.self c.strike.result c.strike.ensures desk.settled;
    }

pub unwrap-requires : goal.unwrap-requires
unwrap-requires c =
    let desk = c.args.self.now in
    strike_given c.args.lane c.args.line.now desk.table.now (length desk.weights) c.in_ok-enter.field-0 desk.sheet c.enter.new.self c.in_ok-enter.ensures.entered c.in-Owed.price c.in-Owed.slip c.in-Owed.is c.strike.new.self c.strike.result c.strike.ensures

pub returns-in-Owed-clause-settled : goal.returns-in-Owed-clause-settled
returns-in-Owed-clause-settled c =
    let desk = c.args.self.now in
    strike_settles c.args.lane c.args.line.now desk.table.now (length desk.weights) c.in_ok-enter.field-0 desk.sheet c.enter.new.self c.in_ok-enter.ensures.entered c.in-Owed.price c.in-Owed.slip c.in-Owed.is c.strike.new.self c.strike.result c.strike.ensures desk.bytes (omega (arith, room_enough desk.table.now)) c.count-count.result c.count-count.ensures
