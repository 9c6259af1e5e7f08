use Rattle.std.proofs.Common.{length, Ok, ap, ◌∙◌, subst}
use Rattle.sheet.specs.Account.{gives}
use Rattle.sheet.specs.declared.standing.Standing.TheVariants.{Struck}
use Rattle.sheet.specs.Calls.{Ruled, matches}
use Rattle.sheet.specs.Closes.{Closes}
use Rattle.sheet.proofs.Owing.{slip_matches}
use Rattle.cases.proofs.Slips.{as_owed, entry_as_owed, struck_as_owed, still_open, struck_by}
use Rattle.cases.proofs.settled.Owing.enter.Goals as goal

pub invariant_of-same_twice-in-Ok-Unreadable : goal.invariant_of-same_twice-in-Ok-Unreadable
invariant_of-same_twice-in-Ok-Unreadable c =
    let e = c.in-Ok-Unreadable in
    let o = as_owed c.args.self.sheet c.enter.new.self c.args.self.slip e.ensures.entered.2.numbered (entry_as_owed c.args.lane c.args.line.now c.args.table.now (length c.args.weights.now) e.field-0 c.args.self.sheet c.enter.new.self e.ensures.entered (ap (λ x. gives (Ok x)) e.field-0-is)) c.args.self.fits c.args.self.only in
    record { fits = o.0; only = o.1 }

pub invariant_of-same_twice-in-Ok-Clean : goal.invariant_of-same_twice-in-Ok-Clean
invariant_of-same_twice-in-Ok-Clean c =
    let e = c.in-Ok-Clean in
    let o = as_owed c.args.self.sheet c.enter.new.self c.args.self.slip e.ensures.entered.2.numbered (entry_as_owed c.args.lane c.args.line.now c.args.table.now (length c.args.weights.now) e.field-0 c.args.self.sheet c.enter.new.self e.ensures.entered (ap (λ x. gives (Ok x)) e.field-0-is)) c.args.self.fits c.args.self.only in
    record { fits = o.0; only = o.1 }

pub unwrap_err-fault-requires : goal.unwrap_err-fault-requires
unwrap_err-fault-requires c =
    let e = c.in-Ok-Owed in
    let fits = slip_matches c.args.lane c.args.line.now c.args.table.now (length c.args.weights.now) e.field-0 c.args.self.sheet c.enter.new.self e.ensures.entered e.price e.second e.field-0-is in
    still_open c.enter.new.self e.second fits c.close.result c.close.ensures.closes

pub unwrap-requires : goal.unwrap-requires
unwrap-requires c =
    let e = c.in-Ok-Owed in
    let fits = slip_matches c.args.lane c.args.line.now c.args.table.now (length c.args.weights.now) e.field-0 c.args.self.sheet c.enter.new.self e.ensures.entered e.price e.second e.field-0-is in
    let closed = subst (Closes c.enter.new.self) c.unwrap_err-fault.ensures c.close.ensures.closes in
    struck_by c.unwrap_err-fault.result.sheet c.strike.new.self e.second (ap (λ v. matches v e.second) closed.0 ∙ fits) c.strike.result c.strike.ensures

pub invariant_of-result : goal.invariant_of-result
invariant_of-result c =
    let e = c.in-Ok-Owed in
    let still = c.unwrap_err-fault.result.sheet in
    let closed = subst (Closes c.enter.new.self) c.unwrap_err-fault.ensures c.close.ensures.closes in
    let struck = subst (λ r. Ruled Struck e.second r still c.strike.new.self) c.unwrap.ensures c.strike.ensures in
    let owed = struck_as_owed c.args.lane c.args.line.now c.args.table.now (length c.args.weights.now) e.field-0 c.args.self.sheet c.enter.new.self e.ensures.entered e.price e.second e.field-0-is still c.strike.new.self closed.0 struck.1 in
    let o = as_owed c.args.self.sheet c.strike.new.self c.args.self.slip (struck.1.numbered ∙ ap (λ v. v.number) closed.0 ∙ e.ensures.entered.2.numbered) owed c.args.self.fits c.args.self.only in
    record { fits = o.0; only = o.1 }
