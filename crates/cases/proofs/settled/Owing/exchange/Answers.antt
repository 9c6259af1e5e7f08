use Rattle.std.proofs.Common.{sym, ◌∙◌}
use Rattle.cases.proofs.Slips.{other_slip}
use Rattle.cases.proofs.settled.Owing.exchange.Goals as goal

pub invariant_of-result : goal.invariant_of-result
invariant_of-result c = let o = other_slip c.args.self.sheet c.args.self.slip c.args.other.slip (sym c.sheet-2.ensures ∙ sym c.if-not-same_number.false ∙ c.sheet.ensures) (sym c.lane-2.ensures ∙ sym c.if-not-same_lane.false ∙ c.lane.ensures) c.args.self.fits c.args.self.only in record { fits = o.0; only = o.1 }

pub invariant_of-result-2 : goal.invariant_of-result-2
invariant_of-result-2 c = let o = other_slip c.args.other.sheet c.args.other.slip c.args.self.slip (sym c.sheet.ensures ∙ c.if-not-same_number.false ∙ c.sheet-2.ensures) (sym c.lane.ensures ∙ c.if-not-same_lane.false ∙ c.lane-2.ensures) c.args.other.fits c.args.other.only in record { fits = o.0; only = o.1 }
