use Rattle.std.proofs.Common.{[], length, ap, ◌∙◌}
use Rattle.std.specs.Option.{option_or}
use Rattle.session.proofs.Carrying.{turns_carried}
use Rattle.session.proofs.run.run_both.Goals as goal
use Rattle.session.specs.Sessions.{room_fault}

pub returns : goal.returns
returns g c =
    let one = c.in_ok-run_turns.ensures in
    let two = c.in_ok-run_turns-2.ensures in
    let there = room_fault c.args.table.now (length c.args.there.now) in
    record {
      refused = two.refused ∙ ap (λ o. option_or o there) one.refused;
      maps = λ f carry same. turns_carried g.A.Scale.ops g.B.Scale.ops f carry g.S.Symbol.passing g.S.Symbol.number g.S.Symbol.allowed c.args.table.now [] _ _ one.law two.law same;
      right = (one.law, two.law);
      asks = (one.asks, two.asks);
      lent = (one.lent, two.lent);
    }
