use Rattle.std.proofs.Common.{[], ◌∷◌, reverse, length, refl, arith, length-append}
use Rattle.session.proofs.Holding.{held_below, live_few}
use Rattle.session.proofs.session.Session.read.Goals as goal
use Rattle.session.specs.Marks.{root_incoming, to_root}
use Rattle.table.specs.Content.{tree}

pub returns : goal.returns
returns g c =
    let o = g.W.Scale.ops in
    let passing = g.S.Symbol.passing in
    let t = tree c.args.self.now.table.now in
    let clear = c.in_ok-tests.ensures.refused in
    let next = c.in_ok-tests.ensures.after in
    let below = held_below g.S.Symbol.number (g.S.Symbol.allowed c.args.symbol) c.args.self.now.table.now (length c.args.self.now.weights.now) c.args.self.now.held clear in
    record {
      refused = clear;
      kept = record { table = refl; lender = refl; rest = next.rest };
      unchanged = tt;
      taken = λ w h.
          let long = length-append w (c.args.symbol ∷ []) in
          let live = (next.front w (h.count, h.marked)).1 in (
            record {
              room = omega (arith, h.room, c.mark_next.auto.weights);
              count = omega (arith, long, h.count);
              few = omega (arith, long, h.count, below);
              marked = (next.front w (h.count, h.marked)).0;
            },
            omega (arith, live),
            omega (arith, live, live_few o passing t (root_incoming o passing (reverse w)) (to_root o passing (reverse w))),
          );
    }
