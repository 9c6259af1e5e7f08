use Rattle.session.proofs.Lending.{lent_fits, lent_next, room_there, room_then}
use Rattle.session.proofs.lent.mark_next.Goals as goal
use Rattle.table.specs.Content.{tree}

pub mark_symbol-requires : goal.mark_symbol-requires
mark_symbol-requires g c = record {
  fits = lent_fits (tree c.args.table.now) _ c.nodes.ensures.whole c.args.weights.now c.needed_by-needed.result c.needed_by-needed.ensures (room_there _ _ c.in_ok-judge_room.ensures);
}

pub returns : goal.returns
returns g c = record {
  refused = room_then _ _ _ _ c.needed_by-needed.ensures c.in_ok-judge_room.ensures c.in_ok-judge_symbol.ensures;
  after =
      lent_next (tree c.args.table.now) _ c.nodes.ensures.whole c.args.weights.now c.needed_by-needed.result c.needed_by-needed.ensures (room_there _ _ c.in_ok-judge_room.ensures) g.W.Scale.ops g.S.Symbol.passing c.args.held c.args.symbol _ _
      c.mark_symbol.auto.marks c.mark_symbol.ensures;
}
