use Rattle.std.proofs.Common.{refl, ◌∙◌, arith, length-take}
use Rattle.session.proofs.Lending.{held_weight, room_there, room_then}
use Rattle.session.proofs.lent.root_weight.Goals as goal
use Rattle.table.proofs.Postfix.{size_pos}
use Rattle.table.specs.Content.{tree}

pub root-root-requires : goal.root-root-requires
root-root-requires g c =
    let room = room_there _ _ c.in_ok-judge_room.ensures in
    omega (arith, room, c.needed_by-needed.ensures, size_pos (tree c.args.table.now), length-take c.needed_by-needed.result c.args.weights.now)

pub returns : goal.returns
returns g c =
    let t = tree c.args.table.now in
    record {
      refused = room_then _ _ _ _ c.needed_by-needed.ensures c.in_ok-judge_room.ensures (refl);
      value = λ word front.
          c.latest.ensures ∙ held_weight g.W.Scale.ops g.W.Scale.laws g.S.Symbol.passing t c.args.weights.now _ c.needed_by-needed.ensures _ _ _ c.root-root.ensures c.args.held word front;
    }
