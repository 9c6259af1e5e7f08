use Rattle.std.proofs.Common.{refl, ap, ◌∙◌}
use Rattle.session.proofs.Lending.{lent_fits, room_there, room_then}
use Rattle.session.proofs.Wording.{same_tree, word_marked}
use Rattle.session.proofs.word.mark_word.Goals as goal
use Rattle.session.specs.Words.{marks_after}
use Rattle.table.specs.Content.{tree}

pub mark_symbols-requires : goal.mark_symbols-requires
mark_symbols-requires g c = record {
  fits = lent_fits (tree c.args.table.now) _ c.nodes.ensures.whole c.args.weights.now c.needed_by-needed.result c.needed_by-needed.ensures (room_there _ _ c.in_ok-judge_room.ensures);
}

pub returns : goal.returns
returns g c =
    let t = tree c.args.table.now in
    record {
      refused = room_then _ _ _ _ c.needed_by-needed.ensures c.in_ok-judge_room.ensures (refl);
      after =
          word_marked g.W.Scale.ops g.W.Scale.laws g.S.Symbol.passing t c.args.word.now _ c.args.weights.now _ c.needed_by-needed.ensures
          (c.mark_symbols.ensures ∙ ap (λ u. marks_after g.W.Scale.ops g.S.Symbol.passing u c.args.word.now) (same_tree t _ c.nodes.ensures.whole));
    }
