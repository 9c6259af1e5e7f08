use Rattle.std.proofs.Common.{◌≡◌, ◌+◌, [], ◌∷◌, ◌++◌, get_or, take, set, sym, refl, ap, ◌∙◌, subst, arith}
use lib.Seq.{map-set_same}
use Rattle.session.proofs.Running.{held_more, kept_trans, right_more}
use Rattle.session.proofs.run.take_turns.Goals as goal
use Rattle.session.specs.Runs.{AllRight, Right, held_after}
use Rattle.session.specs.Sessions.{Holds}
use Rattle.session.specs.declared.turn.Turn.{Turn}
use Rattle.std.proofs.lemmas.List.{take_more_set}

pub loop-turn-preserved : goal.loop-turn-preserved
loop-turn-preserved g c =
    let o = g.W.Scale.ops in
    let passing = g.S.Symbol.passing in
    let number = g.S.Symbol.number in
    let allowed = g.S.Symbol.allowed in
    let at = c.loop-turn.turn-index in
    let us = c.loop-turn.turns in
    let d = c.turn-item.result in
    let u : Turn g.row.W.Denot g.row.S.Denot = record { ask = (get_or us at d).ask; reply = c.ask-turn.result } in
    let more : take (at + 1) (set us at u) ≡ take at us ++ u ∷ [] = take_more_set us at u (omega (arith, c.loop-turn-test.true, c.loop-turn.auto.turns)) in
    let same = c.loop-turn.invariant.0.table in (
      kept_trans c.args.session.now c.loop-turn.session c.ask-turn.new.self c.loop-turn.invariant.0 c.ask-turn.ensures.kept,
      map-set_same (λ (v : Turn g.row.W.Denot g.row.S.Denot). v.ask) us at u d refl ∙ c.loop-turn.invariant.1,
      λ w h.
          let before = c.loop-turn.invariant.2 w h in
          let next = c.ask-turn.ensures.right (held_after w (take at us)) before.1 in (
            subst (AllRight o passing number allowed c.args.session.now.table.now w) (sym more)
                (right_more o passing number allowed c.args.session.now.table.now w (take at us) u before.0 (subst (λ t. Right o passing number allowed t (held_after w (take at us)) u.ask u.reply) same next.0)),
            subst (Holds o passing c.ask-turn.new.self) (sym (ap (held_after w) more ∙ held_more w (take at us) u)) next.1,
          ),
    )
