use Rattle.std.proofs.Common.{◌≡◌, List, take}
use Rattle.session.proofs.run.take_turns.Given as goal
use Rattle.session.specs.Runs.{AllRight, asks, held_after}
use Rattle.session.specs.Sessions.{Holds, Kept}

abbrev pub invariant-loop-turn : goal.invariant-loop-turn
invariant-loop-turn g l =
    Kept l.initial.session l.session
    × (asks l.turns ≡ asks l.initial.turns)
    × ((w : List g.row.S.Denot) → Holds g.W.Scale.ops g.S.Symbol.passing l.initial.session w → AllRight g.W.Scale.ops g.S.Symbol.passing g.S.Symbol.number g.S.Symbol.allowed l.initial.session.table.now w (take l.turn-index l.turns) × Holds g.W.Scale.ops g.S.Symbol.passing l.session (held_after w (take l.turn-index l.turns)))
