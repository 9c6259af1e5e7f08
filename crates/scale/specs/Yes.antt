-- The scale yes: whether there is a reading. Assumes nothing.
use Rattle.std.specs.Prelude.{Bool, true, false, not, ◌&&◌, ◌||◌}
use Rattle.scale.specs.Semiring.{Ops}

abbrev pub yes_ops : Ops Bool
yes_ops = record { nothing = false; one = true; plus = ◌||◌; times = ◌&&◌; priced = λ p. true; vanishes = not }
