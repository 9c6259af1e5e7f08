use Rattle.readings.proofs.Theorems.{pair_weighs_each}
use Rattle.readings.proofs.weight_at_both.Goals as goal

pub returns : goal.returns
returns g c = pair_weighs_each g.A.Scale.ops g.B.Scale.ops g.S.Symbol.passing c.args.first c.args.second
