use Rattle.readings.proofs.Theorems.{yes_tells_reading}
use Rattle.readings.proofs.yes_of_some_reading.Goals as goal

pub returns : goal.returns
returns g c = yes_tells_reading g.S.Symbol.passing
