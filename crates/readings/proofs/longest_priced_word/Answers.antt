use Rattle.readings.proofs.Theorems.{price_least_of_readings}
use Rattle.readings.proofs.longest_priced_word.Goals as goal

pub returns : goal.returns
returns g c = price_least_of_readings g.S.Symbol.passing
