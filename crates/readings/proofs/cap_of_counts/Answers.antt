use Rattle.readings.proofs.Theorems.{listed, count_numbers_readings}
use Rattle.readings.proofs.cap_of_counts.Goals as goal

pub returns : goal.returns
returns g c = record { listed = listed g.S.Symbol.passing; number = count_numbers_readings g.S.Symbol.passing }
