use Rattle.readings.proofs.Counts.{counted_examples}
use Rattle.readings.proofs.worked_counts.Goals as goal

pub returns-clause-examples : goal.returns-clause-examples
returns-clause-examples c = counted_examples
