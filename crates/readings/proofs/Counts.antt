-- How many readings the small patterns have, by computing. Assumes nothing.
use Rattle.std.proofs.Common.{refl}
use Rattle.readings.specs.Examples.{CountedExamples}

pub counted_examples : CountedExamples
counted_examples = record {
  repeat_empty = refl;
  either_empty = refl;
  one_or_many_a = refl;
  two_and_two = refl;
  repeat_either_empty = refl;
  repeat_repeat = refl;
}
