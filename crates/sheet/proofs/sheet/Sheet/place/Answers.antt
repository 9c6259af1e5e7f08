use Rattle.std.proofs.Common.{arith}
use Rattle.std.proofs.lemmas.Bool.Decides.{nat_tests}
use Rattle.sheet.proofs.sheet.Sheet.place.Goals as goal

pub invariant_of-self : goal.invariant_of-self
invariant_of-self c = record {
  apart = λ k. grind (arith, nat_tests, c.put-self.ensures.at k, c.put-self-2.ensures.at k, c.put-self-3.ensures.at k, c.put-self-4.ensures.at k, c.args.self.now.apart k);
}
