use Rattle.std.proofs.Common.{◌≡◌, ◌<◌, rules, true, false, arith}
use Rattle.std.proofs.lemmas.Bool.Decides.{nat_tests}
use Rattle.std.proofs.lemmas.Iterator.{first_from_Range}
use Rattle.sheet.specs.Lanes.{has}
use Rattle.sheet.proofs.Masks.{first_has}
use Rattle.sheet.proofs.lanes.LaneSet.lowest.Goals as goal

pub returns : goal.returns
returns c =
    first_has c.args.self (omega arith) c.find.result
    (first_from_Range _ _ _ c.find.result (λ k. k < 16 → has c.args.self k ≡ true) (λ k. has c.args.self k ≡ false) c.find.ensures.ran (λ x q k low. grind (arith, nat_tests, k, low)) (λ x q k. search rules))
