-- The statements about readings and weights, put together from their parts. Assumes nothing.
use Rattle.std.proofs.Common.{Bool, true, ap, ◌∙◌}
use Rattle.table.specs.declared.node.Leaf.{Leaf}
use Rattle.scale.specs.Semiring.{Ops}
use Rattle.scale.specs.Pairs.{pair}
use Rattle.readings.specs.Weights.{weight}
use Rattle.readings.specs.Theorems.{Listed, YesTellsReading, CountNumbersReadings, PriceLeastOfReadings, PairWeighsEach}
use Rattle.readings.proofs.Listing.{listed_reads, reads_listed, listed_once}
use Rattle.readings.proofs.Meaning.{yes_exactly, count_exactly, one_exactly, exactly_one, least_exactly, pair_both}

module _ {S : Type 0} (passing : Leaf → S → Bool) where
  pub listed : Listed passing
  listed = record {
    listed_is_read = listed_reads passing;
    read_is_listed = λ t w r h. reads_listed passing h;
    none_twice = listed_once passing;
  }

  pub yes_tells_reading : YesTellsReading passing true
  yes_tells_reading = record {
    accepted_is_read = λ t w. (yes_exactly passing t w).0;
    read_is_accepted = λ t w. (yes_exactly passing t w).1;
  }

  pub count_numbers_readings : CountNumbersReadings passing 4_294_967_295
  count_numbers_readings = record {
    number = count_exactly passing;
    one_is_single = one_exactly passing;
    single_is_one = exactly_one passing;
  }

  pub price_least_of_readings : PriceLeastOfReadings passing 65_535
  price_least_of_readings = least_exactly passing

pub pair_weighs_each : {V W S : Type 0} (a : Ops V) (b : Ops W) (passing : Leaf → S → Bool) (x : V) (y : W) → PairWeighsEach a b passing x y (pair x y)
pair_weighs_each a b passing x y t w l r = pair_both a b passing t w ∙ ap (λ u. pair u (weight b passing t w)) l ∙ ap (pair x) r
