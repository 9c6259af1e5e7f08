-- What a whole line weighs in the pair of count and least price. Assumes nothing.
use Rattle.std.specs.Prelude.{◌≡◌, ℕ, List}
use Rattle.scale.specs.declared.count.weight.Count.{Count}
use Rattle.scale.specs.declared.pair.Pair.{Pair}
use Rattle.scale.specs.declared.price.weight.Price.{Price}
use Rattle.scale.specs.Counts.{count_ops}
use Rattle.scale.specs.Pairs.{pair_ops}
use Rattle.scale.specs.Prices.{price_ops}
use Rattle.readings.specs.Weights.{weight}
use Rattle.session.specs.declared.session.Session.{Session}
use Rattle.session.specs.Sessions.{Holds}
use Rattle.session.specs.Words as words
use Rattle.table.specs.declared.table.Table.{Table}
use Rattle.table.specs.Content.{tree}
use Rattle.table.specs.Kinds.{byte_passing}

abbrev pub line_weight : Table → List ℕ → Pair Count Price
line_weight t w = weight (pair_ops count_ops price_ops) byte_passing (tree t) w

-- the session holds these bytes
abbrev pub Held : Session (Pair Count Price) ℕ → List ℕ → Type 0
Held s w = Holds (pair_ops count_ops price_ops) byte_passing s w

-- how many weights a table needs
abbrev pub needed : Table → ℕ
needed t = words.needed (tree t)

-- without a reading there is no price
abbrev pub Consistent : Pair Count Price → Type 0
Consistent x = x.first.value ≡ 0 → x.second.value ≡ 18_446_744_073_709_551_615
