-- The kinds of node by their numbers. Assumes nothing.
use Rattle.std.specs.Prelude.{◌≡◌, ℕ, ◌<◌, Result, MatchResult}
use Rattle.table.specs.declared.node.NodeKind.{NodeKind}
use Rattle.table.specs.declared.node.NodeKind.TheVariants.{Empty, Leaf, Either, Then, Repeat}
use Rattle.table.specs.declared.node.UnknownKind.{UnknownKind}

abbrev pub number_of : NodeKind → ℕ
number_of Empty = 0
number_of Leaf = 1
number_of Either = 2
number_of Then = 3
number_of Repeat = 4

-- the answer is the kind with this number, or this number, which no kind has
abbrev pub Decodes : ℕ → Result NodeKind UnknownKind → Type 0
Decodes n r = MatchResult r (λ kind. number_of kind ≡ n) (λ e. (e.0 ≡ n) × (4 < n))
