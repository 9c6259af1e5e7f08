-- What the marks of a pattern hold after some symbols: at every node, what the readings say. Assumes nothing.
use Rattle.std.specs.Prelude.{ℕ, ◌+◌, Bool, false, cond, not, ◌||◌, List, [], ◌∷◌, ◌++◌}
use Rattle.scale.specs.Semiring.{Ops}
use Rattle.table.specs.declared.node.Leaf.{Leaf}
use Rattle.table.specs.Tree.{Tree, empty, leaf, either, then, repeat}
use Rattle.readings.specs.Weights.{weight}

-- a symbol, and the weight that came in with it
pub record Taken (W S : Type 0) : Type 0 where
  pub incoming : W
  pub symbol : S

abbrev pub taken : {W S : Type 0} → W → S → Taken W S
taken i s = record { incoming = i; symbol = s }

module _ {W S : Type 0} (o : Ops W) (passing : Leaf → S → Bool) where
  -- the symbols are given from the latest back; the ways to begin at one of them and end with w after the latest
  abbrev pub ending : Tree → List (Taken W S) → List S → W
  ending t [] w = o.nothing
  ending t (x ∷ h) w = o.plus (o.times x.incoming (weight o passing t (x.symbol ∷ w))) (ending t h (x.symbol ∷ w))

  -- the ways in which a node ends at the latest symbol
  abbrev pub last_weight : Tree → List (Taken W S) → W
  last_weight t h = ending t h []

  -- a node's weight over the empty word
  abbrev pub empty_weight : Tree → W
  empty_weight t = weight o passing t []

  -- what comes in at the right operand of a then: all from before the symbol
  abbrev pub to_right : Tree → List (Taken W S) → List (Taken W S)
  to_right a [] = []
  to_right a (x ∷ h) = taken (o.plus (o.times x.incoming (empty_weight a)) (last_weight a h)) x.symbol ∷ to_right a h

  -- what comes in at the operand of a repeat
  abbrev pub to_repeated : Tree → List (Taken W S) → List (Taken W S)
  to_repeated a [] = []
  to_repeated a (x ∷ h) = taken (o.plus x.incoming (last_weight a (to_repeated a h))) x.symbol ∷ to_repeated a h

  -- what comes in at the root: one with the first symbol, nothing later
  abbrev pub to_root : List S → List (Taken W S)
  to_root [] = []
  to_root (s ∷ []) = taken o.one s ∷ []
  to_root (s ∷ r ∷ rs) = taken o.nothing s ∷ to_root (r ∷ rs)

  -- what comes in there with the next symbol
  abbrev pub root_incoming : List S → W
  root_incoming [] = o.one
  root_incoming (s ∷ back) = o.nothing

  -- some leaf below has a last weight that is not nothing
  abbrev pub marked : Tree → List (Taken W S) → Bool
  marked empty h = false
  marked (leaf l p) h = not (o.vanishes (last_weight (leaf l p) h))
  marked (either a b) h = marked a h || marked b h
  marked (then a b) h = marked a h || marked b (to_right a h)
  marked (repeat a) h = marked a (to_repeated a h)

  abbrev pub flag_weight : Tree → List (Taken W S) → W
  flag_weight t h = cond (marked t h) o.one o.nothing

  -- a node's three weights
  abbrev pub three : Tree → List (Taken W S) → List W
  three t h = empty_weight t ∷ last_weight t h ∷ flag_weight t h ∷ []

  -- the weights of every node, in the order of the nodes
  abbrev pub marks : Tree → List (Taken W S) → List W
  marks empty h = three empty h
  marks (leaf l p) h = three (leaf l p) h
  marks (either a b) h = marks a h ++ (marks b h ++ three (either a b) h)
  marks (then a b) h = marks a h ++ (marks b (to_right a h) ++ three (then a b) h)
  marks (repeat a) h = marks a (to_repeated a h) ++ three (repeat a) h

  -- how many leaves are live for the next symbol: their incoming weight is not nothing
  abbrev pub live : Tree → W → List (Taken W S) → ℕ
  live empty i h = 0
  live (leaf l p) i h = cond (o.vanishes i) 0 1
  live (either a b) i h = live a i h + live b i h
  live (then a b) i h = live a i h + live b (o.plus (o.times i (empty_weight a)) (last_weight a h)) (to_right a h)
  live (repeat a) i h = live a (o.plus i (last_weight a (to_repeated a h))) (to_repeated a h)
