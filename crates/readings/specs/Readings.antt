-- Readings: the ways in which a word fits a pattern. Assumes nothing.
use Rattle.std.specs.Prelude.{◌≡◌, ℕ, suc, Bool, true, List, [], ◌∷◌, ◌++◌, length}
use Rattle.table.specs.declared.node.Leaf.{Leaf}
use Rattle.table.specs.Tree.{Tree, empty, leaf, either, then, repeat}

pub data Reading : Type 0 where
  -- of empty
  none : Reading
  -- of a leaf, by its price
  symbol : ℕ → Reading
  -- of either, by its side
  left : Reading → Reading
  right : Reading → Reading
  -- of then: how many symbols stand before the cut, and a reading of each side
  cut : ℕ → Reading → Reading → Reading
  -- of repeat: no part, or the length and the reading of the first part, and the parts after it
  stop : Reading
  part : ℕ → Reading → Reading → Reading

-- which readings a pattern has over a word
pub data Reads {S : Type 0} (passing : Leaf → S → Bool) : Tree → List S → Reading → Type 0 where
  of_empty : Reads passing empty [] none
  of_leaf : {l : Leaf} {p : ℕ} {s : S} → passing l s ≡ true → Reads passing (leaf l p) (s ∷ []) (symbol p)
  of_left : {a b : Tree} {w : List S} {r : Reading} → Reads passing a w r → Reads passing (either a b) w (left r)
  of_right : {a b : Tree} {w : List S} {r : Reading} → Reads passing b w r → Reads passing (either a b) w (right r)
  of_then : {a b : Tree} {u v : List S} {r q : Reading} → Reads passing a u r → Reads passing b v q → Reads passing (then a b) (u ++ v) (cut (length u) r q)
  of_stop : {a : Tree} → Reads passing (repeat a) [] stop
  of_part : {a : Tree} {s : S} {u v : List S} {r q : Reading} → Reads passing a (s ∷ u) r → Reads passing (repeat a) v q → Reads passing (repeat a) (s ∷ (u ++ v)) (part (suc (length u)) r q)

-- the prices of a reading's leaves, from left to right
abbrev pub prices : Reading → List ℕ
prices none = []
prices (symbol p) = p ∷ []
prices (left r) = prices r
prices (right r) = prices r
prices (cut n r q) = prices r ++ prices q
prices stop = []
prices (part n r q) = prices r ++ prices q
