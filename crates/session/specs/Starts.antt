-- The marks before the first symbol. Assumes nothing.
use Rattle.std.specs.Prelude.{Bool, List, [], ◌++◌}
use Rattle.scale.specs.Semiring.{Ops}
use Rattle.table.specs.declared.node.Leaf.{Leaf}
use Rattle.table.specs.Tree.{Tree, empty, leaf, either, then, repeat}
use Rattle.session.specs.Marks.{marks}

module _ {W S : Type 0} (o : Ops W) (passing : Leaf → S → Bool) where
  abbrev pub first_marks : Tree → List W
  first_marks t = marks o passing t []

  -- those of the root's operands
  abbrev pub below_root : Tree → List W
  below_root empty = []
  below_root (leaf l p) = []
  below_root (either a b) = first_marks a ++ first_marks b
  below_root (then a b) = first_marks a ++ first_marks b
  below_root (repeat a) = first_marks a
