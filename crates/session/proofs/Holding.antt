-- What a session holds after one symbol more. Assumes nothing.
use Rattle.std.proofs.Common.{◌≡◌, ℕ, ◌<◌, ◌≤◌, Bool, true, false, cond, List, None, arith}
use Rattle.std.proofs.lemmas.Bool.Decides.{nat_tests}
use Rattle.scale.specs.Semiring.{Ops}
use Rattle.table.specs.declared.node.Leaf.{Leaf}
use Rattle.table.specs.declared.table.Table.{Table}
use Rattle.table.specs.Tree.{Tree, empty, leaf, either, then, repeat}
use Rattle.session.specs.Faults.{most_symbols}
use Rattle.session.specs.Marks.{Taken, empty_weight, last_weight, live, to_right}
use Rattle.session.specs.Sessions.{leaves, read_fault}

-- at most all leaves are live
pub live_few : {W S : Type 0} (o : Ops W) (passing : Leaf → S → Bool) (t : Tree) (i : W) (h : List (Taken W S)) → live o passing t i h ≤ leaves t
live_few o passing empty i h = omega arith
live_few o passing (leaf l p) i h = go (o.vanishes i)
  where
    go : (b : Bool) → cond b 0 1 ≤ 1
    go true = omega arith
    go false = omega arith
live_few o passing (either a b) i h = omega (arith, live_few o passing a i h, live_few o passing b i h)
live_few o passing (then a b) i h = omega (arith, live_few o passing a i h, live_few o passing b (o.plus (o.times i (empty_weight o passing a)) (last_weight o passing a h)) (to_right o passing a h))
live_few o passing (repeat a) i h = live_few o passing a _ _

-- a symbol that is taken finds room for itself
pub held_below : (number : ℕ) (allowed : Bool) (t : Table) (room held : ℕ) → None ≡ read_fault number allowed t room held → held < most_symbols
held_below number allowed t room held e = grind (arith, nat_tests)
