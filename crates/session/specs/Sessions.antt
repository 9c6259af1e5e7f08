-- A session: which symbols it holds, and on what it refuses. Assumes nothing.
use Rattle.std.specs.Prelude.{◌≡◌, ℕ, ◌+◌, ◌≤◌, Bool, cond, ◌&&◌, List, [], ◌∷◌, ◌++◌, length, take, drop, Some, None, Option, ◌==◌, nat_le, nat_lt}
use Rattle.scale.specs.Semiring.{Ops}
use Rattle.table.specs.declared.node.Leaf.{Leaf}
use Rattle.table.specs.declared.table.Table.{Table}
use Rattle.table.specs.Content.{content, tree}
use Rattle.table.specs.Tree.{Tree, empty, leaf, either, then, repeat}
use Rattle.session.specs.declared.fault.SessionFault.{SessionFault}
use Rattle.session.specs.declared.fault.SessionFault.TheVariants.{BadSymbol, ShortList, Full}
use Rattle.session.specs.declared.session.Session.{Session}
use Rattle.session.specs.Faults.{most_symbols}
use Rattle.session.specs.Words.{needed, marks_after, live_after}

abbrev pub leaves : Tree → ℕ
leaves empty = 0
leaves (leaf l p) = 1
leaves (either a b) = leaves a + leaves b
leaves (then a b) = leaves a + leaves b
leaves (repeat a) = leaves a

-- a list too short for the table's marks
abbrev pub room_fault : Table → ℕ → Option SessionFault
room_fault t room = cond (nat_le (needed (tree t)) room) None (Some (ShortList (needed (tree t))))

-- a symbol that is not allowed, or of a kind with another number than the table's; else a full session
abbrev pub symbol_fault : ℕ → Bool → Table → ℕ → Option SessionFault
symbol_fault number allowed t held = cond ((content t).kind == number && allowed) (cond (nat_lt held most_symbols) None (Some Full)) (Some (BadSymbol held))

-- over a list too short that is all that is wrong
abbrev pub read_fault : ℕ → Bool → Table → ℕ → ℕ → Option SessionFault
read_fault number allowed t room held = cond (nat_le (needed (tree t)) room) (symbol_fault number allowed t held) (Some (ShortList (needed (tree t))))

module _ {W S : Type 0} (o : Ops W) (passing : Leaf → S → Bool) where
  -- a list's front holds the marks of as many symbols as are held
  abbrev pub Front : Tree → ℕ → List W → List S → Type 0
  Front t held ws w = (length w ≡ held) × (take (needed t) ws ≡ marks_after o passing t w)

  -- one symbol more: the front of a list, the live leaves, and the rest as before
  pub record Next (t : Tree) (held : ℕ) (s : S) (before after : List W) (tests : ℕ) : Type 0 where
    pub front : (w : List S) → Front t held before w → (take (needed t) after ≡ marks_after o passing t (w ++ s ∷ [])) × (tests ≡ live_after o passing t w)
    pub rest : drop (needed t) after ≡ drop (needed t) before

-- the list is long enough, and its marks are those of the symbols held
pub record Holds {W S : Type 0} (o : Ops W) (passing : Leaf → S → Bool) (s : Session W S) (w : List S) : Type 0 where
  pub room : needed (tree s.table.now) ≤ length s.weights.now
  pub count : length w ≡ s.held
  pub few : length w ≤ most_symbols
  pub marked : take (needed (tree s.table.now)) s.weights.now ≡ marks_after o passing (tree s.table.now) w

-- the table and the lender of the weights are the same, and what lies past the marks is as before
pub record Kept {W S : Type 0} (before after : Session W S) : Type 0 where
  pub table : after.table.now ≡ before.table.now
  pub lender : after.weights.ghost_name ≡ before.weights.ghost_name
  pub rest : drop (needed (tree before.table.now)) after.weights.now ≡ drop (needed (tree before.table.now)) before.weights.now
