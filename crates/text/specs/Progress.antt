-- What the reader's methods promise each other, from one state of a reader to a later one. Assumes nothing.
use Rattle.std.specs.Prelude.{◌≡◌, ℕ, ◌+◌, ◌*◌, ◌<◌, ◌≤◌, ◌⊎◌, List, length, None, Option, slice_set}
use Rattle.table.specs.declared.node.Node.{Node}
use Rattle.table.specs.Tree.{Tree, size, postfix}
use Rattle.text.specs.declared.reader.Reader.{Reader}
use Rattle.text.specs.declared.reader.Stop.{Stop}
use Rattle.text.specs.Grammar.{Atom, Piece, once, Branch, Pattern, atom_tree, piece_tree, branch_tree, tree}
use Rattle.text.specs.Scan.{Level, state, must, done, appended, joined}
use Rattle.text.specs.Steps.{outcome, stopped, There, laid}

-- this byte comes next
abbrev pub Comes : ℕ → Reader → Type 0
Comes b r = There r.text.now r.at b

-- no byte comes
abbrev pub AtEnd : Reader → Type 0
AtEnd r = length r.text.now ≤ r.at

-- a branch ends at place i: at a bar, a closing bracket or the end of the text
abbrev pub BranchEnds : List ℕ → ℕ → Type 0
BranchEnds s i = i < length s → There s i 124 ⊎ There s i 41

-- or it goes on there
abbrev pub BranchGoesOn : List ℕ → ℕ → Type 0
BranchGoesOn s i = (i < length s) × (There s i 124 → ⊥) × (There s i 41 → ⊥)

-- bytes have been taken, and nothing else has changed
pub record Took (n : ℕ) (was now : Reader) : Type 0 where
  pub text : now.text.now ≡ was.text.now
  pub list : now.nodes.ghost_name ≡ was.nodes.ghost_name
  pub nodes : now.nodes.now ≡ was.nodes.now
  pub at : now.at ≡ was.at + n
  pub count : now.count ≡ was.count
  pub depth : now.depth ≡ was.depth

-- bytes have been taken and a node added
pub record Added (n : ℕ) (x : Node) (was now : Reader) : Type 0 where
  pub text : now.text.now ≡ was.text.now
  pub list : now.nodes.ghost_name ≡ was.nodes.ghost_name
  pub nodes : now.nodes.now ≡ slice_set was.nodes.now was.count x
  pub at : now.at ≡ was.at + n
  pub count : now.count ≡ was.count + 1
  pub depth : now.depth ≡ was.depth

-- one bracket more is open, and nothing else has changed
pub record Inside (was now : Reader) : Type 0 where
  pub text : now.text.now ≡ was.text.now
  pub list : now.nodes.ghost_name ≡ was.nodes.ghost_name
  pub nodes : now.nodes.now ≡ was.nodes.now
  pub at : now.at ≡ was.at
  pub count : now.count ≡ was.count
  pub depth : now.depth ≡ was.depth + 1

-- the nodes of a tree have been added
pub record Made (t : Tree) (was now : Reader) : Type 0 where
  pub text : now.text.now ≡ was.text.now
  pub list : now.nodes.ghost_name ≡ was.nodes.ghost_name
  pub nodes : now.nodes.now ≡ laid was.nodes.now was.count (postfix t)
  pub count : now.count ≡ was.count + size t
  pub depth : now.depth ≡ was.depth
  pub forward : was.at < now.at
  pub few : now.count + 2 * was.at + 1 ≤ was.count + 2 * now.at

-- an atom has been read, after any pieces at this depth
pub record AtomRead (was now : Reader) : Type 0 where
  pub atom : Atom
  pub goes : (o : List Level) (a : Option Pattern) (p : Option Branch) → length o ≡ was.depth → outcome (state o a (must p)) was.text.now was.at ≡ outcome (state o a (done (appended p (once atom)))) was.text.now now.at
  pub made : Made (atom_tree atom) was now

-- a piece has been read, with all its stars
pub record PieceRead (was now : Reader) : Type 0 where
  pub piece : Piece
  pub goes : (o : List Level) (a : Option Pattern) (p : Option Branch) → length o ≡ was.depth → outcome (state o a (must p)) was.text.now was.at ≡ outcome (state o a (done (appended p piece))) was.text.now now.at
  pub made : Made (piece_tree piece) was now
  pub ends : There was.text.now now.at 42 → ⊥

-- a branch has been read, up to a bar, a closing bracket or the end
pub record BranchRead (was now : Reader) : Type 0 where
  pub branch : Branch
  pub goes : (o : List Level) (a : Option Pattern) → length o ≡ was.depth → outcome (state o a (must None)) was.text.now was.at ≡ outcome (state o a (done branch)) was.text.now now.at
  pub made : Made (branch_tree branch) was now
  pub ends : BranchEnds was.text.now now.at

-- a pattern has been read, up to a closing bracket or the end
pub record PatternRead (was now : Reader) : Type 0 where
  pub alts : Option Pattern
  pub branch : Branch
  pub goes : (o : List Level) → length o ≡ was.depth → outcome (state o None (must None)) was.text.now was.at ≡ outcome (state o alts (done branch)) was.text.now now.at
  pub made : Made (tree (joined alts branch)) was now
  pub ends : now.at < length was.text.now → There was.text.now now.at 41

-- the text is refused from here, whatever stands before an atom
abbrev pub AtomStops : Reader → Stop → Type 0
AtomStops was e = (o : List Level) (a : Option Pattern) (p : Option Branch) → length o ≡ was.depth → outcome (state o a (must p)) was.text.now was.at ≡ stopped e

abbrev pub BranchStops : Reader → Stop → Type 0
BranchStops was e = (o : List Level) (a : Option Pattern) → length o ≡ was.depth → outcome (state o a (must None)) was.text.now was.at ≡ stopped e

abbrev pub PatternStops : Reader → Stop → Type 0
PatternStops was e = (o : List Level) → length o ≡ was.depth → outcome (state o None (must None)) was.text.now was.at ≡ stopped e
