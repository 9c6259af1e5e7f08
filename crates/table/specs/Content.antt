-- What a checked table holds: its kind's number and its nodes. Assumes nothing.
use Rattle.std.specs.Prelude.{ℕ, List}
use Rattle.table.specs.declared.node.Node.{Node}
use Rattle.table.specs.declared.table.Table.{Table}
use Rattle.table.specs.Tree.{Tree, tree_of}

pub record Content : Type 0 where
  pub kind : ℕ
  pub nodes : List Node

abbrev pub held : ℕ → List Node → Content
held k ns = record { kind = k; nodes = ns }

abbrev pub content : Table → Content
content t = held t.kind t.nodes.items

-- the tree of a checked table: what every later definition speaks of
abbrev pub tree : Table → Tree
tree t = tree_of (content t).nodes
