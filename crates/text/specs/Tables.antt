-- The checked table of a text. Assumes nothing.
use Rattle.std.specs.Prelude.{◌≡◌, ℕ, List, length, Ok}
use Rattle.table.specs.Content as tables
use Rattle.table.specs.Content.{content}
use Rattle.table.specs.Kinds.{byte_number}
use Rattle.table.specs.Tree.{postfix}
use Rattle.table.specs.declared.table.Table.{Table}
use Rattle.text.specs.Grammar.{tree}
use Rattle.text.specs.Reads.{Answers}

-- a byte table that holds the nodes and the tree of the pattern that the text means
pub record Tabled (s : List ℕ) (t : Table) : Type 0 where
  pub means : Answers s 512 (Ok (length (content t).nodes))
  pub nodes : postfix (tree means.0) ≡ (content t).nodes
  pub same : tables.tree t ≡ tree means.0
  pub kind : (content t).kind ≡ byte_number
