-- What a pattern text means within the limits, and what reading it answers and leaves. Assumes nothing.
use Rattle.std.specs.Prelude.{◌≡◌, ℕ, ◌+◌, ◌<◌, ◌≤◌, List, ◌++◌, length, take, drop, replicate, Ok, Err, Result}
use Rattle.table.specs.declared.node.Node.{Node}
use Rattle.table.specs.Tree.{inner, postfix, size}
use Rattle.text.specs.declared.fault.TextFault.{TextFault}
use Rattle.text.specs.declared.fault.TextFault.TheVariants.{TooLong, OffGrammar, TooDeep, NodeCount, ShortList}
use Rattle.text.specs.Depth.{open_after}
use Rattle.text.specs.Grammar.{Pattern, Lawful, text, tree}

-- the text is written as this pattern of the grammar
abbrev pub Means : List ℕ → Pattern → Type 0
Means s q = Lawful q × (text q ≡ s)

-- the first p bytes begin some text of the grammar
abbrev pub Shares : List ℕ → ℕ → Type 0
Shares s p = (p ≤ length s) × ((q : Pattern) × Lawful q × ((rest : List ℕ) × (text q ≡ take p s ++ rest)))

-- and no more bytes do
abbrev pub Longest : List ℕ → ℕ → Type 0
Longest s p = Shares s p × ((k : ℕ) → Shares s k → k ≤ p)

-- none of the first p bytes opens a bracket 33 deep
abbrev pub Shallow : List ℕ → ℕ → Type 0
Shallow s p = (k : ℕ) → k ≤ p → open_after (take k s) ≤ 32

-- a text of the grammar within the limits of length and depth
abbrev pub Fits : List ℕ → Pattern → Type 0
Fits s q = (length s ≤ 4096) × Means s q × Shallow s (length s)

-- what a reading answers where the lent list has room for so many nodes
abbrev pub Answers : List ℕ → ℕ → Result ℕ TextFault → Type 0
Answers s room (Ok n) = (q : Pattern) × Fits s q × (n ≡ size (tree q)) × (n ≤ 512) × (n ≤ room)
Answers s room (Err TooLong) = 4096 < length s
Answers s room (Err (OffGrammar p)) = (length s ≤ 4096) × ((q : Pattern) → Means s q → ⊥) × Longest s p × Shallow s p
Answers s room (Err (TooDeep p)) = (length s ≤ 4096) × Shares s (p + 1) × Shallow s p × (open_after (take (p + 1) s) ≡ 33)
Answers s room (Err (NodeCount n)) = (q : Pattern) × Fits s q × (n ≡ size (tree q)) × (512 < n)
Answers s room (Err (ShortList n)) = (q : Pattern) × Fits s q × (n ≡ size (tree q)) × (n ≤ 512) × (room < n)

-- what it leaves in the lent nodes: the tree's nodes and the rest as before, or empty nodes
abbrev pub Leaves : List ℕ → List Node → Result ℕ TextFault → List Node → Type 0
Leaves s before (Ok n) after = (q : Pattern) → Means s q → after ≡ postfix (tree q) ++ drop n before
Leaves s before (Err f) after = after ≡ replicate (length before) (inner 0 1)
