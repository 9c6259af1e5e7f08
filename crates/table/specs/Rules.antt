-- The rules of a list of nodes: what is wrong with a node, and what the judge answers. Assumes nothing.
use Rattle.std.specs.Prelude.{◌≡◌, ℕ, zero, suc, ◌+◌, ◌-◌, ◌≤◌, Bool, true, false, cond, not, ◌&&◌, List, length, Some, None, Option, ◌==◌, nat_le, slice_index_or}
use Rattle.table.specs.declared.fault.Refusal.{Refusal}
use Rattle.table.specs.declared.node.Leaf.{Leaf}
use Rattle.table.specs.declared.node.Node.{Node}
use Rattle.table.specs.Faults.{table_refusal}
use Rattle.table.specs.Tree.{Tree, empty, leaf, either, then, repeat, inner, leaf_of, postfix}

abbrev pub node_at : List Node → ℕ → Node
node_at ns i = slice_index_or ns i (inner 0 0)

abbrev pub size_at : List Node → ℕ → ℕ
size_at ns i = (node_at ns i).size

-- of a node that is no leaf, all that belongs to leaves is 0
abbrev pub bare : Node → Bool
bare n = n.tag == 0 && (n.low == 0 && (n.high == 0 && n.price == 0))

-- the kind is known, and nothing stands in a field that is not the kind's
abbrev pub formed : ℕ → Node → Bool
formed zero n = bare n
formed (suc zero) n = true
formed (suc (suc zero)) n = bare n
formed (suc (suc (suc zero))) n = bare n
formed (suc (suc (suc (suc zero)))) n = bare n
formed (suc (suc (suc (suc (suc k))))) n = false

-- the right or only operand ends just before node i, the left just before the right one's first node
abbrev pub left_end : List Node → ℕ → ℕ
left_end ns i = i - 1 - size_at ns (i - 1)

abbrev pub fed : List Node → ℕ → ℕ → Bool
fed ns i zero = true
fed ns i (suc zero) = true
fed ns i (suc (suc zero)) = not (nat_le i (size_at ns (i - 1)))
fed ns i (suc (suc (suc zero))) = not (nat_le i (size_at ns (i - 1)))
fed ns i (suc (suc (suc (suc k)))) = not (i == 0)

-- the node itself and its operands' nodes
abbrev pub due : List Node → ℕ → ℕ → ℕ
due ns i zero = 1
due ns i (suc zero) = 1
due ns i (suc (suc zero)) = size_at ns (left_end ns i) + size_at ns (i - 1) + 1
due ns i (suc (suc (suc zero))) = size_at ns (left_end ns i) + size_at ns (i - 1) + 1
due ns i (suc (suc (suc (suc k)))) = size_at ns (i - 1) + 1

-- the lowest number of what is wrong with node i, or 0
abbrev pub wrong : (Leaf → Bool) → List Node → ℕ → ℕ
wrong admitted ns i =
    let n = node_at ns i in
    cond (formed n.kind n)
    (cond (fed ns i n.kind)
    (cond (n.size == due ns i n.kind)
    (cond (n.kind == 1 && not (admitted (leaf_of n))) 8 0) 7) 6) 5

abbrev pub node_refusal : ℕ → ℕ → Option Refusal
node_refusal i zero = None
node_refusal i (suc n) = Some (table_refusal (suc n) i)

-- the first wrong node among the next k from i on
abbrev pub first_wrong : (ℕ → ℕ) → ℕ → ℕ → Option Refusal
first_wrong w zero i = None
first_wrong w (suc k) i = elim (w i) [ zero ↦ first_wrong w k (suc i) | suc n ↦ Some (table_refusal (suc n) i) ]

abbrev pub or_else : Option Refusal → Option Refusal → Option Refusal
or_else (Some r) q = Some r
or_else None q = q

abbrev pub count_refusal : List Node → Option Refusal
count_refusal ns = cond (nat_le 1 (length ns) && nat_le (length ns) 512) None (Some (table_refusal 4 (length ns)))

-- the last node's operands and the node itself are all the nodes
abbrev pub last_refusal : List Node → Option Refusal
last_refusal ns = cond (size_at ns (length ns - 1) == length ns) None (Some (table_refusal 7 (length ns - 1)))

-- what the judge answers: the count, then node by node, then the last size against the length
abbrev pub verdict : (Leaf → Bool) → List Node → Option Refusal
verdict admitted ns =
    or_else (count_refusal ns)
    (or_else (first_wrong (wrong admitted ns) (length ns) 0)
    (last_refusal ns))

-- every leaf of the tree is admitted
abbrev pub Leaves : (Leaf → Bool) → Tree → Type 0
Leaves admitted empty = Unit {0}
Leaves admitted (leaf l p) = admitted l ≡ true
Leaves admitted (either a b) = Leaves admitted a × Leaves admitted b
Leaves admitted (then a b) = Leaves admitted a × Leaves admitted b
Leaves admitted (repeat a) = Leaves admitted a

-- the list writes out a tree whose leaves are admitted
abbrev pub Writes : (Leaf → Bool) → List Node → Type 0
Writes admitted ns = (t : Tree) × (postfix t ≡ ns) × (length ns ≤ 512) × Leaves admitted t
