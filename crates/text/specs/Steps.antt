-- What the reader comes to from a place on, and what it leaves, by the states of a scan. Assumes nothing.
use Rattle.std.specs.Prelude.{◌≡◌, ℕ, ◌+◌, ◌<◌, ◌≤◌, List, [], ◌∷◌, length, drop, slice_index_or, slice_set}
use Rattle.table.specs.declared.node.Node.{Node}
use Rattle.table.specs.Tree.{size, postfix}
use Rattle.text.specs.declared.fault.TextFault.{TextFault}
use Rattle.text.specs.declared.fault.TextFault.TheVariants.{OffGrammar, TooDeep}
use Rattle.text.specs.declared.reader.Stop.{Stop}
use Rattle.text.specs.declared.reader.Stop.TheVariants.{Off, Deep}
use Rattle.text.specs.Grammar.{Pattern, tree}
use Rattle.text.specs.Scan.{State, start, Verdict, good, off, deep, finish}

-- what the text comes to from place i on, after a state
unfoldable pub outcome : State → List ℕ → ℕ → Verdict
outcome z s i = finish z i (drop i s)

abbrev pub stopped : Stop → Verdict
stopped (Off p) = off p
stopped (Deep p) = deep p

abbrev pub fault_of : Stop → TextFault
fault_of (Off p) = OffGrammar p
fault_of (Deep p) = TooDeep p

-- the byte b stands at place i
pub record There (s : List ℕ) (i b : ℕ) : Type 0 where
  pub within : i < length s
  pub is : slice_index_or s i 0 ≡ b
  pub small : b ≤ 255

-- nodes written one after the other from place i on, as far as the list has room
abbrev pub laid : List Node → ℕ → List Node → List Node
laid ns i [] = ns
laid ns i (x ∷ xs) = laid (slice_set ns i x) (i + 1) xs

-- the whole text has been read
abbrev pub WholeRead : List ℕ → List Node → List Node → ℕ → Type 0
WholeRead s before after n = (q : Pattern) × (outcome start s 0 ≡ good q) × (n ≡ size (tree q)) × (after ≡ laid before 0 (postfix (tree q)))
