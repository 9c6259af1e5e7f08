-- The number, place and layer of each fault that the judge finds. Assumes nothing.
use Rattle.std.specs.Prelude.{ℕ, List, ◌∷◌, ◌++◌, Some, None, Ok, Err, Option, Result}
use Rattle.std.specs.Fmt.{decimal}
use Rattle.table.specs.declared.fault.Refusal.{Refusal}
use Rattle.table.specs.declared.fault.TableFault.{TableFault}
use Rattle.table.specs.declared.fault.TableFault.TheVariants.{NodeCount, BadNode, NoOperand, WrongSize, BadLeaf}

-- a refusal's three numbers, parted by blanks
abbrev pub refusal_text : Refusal → List ℕ
refusal_text r = decimal r.number ++ 32 ∷ decimal r.place ++ 32 ∷ decimal r.layer

abbrev pub table_refusal : ℕ → ℕ → Refusal
table_refusal n p = record { number = n; place = p; layer = 2 }

abbrev pub refusal_of : TableFault → Refusal
refusal_of (NodeCount n) = table_refusal 4 n
refusal_of (BadNode i) = table_refusal 5 i
refusal_of (NoOperand i) = table_refusal 6 i
refusal_of (WrongSize i) = table_refusal 7 i
refusal_of (BadLeaf i) = table_refusal 8 i

-- what the judge's answer says: nothing, or the refusal
abbrev pub answered : {A : Type 0} → Result A TableFault → Option Refusal
answered (Ok u) = None
answered (Err f) = Some (refusal_of f)
