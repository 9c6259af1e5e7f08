-- The bytes of a row. Assumes nothing.
use Rattle.std.specs.Prelude.{ℕ, zero, suc, ◌/◌, ◌%◌, List, [], ◌∷◌, ◌++◌, codes, decimal}
use Rattle.table.specs.declared.fault.Refusal.{Refusal}

-- U without a reading, C with one, S with more
abbrev pub letter : ℕ → ℕ
letter zero = 85
letter (suc zero) = 67
letter (suc (suc n)) = 83

-- lane in two digits, letter, number of readings
abbrev pub row : ℕ → ℕ → List ℕ
row lane count = decimal (lane / 10) ++ (decimal (lane % 10) ++ 32 ∷ letter count ∷ 32 ∷ (decimal count ++ 10 ∷ []))

-- line, and the refusal's number, place and layer
abbrev pub fault_row : ℕ → Refusal → List ℕ
fault_row line r =
    codes "fault " ++ (decimal line ++ 32 ∷ (decimal r.number ++ 32 ∷ (decimal r.place ++ 32 ∷ (decimal r.layer ++ 10 ∷ []))))
