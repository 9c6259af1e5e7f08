-- What a report says of a pattern's text, byte by byte. Assumes nothing.
use Rattle.std.specs.Prelude.{◌≡◌, ℕ, List, [], ◌∷◌, ◌++◌, map, replicate, Some, None, Ok, Err, codes, decimal, Option, Result}
use Rattle.picture.specs.Outline.{counted, outlined}
use Rattle.picture.specs.Words.{shown_byte}
use Rattle.table.specs.declared.fault.Refusal.{Refusal}
use Rattle.text.specs.Faults.{refusal_of}
use Rattle.text.specs.Grammar.{tree}
use Rattle.text.specs.Reads.{Answers}
use Rattle.text.specs.declared.fault.TextFault.{TextFault}
use Rattle.text.specs.declared.fault.TextFault.TheVariants.{TooLong, OffGrammar, TooDeep, NodeCount, ShortList}

-- the place in the text, of the faults that have one
abbrev pub place_in_text : TextFault → Option ℕ
place_in_text TooLong = Some 4096
place_in_text (OffGrammar p) = Some p
place_in_text (TooDeep p) = Some p
place_in_text (NodeCount n) = None
place_in_text (ShortList n) = None

-- a mark under that place of the line above, or no line
abbrev pub mark_line : Option ℕ → List ℕ
mark_line (Some p) = replicate p 32 ++ (94 ∷ 10 ∷ [])
mark_line None = []

-- what is wrong, and what to do about it
abbrev pub advice : TextFault → List ℕ
advice TooLong = codes "the text has more than 4096 bytes: leave out all from the mark on"
advice (OffGrammar p) = codes "the text stops fitting the grammar at the mark: mend it there"
advice (TooDeep p) = codes "the bracket at the mark is inside 32 others: use fewer brackets"
advice (NodeCount n) = codes "the pattern has more than 512 nodes: make it shorter"
advice (ShortList n) = codes "the program lent too few nodes: tell those who look after it"

-- the refusal's three numbers, the text as it is shown, the mark's line and the advice
abbrev pub refusal_lines : Refusal → List ℕ → List ℕ → List ℕ → List ℕ
refusal_lines r shown mark words =
    codes "refused: number " ++ (decimal r.number ++ (codes ", place " ++ (decimal r.place ++ (codes ", layer " ++ (decimal r.layer ++ 10 ∷ (shown ++ 10 ∷ (mark ++ (words ++ 10 ∷ []))))))))

abbrev pub refused_lines : List ℕ → TextFault → List ℕ
refused_lines s f = refusal_lines (refusal_of f) (map shown_byte s) (mark_line (place_in_text f)) (advice f)

-- below the text, by what a reading with room for 512 nodes answers: the number of nodes and the outline, or the refusal
abbrev pub below : (s : List ℕ) (a : Result ℕ TextFault) → Answers s 512 a → List ℕ
below s (Ok n) h = counted n ++ outlined 0 (tree h.0)
below s (Err f) h = refused_lines s f

abbrev pub ByAnswer : List ℕ → List ℕ → Type 0
ByAnswer s out = (a : Result ℕ TextFault) × (h : Answers s 512 a) × (out ≡ below s a h)

-- and nothing else can stand there
pub record Below (s out : List ℕ) : Type 0 where
  pub stands : ByAnswer s out
  pub only : (other : List ℕ) → ByAnswer s other → other ≡ out

-- the title and the text as it is shown, in one line, and what is below
abbrev pub page : List ℕ → List ℕ → List ℕ → List ℕ
page title shown under = title ++ (codes ": " ++ (shown ++ 10 ∷ under))

abbrev pub Reported : List ℕ → List ℕ → List ℕ → Type 0
Reported title s out = (under : List ℕ) × Below s under × (out ≡ page title (map shown_byte s) under)
