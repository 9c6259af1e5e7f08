-- All that is written for a meet. Assumes nothing.
use Rattle.std.specs.Prelude.{◌≡◌, ℕ, ◌⊎◌, List, [], Ok, Err, Result}
use Rattle.lines.specs.Lines.{lines}
use Rattle.std.specs.List.{slice_get}
use Rattle.std.specs.Option.{unwrap_or}
use Rattle.table.specs.Tree.{Tree}
use Rattle.table.specs.declared.table.Table.{Table}
use Rattle.text.specs.Faults.{refusal_of}
use Rattle.text.specs.Grammar.{tree}
use Rattle.text.specs.Reads.{Answers}
use Rattle.text.specs.Tables.{Tabled}
use Rattle.text.specs.declared.fault.TextFault.{TextFault}
use Rattle.meet.specs.declared.tables.Tables.{Tables}
use Rattle.meet.specs.Meet.{rows}
use Rattle.meet.specs.Rows.{fault_row}

-- a line of the patterns' file, counted from 0, or nothing where it has no such line
abbrev pub pattern_text : List ℕ → ℕ → List ℕ
pattern_text file n = unwrap_or (slice_get (lines file) n) []

-- what a refused pattern leaves to write
abbrev pub pattern_fault : TextFault → List ℕ
pattern_fault f = fault_row 0 (refusal_of f)

-- by what a reading of the club pattern answers: the rows of all result lines, or the club pattern's fault alone
abbrev pub by_club : Tree → List ℕ → Result ℕ TextFault → List ℕ
by_club p results (Ok n) = rows p [] (lines results)
by_club p results (Err f) = pattern_fault f

-- by what a reading of the line pattern answers: as the club pattern's says, or the line pattern's fault alone
abbrev pub ByLine : (line club results out : List ℕ) (a : Result ℕ TextFault) → Answers line 512 a → Type 0
ByLine line club results out (Ok n) h = (b : Result ℕ TextFault) × Answers club 512 b × (out ≡ by_club (tree h.0) results b)
ByLine line club results out (Err f) h = out ≡ pattern_fault f

abbrev pub ByAnswers : (line club results out : List ℕ) → Type 0
ByAnswers line club results out = (a : Result ℕ TextFault) × (h : Answers line 512 a) × ByLine line club results out a h

-- and nothing else can be written
pub record Written (patterns results out : List ℕ) : Type 0 where
  pub stands : ByAnswers (pattern_text patterns 0) (pattern_text patterns 1) results out
  pub only : (other : List ℕ) → ByAnswers (pattern_text patterns 0) (pattern_text patterns 1) results other → other ≡ out

-- the tables of both patterns, or the fault of the first that is refused
abbrev pub TablesBy : List ℕ → List ℕ → Result Tables TextFault → Type 0
TablesBy line club (Ok t) = Tabled line t.line × Tabled club t.club
TablesBy line club (Err f) = Answers line 512 (Err f) ⊎ (((t : Table) × Tabled line t) × Answers club 512 (Err f))
