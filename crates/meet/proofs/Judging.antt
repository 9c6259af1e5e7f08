-- A meet's patterns, and that only one thing can be written by them. Assumes nothing.
use Rattle.std.proofs.Common.{◌≡◌, ℕ, ◌⊎◌, List, [], length, Ok, Err, sym, ap, ◌∙◌, inl, inr}
use Rattle.lines.specs.Lines.{lines}
use Rattle.table.specs.Content as tables
use Rattle.table.specs.Content.{content}
use Rattle.table.specs.declared.table.Table.{Table}
use Rattle.text.proofs.Unique.{one_answer, unambiguous}
use Rattle.text.specs.Grammar.{tree}
use Rattle.text.specs.Reads.{Answers}
use Rattle.text.specs.Tables.{Tabled}
use Rattle.text.specs.declared.fault.TextFault.{TextFault}
use Rattle.meet.specs.Meet.{rows}
use Rattle.meet.specs.Whole.{ByAnswers, Written, by_club, pattern_fault, pattern_text}

-- no two answers fit a text, and it means no two patterns
same_written : (line club results x y : List ℕ) → ByAnswers line club results x → ByAnswers line club results y → x ≡ y
same_written line club results x y (Ok n, h, d) (Ok m, k, e) =
    d.2
    ∙ ap (λ q. by_club (tree q) results d.0) (unambiguous line h.0 k.0 h.1.1 k.1.1)
    ∙ ap (by_club (tree k.0) results) (one_answer club 512 d.0 e.0 d.1 e.1)
    ∙ sym e.2
same_written line club results x y (Ok n, h, d) (Err g, k, e) = let p = one_answer line 512 (Ok n) (Err g) h k in cc
same_written line club results x y (Err f, h, d) (Ok m, k, e) = let p = one_answer line 512 (Err f) (Ok m) h k in cc
same_written line club results x y (Err f, h, d) (Err g, k, e) =
    let p = one_answer line 512 (Err f) (Err g) h k in
    let fault : f ≡ g = cc in
    d ∙ ap pattern_fault fault ∙ sym e

pub alone : (patterns results out : List ℕ) → ByAnswers (pattern_text patterns 0) (pattern_text patterns 1) results out → Written patterns results out
alone patterns results out h = record {
  stands = h;
  only = λ other k. same_written (pattern_text patterns 0) (pattern_text patterns 1) results other out k h;
}

-- both patterns are right
pub by_rows : (patterns results out : List ℕ) (t u : Table) → Tabled (pattern_text patterns 0) t → Tabled (pattern_text patterns 1) u → out ≡ rows (tables.tree t) [] (lines results) → Written patterns results out
by_rows patterns results out t u h k e =
    alone patterns results out (Ok (length (content t).nodes), h.means, (Ok (length (content u).nodes), k.means, e ∙ ap (λ p. rows p [] (lines results)) h.same))

-- one is not
pub by_fault : (patterns results out : List ℕ) (f : TextFault) → Answers (pattern_text patterns 0) 512 (Err f) ⊎ (((t : Table) × Tabled (pattern_text patterns 0) t) × Answers (pattern_text patterns 1) 512 (Err f)) → out ≡ pattern_fault f → Written patterns results out
by_fault patterns results out f (inl a) e = alone patterns results out (Err f, a, e)
by_fault patterns results out f (inr a) e = alone patterns results out (Ok (length (content a.0.0).nodes), a.0.1.means, (Err f, a.1, e))
