-- What stands below a text, by its table or its fault. Assumes nothing.
use Rattle.std.proofs.Common.{◌≡◌, ℕ, List, ◌++◌, length, map, IfOk, Ok, Err, string_bytes, Result, String, sym, refl, ap, ◌∙◌, arith}
use Rattle.picture.proofs.Trees.{outline_whole}
use Rattle.picture.specs.Outline.{counted, outlined, outline_of}
use Rattle.picture.specs.Words.{shown_byte}
use Rattle.picture.specs.Report.{Below, ByAnswer, Reported, below, page, refused_lines}
use Rattle.std.proofs.lemmas.Result.{IfOk-weaker}
use Rattle.std.specs.declared.alloc.AllocError.{AllocError}
use Rattle.std.specs.declared.alloc.Global.{Global}
use Rattle.table.specs.Content.{content}
use Rattle.table.specs.declared.node.Node.{Node}
use Rattle.table.specs.declared.table.Table.{Table}
use Rattle.text.proofs.Unique.{one_answer, unambiguous}
use Rattle.text.specs.Grammar.{tree}
use Rattle.text.specs.Reads.{Answers}
use Rattle.text.specs.Tables.{Tabled}
use Rattle.text.specs.declared.fault.TextFault.{TextFault}

-- no two texts can stand below one text: no two answers fit it, and it means no two patterns
same_below : (s : List ℕ) (a b : Result ℕ TextFault) (h : Answers s 512 a) (k : Answers s 512 b) → a ≡ b → below s a h ≡ below s b k
same_below s (Ok n) (Ok m) h k e =
    let count : n ≡ m = cc in
    ap (λ i. counted i ++ outlined 0 (tree h.0)) count ∙ ap (λ q. counted m ++ outlined 0 (tree q)) (unambiguous s h.0 k.0 h.1.1 k.1.1)
same_below s (Ok n) (Err g) h k e = absurd (let z : ◌≡◌ {A = ℕ} 0 1 = cc in omega arith)
same_below s (Err f) (Ok m) h k e = absurd (let z : ◌≡◌ {A = ℕ} 0 1 = cc in omega arith)
same_below s (Err f) (Err g) h k e = let fault : f ≡ g = cc in ap (refused_lines s) fault

alone : (s out : List ℕ) → ByAnswer s out → Below s out
alone s out h =
    record {
      stands = h;
      only = λ x k. k.2 ∙ same_below s k.0 h.0 k.1 h.1 (one_answer s 512 k.0 h.0 k.1 h.1) ∙ sym h.2;
    }

pub reported_nodes : (r : Result (String Global) AllocError) (title s : List ℕ) (t : Table) (nodes : List Node) → Tabled s t → nodes ≡ (content t).nodes → IfOk r (λ x. string_bytes x ≡ page title (map shown_byte s) (counted (length nodes) ++ outline_of 0 nodes)) → IfOk r (λ x. Reported title s (string_bytes x))
reported_nodes r title s t nodes h e m =
    let q = h.means.0 in
    let under = counted (length nodes) ++ outline_of 0 nodes in
    let same : under ≡ counted (length (content t).nodes) ++ outlined 0 (tree q) =
    ap (λ l. counted (length l) ++ outline_of 0 l) e ∙ ap (λ x. counted (length (content t).nodes) ++ x) (outline_whole (tree q) (content t).nodes 0 h.nodes) in
    IfOk-weaker r _ _ (λ x w. (under, alone s under (Ok (length (content t).nodes), h.means, same), w)) m

pub reported_fault : (r : Result (String Global) AllocError) (title s : List ℕ) (f : TextFault) → Answers s 512 (Err f) → IfOk r (λ x. string_bytes x ≡ page title (map shown_byte s) (refused_lines s f)) → IfOk r (λ x. Reported title s (string_bytes x))
reported_fault r title s f h m = IfOk-weaker r _ _ (λ x w. (refused_lines s f, alone s (refused_lines s f) (Err f, h, refl), w)) m
