-- The nodes that a reading leaves in front make the pattern's table. Assumes nothing.
use Rattle.std.proofs.Common.{◌≡◌, ℕ, List, length, take, drop, Ok, sym, ap, ◌∙◌, arith}
use Rattle.std.proofs.lemmas.List.{take_at}
use Rattle.table.proofs.Postfix.{length_postfix, tree_alone}
use Rattle.table.specs.Content.{Content, content, held}
use Rattle.table.specs.Kinds.{byte_number}
use Rattle.table.specs.Tree.{postfix}
use Rattle.table.specs.declared.node.Node.{Node}
use Rattle.table.specs.declared.table.Table.{Table}
use Rattle.text.specs.Grammar.{tree}
use Rattle.text.specs.Reads.{Answers, Leaves}
use Rattle.text.specs.Tables.{Tabled}

pub tabled : (s : List ℕ) (t : Table) (before after : List Node) (n : ℕ) → Answers s 512 (Ok n) → Leaves s before (Ok n) after → content t ≡ held byte_number (take n after) → Tabled s t
tabled s t before after n a l e =
    let q = a.0 in
    let long : length (postfix (tree q)) ≡ n = length_postfix (tree q) ∙ sym a.2 in
    let front : take n after ≡ postfix (tree q) = ap (take n) (l q a.1.1) ∙ take_at (postfix (tree q)) (drop n before) n long in
    let same : (content t).nodes ≡ postfix (tree q) = ap (λ (x : Content). x.nodes) e ∙ front in
    let count : length (content t).nodes ≡ n = ap length same ∙ long in
    record {
      means = (q, a.1, count ∙ a.2, omega (arith, count, a.3), omega (arith, count, a.4));
      nodes = sym same;
      same = sym (tree_alone (tree q) (content t).nodes (sym same));
      kind = ap (λ (x : Content). x.kind) e;
    }
