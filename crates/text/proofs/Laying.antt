-- Nodes written one after the other into a lent list. Assumes nothing.
use Rattle.std.proofs.Common.{◌≡◌, ℕ, ◌+◌, ◌-◌, ◌<◌, ◌≤◌, List, [], ◌∷◌, ◌++◌, length, take, drop, set, sym, ap, ◌∙◌, append_assoc, add-zero, zero-add, arith, length-set, take-append-drop}
use Rattle.std.proofs.lemmas.List.{take_more_set, drop-set-lt}
use Rattle.table.specs.declared.node.Node.{Node}
use Rattle.table.specs.Tree.{Tree, size, postfix, inner}
use Rattle.table.proofs.Postfix.{length_postfix}
use Rattle.text.specs.declared.reader.Reader.{Reader}
use Rattle.text.specs.Progress.{Took, Added, Made}
use Rattle.text.specs.Steps.{laid}

pub laid_append : (ns : List Node) (i : ℕ) (xs ys : List Node) → laid ns i (xs ++ ys) ≡ laid (laid ns i xs) (i + length xs) ys
laid_append ns i [] ys = ap (λ k. laid ns k ys) (sym (add-zero i))
laid_append ns i (x ∷ xs) ys = laid_append (set ns i x) (i + 1) xs ys ∙ ap (λ k. laid (laid (set ns i x) (i + 1) xs) k ys) (omega arith)

-- where there is room for all of them
laid_from : (ns : List Node) (i : ℕ) (xs : List Node) → i + length xs ≤ length ns → laid ns i xs ≡ take i ns ++ (xs ++ drop (i + length xs) ns)
laid_from ns i [] h = sym (take-append-drop i ns) ∙ ap (λ k. take i ns ++ drop k ns) (sym (add-zero i))
laid_from ns i (x ∷ xs) h =
    let inside : i < length ns = omega arith in
    let room : i + 1 + length xs ≤ length (set ns i x) = simp length-set (omega arith) in
    laid_from (set ns i x) (i + 1) xs room
    ∙ ap (λ front. front ++ (xs ++ drop (i + 1 + length xs) (set ns i x))) (take_more_set ns i x inside)
    ∙ append_assoc (take i ns) (x ∷ []) (xs ++ drop (i + 1 + length xs) (set ns i x))
    ∙ ap (λ back. take i ns ++ (x ∷ (xs ++ back))) (drop-set-lt (i + 1 + length xs) ns i x (omega arith) ∙ ap (λ k. drop k ns) (omega arith))

pub laid_all : (ns xs : List Node) → length xs ≤ length ns → laid ns 0 xs ≡ xs ++ drop (length xs) ns
laid_all ns xs h = laid_from ns 0 xs (omega arith) ∙ ap (λ k. xs ++ drop k ns) (zero-add (length xs))

-- the first of two runs of nodes is done
laid_then : (ns : List Node) (i : ℕ) (xs ys ms : List Node) (j : ℕ) → ms ≡ laid ns i xs → i + length xs ≡ j → laid ns i (xs ++ ys) ≡ laid ms j ys
laid_then ns i xs ys ms j e f = laid_append ns i xs ys ∙ (λ d. laid (sym e d) (f d) ys)

-- one node
pub single : (t : Tree) (n : Node) (j : ℕ) (was now : Reader) → postfix t ≡ n ∷ [] → size t ≡ 1 → 0 < j → Added j n was now → Made t was now
single t n j was now p one pos a = record {
  text = a.text;
  list = a.list;
  nodes = a.nodes ∙ ap (laid was.nodes.now was.count) (sym p);
  count = a.count ∙ ap (λ x. was.count + x) (sym one);
  depth = a.depth;
  forward = omega (arith, a.at);
  few = omega (arith, a.at, a.count);
}

-- two operands, and then their node
pub paired : (t u v : Tree) (k : ℕ) (was half mid late now : Reader) → postfix v ≡ postfix t ++ (postfix u ++ (inner k (size v) ∷ [])) → size v ≡ size t + size u + 1 → Made t was half → (j : ℕ) → Took j half mid → Made u mid late → Added 0 (inner k (late.count - was.count + 1)) late now → Made v was now
paired t u v k was half mid late now p z a j c b e = record {
  text = e.text ∙ b.text ∙ c.text ∙ a.text;
  list = e.list ∙ b.list ∙ c.list ∙ a.list;
  nodes =
      e.nodes ∙ ap (λ n. set late.nodes.now late.count (inner k n)) (omega (arith, a.count, b.count, c.count))
      ∙ sym (ap (laid was.nodes.now was.count) p
      ∙ laid_then was.nodes.now was.count (postfix t) _ mid.nodes.now mid.count (c.nodes ∙ a.nodes) (omega (arith, length_postfix t, a.count, c.count))
      ∙ laid_then mid.nodes.now mid.count (postfix u) (inner k (size v) ∷ []) late.nodes.now late.count b.nodes (omega (arith, length_postfix u, b.count)));
  count = omega (arith, a.count, b.count, c.count, e.count);
  depth = e.depth ∙ b.depth ∙ c.depth ∙ a.depth;
  forward = omega (arith, a.forward, b.forward, c.at, e.at);
  few = omega (arith, a.few, b.few, c.at, c.count, e.at, e.count);
}

-- an operand, and then its node
pub starred_made : (t v : Tree) (k : ℕ) (was half mid now : Reader) → postfix v ≡ postfix t ++ (inner k (size v) ∷ []) → size v ≡ size t + 1 → Made t was half → Took 1 half mid → Added 0 (inner k (mid.count - was.count + 1)) mid now → Made v was now
starred_made t v k was half mid now p z a c e = record {
  text = e.text ∙ c.text ∙ a.text;
  list = e.list ∙ c.list ∙ a.list;
  nodes =
      e.nodes ∙ ap (λ n. set mid.nodes.now mid.count (inner k n)) (omega (arith, a.count, c.count))
      ∙ sym (ap (laid was.nodes.now was.count) p ∙ laid_then was.nodes.now was.count (postfix t) (inner k (size v) ∷ []) mid.nodes.now mid.count (c.nodes ∙ a.nodes) (omega (arith, length_postfix t, a.count, c.count)));
  count = omega (arith, a.count, c.count, e.count);
  depth = e.depth ∙ c.depth ∙ a.depth;
  forward = omega (arith, a.forward, c.at, e.at);
  few = omega (arith, a.few, c.at, c.count, e.at, e.count);
}
