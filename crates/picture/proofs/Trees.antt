-- The nodes of a tree, from their end. Assumes nothing.
use Rattle.std.proofs.Common.{◌≡◌, ℕ, ◌+◌, ◌-◌, ◌^◌, ◌<◌, ◌≤◌, List, [], ◌∷◌, ◌++◌, length, get_or, take, drop, Some, None, Option, Bor, MatchOption, sym, ap, ◌∙◌, append_assoc, append-nil, arith, length-append, take-append-drop}
use Rattle.picture.specs.Outline.{Parted, line_of, outlined, outline_of}
use Rattle.picture.specs.Words.{node_words}
use Rattle.std.proofs.lemmas.List.{get_or_at, take_at, drop_at, same_from_push, length_push, nil_from_length}
use Rattle.std.specs.Slice.{IsGetResult}
use Rattle.table.proofs.Postfix.{length_postfix, operands, postfix_parts, postfix_tree_of, tree_alone, root, root_size, size_pos}
use Rattle.table.specs.Tree.{Tree, empty, leaf, either, then, repeat, postfix, tree_of, inner, leaf_node}
use Rattle.table.specs.declared.node.Node.{Node}

module _ (nodes left right : List Node) (n : ℕ) (front : left ≡ take (length nodes - n) nodes) (back : right ≡ drop (length nodes - n) nodes) where
  whole : nodes ≡ left ++ right
  whole = sym (take-append-drop (length nodes - n) nodes) ∙ cc

  long : length left + length right ≡ length nodes
  long = omega (arith, ap length whole, length-append left right)

  cuts : (t : Tree) (before : List Node) (x : Node) → nodes ≡ before ++ postfix t → x ≡ get_or nodes (length nodes - 1) x → x.size ≡ n → (left ≡ before) × (right ≡ postfix t)
  cuts t before x e last sized =
      let ends : nodes ≡ (before ++ operands t) ++ (root t ∷ []) = e ∙ ap (λ l. before ++ l) (postfix_parts t) ∙ sym (append_assoc before (operands t) (root t ∷ [])) in
      let count : length (before ++ operands t) ≡ length nodes - 1 = omega (arith, ap length ends, length_push (before ++ operands t) (root t)) in
      let is : x ≡ root t = last ∙ ap (λ l. get_or l (length nodes - 1) x) ends ∙ get_or_at (before ++ operands t) (root t) [] x (length nodes - 1) count in
      let at : length before ≡ length nodes - n = omega (arith, ap length e, length-append before (postfix t), length_postfix t, root_size t, sized, ap (λ (y : Node). y.size) is) in
      (front ∙ ap (take (length nodes - n)) e ∙ take_at before (postfix t) (length nodes - n) at, back ∙ ap (drop (length nodes - n)) e ∙ drop_at before (postfix t) (length nodes - n) at)

  -- n is the size of the last node
  parted_by : (x : Node) → x ≡ get_or nodes (length nodes - 1) x → x.size ≡ n → Parted nodes left right
  parted_by x last sized = record { whole = whole; long = long; cuts = λ t before e. cuts t before x e last sized }

  parted_none : length nodes ≤ 0 → Parted nodes left right
  parted_none none = record {
    whole = whole;
    long = long;
    cuts = λ t before e. absurd (omega (arith, ap length e, length-append before (postfix t), length_postfix t, size_pos t));
  }

-- the last node, if there is one, says how many the right part has
pub parted : (nodes left right : List Node) (n : ℕ) (last : Option (Bor Node)) → IsGetResult nodes 0 (length nodes - 1) last → MatchOption last (n ≡ 0) (λ x. n ≡ x.now.size) → left ≡ take (length nodes - n) nodes → right ≡ drop (length nodes - n) nodes → Parted nodes left right
parted nodes left right n (Some x) item sized front back = parted_by nodes left right n front back x.now item.1 (sym sized)
parted nodes left right n None item sized front back = parted_none nodes left right n front back item.3

-- the outline of the nodes that a tree writes
pub outline_whole : (t : Tree) (nodes : List Node) (d : ℕ) → postfix t ≡ nodes → outline_of d nodes ≡ outlined d t
outline_whole t [] d e = absurd (omega (arith, ap length e, length_postfix t, size_pos t))
outline_whole t (n ∷ ns) d e = ap (outlined d) (sym (tree_alone t (n ∷ ns) e))

-- the last of a tree's nodes, and the operands before it
module _ (last : Node) {nodes ops left right : List Node} (split : nodes ≡ ops ++ (last ∷ [])) (parts : Parted ops left right) where
  some_node : 0 < length nodes
  some_node = omega (arith, ap length split, length_push ops last)

  -- the operands have a node less than the whole
  pub fewer : (d : ℕ) → d + length nodes < 2 ^ 63 → (d + 1 + length left < 2 ^ 63) × (d + 1 + length right < 2 ^ 63)
  fewer d h =
      let long = parts.long in
      let count : length nodes ≡ length ops + 1 = ap length split ∙ length_push ops last in
      (omega arith, omega arith)

  no_operand : (n : Node) → n ∷ [] ≡ nodes → (left ≡ []) × (right ≡ []) × (n ≡ last)
  no_operand n e =
      let s = same_from_push [] ops n last (e ∙ split) in
      let none : length ops ≡ 0 = ap length (sym s.0) in
      (nil_from_length left (omega (arith, parts.long)), nil_from_length right (omega (arith, parts.long)), s.1)

  one_operand : (a : Tree) (n : Node) → postfix a ++ (n ∷ []) ≡ nodes → (left ≡ []) × (right ≡ postfix a) × (n ≡ last)
  one_operand a n e =
      let s = same_from_push (postfix a) ops n last (e ∙ split) in
      let cut = parts.cuts a [] (sym s.0) in
      (cut.0, cut.1, s.1)

  two_operands : (a b : Tree) (n : Node) → postfix a ++ (postfix b ++ (n ∷ [])) ≡ nodes → (left ≡ postfix a) × (right ≡ postfix b) × (n ≡ last)
  two_operands a b n e =
      let s = same_from_push (postfix a ++ postfix b) ops n last (append_assoc (postfix a) (postfix b) (n ∷ []) ∙ e ∙ split) in
      let cut = parts.cuts b (postfix a) (sym s.0) in
      (cut.0, cut.1, s.1)

  -- what either operand has is whole
  left_by : (t : Tree) → postfix t ≡ nodes → 0 < length left → postfix (tree_of left) ≡ left
  left_by empty e h = absurd (omega (arith, ap length (no_operand _ e).0))
  left_by (leaf l p) e h = absurd (omega (arith, ap length (no_operand _ e).0))
  left_by (either a b) e h = postfix_tree_of a left (sym (two_operands a b _ e).0)
  left_by (then a b) e h = postfix_tree_of a left (sym (two_operands a b _ e).0)
  left_by (repeat a) e h = absurd (omega (arith, ap length (one_operand a _ e).0))

  right_by : (t : Tree) → postfix t ≡ nodes → 0 < length right → postfix (tree_of right) ≡ right
  right_by empty e h = absurd (omega (arith, ap length (no_operand _ e).1))
  right_by (leaf l p) e h = absurd (omega (arith, ap length (no_operand _ e).1))
  right_by (either a b) e h = postfix_tree_of b right (sym (two_operands a b _ e).1)
  right_by (then a b) e h = postfix_tree_of b right (sym (two_operands a b _ e).1)
  right_by (repeat a) e h = postfix_tree_of a right (sym (one_operand a _ e).1)

  module _ (whole : 0 < length nodes → postfix (tree_of nodes) ≡ nodes) where
    pub whole_left : 0 < length left → postfix (tree_of left) ≡ left
    whole_left = left_by (tree_of nodes) (whole some_node)

    pub whole_right : 0 < length right → postfix (tree_of right) ≡ right
    whole_right = right_by (tree_of nodes) (whole some_node)

  module _ (d : ℕ) where
    written : List ℕ
    written = line_of d (node_words last) ++ (outline_of (d + 1) left ++ outline_of (d + 1) right)

    with_none : (n : Node) → n ∷ [] ≡ nodes → written ≡ line_of d (node_words n)
    unfolding written
    with_none n e =
        let k = no_operand n e in
        (λ i. line_of d (node_words (sym k.2 i)) ++ (outline_of (d + 1) (k.0 i) ++ outline_of (d + 1) (k.1 i))) ∙ append-nil (line_of d (node_words n))

    with_one : (a : Tree) (n : Node) → postfix a ++ (n ∷ []) ≡ nodes → written ≡ line_of d (node_words n) ++ outlined (d + 1) a
    unfolding written
    with_one a n e =
        let k = one_operand a n e in
        λ i. line_of d (node_words (sym k.2 i)) ++ (outline_of (d + 1) (k.0 i) ++ outline_whole a right (d + 1) (sym k.1) i)

    with_two : (a b : Tree) (n : Node) → postfix a ++ (postfix b ++ (n ∷ [])) ≡ nodes → written ≡ line_of d (node_words n) ++ (outlined (d + 1) a ++ outlined (d + 1) b)
    unfolding written
    with_two a b n e =
        let k = two_operands a b n e in
        λ i. line_of d (node_words (sym k.2 i)) ++ (outline_whole a left (d + 1) (sym k.0) i ++ outline_whole b right (d + 1) (sym k.1) i)

    by_tree : (t : Tree) → postfix t ≡ nodes → written ≡ outlined d t
    by_tree empty e = with_none (inner 0 1) e
    by_tree (leaf l p) e = with_none (leaf_node l p) e
    by_tree (either a b) e = with_two a b _ e
    by_tree (then a b) e = with_two a b _ e
    by_tree (repeat a) e = with_one a _ e

    -- the line and the operands' outlines are the whole outline
    pub outline_parts : (0 < length nodes → postfix (tree_of nodes) ≡ nodes) → line_of d (node_words last) ++ (outline_of (d + 1) left ++ outline_of (d + 1) right) ≡ outline_of d nodes
    unfolding written
    outline_parts whole = by_tree (tree_of nodes) (whole some_node) ∙ sym (outline_whole (tree_of nodes) nodes d (whole some_node))
