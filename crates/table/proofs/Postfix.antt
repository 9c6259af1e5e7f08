-- A tree is read back from the list that writes it out, and where its nodes stand in a longer list. Assumes nothing.
use Rattle.std.proofs.Common.{◌≡◌, ℕ, ◌+◌, ◌≤◌, List, [], ◌∷◌, ◌++◌, length, sym, refl, ap, ◌∙◌, append_assoc, append-nil, arith, length-append}
use Rattle.std.proofs.lemmas.List.{get_or_at}
use Rattle.table.specs.declared.node.Node.{Node}
use Rattle.table.specs.Rules.{node_at}
use Rattle.table.specs.Tree.{Tree, empty, leaf, either, then, repeat, size, inner, leaf_node, postfix, trees, tree_of}

-- reading a tree's nodes puts the tree on top of the trees read before
pub trees_postfix : (t : Tree) (ts : List Tree) (rest : List Node) → trees ts (postfix t ++ rest) ≡ trees (t ∷ ts) rest
trees_postfix empty ts rest = refl
trees_postfix (leaf l p) ts rest = refl
trees_postfix (either a b) ts rest = simp append_assoc (trees_postfix a ts _ ∙ trees_postfix b (a ∷ ts) _)
trees_postfix (then a b) ts rest = simp append_assoc (trees_postfix a ts _ ∙ trees_postfix b (a ∷ ts) _)
trees_postfix (repeat a) ts rest = simp append_assoc (trees_postfix a ts _)

pub tree_of_postfix : (t : Tree) → tree_of (postfix t) ≡ t
tree_of_postfix t = ap tree_of (sym (append-nil (postfix t))) ∙ rw (trees_postfix t [] []) refl

-- no list writes two trees out
pub tree_alone : (t : Tree) (ns : List Node) → postfix t ≡ ns → t ≡ tree_of ns
tree_alone t ns e = sym (tree_of_postfix t) ∙ ap tree_of e

-- a list that writes a tree out is what its tree writes out
pub postfix_tree_of : (t : Tree) (ns : List Node) → postfix t ≡ ns → postfix (tree_of ns) ≡ ns
postfix_tree_of t ns e = ap postfix (sym (tree_alone t ns e)) ∙ e

pub size_pos : (t : Tree) → 1 ≤ size t
size_pos empty = omega arith
size_pos (leaf l p) = omega arith
size_pos (either a b) = omega arith
size_pos (then a b) = omega arith
size_pos (repeat a) = omega arith

pub length_postfix : (t : Tree) → length (postfix t) ≡ size t
length_postfix empty = refl
length_postfix (leaf l p) = refl
length_postfix (either a b) = simp length-append (omega (arith, length_postfix a, length_postfix b))
length_postfix (then a b) = simp length-append (omega (arith, length_postfix a, length_postfix b))
length_postfix (repeat a) = simp length-append (omega (arith, length_postfix a))

-- the last node that a tree writes, and the nodes before it
abbrev pub root : Tree → Node
root empty = inner 0 1
root (leaf l p) = leaf_node l p
root (either a b) = inner 2 (size (either a b))
root (then a b) = inner 3 (size (then a b))
root (repeat a) = inner 4 (size (repeat a))

abbrev pub operands : Tree → List Node
operands empty = []
operands (leaf l p) = []
operands (either a b) = postfix a ++ postfix b
operands (then a b) = postfix a ++ postfix b
operands (repeat a) = postfix a

pub root_size : (t : Tree) → (root t).size ≡ size t
root_size empty = refl
root_size (leaf l p) = refl
root_size (either a b) = refl
root_size (then a b) = refl
root_size (repeat a) = refl

pub postfix_parts : (t : Tree) → postfix t ≡ operands t ++ root t ∷ []
postfix_parts empty = refl
postfix_parts (leaf l p) = refl
postfix_parts (either a b) = simp append_assoc
postfix_parts (then a b) = simp append_assoc
postfix_parts (repeat a) = refl

pub length_operands : (t : Tree) → length (operands t) + 1 ≡ size t
length_operands t = sym (length-append (operands t) (root t ∷ [])) ∙ ap length (sym (postfix_parts t)) ∙ length_postfix t

-- a tree's last node in a longer list
pub root_at : (t : Tree) (before after : List Node) (i : ℕ) → i + 1 ≡ length before + size t → node_at (before ++ (postfix t ++ after)) i ≡ root t
root_at t before after i h =
    let split : before ++ (postfix t ++ after) ≡ (before ++ operands t) ++ root t ∷ after = rw (postfix_parts t) (simp append_assoc) in
    rw split (get_or_at _ _ _ _ i (simp length-append (omega (arith, length_operands t))))
