use Rattle.std.proofs.Common.{◌≡◌, ◌*◌, length, take, drop, sym, ap, ◌∙◌, arith}
use Rattle.table.specs.declared.node.NodeKind.TheVariants.{Leaf, Either, Then, Repeat}
use Rattle.table.specs.NodeKinds.{number_of}
use Rattle.table.specs.Tree.{tree_of, leaf, leaf_of}
use Rattle.table.proofs.Postfix.{length_postfix}
use Rattle.session.specs.Shifts.{left_of, right_of}
use Rattle.session.proofs.Arms.{of_tree, either_arm, then_arm, repeat_arm, empty_arm, still_arm}
use Rattle.session.proofs.Shapes.{leaf_root, empty_single, has_operands, kind_is, lone_root, lone_size, root_is, writes_size}
use Rattle.session.proofs.marks.+shifting.Goals as goal

pub shift_either-returns-clause-shifted : goal.shift_either-returns-clause-shifted
shift_either-returns-clause-shifted g t c =
    let o = g.W.Scale.ops in
    let laws = g.W.Scale.laws in
    let tells = g.W.Scale.tells in
    let passing = g.S.Symbol.passing in
    let tree = tree_of c.args.nodes.now in
    let n = 3 * length c.operands.result.0.now in
    let m = 3 * length c.operands.result.1.now in
    let front = c.split_at_mut-first.ensures in
    let back = c.split_at_mut-second.ensures in
    of_tree o laws tells passing c.requires.two _ _ _ _ _
    (either_arm o laws tells passing (left_of tree) (right_of tree) c.args.marks.now _ _ _ n m (ap (λ k. 3 * k) (writes_size c.operands.ensures.left)) (ap (λ k. 3 * k) (writes_size c.operands.ensures.right)) front.front (back.front ∙ ap (take m) front.back) (back.back ∙ ap (drop m) front.back)
    c.args.incoming c.args.symbol _ _ _ _ _ _ _ c.root-left.ensures _ _ _ c.root-right.ensures _ _ c.add.ensures c.either_flag.ensures
    (of_tree o laws tells passing (sym c.operands.ensures.left.tree) _ _ _ _ _ c.shift-a.ensures.shifted) (of_tree o laws tells passing (sym c.operands.ensures.right.tree) _ _ _ _ _ c.shift-b.ensures.shifted))

pub shift_then-returns-clause-shifted : goal.shift_then-returns-clause-shifted
shift_then-returns-clause-shifted g t c =
    let o = g.W.Scale.ops in
    let laws = g.W.Scale.laws in
    let tells = g.W.Scale.tells in
    let passing = g.S.Symbol.passing in
    let tree = tree_of c.args.nodes.now in
    let n = 3 * length c.operands.result.0.now in
    let m = 3 * length c.operands.result.1.now in
    let front = c.split_at_mut-first.ensures in
    let back = c.split_at_mut-second.ensures in
    of_tree o laws tells passing c.requires.two _ _ _ _ _
    (then_arm o laws tells passing (left_of tree) (right_of tree) c.args.marks.now _ _ _ n m (ap (λ k. 3 * k) (writes_size c.operands.ensures.left)) (ap (λ k. 3 * k) (writes_size c.operands.ensures.right)) front.front (back.front ∙ ap (take m) front.back) (back.back ∙ ap (drop m) front.back)
    c.args.incoming _ c.args.symbol _ _ _ c.root-before.ensures (c.add-onward.ensures ∙ ap (λ x. o.plus x c.root-before.result.last) c.mul.ensures)
    _ _ _ _ _ _ _ c.root-left.ensures _ _ _ c.root-right.ensures _ _ (c.add.ensures ∙ ap (λ x. o.plus x c.root-right.result.last) c.mul-2.ensures) c.either_flag.ensures
    (of_tree o laws tells passing (sym c.operands.ensures.left.tree) _ _ _ _ _ c.shift-a.ensures.shifted) (of_tree o laws tells passing (sym c.operands.ensures.right.tree) _ _ _ _ _ c.shift-b.ensures.shifted))

pub shift_repeat-returns-clause-shifted : goal.shift_repeat-returns-clause-shifted
shift_repeat-returns-clause-shifted g t c =
    let o = g.W.Scale.ops in
    let laws = g.W.Scale.laws in
    let tells = g.W.Scale.tells in
    let passing = g.S.Symbol.passing in
    of_tree o laws tells passing c.requires.one _ _ _ _ _
    (repeat_arm o laws tells passing (left_of (tree_of c.args.nodes.now)) c.args.marks.now _ _ c.split_at_mut-below.ensures.front c.split_at_mut-below.ensures.back c.args.incoming _ c.args.symbol _ _ _ c.root.ensures c.add-onward.ensures
    _ _ _ _ _ c.root-2.ensures _ _ _ c.root-3.ensures (of_tree o laws tells passing (sym c.operand.ensures.only.tree) _ _ _ _ _ c.shift-tests.ensures.shifted))

pub shift-returns-then-is_zero-2-clause-shifted : goal.shift-returns-then-is_zero-2-clause-shifted
shift-returns-then-is_zero-2-clause-shifted g t c =
    still_arm g.W.Scale.ops g.W.Scale.laws g.W.Scale.tells g.S.Symbol.passing (tree_of c.args.nodes.now) c.args.incoming c.args.symbol c.args.marks.now _ _ _ c.root.ensures (sym c.is_zero.ensures ∙ c.if-is_zero.true) (sym c.is_zero-then-is_zero.ensures ∙ c.if-is_zero-2.true)

pub shift-returns-in-Leaf-clause-shifted : goal.shift-returns-in-Leaf-clause-shifted
shift-returns-in-Leaf-clause-shifted g t c =
    let nodes = c.args.nodes.now in
    let first = lone_root (tree_of nodes) nodes c.requires.fits.whole (omega (arith, c.requires.fits.some, c.if-nodes-gt1.false)) in
    of_tree g.W.Scale.ops g.W.Scale.laws g.W.Scale.tells g.S.Symbol.passing (leaf_root (tree_of nodes) (kind_is (tree_of nodes) nodes c.requires.fits.whole 1 (c.root_kind.ensures ∙ ap number_of c.in-Leaf.is)) ∙ (λ i. leaf (leaf_of (first i)) (first i).price)) _ _ _ _ _ c.shift_leaf.ensures.shifted

pub shift-returns-in_default-clause-shifted : goal.shift-returns-in_default-clause-shifted
shift-returns-in_default-clause-shifted g t c =
    let nodes = c.args.nodes.now in
    let whole = c.requires.fits.whole in
    let long : length nodes ≡ 1 = omega (arith, c.requires.fits.some, c.if-nodes-gt1.false) in
    let is = empty_single (tree_of nodes) (lone_size (tree_of nodes) nodes whole long) (λ e. c.in_default.not-Leaf (root_is (tree_of nodes) nodes whole _ Leaf c.root_kind.ensures e)) in
    of_tree g.W.Scale.ops g.W.Scale.laws g.W.Scale.tells g.S.Symbol.passing is _ _ _ _ _ (empty_arm g.W.Scale.ops g.W.Scale.laws g.W.Scale.tells g.S.Symbol.passing c.args.incoming c.args.symbol c.args.marks.now)

pub shift_inner-returns-in_default : goal.shift_inner-returns-in_default
shift_inner-returns-in_default g t c =
    let nodes = c.args.nodes.now in
    let whole = c.requires.fits.whole in
    let named = root_is (tree_of nodes) nodes whole _ in
    absurd (has_operands (tree_of nodes) (omega (arith, c.requires.long, ap length whole, length_postfix (tree_of nodes)))
    (λ e. c.in_default.not-Either (named Either c.root_kind.ensures e)) (λ e. c.in_default.not-Then (named Then c.root_kind.ensures e)) (λ e. c.in_default.not-Repeat (named Repeat c.root_kind.ensures e)))
