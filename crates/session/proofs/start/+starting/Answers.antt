use Rattle.std.proofs.Common.{◌*◌, ◌++◌, length, sym, ap, ◌∙◌, arith}
use Rattle.table.specs.NodeKinds.{number_of}
use Rattle.table.specs.Tree.{tree_of}
use Rattle.table.proofs.Postfix.{length_postfix}
use Rattle.readings.proofs.Sums.{weight_empty, weight_stop}
use Rattle.session.specs.Marks.{empty_weight}
use Rattle.session.specs.Shifts.{left_of, right_of}
use Rattle.session.specs.Starts.{below_root, first_marks}
use Rattle.session.proofs.Endings.{empty_either, empty_then}
use Rattle.session.proofs.Shapes.{leaf_root, either_root, then_root, repeat_root, empty_root, kind_is}
use Rattle.session.proofs.Starting.{root_started, none_below, empty_read}
use Rattle.session.proofs.start.+starting.Goals as goal

pub start-returns : goal.start-returns
start-returns g t c =
    root_started g.W.Scale.ops g.W.Scale.tells g.S.Symbol.passing (tree_of c.args.nodes.now) _ c.split_at_mut-below.result.1.now (omega (arith, c.requires.fits.some, c.requires.fits.long, c.split_at_mut-below.ensures.back_len)) _ _ _
    c.start_below.ensures.below c.start_below.ensures.value c.zero.ensures c.zero-2.ensures

pub start_below-returns-in-Leaf : goal.start_below-returns-in-Leaf
start_below-returns-in-Leaf g t c =
    let nodes = c.args.nodes.now in
    let o = g.W.Scale.ops in
    let is = leaf_root (tree_of nodes) (kind_is (tree_of nodes) nodes c.requires.fits.whole 1 (c.root_kind.ensures ∙ ap number_of c.in-Leaf.is)) in
    record {
      value = c.zero.ensures ∙ ap (empty_weight o g.S.Symbol.passing) (sym is);
      below = none_below o g.W.Scale.tells g.S.Symbol.passing (tree_of nodes) c.args.below.now (ap (below_root o g.S.Symbol.passing) is) (c.requires.fits.long ∙ ap (λ k. 3 * k) (ap length (sym c.requires.fits.whole) ∙ length_postfix (tree_of nodes)));
    }

pub start_below-returns-in-Either : goal.start_below-returns-in-Either
start_below-returns-in-Either g t c =
    let nodes = c.args.nodes.now in
    let o = g.W.Scale.ops in
    let is = either_root (tree_of nodes) (kind_is (tree_of nodes) nodes c.requires.fits.whole 2 (c.root_kind.ensures ∙ ap number_of c.in-Either.is)) in
    let both = c.start_both-left.ensures in
    record {
      value = c.add.ensures ∙ (λ k. o.plus (both.left k) (both.right k)) ∙ sym (empty_either o g.W.Scale.laws g.S.Symbol.passing (left_of (tree_of nodes)) (right_of (tree_of nodes))) ∙ ap (empty_weight o g.S.Symbol.passing) (sym is);
      below = both.below ∙ ap (below_root o g.S.Symbol.passing) (sym is);
    }

pub start_below-returns-in-Then : goal.start_below-returns-in-Then
start_below-returns-in-Then g t c =
    let nodes = c.args.nodes.now in
    let o = g.W.Scale.ops in
    let is = then_root (tree_of nodes) (kind_is (tree_of nodes) nodes c.requires.fits.whole 3 (c.root_kind.ensures ∙ ap number_of c.in-Then.is)) in
    let both = c.start_both-left-in-Then.ensures in
    record {
      value = c.mul.ensures ∙ (λ k. o.times (both.left k) (both.right k)) ∙ sym (empty_then o g.W.Scale.laws g.S.Symbol.passing (left_of (tree_of nodes)) (right_of (tree_of nodes))) ∙ ap (empty_weight o g.S.Symbol.passing) (sym is);
      below = both.below ∙ ap (below_root o g.S.Symbol.passing) (sym is);
    }

pub start_below-returns-in-Repeat : goal.start_below-returns-in-Repeat
start_below-returns-in-Repeat g t c =
    let nodes = c.args.nodes.now in
    let o = g.W.Scale.ops in
    let is = repeat_root (tree_of nodes) (kind_is (tree_of nodes) nodes c.requires.fits.whole 4 (c.root_kind.ensures ∙ ap number_of c.in-Repeat.is)) in
    record {
      value = c.one_way.ensures ∙ sym (weight_stop o g.W.Scale.laws g.S.Symbol.passing (left_of (tree_of nodes))) ∙ ap (empty_weight o g.S.Symbol.passing) (sym is);
      below = c.start.ensures ∙ ap (first_marks o g.S.Symbol.passing) c.operand.ensures.only.tree ∙ ap (below_root o g.S.Symbol.passing) (sym is);
    }

pub start_below-returns-in-Empty : goal.start_below-returns-in-Empty
start_below-returns-in-Empty g t c =
    let nodes = c.args.nodes.now in
    let o = g.W.Scale.ops in
    let is = empty_root (tree_of nodes) (kind_is (tree_of nodes) nodes c.requires.fits.whole 0 (c.root_kind.ensures ∙ ap number_of c.in-Empty.is)) in
    record {
      value = c.one_way-in-Empty.ensures ∙ sym (weight_empty o g.W.Scale.laws g.S.Symbol.passing) ∙ ap (empty_weight o g.S.Symbol.passing) (sym is);
      below = none_below o g.W.Scale.tells g.S.Symbol.passing (tree_of nodes) c.args.below.now (ap (below_root o g.S.Symbol.passing) is) (c.requires.fits.long ∙ ap (λ k. 3 * k) (ap length (sym c.requires.fits.whole) ∙ length_postfix (tree_of nodes)));
    }

pub start_both-returns : goal.start_both-returns
start_both-returns g t c =
    let o = g.W.Scale.ops in
    let one = c.start.ensures ∙ ap (first_marks o g.S.Symbol.passing) c.operands.ensures.left.tree in
    let two = c.start-2.ensures ∙ ap (first_marks o g.S.Symbol.passing) c.operands.ensures.right.tree in
    record {
      left = empty_read o g.W.Scale.tells g.S.Symbol.passing (left_of (tree_of c.args.nodes.now)) _ _ _ _ one c.root.ensures;
      right = empty_read o g.W.Scale.tells g.S.Symbol.passing (right_of (tree_of c.args.nodes.now)) _ _ _ _ two c.root-2.ensures;
      below = λ k. one k ++ two k;
    }
