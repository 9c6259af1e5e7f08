use Rattle.std.proofs.Common.{cond, sym, ap, ◌∙◌}
use Rattle.session.proofs.Arms.{leaf_arm, dead_arm}
use Rattle.session.proofs.marks.shift_leaf.Goals as goal

pub returns-then-is_zero-clause-shifted : goal.returns-then-is_zero-clause-shifted
returns-then-is_zero-clause-shifted g c =
    dead_arm g.W.Scale.ops g.W.Scale.laws g.W.Scale.tells g.S.Symbol.passing _ _ c.args.incoming c.args.symbol c.args.marks.now _ _ (sym c.is_zero.ensures ∙ c.if-is_zero.true) c.zero.ensures c.zero-then-is_zero.ensures

pub returns-clause-shifted : goal.returns-clause-shifted
returns-clause-shifted g c =
    leaf_arm g.W.Scale.ops g.W.Scale.laws g.W.Scale.tells g.S.Symbol.passing _ _ c.args.incoming c.args.symbol c.args.marks.now _ _ 1 c.leaf_mark-last.ensures c.leaf_flag.ensures
    (ap (λ b. cond b 0 1) (sym (sym c.is_zero.ensures ∙ c.if-is_zero.false)))
