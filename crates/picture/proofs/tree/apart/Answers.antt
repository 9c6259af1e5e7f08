use Rattle.std.proofs.Common.{◌≡◌, MatchOption, rules, take, drop, ap, ◌∙◌}
use Rattle.picture.proofs.Trees.{parted}
use Rattle.picture.proofs.tree.apart.Goals as goal

pub returns : goal.returns
returns c =
    let nodes = c.args.operands.now in
    let sized : MatchOption c.last.result (c.map_or-right.result ≡ 0) (λ x. c.map_or-right.result ≡ x.now.size) = search rules in
    parted nodes _ _ _ c.last.result c.last.ensures.item sized (c.split_at.ensures.front ∙ ap (λ k. take k nodes) c.saturating_sub.ensures) (c.split_at.ensures.back ∙ ap (λ k. drop k nodes) c.saturating_sub.ensures)
