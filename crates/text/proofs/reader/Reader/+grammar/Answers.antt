use Rattle.std.proofs.Common.{◌≡◌, None, sym, refl, ap, ◌∙◌, subst, ⊎_elim, arith}
use Rattle.text.specs.declared.reader.Class.TheVariants.{Bar, Star, Shut, Dot, Right}
use Rattle.text.specs.declared.reader.Class.{Class}
use Rattle.text.specs.Grammar.{any, plain, unit}
use Rattle.text.specs.Scan.{begin}
use Rattle.text.specs.Steps.{stopped, There}
use Rattle.text.specs.Progress.{Added}
use Rattle.text.proofs.Atoms.{dot_goes, plain_goes, begins_none, one_node}
use Rattle.text.proofs.Bytes.{byte_is}
use Rattle.std.proofs.lemmas.Result.{err_from_is_err_and}
use Rattle.text.proofs.Groups.{deep_group, unit_goes, group_stops, group_read}
use Rattle.text.proofs.Loops.{unstarred, one_piece, star_more, piece_stops, piece_more, branch_stops, branch_more}
use Rattle.text.proofs.Taking.{comes, comes_not, took_more, added_more}
use Rattle.text.proofs.Outcomes.{at_end}
use Rattle.text.proofs.reader.Reader.+grammar.Goals as goal

pub atom-returns-in_err-b : goal.atom-returns-in_err-b
atom-returns-in_err-b t c =
    let e = c.in_err-b.ensures in
    let p = err_from_is_err_and c.from_residual.result c.from_residual.ensures.1 in
    rw (p.1, p.2) (λ o a p k. at_end c.args.self.now.text.now _ c.args.self.now.at e.1 ∙ sym (ap stopped e.0))

pub atom-returns-in-Dot : goal.atom-returns-in-Dot
atom-returns-in-Dot t c =
    let b = c.in_ok-b.ensures in
    one_node any _ refl refl 1 c.args.self.now _
    (λ o a p k. dot_goes c.args.self.now.text.now c.args.self.now.at o a p (omega (arith, c.args.self.now.shallow)) (subst (There c.args.self.now.text.now c.args.self.now.at) (byte_is _ Dot (sym c.in-Dot.ensures)) b))
    (omega arith) (rw c.leaf.ensures at c.take.ensures)

pub atom-returns-in-Plain : goal.atom-returns-in-Plain
atom-returns-in-Plain t c =
    let b = c.in_ok-b.ensures in
    one_node (plain c.in_ok-b.b) _ refl refl 1 c.args.self.now _
    (λ o a p k. plain_goes c.args.self.now.text.now c.args.self.now.at o a p (omega (arith, c.args.self.now.shallow)) _ b (sym c.in-Plain.ensures))
    (omega arith) (rw c.leaf-in-Plain.ensures at c.take-in-Plain.ensures)

pub atom-returns-in-Bar : goal.atom-returns-in-Bar
atom-returns-in-Bar t c o a p k =
    let b = c.in_ok-b.ensures in
    let none = λ (g : Class) (e : c.from.result ≡ g) (n : begin o a p c.in_ok-b.b g ≡ None). begins_none c.args.self.now.text.now c.args.self.now.at o a p (omega (arith, c.args.self.now.shallow)) _ g b (sym c.from.ensures ∙ e) n in
    ⊎_elim (λ e. none Bar e refl) (⊎_elim (λ e. none Star e refl) (⊎_elim (λ e. none Shut e refl) (λ e. none Right e refl))) c.in-Bar.is

pub branch-loop-self-init : goal.branch-loop-self-init
branch-loop-self-init t c = one_piece _ _ c.in_ok-piece.ensures

pub branch-returns-in_err-piece-2 : goal.branch-returns-in_err-piece-2
branch-returns-in_err-piece-2 t c =
    let p = err_from_is_err_and c.from_residual-in_err-piece-2.result c.from_residual-in_err-piece-2.ensures.1 in
    rw (p.1, p.2) (piece_stops _ _ c.loop-self.invariant c.loop-self-test.ensures _ c.in_err-piece-2.ensures)

pub branch-loop-self-preserved : goal.branch-loop-self-preserved
branch-loop-self-preserved t c =
    piece_more _ _ c.loop-self.invariant c.loop-self-test.ensures _ _ c.in_ok-piece-2.ensures c.join.ensures

pub group-returns-then-self-ge-MOST_DEPTH : goal.group-returns-then-self-ge-MOST_DEPTH
group-returns-then-self-ge-MOST_DEPTH t c o a p k =
    deep_group c.args.self.now.text.now c.args.self.now.at c.requires o a p (omega (arith, c.if-self-ge-MOST_DEPTH.true))

pub group-returns-then-eat : goal.group-returns-then-eat
group-returns-then-eat t c =
    let b = c.if-eat.ensures in
    one_node unit _ refl refl 2 c.args.self.now _
    (λ o a p k. unit_goes c.args.self.now.text.now c.args.self.now.at c.requires o a p (omega (arith, c.if-self-ge-MOST_DEPTH.false)) (comes _ _ _ c.skip.ensures _ b.0))
    (omega arith) (added_more 2 0 _ _ _ (took_more 1 1 _ _ _ c.skip.ensures b.1) _ (subst (λ n. Added 0 n c.eat.new.self c.push.new.self) c.inner.ensures c.push.ensures))

pub group-returns-in_err-pattern : goal.group-returns-in_err-pattern
group-returns-in_err-pattern t c =
    let b = c.if-eat.ensures in
    let p = err_from_is_err_and c.from_residual.result c.from_residual.ensures.1 in
    rw (p.1, p.2) (group_stops _ _ c.if-self-ge-MOST_DEPTH.false c.requires (comes_not _ _ _ c.skip.ensures _ b.0) (took_more 1 0 _ _ _ c.skip.ensures b.1) _ c.in_err-pattern.ensures)

pub group-returns : goal.group-returns
group-returns t c =
    let b = c.if-eat.ensures in
    group_read _ _ c.if-self-ge-MOST_DEPTH.false c.requires (comes_not _ _ _ c.skip.ensures _ b.0) (took_more 1 0 _ _ _ c.skip.ensures b.1) _ _ _ _ (record { text = refl; list = refl; nodes = refl; at = refl; count = refl; depth = refl }) c.in_ok-pattern.ensures (record { text = refl; list = refl; nodes = refl; at = refl; count = refl; depth = omega (arith, c.in_ok-pattern.ensures.made.depth) }) _ c.expect.ensures

pub pattern-returns-in_err-branch-2 : goal.pattern-returns-in_err-branch-2
pattern-returns-in_err-branch-2 t c =
    let p = err_from_is_err_and c.from_residual-in_err-branch-2.result c.from_residual-in_err-branch-2.ensures.1 in
    rw (p.1, p.2) (branch_stops _ _ _ c.loop-self.invariant c.loop-self-test.ensures _ c.in_err-branch-2.ensures)

pub pattern-loop-self-preserved : goal.pattern-loop-self-preserved
pattern-loop-self-preserved t c =
    branch_more _ _ _ c.loop-self.invariant c.loop-self-test.ensures _ _ c.in_ok-branch-2.ensures c.join.ensures

pub piece-loop-self-init : goal.piece-loop-self-init
piece-loop-self-init t c = unstarred _ _ c.in_ok-atom.ensures

pub piece-loop-self-preserved : goal.piece-loop-self-preserved
piece-loop-self-preserved t c = star_more _ _ _ _ c.loop-self.invariant c.loop-self-test.ensures c.join.ensures
