-- A map between two scales carries every weight, and so every reply of a succession. Assumes nothing.
use Rattle.std.proofs.Common.{◌≡◌, ℕ, Bool, List, [], ◌∷◌, map, length, Ok, Err, Result, sym, refl, ap, ◌∙◌, subst, arith}
use Rattle.std.specs.Result.{result_map_both}
use Rattle.scale.specs.Semiring.{Ops}
use Rattle.table.specs.declared.node.Leaf.{Leaf}
use Rattle.table.specs.declared.table.Table.{Table}
use Rattle.table.specs.Content.{tree}
use Rattle.table.specs.Tree.{Tree}
use Rattle.readings.specs.Readings.{Reading, prices}
use Rattle.readings.specs.Weights.{product, total, reading_weight, readings, weight}
use Rattle.session.specs.declared.fault.SessionFault.{SessionFault}
use Rattle.session.specs.declared.turn.Ask.{Ask}
use Rattle.session.specs.declared.turn.Ask.TheVariants.{Read, Weigh, Restart}
use Rattle.session.specs.declared.turn.Reply.{Reply}
use Rattle.session.specs.declared.turn.Reply.TheVariants.{Took, Weighs, Restarted}
use Rattle.session.specs.declared.turn.Turn.{Turn}
use Rattle.session.specs.Runs.{Carries, Right, AllRight, ReadRight, asks, carried, held_next, replies}

module _ {A B : Type 0} (a : Ops A) (b : Ops B) (f : A → B) (carry : Carries a b f) where
  product_carried : (ps : List ℕ) → product b (map b.priced ps) ≡ f (product a (map a.priced ps))
  product_carried [] = sym carry.ones
  product_carried (p ∷ ps) = (λ i. b.times (sym (carry.prices p) i) (product_carried ps i)) ∙ sym (carry.products _ _)

  total_carried : (rs : List Reading) → total b (map (reading_weight b) rs) ≡ f (total a (map (reading_weight a) rs))
  total_carried [] = sym carry.nothings
  total_carried (r ∷ rs) = (λ i. b.plus (product_carried (prices r) i) (total_carried rs i)) ∙ sym (carry.sums _ _)

  module _ {S : Type 0} (passing : Leaf → S → Bool) (number : ℕ) (allowed : S → Bool) (table : Table) where
    weight_carried : (t : Tree) (w : List S) → weight b passing t w ≡ f (weight a passing t w)
    weight_carried t w = total_carried (readings passing t w)

    -- an answer at the second scale
    abbrev answer : {C : Type 0} → (C → B) → Result (Reply C) SessionFault → Result (Reply B) SessionFault
    answer g r = result_map_both (carried g) (λ e. e) r

    read_carried : (w : List S) (s : S) (r : Result (Reply A) SessionFault) (q : Result (Reply B) SessionFault) → ReadRight a passing number allowed table w s r → ReadRight b passing number allowed table w s q → (answer (λ y. y) q ≡ answer f r) × (held_next w (Read s) q ≡ held_next w (Read s) r)
    read_carried w s (Ok (Took n)) (Ok (Took m)) x y = (refl, refl)
    read_carried w s (Ok (Took n)) (Ok (Weighs v)) x y = absurd y
    read_carried w s (Ok (Took n)) (Ok Restarted) x y = absurd y
    read_carried w s (Ok (Took n)) (Err g) x y = cc (x.0)
    read_carried w s (Ok (Weighs v)) q x y = absurd x
    read_carried w s (Ok Restarted) q x y = absurd x
    read_carried w s (Err e) (Ok (Took m)) x y = cc (y.0)
    read_carried w s (Err e) (Ok (Weighs v)) x y = absurd y
    read_carried w s (Err e) (Ok Restarted) x y = absurd y
    read_carried w s (Err e) (Err g) x y = (cc, refl)

    turn_carried : (w : List S) (k : Ask S) (r : Result (Reply A) SessionFault) (q : Result (Reply B) SessionFault) → Right a passing number allowed table w k r → Right b passing number allowed table w k q → (answer (λ y. y) q ≡ answer f r) × (held_next w k q ≡ held_next w k r)
    turn_carried w (Read s) r q x y = read_carried w s r q x y
    turn_carried w Weigh r q x y = (ap (answer (λ y. y)) y ∙ ap (λ v. Ok (Weighs v)) (weight_carried (tree table) w) ∙ sym (ap (answer f) x), refl)
    turn_carried w Restart r q x y = (ap (answer (λ y. y)) y ∙ sym (ap (answer f) x), refl)

    pub turns_carried : (w : List S) (us : List (Turn A S)) (vs : List (Turn B S)) → AllRight a passing number allowed table w us → AllRight b passing number allowed table w vs → asks us ≡ asks vs → replies (λ y. y) vs ≡ replies f us
    turns_carried w [] [] x y e = refl
    turns_carried w [] (v ∷ vs) x y e = absurd (let l = ap length e in omega arith)
    turns_carried w (u ∷ us) [] x y e = absurd (let l = ap length e in omega arith)
    turns_carried w (u ∷ us) (v ∷ vs) x y e =
        let same : u.ask ≡ v.ask = cc in
        let rest : asks us ≡ asks vs = cc in
        let here = turn_carried w u.ask u.reply v.reply x.0 (subst (λ k. Right b passing number allowed table w k v.reply) (sym same) y.0) in
        let held : held_next w v.ask v.reply ≡ held_next w u.ask u.reply = ap (λ k. held_next w k v.reply) (sym same) ∙ here.1 in
        λ i. here.0 i ∷ turns_carried (held_next w u.ask u.reply) us vs x.1 (subst (λ l. AllRight b passing number allowed table l vs) held y.1) rest i
