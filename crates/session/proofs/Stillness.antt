-- A pattern with no mark below, into which nothing comes, stays as it is. Assumes nothing.
use Rattle.std.proofs.Common.{◌≡◌, Bool, true, false, cond, not, ◌||◌, List, [], ◌∷◌, ◌++◌, sym, refl, ap, ◌∙◌, arith}
use Rattle.scale.specs.Semiring.{Ops, Semiring, Tells}
use Rattle.table.specs.declared.node.Leaf.{Leaf}
use Rattle.table.specs.Tree.{Tree, empty, leaf, either, then, repeat}
use Rattle.session.specs.Marks.{Taken, taken, last_weight, empty_weight, to_right, to_repeated, marked, flag_weight, marks, live}
use Rattle.session.proofs.Endings.{last_empty, last_leaf, last_either, last_then, last_repeat}

or_left : (a b : Bool) → (a || b) ≡ false → a ≡ false
or_left true b e = e
or_left false b e = refl

or_right : (a b : Bool) → (a || b) ≡ false → b ≡ false
or_right true true e = e
or_right true false e = refl
or_right false b e = e

neither : (a b : Bool) → a ≡ false → b ≡ false → (a || b) ≡ false
neither a b e f = ap (λ x. x || b) e ∙ f

not_false : (b : Bool) → not b ≡ false → b ≡ true
not_false true e = refl
not_false false e = sym e

module _ {W S : Type 0} (o : Ops W) (laws : Semiring o) (tells : Tells o) (passing : Leaf → S → Bool) where
  quiet_last : (t : Tree) (h : List (Taken W S)) → marked o passing t h ≡ false → last_weight o passing t h ≡ o.nothing
  quiet_last empty h m = last_empty o laws passing h
  quiet_last (leaf l p) h m = tells.only_nothing _ (not_false _ m)
  quiet_last (either a b) h m =
      last_either o laws passing a b h ∙ (λ k. o.plus (quiet_last a h (or_left _ _ m) k) (quiet_last b h (or_right (marked o passing a h) _ m) k)) ∙ laws.sum_nothing o.nothing
  quiet_last (then a b) h m =
      last_then o laws passing a b h
      ∙ (λ k. o.plus ((ap (λ x. o.times x (empty_weight o passing b)) (quiet_last a h (or_left _ _ m)) ∙ laws.nothing_product _) k) (quiet_last b (to_right o passing a h) (or_right (marked o passing a h) _ m) k))
      ∙ laws.sum_nothing o.nothing
  quiet_last (repeat a) h m = last_repeat o laws passing a h ∙ quiet_last a (to_repeated o passing a h) m

  -- nothing comes in at the operands either
  nothing_right : (a : Tree) (i : W) (h : List (Taken W S)) → i ≡ o.nothing → marked o passing a h ≡ false → o.plus (o.times i (empty_weight o passing a)) (last_weight o passing a h) ≡ o.nothing
  nothing_right a i h e m = (λ k. o.plus ((ap (λ x. o.times x (empty_weight o passing a)) e ∙ laws.nothing_product _) k) (quiet_last a h m k)) ∙ laws.sum_nothing o.nothing

  nothing_repeated : (a : Tree) (i : W) (h : List (Taken W S)) → i ≡ o.nothing → marked o passing a h ≡ false → o.plus i (last_weight o passing a h) ≡ o.nothing
  nothing_repeated a i h e m = (λ k. o.plus (e k) (quiet_last a h m k)) ∙ laws.sum_nothing o.nothing

  -- what stays as it is
  pub record Still (t : Tree) (i : W) (s : S) (h : List (Taken W S)) : Type 0 where
    pub unmarked : marked o passing t (taken i s ∷ h) ≡ false
    pub same : marks o passing t (taken i s ∷ h) ≡ marks o passing t h
    pub none_live : live o passing t i h ≡ 0

  -- the node itself, once its operands are known
  last_here : (t : Tree) (i : W) (s : S) (h : List (Taken W S)) → marked o passing t (taken i s ∷ h) ≡ false → marked o passing t h ≡ false → last_weight o passing t (taken i s ∷ h) ≡ last_weight o passing t h
  last_here t i s h after before = quiet_last t (taken i s ∷ h) after ∙ sym (quiet_last t h before)

  flag_here : (t : Tree) (i : W) (s : S) (h : List (Taken W S)) → marked o passing t (taken i s ∷ h) ≡ false → marked o passing t h ≡ false → flag_weight o passing t (taken i s ∷ h) ≡ flag_weight o passing t h
  flag_here t i s h after before = ap (λ b. cond b o.one o.nothing) (after ∙ sym before)

  pub still : (t : Tree) (i : W) (s : S) (h : List (Taken W S)) → i ≡ o.nothing → marked o passing t h ≡ false → Still t i s h
  still empty i s h e m = record {
    unmarked = refl;
    same = ap (λ x. empty_weight o passing empty ∷ x ∷ o.nothing ∷ []) (last_here empty i s h refl refl);
    none_live = refl;
  }
  still (leaf l p) i s h e m =
      let after : marked o passing (leaf l p) (taken i s ∷ h) ≡ false = ap (λ x. not (o.vanishes x)) (last_leaf o laws passing l p (taken i s) h ∙ dead (passing l s)) ∙ ap not tells.at_nothing in
      record {
        unmarked = after;
        same = λ k. empty_weight o passing (leaf l p) ∷ last_here (leaf l p) i s h after m k ∷ flag_here (leaf l p) i s h after m k ∷ [];
        none_live = ap (λ b. cond b 0 1) (ap o.vanishes e ∙ tells.at_nothing);
      }
    where
      dead : (b : Bool) → cond b (o.times i (o.priced p)) o.nothing ≡ o.nothing
      dead true = ap (λ x. o.times x (o.priced p)) e ∙ laws.nothing_product (o.priced p)
      dead false = refl
  still (either a b) i s h e m =
      let x = still a i s h e (or_left _ _ m) in
      let y = still b i s h e (or_right (marked o passing a h) _ m) in
      let after : marked o passing (either a b) (taken i s ∷ h) ≡ false = neither _ _ x.unmarked y.unmarked in
      record {
        unmarked = after;
        same = λ k. x.same k ++ (y.same k ++ (empty_weight o passing (either a b) ∷ last_here (either a b) i s h after m k ∷ flag_here (either a b) i s h after m k ∷ []));
        none_live = omega (arith, x.none_live, y.none_live);
      }
  still (then a b) i s h e m =
      let x = still a i s h e (or_left _ _ m) in
      let y = still b _ s (to_right o passing a h) (nothing_right a i h e (or_left _ _ m)) (or_right (marked o passing a h) _ m) in
      let after : marked o passing (then a b) (taken i s ∷ h) ≡ false = neither _ _ x.unmarked y.unmarked in
      record {
        unmarked = after;
        same = λ k. x.same k ++ (y.same k ++ (empty_weight o passing (then a b) ∷ last_here (then a b) i s h after m k ∷ flag_here (then a b) i s h after m k ∷ []));
        none_live = omega (arith, x.none_live, y.none_live);
      }
  still (repeat a) i s h e m =
      let x = still a _ s (to_repeated o passing a h) (nothing_repeated a i (to_repeated o passing a h) e m) m in
      record {
        unmarked = x.unmarked;
        same = λ k. x.same k ++ (empty_weight o passing (repeat a) ∷ last_here (repeat a) i s h x.unmarked m k ∷ flag_here (repeat a) i s h x.unmarked m k ∷ []);
        none_live = x.none_live;
      }

  -- where one is nothing, every weight is, and no leaf is marked
  all_nothing : o.one ≡ o.nothing → (x : W) → x ≡ o.nothing
  all_nothing e x = sym (laws.one_product x) ∙ ap (λ y. o.times y x) e ∙ laws.nothing_product x

  nowhere_marked : o.one ≡ o.nothing → (t : Tree) (h : List (Taken W S)) → marked o passing t h ≡ false
  nowhere_marked e empty h = refl
  nowhere_marked e (leaf l p) h = ap (λ x. not (o.vanishes x)) (all_nothing e _) ∙ ap not tells.at_nothing
  nowhere_marked e (either a b) h = neither _ _ (nowhere_marked e a h) (nowhere_marked e b h)
  nowhere_marked e (then a b) h = neither _ _ (nowhere_marked e a h) (nowhere_marked e b (to_right o passing a h))
  nowhere_marked e (repeat a) h = nowhere_marked e a (to_repeated o passing a h)

  -- a flag that is nothing tells that there is no mark below
  pub flag_clear : (t : Tree) (h : List (Taken W S)) → o.vanishes (flag_weight o passing t h) ≡ true → marked o passing t h ≡ false
  flag_clear t h e = go (marked o passing t h) refl
    where
      go : (b : Bool) → marked o passing t h ≡ b → b ≡ false
      go true m = sym m ∙ nowhere_marked (ap (λ b. cond b o.one o.nothing) (sym m) ∙ tells.only_nothing _ e) t h
      go false m = refl

  pub flag_set : (t : Tree) (h : List (Taken W S)) → o.vanishes (flag_weight o passing t h) ≡ false → marked o passing t h ≡ true
  flag_set t h e = go (marked o passing t h) refl
    where
      go : (b : Bool) → marked o passing t h ≡ b → b ≡ true
      go true m = refl
      go false m = sym e ∙ ap o.vanishes (ap (λ b. cond b o.one o.nothing) m) ∙ tells.at_nothing
