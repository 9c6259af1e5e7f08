-- One symbol more at each kind of node, once its operands are shifted. Assumes nothing.
use Rattle.std.proofs.Common.{◌≡◌, ℕ, ◌+◌, ◌-◌, ◌*◌, Bool, true, false, cond, not, ◌||◌, List, [], ◌∷◌, ◌++◌, length, take, drop, set, sym, refl, ap, ◌∙◌, subst}
use Rattle.scale.specs.Semiring.{Ops, Semiring, Tells}
use Rattle.table.specs.declared.node.Leaf.{Leaf}
use Rattle.table.specs.Tree.{Tree, empty, leaf, either, then, repeat, size}
use Rattle.session.specs.Marks.{Taken, taken, empty_weight, last_weight, flag_weight, to_right, to_repeated, marked, three, marks, live}
use Rattle.session.specs.Shifts.{Shifted}
use Rattle.session.proofs.Endings.{last_empty, last_leaf, last_either, last_then, last_repeat}
use Rattle.session.proofs.Parts.{at_root, below_root, left_part, right_part, root_part}
use Rattle.session.proofs.Rooted.{rooted_long, root_read, marks_rooted}
use Rattle.session.proofs.Stillness.{still, flag_clear, flag_set}

module _ {W S : Type 0} (o : Ops W) (laws : Semiring o) (tells : Tells o) (passing : Leaf → S → Bool) where
  -- of an equal tree
  pub of_tree : {t u : Tree} → t ≡ u → (ms : List W) (i : W) (s : S) (after : List W) (n : ℕ) → Shifted o passing u ms i s after n → Shifted o passing t ms i s after n
  of_tree e ms i s after n shifted = subst (λ x. Shifted o passing x ms i s after n) (sym e) shifted

  -- the flag over two operands
  flag_either : (t u : Tree) (h k : List (Taken W S)) (f g : W) → f ≡ flag_weight o passing t h → g ≡ flag_weight o passing u k → cond (o.vanishes f) g f ≡ cond (marked o passing t h || marked o passing u k) o.one o.nothing
  flag_either t u h k f g e d = (λ j. cond (o.vanishes (e j)) (d j) (e j)) ∙ go (o.vanishes (flag_weight o passing t h)) refl
    where
      go : (b : Bool) → o.vanishes (flag_weight o passing t h) ≡ b → cond b (flag_weight o passing u k) (flag_weight o passing t h) ≡ cond (marked o passing t h || marked o passing u k) o.one o.nothing
      go true v = ap (λ m. cond (m || marked o passing u k) o.one o.nothing) (sym (flag_clear o laws tells passing t h v))
      go false v = let m = flag_set o laws tells passing t h v in (λ j. cond (m j) o.one o.nothing) ∙ ap (λ b. cond (b || marked o passing u k) o.one o.nothing) (sym m)

  -- both operands are shifted, and their roots' weights are read
  module _ (a b : Tree) (ms first second top : List W) (n m : ℕ) (an : 3 * size a ≡ n) (bm : 3 * size b ≡ m) (fs : first ≡ take n ms) (ss : second ≡ take m (drop n ms)) (tp : top ≡ drop m (drop n ms)) where
    module _ (h k : List (Taken W S)) (x y z : W) (p : ms ≡ marks o passing a h ++ (marks o passing b k ++ (x ∷ y ∷ z ∷ []))) where
      left_long : length (marks o passing a h) ≡ n
      left_long = rooted_long (marks_rooted o passing a h) ∙ an

      right_long : length (marks o passing b k) ≡ m
      right_long = rooted_long (marks_rooted o passing b k) ∙ bm

      left_was : first ≡ marks o passing a h
      left_was = fs ∙ left_part ms (marks o passing a h) (marks o passing b k) (x ∷ y ∷ z ∷ []) p n m left_long right_long

      right_was : second ≡ marks o passing b k
      right_was = ss ∙ right_part ms (marks o passing a h) (marks o passing b k) (x ∷ y ∷ z ∷ []) p n m left_long right_long

      root_was : top ≡ x ∷ y ∷ z ∷ []
      root_was = tp ∙ root_part ms (marks o passing a h) (marks o passing b k) (x ∷ y ∷ z ∷ []) p n m left_long right_long

      done : (ma mb ka kb : List W) → ma ≡ ka → mb ≡ kb → (v w u f : W) → v ≡ u → w ≡ f → ma ++ (mb ++ set (set top 1 v) 2 w) ≡ ka ++ (kb ++ (x ∷ u ∷ f ∷ []))
      done ma mb ka kb ea eb v w u f ev ew = λ d. ea d ++ (eb d ++ set (set (root_was d) 1 (ev d)) 2 (ew d))

    pub either_arm : (i : W) (s : S) (ma mb : List W) (ra rb : ℕ) (e l f : W) → drop (length ma - 3) ma ≡ e ∷ l ∷ f ∷ [] → (c m g : W) → drop (length mb - 3) mb ≡ c ∷ m ∷ g ∷ [] → (v w : W) → v ≡ o.plus l m → w ≡ cond (o.vanishes f) g f → Shifted o passing a first i s ma ra → Shifted o passing b second i s mb rb → Shifted o passing (either a b) ms i s (ma ++ (mb ++ set (set top 1 v) 2 w)) (ra + rb)
    either_arm i s ma mb ra rb e l f at c m g bt v w vx wx left right h p =
        let new = taken i s ∷ h in
        let one = left h (left_was h h _ _ _ p) in
        let two = right h (right_was h h _ _ _ p) in
        let x = root_read (marks_rooted o passing a new) (ap (λ q. drop (length q - 3) q) (sym one.0) ∙ at) in
        let y = root_read (marks_rooted o passing b new) (ap (λ q. drop (length q - 3) q) (sym two.0) ∙ bt) in (
          done h h _ _ _ p ma mb _ _ one.0 two.0 v w _ _ (vx ∙ (λ d. o.plus (x.1 d) (y.1 d)) ∙ sym (last_either o laws passing a b new)) (wx ∙ flag_either a b new new f g x.2 y.2),
          λ d. one.1 d + two.1 d,
        )

    pub then_arm : (i j : W) (s : S) (q r t : W) → drop (length first - 3) first ≡ q ∷ r ∷ t ∷ [] → j ≡ o.plus (o.times i q) r → (ma mb : List W) (ra rb : ℕ) (e l f : W) → drop (length ma - 3) ma ≡ e ∷ l ∷ f ∷ [] → (c m g : W) → drop (length mb - 3) mb ≡ c ∷ m ∷ g ∷ [] → (v w : W) → v ≡ o.plus (o.times l c) m → w ≡ cond (o.vanishes f) g f → Shifted o passing a first i s ma ra → Shifted o passing b second j s mb rb → Shifted o passing (then a b) ms i s (ma ++ (mb ++ set (set top 1 v) 2 w)) (ra + rb)
    then_arm i j s q r t ft jx ma mb ra rb e l f at c m g bt v w vx wx left right h p =
        let k = to_right o passing a h in
        let new = taken i s ∷ h in
        let was = left_was h k _ _ _ p in
        let old = root_read (marks_rooted o passing a h) (ap (λ q. drop (length q - 3) q) (sym was) ∙ ft) in
        let onward : j ≡ o.plus (o.times i (empty_weight o passing a)) (last_weight o passing a h) = jx ∙ (λ d. o.plus (o.times i (old.0 d)) (old.1 d)) in
        let next : taken j s ∷ k ≡ to_right o passing a new = λ d. taken (onward d) s ∷ k in
        let one = left h was in
        let two = right k (right_was h k _ _ _ p) in
        let mb_is : mb ≡ marks o passing b (to_right o passing a new) = two.0 ∙ ap (marks o passing b) next in
        let x = root_read (marks_rooted o passing a new) (ap (λ q. drop (length q - 3) q) (sym one.0) ∙ at) in
        let y = root_read (marks_rooted o passing b (to_right o passing a new)) (ap (λ q. drop (length q - 3) q) (sym mb_is) ∙ bt) in (
          done h k _ _ _ p ma mb _ _ one.0 mb_is v w _ _ (vx ∙ (λ d. o.plus (o.times (x.1 d) (y.0 d)) (y.1 d)) ∙ sym (last_then o laws passing a b new)) (wx ∙ flag_either a b new (to_right o passing a new) f g x.2 y.2),
          (λ d. one.1 d + two.1 d) ∙ ap (λ u. live o passing a i h + live o passing b u k) onward,
        )

  -- the operand of a repeat is shifted, and its root's weights are read
  pub repeat_arm : (a : Tree) (ms below top : List W) → below ≡ take (length ms - 3) ms → top ≡ drop (length ms - 3) ms → (i j : W) (s : S) (q r t : W) → drop (length below - 3) below ≡ q ∷ r ∷ t ∷ [] → j ≡ o.plus i r → (ma : List W) (n : ℕ) (e l f : W) → drop (length ma - 3) ma ≡ e ∷ l ∷ f ∷ [] → (c m g : W) → drop (length ma - 3) ma ≡ c ∷ m ∷ g ∷ [] → Shifted o passing a below j s ma n → Shifted o passing (repeat a) ms i s (ma ++ set (set top 1 l) 2 g) n
  repeat_arm a ms below top bs tp i j s q r t bt jx ma n e l f at c m g again only h p =
      let k = to_repeated o passing a h in
      let new = taken i s ∷ h in
      let was : below ≡ marks o passing a k = bs ∙ below_root ms (marks o passing a k) (three o passing (repeat a) h) p refl in
      let old = root_read (marks_rooted o passing a k) (ap (λ q. drop (length q - 3) q) (sym was) ∙ bt) in
      let onward : j ≡ o.plus i (last_weight o passing a k) = jx ∙ ap (o.plus i) old.1 in
      let next : taken j s ∷ k ≡ to_repeated o passing a new = λ d. taken (onward d) s ∷ k in
      let one = only k was in
      let ma_is : ma ≡ marks o passing a (to_repeated o passing a new) = one.0 ∙ ap (marks o passing a) next in
      let x = root_read (marks_rooted o passing a (to_repeated o passing a new)) (ap (λ q. drop (length q - 3) q) (sym ma_is) ∙ at) in
      let y = root_read (marks_rooted o passing a (to_repeated o passing a new)) (ap (λ q. drop (length q - 3) q) (sym ma_is) ∙ again) in (
        (λ d. ma_is d ++ set (set ((tp ∙ at_root ms (marks o passing a k) (three o passing (repeat a) h) p refl) d) 1 ((x.1 ∙ sym (last_repeat o laws passing a new)) d)) 2 (y.2 d)),
        one.1 ∙ ap (λ u. live o passing a u k) onward,
      )

  -- a leaf: its mark, its flag, and whether it was tested
  pub leaf_arm : (l : Leaf) (c : ℕ) (i : W) (s : S) (ms : List W) (v w : W) (n : ℕ) → v ≡ cond (passing l s) (o.times i (o.priced c)) o.nothing → w ≡ cond (not (o.vanishes v)) o.one o.nothing → n ≡ cond (o.vanishes i) 0 1 → Shifted o passing (leaf l c) ms i s (set (set ms 1 v) 2 w) n
  leaf_arm l c i s ms v w n vx wx nx h p =
      let mark : v ≡ last_weight o passing (leaf l c) (taken i s ∷ h) = vx ∙ sym (last_leaf o laws passing l c (taken i s) h) in
      let flagged = wx ∙ ap (λ x. cond (not (o.vanishes x)) o.one o.nothing) mark in
      ((λ d. set (set (p d) 1 (mark d)) 2 (flagged d)), nx)

  -- a leaf that nothing comes into
  pub dead_arm : (l : Leaf) (c : ℕ) (i : W) (s : S) (ms : List W) (v w : W) → o.vanishes i ≡ true → v ≡ o.nothing → w ≡ o.nothing → Shifted o passing (leaf l c) ms i s (set (set ms 1 v) 2 w) 0
  dead_arm l c i s ms v w dead vx wx =
      leaf_arm l c i s ms v w 0 (vx ∙ sym (dead_mark (passing l s)))
      (wx ∙ ap (λ b. cond (not b) o.one o.nothing) (sym (ap o.vanishes vx ∙ tells.at_nothing)))
      (ap (λ b. cond b 0 1) (sym dead))
    where
      dead_mark : (b : Bool) → cond b (o.times i (o.priced c)) o.nothing ≡ o.nothing
      dead_mark true = ap (λ x. o.times x (o.priced c)) (tells.only_nothing i dead) ∙ laws.nothing_product (o.priced c)
      dead_mark false = refl

  -- an empty node, which no symbol marks
  pub empty_arm : (i : W) (s : S) (ms : List W) → Shifted o passing empty ms i s ms 0
  empty_arm i s ms h p = (p ∙ ap (λ x. empty_weight o passing empty ∷ x ∷ o.nothing ∷ []) (last_empty o laws passing h ∙ sym (last_empty o laws passing (taken i s ∷ h))), refl)

  -- a pattern that is passed over
  pub still_arm : (t : Tree) (i : W) (s : S) (ms : List W) (e l f : W) → drop (length ms - 3) ms ≡ e ∷ l ∷ f ∷ [] → o.vanishes i ≡ true → o.vanishes f ≡ true → Shifted o passing t ms i s ms 0
  still_arm t i s ms e l f at dead clear h p =
      let flag = (root_read (marks_rooted o passing t h) (ap (λ q. drop (length q - 3) q) (sym p) ∙ at)).2 in
      let quiet = still o laws tells passing t i s h (tells.only_nothing i dead) (flag_clear o laws tells passing t h (ap o.vanishes (sym flag) ∙ clear)) in
      (p ∙ sym quiet.same, sym quiet.none_live)
