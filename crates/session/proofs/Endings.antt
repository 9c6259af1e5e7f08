-- How the ways in which a node ends follow from those of its operands. Assumes nothing.
use Rattle.std.proofs.Common.{◌≡◌, ℕ, Bool, true, false, cond, List, [], ◌∷◌, ◌++◌, reverse, sym, refl, ap, ◌∙◌, append_assoc, append-nil}
use mathlib.Core.List.{reverse-cons}
use Rattle.scale.specs.Semiring.{Ops, Semiring}
use Rattle.table.specs.declared.node.Leaf.{Leaf}
use Rattle.table.specs.Tree.{Tree, empty, leaf, either, then, repeat}
use Rattle.readings.specs.Weights.{weight}
use Rattle.session.specs.Marks.{Taken, taken, ending, last_weight, empty_weight, to_right, to_repeated, to_root}
use Rattle.readings.proofs.Sums.{nothing_sum, spread, weight_leaf, weight_either, weight_then, weight_stop, weight_repeat}

module _ {W S : Type 0} (o : Ops W) (laws : Semiring o) (passing : Leaf → S → Bool) where
  -- sums of sums
  exchange : (a b c d : W) → o.plus (o.plus a b) (o.plus c d) ≡ o.plus (o.plus a c) (o.plus b d)
  exchange a b c d =
      laws.sum_assoc a b (o.plus c d) ∙ ap (o.plus a) (sym (laws.sum_assoc b c d) ∙ ap (λ x. o.plus x d) (laws.sum_comm b c) ∙ laws.sum_assoc c b d)
      ∙ sym (laws.sum_assoc a c (o.plus b d))

  regroup : (a b c d e : W) → o.plus (o.plus a b) (o.plus c (o.plus d e)) ≡ o.plus (o.plus (o.plus a d) c) (o.plus b e)
  regroup a b c d e =
      ap (o.plus (o.plus a b)) (sym (laws.sum_assoc c d e) ∙ ap (λ x. o.plus x e) (laws.sum_comm c d)) ∙ exchange a b (o.plus d c) e
      ∙ ap (λ x. o.plus x (o.plus b e)) (sym (laws.sum_assoc a d c))

  -- the sum over cuts is linear in its first factor
  spread_plus : (f k g : List S → W) (u w : List S) → spread o (λ x. o.plus (f x) (k x)) g u w ≡ o.plus (spread o f g u w) (spread o k g u w)
  spread_plus f k g u [] = laws.sum_product (f u) (k u) (g [])
  spread_plus f k g u (s ∷ w) =
      (λ i. o.plus (laws.sum_product (f u) (k u) (g (s ∷ w)) i) (spread_plus f k g (u ++ s ∷ []) w i))
      ∙ exchange (o.times (f u) (g (s ∷ w))) (o.times (k u) (g (s ∷ w))) (spread o f g (u ++ s ∷ []) w) (spread o k g (u ++ s ∷ []) w)

  spread_times : (x : W) (f g : List S → W) (u w : List S) → spread o (λ y. o.times x (f y)) g u w ≡ o.times x (spread o f g u w)
  spread_times x f g u [] = laws.product_assoc x (f u) (g [])
  spread_times x f g u (s ∷ w) =
      (λ i. o.plus (laws.product_assoc x (f u) (g (s ∷ w)) i) (spread_times x f g (u ++ s ∷ []) w i))
      ∙ sym (laws.product_sum x (o.times (f u) (g (s ∷ w))) (spread o f g (u ++ s ∷ []) w))

  spread_nothing : (g : List S → W) (u w : List S) → spread o (λ y. o.nothing) g u w ≡ o.nothing
  spread_nothing g u [] = laws.nothing_product (g [])
  spread_nothing g u (s ∷ w) = (λ i. o.plus (laws.nothing_product (g (s ∷ w)) i) (spread_nothing g (u ++ s ∷ []) w i)) ∙ laws.sum_nothing o.nothing

  -- a symbol more in front
  spread_cons : (s : S) (f g : List S → W) (u w : List S) → spread o (λ y. f (s ∷ y)) g u w ≡ spread o f g (s ∷ u) w
  spread_cons s f g u [] = refl
  spread_cons s f g u (r ∷ w) = ap (o.plus (o.times (f (s ∷ u)) (g (r ∷ w)))) (spread_cons s f g (u ++ r ∷ []) w)

  -- one more symbol, seen from the parts that begin at it or before it
  spread_ending : (a : Tree) (x : Taken W S) (h : List (Taken W S)) (g : List S → W) (w : List S) → spread o (ending o passing a (x ∷ h)) g [] w ≡ o.plus (o.times x.incoming (spread o (weight o passing a) g (x.symbol ∷ []) w)) (spread o (ending o passing a h) g (x.symbol ∷ []) w)
  spread_ending a x h g w =
      spread_plus (λ y. o.times x.incoming (weight o passing a (x.symbol ∷ y))) (λ y. ending o passing a h (x.symbol ∷ y)) g [] w
      ∙ (λ i. o.plus ((spread_times x.incoming (λ y. weight o passing a (x.symbol ∷ y)) g [] w ∙ ap (o.times x.incoming) (spread_cons x.symbol (weight o passing a) g [] w)) i)
      (spread_cons x.symbol (ending o passing a h) g [] w i))

  ending_either : (a b : Tree) (h : List (Taken W S)) (w : List S) → ending o passing (either a b) h w ≡ o.plus (ending o passing a h w) (ending o passing b h w)
  ending_either a b [] w = sym (laws.sum_nothing o.nothing)
  ending_either a b (x ∷ h) w =
      (λ i. o.plus ((ap (o.times x.incoming) (weight_either o laws passing a b (x.symbol ∷ w)) ∙ laws.product_sum x.incoming (weight o passing a (x.symbol ∷ w)) (weight o passing b (x.symbol ∷ w))) i)
      (ending_either a b h (x.symbol ∷ w) i))
      ∙ exchange _ _ _ _

  ending_then : (a b : Tree) (h : List (Taken W S)) (w : List S) → ending o passing (then a b) h w ≡ o.plus (ending o passing b (to_right o passing a h) w) (spread o (ending o passing a h) (weight o passing b) [] w)
  ending_then a b [] w = sym (ap (o.plus o.nothing) (spread_nothing (weight o passing b) [] w) ∙ laws.sum_nothing o.nothing)
  ending_then a b (x ∷ h) w =
      let i = x.incoming in
      let A = weight o passing a [] in
      let B = weight o passing b (x.symbol ∷ w) in
      let E = ending o passing a h [] in
      let P = spread o (weight o passing a) (weight o passing b) (x.symbol ∷ []) w in
      let Q = spread o (ending o passing a h) (weight o passing b) (x.symbol ∷ []) w in
      let R = ending o passing b (to_right o passing a h) (x.symbol ∷ w) in
      (λ k. o.plus ((ap (o.times i) (weight_then o laws passing a b (x.symbol ∷ w)) ∙ laws.product_sum i (o.times A B) P) k) (ending_then a b h (x.symbol ∷ w) k))
      ∙ regroup (o.times i (o.times A B)) (o.times i P) R (o.times E B) Q
      ∙ ap (λ y. o.plus (o.plus y R) (o.plus (o.times i P) Q)) (ap (λ y. o.plus y (o.times E B)) (sym (laws.product_assoc i A B)) ∙ sym (laws.sum_product (o.times i A) E B))
      ∙ ap (o.plus (o.plus (o.times (o.plus (o.times i A) E) B) R)) (sym (spread_ending a x h (weight o passing b) w))

  ending_repeat : (a : Tree) (h : List (Taken W S)) (w : List S) → ending o passing (repeat a) h w ≡ spread o (ending o passing a (to_repeated o passing a h)) (weight o passing (repeat a)) [] w
  ending_repeat a [] w = sym (spread_nothing (weight o passing (repeat a)) [] w)
  ending_repeat a (x ∷ h) w =
      let i = x.incoming in
      let V = weight o passing (repeat a) in
      let E = ending o passing a (to_repeated o passing a h) [] in
      let P = spread o (weight o passing a) V (x.symbol ∷ []) w in
      let Q = spread o (ending o passing a (to_repeated o passing a h)) V (x.symbol ∷ []) w in
      let here : V (x.symbol ∷ w) ≡ P = weight_repeat o laws passing a x.symbol w in
      (λ k. o.plus (o.times i (here k)) ((ending_repeat a h (x.symbol ∷ w) ∙ ap (λ y. o.plus (o.times E y) Q) here) k))
      ∙ sym (laws.sum_assoc (o.times i P) (o.times E P) Q) ∙ ap (λ y. o.plus y Q) (sym (laws.sum_product i E P))
      ∙ sym (spread_ending a (taken (o.plus i E) x.symbol) (to_repeated o passing a h) V w)

  -- the last weight of each kind of node
  pub last_empty : (h : List (Taken W S)) → last_weight o passing empty h ≡ o.nothing
  last_empty h = longer h []
    where
      longer : (h : List (Taken W S)) (w : List S) → ending o passing empty h w ≡ o.nothing
      longer [] w = refl
      longer (x ∷ h) w = (λ k. o.plus (laws.product_nothing x.incoming k) (longer h (x.symbol ∷ w) k)) ∙ laws.sum_nothing o.nothing

  pub last_leaf : (l : Leaf) (p : ℕ) (x : Taken W S) (h : List (Taken W S)) → last_weight o passing (leaf l p) (x ∷ h) ≡ cond (passing l x.symbol) (o.times x.incoming (o.priced p)) o.nothing
  last_leaf l p x h =
      (λ k. o.plus ((ap (o.times x.incoming) (weight_leaf o laws passing l p x.symbol) ∙ passed (passing l x.symbol)) k) (longer h x.symbol [] k))
      ∙ laws.sum_nothing (cond (passing l x.symbol) (o.times x.incoming (o.priced p)) o.nothing)
    where
      passed : (b : Bool) → o.times x.incoming (cond b (o.priced p) o.nothing) ≡ cond b (o.times x.incoming (o.priced p)) o.nothing
      passed true = refl
      passed false = laws.product_nothing x.incoming

      longer : (h : List (Taken W S)) (s : S) (w : List S) → ending o passing (leaf l p) h (s ∷ w) ≡ o.nothing
      longer [] s w = refl
      longer (y ∷ h) s w = (λ k. o.plus (laws.product_nothing y.incoming k) (longer h y.symbol (s ∷ w) k)) ∙ laws.sum_nothing o.nothing

  pub last_either : (a b : Tree) (h : List (Taken W S)) → last_weight o passing (either a b) h ≡ o.plus (last_weight o passing a h) (last_weight o passing b h)
  last_either a b h = ending_either a b h []

  pub last_then : (a b : Tree) (h : List (Taken W S)) → last_weight o passing (then a b) h ≡ o.plus (o.times (last_weight o passing a h) (empty_weight o passing b)) (last_weight o passing b (to_right o passing a h))
  last_then a b h = ending_then a b h [] ∙ laws.sum_comm _ _

  pub last_repeat : (a : Tree) (h : List (Taken W S)) → last_weight o passing (repeat a) h ≡ last_weight o passing a (to_repeated o passing a h)
  last_repeat a h = ending_repeat a h [] ∙ ap (o.times (last_weight o passing a (to_repeated o passing a h))) (weight_stop o laws passing a) ∙ laws.product_one _

  -- the empty weight of each kind of node
  pub empty_either : (a b : Tree) → empty_weight o passing (either a b) ≡ o.plus (empty_weight o passing a) (empty_weight o passing b)
  empty_either a b = weight_either o laws passing a b []

  pub empty_then : (a b : Tree) → empty_weight o passing (then a b) ≡ o.times (empty_weight o passing a) (empty_weight o passing b)
  empty_then a b = weight_then o laws passing a b []

  -- the root's last weight is the pattern's weight
  root_ending : (t : Tree) (s : S) (back w : List S) → ending o passing t (to_root o passing (s ∷ back)) w ≡ weight o passing t (reverse (s ∷ back) ++ w)
  root_ending t s [] w = laws.sum_nothing _ ∙ laws.one_product _
  root_ending t s (r ∷ rs) w =
      (λ k. o.plus (laws.nothing_product (weight o passing t (s ∷ w)) k) (root_ending t r rs (s ∷ w) k)) ∙ nothing_sum o laws _
      ∙ ap (weight o passing t) (sym (ap (λ l. l ++ w) (reverse-cons s (r ∷ rs)) ∙ append_assoc (reverse (r ∷ rs)) (s ∷ []) w))

  pub root_weight : (t : Tree) (s : S) (back : List S) → last_weight o passing t (to_root o passing (s ∷ back)) ≡ weight o passing t (reverse (s ∷ back))
  root_weight t s back = root_ending t s back [] ∙ ap (weight o passing t) (append-nil _)
