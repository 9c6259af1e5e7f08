-- The three weights of a pattern's root stand last in its marks. Assumes nothing.
use Rattle.std.proofs.Common.{◌≡◌, ℕ, ◌+◌, ◌-◌, ◌*◌, Bool, List, [], ◌∷◌, ◌++◌, length, get_or, drop, sym, refl, ap, ◌∙◌, append_assoc, arith, length-append}
use Rattle.std.proofs.lemmas.List.{get_or-append_right}
use Rattle.scale.specs.Semiring.{Ops}
use Rattle.table.specs.declared.node.Leaf.{Leaf}
use Rattle.table.specs.Tree.{Tree, empty, leaf, either, then, repeat, size}
use Rattle.session.proofs.Parts.{at_root}
use Rattle.session.specs.Marks.{Taken, empty_weight, last_weight, flag_weight, to_right, to_repeated, marks}

-- three weights for each of n nodes, the last of them x, y and z
pub record Rooted {A : Type 0} (all : List A) (n : ℕ) (x y z : A) : Type 0 where
  pub below : List A
  pub is : all ≡ below ++ (x ∷ y ∷ z ∷ [])
  pub long : length below + 3 ≡ n

module _ {A : Type 0} {all : List A} {n : ℕ} {x y z : A} (r : Rooted all n x y z) where
  pub rooted_long : length all ≡ n
  rooted_long = ap length r.is ∙ length-append r.below (x ∷ y ∷ z ∷ []) ∙ r.long

  read_at : (k j : ℕ) (d : A) → k + 3 ≡ n + j → get_or all k d ≡ get_or (x ∷ y ∷ z ∷ []) j d
  read_at k j d e =
      let past : k - length r.below ≡ j = omega (arith, r.long) in
      ap (λ l. get_or l k d) r.is ∙ get_or-append_right r.below (x ∷ y ∷ z ∷ []) (length r.below) k d refl (omega (arith, r.long))
      ∙ ap (λ i. get_or (x ∷ y ∷ z ∷ []) i d) past

  pub rooted_empty : (d : A) → get_or all (n - 3) d ≡ x
  rooted_empty d = read_at (n - 3) 0 d (omega (arith, r.long))

  pub rooted_last : (d : A) → get_or all (n - 2) d ≡ y
  rooted_last d = read_at (n - 2) 1 d (omega (arith, r.long))

  -- all three
  pub root_read : {e l f : A} → drop (length all - 3) all ≡ e ∷ l ∷ f ∷ [] → (e ≡ x) × (l ≡ y) × (f ≡ z)
  root_read {e} {l} {f} read =
      let same : e ∷ l ∷ f ∷ [] ≡ x ∷ y ∷ z ∷ [] = sym read ∙ at_root all r.below (x ∷ y ∷ z ∷ []) r.is refl in
      (ap (λ m. get_or m 0 e) same, ap (λ m. get_or m 1 l) same, ap (λ m. get_or m 2 f) same)

lone : {A : Type 0} (x y z : A) → Rooted (x ∷ y ∷ z ∷ []) (3 * 1) x y z
lone x y z = record { below = []; is = refl; long = refl }

over_one : {A : Type 0} {xs : List A} {x y z : A} (n : ℕ) → Rooted xs (3 * n) x y z → (u v w : A) → Rooted (xs ++ (u ∷ v ∷ w ∷ [])) (3 * (n + 1)) u v w
over_one {xs} n r u v w = record { below = xs; is = refl; long = omega (arith, rooted_long r) }

over_two : {A : Type 0} {xs ys : List A} {x y z p q s : A} (n m : ℕ) → Rooted xs (3 * n) x y z → Rooted ys (3 * m) p q s → (u v w : A) → Rooted (xs ++ (ys ++ (u ∷ v ∷ w ∷ []))) (3 * (n + m + 1)) u v w
over_two {xs} {ys} n m r q u v w = record {
  below = xs ++ ys;
  is = sym (append_assoc xs ys (u ∷ v ∷ w ∷ []));
  long = omega (arith, length-append xs ys, rooted_long r, rooted_long q);
}

module _ {W S : Type 0} (o : Ops W) (passing : Leaf → S → Bool) where
  pub marks_rooted : (t : Tree) (h : List (Taken W S)) → Rooted (marks o passing t h) (3 * size t) (empty_weight o passing t) (last_weight o passing t h) (flag_weight o passing t h)
  marks_rooted empty h = lone _ _ _
  marks_rooted (leaf l p) h = lone _ _ _
  marks_rooted (either a b) h = over_two (size a) (size b) (marks_rooted a h) (marks_rooted b h) _ _ _
  marks_rooted (then a b) h = over_two (size a) (size b) (marks_rooted a h) (marks_rooted b (to_right o passing a h)) _ _ _
  marks_rooted (repeat a) h = over_one (size a) (marks_rooted a (to_repeated o passing a h)) _ _ _
