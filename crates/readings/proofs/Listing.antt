-- The list of readings has each reading of the word, and has it once. Assumes nothing.
use Rattle.std.proofs.Common.{◌≡◌, ℕ, suc, ◌≤◌, Bool, true, false, cond, ◌⊎◌, List, [], ◌∷◌, ◌++◌, map, length, sym, refl, ◌∙◌, inl, inr, ⊎_elim, append_assoc, append-nil, arith}
use Rattle.std.proofs.lemmas.List.{length_push}
use Rattle.table.specs.declared.node.Leaf.{Leaf}
use Rattle.table.specs.Tree.{Tree, empty, leaf, either, then, repeat}
use Rattle.readings.specs.Readings.{Reading, symbol, left, right, cut, stop, part, Reads, of_empty, of_leaf, of_left, of_right, of_then, of_stop, of_part}
use Rattle.readings.specs.Weights.{pairs, of_nothing, of_one, cuts, divided, divisions, readings, In, Distinct}

-- what stands in a list that is made of others

in_left : (xs ys : List Reading) (r : Reading) → In r xs → In r (xs ++ ys)
in_left [] ys r h = absurd h
in_left (x ∷ xs) ys r (inl e) = inl e
in_left (x ∷ xs) ys r (inr h) = inr (in_left xs ys r h)

in_right : (xs ys : List Reading) (r : Reading) → In r ys → In r (xs ++ ys)
in_right [] ys r h = h
in_right (x ∷ xs) ys r h = inr (in_right xs ys r h)

in_either : (xs ys : List Reading) (r : Reading) → In r (xs ++ ys) → In r xs ⊎ In r ys
in_either [] ys r h = inr h
in_either (x ∷ xs) ys r (inl e) = inl (inl e)
in_either (x ∷ xs) ys r (inr h) = ⊎_elim (λ a. inl (inr a)) (λ b. inr b) (in_either xs ys r h)

in_map : (k : Reading → Reading) (xs : List Reading) (p : Reading) → In p xs → In (k p) (map k xs)
in_map k [] p h = h
in_map k (x ∷ xs) p (inl e) = inl (λ i. k (e i))
in_map k (x ∷ xs) p (inr h) = inr (in_map k xs p h)

from_map : (k : Reading → Reading) (xs : List Reading) (r : Reading) → In r (map k xs) → (p : Reading) × In p xs × (r ≡ k p)
from_map k [] r h = absurd h
from_map k (x ∷ xs) r (inl e) = (x, inl refl, e)
from_map k (x ∷ xs) r (inr h) = let m = from_map k xs r h in (m.0, inr m.1, m.2)

in_pairs : (k : Reading → Reading → Reading) (xs ys : List Reading) (p q : Reading) → In p xs → In q ys → In (k p q) (pairs k xs ys)
in_pairs k [] ys p q h g = absurd h
in_pairs k (x ∷ xs) ys p q (inl e) g = rw e (in_left (map (k x) ys) _ _ (in_map (k x) ys q g))
in_pairs k (x ∷ xs) ys p q (inr h) g = in_right (map (k x) ys) _ _ (in_pairs k xs ys p q h g)

from_pairs : (k : Reading → Reading → Reading) (xs ys : List Reading) (r : Reading) → In r (pairs k xs ys) → (p : Reading) × (q : Reading) × In p xs × In q ys × (r ≡ k p q)
from_pairs k [] ys r h = absurd h
from_pairs k (x ∷ xs) ys r h =
    ⊎_elim
    (λ a. let m = from_map (k x) ys r a in (x, m.0, inl refl, m.1, m.2))
    (λ b. let m = from_pairs k xs ys r b in (m.0, m.1, inr m.2, m.3, m.4))
    (in_either (map (k x) ys) (pairs k xs ys) r h)

-- no reading stands twice in a list that is made of such lists

distinct_append : (xs ys : List Reading) → Distinct xs → Distinct ys → ((r : Reading) → In r xs → In r ys → ⊥) → Distinct (xs ++ ys)
distinct_append [] ys d e apart = e
distinct_append (x ∷ xs) ys d e apart =
    (λ h. ⊎_elim d.0 (apart x (inl refl)) (in_either xs ys x h), distinct_append xs ys d.1 e (λ r h. apart r (inr h)))

distinct_map : (k : Reading → Reading) → ((p q : Reading) → k p ≡ k q → p ≡ q) → (xs : List Reading) → Distinct xs → Distinct (map k xs)
distinct_map k same [] d = tt
distinct_map k same (x ∷ xs) d =
    (λ h. let m = from_map k xs (k x) h in d.0 (rw (same x m.0 m.2) m.1), distinct_map k same xs d.1)

-- of a reading made of two, by a number, each part shows
abbrev Shows : (ℕ → Reading → Reading → Reading) → Type 0
Shows k = (m n : ℕ) (p q p' q' : Reading) → k m p q ≡ k n p' q' → (m ≡ n) × (p ≡ p') × (q ≡ q')

-- the readings of a list have the number n or a higher one
abbrev From : (ℕ → Reading → Reading → Reading) → ℕ → List Reading → Type 0
From k n xs = (r : Reading) → In r xs → (m : ℕ) × (p : Reading) × (q : Reading) × (n ≤ m) × (r ≡ k m p q)

cut_shows : Shows cut
cut_shows m n p q p' q' e = (cc, cc, cc)

part_shows : Shows part
part_shows m n p q p' q' e = (cc, cc, cc)

module _ (k : ℕ → Reading → Reading → Reading) (shows : Shows k) where
  distinct_pairs : (n : ℕ) (xs ys : List Reading) → Distinct xs → Distinct ys → Distinct (pairs (k n) xs ys)
  distinct_pairs n [] ys d e = tt
  distinct_pairs n (x ∷ xs) ys d e =
      distinct_append (map (k n x) ys) (pairs (k n) xs ys)
      (distinct_map (k n x) (λ p q s. (shows n n x p x q s).2) ys e)
      (distinct_pairs n xs ys d.1 e)
      (λ r a b.
      let m = from_map (k n x) ys r a in
      let l = from_pairs (k n) xs ys r b in
      d.0 (rw (shows n n _ _ _ _ (sym m.2 ∙ l.4)).1 l.2))

  pairs_from : (n : ℕ) (xs ys : List Reading) → From k n (pairs (k n) xs ys)
  pairs_from n xs ys r h = let m = from_pairs (k n) xs ys r h in (n, m.0, m.1, omega arith, m.4)

  append_from : (n : ℕ) (xs ys zs : List Reading) → From k (suc n) zs → From k n (pairs (k n) xs ys ++ zs)
  append_from n xs ys zs later r h =
      ⊎_elim
      (pairs_from n xs ys r)
      (λ b. let m = later r b in (m.0, m.1, m.2, omega arith, m.4))
      (in_either (pairs (k n) xs ys) zs r h)

  distinct_from : (n : ℕ) (xs ys zs : List Reading) → Distinct xs → Distinct ys → Distinct zs → From k (suc n) zs → Distinct (pairs (k n) xs ys ++ zs)
  distinct_from n xs ys zs d e f later =
      distinct_append (pairs (k n) xs ys) zs (distinct_pairs n xs ys d e) f
      (λ r a b.
      let m = from_pairs (k n) xs ys r a in
      let l = later r b in
      let s = shows n l.0 _ _ _ _ (sym m.4 ∙ l.4) in
      omega arith)

distinct_passed : (b : Bool) (p : ℕ) → Distinct (cond b (symbol p ∷ []) [])
distinct_passed true p = (λ h. h, tt)
distinct_passed false p = tt

module _ {S : Type 0} where
  -- what stands among the cuts and the divisions

  in_cuts : (f g : List S → List Reading) (u x v : List S) (p q : Reading) → In p (f (u ++ x)) → In q (g v) → In (cut (length (u ++ x)) p q) (cuts f g u (x ++ v))
  in_cuts f g u [] [] p q a b = rw append-nil (in_pairs (cut (length u)) (f u) (g []) p q (rw append-nil at a) b)
  in_cuts f g u [] (s ∷ v) p q a b = rw append-nil (in_left (pairs (cut (length u)) (f u) (g (s ∷ v))) _ _ (in_pairs (cut (length u)) (f u) (g (s ∷ v)) p q (rw append-nil at a) b))
  in_cuts f g u (s ∷ x) v p q a b =
      let e = append_assoc u (s ∷ []) x in
      in_right (pairs (cut (length u)) (f u) (g (s ∷ (x ++ v)))) _ _ (rw e at (in_cuts f g (u ++ s ∷ []) x v p q (rw e a) b))

  in_divided : (f : List S → List Reading) (u x v : List S) (p q : Reading) → In p (f (u ++ x)) → In q (divisions f v) → In (part (length (u ++ x)) p q) (divided f u (x ++ v))
  in_divided f u [] [] p q a b = rw append-nil (in_pairs (part (length u)) (f u) (divisions f []) p q (rw append-nil at a) b)
  in_divided f u [] (s ∷ v) p q a b = rw append-nil (in_left (pairs (part (length u)) (f u) (divisions f (s ∷ v))) _ _ (in_pairs (part (length u)) (f u) (divisions f (s ∷ v)) p q (rw append-nil at a) b))
  in_divided f u (s ∷ x) v p q a b =
      let e = append_assoc u (s ∷ []) x in
      in_right (pairs (part (length u)) (f u) (divisions f (s ∷ (x ++ v)))) _ _ (rw e at (in_divided f (u ++ s ∷ []) x v p q (rw e a) b))

  -- no cut and no division stands twice

  after_push : (k : ℕ → Reading → Reading → Reading) (u : List S) (s : S) (xs : List Reading) → From k (length (u ++ s ∷ [])) xs → From k (suc (length u)) xs
  after_push k u s xs h r i = let m = h r i in (m.0, m.1, m.2, omega (arith, length_push u s), m.4)

  cuts_from : (f g : List S → List Reading) (u w : List S) → From cut (length u) (cuts f g u w)
  cuts_from f g u [] = pairs_from cut cut_shows (length u) (f u) (g [])
  cuts_from f g u (s ∷ w) = append_from cut cut_shows (length u) (f u) (g (s ∷ w)) _ (after_push cut u s _ (cuts_from f g (u ++ s ∷ []) w))

  distinct_cuts : (f g : List S → List Reading) → ((u : List S) → Distinct (f u)) → ((v : List S) → Distinct (g v)) → (u w : List S) → Distinct (cuts f g u w)
  distinct_cuts f g d e u [] = distinct_pairs cut cut_shows (length u) (f u) (g []) (d u) (e [])
  distinct_cuts f g d e u (s ∷ w) =
      distinct_from cut cut_shows (length u) (f u) (g (s ∷ w)) _ (d u) (e (s ∷ w)) (distinct_cuts f g d e (u ++ s ∷ []) w) (after_push cut u s _ (cuts_from f g (u ++ s ∷ []) w))

  divided_from : (f : List S → List Reading) (u w : List S) → From part (length u) (divided f u w)
  divided_from f u [] = pairs_from part part_shows (length u) (f u) (stop ∷ [])
  divided_from f u (s ∷ w) = append_from part part_shows (length u) (f u) (divided f (s ∷ []) w) _ (after_push part u s _ (divided_from f (u ++ s ∷ []) w))

  distinct_divided : (f : List S → List Reading) → ((u : List S) → Distinct (f u)) → (u w : List S) → Distinct (divided f u w)
  distinct_divided f d u [] = distinct_pairs part part_shows (length u) (f u) (stop ∷ []) (d u) (λ h. h, tt)
  distinct_divided f d u (s ∷ w) =
      distinct_from part part_shows (length u) (f u) (divided f (s ∷ []) w) _ (d u) (distinct_divided f d (s ∷ []) w) (distinct_divided f d (u ++ s ∷ []) w) (after_push part u s _ (divided_from f (u ++ s ∷ []) w))

  distinct_divisions : (f : List S → List Reading) → ((u : List S) → Distinct (f u)) → (w : List S) → Distinct (divisions f w)
  distinct_divisions f d [] = (λ h. h, tt)
  distinct_divisions f d (s ∷ w) = distinct_divided f d (s ∷ []) w

  distinct_nothing : (w : List S) → Distinct (of_nothing w)
  distinct_nothing [] = (λ h. h, tt)
  distinct_nothing (s ∷ w) = tt

  distinct_one : (pass : S → Bool) (p : ℕ) (w : List S) → Distinct (of_one pass p w)
  distinct_one pass p [] = tt
  distinct_one pass p (s ∷ []) = distinct_passed (pass s) p
  distinct_one pass p (s ∷ t ∷ w) = tt

left_right : (p q : Reading) → left p ≡ right q → ⊥
left_right p q e = let z : ◌≡◌ {A = ℕ} 0 1 = cc in omega arith

module _ {S : Type 0} (passing : Leaf → S → Bool) where
  -- every reading of the list is one

  nothing_reads : (w : List S) (r : Reading) → In r (of_nothing w) → Reads passing empty w r
  nothing_reads [] r (inl e) = rw e of_empty
  nothing_reads [] r (inr h) = absurd h
  nothing_reads (s ∷ w) r h = absurd h

  passed_reads : (l : Leaf) (p : ℕ) (s : S) (r : Reading) (b : Bool) → passing l s ≡ b → In r (cond b (symbol p ∷ []) []) → Reads passing (leaf l p) (s ∷ []) r
  passed_reads l p s r true ok (inl e) = rw e (of_leaf ok)
  passed_reads l p s r true ok (inr h) = absurd h
  passed_reads l p s r false ok h = absurd h

  one_reads : (l : Leaf) (p : ℕ) (w : List S) (r : Reading) → In r (of_one (passing l) p w) → Reads passing (leaf l p) w r
  one_reads l p [] r h = absurd h
  one_reads l p (s ∷ []) r h = passed_reads l p s r (passing l s) refl h
  one_reads l p (s ∷ t ∷ w) r h = absurd h

  -- each reading that f lists is one of the tree
  abbrev Sound : (List S → List Reading) → Tree → Type 0
  Sound f a = (u : List S) (r : Reading) → In r (f u) → Reads passing a u r

  pairs_cut : (f g : List S → List Reading) (a b : Tree) → Sound f a → Sound g b → (u v : List S) (r : Reading) → In r (pairs (cut (length u)) (f u) (g v)) → Reads passing (then a b) (u ++ v) r
  pairs_cut f g a b x y u v r h = let m = from_pairs (cut (length u)) (f u) (g v) r h in rw m.4 (of_then (x u m.0 m.2) (y v m.1 m.3))

  cuts_reads : (f g : List S → List Reading) (a b : Tree) → Sound f a → Sound g b → (u w : List S) (r : Reading) → In r (cuts f g u w) → Reads passing (then a b) (u ++ w) r
  cuts_reads f g a b x y u [] r h = pairs_cut f g a b x y u [] r h
  cuts_reads f g a b x y u (s ∷ w) r h =
      ⊎_elim
      (pairs_cut f g a b x y u (s ∷ w) r)
      (λ l. rw append_assoc at (cuts_reads f g a b x y (u ++ s ∷ []) w r l))
      (in_either (pairs (cut (length u)) (f u) (g (s ∷ w))) _ r h)

  pairs_part : (f : List S → List Reading) (a : Tree) → Sound f a → (s : S) (u v : List S) (ys : List Reading) → ((q : Reading) → In q ys → Reads passing (repeat a) v q) → (r : Reading) → In r (pairs (part (suc (length u))) (f (s ∷ u)) ys) → Reads passing (repeat a) (s ∷ (u ++ v)) r
  pairs_part f a x s u v ys y r h = let m = from_pairs (part (suc (length u))) (f (s ∷ u)) ys r h in rw m.4 (of_part (x (s ∷ u) m.0 m.2) (y m.1 m.3))

  stop_reads : (a : Tree) (r : Reading) → In r (stop ∷ []) → Reads passing (repeat a) [] r
  stop_reads a r (inl e) = rw e of_stop
  stop_reads a r (inr h) = absurd h

  divided_reads : (f : List S → List Reading) (a : Tree) → Sound f a → (s : S) (u w : List S) (r : Reading) → In r (divided f (s ∷ u) w) → Reads passing (repeat a) (s ∷ (u ++ w)) r
  divided_reads f a x s u [] r h = pairs_part f a x s u [] (stop ∷ []) (stop_reads a) r h
  divided_reads f a x s u (t ∷ w) r h =
      ⊎_elim
      (pairs_part f a x s u (t ∷ w) (divided f (t ∷ []) w) (divided_reads f a x t [] w) r)
      (λ l. rw append_assoc at (divided_reads f a x s (u ++ t ∷ []) w r l))
      (in_either (pairs (part (suc (length u))) (f (s ∷ u)) (divided f (t ∷ []) w)) _ r h)

  divisions_reads : (f : List S → List Reading) (a : Tree) → Sound f a → (w : List S) (r : Reading) → In r (divisions f w) → Reads passing (repeat a) w r
  divisions_reads f a x [] r h = stop_reads a r h
  divisions_reads f a x (s ∷ w) r h = divided_reads f a x s [] w r h

  pub listed_reads : (t : Tree) (w : List S) (r : Reading) → In r (readings passing t w) → Reads passing t w r
  listed_reads empty w r h = nothing_reads w r h
  listed_reads (leaf l p) w r h = one_reads l p w r h
  listed_reads (either a b) w r h =
      ⊎_elim
      (λ x. let m = from_map left (readings passing a w) r x in rw m.2 (of_left (listed_reads a w m.0 m.1)))
      (λ y. let m = from_map right (readings passing b w) r y in rw m.2 (of_right (listed_reads b w m.0 m.1)))
      (in_either (map left (readings passing a w)) _ r h)
  listed_reads (then a b) w r h = cuts_reads (readings passing a) (readings passing b) a b (listed_reads a) (listed_reads b) [] w r h
  listed_reads (repeat a) w r h = divisions_reads (readings passing a) a (listed_reads a) w r h

  -- every reading is in the list
  pub reads_listed : {t : Tree} {w : List S} {r : Reading} → Reads passing t w r → In r (readings passing t w)
  reads_listed of_empty = inl refl
  reads_listed (of_leaf {p = p} ok) = rw ok (inl refl)
  reads_listed (of_left {a = a} {w = w} {r = r} h) = in_left (map left (readings passing a w)) _ _ (in_map left (readings passing a w) r (reads_listed h))
  reads_listed (of_right {a = a} {b = b} {w = w} {r = r} h) = in_right (map left (readings passing a w)) _ _ (in_map right (readings passing b w) r (reads_listed h))
  reads_listed (of_then {a = a} {b = b} {u = u} {v = v} {r = r} {q = q} h k) = in_cuts (readings passing a) (readings passing b) [] u v r q (reads_listed h) (reads_listed k)
  reads_listed of_stop = inl refl
  reads_listed (of_part {a = a} {s = s} {u = u} {v = v} {r = r} {q = q} h k) = in_divided (readings passing a) (s ∷ []) u v r q (reads_listed h) (reads_listed k)

  -- and stands there once
  pub listed_once : (t : Tree) (w : List S) → Distinct (readings passing t w)
  listed_once empty w = distinct_nothing w
  listed_once (leaf l p) w = distinct_one (passing l) p w
  listed_once (either a b) w =
      distinct_append (map left (readings passing a w)) (map right (readings passing b w))
      (distinct_map left (λ p q e. cc) (readings passing a w) (listed_once a w))
      (distinct_map right (λ p q e. cc) (readings passing b w) (listed_once b w))
      (λ r x y. let m = from_map left (readings passing a w) r x in let n = from_map right (readings passing b w) r y in left_right m.0 n.0 (sym m.2 ∙ n.2))
  listed_once (then a b) w = distinct_cuts (readings passing a) (readings passing b) (listed_once a) (listed_once b) [] w
  listed_once (repeat a) w = distinct_divisions (readings passing a) (listed_once a) w
