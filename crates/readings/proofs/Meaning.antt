-- What the weights say at the delivered scales. Assumes nothing.
use Rattle.std.proofs.Common.{◌≡◌, ℕ, ◌+◌, ◌*◌, ◌≤◌, Bool, true, ◌||◌, ◌⊎◌, List, [], ◌∷◌, ◌++◌, map, length, sym, refl, ap, ◌∙◌, inl, inr, ⊎_elim, arith, length-append}
use Rattle.std.proofs.lemmas.Bool.{false≢true, cases_lt}
use Rattle.table.specs.declared.node.Leaf.{Leaf}
use Rattle.table.specs.Tree.{Tree}
use Rattle.scale.specs.Semiring.{Ops}
use Rattle.scale.specs.Yes.{yes_ops}
use Rattle.scale.specs.Counts.{count_ops, capped}
use Rattle.scale.specs.Prices.{price_ops, stopped}
use Rattle.scale.specs.Pairs.{pair, pair_ops}
use Rattle.readings.specs.Readings.{Reading, Reads, of_empty, of_leaf, of_left, of_right, of_then, of_stop, of_part, prices}
use Rattle.readings.specs.Weights.{product, total, reading_weight, readings, weight, In, Distinct, price_sum, LeafPrices, Least}
use Rattle.readings.proofs.Listing.{listed_reads, reads_listed, listed_once}

-- yes: whether there is a reading

yes_reading : (ps : List ℕ) → product yes_ops (map yes_ops.priced ps) ≡ true
yes_reading [] = refl
yes_reading (p ∷ ps) = yes_reading ps

yes_some : (rs : List Reading) → total yes_ops (map (reading_weight yes_ops) rs) ≡ true → (r : Reading) × In r rs
yes_some [] h = absurd (false≢true h)
yes_some (r ∷ rs) h = (r, inl refl)

some_yes : (rs : List Reading) (r : Reading) → In r rs → total yes_ops (map (reading_weight yes_ops) rs) ≡ true
some_yes [] r h = absurd h
some_yes (x ∷ rs) r h = ap (λ b. b || total yes_ops (map (reading_weight yes_ops) rs)) (yes_reading (prices x))

-- count: how many readings there are

count_reading : (ps : List ℕ) → (product count_ops (map count_ops.priced ps)).value ≡ 1
count_reading [] = refl
count_reading (p ∷ ps) = rw (count_reading ps)

count_all : (rs : List Reading) → (total count_ops (map (reading_weight count_ops) rs)).value ≡ capped (length rs)
count_all [] = refl
count_all (r ∷ rs) = rw (count_reading (prices r), count_all rs) (omega arith)

only_one : (rs : List Reading) → length rs ≡ 1 → (r : Reading) × In r rs × ((q : Reading) → In q rs → q ≡ r)
only_one [] h = absurd (omega arith)
only_one (r ∷ []) h = (r, inl refl, λ q i. ⊎_elim (λ e. e) (λ n. absurd n) i)
only_one (r ∷ q ∷ rs) h = absurd (omega arith)

one_only : (rs : List Reading) → Distinct rs → (r : Reading) → In r rs → ((q : Reading) → In q rs → q ≡ r) → length rs ≡ 1
one_only [] d r h all = absurd h
one_only (x ∷ []) d r h all = refl
one_only (x ∷ y ∷ rs) d r h all = absurd (d.0 (inl (all x (inl refl) ∙ sym (all y (inr (inl refl))))))

-- least price: the least sum of a reading's prices

price_reading : (ps : List ℕ) → (product price_ops (map price_ops.priced ps)).value ≡ stopped (price_sum ps)
price_reading [] = refl
price_reading (p ∷ ps) = rw (price_reading ps) (omega arith)

least_below : (rs : List Reading) (r : Reading) → In r rs → (total price_ops (map (reading_weight price_ops) rs)).value ≤ price_sum (prices r)
least_below [] r h = absurd h
least_below (x ∷ rs) r (inl e) = rw e (omega (arith, price_reading (prices x)))
least_below (x ∷ rs) r (inr h) = omega (arith, least_below rs r h)

least_found : (rs : List Reading) → ((total price_ops (map (reading_weight price_ops) rs)).value ≡ 18_446_744_073_709_551_615) ⊎ ((r : Reading) × In r rs × ((total price_ops (map (reading_weight price_ops) rs)).value ≡ stopped (price_sum (prices r))))
least_found [] = inl refl
least_found (x ∷ rs) =
    ⊎_elim
    (λ lt. inr (x, inl refl, omega (arith, price_reading (prices x))))
    (λ ge. ⊎_elim (λ top. inl (omega arith)) (λ m. inr (m.0, inr m.1, omega arith)) (least_found rs))
    (cases_lt (reading_weight price_ops x).value (total price_ops (map (reading_weight price_ops) rs)).value)

sum_append : (xs ys : List ℕ) → price_sum (xs ++ ys) ≡ price_sum xs + price_sum ys
sum_append [] ys = omega arith
sum_append (x ∷ xs) ys = omega (arith, sum_append xs ys)

-- both scales of a pair at once

product_both : {A B : Type 0} (a : Ops A) (b : Ops B) (ps : List ℕ) → product (pair_ops a b) (map (pair_ops a b).priced ps) ≡ pair (product a (map a.priced ps)) (product b (map b.priced ps))
product_both a b [] = refl
product_both a b (p ∷ ps) = ap ((pair_ops a b).times ((pair_ops a b).priced p)) (product_both a b ps)

total_both : {A B : Type 0} (a : Ops A) (b : Ops B) (rs : List Reading) → total (pair_ops a b) (map (reading_weight (pair_ops a b)) rs) ≡ pair (total a (map (reading_weight a) rs)) (total b (map (reading_weight b) rs))
total_both a b [] = refl
total_both a b (r ∷ rs) = λ i. (pair_ops a b).plus (product_both a b (prices r) i) (total_both a b rs i)

pub pair_both : {A B S : Type 0} (a : Ops A) (b : Ops B) (passing : Leaf → S → Bool) (t : Tree) (w : List S) → weight (pair_ops a b) passing t w ≡ pair (weight a passing t w) (weight b passing t w)
pair_both a b passing t w = total_both a b (readings passing t w)

module _ {S : Type 0} (passing : Leaf → S → Bool) where
  pub yes_exactly : (t : Tree) (w : List S) → (weight yes_ops passing t w ≡ true → (r : Reading) × Reads passing t w r) × ((r : Reading) → Reads passing t w r → weight yes_ops passing t w ≡ true)
  yes_exactly t w =
      (λ h. let m = yes_some (readings passing t w) h in (m.0, listed_reads passing t w m.0 m.1), λ r h. some_yes (readings passing t w) r (reads_listed passing h))

  pub count_exactly : (t : Tree) (w : List S) → (weight count_ops passing t w).value ≡ capped (length (readings passing t w))
  count_exactly t w = count_all (readings passing t w)

  -- there is a reading, and no other
  pub one_exactly : (t : Tree) (w : List S) → (weight count_ops passing t w).value ≡ 1 → (r : Reading) × Reads passing t w r × ((q : Reading) → Reads passing t w q → q ≡ r)
  one_exactly t w h =
      let m = only_one (readings passing t w) (omega (arith, count_exactly t w)) in
      (m.0, listed_reads passing t w m.0 m.1, λ q k. m.2 q (reads_listed passing k))

  pub exactly_one : (t : Tree) (w : List S) (r : Reading) → Reads passing t w r → ((q : Reading) → Reads passing t w q → q ≡ r) → (weight count_ops passing t w).value ≡ 1
  exactly_one t w r h all =
      omega (arith, count_exactly t w, one_only (readings passing t w) (listed_once passing t w) r (reads_listed passing h) (λ q k. all q (listed_reads passing t w q k)))

  -- each symbol adds the price of one leaf at most
  sum_bound : {t : Tree} {w : List S} {r : Reading} → Reads passing t w r → LeafPrices t → price_sum (prices r) ≤ 4_294_967_295 * length w
  sum_bound of_empty l = omega arith
  sum_bound (of_leaf ok) l = omega arith
  sum_bound (of_left h) l = sum_bound h l.0
  sum_bound (of_right h) l = sum_bound h l.1
  sum_bound (of_then {u = u} {v = v} {r = r} {q = q} h k) l =
      omega (arith, sum_append (prices r) (prices q), length-append u v, sum_bound h l.0, sum_bound k l.1)
  sum_bound of_stop l = omega arith
  sum_bound (of_part {u = u} {v = v} {r = r} {q = q} h k) l =
      omega (arith, sum_append (prices r) (prices q), length-append u v, sum_bound h l, sum_bound k l)

  pub least_exactly : (t : Tree) (w : List S) → LeafPrices t → length w ≤ 65_535 → Least passing t w (weight price_ops passing t w).value
  least_exactly t w l short = record {
    reached = λ r h.
        ⊎_elim
        (λ top. absurd (below_top r h top))
        (λ m. let k = listed_reads passing t w m.0 m.1 in (m.0, k, omega (arith, m.2, sum_bound k l)))
        (least_found (readings passing t w));
    lowest = low;
    none_at_top = λ top r h. below_top r h top;
    top_at_none = λ no_reading.
        ⊎_elim
        (λ top. top)
        (λ m. absurd (no_reading m.0 (listed_reads passing t w m.0 m.1)))
        (least_found (readings passing t w));
  }
    where
      low : (r : Reading) → Reads passing t w r → (weight price_ops passing t w).value ≤ price_sum (prices r)
      low r h = least_below (readings passing t w) r (reads_listed passing h)

      below_top : (r : Reading) → Reads passing t w r → (weight price_ops passing t w).value ≡ 18_446_744_073_709_551_615 → ⊥
      below_top r h top = omega (arith, low r h, sum_bound h l)
