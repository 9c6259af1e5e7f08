-- What the weight of a line says of its readings. Assumes nothing.
use Rattle.std.proofs.Common.{◌≡◌, ℕ, ◌≤◌, List, [], ◌∷◌, map, length, sym, refl, ap, ◌∙◌, inl, inr, arith}
use Rattle.scale.specs.Counts.{count_ops}
use Rattle.scale.specs.Prices.{price_ops}
use Rattle.readings.specs.Readings.{Reading}
use Rattle.readings.specs.Weights.{weight, readings, reading_weight, total, In, Distinct}
use Rattle.readings.proofs.Listing.{listed_reads, reads_listed, listed_once}
use Rattle.readings.proofs.Meaning.{pair_both, count_exactly, one_exactly, exactly_one}
use Rattle.table.specs.declared.table.Table.{Table}
use Rattle.table.specs.Content.{tree}
use Rattle.table.specs.Kinds.{byte_passing}
use Rattle.sheet.specs.Account.{Line, SomeReading, OneReading, MoreReadings}
use Rattle.sheet.specs.Weighing.{line_weight, Consistent}

-- without a reading there is no price
no_price : (rs : List Reading) → length rs ≡ 0 → (total price_ops (map (reading_weight price_ops) rs)).value ≡ 18_446_744_073_709_551_615
no_price [] e = refl
no_price (r ∷ rs) e = absurd (omega arith)

-- in the pair, a line's count is its weight at count
pub count_in_pair : (t : Table) (w : List ℕ) → (line_weight t w).first.value ≡ (weight count_ops byte_passing (tree t) w).value
count_in_pair t w = ap (λ x. x.first.value) (pair_both count_ops price_ops byte_passing (tree t) w)

pub consistent : (t : Table) (w : List ℕ) → Consistent (line_weight t w)
consistent t w e =
    ap (λ x. x.second.value) (pair_both count_ops price_ops byte_passing (tree t) w)
    ∙ no_price (readings byte_passing (tree t) w) (omega (arith, count_exactly byte_passing (tree t) w, count_in_pair t w))

-- how many members a list of readings has

some_in : (rs : List Reading) → 1 ≤ length rs → (r : Reading) × In r rs
some_in [] h = absurd (omega arith)
some_in (r ∷ rs) h = (r, inl refl)

in_some : (rs : List Reading) (r : Reading) → In r rs → 1 ≤ length rs
in_some [] r h = absurd h
in_some (x ∷ rs) r h = omega arith

two_in : (rs : List Reading) → Distinct rs → 2 ≤ length rs → (r : Reading) × (q : Reading) × In r rs × In q rs × (q ≡ r → ⊥)
two_in [] d h = absurd (omega arith)
two_in (x ∷ []) d h = absurd (omega arith)
two_in (x ∷ y ∷ rs) d h = (x, y, inl refl, inr (inl refl), λ e. d.0 (inl (sym e)))

in_two : (rs : List Reading) (r q : Reading) → In r rs → In q rs → (q ≡ r → ⊥) → 2 ≤ length rs
in_two [] r q i j ne = grind arith
in_two (x ∷ []) r q i j ne = grind arith
in_two (x ∷ y ∷ rs) r q i j ne = omega arith

-- a line's count
abbrev pub count_of : Line → ℕ
count_of l = (weight count_ops byte_passing l.pattern l.symbols).value

module _ (l : Line) where
  pub counted_some : 1 ≤ count_of l → SomeReading l
  counted_some h =
      let m = some_in (readings byte_passing l.pattern l.symbols) (omega (arith, count_exactly byte_passing l.pattern l.symbols)) in
      (m.0, listed_reads byte_passing l.pattern l.symbols m.0 m.1)

  pub some_counted : SomeReading l → 1 ≤ count_of l
  some_counted s =
      omega (arith, count_exactly byte_passing l.pattern l.symbols, in_some (readings byte_passing l.pattern l.symbols) s.0 (reads_listed byte_passing s.1))

  pub counted_one : count_of l ≡ 1 → OneReading l
  counted_one h = one_exactly byte_passing l.pattern l.symbols h

  pub one_counted : OneReading l → count_of l ≡ 1
  one_counted o = exactly_one byte_passing l.pattern l.symbols o.0 o.1 o.2

  pub counted_more : 2 ≤ count_of l → MoreReadings l
  counted_more h =
      let m = two_in (readings byte_passing l.pattern l.symbols) (listed_once byte_passing l.pattern l.symbols) (omega (arith, count_exactly byte_passing l.pattern l.symbols)) in
      (m.0, m.1, listed_reads byte_passing l.pattern l.symbols m.0 m.2, listed_reads byte_passing l.pattern l.symbols m.1 m.3, m.4)

  pub more_counted : MoreReadings l → 2 ≤ count_of l
  more_counted m =
      omega (arith, count_exactly byte_passing l.pattern l.symbols, in_two (readings byte_passing l.pattern l.symbols) m.0 m.1 (reads_listed byte_passing m.2) (reads_listed byte_passing m.3) m.4)
