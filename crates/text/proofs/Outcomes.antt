-- What a text comes to, one byte further on. Assumes nothing.
use Rattle.std.proofs.Common.{◌≡◌, ℕ, ◌+◌, ◌<◌, ◌≤◌, Bool, true, false, leb, List, length, get_or, drop, Some, None, Option, sym, refl, ap, ◌∙◌, ⊎_elim, lit≤, le-leb}
use borrow.Author.Tests.{lt-leb}
use Rattle.std.proofs.lemmas.List.{drop_more, drop_all}
use Rattle.std.proofs.str.Laws.{order}
use Rattle.text.specs.declared.reader.Class.{Class}
use Rattle.text.specs.declared.reader.Class.TheVariants.{Bar, Star, Open, Shut, Dot, Range, Right, Escape, Plain}
use Rattle.text.specs.Classes.{class_of}
use Rattle.text.specs.Grammar.{Branch, Pattern}
use Rattle.text.specs.Scan.{Level, must, opened, done, State, state, begin, after_open, after_piece, step, feed, Verdict, off, deep, ended, unless_deep, gone_on, finish}
use Rattle.text.specs.Steps.{outcome, There}
use Rattle.text.proofs.Bytes.{byte_is}

-- what a byte makes of a state, in place of what it reads
feed_alike : (z w : State) (c : ℕ) → step z.outer z.alts z.mode c ≡ step w.outer w.alts w.mode c → feed z c ≡ feed w c
feed_alike z w c e = go (leb c 255)
  where
    go : (b : Bool) → ◌≡◌ {A = Option State} (elim b [ true ↦ step z.outer z.alts z.mode c | false ↦ None ]) (elim b [ true ↦ step w.outer w.alts w.mode c | false ↦ None ])
    go true = e
    go false = refl

pub feed_none : (z : State) (c : ℕ) → step z.outer z.alts z.mode c ≡ None → feed z c ≡ None
feed_none z c e = go (leb c 255)
  where
    go : (b : Bool) → ◌≡◌ {A = Option State} (elim b [ true ↦ step z.outer z.alts z.mode c | false ↦ None ]) None
    go true = e
    go false = refl

module _ (s : List ℕ) where
  -- what comes after the byte at place i
  onward : ℕ → Option State → Verdict
  onward i x = gone_on x i (λ w. finish w (i + 1) (drop (i + 1) s))

  inside : (z : State) (i : ℕ) → i < length s → outcome z s i ≡ onward i (feed z (get_or s i 0))
  unfolding outcome onward
  inside z i h = ap (finish z i) (drop_more s i 0 h)

  at_byte : (z : State) (i b : ℕ) → There s i b → outcome z s i ≡ onward i (feed z b)
  at_byte z i b h = inside z i h.within ∙ ap (λ c. onward i (feed z c)) h.is

  pub on : (z w : State) (i j b : ℕ) → i + 1 ≡ j → There s i b → feed z b ≡ Some w → length w.outer ≤ 32 → outcome z s i ≡ outcome w s j
  unfolding outcome onward
  on z w i j b n h e d =
      at_byte z i b h ∙ ap (onward i) e ∙ ap (λ t. unless_deep t i (finish w (i + 1) (drop (i + 1) s))) (le-leb _ 32 d)
      ∙ ap (λ k. finish w k (drop k s)) n

  pub too_deep : (z w : State) (i b : ℕ) → There s i b → feed z b ≡ Some w → 32 < length w.outer → outcome z s i ≡ deep i
  unfolding onward
  too_deep z w i b h e d =
      at_byte z i b h ∙ ap (onward i) e ∙ ap (λ t. unless_deep t i (finish w (i + 1) (drop (i + 1) s))) (lt-leb _ 32 d)

  pub stops : (z : State) (i b : ℕ) → There s i b → feed z b ≡ None → outcome z s i ≡ off i
  unfolding onward
  stops z i b h e = at_byte z i b h ∙ ap (onward i) e

  pub at_end : (z : State) (i : ℕ) → length s ≤ i → outcome z s i ≡ ended z.outer z.alts z.mode i
  unfolding outcome
  at_end z i h = ap (finish z i) (drop_all i s h)

  -- a state that one byte alone leads on from
  pub wants : (z : State) (i b : ℕ) → b ≤ 255 → ((c : ℕ) → (c ≡ b → ⊥) → step z.outer z.alts z.mode c ≡ None) → ended z.outer z.alts z.mode i ≡ off i → (There s i b → ⊥) → outcome z s i ≡ off i
  unfolding onward
  wants z i b small only end absent =
      ⊎_elim
      (λ lt. inside z i lt ∙ ap (onward i) (feed_none z (get_or s i 0) (only _ (λ e. absent (record { within = lt; is = e; small = small })))))
      (λ ge. at_end z i ge ∙ end) (order i (length s))

  module _ (o : List Level) (a : Option Pattern) where
    -- after some pieces, a byte that neither ends nor stars a piece begins an atom
    pub begins_piece : (b : Branch) (i : ℕ) → i < length s → (There s i 124 → ⊥) → (There s i 42 → ⊥) → (There s i 41 → ⊥) → outcome (state o a (done b)) s i ≡ outcome (state o a (must (Some b))) s i
    begins_piece b i lt bar star shut =
        inside _ i lt ∙ ap (onward i) (feed_alike (state o a (done b)) (state o a (must (Some b))) (get_or s i 0) (by_class (class_of (get_or s i 0)) refl)) ∙ sym (inside _ i lt)
      where
        by_class : (k : Class) → class_of (get_or s i 0) ≡ k → after_piece o a b (get_or s i 0) k ≡ begin o a (Some b) (get_or s i 0) k
        by_class Bar e = absurd (bar (record { within = lt; is = byte_is _ Bar e; small = lit≤ tt }))
        by_class Star e = absurd (star (record { within = lt; is = byte_is _ Star e; small = lit≤ tt }))
        by_class Open e = refl
        by_class Shut e = absurd (shut (record { within = lt; is = byte_is _ Shut e; small = lit≤ tt }))
        by_class Dot e = refl
        by_class Range e = refl
        by_class Right e = refl
        by_class Escape e = refl
        by_class Plain e = refl

    -- right after an opening bracket that is not closed at once, an atom has to follow
    pub begins_group : (i : ℕ) → (There s i 41 → ⊥) → outcome (state o a opened) s i ≡ outcome (state o a (must None)) s i
    begins_group i shut = ⊎_elim more_bytes (λ ge. at_end _ i ge ∙ sym (at_end _ i ge)) (order i (length s))
      where
        by_class : i < length s → (k : Class) → class_of (get_or s i 0) ≡ k → after_open o a (get_or s i 0) k ≡ begin o a None (get_or s i 0) k
        by_class lt Bar e = refl
        by_class lt Star e = refl
        by_class lt Open e = refl
        by_class lt Shut e = absurd (shut (record { within = lt; is = byte_is _ Shut e; small = lit≤ tt }))
        by_class lt Dot e = refl
        by_class lt Range e = refl
        by_class lt Right e = refl
        by_class lt Escape e = refl
        by_class lt Plain e = refl

        more_bytes : i < length s → outcome (state o a opened) s i ≡ outcome (state o a (must None)) s i
        more_bytes lt =
            inside _ i lt ∙ ap (onward i) (feed_alike (state o a opened) (state o a (must None)) (get_or s i 0) (by_class lt (class_of (get_or s i 0)) refl)) ∙ sym (inside _ i lt)
