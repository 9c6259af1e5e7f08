-- Every state that is reached can be gone on from to a text of the grammar. Assumes nothing.
use Rattle.std.proofs.Common.{◌≡◌, ℕ, ◌≤◌, List, [], ◌∷◌, ◌++◌, Some, Option, sym, refl, ap, ◌∙◌, append_assoc, append-nil, arith, le-leb}
use Rattle.text.specs.Grammar.{once, group, Branch, Pattern, text, Lawful}
use Rattle.text.specs.Scan.{Level, Mode, must, opened, done, escape, low, dash, high, close, State, state, appended, joined, feed}
use Rattle.text.proofs.Follows.{written, StateLawful, joined_text, joined_lawful, next}

-- some text of the grammar begins with what a state has read
pub record Viable (o : List Level) (a : Option Pattern) (m : Mode) : Type 0 where
  pub pattern : Pattern
  pub lawful : Lawful pattern
  pub rest : List ℕ
  pub begins : text pattern ≡ written o a m ++ rest

-- one byte earlier
before : (o : List Level) (a : Option Pattern) (m : Mode) (c : ℕ) (z : State) → feed (state o a m) c ≡ Some z → Viable z.outer z.alts z.mode → Viable o a m
before o a m c z e v = record {
  pattern = v.pattern;
  lawful = v.lawful;
  rest = c ∷ v.rest;
  begins = v.begins ∙ ap (λ t. t ++ v.rest) (next (state o a m) z c e).1.read ∙ append_assoc (written o a m) (c ∷ []) v.rest;
}

closing : (o : List Level) (a : Option Pattern) (b : Branch) → StateLawful o a (done b) → Viable o a (done b)
closing [] a b h = record { pattern = joined a b; lawful = joined_lawful a b h.1 h.2; rest = []; begins = joined_text a b ∙ sym (append-nil _) }
closing (l ∷ ls) a b h =
    before (l ∷ ls) a (done b) 41 _ refl
    (closing ls l.alts (appended l.pieces (once (group (joined a b)))) ((next (state (l ∷ ls) a (done b)) _ 41 refl).1.lawful h))

-- by way of a byte
by : (o : List Level) (a : Option Pattern) (m : Mode) (c : ℕ) (z : State) → feed (state o a m) c ≡ Some z → StateLawful o a m → (StateLawful z.outer z.alts z.mode → Viable z.outer z.alts z.mode) → Viable o a m
by o a m c z e h f = before o a m c z e (f ((next (state o a m) z c e).1.lawful h))

closing_range : (o : List Level) (a : Option Pattern) (s : Option Branch) (l h : ℕ) → StateLawful o a (close s l h) → Viable o a (close s l h)
closing_range o a s l h k = by o a (close s l h) 93 _ refl k (closing o a _)

upper : (o : List Level) (a : Option Pattern) (s : Option Branch) (l : ℕ) → l ≤ 255 → feed (state o a (high s l)) l ≡ Some (state o a (close s l l))
upper o a s l f = rw (le-leb l 255 f, feed, le-leb l l (omega arith))

pub viable : (o : List Level) (a : Option Pattern) (m : Mode) → StateLawful o a m → Viable o a m
viable o a (must s) h = by o a (must s) 97 _ refl h (closing o a _)
viable o a opened h = by o a opened 97 _ refl h (closing o a _)
viable o a (done b) h = closing o a b h
viable o a (escape s) h = by o a (escape s) 97 _ refl h (closing o a _)
viable o a (low s) h =
    by o a (low s) 97 _ refl h
    (λ k. by o a (dash s 97) 45 _ refl k (λ k₁. by o a (high s 97) 97 _ refl k₁ (closing_range o a s 97 97)))
viable o a (dash s l) h = by o a (dash s l) 45 _ refl h (λ k. by o a (high s l) l _ (upper o a s l h.2.1) k (closing_range o a s l l))
viable o a (high s l) h = by o a (high s l) l _ (upper o a s l h.2.1) h (closing_range o a s l l)
viable o a (close s l h) k = closing_range o a s l h k
