-- How the text goes on after each kind of atom. Assumes nothing.
use Rattle.std.proofs.Common.{◌≡◌, ℕ, ◌+◌, ◌<◌, ◌≤◌, Bool, true, false, eqb, List, [], ◌∷◌, length, None, Option, sym, refl, ap, ◌∙◌, arith, lit≤, le-leb, true-eqb}
use borrow.Author.Tests.{lt-leb}
use Rattle.table.specs.declared.node.Node.{Node}
use Rattle.table.specs.Tree.{size, postfix}
use Rattle.text.specs.declared.reader.Reader.{Reader}
use Rattle.text.specs.declared.reader.Class.{Class}
use Rattle.text.specs.declared.reader.Class.TheVariants.{Plain}
use Rattle.text.specs.Classes.{class_of}
use Rattle.text.specs.Grammar.{Atom, any, range, quoted, plain, once, Branch, Pattern, atom_tree}
use Rattle.text.specs.Scan.{Level, must, done, escape, low, dash, high, close, State, state, appended, begin, only_if, off}
use Rattle.text.specs.Steps.{outcome, There}
use Rattle.text.specs.Progress.{Added, AtomRead}
use Rattle.text.proofs.Complete.{feed_byte}
use Rattle.text.proofs.Outcomes.{on, stops, at_end, wants, feed_none}
use Rattle.text.proofs.Laying.{single}

only_at : (b : ℕ) (z : State) (c : ℕ) → (c ≡ b → ⊥) → only_if (eqb c b) z ≡ None
only_at b z c no_way = go (eqb c b) refl
  where
    go : (t : Bool) → eqb c b ≡ t → only_if t z ≡ None
    go true e = absurd (no_way (true-eqb c b (sym e)))
    go false e = refl

module _ (s : List ℕ) (i : ℕ) (o : List Level) (a : Option Pattern) (p : Option Branch) (few : length o ≤ 32) where
  -- \ and the byte meant
  after_escape : There s i 92 → outcome (state o a (must p)) s i ≡ outcome (state o a (escape p)) s (i + 1)
  after_escape h = on s (state o a (must p)) (state o a (escape p)) i (i + 1) 92 refl h refl few

  pub escape_cut : There s i 92 → length s ≤ i + 1 → outcome (state o a (must p)) s i ≡ off (i + 1)
  escape_cut h e = after_escape h ∙ at_end s _ (i + 1) e

  pub escape_goes : (b : ℕ) → There s i 92 → There s (i + 1) b → outcome (state o a (must p)) s i ≡ outcome (state o a (done (appended p (once (quoted b))))) s (i + 2)
  escape_goes b h k = after_escape h ∙ on s _ _ (i + 1) (i + 2) b (omega arith) k (feed_byte (state o a (escape p)) b k.small) few

  -- [l-h]
  after_bracket : There s i 91 → outcome (state o a (must p)) s i ≡ outcome (state o a (low p)) s (i + 1)
  after_bracket h = on s (state o a (must p)) (state o a (low p)) i (i + 1) 91 refl h refl few

  pub low_cut : There s i 91 → length s ≤ i + 1 → outcome (state o a (must p)) s i ≡ off (i + 1)
  low_cut h e = after_bracket h ∙ at_end s _ (i + 1) e

  after_low : (l : ℕ) → There s i 91 → There s (i + 1) l → outcome (state o a (must p)) s i ≡ outcome (state o a (dash p l)) s (i + 2)
  after_low l h k = after_bracket h ∙ on s _ _ (i + 1) (i + 2) l (omega arith) k (feed_byte (state o a (low p)) l k.small) few

  pub dash_cut : (l : ℕ) → There s i 91 → There s (i + 1) l → (There s (i + 2) 45 → ⊥) → outcome (state o a (must p)) s i ≡ off (i + 2)
  dash_cut l h k n = after_low l h k ∙ wants s (state o a (dash p l)) (i + 2) 45 (lit≤ tt) (only_at 45 _) refl n

  after_dash : (l : ℕ) → There s i 91 → There s (i + 1) l → There s (i + 2) 45 → outcome (state o a (must p)) s i ≡ outcome (state o a (high p l)) s (i + 3)
  after_dash l h k m = after_low l h k ∙ on s (state o a (dash p l)) (state o a (high p l)) (i + 2) (i + 3) 45 (omega arith) m refl few

  module _ (l : ℕ) (h : There s i 91) (k : There s (i + 1) l) (m : There s (i + 2) 45) where
    pub high_cut : length s ≤ i + 3 → outcome (state o a (must p)) s i ≡ off (i + 3)
    high_cut e = after_dash l h k m ∙ at_end s _ (i + 3) e

    pub out_of_order : (u : ℕ) → There s (i + 3) u → u < l → outcome (state o a (must p)) s i ≡ off (i + 3)
    out_of_order u t lt =
        after_dash l h k m ∙ stops s (state o a (high p l)) (i + 3) u t (feed_none (state o a (high p l)) u (ap (λ b. only_if b (state o a (close p l u))) (lt-leb l u lt)))

    module _ (u : ℕ) (t : There s (i + 3) u) (le : l ≤ u) where
      after_high : outcome (state o a (must p)) s i ≡ outcome (state o a (close p l u)) s (i + 4)
      after_high =
          after_dash l h k m
          ∙ on s (state o a (high p l)) (state o a (close p l u)) (i + 3) (i + 4) u (omega arith) t (feed_byte (state o a (high p l)) u t.small ∙ ap (λ b. only_if b (state o a (close p l u))) (le-leb l u le)) few

      pub close_cut : (There s (i + 4) 93 → ⊥) → outcome (state o a (must p)) s i ≡ off (i + 4)
      close_cut n = after_high ∙ wants s (state o a (close p l u)) (i + 4) 93 (lit≤ tt) (only_at 93 _) refl n

      pub range_goes : There s (i + 4) 93 → outcome (state o a (must p)) s i ≡ outcome (state o a (done (appended p (once (range l u))))) s (i + 5)
      range_goes n = after_high ∙ on s (state o a (close p l u)) (state o a (done (appended p (once (range l u))))) (i + 4) (i + 5) 93 (omega arith) n refl few

  -- one byte
  pub dot_goes : There s i 46 → outcome (state o a (must p)) s i ≡ outcome (state o a (done (appended p (once any)))) s (i + 1)
  dot_goes h = on s (state o a (must p)) _ i (i + 1) 46 refl h refl few

  pub plain_goes : (b : ℕ) → There s i b → class_of b ≡ Plain → outcome (state o a (must p)) s i ≡ outcome (state o a (done (appended p (once (plain b))))) s (i + 1)
  plain_goes b h e = on s _ _ i (i + 1) b refl h (feed_byte (state o a (must p)) b h.small ∙ ap (begin o a p b) e) few

  pub begins_none : (b : ℕ) (k : Class) → There s i b → class_of b ≡ k → begin o a p b k ≡ None → outcome (state o a (must p)) s i ≡ off i
  begins_none b k h e n = stops s (state o a (must p)) i b h (feed_none (state o a (must p)) b (ap (begin o a p b) e ∙ n))

-- an atom of one node, after j bytes
pub one_node : (x : Atom) (n : Node) → postfix (atom_tree x) ≡ n ∷ [] → size (atom_tree x) ≡ 1 → (j : ℕ) (was now : Reader) → ((o : List Level) (a : Option Pattern) (p : Option Branch) → length o ≡ was.depth → outcome (state o a (must p)) was.text.now was.at ≡ outcome (state o a (done (appended p (once x)))) was.text.now (was.at + j)) → 0 < j → Added j n was now → AtomRead was now
one_node x n e k j was now goes pos m = record {
  atom = x;
  goes = λ o a p h. goes o a p h ∙ ap (outcome (state o a (done (appended p (once x)))) was.text.now) (sym m.at);
  made = single (atom_tree x) n j was now e k pos m;
}
