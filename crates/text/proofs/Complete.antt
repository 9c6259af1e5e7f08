-- A text of the grammar is read to its end, and comes to its own pattern. Assumes nothing.
use Rattle.std.proofs.Common.{◌≡◌, ℕ, ◌≤◌, List, [], ◌∷◌, Some, None, Option, refl, ap, ◌∙◌, arith, lit≤, le-leb}
use Rattle.text.specs.declared.reader.Class.{Class}
use Rattle.text.specs.declared.reader.Class.TheVariants.{Bar, Star, Open, Shut, Dot, Range, Right, Escape, Plain}
use Rattle.text.specs.Classes.{class_of}
use Rattle.text.specs.Grammar.{Atom, unit, group, any, range, quoted, plain, Piece, once, star, Branch, one, more, Pattern, only, or, atom_text, piece_text, branch_text, text, AtomLawful, PieceLawful, BranchLawful, Lawful}
use Rattle.text.specs.Scan.{Level, Mode, must, opened, done, escape, low, high, close, State, state, level, start, appended, starred, joined, begin, after_open, after_piece, only_if, step, feed}
use Rattle.text.proofs.Run.{run, run_none, run_step, run_append}

-- the modes in which an atom may begin, with the pieces before it
pub data Ready : Mode → Option Branch → Type 0 where
  at_must : {s : Option Branch} → Ready (must s) s
  at_open : Ready opened None
  at_done : {b : Branch} → Ready (done b) (Some b)

-- the classes that begin an atom
abbrev pub Begins : Class → Type 0
Begins Bar = ⊥
Begins Star = ⊥
Begins Open = Unit {0}
Begins Shut = ⊥
Begins Dot = Unit {0}
Begins Range = Unit {0}
Begins Right = ⊥
Begins Escape = Unit {0}
Begins Plain = Unit {0}

pub feed_byte : (z : State) (c : ℕ) → c ≤ 255 → feed z c ≡ step z.outer z.alts z.mode c
feed_byte z c h = rw (le-leb c 255 h, feed)

begins_open : (o : List Level) (a : Option Pattern) (c : ℕ) (k : Class) → Begins k → after_open o a c k ≡ begin o a None c k
begins_open o a c Bar b = absurd b
begins_open o a c Star b = absurd b
begins_open o a c Open b = refl
begins_open o a c Shut b = absurd b
begins_open o a c Dot b = refl
begins_open o a c Range b = refl
begins_open o a c Right b = absurd b
begins_open o a c Escape b = refl
begins_open o a c Plain b = refl

pub begins_done : (o : List Level) (a : Option Pattern) (p : Branch) (c : ℕ) (k : Class) → Begins k → after_piece o a p c k ≡ begin o a (Some p) c k
begins_done o a p c Bar b = absurd b
begins_done o a p c Star b = absurd b
begins_done o a p c Open b = refl
begins_done o a p c Shut b = absurd b
begins_done o a p c Dot b = refl
begins_done o a p c Range b = refl
begins_done o a p c Right b = absurd b
begins_done o a p c Escape b = refl
begins_done o a p c Plain b = refl

module _ (o : List Level) (a : Option Pattern) where
  -- the first byte of an atom
  first : {m : Mode} {s : Option Branch} → Ready m s → (c : ℕ) (k : Class) → c ≤ 255 → class_of c ≡ k → Begins k → feed (state o a m) c ≡ begin o a s c k
  first {m} {s} at_must c k f e b = feed_byte (state o a m) c f ∙ ap (begin o a s c) e
  first {m} {s} at_open c k f e b = feed_byte (state o a m) c f ∙ ap (after_open o a c) e ∙ begins_open o a c k b
  first (at_done {b = p}) c k f e b = feed_byte (state o a (done p)) c f ∙ ap (after_piece o a p c) e ∙ begins_done o a p c k b

-- the branches before the last |, and the last branch
abbrev pub alts_of : Pattern → Option Pattern
alts_of (only b) = None
alts_of (or p b) = Some p

abbrev pub last_of : Pattern → Branch
last_of (only b) = b
last_of (or p b) = b

pub joined_parts : (p : Pattern) → joined (alts_of p) (last_of p) ≡ p
joined_parts (only b) = refl
joined_parts (or p b) = refl

pub starred_last : (s : Option Branch) (p : Piece) → starred (appended s p) ≡ appended s (star p)
starred_last None p = refl
starred_last (Some b) p = refl

-- one byte, which is the last
last : (z w : State) (c : ℕ) → feed z c ≡ Some w → run z (c ∷ []) ≡ Some w
last z w c e = run_step z w c [] (Some w) e (run_none w)

mutual
  atom_run : (x : Atom) → AtomLawful x → (o : List Level) (a : Option Pattern) {m : Mode} {s : Option Branch} → Ready m s → run (state o a m) (atom_text x) ≡ Some (state o a (done (appended s (once x))))
  atom_run unit h o a r = run_step _ _ 40 _ _ (first o a r 40 Open (lit≤ tt) refl tt) (last _ _ 41 refl)
  atom_run (group p) h o a {m} {s} r =
      run_step _ _ 40 _ _ (first o a r 40 Open (lit≤ tt) refl tt)
      (run_append _ _ (text p) (41 ∷ []) _ (pattern_run p h (level a s ∷ o) at_open) (last _ _ 41 (ap (λ q. Some (state o a (done (appended s (once (group q)))))) (joined_parts p))))
  atom_run any h o a r = last _ _ 46 (first o a r 46 Dot (lit≤ tt) refl tt)
  atom_run (range l u) h o a {m} {s} r =
      run_step _ _ 91 _ _ (first o a r 91 Range (lit≤ tt) refl tt)
      (run_step _ _ l _ _ (feed_byte (state o a (low s)) l (omega arith))
      (run_step _ (state o a (high s l)) 45 _ _ refl
      (run_step _ _ u _ _ (feed_byte (state o a (high s l)) u h.1 ∙ ap (λ b. only_if b (state o a (close s l u))) (le-leb l u h.0)) (last _ _ 93 refl))))
  atom_run (quoted c) h o a {m} {s} r =
      run_step _ _ 92 _ _ (first o a r 92 Escape (lit≤ tt) refl tt) (last _ _ c (feed_byte (state o a (escape s)) c h))
  atom_run (plain c) h o a r = last _ _ c (first o a r c Plain h.1 h.0 tt)

  piece_run : (p : Piece) → PieceLawful p → (o : List Level) (a : Option Pattern) {m : Mode} {s : Option Branch} → Ready m s → run (state o a m) (piece_text p) ≡ Some (state o a (done (appended s p)))
  piece_run (once x) h o a r = atom_run x h o a r
  piece_run (star p) h o a {m} {s} r =
      run_append _ _ (piece_text p) (42 ∷ []) _ (piece_run p h o a r) (last _ _ 42 (ap (λ b. Some (state o a (done b))) (starred_last s p)))

  branch_run : (b : Branch) → BranchLawful b → (o : List Level) (a : Option Pattern) {m : Mode} → Ready m None → run (state o a m) (branch_text b) ≡ Some (state o a (done b))
  branch_run (one p) h o a r = piece_run p h o a r
  branch_run (more b p) h o a r = run_append _ _ (branch_text b) (piece_text p) _ (branch_run b h.0 o a r) (piece_run p h.1 o a at_done)

  pattern_run : (p : Pattern) → Lawful p → (o : List Level) {m : Mode} → Ready m None → run (state o None m) (text p) ≡ Some (state o (alts_of p) (done (last_of p)))
  pattern_run (only b) h o r = branch_run b h o None r
  pattern_run (or p b) h o r =
      run_append _ _ (text p) (124 ∷ branch_text b) _ (pattern_run p h.0 o r)
      (run_step _ _ 124 _ _ (ap (λ q. Some (state o (Some q) (must None))) (joined_parts p)) (branch_run b h.1 o (Some p) at_must))

pub text_run : (p : Pattern) → Lawful p → run start (text p) ≡ Some (state [] (alts_of p) (done (last_of p)))
text_run p h = pattern_run p h [] at_must
