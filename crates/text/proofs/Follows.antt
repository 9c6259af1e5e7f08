-- What one byte more does to the text read so far, to its lawfulness and to its open brackets. Assumes nothing.
use Rattle.std.proofs.Common.{◌≡◌, ℕ, ◌≤◌, Bool, true, false, eqb, leb, List, [], ◌∷◌, ◌++◌, length, Some, None, Option, sym, refl, ap, ◌∙◌, subst, append_assoc, append-nil, true-eqb}
use borrow.Author.Tests.{true-leb}
use Rattle.text.specs.declared.reader.Class.{Class}
use Rattle.text.specs.declared.reader.Class.TheVariants.{Bar, Star, Open, Shut, Dot, Range, Right, Escape, Plain}
use Rattle.text.specs.Classes.{class_of}
use Rattle.text.specs.Depth.{Nest, nest, nest_by, nest_step}
use Rattle.text.specs.Grammar.{Atom, unit, group, any, range, quoted, plain, Piece, once, Branch, one, more, Pattern, atom_text, piece_text, branch_text, text, AtomLawful, PieceLawful, BranchLawful, Lawful}
use Rattle.text.specs.Scan.{Level, Mode, must, opened, done, escape, low, dash, high, close, State, state, appended, starred, joined, popped, begin, shut_unit, after_open, after_piece, only_if, step, feed}
use Rattle.text.proofs.Bytes.{byte_is}

-- the text that a state has read
abbrev pub pieces_text : Option Branch → List ℕ
pieces_text None = []
pieces_text (Some b) = branch_text b

abbrev pub alts_text : Option Pattern → List ℕ
alts_text None = []
alts_text (Some p) = text p ++ (124 ∷ [])

abbrev pub mode_text : Mode → List ℕ
mode_text (must s) = pieces_text s
mode_text opened = []
mode_text (done b) = branch_text b
mode_text (escape s) = pieces_text s ++ (92 ∷ [])
mode_text (low s) = pieces_text s ++ (91 ∷ [])
mode_text (dash s l) = pieces_text s ++ (91 ∷ l ∷ [])
mode_text (high s l) = pieces_text s ++ (91 ∷ l ∷ 45 ∷ [])
mode_text (close s l h) = pieces_text s ++ (91 ∷ l ∷ 45 ∷ h ∷ [])

abbrev pub outer_text : List Level → List ℕ
outer_text [] = []
outer_text (l ∷ ls) = outer_text ls ++ (alts_text l.alts ++ (pieces_text l.pieces ++ (40 ∷ [])))

abbrev pub written : List Level → Option Pattern → Mode → List ℕ
written o a m = outer_text o ++ (alts_text a ++ mode_text m)

-- every part that is whole is lawful
abbrev pub PiecesLawful : Option Branch → Type 0
PiecesLawful None = Unit {0}
PiecesLawful (Some b) = BranchLawful b

abbrev pub AltsLawful : Option Pattern → Type 0
AltsLawful None = Unit {0}
AltsLawful (Some p) = Lawful p

abbrev pub ModeLawful : Mode → Type 0
ModeLawful (must s) = PiecesLawful s
ModeLawful opened = Unit {0}
ModeLawful (done b) = BranchLawful b
ModeLawful (escape s) = PiecesLawful s
ModeLawful (low s) = PiecesLawful s
ModeLawful (dash s l) = PiecesLawful s × (l ≤ 255)
ModeLawful (high s l) = PiecesLawful s × (l ≤ 255)
ModeLawful (close s l h) = PiecesLawful s × (l ≤ h) × (h ≤ 255)

abbrev pub OuterLawful : List Level → Type 0
OuterLawful [] = Unit {0}
OuterLawful (l ∷ ls) = AltsLawful l.alts × PiecesLawful l.pieces × OuterLawful ls

abbrev pub StateLawful : List Level → Option Pattern → Mode → Type 0
StateLawful o a m = OuterLawful o × AltsLawful a × ModeLawful m

-- the bytes of an escape or a range that are still to come
abbrev pub skipped : Mode → ℕ
skipped (must s) = 0
skipped opened = 0
skipped (done b) = 0
skipped (escape s) = 1
skipped (low s) = 4
skipped (dash s l) = 3
skipped (high s l) = 2
skipped (close s l h) = 1

abbrev pub nest_of : List Level → Mode → Nest
nest_of o m = nest (skipped m) (length o)

-- what is known of the next state
pub record Next (o : List Level) (a : Option Pattern) (m : Mode) (c : ℕ) (z : State) : Type 0 where
  pub read : written z.outer z.alts z.mode ≡ written o a m ++ (c ∷ [])
  pub lawful : StateLawful o a m → StateLawful z.outer z.alts z.mode
  pub nests : nest_of z.outer z.mode ≡ nest_step (skipped m) (length o) c

abbrev pub Follows : List Level → Option Pattern → Mode → ℕ → Option State → Type 0
Follows o a m c None = Unit {0}
Follows o a m c (Some z) = Next o a m c z

pub appended_text : (s : Option Branch) (p : Piece) → branch_text (appended s p) ≡ pieces_text s ++ piece_text p
appended_text None p = refl
appended_text (Some b) p = refl

pub appended_lawful : (s : Option Branch) (p : Piece) → PiecesLawful s → PieceLawful p → BranchLawful (appended s p)
appended_lawful None p hs hp = hp
appended_lawful (Some b) p hs hp = (hs, hp)

pub joined_text : (a : Option Pattern) (b : Branch) → text (joined a b) ≡ alts_text a ++ branch_text b
joined_text None b = refl
joined_text (Some p) b = sym (append_assoc (text p) (124 ∷ []) (branch_text b))

pub joined_lawful : (a : Option Pattern) (b : Branch) → AltsLawful a → BranchLawful b → Lawful (joined a b)
joined_lawful None b ha hb = hb
joined_lawful (Some p) b ha hb = (ha, hb)

starred_text : (b : Branch) → branch_text (starred b) ≡ branch_text b ++ (42 ∷ [])
starred_text (one p) = refl
starred_text (more b p) = sym (append_assoc (branch_text b) (piece_text p) (42 ∷ []))

starred_lawful : (b : Branch) → BranchLawful b → BranchLawful (starred b)
starred_lawful (one p) h = h
starred_lawful (more b p) h = h

at_class : (m : Mode) (c d : ℕ) (k : Class) → skipped m ≡ 0 → class_of c ≡ k → nest_step (skipped m) d c ≡ nest_by d k
at_class m c d k n e = ap (λ j. nest_step j d c) n ∙ ap (nest_by d) e

module _ (o : List Level) (a : Option Pattern) where
  -- one byte more of what stands after the branches
  longer : (m : Mode) (c : ℕ) (t : List ℕ) → mode_text m ++ (c ∷ []) ≡ t → outer_text o ++ (alts_text a ++ t) ≡ written o a m ++ (c ∷ [])
  longer m c t e = ap (λ x. outer_text o ++ (alts_text a ++ x)) (sym e) ∙ simp append_assoc

  -- the last byte of an atom after the pieces s
  whole_atom : (s : Option Branch) (m : Mode) (c : ℕ) (x : Atom) → mode_text m ++ (c ∷ []) ≡ pieces_text s ++ atom_text x → (ModeLawful m → PiecesLawful s × AtomLawful x) → nest_step (skipped m) (length o) c ≡ nest 0 (length o) → Next o a m c (state o a (done (appended s (once x))))
  whole_atom s m c x e l n = record {
    read = longer m c _ (e ∙ sym (appended_text s (once x)));
    lawful = λ h. (h.0, h.1, let k = l h.2 in appended_lawful s (once x) k.0 k.1);
    nests = sym n;
  }

  begin_follows : (m : Mode) (s : Option Branch) (c : ℕ) (k : Class) → class_of c ≡ k → c ≤ 255 → mode_text m ≡ pieces_text s → (ModeLawful m → PiecesLawful s) → skipped m ≡ 0 → Follows o a m c (begin o a s c k)
  begin_follows m s c Bar e f t l n = tt
  begin_follows m s c Star e f t l n = tt
  begin_follows m s c Open e f t l n = record {
    read = append-nil _ ∙ longer m c _ (λ i. t i ++ (byte_is c Open e i ∷ []));
    lawful = λ h. ((h.1, l h.2, h.0), tt, tt);
    nests = sym (at_class m c (length o) Open n e);
  }
  begin_follows m s c Shut e f t l n = tt
  begin_follows m s c Dot e f t l n =
      whole_atom s m c any (λ i. t i ++ (byte_is c Dot e i ∷ [])) (λ h. (l h, tt)) (at_class m c (length o) Dot n e)
  begin_follows m s c Range e f t l n = record {
    read = longer m c _ (λ i. t i ++ (byte_is c Range e i ∷ []));
    lawful = λ h. (h.0, h.1, l h.2);
    nests = sym (at_class m c (length o) Range n e);
  }
  begin_follows m s c Right e f t l n = tt
  begin_follows m s c Escape e f t l n = record {
    read = longer m c _ (λ i. t i ++ (byte_is c Escape e i ∷ []));
    lawful = λ h. (h.0, h.1, l h.2);
    nests = sym (at_class m c (length o) Escape n e);
  }
  begin_follows m s c Plain e f t l n =
      whole_atom s m c (plain c) (λ i. t i ++ (c ∷ [])) (λ h. (l h, (e, f))) (at_class m c (length o) Plain n e)

-- a bracket closed around what stands at this level
closed_follows : (o : List Level) (a : Option Pattern) (m : Mode) (c : ℕ) (x : Atom) → class_of c ≡ Shut → skipped m ≡ 0 → 40 ∷ ((alts_text a ++ mode_text m) ++ (41 ∷ [])) ≡ atom_text x → (AltsLawful a → ModeLawful m → AtomLawful x) → Follows o a m c (popped o x)
closed_follows [] a m c x e n t l = tt
closed_follows (v ∷ vs) a m c x e n t l = record {
  read =
      ap (λ y. outer_text vs ++ (alts_text v.alts ++ y)) (appended_text v.pieces (once x) ∙ ap (λ y. pieces_text v.pieces ++ y) (sym t))
      ∙ simp append_assoc (ap (λ y. outer_text vs ++ (alts_text v.alts ++ (pieces_text v.pieces ++ (40 ∷ (alts_text a ++ (mode_text m ++ (y ∷ []))))))) (sym (byte_is c Shut e)));
  lawful = λ h. (h.0.2, h.0.0, appended_lawful v.pieces (once x) h.0.1 (l h.1 h.2));
  nests = sym (at_class m c (length (v ∷ vs)) Shut n e);
}

shut_unit_follows : (o : List Level) (a : Option Pattern) (c : ℕ) → class_of c ≡ Shut → Follows o a opened c (shut_unit o a)
shut_unit_follows o None c e = closed_follows o None opened c unit e refl refl (λ h k. tt)
shut_unit_follows o (Some p) c e = tt

after_open_follows : (o : List Level) (a : Option Pattern) (c : ℕ) (k : Class) → class_of c ≡ k → c ≤ 255 → Follows o a opened c (after_open o a c k)
after_open_follows o a c Bar e f = tt
after_open_follows o a c Star e f = tt
after_open_follows o a c Open e f = begin_follows o a opened None c Open e f refl (λ h. tt) refl
after_open_follows o a c Shut e f = shut_unit_follows o a c e
after_open_follows o a c Dot e f = begin_follows o a opened None c Dot e f refl (λ h. tt) refl
after_open_follows o a c Range e f = begin_follows o a opened None c Range e f refl (λ h. tt) refl
after_open_follows o a c Right e f = tt
after_open_follows o a c Escape e f = begin_follows o a opened None c Escape e f refl (λ h. tt) refl
after_open_follows o a c Plain e f = begin_follows o a opened None c Plain e f refl (λ h. tt) refl

after_piece_follows : (o : List Level) (a : Option Pattern) (b : Branch) (c : ℕ) (k : Class) → class_of c ≡ k → c ≤ 255 → Follows o a (done b) c (after_piece o a b c k)
after_piece_follows o a b c Bar e f = record {
  read = ap (λ t. outer_text o ++ ((t ++ (124 ∷ [])) ++ [])) (joined_text a b) ∙ simp (append_assoc, append-nil) (ap (λ y. outer_text o ++ (alts_text a ++ (branch_text b ++ (y ∷ [])))) (sym (byte_is c Bar e)));
  lawful = λ h. (h.0, joined_lawful a b h.1 h.2, tt);
  nests = sym (at_class (done b) c (length o) Bar refl e);
}
after_piece_follows o a b c Star e f = record {
  read = longer o a (done b) c _ (ap (λ y. branch_text b ++ (y ∷ [])) (byte_is c Star e) ∙ sym (starred_text b));
  lawful = λ h. (h.0, h.1, starred_lawful b h.2);
  nests = sym (at_class (done b) c (length o) Star refl e);
}
after_piece_follows o a b c Open e f = begin_follows o a (done b) (Some b) c Open e f refl (λ h. h) refl
after_piece_follows o a b c Shut e f =
    closed_follows o a (done b) c (group (joined a b)) e refl (ap (λ t. 40 ∷ (t ++ (41 ∷ []))) (sym (joined_text a b))) (joined_lawful a b)
after_piece_follows o a b c Dot e f = begin_follows o a (done b) (Some b) c Dot e f refl (λ h. h) refl
after_piece_follows o a b c Range e f = begin_follows o a (done b) (Some b) c Range e f refl (λ h. h) refl
after_piece_follows o a b c Right e f = tt
after_piece_follows o a b c Escape e f = begin_follows o a (done b) (Some b) c Escape e f refl (λ h. h) refl
after_piece_follows o a b c Plain e f = begin_follows o a (done b) (Some b) c Plain e f refl (λ h. h) refl

-- a state that a test lets pass
tested : (o : List Level) (a : Option Pattern) (m : Mode) (c : ℕ) (b : Bool) (z : State) → (b ≡ true → Next o a m c z) → Follows o a m c (only_if b z)
tested o a m c true z h = h refl
tested o a m c false z h = tt

step_follows : (o : List Level) (a : Option Pattern) (m : Mode) (c : ℕ) → c ≤ 255 → Follows o a m c (step o a m c)
step_follows o a (must s) c f = begin_follows o a (must s) s c (class_of c) refl f refl (λ h. h) refl
step_follows o a opened c f = after_open_follows o a c (class_of c) refl f
step_follows o a (done b) c f = after_piece_follows o a b c (class_of c) refl f
step_follows o a (escape s) c f = whole_atom o a s (escape s) c (quoted c) (append_assoc (pieces_text s) (92 ∷ []) (c ∷ [])) (λ h. (h, f)) refl
step_follows o a (low s) c f = record {
  read = longer o a (low s) c _ (append_assoc (pieces_text s) (91 ∷ []) (c ∷ []));
  lawful = λ h. (h.0, h.1, (h.2, f));
  nests = refl;
}
step_follows o a (dash s l) c f =
    tested o a (dash s l) c (eqb c 45) _ (λ t. record {
      read = longer o a (dash s l) c _ (append_assoc (pieces_text s) (91 ∷ l ∷ []) (c ∷ []) ∙ ap (λ y. pieces_text s ++ (91 ∷ l ∷ y ∷ [])) (true-eqb c 45 (sym t)));
      lawful = λ h. h;
      nests = refl;
    })
step_follows o a (high s l) c f =
    tested o a (high s l) c (leb l c) _ (λ t. record {
      read = longer o a (high s l) c _ (append_assoc (pieces_text s) (91 ∷ l ∷ 45 ∷ []) (c ∷ []));
      lawful = λ h. (h.0, h.1, (h.2.0, true-leb l c (sym t), f));
      nests = refl;
    })
step_follows o a (close s l h) c f =
    tested o a (close s l h) c (eqb c 93) _ (λ t.
    whole_atom o a s (close s l h) c (range l h)
    (append_assoc (pieces_text s) (91 ∷ l ∷ 45 ∷ h ∷ []) (c ∷ []) ∙ ap (λ y. pieces_text s ++ (91 ∷ l ∷ 45 ∷ h ∷ y ∷ [])) (true-eqb c 93 (sym t)))
    (λ k. (k.0, (k.1, k.2))) refl)

-- only None is told to be nothing
abbrev Told : Option State → Type 0
Told None = Unit {0}
Told (Some z) = ⊥

-- one byte more
pub next : (z w : State) (c : ℕ) → feed z c ≡ Some w → (c ≤ 255) × Next z.outer z.alts z.mode c w
next z w c = go (leb c 255) refl
  where
    go : (b : Bool) → leb c 255 ≡ b → elim b [ true ↦ step z.outer z.alts z.mode c | false ↦ None ] ≡ Some w → (c ≤ 255) × Next z.outer z.alts z.mode c w
    go true t e = (true-leb c 255 (sym t), subst (Follows z.outer z.alts z.mode c) e (step_follows z.outer z.alts z.mode c (true-leb c 255 (sym t))))
    go false t e = absurd (subst Told e tt)
