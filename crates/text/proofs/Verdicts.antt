-- What a text comes to byte by byte is what the grammar says of it. Assumes nothing.
use Rattle.std.proofs.Common.{◌≡◌, ℕ, zero, suc, pred, ◌+◌, ◌<◌, ◌≤◌, Bool, true, false, leb, List, [], ◌∷◌, ◌++◌, length, take, Some, None, Option, sym, refl, ap, ◌∙◌, subst, ⊎_elim, append_assoc, append-nil, arith, lit≤, length-append}
use borrow.Author.Tests.{true-leb, false-leb}
use Rattle.std.proofs.lemmas.List.{take_at, take_all, length_push}
use Rattle.std.proofs.str.Laws.{order}
use Rattle.text.specs.declared.reader.Class.{Class}
use Rattle.text.specs.declared.reader.Class.TheVariants.{Bar, Star, Open, Shut, Dot, Range, Right, Escape, Plain}
use Rattle.text.specs.Classes.{class_of}
use Rattle.text.specs.Depth.{Nest, nest, nest_by, nest_step, nested, open_after}
use Rattle.text.specs.Grammar.{Pattern, text, Lawful}
use Rattle.text.specs.Reads.{Means, Shares, Longest, Shallow}
use Rattle.text.specs.Scan.{Level, Mode, must, opened, done, escape, low, dash, high, close, State, state, start, feed, Verdict, good, off, deep, ended, unless_deep, gone_on, finish}
use Rattle.text.proofs.Follows.{written, StateLawful, nest_of, joined_text, joined_lawful, next}
use Rattle.text.proofs.Viable.{viable}
use Rattle.text.proofs.Run.{run, run_none, run_stuck, run_step, run_append}
use Rattle.text.proofs.Complete.{text_run}

-- what each verdict says of the text
abbrev pub Holds : List ℕ → Verdict → Type 0
Holds s (good q) = Means s q × Shallow s (length s)
Holds s (off p) = ((q : Pattern) → Means s q → ⊥) × Longest s p × Shallow s p
Holds s (deep p) = Shares s (p + 1) × Shallow s p × (open_after (take (p + 1) s) ≡ 33)

-- the state after the bytes of pre
pub record At (pre : List ℕ) (z : State) : Type 0 where
  pub ran : run start pre ≡ Some z
  pub lawful : StateLawful z.outer z.alts z.mode
  pub read : written z.outer z.alts z.mode ≡ pre
  pub nests : nest_of z.outer z.mode ≡ nested (nest 0 0) pre

at_start : At [] start
at_start = record { ran = run_none start; lawful = (tt, tt, tt); read = refl; nests = refl }

nested_append : (n : Nest) (xs ys : List ℕ) → nested n (xs ++ ys) ≡ nested (nested n xs) ys
nested_append n [] ys = refl
nested_append n (x ∷ xs) ys = nested_append (nest_step n.skip n.depth x) xs ys

at_next : (pre : List ℕ) (z w : State) (c : ℕ) → At pre z → feed z c ≡ Some w → At (pre ++ c ∷ []) w
at_next pre z w c at e =
    let n = (next z w c e).1 in
    record {
      ran = run_append start z pre (c ∷ []) (Some w) at.ran (run_step z w c [] (Some w) e (run_none w));
      lawful = n.lawful at.lawful;
      read = n.read ∙ ap (λ t. t ++ (c ∷ [])) at.read;
      nests = n.nests ∙ ap (λ m. nest_step m.skip m.depth c) at.nests ∙ sym (nested_append (nest 0 0) pre (c ∷ []));
    }

-- a text that begins with pre
module _ (pre rest s : List ℕ) (whole : pre ++ rest ≡ s) where
  front : take (length pre) s ≡ pre
  front = ap (take (length pre)) (sym whole) ∙ take_at pre rest (length pre) refl

  long : length s ≡ length pre + length rest
  long = ap length (sym whole) ∙ length-append pre rest

  shares : (z : State) → At pre z → Shares s (length pre)
  shares z at =
      let v = viable z.outer z.alts z.mode at.lawful in
      (omega (arith, long), (v.pattern, v.lawful, (v.rest, v.begins ∙ ap (λ t. t ++ v.rest) (at.read ∙ sym front))))

  depth_there : (z : State) → At pre z → open_after (take (length pre) s) ≡ length z.outer
  depth_there z at = ap open_after front ∙ sym (ap (λ n. n.depth) at.nests)

-- a beginning longer than pre
past : (pre cs : List ℕ) (c k : ℕ) → length pre < k → (t : List ℕ) × (take k (pre ++ c ∷ cs) ≡ pre ++ (c ∷ t))
past [] cs c zero h = absurd (omega arith)
past [] cs c (suc k) h = (take k cs, refl)
past (x ∷ xs) cs c zero h = absurd (omega arith)
past (x ∷ xs) cs c (suc k) h = let r = past xs cs c k (omega arith) in (r.0, ap (λ t. x ∷ t) r.1)

-- a text of the grammar never comes to None
never_none : (q : Pattern) → Lawful q → run start (text q) ≡ None → ⊥
never_none q h e = let t = text_run q h in let z : ◌≡◌ {A = ℕ} 0 1 = cc in omega arith

-- a state in which a text may end
abbrev Ends : List Level → Mode → Type 0
Ends o (must s) = ⊥
Ends o opened = ⊥
Ends [] (done b) = Unit {0}
Ends (l ∷ ls) (done b) = ⊥
Ends o (escape s) = ⊥
Ends o (low s) = ⊥
Ends o (dash s l) = ⊥
Ends o (high s l) = ⊥
Ends o (close s l h) = ⊥

abbrev MayEnd : Option State → Type 0
MayEnd None = ⊥
MayEnd (Some z) = Ends z.outer z.mode

-- at the end of the text
module _ (s : List ℕ) (z : State) (at : At s z) (shallow : Shallow s (length s)) where
  unfinished : (Ends z.outer z.mode → ⊥) → Holds s (off (length s))
  unfinished no_end = (
    λ q m. no_end (subst MayEnd (sym (text_run q m.0) ∙ ap (run start) m.1 ∙ at.ran) tt),
    (shares s [] s (append-nil s) z at, λ k h. h.0),
    shallow,
  )

ended_holds : (s : List ℕ) (o : List Level) (a : Option Pattern) (m : Mode) → At s (state o a m) → Shallow s (length s) → Holds s (ended o a m (length s))
ended_holds s o a (must x) at h = unfinished s _ at h (λ n. n)
ended_holds s o a opened at h = unfinished s _ at h (λ n. n)
ended_holds s [] a (done b) at h = ((joined_lawful a b at.lawful.1 at.lawful.2, joined_text a b ∙ at.read), h)
ended_holds s (l ∷ ls) a (done b) at h = unfinished s _ at h (λ n. n)
ended_holds s o a (escape x) at h = unfinished s _ at h (λ n. n)
ended_holds s o a (low x) at h = unfinished s _ at h (λ n. n)
ended_holds s o a (dash x l) at h = unfinished s _ at h (λ n. n)
ended_holds s o a (high x l) at h = unfinished s _ at h (λ n. n)
ended_holds s o a (close x l u) at h = unfinished s _ at h (λ n. n)

-- a byte with which no text of the grammar goes on
stuck : (pre cs s : List ℕ) (c : ℕ) (z : State) → pre ++ c ∷ cs ≡ s → At pre z → feed z c ≡ None → (k : ℕ) → Shares s k → k ≤ length pre
stuck pre cs s c z whole at e k h = ⊎_elim (λ lt. absurd (never_none h.1.0 h.1.1 (none lt))) (λ le. le) (order (length pre) k)
  where
    none : length pre < k → run start (text h.1.0) ≡ None
    none lt =
        let p = past pre cs c k lt in
        ap (run start) (h.1.2.1 ∙ ap (λ t. take k t ++ h.1.2.0) (sym whole) ∙ ap (λ t. t ++ h.1.2.0) p.1 ∙ append_assoc pre (c ∷ p.0) h.1.2.0)
        ∙ run_append start z pre (c ∷ (p.0 ++ h.1.2.0)) None at.ran (run_stuck z c (p.0 ++ h.1.2.0) e)

-- a text of the grammar shares all of itself
all_shared : (s : List ℕ) (q : Pattern) → Means s q → Shares s (length s)
all_shared s q m = (omega arith, (q, m.0, ([], m.1 ∙ sym (append-nil s) ∙ ap (λ t. t ++ []) (sym (take_all (length s) s (omega arith))))))

-- a byte opens one bracket at most
deeper_by : (d : ℕ) (k : Class) → (nest_by d k).depth ≤ suc d
deeper_by d Bar = omega arith
deeper_by d Star = omega arith
deeper_by d Open = omega arith
deeper_by d Shut = let h : pred d ≤ suc d = omega arith in h
deeper_by d Dot = omega arith
deeper_by d Range = omega arith
deeper_by d Right = omega arith
deeper_by d Escape = omega arith
deeper_by d Plain = omega arith

deeper : (k d c : ℕ) → (nest_step k d c).depth ≤ suc d
deeper zero d c = deeper_by d (class_of c)
deeper (suc k) d c = omega arith

-- one byte further into the text
module _ (pre cs s : List ℕ) (c : ℕ) (z : State) (whole : pre ++ c ∷ cs ≡ s) (at : At pre z) (shallow : Shallow s (length pre)) where
  longer : (pre ++ c ∷ []) ++ cs ≡ s
  longer = append_assoc pre (c ∷ []) cs ∙ whole

  off_holds : feed z c ≡ None → Holds s (off (length pre))
  off_holds e = (
    λ q m. let h = stuck pre cs s c z whole at e (length s) (all_shared s q m) in omega (arith, long pre (c ∷ cs) s whole),
    (shares pre (c ∷ cs) s whole z at, stuck pre cs s c z whole at e),
    shallow,
  )

  module _ (w : State) (e : feed z c ≡ Some w) where
    there : At (pre ++ c ∷ []) w
    there = at_next pre z w c at e

    depth_next : open_after (take (length pre + 1) s) ≡ length w.outer
    depth_next = ap (λ n. open_after (take n s)) (sym (length_push pre c)) ∙ depth_there (pre ++ c ∷ []) cs s longer w there

    deep_holds : 32 < length w.outer → Holds s (deep (length pre))
    deep_holds lt =
        let before : length z.outer ≤ 32 = subst (λ n. n ≤ 32) (depth_there pre (c ∷ cs) s whole z at) (shallow (length pre) (omega arith)) in
        let one_more : length w.outer ≤ suc (length z.outer) = subst (λ n. n.depth ≤ suc (length z.outer)) (sym (next z w c e).1.nests) (deeper _ (length z.outer) c) in
        (subst (Shares s) (length_push pre c) (shares (pre ++ c ∷ []) cs s longer w there), shallow, omega (arith, depth_next))

    more_shallow : length w.outer ≤ 32 → Shallow s (length (pre ++ c ∷ []))
    more_shallow le k h =
        ⊎_elim (λ lt. shallow k (omega arith)) (λ ge. let same : k ≡ length pre + 1 = omega (arith, length_push pre c) in subst (λ n. open_after (take n s) ≤ 32) (sym same) (subst (λ n. n ≤ 32) (sym depth_next) le)) (order k (length pre + 1))

holds : (rest pre s : List ℕ) (z : State) → pre ++ rest ≡ s → At pre z → Shallow s (length pre) → Holds s (finish z (length pre) rest)
holds [] pre s z whole at h =
    let same = sym (append-nil pre) ∙ whole in
    subst (λ t. Holds t (ended z.outer z.alts z.mode (length pre))) same
    (ended_holds pre z.outer z.alts z.mode at (subst (λ t. Shallow t (length pre)) (sym same) h))
holds (c ∷ cs) pre s z whole at h = go (feed z c) refl (λ w. holds cs (pre ++ c ∷ []) s w (longer pre cs s c z whole at h))
  where
    test : (w : State) → feed z c ≡ Some w → (At (pre ++ c ∷ []) w → Shallow s (length (pre ++ c ∷ [])) → Holds s (finish w (length (pre ++ c ∷ [])) cs)) → (b : Bool) → leb (length w.outer) 32 ≡ b → Holds s (unless_deep b (length pre) (finish w (length pre + 1) cs))
    test w e f true t =
        subst (λ n. Holds s (finish w n cs)) (length_push pre c)
        (f (there pre cs s c z whole at h w e) (more_shallow pre cs s c z whole at h w e (true-leb _ 32 (sym t))))
    test w e f false t = deep_holds pre cs s c z whole at h w e (false-leb _ 32 (sym t))

    go : (o : Option State) → feed z c ≡ o → ((w : State) → At (pre ++ c ∷ []) w → Shallow s (length (pre ++ c ∷ [])) → Holds s (finish w (length (pre ++ c ∷ [])) cs)) → Holds s (gone_on o (length pre) (λ w. finish w (length pre + 1) cs))
    go None e f = off_holds pre cs s c z whole at h e
    go (Some w) e f = test w e (f w) (leb (length w.outer) 32) refl

pub finish_holds : (s : List ℕ) → Holds s (finish start 0 s)
finish_holds s = holds s [] s start refl at_start (λ k h. let none : k ≡ 0 = omega arith in subst (λ n. open_after (take n s) ≤ 32) (sym none) (lit≤ tt))
