-- The laws of `lines`. Assumes nothing.
use Rattle.std.proofs.Common.{◌≡◌, ℕ, suc, ◌+◌, ◌<◌, Bool, true, false, cond, eqb, List, [], ◌∷◌, ◌++◌, length, get_or, take, drop, Some, None, not, ltb, sym, refl, ap, ◌∙◌, subst, inl, inr, append_assoc, append-nil, arith, length-append, take-append-drop, true-eqb, false-eqb}
use Rattle.lines.specs.Laws.{Unbroken, closed, ended, Lawful, Cut}
use Rattle.lines.specs.Lines.{lines, onto}
use Rattle.std.proofs.lemmas.List.{drop_more}
use Rattle.std.proofs.lemmas.Bool.{ltb-false}
use Rattle.std.proofs.lemmas.List.{take_all}
use Rattle.std.proofs.lemmas.List.Quantifiers.{position-Some}
use Rattle.std.proofs.lemmas.Option.{none-some, same_Some}
use Rattle.std.specs.List.{flat_map, position, position_or_len, AllByRecursion}

-- a byte other than 10 belongs to the line that it stands before
other : (b : ℕ) (bs : List ℕ) → (b ≡ 10 → ⊥) → lines (b ∷ bs) ≡ onto b (lines bs)
other b bs h = by (eqb b 10) refl
  where
    by : (t : Bool) → eqb b 10 ≡ t → lines (b ∷ bs) ≡ onto b (lines bs)
    by true e = absurd (h (true-eqb b 10 (sym e)))
    by false e = rw e

lines_front : (l rest : List ℕ) → Unbroken l → lines (l ++ 10 ∷ rest) ≡ l ∷ lines rest
lines_front [] rest u = refl
lines_front (b ∷ l) rest u = other b (l ++ 10 ∷ rest) u.0 ∙ ap (onto b) (lines_front l rest u.1)

lines_last : (b : ℕ) (l : List ℕ) → Unbroken (b ∷ l) → lines (b ∷ l) ≡ (b ∷ l) ∷ []
lines_last b [] u = other b [] u.0
lines_last b (c ∷ l) u = other b (c ∷ l) u.0 ∙ ap (onto b) (lines_last c l u.1)

-- no line holds byte 10
unbroken_more : (b : ℕ) (ls : List (List ℕ)) (t : Bool) → t ≡ eqb b 10 → AllByRecursion Unbroken ls → AllByRecursion Unbroken (cond t ([] ∷ ls) (onto b ls))
unbroken_more b ls true e u = (tt, u)
unbroken_more b [] false e u = ((false-eqb b 10 e, tt), tt)
unbroken_more b (l ∷ ls) false e u = ((false-eqb b 10 e, u.0), u.1)

unbroken_lines : (file : List ℕ) → AllByRecursion Unbroken (lines file)
unbroken_lines [] = tt
unbroken_lines (b ∷ bs) = unbroken_more b (lines bs) (eqb b 10) refl (unbroken_lines bs)

-- the lines, each with its byte 10, are the file
abbrev SomeLine : List (List ℕ) → Type 0
SomeLine [] = ⊥
SomeLine (l ∷ ls) = Unit {0}

some_more : (b : ℕ) (ls : List (List ℕ)) (t : Bool) → SomeLine (cond t ([] ∷ ls) (onto b ls))
some_more b ls true = tt
some_more b [] false = tt
some_more b (l ∷ ls) false = tt

whole_more : (b : ℕ) (ls : List (List ℕ)) (t : Bool) → t ≡ eqb b 10 → SomeLine ls → flat_map closed (cond t ([] ∷ ls) (onto b ls)) ≡ b ∷ flat_map closed ls
whole_more b ls true e s = ap (λ x. x ∷ flat_map closed ls) (sym (true-eqb b 10 e))
whole_more b [] false e s = absurd s
whole_more b (l ∷ ls) false e s = refl

whole_one : (b : ℕ) (t : Bool) → t ≡ eqb b 10 → flat_map closed (cond t ([] ∷ []) ((b ∷ []) ∷ [])) ≡ cond t (b ∷ []) (b ∷ 10 ∷ [])
whole_one b true e = ap (λ x. x ∷ []) (sym (true-eqb b 10 e))
whole_one b false e = refl

whole_lines : (file : List ℕ) → flat_map closed (lines file) ≡ ended file
whole_lines [] = refl
whole_lines (b ∷ []) = whole_one b (eqb b 10) refl
whole_lines (b ∷ c ∷ bs) = whole_more b (lines (c ∷ bs)) (eqb b 10) refl (some_more c (lines bs) (eqb c 10)) ∙ ap (λ x. b ∷ x) (whole_lines (c ∷ bs))

-- a byte 10 more at the end changes no line
lines_ended_one : (b : ℕ) (t : Bool) → t ≡ eqb b 10 → lines (cond t (b ∷ []) (b ∷ 10 ∷ [])) ≡ lines (b ∷ [])
lines_ended_one b true e = refl
lines_ended_one b false e = rw (sym e)

lines_ended : (file : List ℕ) → lines (ended file) ≡ lines file
lines_ended [] = refl
lines_ended (b ∷ []) = lines_ended_one b (eqb b 10) refl
lines_ended (b ∷ c ∷ bs) = ap (λ ls. cond (eqb b 10) ([] ∷ ls) (onto b ls)) (lines_ended (c ∷ bs))

lines_joined : (ls : List (List ℕ)) → AllByRecursion Unbroken ls → lines (flat_map closed ls) ≡ ls
lines_joined [] u = refl
lines_joined (l ∷ ls) u = ap lines (append_assoc l (10 ∷ []) (flat_map closed ls)) ∙ lines_front l (flat_map closed ls) u.0 ∙ ap (λ x. l ∷ x) (lines_joined ls u.1)

pub lawful : (file : List ℕ) → Lawful file
lawful file = record {
  unbroken = unbroken_lines file;
  whole = whole_lines file;
  sole = λ ls u e. sym (lines_joined ls u) ∙ ap lines e ∙ lines_ended file;
}

-- the byte at i is the first 10
cut_at : (file line rest : List ℕ) (i : ℕ) → i < length file → get_or file i 0 ≡ 10 → Unbroken (take i file) → line ≡ take i file → rest ≡ drop (i + 1) file → Cut file line rest
cut_at file line rest i lt here u front back =
    let parted : file ≡ line ++ 10 ∷ rest = sym (take-append-drop i file) ∙ ap (λ x. take i file ++ x) (drop_more file i 0 lt) ∙ cc in
    let free : Unbroken line = subst Unbroken (sym front) u in
    record {
      cuts = ap lines parted ∙ lines_front line rest free;
      unbroken = free;
      split = inl parted;
      shorter = omega (arith, ap length parted, length-append line (10 ∷ rest));
    }

-- no byte is 10
cut_none : (file rest : List ℕ) → 0 < length file → Unbroken file → rest ≡ [] → Cut file file rest
cut_none [] rest lt u none = absurd (omega arith)
cut_none (b ∷ bs) rest lt u none = record {
  cuts = lines_last b bs u ∙ ap (λ x. (b ∷ bs) ∷ lines x) (sym none);
  unbroken = u;
  split = inr (sym (append-nil (b ∷ bs)) ∙ ap (λ x. (b ∷ bs) ++ x) (sym none), none);
  shorter = rw none (omega arith);
}

-- the first byte 10 ends the first line
abbrev is_end : ℕ → Bool
is_end b = eqb b 10

-- what stands before it holds no byte 10
unbroken_before : (file : List ℕ) → Unbroken (take (position_or_len is_end file) file)
unbroken_before [] = tt
unbroken_before (b ∷ bs) = by (eqb b 10) refl (unbroken_before bs)
  where
    by : (t : Bool) → t ≡ eqb b 10 → Unbroken (take (position_or_len is_end bs) bs) → Unbroken (take (cond (not t) (1 + position_or_len is_end bs) 0) (b ∷ bs))
    by true e u = tt
    by false e u = let one : suc (position_or_len is_end bs) ≡ 1 + position_or_len is_end bs = omega arith in subst (λ n. Unbroken (take n (b ∷ bs))) one (false-eqb b 10 e, u)

pub cut_at_end : (file rest : List ℕ) (i : ℕ) → position is_end file ≡ Some i → rest ≡ drop (i + 1) file → Cut file (take i file) rest
cut_at_end file rest i e r = cut_at file _ rest i here.0 (true-eqb _ 10 (sym here.1)) before refl r
  where
    here : (i < length file) × (eqb (get_or file i 0) 10 ≡ true)
    here = let all = position-Some is_end file i 0 e in (all.0, all.1)

    at : (t : Bool) → cond t (Some (position_or_len is_end file)) None ≡ Some i → position_or_len is_end file ≡ i
    at true p = same_Some _ _ p
    at false p = absurd (none-some i p)

    before : Unbroken (take i file)
    before = subst (λ n. Unbroken (take n file)) (at (ltb (position_or_len is_end file) (length file)) e) (unbroken_before file)

-- a file without byte 10 is one line
pub cut_without_end : (file : List ℕ) → position is_end file ≡ None → (length file ≡ 0 → ⊥) → Cut file file []
cut_without_end file e some = cut_none file [] (omega (arith, some)) (by (ltb (position_or_len is_end file) (length file)) refl e) refl
  where
    by : (t : Bool) → t ≡ ltb (position_or_len is_end file) (length file) → cond t (Some (position_or_len is_end file)) None ≡ None → Unbroken file
    by true p q = absurd (none-some _ (sym q))
    by false p q = subst Unbroken (take_all (position_or_len is_end file) file (ltb-false _ _ (sym p))) (unbroken_before file)
