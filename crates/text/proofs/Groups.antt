-- How the text goes on at an opening bracket. Assumes nothing.
use Rattle.std.proofs.Common.{◌≡◌, ℕ, ◌+◌, ◌<◌, ◌≤◌, List, ◌∷◌, length, None, Option, Result, MatchResult, sym, refl, ap, ◌∙◌, subst, ⊎_elim, arith}
use Rattle.std.proofs.lemmas.Result.{MatchResult-weaker}
use Rattle.std.proofs.str.Laws.{order}
use Rattle.table.specs.Tree.{postfix}
use Rattle.text.specs.declared.reader.Reader.{Reader}
use Rattle.text.specs.declared.reader.Stop.{Stop}
use Rattle.text.specs.declared.reader.Stop.TheVariants.{Off}
use Rattle.text.specs.Grammar.{unit, group, once, Branch, Pattern, tree}
use Rattle.text.specs.Scan.{Level, must, opened, done, state, level, appended, joined, deep}
use Rattle.text.specs.Steps.{outcome, stopped, There, laid}
use Rattle.text.specs.Progress.{Took, Inside, AtomRead, PatternRead, AtomStops}
use Rattle.text.proofs.Outcomes.{on, too_deep, at_end, begins_group}

module _ (s : List ℕ) (i : ℕ) (h : There s i 40) (o : List Level) (a : Option Pattern) (p : Option Branch) where
  pub deep_group : 32 ≤ length o → outcome (state o a (must p)) s i ≡ deep i
  deep_group few = too_deep s (state o a (must p)) (state (level a p ∷ o) None opened) i 40 h refl (omega arith)

  module _ (few : length o < 32) where
    inside : outcome (state o a (must p)) s i ≡ outcome (state (level a p ∷ o) None opened) s (i + 1)
    inside = on s (state o a (must p)) (state (level a p ∷ o) None opened) i (i + 1) 40 refl h refl (omega arith)

    pub unit_goes : There s (i + 1) 41 → outcome (state o a (must p)) s i ≡ outcome (state o a (done (appended p (once unit)))) s (i + 2)
    unit_goes t = inside ∙ on s (state (level a p ∷ o) None opened) (state o a (done (appended p (once unit)))) (i + 1) (i + 2) 41 (omega arith) t refl (omega arith)

    pattern_follows : (There s (i + 1) 41 → ⊥) → outcome (state o a (must p)) s i ≡ outcome (state (level a p ∷ o) None (must None)) s (i + 1)
    pattern_follows shut = inside ∙ begins_group s (level a p ∷ o) None (i + 1) shut

-- a bracket that is not closed at once, and the pattern in it
module _ (was mid : Reader) (few : was.depth < 32) (h : There was.text.now was.at 40) (shut : There was.text.now (was.at + 1) 41 → ⊥) (t : Took 1 was mid) where
  follows : (o : List Level) (a : Option Pattern) (p : Option Branch) → length o ≡ was.depth → outcome (state o a (must p)) was.text.now was.at ≡ outcome (state (level a p ∷ o) None (must None)) was.text.now mid.at
  follows o a p k = pattern_follows was.text.now was.at h o a p (omega arith) shut ∙ ap (outcome (state (level a p ∷ o) None (must None)) was.text.now) (sym t.at)

  pub group_stops : (e : Stop) → ((o : List Level) → length o ≡ mid.depth + 1 → outcome (state o None (must None)) mid.text.now mid.at ≡ stopped e) → AtomStops was e
  group_stops e n o a p k =
      follows o a p k
      ∙ subst (λ s. outcome (state (level a p ∷ o) None (must None)) s mid.at ≡ stopped e) t.text (n (level a p ∷ o) (omega (arith, t.depth)))

  -- up to its closing bracket, or to the end of the text
  module _ (inner end outer now : Reader) (i : Inside mid inner) (r : PatternRead inner end) (u : Inside outer end) where
    text_there : inner.text.now ≡ was.text.now
    text_there = i.text ∙ t.text

    text_after : outer.text.now ≡ was.text.now
    text_after = sym u.text ∙ r.made.text ∙ text_there

    goes_to : (o : List Level) (a : Option Pattern) (p : Option Branch) → length o ≡ was.depth → outcome (state o a (must p)) was.text.now was.at ≡ outcome (state (level a p ∷ o) r.alts (done r.branch)) was.text.now outer.at
    goes_to o a p k =
        follows o a p k ∙ ap (outcome (state (level a p ∷ o) None (must None)) was.text.now) (sym i.at)
        ∙ subst (λ s. outcome (state (level a p ∷ o) None (must None)) s inner.at ≡ outcome (state (level a p ∷ o) r.alts (done r.branch)) s end.at) text_there (r.goes (level a p ∷ o) (omega (arith, i.depth, t.depth)))
        ∙ ap (outcome (state (level a p ∷ o) r.alts (done r.branch)) was.text.now) u.at

    ends : outer.at < length was.text.now → There was.text.now outer.at 41
    ends = subst (λ n. n < length was.text.now → There was.text.now n 41) u.at (subst (λ s. end.at < length s → There s end.at 41) text_there r.ends)

    cut : (e : Stop) → (e ≡ Off outer.at) × (There outer.text.now outer.at 41 → ⊥) → AtomStops was e
    cut e n o a p k =
        let absent = subst (λ s. There s outer.at 41 → ⊥) text_after n.1 in
        goes_to o a p k
        ∙ at_end was.text.now (state (level a p ∷ o) r.alts (done r.branch)) outer.at (⊎_elim (λ lt. absurd (absent (ends lt))) (λ le. le) (order outer.at (length was.text.now)))
        ∙ sym (ap stopped n.0)

    closed : There outer.text.now outer.at 41 × Took 1 outer now → AtomRead was now
    closed b = record {
      atom = group (joined r.alts r.branch);
      goes = λ o a p k.
          goes_to o a p k
          ∙ on was.text.now (state (level a p ∷ o) r.alts (done r.branch)) (state o a (done (appended p (once (group (joined r.alts r.branch)))))) outer.at now.at 41 (sym b.1.at) (subst (λ s. There s outer.at 41) text_after b.0) refl (omega arith);
      made = record {
        text = b.1.text ∙ text_after;
        list = b.1.list ∙ sym u.list ∙ r.made.list ∙ i.list ∙ t.list;
        nodes = b.1.nodes ∙ sym u.nodes ∙ r.made.nodes ∙ (λ x. laid (i.nodes x) (i.count x) (postfix (tree (joined r.alts r.branch)))) ∙ (λ x. laid (t.nodes x) (t.count x) (postfix (tree (joined r.alts r.branch))));
        count = omega (arith, r.made.count, t.count, i.count, u.count, b.1.count);
        depth = omega (arith, r.made.depth, t.depth, i.depth, u.depth, b.1.depth);
        forward = omega (arith, r.made.forward, t.at, i.at, u.at, b.1.at);
        few = omega (arith, r.made.few, t.at, t.count, i.at, i.count, u.at, u.count, b.1.at, b.1.count);
      };
    }

    pub group_read : (x : Result (Unit {0}) Stop) → MatchResult x (λ _. There outer.text.now outer.at 41 × Took 1 outer now) (λ e. (e ≡ Off outer.at) × (There outer.text.now outer.at 41 → ⊥)) → MatchResult x (λ _. AtomRead was now) (AtomStops was)
    group_read x m = MatchResult-weaker x m (λ _ b. closed b) cut
