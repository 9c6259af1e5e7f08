-- No text means two patterns, and only one answer fits a text. Assumes nothing.
use Rattle.std.proofs.Common.{◌≡◌, ℕ, ◌+◌, ◌≤◌, Bool, true, false, leb, List, length, take, Some, None, Ok, Err, Option, Result, sym, ap, ◌∙◌, ⊎_elim, arith, le-leb}
use borrow.Author.Tests.{lt-leb}
use Rattle.std.proofs.str.Laws.{order}
use Rattle.table.specs.Tree.{size}
use Rattle.text.specs.declared.fault.TextFault.{TextFault}
use Rattle.text.specs.declared.fault.TextFault.TheVariants.{TooLong, OffGrammar, TooDeep, NodeCount, ShortList}
use Rattle.text.specs.Depth.{open_after}
use Rattle.text.specs.Grammar.{unit, once, Branch, one, Pattern, only, tree}
use Rattle.text.specs.Reads.{Means, Shares, Longest, Shallow, Fits, Answers}
use Rattle.text.specs.Scan.{Mode, must, opened, done, escape, low, dash, high, close, State, start, joined, Verdict, good, off, deep, finish}
use Rattle.text.proofs.Complete.{text_run, joined_parts}
use Rattle.text.proofs.Run.{run}
use Rattle.text.proofs.Verdicts.{Holds, finish_holds}

-- the pattern that a state at the end of a text holds
abbrev branch_of : Mode → Branch
branch_of (must s) = one (once unit)
branch_of opened = one (once unit)
branch_of (done b) = b
branch_of (escape s) = one (once unit)
branch_of (low s) = one (once unit)
branch_of (dash s l) = one (once unit)
branch_of (high s l) = one (once unit)
branch_of (close s l h) = one (once unit)

abbrev pattern_of : Option State → Pattern
pattern_of None = only (one (once unit))
pattern_of (Some z) = joined z.alts (branch_of z.mode)

pub unambiguous : (s : List ℕ) (p q : Pattern) → Means s p → Means s q → p ≡ q
unambiguous s p q m n =
    sym (joined_parts p) ∙ ap pattern_of (sym (text_run p m.0) ∙ ap (run start) (m.1 ∙ sym n.1) ∙ text_run q n.0) ∙ joined_parts q

-- a bracket 33 deep among bytes that open none
clash : (s : List ℕ) (p k : ℕ) → Shallow s p → k ≤ p → open_after (take k s) ≡ 33 → ⊥
clash s p k h le e = let n = h k le in omega arith

module _ (s : List ℕ) where
  -- the verdict is the text's own
  fits_good : (q : Pattern) (v : Verdict) → Holds s v → Means s q → Shallow s (length s) → v ≡ good q
  fits_good q (good p) h m d = ap good (unambiguous s p q h.0 m)
  fits_good q (off p) h m d = absurd (h.0 q m)
  fits_good q (deep p) h m d = absurd (clash s (length s) (p + 1) d h.0.0 h.2)

  off_off : (p : ℕ) (v : Verdict) → Holds s v → ((q : Pattern) → Means s q → ⊥) → Longest s p → Shallow s p → v ≡ off p
  off_off p (good q) h n l d = absurd (n q h.0)
  off_off p (off k) h n l d = ap off (let a = l.1 k h.1.0 in let b = h.1.1 p l.0 in omega arith)
  off_off p (deep k) h n l d = absurd (clash s p (k + 1) d (l.1 (k + 1) h.0) h.2)

  deep_deep : (p : ℕ) (v : Verdict) → Holds s v → Shares s (p + 1) → Shallow s p → open_after (take (p + 1) s) ≡ 33 → v ≡ deep p
  deep_deep p (good q) h n d e = absurd (clash s (length s) (p + 1) h.1 n.0 e)
  deep_deep p (off k) h n d e = absurd (clash s k (p + 1) h.2 (h.1.1 (p + 1) n) e)
  deep_deep p (deep k) h n d e =
      ap deep (⊎_elim
      (λ lt. absurd (clash s p (k + 1) d (omega arith) h.2))
      (λ ge. ⊎_elim (λ lt. absurd (clash s k (p + 1) h.1 (omega arith) e)) (λ le. omega arith) (order p k)) (order k p))

-- the answer that the length, the room and the verdict lead to
abbrev sized : Bool → Bool → ℕ → Result ℕ TextFault
sized false r n = Err (NodeCount n)
sized true false n = Err (ShortList n)
sized true true n = Ok n

abbrev from_verdict : ℕ → Verdict → Result ℕ TextFault
from_verdict room (good q) = sized (leb (size (tree q)) 512) (leb (size (tree q)) room) (size (tree q))
from_verdict room (off p) = Err (OffGrammar p)
from_verdict room (deep p) = Err (TooDeep p)

abbrev short_enough : Bool → Result ℕ TextFault → Result ℕ TextFault
short_enough true r = r
short_enough false r = Err TooLong

module _ (s : List ℕ) (room : ℕ) where
  canonical : Result ℕ TextFault
  canonical = short_enough (leb (length s) 4096) (from_verdict room (finish start 0 s))

  within : (v : Verdict) → length s ≤ 4096 → finish start 0 s ≡ v → canonical ≡ from_verdict room v
  unfolding canonical
  within v le e = ap (λ b. short_enough b (from_verdict room (finish start 0 s))) (le-leb (length s) 4096 le) ∙ ap (from_verdict room) e

  fitting : (q : Pattern) (n : ℕ) → Fits s q → n ≡ size (tree q) → canonical ≡ sized (leb n 512) (leb n room) n
  fitting q n f e = within (good q) f.0 (fits_good s q _ (finish_holds s) f.1 f.2) ∙ ap (λ k. sized (leb k 512) (leb k room) k) (sym e)

  to_canonical : (r : Result ℕ TextFault) → Answers s room r → canonical ≡ r
  unfolding canonical
  to_canonical (Ok n) h = fitting h.0 n h.1 h.2 ∙ (λ i. sized (le-leb n 512 h.3 i) (le-leb n room h.4 i) n)
  to_canonical (Err TooLong) h = ap (λ b. short_enough b (from_verdict room (finish start 0 s))) (lt-leb (length s) 4096 h)
  to_canonical (Err (OffGrammar p)) h = within (off p) h.0 (off_off s p _ (finish_holds s) h.1 h.2 h.3)
  to_canonical (Err (TooDeep p)) h = within (deep p) h.0 (deep_deep s p _ (finish_holds s) h.1 h.2 h.3)
  to_canonical (Err (NodeCount n)) h = fitting h.0 n h.1 h.2 ∙ ap (λ b. sized b (leb n room) n) (lt-leb n 512 h.3)
  to_canonical (Err (ShortList n)) h = fitting h.0 n h.1 h.2 ∙ (λ i. sized (le-leb n 512 h.3 i) (lt-leb n room h.4 i) n)

  pub one_answer : (a b : Result ℕ TextFault) → Answers s room a → Answers s room b → a ≡ b
  one_answer a b h k = sym (to_canonical a h) ∙ to_canonical b k
