-- What reading the whole text answers, and what it leaves. Assumes nothing.
use Rattle.std.proofs.Common.{◌≡◌, ℕ, ◌<◌, ◌≤◌, List, [], ◌++◌, length, take, drop, None, Ok, Err, IfOk, Result, sym, refl, ap, ◌∙◌, subst, arith, le-leb}
use Rattle.std.proofs.lemmas.List.{take_at}
use Rattle.table.specs.declared.node.Node.{Node}
use Rattle.table.specs.Kinds.{byte_admitted}
use Rattle.table.specs.Rules.{verdict, Leaves}
use Rattle.table.specs.Tree.{size, postfix}
use Rattle.table.proofs.Judged.{writes_none}
use Rattle.table.proofs.Postfix.{length_postfix}
use Rattle.text.specs.declared.fault.TextFault.{TextFault}
use Rattle.text.specs.Grammar.{Atom, unit, group, any, range, quoted, plain, Piece, once, star, Branch, one, more, Pattern, only, or, AtomLawful, PieceLawful, BranchLawful, Lawful, atom_tree, piece_tree, branch_tree, tree}
use Rattle.text.specs.Reads as reads
use Rattle.text.specs.Reads.{Means, Fits, Answers}
use Rattle.text.specs.Scan.{state, start, done, joined, Verdict, good, off, deep}
use Rattle.text.specs.Steps.{outcome, stopped, fault_of, laid, WholeRead}
use Rattle.text.specs.Progress.{PatternRead}
use Rattle.text.specs.declared.reader.Reader.{Reader}
use Rattle.text.specs.declared.reader.Stop.{Stop}
use Rattle.text.specs.declared.reader.Stop.TheVariants.{Off, Deep}
use Rattle.text.proofs.Laying.{laid_all}
use Rattle.text.proofs.Outcomes.{stops, at_end}
use Rattle.text.proofs.Unique.{unambiguous}
use Rattle.text.proofs.Verdicts.{Holds, finish_holds}

-- what the outcome says of the text
pub told : (s : List ℕ) (v : Verdict) → outcome start s 0 ≡ v → Holds s v
unfolding outcome
told s v e = subst (Holds s) e (finish_holds s)

pub stop_answers : (s : List ℕ) (room : ℕ) (e : Stop) (f : TextFault) → length s ≤ 4096 → outcome start s 0 ≡ stopped e → f ≡ fault_of e → Answers s room (Err f)
stop_answers s room e f le h same = subst (λ x. Answers s room (Err x)) (sym same) (at e h)
  where
    at : (e : Stop) → outcome start s 0 ≡ stopped e → Answers s room (Err (fault_of e))
    at (Off p) h = let t = told s (off p) h in (le, t.0, t.1, t.2)
    at (Deep p) h = let t = told s (deep p) h in (le, t.0, t.1, t.2)

module _ (was now : Reader) (first : was.at ≡ 0) (none : was.count ≡ 0) (open_none : was.depth ≡ 0) (r : PatternRead was now) where
  goes_all : outcome start was.text.now 0 ≡ outcome (state [] r.alts (done r.branch)) was.text.now now.at
  goes_all = ap (outcome start was.text.now) (sym first) ∙ r.goes [] (sym open_none)

  pub cut_short : now.at < length was.text.now → outcome start was.text.now 0 ≡ off now.at
  cut_short lt = goes_all ∙ stops was.text.now (state [] r.alts (done r.branch)) now.at 41 (r.ends lt) refl

  pub whole_read : length was.text.now ≤ now.at → (after : List Node) → after ≡ now.nodes.now → WholeRead was.text.now was.nodes.now after now.count
  whole_read le after left = (
    joined r.alts r.branch,
    goes_all ∙ at_end was.text.now (state [] r.alts (done r.branch)) now.at le,
    omega (arith, r.made.count),
    left ∙ r.made.nodes ∙ ap (λ n. laid was.nodes.now n (postfix (tree (joined r.alts r.branch)))) none,
  )

module _ (s : List ℕ) (before after : List Node) (n : ℕ) (short : length s ≤ 4096) (w : WholeRead s before after n) where
  pub fits : Fits s w.0
  fits = let h = told s (good w.0) w.1 in (short, h.0, h.1)

  pub left : n ≤ length before → reads.Leaves s before (Ok n) after
  left room q m =
      let same : q ≡ w.0 = unambiguous s q w.0 m fits.1 in
      let long : length (postfix (tree q)) ≡ n = length_postfix (tree q) ∙ ap (λ p. size (tree p)) same ∙ sym w.2 in
      w.3 ∙ ap (λ p. laid before 0 (postfix (tree p))) (sym same) ∙ laid_all before (postfix (tree q)) (omega arith) ∙ ap (λ k. postfix (tree q) ++ drop k before) long

-- the leaves of a text of the grammar are lawful for bytes
mutual
  atom_leaves : (x : Atom) → AtomLawful x → Leaves byte_admitted (atom_tree x)
  atom_leaves unit h = tt
  atom_leaves (group p) h = leaves p h
  atom_leaves any h = refl
  atom_leaves (range l u) h = rw (le-leb l u h.0, le-leb u 255 h.1)
  atom_leaves (quoted b) h = rw (le-leb b b (omega arith), le-leb b 255 h)
  atom_leaves (plain b) h = rw (le-leb b b (omega arith), le-leb b 255 h.1)

  piece_leaves : (p : Piece) → PieceLawful p → Leaves byte_admitted (piece_tree p)
  piece_leaves (once x) h = atom_leaves x h
  piece_leaves (star p) h = piece_leaves p h

  branch_leaves : (b : Branch) → BranchLawful b → Leaves byte_admitted (branch_tree b)
  branch_leaves (one p) h = piece_leaves p h
  branch_leaves (more b p) h = (branch_leaves b h.0, piece_leaves p h.1)

  leaves : (p : Pattern) → Lawful p → Leaves byte_admitted (tree p)
  leaves (only b) h = branch_leaves b h
  leaves (or p b) h = (leaves p h.0, branch_leaves b h.1)

-- the judge never refuses what a reading accepted
pub judged : (s : List ℕ) (before after : List Node) (r : Result ℕ TextFault) → Answers s (length before) r → IfOk r (λ n. reads.Leaves s before (Ok n) after) → IfOk r (λ n. verdict byte_admitted (take n after) ≡ None)
judged s before after (Ok n) a l =
    let q = a.0 in
    let long : length (postfix (tree q)) ≡ n = length_postfix (tree q) ∙ sym a.2 in
    let front : take n after ≡ postfix (tree q) = ap (take n) (l q a.1.1) ∙ take_at (postfix (tree q)) (drop n before) n long in
    writes_none byte_admitted (take n after) (tree q, sym front, omega (arith, ap length front, a.3), leaves q a.1.1.0)
judged s before after (Err f) a l = tt
