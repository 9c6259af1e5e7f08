-- The lists that the judge finds nothing wrong with are those that write a tree out. Assumes nothing.
use Rattle.std.proofs.Common.{◌≡◌, ℕ, zero, suc, ◌+◌, ◌-◌, ◌<◌, ◌≤◌, Bool, true, false, cond, not, ◌&&◌, eqb, List, [], ◌∷◌, ◌++◌, length, Some, None, Option, sym, refl, ap, ◌∙◌, subst, ⊎_elim, append_assoc, append-nil, arith, length-append}
use Rattle.std.proofs.lemmas.List.{get_or_at, nil_from_length}
use Rattle.std.proofs.lemmas.Bool.{and_parts, eqb-true, eqb-false, leb-true, leb-false, not-true, not-false, not_from_true, not_from_false, lt-leb, ne_eqb, false≢true, eq-eqb, le-leb, cases_lt, cases_eq}
use Rattle.table.specs.declared.fault.Refusal.{Refusal}
use Rattle.table.specs.declared.node.Leaf.{Leaf}
use Rattle.table.specs.declared.node.Node.{Node}
use Rattle.table.specs.Faults.{table_refusal}
use Rattle.table.specs.Rules.{node_at, size_at, bare, formed, fed, due, left_end, wrong, first_wrong, or_else, verdict, Leaves, Writes}
use Rattle.table.specs.Tree.{Tree, empty, leaf, either, then, repeat, size, inner, leaf_node, leaf_of, postfix}
use Rattle.table.proofs.Postfix.{size_pos, length_postfix, root_size, root_at}

-- the size of a tree's last node in a longer list
size_there : (t : Tree) (before after : List Node) (i : ℕ) → i + 1 ≡ length before + size t → size_at (before ++ (postfix t ++ after)) i ≡ size t
size_there t before after i h = ap (λ n. n.size) (root_at t before after i h) ∙ root_size t

-- what the tests of a node say where nothing is wrong
all_right : (f g s l : Bool) → ◌≡◌ {A = ℕ} (cond f (cond g (cond s (cond l 8 0) 7) 6) 5) 0 → (f ≡ true) × (g ≡ true) × (s ≡ true) × (l ≡ false)
all_right true true true false h = (refl, refl, refl, refl)
all_right true true true true h = absurd (omega arith)
all_right true true false l h = absurd (omega arith)
all_right true false s l h = absurd (omega arith)
all_right false g s l h = absurd (omega arith)

bare_is : (n : Node) (k s : ℕ) → n.kind ≡ k → n.size ≡ s → bare n ≡ true → n ≡ inner k s
bare_is n k s hk hs b =
    let t = and_parts _ _ b in
    let l = and_parts _ _ t.1 in
    let h = and_parts _ _ l.1 in
    λ i. record {
      kind = hk i;
      tag = eqb-true n.tag 0 t.0 i;
      size = hs i;
      low = eqb-true n.low 0 l.0 i;
      high = eqb-true n.high 0 h.0 i;
      price = eqb-true n.price 0 h.1 i;
    }

leaf_is : (n : Node) → n.kind ≡ 1 → n.size ≡ 1 → n ≡ leaf_node (leaf_of n) n.price
leaf_is n hk hs = λ i. record { kind = hk i; tag = n.tag; size = hs i; low = n.low; high = n.high; price = n.price }

-- the nodes of the trees read so far, the latest tree first
abbrev laid : List Tree → List Node
laid [] = []
laid (t ∷ ts) = laid ts ++ postfix t

-- the sizes of the latest tree and of the one before it, as a node after them finds them
right_size : (b : Tree) (before after : List Node) → size_at ((before ++ postfix b) ++ after) (length (before ++ postfix b) - 1) ≡ size b
right_size b before after = rw append_assoc (size_there b before after _ (simp length-append (omega (arith, length_postfix b, size_pos b))))

left_size : (a b : Tree) (before after : List Node) → size_at (((before ++ postfix a) ++ postfix b) ++ after) (left_end (((before ++ postfix a) ++ postfix b) ++ after) (length ((before ++ postfix a) ++ postfix b))) ≡ size a
left_size a b before after =
    rw (right_size b (before ++ postfix a) after) (simp append_assoc (size_there a before (postfix b ++ after) _ (simp length-append (omega (arith, length_postfix a, length_postfix b, size_pos a)))))

module _ (admitted : Leaf → Bool) where
  abbrev Allowed : List Tree → Type 0
  Allowed [] = Unit {0}
  Allowed (t ∷ ts) = Leaves admitted t × Allowed ts

  -- trees that the nodes write out one after the other
  abbrev Read : List Node → Type 0
  Read ns = (ts : List Tree) × (laid ts ≡ ns) × Allowed ts

  joins : (f : Tree → Tree → Tree) (k : ℕ) → ((a b : Tree) → postfix (f a b) ≡ postfix a ++ (postfix b ++ inner k (size a + size b + 1) ∷ [])) → ((a b : Tree) → Leaves admitted a → Leaves admitted b → Leaves admitted (f a b)) → (ts : List Tree) (n : Node) (rest : List Node) → n.kind ≡ k → bare n ≡ true → fed (laid ts ++ n ∷ rest) (length (laid ts)) 2 ≡ true → n.size ≡ due (laid ts ++ n ∷ rest) (length (laid ts)) 2 → Allowed ts → Read (laid ts ++ n ∷ [])
  joins f k writes leaves [] n rest hk hb hf hs al = absurd (omega (arith, leb-false 0 _ (not-true _ hf)))
  joins f k writes leaves (b ∷ []) n rest hk hb hf hs al =
      absurd (omega (arith, leb-false _ _ (not-true _ hf), right_size b [] (n ∷ rest), length_postfix b))
  joins f k writes leaves (b ∷ a ∷ ts) n rest hk hb hf hs al =
      let e = bare_is n k _ hk (hs ∙ (λ i. left_size a b (laid ts) (n ∷ rest) i + right_size b (laid ts ++ postfix a) (n ∷ rest) i + 1)) hb in
      (f a b ∷ ts, rw (writes a b, e) (simp append_assoc), (leaves a b al.1.0 al.0, al.1.1))

  repeats : (ts : List Tree) (n : Node) (rest : List Node) → n.kind ≡ 4 → bare n ≡ true → fed (laid ts ++ n ∷ rest) (length (laid ts)) 4 ≡ true → n.size ≡ due (laid ts ++ n ∷ rest) (length (laid ts)) 4 → Allowed ts → Read (laid ts ++ n ∷ [])
  repeats [] n rest hk hb hf hs al = absurd (eqb-false 0 0 (not-true _ hf) refl)
  repeats (a ∷ ts) n rest hk hb hf hs al =
      let e = bare_is n 4 _ hk (hs ∙ ap (λ s. s + 1) (right_size a (laid ts) (n ∷ rest))) hb in
      (repeat a ∷ ts, rw e (simp append_assoc), al)

  -- one node more
  grows : (ts : List Tree) (n : Node) (rest : List Node) (k : ℕ) → n.kind ≡ k → formed k n ≡ true → fed (laid ts ++ n ∷ rest) (length (laid ts)) k ≡ true → n.size ≡ due (laid ts ++ n ∷ rest) (length (laid ts)) k → (eqb k 1 && not (admitted (leaf_of n))) ≡ false → Allowed ts → Read (laid ts ++ n ∷ [])
  grows ts n rest zero hk hb hf hs hl al = (empty ∷ ts, rw (bare_is n 0 1 hk hs hb), (tt, al))
  grows ts n rest (suc zero) hk hb hf hs hl al =
      (leaf (leaf_of n) n.price ∷ ts, ap (λ m. laid ts ++ m ∷ []) (sym (leaf_is n hk hs)), (not-false _ hl, al))
  grows ts n rest (suc (suc zero)) hk hb hf hs hl al = joins either 2 (λ a b. refl) (λ a b x y. (x, y)) ts n rest hk hb hf hs al
  grows ts n rest (suc (suc (suc zero))) hk hb hf hs hl al = joins then 3 (λ a b. refl) (λ a b x y. (x, y)) ts n rest hk hb hf hs al
  grows ts n rest (suc (suc (suc (suc zero)))) hk hb hf hs hl al = repeats ts n rest hk hb hf hs al
  grows ts n rest (suc (suc (suc (suc (suc k))))) hk hb hf hs hl al = absurd (false≢true hb)

  next_read : (ts : List Tree) (n : Node) (rest : List Node) → Allowed ts → wrong admitted (laid ts ++ n ∷ rest) (length (laid ts)) ≡ 0 → Read (laid ts ++ n ∷ [])
  next_read ts n rest al h =
      let here : node_at (laid ts ++ n ∷ rest) (length (laid ts)) ≡ n = get_or_at (laid ts) n rest _ _ refl in
      let r = all_right _ _ _ _ (rw here at h) in
      grows ts n rest n.kind refl r.0 r.1 (eqb-true _ _ r.2) r.3 al

  -- nothing is wrong with the nodes from one place up to another
  abbrev Right : List Node → ℕ → ℕ → Type 0
  Right ns from to = (k : ℕ) → from ≤ k → k < to → wrong admitted ns k ≡ 0

  reads : (ts : List Tree) (rest : List Node) → Allowed ts → Right (laid ts ++ rest) (length (laid ts)) (length (laid ts ++ rest)) → Read (laid ts ++ rest)
  reads ts [] al h = (ts, sym (append-nil _), al)
  reads ts (n ∷ rest) al h =
      let r = next_read ts n rest al (h (length (laid ts)) (omega arith) (simp length-append (omega arith))) in
      let e : laid r.0 ++ rest ≡ laid ts ++ n ∷ rest = ap (λ l. l ++ rest) r.1 ∙ append_assoc (laid ts) (n ∷ []) rest in
      let m : length (laid r.0) ≡ length (laid ts) + 1 = ap length r.1 ∙ length-append (laid ts) (n ∷ []) in
      subst Read e (reads r.0 rest r.2 (λ k lo hi. rw e (h k (omega arith) (rw e at hi))))

first_step : (w : ℕ → ℕ) (k i m : ℕ) → w i ≡ m → ◌≡◌ {A = Option Refusal} (elim m [ zero ↦ first_wrong w k (suc i) | suc n ↦ Some (table_refusal (suc n) i) ]) None → (first_wrong w k (suc i) ≡ None → (j : ℕ) → suc i ≤ j → j < suc i + k → w j ≡ 0) → (j : ℕ) → i ≤ j → j < i + suc k → w j ≡ 0
first_step w k i zero e h later j lo hi =
    ⊎_elim (λ same. rw (← same) e) (λ apart. later h j (omega arith) (omega arith)) (cases_eq i j)
first_step w k i (suc m) e h later j lo hi = let z : ◌≡◌ {A = ℕ} 0 1 = cc in absurd (omega arith)

first_none : (w : ℕ → ℕ) (k i : ℕ) → first_wrong w k i ≡ None → (j : ℕ) → i ≤ j → j < i + k → w j ≡ 0
first_none w zero i h j lo hi = absurd (omega arith)
first_none w (suc k) i h j lo hi = first_step w k i (w i) refl h (first_none w k (suc i)) j lo hi

none_first : (w : ℕ → ℕ) (k i : ℕ) → ((j : ℕ) → i ≤ j → j < i + k → w j ≡ 0) → first_wrong w k i ≡ None
none_first w zero i h = refl
none_first w (suc k) i h = rw (h i (omega arith) (omega arith), first_wrong) (none_first w k (suc i) (λ j lo hi. h j (omega arith) (omega arith)))

no_refusal : (o p q : Option Refusal) → or_else o (or_else p q) ≡ None → (o ≡ None) × (p ≡ None) × (q ≡ None)
no_refusal None None q h = (refl, refl, h)
no_refusal None (Some r) q h = let z : ◌≡◌ {A = ℕ} 0 1 = cc in absurd (omega arith)
no_refusal (Some r) p q h = let z : ◌≡◌ {A = ℕ} 0 1 = cc in absurd (omega arith)

passed : (b : Bool) (r : Refusal) → cond b None (Some r) ≡ None → b ≡ true
passed true r h = refl
passed false r h = let z : ◌≡◌ {A = ℕ} 0 1 = cc in absurd (omega arith)

-- trees read one after the other are one tree where the last size is the length
one_tree : (admitted : Leaf → Bool) (ts : List Tree) (ns : List Node) → laid ts ≡ ns → Allowed admitted ts → 1 ≤ length ns → length ns ≤ 512 → size_at ns (length ns - 1) ≡ length ns → Writes admitted ns
one_tree admitted [] ns e al some few last = absurd (omega (arith, ap length e))
one_tree admitted (t ∷ ts) ns e al some few last =
    let long : length ns ≡ length (laid ts) + length (postfix t) = ap length (sym e) ∙ length-append (laid ts) (postfix t) in
    let top : size_at ns (length ns - 1) ≡ size t = rw (append-nil, e) at (right_size t (laid ts) []) in
    let none = nil_from_length (laid ts) (omega (arith, length_postfix t)) in
    (t, rw none at e, few, al.0)

-- what the judge finds of the nodes, from the first on
right_from_none : (admitted : Leaf → Bool) (ns : List Node) → first_wrong (wrong admitted ns) (length ns) 0 ≡ None → Right admitted ns 0 (length ns)
right_from_none admitted ns h k lo hi = first_none _ (length ns) 0 h k lo (omega arith)

pub none_writes : (admitted : Leaf → Bool) (ns : List Node) → verdict admitted ns ≡ None → Writes admitted ns
none_writes admitted ns h =
    let r = no_refusal _ _ _ h in
    let count = and_parts _ _ (passed _ _ r.0) in
    let read = reads admitted [] ns tt (right_from_none admitted ns r.1) in
    one_tree admitted read.0 ns read.1 read.2 (leb-true _ _ count.0) (leb-true _ _ count.1) (eqb-true _ _ (passed _ _ r.2))

-- two trees before a node are its operands
two_fed : (a b : Tree) (before after : List Node) → fed (((before ++ postfix a) ++ postfix b) ++ after) (length ((before ++ postfix a) ++ postfix b)) 2 ≡ true
two_fed a b before after =
    rw (right_size b (before ++ postfix a) after) (not_from_false _ (lt-leb _ (size b) (simp length-append (omega (arith, length_postfix a, length_postfix b, size_pos a)))))

two_due : (a b : Tree) (before after : List Node) → size a + size b + 1 ≡ due (((before ++ postfix a) ++ postfix b) ++ after) (length ((before ++ postfix a) ++ postfix b)) 2
two_due a b before after = λ i. sym (left_size a b before after) i + sym (right_size b (before ++ postfix a) after) i + 1

one_fed : (a : Tree) (before after : List Node) → fed ((before ++ postfix a) ++ after) (length (before ++ postfix a)) 4 ≡ true
one_fed a before after = not_from_false _ (ne_eqb _ 0 (λ none. omega (arith, length-append before (postfix a), length_postfix a, size_pos a)))

one_due : (a : Tree) (before after : List Node) → size a + 1 ≡ due ((before ++ postfix a) ++ after) (length (before ++ postfix a)) 4
one_due a before after = ap (λ s. s + 1) (sym (right_size a before after))

module _ (admitted : Leaf → Bool) where
  node_right : (n : Node) (before after : List Node) → formed n.kind n ≡ true → fed (before ++ n ∷ after) (length before) n.kind ≡ true → n.size ≡ due (before ++ n ∷ after) (length before) n.kind → (eqb n.kind 1 && not (admitted (leaf_of n))) ≡ false → wrong admitted (before ++ n ∷ after) (length before) ≡ 0
  node_right n before after f g s l =
      let here : node_at (before ++ n ∷ after) (length before) ≡ n = get_or_at before n after _ _ refl in
      rw (here, f, g, eq-eqb _ _ s, l)

  -- a node that is right, after nodes that are
  ended : (n : Node) (front after whole : List Node) (from : ℕ) → front ++ n ∷ [] ≡ whole → Right admitted (front ++ n ∷ after) from (length front) → wrong admitted (front ++ n ∷ after) (length front) ≡ 0 → Right admitted (whole ++ after) from (length whole)
  ended n front after whole from e before last k lo hi =
      let long : length whole ≡ length front + 1 = ap length (sym e) ∙ length-append front (n ∷ []) in
      let all : whole ++ after ≡ front ++ n ∷ after = ap (λ l. l ++ after) (sym e) ∙ append_assoc front (n ∷ []) after in
      rw all (⊎_elim (λ h. before k lo h) (λ h. let same : k ≡ length front = omega arith in rw same last) (cases_lt k (length front)))

  both_right : (a b : Tree) (before after : List Node) → Right admitted ((before ++ postfix a) ++ (postfix b ++ after)) (length before) (length (before ++ postfix a)) → Right admitted (((before ++ postfix a) ++ postfix b) ++ after) (length (before ++ postfix a)) (length ((before ++ postfix a) ++ postfix b)) → Right admitted (((before ++ postfix a) ++ postfix b) ++ after) (length before) (length ((before ++ postfix a) ++ postfix b))
  both_right a b before after left right k lo hi =
      ⊎_elim (λ h. rw (append_assoc (before ++ postfix a) (postfix b) after) (left k lo h)) (λ h. right k h hi) (cases_lt k (length (before ++ postfix a)))

  -- nothing is wrong with the nodes of a tree in a longer list
  tree_right : (t : Tree) (before after : List Node) → Leaves admitted t → Right admitted ((before ++ postfix t) ++ after) (length before) (length (before ++ postfix t))
  tree_right empty before after al =
      ended (inner 0 1) before after _ _ refl (λ k lo hi. absurd (omega arith)) (node_right (inner 0 1) before after refl refl refl refl)
  tree_right (leaf l p) before after al =
      ended (leaf_node l p) before after _ _ refl (λ k lo hi. absurd (omega arith)) (node_right (leaf_node l p) before after refl refl refl (not_from_true _ al))
  tree_right (either a b) before after al =
      let n : Node = inner 2 (size a + size b + 1) in
      ended n ((before ++ postfix a) ++ postfix b) after _ _ (simp append_assoc)
      (both_right a b before (n ∷ after) (tree_right a before (postfix b ++ n ∷ after) al.0) (tree_right b (before ++ postfix a) (n ∷ after) al.1))
      (node_right n _ after refl (two_fed a b before (n ∷ after)) (two_due a b before (n ∷ after)) refl)
  tree_right (then a b) before after al =
      let n : Node = inner 3 (size a + size b + 1) in
      ended n ((before ++ postfix a) ++ postfix b) after _ _ (simp append_assoc)
      (both_right a b before (n ∷ after) (tree_right a before (postfix b ++ n ∷ after) al.0) (tree_right b (before ++ postfix a) (n ∷ after) al.1))
      (node_right n _ after refl (two_fed a b before (n ∷ after)) (two_due a b before (n ∷ after)) refl)
  tree_right (repeat a) before after al =
      let n : Node = inner 4 (size a + 1) in
      ended n (before ++ postfix a) after _ _ (append_assoc before (postfix a) (n ∷ [])) (tree_right a before (n ∷ after) al)
      (node_right n _ after refl (one_fed a before (n ∷ after)) (one_due a before (n ∷ after)) refl)

  postfix_none : (t : Tree) → Leaves admitted t → length (postfix t) ≤ 512 → verdict admitted (postfix t) ≡ None
  postfix_none t al few =
      let right : Right admitted (postfix t) 0 (length (postfix t)) = rw append-nil at (tree_right t [] [] al) in
      let none = none_first (wrong admitted (postfix t)) (length (postfix t)) 0 (λ j lo hi. right j lo (omega arith)) in
      let last : size_at (postfix t) (length (postfix t) - 1) ≡ length (postfix t) = rw append-nil at (right_size t [] []) ∙ sym (length_postfix t) in
      rw (le-leb 1 (length (postfix t)) (omega (arith, length_postfix t, size_pos t)), le-leb (length (postfix t)) 512 few, none, eq-eqb _ _ last)

pub writes_none : (admitted : Leaf → Bool) (ns : List Node) → Writes admitted ns → verdict admitted ns ≡ None
writes_none admitted ns w = rw (← w.1) (postfix_none admitted w.0 w.3 (rw (← w.1) at w.2))
