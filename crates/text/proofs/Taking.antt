-- Bytes taken one after the other, and the places that a reader comes to. Assumes nothing.
use Rattle.std.proofs.Common.{ℕ, ◌+◌, ◌≤◌, length, set, sym, ap, ◌∙◌, subst, arith}
use Rattle.table.specs.declared.node.Node.{Node}
use Rattle.text.specs.declared.reader.Reader.{Reader}
use Rattle.text.specs.Progress.{Took, Added}
use Rattle.text.specs.Steps.{There}

module _ (j : ℕ) (was now : Reader) (t : Took j was now) where
  -- what comes here comes so many bytes after the place before
  pub comes : (b : ℕ) → There now.text.now now.at b → There was.text.now (was.at + j) b
  comes b h = subst (λ i. There was.text.now i b) t.at (subst (λ s. There s now.at b) t.text h)

  pub comes_not : (b : ℕ) → (There now.text.now now.at b → ⊥) → There was.text.now (was.at + j) b → ⊥
  comes_not b n h = n (subst (λ s. There s now.at b) (sym t.text) (subst (λ i. There was.text.now i b) (sym t.at) h))

  pub past_end : length now.text.now ≤ now.at → length was.text.now ≤ was.at + j
  past_end h = omega (arith, t.at, ap length t.text)

module _ (j k : ℕ) (was mid now : Reader) (t : Took j was mid) where
  pub took_more : Took k mid now → Took (j + k) was now
  took_more u = record {
    text = u.text ∙ t.text;
    list = u.list ∙ t.list;
    nodes = u.nodes ∙ t.nodes;
    at = omega (arith, t.at, u.at);
    count = u.count ∙ t.count;
    depth = u.depth ∙ t.depth;
  }

  pub added_more : (x : Node) → Added k x mid now → Added (j + k) x was now
  added_more x u = record {
    text = u.text ∙ t.text;
    list = u.list ∙ t.list;
    nodes = u.nodes ∙ (λ i. set (t.nodes i) (t.count i) x);
    at = omega (arith, t.at, u.at);
    count = u.count ∙ ap (λ n. n + 1) t.count;
    depth = u.depth ∙ t.depth;
  }
