-- A succession of turns, one after another. Assumes nothing.
use Rattle.std.proofs.Common.{◌≡◌, ℕ, Bool, List, [], ◌∷◌, ◌++◌, drop, refl, ◌∙◌, subst}
use Rattle.scale.specs.Semiring.{Ops}
use Rattle.table.specs.declared.node.Leaf.{Leaf}
use Rattle.table.specs.declared.table.Table.{Table}
use Rattle.table.specs.Content.{tree}
use Rattle.session.specs.declared.session.Session.{Session}
use Rattle.session.specs.declared.turn.Turn.{Turn}
use Rattle.session.specs.Runs.{Right, AllRight, held_next, held_after}
use Rattle.session.specs.Sessions.{Kept}
use Rattle.session.specs.Words.{needed}

pub held_more : {W S : Type 0} (w : List S) (us : List (Turn W S)) (u : Turn W S) → held_after w (us ++ u ∷ []) ≡ held_next (held_after w us) u.ask u.reply
held_more w [] u = refl
held_more w (v ∷ us) u = held_more (held_next w v.ask v.reply) us u

module _ {W S : Type 0} (o : Ops W) (passing : Leaf → S → Bool) (number : ℕ) (allowed : S → Bool) (table : Table) where
  pub right_more : (w : List S) (us : List (Turn W S)) (u : Turn W S) → AllRight o passing number allowed table w us → Right o passing number allowed table (held_after w us) u.ask u.reply → AllRight o passing number allowed table w (us ++ u ∷ [])
  right_more w [] u a r = (r, tt)
  right_more w (v ∷ us) u a r = (a.0, right_more (held_next w v.ask v.reply) us u a.1 r)

pub kept_trans : {W S : Type 0} (a b c : Session W S) → Kept a b → Kept b c → Kept a c
kept_trans a b c x y = record {
  table = y.table ∙ x.table;
  lender = y.lender ∙ x.lender;
  rest = subst (λ t. drop (needed (tree t)) c.weights.now ≡ drop (needed (tree t)) b.weights.now) x.table y.rest ∙ x.rest;
}
