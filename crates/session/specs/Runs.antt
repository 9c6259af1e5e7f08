-- A succession of read, weigh and restart on one session from new, told by what was asked and answered. Assumes nothing.
use Rattle.std.specs.Prelude.{◌≡◌, ℕ, ◌≤◌, Bool, List, [], ◌∷◌, ◌++◌, map, length, Some, None, Ok, Err, Option, Result}
use Rattle.std.specs.Result.{result_map_both}
use Rattle.scale.specs.Semiring.{Ops}
use Rattle.table.specs.declared.node.Leaf.{Leaf}
use Rattle.table.specs.declared.table.Table.{Table}
use Rattle.table.specs.Content.{tree}
use Rattle.readings.specs.Weights.{weight}
use Rattle.session.specs.declared.fault.SessionFault.{SessionFault}
use Rattle.session.specs.declared.turn.Ask.{Ask}
use Rattle.session.specs.declared.turn.Ask.TheVariants.{Read, Weigh, Restart}
use Rattle.session.specs.declared.turn.Reply.{Reply}
use Rattle.session.specs.declared.turn.Reply.TheVariants.{Took, Weighs, Restarted}
use Rattle.session.specs.declared.turn.Turn.{Turn}
use Rattle.session.specs.Sessions.{leaves, read_fault, room_fault, symbol_fault}
use Rattle.session.specs.Words.{live_after}

-- on what an ask is refused, of a list with so much room and with so many symbols held
abbrev pub ask_fault : {S : Type 0} → ℕ → (S → Bool) → Table → ℕ → ℕ → Ask S → Option SessionFault
ask_fault number allowed t room held (Read s) = read_fault number (allowed s) t room held
ask_fault number allowed t room held Weigh = room_fault t room
ask_fault number allowed t room held Restart = room_fault t room

-- the symbols held after one turn more: a read that is not refused adds its symbol, a restart empties
abbrev pub held_next : {W S : Type 0} → List S → Ask S → Result (Reply W) SessionFault → List S
held_next w (Read s) (Ok (Took n)) = w ++ s ∷ []
held_next w (Read s) (Ok (Weighs v)) = w
held_next w (Read s) (Ok Restarted) = w
held_next w (Read s) (Err f) = w
held_next w Weigh r = w
held_next w Restart r = []

-- and after several
abbrev pub held_after : {W S : Type 0} → List S → List (Turn W S) → List S
held_after w [] = w
held_after w (u ∷ us) = held_after (held_next w u.ask u.reply) us

module _ {W S : Type 0} (o : Ops W) (passing : Leaf → S → Bool) (number : ℕ) (allowed : S → Bool) (table : Table) where
  -- with these symbols held, a read is refused exactly on its conditions, and else tests the live leaves and no more
  -- than all
  abbrev pub ReadRight : List S → S → Result (Reply W) SessionFault → Type 0
  ReadRight w s (Ok (Took n)) = (symbol_fault number (allowed s) table (length w) ≡ None) × (live_after o passing (tree table) w ≤ n) × (n ≤ leaves (tree table))
  ReadRight w s (Ok (Weighs v)) = ⊥
  ReadRight w s (Ok Restarted) = ⊥
  ReadRight w s (Err f) = symbol_fault number (allowed s) table (length w) ≡ Some f

  -- a weigh answers the summed weight of all readings of the symbols held, and a restart is never refused
  abbrev pub Right : List S → Ask S → Result (Reply W) SessionFault → Type 0
  Right w (Read s) r = ReadRight w s r
  Right w Weigh r = r ≡ Ok (Weighs (weight o passing (tree table) w))
  Right w Restart r = r ≡ Ok Restarted

  -- every turn is right, by the symbols held before it
  abbrev pub AllRight : List S → List (Turn W S) → Type 0
  AllRight w [] = Unit {0}
  AllRight w (u ∷ us) = Right w u.ask u.reply × AllRight (held_next w u.ask u.reply) us

abbrev pub asks : {W S : Type 0} → List (Turn W S) → List (Ask S)
asks us = map (λ u. u.ask) us

-- a map between two scales that carries nothing, one, sums, products and prices
pub record Carries {A B : Type 0} (a : Ops A) (b : Ops B) (f : A → B) : Type 0 where
  pub nothings : f a.nothing ≡ b.nothing
  pub ones : f a.one ≡ b.one
  pub sums : (x y : A) → f (a.plus x y) ≡ b.plus (f x) (f y)
  pub products : (x y : A) → f (a.times x y) ≡ b.times (f x) (f y)
  pub prices : (p : ℕ) → f (a.priced p) ≡ b.priced p

-- a reply at the second scale, the number of tests left out: a weight is mapped
abbrev pub carried : {A B : Type 0} → (A → B) → Reply A → Reply B
carried f (Took n) = Took 0
carried f (Weighs x) = Weighs (f x)
carried f Restarted = Restarted

-- and a refusal is the same
abbrev pub replies : {A B S : Type 0} → (A → B) → List (Turn A S) → List (Result (Reply B) SessionFault)
replies f us = map (λ u. result_map_both (carried f) (λ e. e) u.reply) us

-- two successions over one table that ask the same: each weigh of the second answers the map of the first's, and the same
-- reads are refused
abbrev pub LawOfMaps : {A B S : Type 0} → Ops A → Ops B → List (Turn A S) → List (Turn B S) → Type 0
LawOfMaps {A} {B} {S} a b first second = (f : A → B) → Carries a b f → asks first ≡ asks second → replies (λ y. y) second ≡ replies f first
