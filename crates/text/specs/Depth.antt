-- How many brackets are open after the bytes of a text. Assumes nothing.
use Rattle.std.specs.Prelude.{ℕ, zero, suc, pred, List, [], ◌∷◌}
use Rattle.text.specs.declared.reader.Class.{Class}
use Rattle.text.specs.declared.reader.Class.TheVariants.{Bar, Star, Open, Shut, Dot, Range, Right, Escape, Plain}
use Rattle.text.specs.Classes.{class_of}

-- the bytes to come that belong to an escape or a range, and the brackets open
pub record Nest : Type 0 where
  pub skip : ℕ
  pub depth : ℕ

abbrev pub nest : ℕ → ℕ → Nest
nest k d = record { skip = k; depth = d }

-- a backslash takes the next byte with it, a [ the next four
abbrev pub nest_by : ℕ → Class → Nest
nest_by d Bar = nest 0 d
nest_by d Star = nest 0 d
nest_by d Open = nest 0 (suc d)
nest_by d Shut = nest 0 (pred d)
nest_by d Dot = nest 0 d
nest_by d Range = nest 4 d
nest_by d Right = nest 0 d
nest_by d Escape = nest 1 d
nest_by d Plain = nest 0 d

abbrev pub nest_step : ℕ → ℕ → ℕ → Nest
nest_step zero d c = nest_by d (class_of c)
nest_step (suc k) d c = nest k d

abbrev pub nested : Nest → List ℕ → Nest
nested n [] = n
nested n (c ∷ cs) = nested (nest_step n.skip n.depth c) cs

abbrev pub open_after : List ℕ → ℕ
open_after cs = (nested (nest 0 0) cs).depth
