-- What is written for the result lines of a meet. Assumes nothing.
use Rattle.std.specs.Prelude.{ℕ, ◌+◌, Bool, false, not, ◌&&◌, ◌||◌, List, [], ◌∷◌, ◌++◌, length, is_some, Some, None, Option, ◌==◌, nat_le}
use Rattle.scale.specs.Counts.{count_ops}
use Rattle.scale.specs.Pairs.{pair_ops}
use Rattle.scale.specs.Prices.{price_ops}
use Rattle.readings.specs.Weights.{weight}
use Rattle.sheet.specs.Refusals.{own_refusal}
use Rattle.table.specs.declared.fault.Refusal.{Refusal}
use Rattle.table.specs.Kinds.{byte_passing}
use Rattle.table.specs.Tree.{Tree}
use Rattle.meet.specs.Parts.{lane_of, text_of}
use Rattle.meet.specs.Rows.{fault_row, row}

-- how many readings a line's text has, up to the greatest count
abbrev pub readings_of : Tree → List ℕ → ℕ
readings_of p line = (weight (pair_ops count_ops price_ops) byte_passing p (text_of line)).first.value

-- what refuses a line, its lane being filled or not: a lane that is none, a text that is too long, a lane that is filled
abbrev pub refusal : Bool → List ℕ → Option Refusal
refusal filled line = own_refusal filled (lane_of line) (text_of line)

-- a line that is not refused fills its lane where it has a reading
abbrev pub fills : Tree → Bool → List ℕ → Bool
fills p filled line = not (is_some (refusal filled line)) && nat_le 1 (readings_of p line)

-- the lanes that are filled after a line, by those before it
abbrev pub filled_with : Tree → List ℕ → (ℕ → Bool) → ℕ → Bool
filled_with p line was k = (k == lane_of line && fills p (was (lane_of line)) line) || was k

-- the lanes that are filled after some lines, the latest first
abbrev pub filled_by : Tree → List (List ℕ) → ℕ → Bool
filled_by p [] k = false
filled_by p (line ∷ before) k = filled_with p line (filled_by p before) k

abbrev pub by_refusal : ℕ → ℕ → ℕ → Option Refusal → List ℕ
by_refusal number lane count None = row lane count
by_refusal number lane count (Some r) = fault_row number r

-- the row of the line of that number
abbrev pub line_row : Tree → ℕ → Bool → List ℕ → List ℕ
line_row p number filled line = by_refusal number (lane_of line) (readings_of p line) (refusal filled line)

-- the rows of lines, after those before them, the latest first
abbrev pub rows : Tree → List (List ℕ) → List (List ℕ) → List ℕ
rows p before [] = []
rows p before (line ∷ rest) = line_row p (length before + 1) (filled_by p before (lane_of line)) line ++ rows p (line ∷ before) rest
