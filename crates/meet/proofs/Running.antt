-- The rows of line after line. Assumes nothing.
use Rattle.std.proofs.Common.{◌≡◌, ℕ, ◌+◌, ◌≤◌, Bool, ◌&&◌, ◌||◌, eqb, List, [], ◌∷◌, ◌++◌, length, sym, ap, ◌∙◌, append_assoc, arith}
use Rattle.lines.specs.Lines.{lines, onto}
use Rattle.table.specs.declared.table.Table.{Table}
use Rattle.table.specs.Content.{content, tree}
use Rattle.table.specs.Tree.{Tree, size}
use Rattle.table.proofs.Postfix.{length_postfix}
use Rattle.sheet.specs.Weighing.{needed}
use Rattle.meet.specs.Meet.{filled_by, filled_with, fills, line_row, rows}
use Rattle.meet.specs.Parts.{lane_of}

module _ (p : Tree) (before : List (List ℕ)) (line : List ℕ) (f : ℕ → Bool) (told : (k : ℕ) → f k ≡ filled_by p before k) where
  -- one line more, and its row
  pub next_rows : (left after : List (List ℕ)) (out more bytes row total : List ℕ) (n : ℕ) → n ≡ length before → left ≡ line ∷ after → more ≡ out ++ bytes → bytes ≡ row → row ≡ line_row p (n + 1) (f (lane_of line)) line → out ++ rows p before left ≡ total → more ++ rows p (line ∷ before) after ≡ total
  next_rows left after out more bytes row total n count cut adds reads is all =
      ap (λ x. x ++ rows p (line ∷ before) after) adds
      ∙ append_assoc out bytes (rows p (line ∷ before) after)
      ∙ ap (λ x. out ++ (x ++ rows p (line ∷ before) after)) (reads ∙ is ∙ ap (λ m. line_row p (m + 1) (f (lane_of line)) line) count ∙ ap (λ b. line_row p (length before + 1) b line) (told (lane_of line)))
      ∙ ap (λ ls. out ++ rows p before ls) (sym cut)
      ∙ all

  -- and the lanes that are filled then
  pub next_filled : (k : ℕ) (now : Bool) → now ≡ filled_with p line f k → now ≡ filled_by p (line ∷ before) k
  next_filled k now e =
      e
      ∙ ap (λ b. (eqb k (lane_of line) && fills p b line) || f k) (told (lane_of line))
      ∙ ap (λ b. (eqb k (lane_of line) && fills p (filled_by p before (lane_of line)) line) || b) (told k)

-- a file has no more lines than bytes
length_onto : (b : ℕ) (ls : List (List ℕ)) → length (onto b ls) ≤ length ls + 1
length_onto b [] = omega arith
length_onto b (l ∷ ls) = omega arith

pub few_lines : (file : List ℕ) → length (lines file) ≤ length file
few_lines [] = omega arith
few_lines (b ∷ bs) = grind (arith, few_lines bs, length_onto b (lines bs))

-- no table needs more than three weights for each of 512 nodes
pub room_enough : (t : Table) → needed t ≤ 1536
room_enough t =
    let count : size (tree t) ≡ length (content t).nodes = sym (length_postfix (tree t)) ∙ ap length t.whole in
    omega (arith, count, t.few)
