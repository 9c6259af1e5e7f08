-- What each loop of the reader has read so far, and one turn more. Assumes nothing.
use Rattle.std.proofs.Common.{◌≡◌, ◌+◌, ◌-◌, List, length, Some, None, Option, sym, refl, ap, ◌∙◌, subst, arith}
use Rattle.table.specs.Tree.{then, either, repeat, inner}
use Rattle.text.specs.declared.reader.Reader.{Reader}
use Rattle.text.specs.Grammar.{Piece, once, star, Branch, one, more, Pattern, piece_tree, branch_tree, tree}
use Rattle.text.specs.Scan.{Level, must, done, state, appended, joined}
use Rattle.text.specs.Steps.{outcome, stopped, There}
use Rattle.text.specs.declared.reader.Stop.{Stop}
use Rattle.text.specs.Progress.{BranchEnds, BranchGoesOn, Took, Added, Made, AtomRead, PieceRead, BranchRead, AtomStops, BranchStops, PatternStops}
use Rattle.text.proofs.Complete.{starred_last}
use Rattle.text.proofs.Outcomes.{on, begins_piece}
use Rattle.text.proofs.Laying.{paired, starred_made}

-- an atom and some stars
pub record Starred (was now : Reader) : Type 0 where
  pub piece : Piece
  pub goes : (o : List Level) (a : Option Pattern) (p : Option Branch) → length o ≡ was.depth → outcome (state o a (must p)) was.text.now was.at ≡ outcome (state o a (done (appended p piece))) was.text.now now.at
  pub made : Made (piece_tree piece) was now

-- some pieces
pub record Pieces (was now : Reader) : Type 0 where
  pub branch : Branch
  pub goes : (o : List Level) (a : Option Pattern) → length o ≡ was.depth → outcome (state o a (must None)) was.text.now was.at ≡ outcome (state o a (done branch)) was.text.now now.at
  pub made : Made (branch_tree branch) was now
  pub ends : There was.text.now now.at 42 → ⊥

-- some branches
pub record Branches (was now : Reader) : Type 0 where
  pub alts : Option Pattern
  pub branch : Branch
  pub goes : (o : List Level) → length o ≡ was.depth → outcome (state o None (must None)) was.text.now was.at ≡ outcome (state o alts (done branch)) was.text.now now.at
  pub made : Made (tree (joined alts branch)) was now
  pub ends : BranchEnds was.text.now now.at

module _ (was : Reader) where
  pub unstarred : (now : Reader) → AtomRead was now → Starred was now
  unstarred now r = record { piece = once r.atom; goes = r.goes; made = r.made }

  pub one_piece : (now : Reader) → PieceRead was now → Pieces was now
  one_piece now r = record { branch = one r.piece; goes = λ o a. r.goes o a None; made = r.made; ends = r.ends }

  pub one_branch : (now : Reader) → BranchRead was now → Branches was now
  one_branch now r = record { alts = None; branch = r.branch; goes = λ o. r.goes o None; made = r.made; ends = r.ends }

  -- one star more
  pub star_more : (half mid now : Reader) → Starred was half → There half.text.now half.at 42 × Took 1 half mid → Added 0 (inner 4 (mid.count - was.count + 1)) mid now → Starred was now
  star_more half mid now h c e =
      let s = was.text.now in
      let star_here : There s half.at 42 = subst (λ s. There s half.at 42) h.made.text c.0 in
      record {
        piece = star h.piece;
        goes = λ o a p k.
            h.goes o a p k
            ∙ on s (state o a (done (appended p h.piece))) (state o a (done (appended p (star h.piece)))) half.at now.at 42 (omega (arith, c.1.at, e.at)) star_here (ap (λ b. Some (state o a (done b))) (starred_last p h.piece)) (omega (arith, was.shallow));
        made = starred_made (piece_tree h.piece) (repeat (piece_tree h.piece)) 4 was half mid now refl refl h.made c.1 e;
      }

  -- after some pieces that go on
  module _ (half : Reader) (h : Pieces was half) (more_comes : BranchGoesOn half.text.now half.at) where
    goes_on : (o : List Level) (a : Option Pattern) → length o ≡ was.depth → outcome (state o a (must None)) was.text.now was.at ≡ outcome (state o a (must (Some h.branch))) was.text.now half.at
    goes_on o a k =
        let m = subst (λ s. BranchGoesOn s half.at) h.made.text more_comes in
        h.goes o a k ∙ begins_piece was.text.now o a h.branch half.at m.0 m.1 h.ends m.2

    pub piece_stops : (e : Stop) → AtomStops half e → BranchStops was e
    piece_stops e n o a k =
        goes_on o a k ∙ subst (λ s. outcome (state o a (must (Some h.branch))) s half.at ≡ stopped e) h.made.text (n o a (Some h.branch) (k ∙ sym h.made.depth))

    -- one piece more
    pub piece_more : (late now : Reader) → PieceRead half late → Added 0 (inner 3 (late.count - was.count + 1)) late now → Pieces was now
    piece_more late now r e =
        let same : now.at ≡ late.at = omega (arith, e.at) in
        record {
          branch = more h.branch r.piece;
          goes = λ o a k.
              goes_on o a k
              ∙ subst (λ s. outcome (state o a (must (Some h.branch))) s half.at ≡ outcome (state o a (done (more h.branch r.piece))) s late.at) h.made.text (r.goes o a (Some h.branch) (k ∙ sym h.made.depth))
              ∙ ap (outcome (state o a (done (more h.branch r.piece))) was.text.now) (sym same);
          made = paired (branch_tree h.branch) (piece_tree r.piece) (then (branch_tree h.branch) (piece_tree r.piece)) 3 was half half late now refl refl h.made 0 (record { text = refl; list = refl; nodes = refl; at = omega arith; count = refl; depth = refl }) r.made e;
          ends = subst (λ i. There was.text.now i 42 → ⊥) (sym same) (subst (λ s. There s late.at 42 → ⊥) h.made.text r.ends);
        }

  -- after some branches and a bar
  module _ (half mid : Reader) (h : Branches was half) (c : There half.text.now half.at 124 × Took 1 half mid) where
    text_there : mid.text.now ≡ was.text.now
    text_there = c.1.text ∙ h.made.text

    depth_there : mid.depth ≡ was.depth
    depth_there = c.1.depth ∙ h.made.depth

    goes_past : (o : List Level) → length o ≡ was.depth → outcome (state o None (must None)) was.text.now was.at ≡ outcome (state o (Some (joined h.alts h.branch)) (must None)) was.text.now mid.at
    goes_past o k =
        h.goes o k
        ∙ on was.text.now (state o h.alts (done h.branch)) (state o (Some (joined h.alts h.branch)) (must None)) half.at mid.at 124 (sym c.1.at) (subst (λ s. There s half.at 124) h.made.text c.0) refl (omega (arith, was.shallow))

    pub branch_stops : (e : Stop) → BranchStops mid e → PatternStops was e
    branch_stops e n o k =
        goes_past o k
        ∙ subst (λ s. outcome (state o (Some (joined h.alts h.branch)) (must None)) s mid.at ≡ stopped e) text_there (n o (Some (joined h.alts h.branch)) (k ∙ sym depth_there))

    -- one branch more
    pub branch_more : (late now : Reader) → BranchRead mid late → Added 0 (inner 2 (late.count - was.count + 1)) late now → Branches was now
    branch_more late now r e =
        let same : now.at ≡ late.at = omega (arith, e.at) in
        record {
          alts = Some (joined h.alts h.branch);
          branch = r.branch;
          goes = λ o k.
              goes_past o k
              ∙ subst (λ s. outcome (state o (Some (joined h.alts h.branch)) (must None)) s mid.at ≡ outcome (state o (Some (joined h.alts h.branch)) (done r.branch)) s late.at) text_there (r.goes o (Some (joined h.alts h.branch)) (k ∙ sym depth_there))
              ∙ ap (outcome (state o (Some (joined h.alts h.branch)) (done r.branch)) was.text.now) (sym same);
          made = paired (tree (joined h.alts h.branch)) (branch_tree r.branch) (either (tree (joined h.alts h.branch)) (branch_tree r.branch)) 2 was half mid late now refl refl h.made 1 c.1 r.made e;
          ends = subst (BranchEnds was.text.now) (sym same) (subst (λ s. BranchEnds s late.at) text_there r.ends);
        }
