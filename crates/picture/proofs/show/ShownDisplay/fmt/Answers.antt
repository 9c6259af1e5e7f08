use Rattle.std.proofs.Common.{◌≡◌, ℕ, List, ◌++◌, map, length, ap, ◌∙◌, arith, rules, append_assoc, length-append, length-drop}
use Rattle.std.proofs.lemmas.List.{length-map}
use Rattle.std.proofs.Output.{has_written_append}
use Rattle.std.specs.Slice.Iter.{chunks_rest}
use Rattle.picture.proofs.Glyphs.{accepted, glyphs_utf8, run_shown}
use Rattle.picture.specs.Words.{shown_byte}
use Rattle.picture.proofs.show.ShownDisplay.fmt.Goals as goal

pub unwrap-requires : goal.unwrap-requires
unwrap-requires g c =
    let shown : c.to_glyphs.new.bytes ≡ map shown_byte c.in-Some.run'.now = search rules in
    accepted _ _ c.from_utf8.result _ c.from_utf8.ensures.cases (rw shown (glyphs_utf8 c.in-Some.run'.now))

pub loop-run-preserved : goal.loop-run-preserved
loop-run-preserved g c =
    let run = c.in-Some.run'.now in
    let steps = c.in-Some.ensures.steps in
    let glyphs : c.to_glyphs.new.bytes ≡ map shown_byte run = search rules in
    let shown : c.unwrap.result.now ≡ map shown_byte run = search rules in
    let size : length c.to_glyphs.new.bytes ≡ length run = ap length glyphs ∙ length-map run shown_byte in (
      search rules,
      tt,
      steps.0 ∙ c.loop-run.invariant.2,
      length-append c.to_glyphs.new.bytes _ ∙ omega (arith, size, steps.1.1, c.loop-run.invariant.2, c.loop-run.invariant.3, length-drop (length run) c.loop-run.room),
      λ plain.
          let so_far = c.loop-run.invariant.4 plain in (
            so_far.0 ++ c.unwrap.result.now,
            has_written_append _ _ _ _ _ _ so_far.1 (search rules),
            append_assoc so_far.0 _ _
                ∙ ap (λ (t : List ℕ). so_far.0 ++ t) (rw shown (run_shown _ run (chunks_rest c.next.new.self) steps.1.0))
                ∙ so_far.2,
          ),
    )
