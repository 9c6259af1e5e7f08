use Rattle.std.proofs.Common.{rules}
use Rattle.picture.specs.Words.{shown_byte}
use Rattle.std.proofs.lemmas.List.{take_all, drop_all}
use Rattle.std.proofs.lemmas.List.Edits.{map_over_more}
use Rattle.picture.proofs.show.to_glyphs.Goals as goal

pub loop-byte-preserved : goal.loop-byte-preserved
loop-byte-preserved c = search (rules, map_over_more shown_byte)

pub returns : goal.returns
returns c = search (rules, take_all, drop_all)
