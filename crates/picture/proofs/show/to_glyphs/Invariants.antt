use Rattle.std.proofs.Common.{◌≡◌, map, take, drop, ◌++◌}
use Rattle.picture.specs.Words.{shown_byte}
use Rattle.picture.proofs.show.to_glyphs.Given as goal

abbrev pub invariant-loop-byte : goal.invariant-loop-byte
invariant-loop-byte l = l.bytes ≡ map shown_byte (take l.byte-index l.initial.bytes) ++ drop l.byte-index l.initial.bytes
