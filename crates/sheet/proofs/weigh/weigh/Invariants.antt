use Rattle.std.proofs.Common.{take}
use Rattle.session.specs.Sessions.{Kept}
use Rattle.sheet.specs.Weighing.{Held}
use Rattle.sheet.proofs.weigh.weigh.Given as goal

abbrev pub invariant-loop-byte : goal.invariant-loop-byte
invariant-loop-byte l = Kept l.initial.session l.session × Held l.session (take l.byte-index l.line)
