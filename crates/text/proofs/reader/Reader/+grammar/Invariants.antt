use Rattle.std.proofs.Common.{◌+◌, ◌-◌, ◌*◌, length}
use Rattle.text.proofs.Loops.{Starred, Pieces, Branches}
use Rattle.text.proofs.reader.Reader.+grammar.Given as goal

abbrev pub decreases-atom : goal.decreases-atom
decreases-atom l = 5 * (length l.self.now.text.now - l.self.now.at) + 1

abbrev pub decreases-branch : goal.decreases-branch
decreases-branch l = 5 * (length l.self.now.text.now - l.self.now.at) + 3

abbrev pub decreases-group : goal.decreases-group
decreases-group l = 5 * (length l.self.now.text.now - l.self.now.at)

abbrev pub decreases-pattern : goal.decreases-pattern
decreases-pattern l = 5 * (length l.self.now.text.now - l.self.now.at) + 4

abbrev pub decreases-piece : goal.decreases-piece
decreases-piece l = 5 * (length l.self.now.text.now - l.self.now.at) + 2

abbrev pub invariant-branch-loop-self : goal.invariant-branch-loop-self
invariant-branch-loop-self l = Pieces l.fn.self l.self

abbrev pub decreases-branch-loop-self : goal.decreases-branch-loop-self
decreases-branch-loop-self l = length l.self.text.now - l.self.at

abbrev pub invariant-pattern-loop-self : goal.invariant-pattern-loop-self
invariant-pattern-loop-self l = Branches l.fn.self l.self

abbrev pub decreases-pattern-loop-self : goal.decreases-pattern-loop-self
decreases-pattern-loop-self l = length l.self.text.now - l.self.at

abbrev pub invariant-piece-loop-self : goal.invariant-piece-loop-self
invariant-piece-loop-self l = Starred l.fn.self l.self

abbrev pub decreases-piece-loop-self : goal.decreases-piece-loop-self
decreases-piece-loop-self l = length l.self.text.now - l.self.at
