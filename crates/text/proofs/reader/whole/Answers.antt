use Rattle.std.proofs.Common.{refl, sym, rules}
use Rattle.text.proofs.Wholes.{cut_short, whole_read}
use Rattle.text.proofs.reader.whole.Goals as goal

pub returns-then-reader-text : goal.returns-then-reader-text
returns-then-reader-text c = cut_short _ _ refl refl refl c.in_ok-pattern.ensures c.if-reader-text.true

pub returns : goal.returns
returns c =
    let read = c.in_ok-pattern.ensures in
    let list = sym read.made.list in
    whole_read _ _ refl refl refl read c.if-reader-text.false _ (search rules)
