-- The bytes that mean something of their own in a pattern text. Assumes nothing.
use Rattle.std.specs.Prelude.{ℕ, cond, ◌==◌}
use Rattle.text.specs.declared.reader.Class.{Class}
use Rattle.text.specs.declared.reader.Class.TheVariants.{Bar, Star, Open, Shut, Dot, Range, Right, Escape, Plain}

abbrev pub class_of : ℕ → Class
class_of b =
    cond (b == 124) Bar
    (cond (b == 42) Star
    (cond (b == 40) Open
    (cond (b == 41) Shut
    (cond (b == 46) Dot
    (cond (b == 91) Range
    (cond (b == 93) Right
    (cond (b == 92) Escape Plain)))))))
