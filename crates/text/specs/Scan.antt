-- What a pattern text comes to byte by byte: the parts that are whole so far, and what may follow. Assumes nothing.
use Rattle.std.specs.Prelude.{ℕ, ◌+◌, Bool, true, false, List, [], ◌∷◌, length, Some, None, Option, ◌==◌, nat_le}
use Rattle.text.specs.declared.reader.Class.{Class}
use Rattle.text.specs.declared.reader.Class.TheVariants.{Bar, Star, Open, Shut, Dot, Range, Right, Escape, Plain}
use Rattle.text.specs.Classes.{class_of}
use Rattle.text.specs.Grammar.{Atom, unit, group, any, range, quoted, plain, Piece, once, star, Branch, one, more, Pattern, only, or}

-- what stands before an open bracket: the branches closed by |, and the pieces after them
pub record Level : Type 0 where
  pub alts : Option Pattern
  pub pieces : Option Branch

pub data Mode : Type 0 where
  -- an atom has to follow these pieces
  must : Option Branch → Mode
  -- just after (
  opened : Mode
  -- these pieces are whole
  done : Branch → Mode
  -- after these pieces and \
  escape : Option Branch → Mode
  -- after these pieces and [, [l, [l-, [l-h
  low : Option Branch → Mode
  dash : Option Branch → ℕ → Mode
  high : Option Branch → ℕ → Mode
  close : Option Branch → ℕ → ℕ → Mode

-- the open brackets' levels, the innermost first; the branches closed by | at this level; the mode
pub record State : Type 0 where
  pub outer : List Level
  pub alts : Option Pattern
  pub mode : Mode

abbrev pub state : List Level → Option Pattern → Mode → State
state o a m = record { outer = o; alts = a; mode = m }

abbrev pub level : Option Pattern → Option Branch → Level
level a s = record { alts = a; pieces = s }

abbrev pub start : State
start = state [] None (must None)

abbrev pub appended : Option Branch → Piece → Branch
appended None p = one p
appended (Some b) p = more b p

abbrev pub starred : Branch → Branch
starred (one p) = one (star p)
starred (more b p) = more b (star p)

abbrev pub joined : Option Pattern → Branch → Pattern
joined None b = only b
joined (Some p) b = or p b

-- an atom has been read whole
abbrev pub added : List Level → Option Pattern → Option Branch → Atom → Option State
added o a s x = Some (state o a (done (appended s (once x))))

-- a bracket is closed around an atom
abbrev pub popped : List Level → Atom → Option State
popped [] x = None
popped (l ∷ ls) x = added ls l.alts l.pieces x

-- the first byte of an atom
abbrev pub begin : List Level → Option Pattern → Option Branch → ℕ → Class → Option State
begin o a s c Bar = None
begin o a s c Star = None
begin o a s c Open = Some (state (level a s ∷ o) None opened)
begin o a s c Shut = None
begin o a s c Dot = added o a s any
begin o a s c Range = Some (state o a (low s))
begin o a s c Right = None
begin o a s c Escape = Some (state o a (escape s))
begin o a s c Plain = added o a s (plain c)

-- () is closed right after its (
abbrev pub shut_unit : List Level → Option Pattern → Option State
shut_unit o None = popped o unit
shut_unit o (Some p) = None

abbrev pub after_open : List Level → Option Pattern → ℕ → Class → Option State
after_open o a c Bar = None
after_open o a c Star = None
after_open o a c Open = begin o a None c Open
after_open o a c Shut = shut_unit o a
after_open o a c Dot = begin o a None c Dot
after_open o a c Range = begin o a None c Range
after_open o a c Right = None
after_open o a c Escape = begin o a None c Escape
after_open o a c Plain = begin o a None c Plain

abbrev pub after_piece : List Level → Option Pattern → Branch → ℕ → Class → Option State
after_piece o a b c Bar = Some (state o (Some (joined a b)) (must None))
after_piece o a b c Star = Some (state o a (done (starred b)))
after_piece o a b c Open = begin o a (Some b) c Open
after_piece o a b c Shut = popped o (group (joined a b))
after_piece o a b c Dot = begin o a (Some b) c Dot
after_piece o a b c Range = begin o a (Some b) c Range
after_piece o a b c Right = None
after_piece o a b c Escape = begin o a (Some b) c Escape
after_piece o a b c Plain = begin o a (Some b) c Plain

abbrev pub only_if : Bool → State → Option State
only_if true z = Some z
only_if false z = None

abbrev pub step : List Level → Option Pattern → Mode → ℕ → Option State
step o a (must s) c = begin o a s c (class_of c)
step o a opened c = after_open o a c (class_of c)
step o a (done b) c = after_piece o a b c (class_of c)
step o a (escape s) c = added o a s (quoted c)
step o a (low s) c = Some (state o a (dash s c))
step o a (dash s l) c = only_if (c == 45) (state o a (high s l))
step o a (high s l) c = only_if (nat_le l c) (state o a (close s l c))
step o a (close s l h) c = only_if (c == 93) (state o a (done (appended s (once (range l h)))))

-- the state after one byte more, or none where no text of the grammar goes on so
abbrev pub feed : State → ℕ → Option State
feed z c = elim (nat_le c 255) [ true ↦ step z.outer z.alts z.mode c | false ↦ None ]

-- what a text comes to: a pattern, or the first place where it leaves the grammar or goes too deep
pub data Verdict : Type 0 where
  good : Pattern → Verdict
  off : ℕ → Verdict
  deep : ℕ → Verdict

abbrev pub ended : List Level → Option Pattern → Mode → ℕ → Verdict
ended o a (must s) i = off i
ended o a opened i = off i
ended [] a (done b) i = good (joined a b)
ended (l ∷ ls) a (done b) i = off i
ended o a (escape s) i = off i
ended o a (low s) i = off i
ended o a (dash s l) i = off i
ended o a (high s l) i = off i
ended o a (close s l h) i = off i

abbrev pub unless_deep : Bool → ℕ → Verdict → Verdict
unless_deep true i v = v
unless_deep false i v = deep i

abbrev pub gone_on : Option State → ℕ → (State → Verdict) → Verdict
gone_on None i f = off i
gone_on (Some z) i f = unless_deep (nat_le (length z.outer) 32) i (f z)

-- the bytes from place i on, after a state
abbrev pub finish : State → ℕ → List ℕ → Verdict
finish z i [] = ended z.outer z.alts z.mode i
finish z i (c ∷ cs) = gone_on (feed z c) i (λ w. finish w (i + 1) cs)
