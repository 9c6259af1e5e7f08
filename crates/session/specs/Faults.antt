-- The number, place and layer of each fault of a session. Assumes nothing.
use Rattle.std.specs.Prelude.{ℕ}
use Rattle.table.specs.declared.fault.Refusal.{Refusal}
use Rattle.session.specs.declared.fault.SessionFault.{SessionFault}
use Rattle.session.specs.declared.fault.SessionFault.TheVariants.{BadSymbol, ShortList, Full}

-- the most symbols that a session holds
abbrev pub most_symbols : ℕ
most_symbols = 65_535

abbrev pub session_refusal : ℕ → ℕ → Refusal
session_refusal n p = record { number = n; place = p; layer = 3 }

abbrev pub refusal_of : SessionFault → Refusal
refusal_of (BadSymbol n) = session_refusal 9 n
refusal_of (ShortList n) = session_refusal 10 n
refusal_of Full = session_refusal 20 most_symbols
