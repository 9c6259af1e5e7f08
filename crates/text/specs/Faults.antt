-- The number, place and layer of each fault of a pattern text. Assumes nothing.
use Rattle.std.specs.Prelude.{ℕ}
use Rattle.table.specs.declared.fault.Refusal.{Refusal}
use Rattle.text.specs.declared.fault.TextFault.{TextFault}
use Rattle.text.specs.declared.fault.TextFault.TheVariants.{TooLong, OffGrammar, TooDeep, NodeCount, ShortList}

abbrev text_refusal : ℕ → ℕ → Refusal
text_refusal n p = record { number = n; place = p; layer = 1 }

abbrev pub refusal_of : TextFault → Refusal
refusal_of TooLong = text_refusal 1 4096
refusal_of (OffGrammar p) = text_refusal 2 p
refusal_of (TooDeep p) = text_refusal 3 p
refusal_of (NodeCount n) = text_refusal 4 n
refusal_of (ShortList n) = text_refusal 10 n
