-- A slip as it is handed out. Assumes nothing.
use Rattle.std.specs.Prelude.{ℕ, false}
use Rattle.sheet.specs.declared.slip.Slip.{Slip}

abbrev pub new_slip : ℕ → ℕ → ℕ → Slip
new_slip n l c = record { sheet = n; lane = l; count = c; spent = false }
