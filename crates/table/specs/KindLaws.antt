-- Each kind's any-leaf is allowed, and every allowed symbol passes it. Assumes nothing.
use Rattle.std.specs.Prelude.{◌≡◌, ℕ, true, refl}
use Rattle.std.proofs.Common.{rules}
use Rattle.table.specs.Kinds.{byte_admitted, byte_allowed, byte_any, byte_passing, touch_admitted, touch_allowed, touch_any, touch_passing}
use Rattle.table.specs.declared.touch.Touch.{Touch}

pub byte_any_admitted : byte_admitted byte_any ≡ true
byte_any_admitted = refl

pub byte_any_passed : (b : ℕ) → byte_allowed b ≡ true → byte_passing byte_any b ≡ true
byte_any_passed = search rules

pub touch_any_admitted : touch_admitted touch_any ≡ true
touch_any_admitted = refl

pub touch_any_passed : (t : Touch) → touch_allowed t ≡ true → touch_passing touch_any t ≡ true
touch_any_passed = search rules
