-- The kinds of symbol: which leaves and symbols each allows, and which symbols pass a leaf. Assumes nothing.
use Rattle.std.specs.Prelude.{◌≡◌, ℕ, ◌/◌, Bool, true, false, ◌&&◌, ◌||◌, ◌==◌, nat_le}
use Rattle.table.specs.declared.node.Leaf.{Leaf}
use Rattle.table.specs.declared.touch.Touch.{Touch}

-- n lies from the leaf's low to its high
abbrev pub within : Leaf → ℕ → Bool
within l n = nat_le l.low n && nat_le n l.high

-- kind 1, bytes
abbrev pub byte_number : ℕ
byte_number = 1

abbrev pub byte_admitted : Leaf → Bool
byte_admitted l = l.tag == 0 && (nat_le l.low l.high && nat_le l.high 255)

abbrev pub byte_allowed : ℕ → Bool
byte_allowed b = nat_le b 255

abbrev pub byte_passing : Leaf → ℕ → Bool
byte_passing l b = within l b

abbrev pub byte_any : Leaf
byte_any = record { tag = 0; low = 0; high = 255 }

-- kind 2, touches: gaps in thousandths of a second, bounds in hundredths
abbrev pub touch_number : ℕ
touch_number = 2

abbrev pub touch_admitted : Leaf → Bool
touch_admitted l = nat_le l.tag 3 && (nat_le l.low l.high && nat_le l.high 999_999)

abbrev pub touch_allowed : Touch → Bool
touch_allowed t = nat_le t.source 2 && nat_le t.gap 9_999_999

abbrev pub touch_passing : Leaf → Touch → Bool
touch_passing l t = (l.tag == 3 || l.tag == t.source) && within l (t.gap / 10)

abbrev pub touch_any : Leaf
touch_any = record { tag = 3; low = 0; high = 999_999 }

-- of pad touches, a pad leaf from 25 to 60 seconds lets gaps of 25.000 to 60.009 seconds pass
abbrev pub pad_passing : ℕ → Bool
pad_passing gap = touch_passing (record { tag = 0; low = 2_500; high = 6_000 }) (record { source = 0; gap = gap })

abbrev pub PadBounds : Type 0
PadBounds = (pad_passing 24_999 ≡ false) × (pad_passing 25_000 ≡ true) × (pad_passing 60_009 ≡ true) × (pad_passing 60_010 ≡ false)
