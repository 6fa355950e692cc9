-- The bits of LCDC (Pan Docs: LCD Control).
use Rattle.std.specs.Prelude.{ℕ, Bool, ◌==◌, ◌/◌, ◌%◌, ◌^◌, if◌then◌else◌}

-- bit n of a byte, bit 0 being the lowest
unfoldable pub bit : ℕ → ℕ → ℕ
bit n byte = byte / 2 ^ n % 2

unfoldable pub has_bit : ℕ → ℕ → Bool
has_bit n byte = bit n byte == 1

abbrev pub is_on : ℕ → Bool
is_on lcdc = has_bit 7 lcdc

abbrev pub has_window : ℕ → Bool
has_window lcdc = has_bit 5 lcdc

abbrev pub has_objects : ℕ → Bool
has_objects lcdc = has_bit 1 lcdc

-- background and window are drawn
abbrev pub has_background : ℕ → Bool
has_background lcdc = has_bit 0 lcdc

-- the lines of an object
unfoldable pub object_height : ℕ → ℕ
object_height lcdc = if has_bit 2 lcdc then 16 else 8
