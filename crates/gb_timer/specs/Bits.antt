-- Bits of a byte by their number.
use Rattle.std.specs.Prelude.{ℕ, ◌^◌, Bool, not, ◌==◌}
use Rattle.std.specs.Int.RustNames.{bit_and}

abbrev pub is_set : ℕ → ℕ → Bool
is_set byte bit = not (bit_and byte (2 ^ bit) == 0)
