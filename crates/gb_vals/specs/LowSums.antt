-- Low bits of sums and differences (CPU instruction set: 8-bit and 16-bit arithmetic; own).
use Rattle.std.specs.Prelude.{ℕ, ◌+◌, ◌-◌, Bool, true, false, Option, Some, None, if◌then◌else◌, nat_lt, min}
use Rattle.gb_domain.specs.declared.low_bits.LowBits.{LowBits}
use Rattle.gb_domain.specs.LowBits.{low_bits, no_low_bits}

abbrev pub one_if : Bool → ℕ
one_if true = 1
one_if false = 0

-- ADD (the carry known to be clear) and ADC
unfoldable pub sum : LowBits → LowBits → Option Bool → LowBits
sum j k None = no_low_bits
sum j k (Some carry) = low_bits (min j.count k.count) (j.bits + k.bits + one_if carry)

-- SUB (the borrow known to be clear) and SBC
unfoldable pub difference : LowBits → LowBits → Option Bool → LowBits
difference j k None = no_low_bits
difference j k (Some borrow) = low_bits (min j.count k.count) (j.bits + 256 - (k.bits + one_if borrow))

-- INC
unfoldable pub incremented : LowBits → LowBits
incremented k = low_bits k.count (k.bits + 1)

-- DEC
unfoldable pub decremented : LowBits → LowBits
decremented k = low_bits k.count (k.bits + 255)

abbrev pub if_kept : Bool → LowBits → LowBits
if_kept keeps k = if keeps then k else no_low_bits

-- INC of a pair: its high byte, whose low byte is at most this
unfoldable pub high_incremented : LowBits → ℕ → LowBits
high_incremented k most = if_kept (nat_lt most 255) k

-- DEC of a pair: its high byte, whose low byte is at least this
unfoldable pub high_decremented : LowBits → ℕ → LowBits
high_decremented k least = if_kept (nat_lt 0 least) k
