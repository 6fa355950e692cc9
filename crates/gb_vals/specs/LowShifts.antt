-- Low bits of shifts (CPU instruction set: bit shifts; own).
use Rattle.std.specs.Prelude.{ℕ, ◌+◌, ◌-◌, ◌*◌, ◌/◌, ◌%◌, min}
use Rattle.gb_domain.specs.declared.low_bits.LowBits.{LowBits}
use Rattle.gb_domain.specs.LowBits.{low_bits}

-- ADD A,A and SLA: bit 0 is clear, and each other bit was the one below
unfoldable pub doubled : LowBits → LowBits
doubled k = low_bits (min k.count 8 + 1) (k.bits * 2)

-- SRL: bit 0 goes
unfoldable pub halved : LowBits → LowBits
halved k = low_bits (min k.count 8 - 1) (k.bits / 2)

-- SWAP of bytes that all have one high digit
unfoldable pub swapped : ℕ → LowBits → LowBits
swapped high k = low_bits (min k.count 4 + 4) (k.bits % 16 * 16 + high % 16)
