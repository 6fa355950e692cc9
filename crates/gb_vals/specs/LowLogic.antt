-- Low bits of bitwise operations (CPU instruction set: bitwise logic, bit flags; own).
use Rattle.std.specs.Prelude.{ℕ, ◌-◌, ◌%◌, ◌^◌, Bool, true, false, ◌&&◌, ◌||◌, ◌==◌, bit_and, bit_or, bit_xor, Option, Some, None}
use Rattle.std.specs.Int.{bit_at}
use Rattle.gb_domain.specs.declared.low_bits.LowBits.{LowBits}
use Rattle.gb_domain.specs.LowBits.{low_bits, all_of, has_bit, count_passing}
use Rattle.gb_vals.specs.LowSums.{one_if}

-- the bit is known to be this one
abbrev pub is_bit : Bool → LowBits → ℕ → Bool
is_bit b k i = has_bit k i && bit_at k.bits i == one_if b

-- a bit that alone decides the result's is known
abbrev pub decides : Option Bool → LowBits → ℕ → Bool
decides None k i = false
decides (Some b) k i = is_bit b k i

-- the result's bit is known: both are, or one that decides
unfoldable pub is_known : Option Bool → LowBits → LowBits → ℕ → Bool
is_known deciding j k i = has_bit j i && has_bit k i || decides deciding j i || decides deciding k i

-- as many as are known, from bit 0 on
unfoldable pub known_bits : Option Bool → LowBits → LowBits → ℕ
known_bits deciding j k = count_passing (is_known deciding j k)

-- AND: 0 decides
unfoldable pub conjunction : LowBits → LowBits → LowBits
conjunction j k = low_bits (known_bits (Some false) j k) (bit_and j.bits k.bits)

-- OR: 1 decides
unfoldable pub disjunction : LowBits → LowBits → LowBits
disjunction j k = low_bits (known_bits (Some true) j k) (bit_or j.bits k.bits)

-- XOR: neither does
unfoldable pub exclusion : LowBits → LowBits → LowBits
exclusion j k = low_bits (known_bits None j k) (bit_xor j.bits k.bits)

-- CPL
unfoldable pub complement : LowBits → LowBits
complement k = low_bits k.count (255 - k.bits)

-- the weight of a bit of a byte
unfoldable pub mask_of : ℕ → ℕ
mask_of n = 2 ^ (n % 8)

-- RES: AND with all other bits
unfoldable pub reset_bit : ℕ → LowBits → LowBits
reset_bit n k = conjunction k (all_of (255 - mask_of n))

-- SET: OR with the bit
unfoldable pub set_bit : ℕ → LowBits → LowBits
set_bit n k = disjunction k (all_of (mask_of n))

-- what the machine's CPL, RES and SET make of a byte
abbrev pub complemented : ℕ → ℕ
complemented x = 255 - x

abbrev pub with_bit_reset : ℕ → ℕ → ℕ
with_bit_reset n x = bit_and x (255 - mask_of n)

abbrev pub with_bit_set : ℕ → ℕ → ℕ
with_bit_set n x = bit_or x (mask_of n)
