-- Low bits that are known (abstract interpretation: congruences modulo a power of two; own).
use Rattle.std.specs.Prelude.{ℕ, suc, zero, ◌+◌, ◌%◌, ◌^◌, Bool, ◌&&◌, ◌==◌, if◌then◌else◌, nat_le, nat_lt, min}
use Rattle.std.specs.Int.{bit_at}
use Rattle.gb_domain.specs.declared.low_bits.LowBits.{LowBits}

-- of n low bits, eight at most
unfoldable pub modulus : ℕ → ℕ
modulus n = 2 ^ min n 8

-- the n low bits of a number, eight at most
unfoldable pub low_bits : ℕ → ℕ → LowBits
low_bits n x = record { count = min n 8; bits = x % modulus n }

-- n low bits of both are the same (congruence)
unfoldable pub are_congruent : ℕ → ℕ → ℕ → Bool
are_congruent n x y = x % modulus n == y % modulus n

-- nothing is known
abbrev pub no_low_bits : LowBits
no_low_bits = record { count = 0; bits = 0 }

-- a byte is known
unfoldable pub all_of : ℕ → LowBits
all_of x = low_bits 8 x

-- n of them at most
unfoldable pub fewer : ℕ → LowBits → LowBits
fewer n k = low_bits (min n k.count) k.bits

-- as many bits as pass, from a bit on, of n at most
abbrev pub passing : (ℕ → Bool) → ℕ → ℕ → ℕ
passing passes zero i = i
passing passes (suc n) i = if passes i then passing passes n (i + 1) else i

-- as many bits as pass, from bit 0 on
abbrev pub count_passing : (ℕ → Bool) → ℕ
count_passing passes = passing passes 8 0

abbrev pub has_bit : LowBits → ℕ → Bool
has_bit k i = nat_lt i k.count

-- both have the bit, and it is the same
unfoldable pub is_common : LowBits → LowBits → ℕ → Bool
is_common j k i = has_bit j i && has_bit k i && bit_at j.bits i == bit_at k.bits i

-- what both have, from bit 0 on (the join)
unfoldable pub common : LowBits → LowBits → LowBits
common j k = low_bits (count_passing (is_common j k)) j.bits

-- what k says j says too
unfoldable pub covers : LowBits → LowBits → Bool
covers j k = nat_le k.count j.count && are_congruent k.count j.bits k.bits
