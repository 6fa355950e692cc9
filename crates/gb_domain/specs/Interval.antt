-- Intervals of bytes that leave out all but each 2 ^ n-th (abstract interpretation: strided intervals; own).
use Rattle.std.specs.Prelude.{ℕ, ◌+◌, ◌-◌, ◌%◌, Bool, ◌&&◌, ◌==◌, Option, Some, None, if◌then◌else◌, nat_le, min, max}
use Rattle.gb_domain.specs.declared.low_bits.LowBits.{LowBits}
use Rattle.gb_domain.specs.declared.interval.StridedInterval.{StridedInterval}
use Rattle.gb_domain.specs.LowBits.{modulus, low_bits, all_of, are_congruent, common, covers}

-- all bytes from lo to hi
abbrev pub bounds : ℕ → ℕ → StridedInterval
bounds lo hi = record { lo = lo; hi = hi; count = 0 }

abbrev pub any_byte : StridedInterval
any_byte = bounds 0 255

-- what all its values have: of one value everything
unfoldable pub low_bits_of : StridedInterval → LowBits
low_bits_of v = if v.lo == v.hi then all_of v.lo else low_bits v.count v.lo

-- the least value from lo on that has the low bits
unfoldable pub least : ℕ → LowBits → ℕ
least lo k = lo + (k.bits % modulus k.count + modulus k.count - lo % modulus k.count) % modulus k.count

-- the greatest value up to hi that has them, where there is one
unfoldable pub greatest : ℕ → LowBits → ℕ
greatest hi k = hi - (hi % modulus k.count + modulus k.count - k.bits % modulus k.count) % modulus k.count

-- of one value the count says nothing
abbrev pub strided : ℕ → ℕ → ℕ → StridedInterval
strided lo hi n = record { lo = lo; hi = hi; count = if lo == hi then 0 else n }

-- the bytes from lo to hi that have the low bits
unfoldable pub with_low_bits : ℕ → ℕ → LowBits → Option StridedInterval
with_low_bits lo hi k = if nat_le (least lo k) hi then Some (strided (least lo k) (greatest hi k) (min k.count 8)) else None

-- some number has both
unfoldable pub agree : LowBits → LowBits → Bool
agree j k = are_congruent (min j.count k.count) j.bits k.bits

-- the one that says more
abbrev pub more : LowBits → LowBits → LowBits
more j k = if nat_le k.count j.count then j else k

-- v cut to w: the values that both have
unfoldable pub cut : StridedInterval → StridedInterval → Option StridedInterval
cut v w =
    if agree (low_bits_of v) (low_bits_of w)
    then with_low_bits (max v.lo w.lo) (min v.hi w.hi) (more (low_bits_of v) (low_bits_of w))
    else None

-- the least interval that holds both, with the low bits that all their values have (the join)
unfoldable pub join : StridedInterval → StridedInterval → StridedInterval
join v w = strided (min v.lo w.lo) (max v.hi w.hi) (common (low_bits_of v) (low_bits_of w)).count

-- w's bounds hold v's, and what w says of low bits v says too
unfoldable pub lies_in : StridedInterval → StridedInterval → Bool
lies_in v w = nat_le w.lo v.lo && nat_le v.hi w.hi && covers (low_bits_of v) (low_bits w.count w.lo)
