-- Sets of addresses (abstract interpretation: strided intervals; own).
use Rattle.std.specs.Prelude.{ℕ, zero, suc, ◌+◌, ◌-◌, Bool, true, false, ◌&&◌, ◌||◌, ◌==◌, nat_le, Option, Some, None}
use Rattle.gb_domain.specs.declared.interval.StridedInterval.{StridedInterval}
use Rattle.gb_domain.specs.Interval.{any_byte, join}
use Rattle.gb_domain.specs.LowBits.{are_congruent}
use Rattle.gb_ram_bounds.specs.declared.addresses.AddressSet.{AddressSet}

-- from first to last, those whose low byte has the low bits
unfoldable pub is_in : AddressSet → ℕ → Bool
is_in s a = nat_le s.first a && nat_le a s.last && are_congruent s.low.count a s.low.bits

-- some one of n addresses from a on passes
abbrev pub some_of : (ℕ → Bool) → ℕ → ℕ → Bool
some_of passes zero a = false
some_of passes (suc n) a = passes a || some_of passes n (a + 1)

-- each one of them passes
abbrev pub each_of : (ℕ → Bool) → ℕ → ℕ → Bool
each_of passes zero a = true
each_of passes (suc n) a = passes a && each_of passes n (a + 1)

-- some address from first to last passes
abbrev pub some_between : ℕ → ℕ → (ℕ → Bool) → Bool
some_between first last passes = some_of passes (last + 1 - first) first

-- each address from first to last passes
abbrev pub each_between : ℕ → ℕ → (ℕ → Bool) → Bool
each_between first last passes = each_of passes (last + 1 - first) first

-- the address is the only one
unfoldable pub is_one : AddressSet → Bool
is_one s = s.first == s.last

-- ---- a byte at one of several addresses

abbrev pub joined_with : Option StridedInterval → StridedInterval → StridedInterval
joined_with None w = w
joined_with (Some v) w = join v w

-- what is known so far, and w where it counts
abbrev pub joined_if : Bool → Option StridedInterval → StridedInterval → Option StridedInterval
joined_if false o w = o
joined_if true o w = Some (joined_with o w)

-- the join of what is known at those of n addresses from a on that count, if one does
abbrev pub joined_of : (ℕ → Bool) → (ℕ → StridedInterval) → ℕ → ℕ → Option StridedInterval
joined_of counts value a zero = None
joined_of counts value a (suc n) = joined_if (counts (a + n)) (joined_of counts value a n) (value (a + n))

abbrev pub or_any : Option StridedInterval → StridedInterval
or_any None = any_byte
or_any (Some v) = v

-- what is known of a byte at one of these addresses: the join of what is known at each; where there is none, nothing
unfoldable pub joined_over : AddressSet → (ℕ → StridedInterval) → StridedInterval
joined_over s value = or_any (joined_of (is_in s) value s.first (s.last + 1 - s.first))
