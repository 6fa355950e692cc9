-- What a branch leaves of the places that hold a tested byte (abstract interpretation: branch refinement; own).
use Rattle.std.specs.Prelude.{ℕ, zero, suc, ◌+◌, ◌-◌, Bool, true, false, not, ◌&&◌, ◌==◌, if◌then◌else◌, nat_lt, bit_and, Option, Some, None}
use Rattle.gb_ops.specs.declared.op.Condition.{Condition}
use Rattle.gb_ops.specs.declared.op.Condition.TheVariants as condition
use Rattle.gb_domain.specs.declared.types.Val.{Val}
use Rattle.gb_domain.specs.declared.interval.StridedInterval.{StridedInterval}
use Rattle.gb_domain.specs.declared.places.Test.{Test}
use Rattle.gb_domain.specs.declared.places.Test.TheVariants as test
use Rattle.gb_domain.specs.declared.places.OneByte.{OneByte}
use Rattle.gb_domain.specs.LowBits.{are_congruent}
use Rattle.gb_domain.specs.Interval.{bounds, any_byte, cut}
use Rattle.gb_domain.specs.Values.{interval_of}
use Rattle.gb_copies.specs.declared.sides.PlaceContents.{PlaceContents}
use Rattle.gb_copies.specs.Places.{has_address}

-- ---- the byte's values

-- those that a place has too
abbrev pub cut_if : Bool → Val → Option StridedInterval → Option StridedInterval
cut_if true x (Some v) = cut v (interval_of x)
cut_if true x None = None
cut_if false x o = o

-- the values that all places share: any byte, cut to each of them in turn
unfoldable pub shared : OneByte → PlaceContents → Option StridedInterval
shared b c =
    cut_if b.registers.a c.registers.a (cut_if b.registers.b c.registers.b (cut_if b.registers.c c.registers.c
    (cut_if b.registers.d c.registers.d (cut_if b.registers.e c.registers.e (cut_if b.registers.h c.registers.h
    (cut_if b.registers.l c.registers.l (cut_if (has_address b) c.memory (Some any_byte))))))))

-- ---- the side of a comparison

-- v's values from first on, and below end
unfoldable pub between : ℕ → ℕ → StridedInterval → Option StridedInterval
between first end v = if nat_lt first end then cut v (bounds first (end - 1)) else None

-- all but n, where n is an end
abbrev pub without : ℕ → StridedInterval → Option StridedInterval
without n v =
    if v.lo == n then between (n + 1) 256 v
    else if v.hi == n then between 0 n v
    else Some v

-- v's values that a condition leaves behind a comparison with n
unfoldable pub compared : ℕ → Condition → StridedInterval → Option StridedInterval
compared n condition.NotZero v = without n v
compared n condition.Zero v = between n (n + 1) v
compared n condition.NotCarry v = between n 256 v
compared n condition.Carry v = between 0 n v

-- ---- the side of a test of bits

-- whether a value has one of the bits, or where that isn't wanted none
abbrev pub has_bits : ℕ → Bool → ℕ → Bool
has_bits m true v = not (bit_and v m == 0)
has_bits m false v = bit_and v m == 0

-- the same, of a byte that has v's low bits
unfoldable pub is_left : ℕ → Bool → StridedInterval → ℕ → Bool
is_left m wanted v x = has_bits m wanted x && are_congruent v.count x v.lo

-- the least of n values from v on that passes
abbrev pub least_from : (ℕ → Bool) → ℕ → ℕ → Option ℕ
least_from passes zero v = None
least_from passes (suc n) v = if passes v then Some v else least_from passes n (v + 1)

-- the greatest of n values from v down that passes
abbrev pub greatest_from : (ℕ → Bool) → ℕ → ℕ → Option ℕ
greatest_from passes zero v = None
greatest_from passes (suc n) v = if passes v then Some v else greatest_from passes n (v - 1)

-- v's values from the least to the greatest
abbrev pub cut_to_ends : StridedInterval → Option ℕ → Option ℕ → Option StridedInterval
cut_to_ends v (Some lo) (Some hi) = cut v (bounds lo hi)
cut_to_ends v _ _ = None

-- the least to the greatest of v's values with one of the bits, or of those with none
unfoldable pub with_bits : ℕ → Bool → StridedInterval → Option StridedInterval
with_bits m wanted v =
    cut_to_ends v
    (least_from (is_left m wanted v) (v.hi + 1 - v.lo) v.lo)
    (greatest_from (is_left m wanted v) (v.hi + 1 - v.lo) v.hi)

-- ---- the side of a test

-- v's values that a condition leaves behind a test
unfoldable pub side_of : Test → Condition → StridedInterval → Option StridedInterval
side_of (test.Compare n) c v = compared n c v
side_of (test.Bits m) condition.Zero v = with_bits m false v
side_of (test.Bits m) condition.NotZero v = with_bits m true v
side_of (test.Bits m) _ v = Some v

abbrev pub side_if : Test → Condition → Option StridedInterval → Option StridedInterval
side_if t c None = None
side_if t c (Some v) = side_of t c v

-- the test speaks of the condition's flag
abbrev pub is_asked : Test → Condition → Bool
is_asked (test.Compare n) c = true
is_asked (test.Bits m) condition.Zero = true
is_asked (test.Bits m) condition.NotZero = true
is_asked (test.Bits m) _ = false

-- ---- the places

-- a place gets the byte's values; its origin stays
abbrev pub given : Bool → StridedInterval → Val → Val
given true v x = record x { lo = v.lo; hi = v.hi; low_bits = v.count }
given false v x = x

unfoldable pub with_byte : OneByte → StridedInterval → PlaceContents → PlaceContents
with_byte b v c =
    record {
      registers = record {
        a = given b.registers.a v c.registers.a;
        b = given b.registers.b v c.registers.b;
        c = given b.registers.c v c.registers.c;
        d = given b.registers.d v c.registers.d;
        e = given b.registers.e v c.registers.e;
        h = given b.registers.h v c.registers.h;
        l = given b.registers.l v c.registers.l;
      };
      memory = given (has_address b) v c.memory;
    }

abbrev pub with_byte_if : OneByte → Option StridedInterval → PlaceContents → Option PlaceContents
with_byte_if b None c = None
with_byte_if b (Some v) c = Some (with_byte b v c)

abbrev pub narrowed_by_test : OneByte → Option Test → Condition → PlaceContents → Option PlaceContents
narrowed_by_test b None k c = Some c
narrowed_by_test b (Some t) k c = if is_asked t k then with_byte_if b (side_if t k (shared b c)) c else Some c

-- what registers and the byte's address hold where a condition is met: none where that can't be
unfoldable pub narrowed : OneByte → Condition → PlaceContents → Option PlaceContents
narrowed b k c = narrowed_by_test b b.test k c
