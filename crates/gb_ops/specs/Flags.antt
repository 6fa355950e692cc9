-- F as four flags and as a byte, and the conditions on it (CPU registers and flags).
use Rattle.std.specs.Prelude.{ℕ, ◌+◌, ◌/◌, ◌%◌, Bool, true, false, ◌==◌, not}
use Rattle.gb_ops.specs.declared.registers.Flags.{Flags}
use Rattle.gb_ops.specs.declared.op.Condition.{Condition}
use Rattle.gb_ops.specs.declared.op.Condition.TheVariants as condition

unfoldable pub bit_of : Bool → ℕ → ℕ
bit_of true weight = weight
bit_of false weight = 0

-- Z N H C in bits 7 to 4
unfoldable pub flags_byte : Flags → ℕ
flags_byte f = bit_of f.zero 128 + bit_of f.subtract 64 + bit_of f.half_carry 32 + bit_of f.carry 16

unfoldable pub flags_of : ℕ → Flags
flags_of b =
    record {
      zero = b / 128 % 2 == 1;
      subtract = b / 64 % 2 == 1;
      half_carry = b / 32 % 2 == 1;
      carry = b / 16 % 2 == 1;
    }

unfoldable pub is_met : Condition → Flags → Bool
is_met condition.NotZero f = not f.zero
is_met condition.Zero f = f.zero
is_met condition.NotCarry f = not f.carry
is_met condition.Carry f = f.carry
