-- Arithmetic of bytes and words, with its flags (CPU instruction set).
use Rattle.std.specs.Prelude.{ℕ, ◌+◌, ◌-◌, ◌*◌, ◌/◌, ◌%◌, ◌^◌, Bool, true, false, ◌==◌, ◌||◌, ◌&&◌, nat_lt, nat_le, if◌then◌else◌, not, bit_and, bit_or, bit_xor}
use Rattle.gb_ops.specs.declared.registers.Flags.{Flags}
use Rattle.gb_ops.specs.declared.machine.Computed.{Computed}
use Rattle.gb_ops.specs.declared.op.AluOp.{AluOp}
use Rattle.gb_ops.specs.declared.op.AluOp.TheVariants as alu
use Rattle.gb_ops.specs.declared.op.Shift.{Shift}
use Rattle.gb_ops.specs.declared.op.Shift.TheVariants as shift
use Rattle.gb_ops.specs.Flags.{bit_of}

unfoldable pub added : ℕ → ℕ → ℕ → Computed
added a v carry =
    let sum = a + v + carry in
    record {
      value = sum % 256;
      flags = record {
        zero = sum % 256 == 0;
        subtract = false;
        half_carry = nat_lt 15 (a % 16 + v % 16 + carry);
        carry = nat_lt 255 sum;
      };
    }

unfoldable pub subtracted : ℕ → ℕ → ℕ → Computed
subtracted a v borrow =
    let difference = (a + 256 - (v + borrow)) % 256 in
    record {
      value = difference;
      flags = record {
        zero = difference == 0;
        subtract = true;
        half_carry = nat_lt (a % 16) (v % 16 + borrow);
        carry = nat_lt a (v + borrow);
      };
    }

unfoldable pub logical : ℕ → Bool → Computed
logical v half =
    record { value = v; flags = record { zero = v == 0; subtract = false; half_carry = half; carry = false } }

unfoldable pub alu_result : AluOp → ℕ → ℕ → Flags → Computed
alu_result alu.Add a v f = added a v 0
alu_result alu.Adc a v f = added a v (bit_of f.carry 1)
alu_result alu.Sub a v f = subtracted a v 0
alu_result alu.Sbc a v f = subtracted a v (bit_of f.carry 1)
alu_result alu.And a v f = logical (bit_and a v) true
alu_result alu.Xor a v f = logical (bit_xor a v) false
alu_result alu.Or a v f = logical (bit_or a v) false
alu_result alu.Cp a v f = record { value = a; flags = (subtracted a v 0).flags }

unfoldable pub incremented : ℕ → Flags → Computed
incremented v f =
    record {
      value = (v + 1) % 256;
      flags = record { zero = (v + 1) % 256 == 0; subtract = false; half_carry = (v + 1) % 16 == 0; carry = f.carry };
    }

unfoldable pub decremented : ℕ → Flags → Computed
decremented v f =
    record {
      value = (v + 255) % 256;
      flags = record { zero = (v + 255) % 256 == 0; subtract = true; half_carry = (v + 255) % 16 == 15; carry = f.carry };
    }

-- the byte that a rotation or shift makes, and the bit that it moves out
unfoldable pub shifted_value : Shift → ℕ → Bool → ℕ
shifted_value shift.Rlc v carry = v * 2 % 256 + v / 128
shifted_value shift.Rrc v carry = v / 2 + v % 2 * 128
shifted_value shift.Rl v carry = v * 2 % 256 + bit_of carry 1
shifted_value shift.Rr v carry = v / 2 + bit_of carry 128
shifted_value shift.Sla v carry = v * 2 % 256
shifted_value shift.Sra v carry = v / 2 + v / 128 * 128
shifted_value shift.Swap v carry = v / 16 + v % 16 * 16
shifted_value shift.Srl v carry = v / 2

unfoldable pub shifted_out : Shift → ℕ → Bool
shifted_out shift.Rlc v = nat_le 128 v
shifted_out shift.Rrc v = v % 2 == 1
shifted_out shift.Rl v = nat_le 128 v
shifted_out shift.Rr v = v % 2 == 1
shifted_out shift.Sla v = nat_le 128 v
shifted_out shift.Sra v = v % 2 == 1
shifted_out shift.Swap v = false
shifted_out shift.Srl v = v % 2 == 1

unfoldable pub shifted : Shift → ℕ → Bool → Computed
shifted how v carry =
    record {
      value = shifted_value how v carry;
      flags = record { zero = shifted_value how v carry == 0; subtract = false; half_carry = false; carry = shifted_out how v };
    }

-- e8 counts from where it is added, wrapping
unfoldable pub displaced : ℕ → ℕ → ℕ
displaced from e8 = (from + (if nat_lt e8 128 then e8 else e8 + 65280)) % 65536

-- bit n of a byte
unfoldable pub mask_of : ℕ → ℕ
mask_of n = 2 ^ (n % 8)

unfoldable pub bit_tested : ℕ → ℕ → Flags → Flags
bit_tested n v f = record { zero = bit_and v (mask_of n) == 0; subtract = false; half_carry = true; carry = f.carry }

unfoldable pub bit_reset : ℕ → ℕ → ℕ
bit_reset n v = bit_and v (255 - mask_of n)

unfoldable pub bit_set : ℕ → ℕ → ℕ
bit_set n v = bit_or v (mask_of n)

-- what DAA takes off or adds
unfoldable pub adjustment : Bool → Bool → ℕ
adjustment low high = bit_of low 6 + bit_of high 96

unfoldable pub adjusted : ℕ → Flags → Computed
adjusted a f =
    let low = f.half_carry || (not f.subtract && nat_lt 9 (a % 16)) in
    let high = f.carry || (not f.subtract && nat_lt 153 a) in
    let value = (if f.subtract then (a + 256 - adjustment low high) % 256 else (a + adjustment low high) % 256) in
    record { value = value; flags = record { zero = value == 0; subtract = f.subtract; half_carry = false; carry = high } }

unfoldable pub word_sum_flags : ℕ → ℕ → Flags → Flags
word_sum_flags x y f =
    record {
      zero = f.zero;
      subtract = false;
      half_carry = nat_lt 4095 (x % 4096 + y % 4096);
      carry = nat_lt 65535 (x + y);
    }

unfoldable pub sp_sum_flags : ℕ → ℕ → Flags
sp_sum_flags sp e8 =
    record {
      zero = false;
      subtract = false;
      half_carry = nat_lt 15 (sp % 16 + e8 % 16);
      carry = nat_lt 255 (sp % 256 + e8);
    }
