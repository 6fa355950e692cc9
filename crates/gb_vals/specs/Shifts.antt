-- Rotations, shifts and SWAP on intervals (CPU instruction set: bit shifts; own).
use Rattle.std.specs.Prelude.{ℕ, ◌/◌, Bool, true, false, ◌&&◌, if◌then◌else◌}
use Rattle.gb_ops.specs.declared.op.Shift.{Shift}
use Rattle.gb_ops.specs.declared.op.Shift.TheVariants as shift
use Rattle.gb_ops.specs.declared.registers.Flags.{Flags}
use Rattle.gb_ops.specs.declared.machine.Computed.{Computed}
use Rattle.gb_domain.specs.declared.types.Val.{Val}
use Rattle.gb_domain.specs.declared.types.May.{May}
use Rattle.gb_domain.specs.declared.types.Flg.{Flg}
use Rattle.gb_ops.specs.Effects.{without_zero}
use Rattle.gb_ops.specs.Arithmetic as machine
use Rattle.gb_vals.specs.declared.outcome.AbsComputed.{AbsComputed}
use Rattle.gb_vals.specs.Vals.{between, any_val, is_single}
use Rattle.gb_vals.specs.Flags.{known, either, is_known}
use Rattle.gb_vals.specs.Outcomes.{exact}

-- where C is read, it is known
abbrev pub is_carry_known : Shift → May → Bool
is_carry_known shift.Rl carry = is_known carry
is_carry_known shift.Rr carry = is_known carry
is_carry_known _ carry = true

-- SRL halves; of the others nothing is known
abbrev pub shifted_val : Shift → Val → Val
shifted_val shift.Srl v = between (v.lo / 2) (v.hi / 2)
shifted_val _ v = any_val

-- SWAP moves no bit out
abbrev pub carry_out : Shift → May
carry_out shift.Swap = known false
carry_out _ = either

abbrev pub shifted_any : Shift → Val → AbsComputed
shifted_any how v =
    record {
      val = shifted_val how v;
      flags = record {
        zero = either;
        subtract = known false;
        half_carry = known false;
        carry = carry_out how;
        is_own = false;
      };
    }

unfoldable pub shift_of : Shift → Val → Flg → AbsComputed
shift_of how v f =
    if is_single v && is_carry_known how f.carry then exact (machine.shifted how v.lo f.carry.set) else shifted_any how v

-- what the machine makes of a byte and the flags
abbrev pub shift_result : Shift → ℕ → Flags → Computed
shift_result how v f = machine.shifted how v f.carry

-- the outcome, with Z clear
abbrev pub clearing_zero : AbsComputed → AbsComputed
clearing_zero o = record o { flags = record o.flags { zero = known false } }

-- RLCA, RRCA, RLA and RRA
unfoldable pub rotation_of_a : Shift → Val → Flg → AbsComputed
rotation_of_a how a f = clearing_zero (shift_of how a f)

-- what the machine makes of A and the flags
abbrev pub rotation_result : Shift → ℕ → Flags → Computed
rotation_result how a f = without_zero (machine.shifted how a f.carry)
