-- SCF and CCF on sets of flags (CPU instruction set; own).
use Rattle.std.specs.Prelude.{true, false, not, if◌then◌else◌}
use Rattle.gb_ops.specs.declared.registers.Flags.{Flags}
use Rattle.gb_domain.specs.declared.types.May.{May}
use Rattle.gb_domain.specs.declared.types.Flg.{Flg}
use Rattle.gb_vals.specs.Flags.{known, either, is_known}

-- C becomes this, N and H clear, Z as it was
abbrev pub with_carry : May → Flg → Flg
with_carry carry f = record f { subtract = known false; half_carry = known false; carry = carry; is_own = false }

unfoldable pub set_carry : Flg → Flg
set_carry f = with_carry (known true) f

unfoldable pub complement_carry : Flg → Flg
complement_carry f = with_carry (if is_known f.carry then known (not f.carry.set) else either) f

-- what the machine's SCF and CCF make of the flags
abbrev pub set_carry_result : Flags → Flags
set_carry_result f = record f { subtract = false; half_carry = false; carry = true }

abbrev pub complement_carry_result : Flags → Flags
complement_carry_result f = record f { subtract = false; half_carry = false; carry = not f.carry }
