-- Power-up as an abstract state (Power-up sequence).
use Rattle.std.specs.Prelude.{ℕ, true, false, not, ◌==◌, List, slice_index, Some}
use Rattle.gb_ops.specs.declared.op.Register.{Register}
use Rattle.gb_ops.specs.declared.op.Register.TheVariants.{A, B, C, D, E, H, L}
use Rattle.gb_ops.specs.declared.machine.Region.{Region}
use Rattle.gb_rules.specs.Below.gb_domain.declared.types.Origin.TheVariants as origin
use Rattle.gb_rules.specs.Below.gb_domain.declared.types.Val.{Val}
use Rattle.gb_rules.specs.Below.gb_domain.declared.types.Core.{Core}
use Rattle.gb_rules.specs.Below.gb_domain.Types.{AbsState, state_of, origin_of_register, all_or_none}
use Rattle.gb_rules.specs.Below.gb_vals.Flags.{known}

-- a register's value at power-up, which is its own origin
abbrev pub own : Register → ℕ → Val
own r x = record { lo = x; hi = x; low_bits = 0; origin = Some (origin_of_register r) }

-- H and C are clear where the header's checksum is 00
unfoldable pub core_at_power_up : List ℕ → Region → Core
core_at_power_up rom region =
    let others = not (slice_index rom 0x14D == 0) in
    record {
      ime = record { off = true; pending = false; on = false };
      bound = 0;
      stack_set = region.last == 0xFFFD;
      ctl = record { bank_lo = 1; bank_hi = 1; second_lo = 0; second_hi = 0; gate = known false; mode = known false; kept = all_or_none true };
      flags = record { zero = known true; subtract = known false; half_carry = known others; carry = known others; is_own = true };
      ie = record { lo = 0; hi = 0; low_bits = 0; origin = Some origin.Ie };
      registers = record { a = own A 0x01; b = own B 0x00; c = own C 0x13; d = own D 0x00; e = own E 0xD8; h = own H 0x01; l = own L 0x4D };
    }

abbrev pub state_at_power_up : List ℕ → Region → AbsState
state_at_power_up rom region = state_of (core_at_power_up rom region)
