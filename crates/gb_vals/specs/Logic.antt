-- AND, OR, XOR and CPL on intervals (abstract interpretation: bounds of bitwise operations; own).
use Rattle.std.specs.Prelude.{ℕ, ◌-◌, Bool, true, false, ◌&&◌, if◌then◌else◌, nat_le, bit_and, bit_or, bit_xor}
use Rattle.gb_ops.specs.declared.registers.Flags.{Flags}
use Rattle.gb_ops.specs.declared.machine.Computed.{Computed}
use Rattle.gb_domain.specs.declared.types.Val.{Val}
use Rattle.gb_domain.specs.declared.types.Flg.{Flg}
use Rattle.gb_ops.specs.Arithmetic as machine
use Rattle.gb_vals.specs.declared.outcome.AbsComputed.{AbsComputed}
use Rattle.gb_vals.specs.Vals.{between, any_val, is_single}
use Rattle.gb_vals.specs.Flags.{known, zero_by}
use Rattle.gb_vals.specs.Outcomes.{exact}

abbrev pub smaller : ℕ → ℕ → ℕ
smaller x y = if nat_le x y then x else y

abbrev pub larger : ℕ → ℕ → ℕ
larger x y = if nat_le x y then y else x

-- a value with the flags of AND, OR and XOR: Z by its bounds
abbrev pub logical : Val → Bool → AbsComputed
logical v half =
    record {
      val = v;
      flags = record {
        zero = zero_by v;
        subtract = known false;
        half_carry = known half;
        carry = known false;
        is_own = false;
      };
    }

abbrev pub are_single : Val → Val → Bool
are_single a v = is_single a && is_single v

unfoldable pub conjunction : Val → Val → AbsComputed
conjunction a v =
    if are_single a v
    then exact (machine.logical (bit_and a.lo v.lo) true)
    else logical (between 0 (smaller a.hi v.hi)) true

unfoldable pub disjunction : Val → Val → AbsComputed
disjunction a v =
    if are_single a v
    then exact (machine.logical (bit_or a.lo v.lo) false)
    else logical (between (larger a.lo v.lo) 255) false

unfoldable pub exclusion : Val → Val → AbsComputed
exclusion a v =
    if are_single a v
    then exact (machine.logical (bit_xor a.lo v.lo) false)
    else logical any_val false

-- AND A and OR A: A stays, with its origin where it isn't known
unfoldable pub of_itself : Val → Bool → AbsComputed
of_itself a half = if is_single a then exact (machine.logical a.lo half) else logical a half

-- what the machine's CPL makes of A and the flags
abbrev pub complement_result : ℕ → Flags → Computed
complement_result a f = record { value = 255 - a; flags = record f { subtract = true; half_carry = true } }

unfoldable pub complement : Val → Flg → AbsComputed
complement a f =
    record {
      val = between (255 - a.hi) (255 - a.lo);
      flags = record f { subtract = known true; half_carry = known true; is_own = false };
    }
