-- DAA on intervals (CPU instruction set; own).
use Rattle.std.specs.Prelude.{Bool, false, ◌&&◌, if◌then◌else◌}
use Rattle.gb_domain.specs.declared.types.Val.{Val}
use Rattle.gb_domain.specs.declared.types.Flg.{Flg}
use Rattle.gb_ops.specs.Arithmetic as machine
use Rattle.gb_vals.specs.declared.outcome.AbsComputed.{AbsComputed}
use Rattle.gb_vals.specs.Vals.{any_val, is_single}
use Rattle.gb_vals.specs.Flags.{known, either, is_known, greatest_flags}
use Rattle.gb_vals.specs.Outcomes.{exact}

-- DAA reads N, H and C, and keeps N
abbrev pub are_read_known : Flg → Bool
are_read_known f = is_known f.subtract && is_known f.half_carry && is_known f.carry

abbrev pub adjusted_any : Flg → AbsComputed
adjusted_any f =
    record {
      val = any_val;
      flags = record {
        zero = either;
        subtract = f.subtract;
        half_carry = known false;
        carry = either;
        is_own = false;
      };
    }

unfoldable pub adjustment_of : Val → Flg → AbsComputed
adjustment_of a f = if is_single a && are_read_known f then exact (machine.adjusted a.lo (greatest_flags f)) else adjusted_any f
