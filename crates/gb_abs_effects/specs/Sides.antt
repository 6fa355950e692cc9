-- The sides of an instruction: taken, and not taken (abstract interpretation: branch refinement; own).
use Rattle.std.specs.Prelude.{Option, Some, None}
use Rattle.gb_ops.specs.declared.op.Condition.{Condition}
use Rattle.gb_ops.specs.declared.op.Condition.TheVariants as condition
use Rattle.gb_ops.specs.declared.op.Op.{Op}
use Rattle.gb_ops.specs.declared.op.Op.TheVariants as op
use Rattle.gb_domain.specs.declared.types.Flg.{Flg}
use Rattle.gb_domain.specs.declared.types.Core.{Core}
use Rattle.gb_abs.specs.Below.gb_vals.Tests.{side}
use Rattle.gb_abs_effects.specs.declared.sides.Sides.{Sides}

abbrev pub opposite : Condition → Condition
opposite condition.NotZero = condition.Zero
opposite condition.Zero = condition.NotZero
opposite condition.NotCarry = condition.Carry
opposite condition.Carry = condition.NotCarry

abbrev pub condition_of : Op → Option Condition
condition_of (op.JumpRelativeIf condition e8) = Some condition
condition_of (op.ReturnIf condition) = Some condition
condition_of (op.JumpIf condition w) = Some condition
condition_of (op.CallIf condition w) = Some condition
condition_of _ = None

-- other flags, all else as it was
abbrev pub with_flags_if : Core → Option Flg → Option Core
with_flags_if s None = None
with_flags_if s (Some f) = Some (record s { flags = f })

-- the core where a condition is met, if that is possible
unfoldable pub side_of : Condition → Core → Option Core
side_of condition s = with_flags_if s (side condition s.flags)

abbrev pub sides_by : Option Condition → Core → Sides
sides_by None s = record { taken = Some s; not_taken = None }
sides_by (Some condition) s = record { taken = side_of condition s; not_taken = side_of (opposite condition) s }

-- the possible sides; an instruction without a condition has the taken side alone
unfoldable pub sides_of : Op → Core → Sides
sides_of o s = sides_by (condition_of o) s
