-- The eight operations of A with an operand (CPU instruction set: 8-bit arithmetic and logic).
use Rattle.std.specs.Prelude.{ℕ, Bool, true, false, if◌then◌else◌, Option, None}
use Rattle.gb_ops.specs.declared.op.AluOp.{AluOp}
use Rattle.gb_ops.specs.declared.op.AluOp.TheVariants as op
use Rattle.gb_ops.specs.declared.registers.Flags.{Flags}
use Rattle.gb_ops.specs.declared.machine.Computed.{Computed}
use Rattle.gb_ops.specs.Arithmetic.{alu_result}
use Rattle.gb_domain.specs.declared.types.Origin.{Origin}
use Rattle.gb_domain.specs.declared.types.Val.{Val}
use Rattle.gb_domain.specs.declared.types.Flg.{Flg}
use Rattle.gb_vals.specs.declared.outcome.AbsComputed.{AbsComputed}
use Rattle.gb_vals.specs.Vals.{single, is_single}
use Rattle.gb_vals.specs.Flags.{known}
use Rattle.gb_vals.specs.Sums.{sum, difference}
use Rattle.gb_vals.specs.Logic.{conjunction, disjunction, exclusion, of_itself}

-- the outcome, with another value
abbrev pub with_val : Val → AbsComputed → AbsComputed
with_val v o = record o { val = v }

-- an operation of A with another operand; CP leaves A
unfoldable pub alu : AluOp → Val → Val → Flg → AbsComputed
alu op.Add a v f = sum a v (known false)
alu op.Adc a v f = sum a v f.carry
alu op.Sub a v f = difference a v (known false)
alu op.Sbc a v f = difference a v f.carry
alu op.And a v f = conjunction a v
alu op.Xor a v f = exclusion a v
alu op.Or a v f = disjunction a v
alu op.Cp a v f = with_val a (difference a v (known false))

-- Z set, H and C clear: what any byte leaves with itself
abbrev pub nothing_left : Bool → Flg
nothing_left subtract =
    record {
      zero = known true;
      subtract = known subtract;
      half_carry = known false;
      carry = known false;
      is_own = false;
    }

-- an operation of A with A
unfoldable pub alu_itself : AluOp → Val → Flg → AbsComputed
alu_itself op.Add a f = sum a a (known false)
alu_itself op.Adc a f = sum a a f.carry
alu_itself op.Sub a f = record { val = single 0; flags = nothing_left true }
alu_itself op.Sbc a f = difference a a f.carry
alu_itself op.And a f = of_itself a true
alu_itself op.Xor a f = record { val = single 0; flags = nothing_left false }
alu_itself op.Or a f = of_itself a false
alu_itself op.Cp a f = record { val = a; flags = nothing_left true }

-- what A is a copy of afterwards: CP leaves A
abbrev pub alu_origin : AluOp → Val → Option Origin
alu_origin op.Cp a = a.origin
alu_origin _ a = None

-- the origin of A after an operation with itself: AND and OR leave an A that isn't known
abbrev pub itself_origin : AluOp → Val → Option Origin
itself_origin op.And a = if is_single a then None else a.origin
itself_origin op.Or a = if is_single a then None else a.origin
itself_origin op.Cp a = a.origin
itself_origin _ a = None

-- what the machine makes of A and a known operand
abbrev pub result_with : AluOp → ℕ → ℕ → Flags → Computed
result_with how n a f = alu_result how a n f

-- what the machine makes of A and A
abbrev pub result_with_itself : AluOp → ℕ → Flags → Computed
result_with_itself how a f = alu_result how a a f
