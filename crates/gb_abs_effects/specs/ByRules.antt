-- Operations by the rules of version 4, whose values have low bits (whole), and by those of versions 1 to 3 (own).
use Rattle.std.specs.Prelude.{ℕ, Bool, if◌then◌else◌}
use Rattle.gb_ops.specs.declared.op.AluOp.{AluOp}
use Rattle.gb_ops.specs.declared.op.Shift.{Shift}
use Rattle.gb_domain.specs.declared.types.Val.{Val}
use Rattle.gb_domain.specs.declared.types.Flg.{Flg}
use Rattle.gb_abs.specs.Below.gb_vals.declared.outcome.AbsComputed.{AbsComputed}
use Rattle.gb_abs.specs.Below.gb_vals.Alu as Alu
use Rattle.gb_abs.specs.Below.gb_vals.Bits as Bits
use Rattle.gb_abs.specs.Below.gb_vals.Logic as Logic
use Rattle.gb_abs.specs.Below.gb_vals.Shifts as Shifts
use Rattle.gb_abs.specs.Below.gb_vals.Strided as Strided
use Rattle.gb_abs.specs.Below.gb_vals.Sums as Sums

unfoldable pub alu_by : Bool → AluOp → Val → Val → Flg → AbsComputed
alu_by whole how a v f = if whole then Strided.alu how a v f else Alu.alu how a v f

unfoldable pub itself_by : Bool → AluOp → Val → Flg → AbsComputed
itself_by whole how a f = if whole then Strided.alu_itself how a f else Alu.alu_itself how a f

unfoldable pub complement_by : Bool → Val → Flg → AbsComputed
complement_by whole a f = if whole then Strided.complement a f else Logic.complement a f

unfoldable pub increment_by : Bool → Val → Flg → AbsComputed
increment_by whole v f = if whole then Strided.increment v f else Sums.increment v f

unfoldable pub decrement_by : Bool → Val → Flg → AbsComputed
decrement_by whole v f = if whole then Strided.decrement v f else Sums.decrement v f

unfoldable pub shift_by : Bool → Shift → Val → Flg → AbsComputed
shift_by whole how v f = if whole then Strided.shift_of how v f else Shifts.shift_of how v f

unfoldable pub reset_bit_by : Bool → ℕ → Val → Val
reset_bit_by whole n v = if whole then Strided.reset_bit n v else Bits.reset_bit n v

unfoldable pub set_bit_by : Bool → ℕ → Val → Val
set_bit_by whole n v = if whole then Strided.set_bit n v else Bits.set_bit n v
