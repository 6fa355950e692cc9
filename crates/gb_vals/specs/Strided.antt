-- Operations whose results are cut to the low bits that are left (abstract interpretation: strided intervals, the reduced product
-- of intervals and congruences; own).
use Rattle.std.specs.Prelude.{ℕ, ◌/◌, Bool, false, ◌==◌, Option, Some, None, if◌then◌else◌}
use Rattle.gb_ops.specs.declared.op.AluOp.{AluOp}
use Rattle.gb_ops.specs.declared.op.AluOp.TheVariants as op
use Rattle.gb_ops.specs.declared.op.Shift.{Shift}
use Rattle.gb_ops.specs.declared.op.Shift.TheVariants as shift
use Rattle.gb_domain.specs.declared.types.Val.{Val}
use Rattle.gb_domain.specs.declared.types.May.{May}
use Rattle.gb_domain.specs.declared.types.Flg.{Flg}
use Rattle.gb_domain.specs.declared.low_bits.LowBits.{LowBits}
use Rattle.gb_domain.specs.declared.interval.StridedInterval.{StridedInterval}
use Rattle.gb_domain.specs.Interval.{low_bits_of, with_low_bits}
use Rattle.gb_domain.specs.Values.{interval_of}
use Rattle.gb_vals.specs.declared.outcome.AbsComputed.{AbsComputed}
use Rattle.gb_vals.specs.Vals.{between}
use Rattle.gb_vals.specs.Flags.{is_known}
use Rattle.gb_vals.specs.Congruence.{with_digits_swapped}
use Rattle.gb_vals.specs.LowLogic as LowLogic
use Rattle.gb_vals.specs.LowShifts as LowShifts
use Rattle.gb_vals.specs.LowSums as LowSums
use Rattle.gb_vals.specs.Alu as Alu
use Rattle.gb_vals.specs.Bits as Bits
use Rattle.gb_vals.specs.Logic as Logic
use Rattle.gb_vals.specs.Shifts as Shifts
use Rattle.gb_vals.specs.Sums as Sums

-- ---- cutting

-- the low bits that all values of v have: of a single one all eight
abbrev pub low_of : Val → LowBits
low_of v = low_bits_of (interval_of v)

-- v, of whose values these are left; where none is, all are
abbrev pub left_of : Val → Option StridedInterval → Val
left_of v None = v
left_of v (Some i) = record v { lo = i.lo; hi = i.hi; low_bits = i.count }

-- a computed value, which says nothing of low bits by itself, cut to them
unfoldable pub cut_to : LowBits → Val → Val
cut_to k v = left_of v (with_low_bits v.lo v.hi k)

-- an outcome whose value is cut; the flags go by its bounds before
abbrev pub cutting : Option LowBits → AbsComputed → AbsComputed
cutting None o = o
cutting (Some k) o = Alu.with_val (cut_to k o.val) o

-- ---- operations of A

-- a carry, where it is known
abbrev pub known_bit : May → Option Bool
known_bit m = if is_known m then Some m.set else None

-- what an operation of A with another operand leaves of the low bits; CP leaves A itself
abbrev pub alu_low_bits : AluOp → LowBits → LowBits → May → Option LowBits
alu_low_bits op.Add j k carry = Some (LowSums.sum j k (Some false))
alu_low_bits op.Adc j k carry = Some (LowSums.sum j k (known_bit carry))
alu_low_bits op.Sub j k carry = Some (LowSums.difference j k (Some false))
alu_low_bits op.Sbc j k carry = Some (LowSums.difference j k (known_bit carry))
alu_low_bits op.And j k carry = Some (LowLogic.conjunction j k)
alu_low_bits op.Xor j k carry = Some (LowLogic.exclusion j k)
alu_low_bits op.Or j k carry = Some (LowLogic.disjunction j k)
alu_low_bits op.Cp j k carry = None

unfoldable pub alu : AluOp → Val → Val → Flg → AbsComputed
alu how a v f = cutting (alu_low_bits how (low_of a) (low_of v) f.carry) (Alu.alu how a v f)

-- A with A: ADD doubles; SUB and XOR give 0, AND, OR and CP leave A, and of ADC and SBC nothing is said
abbrev pub itself_low_bits : AluOp → LowBits → Option LowBits
itself_low_bits op.Add k = Some (LowShifts.doubled k)
itself_low_bits _ k = None

unfoldable pub alu_itself : AluOp → Val → Flg → AbsComputed
alu_itself how a f = cutting (itself_low_bits how (low_of a)) (Alu.alu_itself how a f)

unfoldable pub complement : Val → Flg → AbsComputed
complement a f = cutting (Some (LowLogic.complement (low_of a))) (Logic.complement a f)

-- ---- bytes

unfoldable pub increment : Val → Flg → AbsComputed
increment v f = cutting (Some (LowSums.incremented (low_of v))) (Sums.increment v f)

unfoldable pub decrement : Val → Flg → AbsComputed
decrement v f = cutting (Some (LowSums.decremented (low_of v))) (Sums.decrement v f)

-- shifts that leave low bits where they can be said
abbrev pub shift_low_bits : Shift → LowBits → Option LowBits
shift_low_bits shift.Sla k = Some (LowShifts.doubled k)
shift_low_bits shift.Srl k = Some (LowShifts.halved k)
shift_low_bits _ k = None

-- SWAP of values with one high digit: the bounds swapped, and the low bits of the low digit behind it
unfoldable pub swapped : Val → Val
swapped v =
    cut_to (LowShifts.swapped (v.lo / 16) (low_of v)) (between (with_digits_swapped v.lo) (with_digits_swapped v.hi))

unfoldable pub swap : Val → AbsComputed → AbsComputed
swap v o = if v.lo / 16 == v.hi / 16 then Alu.with_val (swapped v) o else o

unfoldable pub shift_of : Shift → Val → Flg → AbsComputed
shift_of shift.Swap v f = swap v (Shifts.shift_of shift.Swap v f)
shift_of how v f = cutting (shift_low_bits how (low_of v)) (Shifts.shift_of how v f)

unfoldable pub reset_bit : ℕ → Val → Val
reset_bit n v = cut_to (LowLogic.reset_bit n (low_of v)) (Bits.reset_bit n v)

unfoldable pub set_bit : ℕ → Val → Val
set_bit n v = cut_to (LowLogic.set_bit n (low_of v)) (Bits.set_bit n v)
