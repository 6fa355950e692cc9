-- Of what is computed no low bits are known, so that its ends are among its values.
use Rattle.std.proofs.Common.{◌≡◌, ℕ, ◌+◌, ◌-◌, ◌/◌, ◌%◌, Bool, true, false, ◌&&◌, ◌==◌, cond, nat_lt, bit_and, bit_or, refl}
use Rattle.std.specs.Prelude.{bit_xor}
use Rattle.gb_ops.specs.declared.op.AluOp.{AluOp}
use Rattle.gb_ops.specs.declared.op.AluOp.TheVariants as op
use Rattle.gb_ops.specs.declared.op.Shift.{Shift}
use Rattle.gb_ops.specs.declared.op.Shift.TheVariants as shift
use Rattle.gb_ops.specs.Arithmetic as machine
use Rattle.gb_domain.specs.declared.types.Val.{Val}
use Rattle.gb_domain.specs.declared.types.May.{May}
use Rattle.gb_domain.specs.declared.types.Flg.{Flg}
use Rattle.gb_domain.specs.Values.{is_strided}
use Rattle.gb_vals.specs.declared.outcome.AbsComputed.{AbsComputed}
use Rattle.gb_vals.specs.Vals.{between, single, any_val, is_single}
use Rattle.gb_vals.specs.Flags.{known, greatest_flags}
use Rattle.gb_vals.specs.Outcomes.{exact}
use Rattle.gb_vals.specs.Sums.{cut, sum_of, difference_of, least_bit, greatest_bit, are_known, sum, difference, counted, keeping_carry, next_val, previous_val, increment, decrement}
use Rattle.gb_vals.specs.Logic.{smaller, larger, logical, conjunction, disjunction, exclusion, of_itself, complement}
use Rattle.gb_vals.specs.Alu.{alu, alu_itself}
use Rattle.gb_vals.specs.Shifts.{is_carry_known, shifted_val, shifted_any, shift_of, rotation_of_a}
use Rattle.gb_vals.specs.Bits.{reset_bit, set_bit}
use Rattle.gb_vals.specs.Daa.{are_read_known, adjusted_any, adjustment_of}

-- a choice of two
either : (b : Bool) (o p : AbsComputed) → is_strided o.val ≡ true → is_strided p.val ≡ true → is_strided (cond b o p).val ≡ true
either true o p h k = h
either false o p h k = k

either-val : (b : Bool) (v w : Val) → is_strided v ≡ true → is_strided w ≡ true → is_strided (cond b v w) ≡ true
either-val true v w h k = h
either-val false v w h k = k

-- ---- sums

cut-strided : (least most : ℕ) → is_strided (cut least most) ≡ true
cut-strided least most = either-val (least / 256 == most / 256) (between (least % 256) (most % 256)) any_val refl refl

sum-strided : (a v : Val) (carry : May) → is_strided (sum a v carry).val ≡ true
unfolding sum sum_of
sum-strided a v carry =
    let least = a.lo + v.lo + least_bit carry in
    let most = a.hi + v.hi + greatest_bit carry in
    either (are_known a v carry) (exact (machine.added a.lo v.lo (greatest_bit carry))) (sum_of least most) refl (cut-strided least most)

difference-strided : (a v : Val) (borrow : May) → is_strided (difference a v borrow).val ≡ true
unfolding difference difference_of
difference-strided a v borrow =
    let least = a.lo + 256 - (v.hi + greatest_bit borrow) in
    let most = a.hi + 256 - (v.lo + least_bit borrow) in
    either (are_known a v borrow) (exact (machine.subtracted a.lo v.lo (greatest_bit borrow))) (difference_of least most) refl (cut-strided least most)

pub increment-strided : (v : Val) (f : Flg) → is_strided (increment v f).val ≡ true
unfolding increment
increment-strided v f =
    either (is_single v) (keeping_carry f.carry (exact (machine.incremented v.lo (greatest_flags f)))) (counted (next_val v) false f.carry) refl
    (either-val (nat_lt v.hi 255) (between ((v.lo + 1) % 256) (v.hi + 1)) any_val refl refl)

pub decrement-strided : (v : Val) (f : Flg) → is_strided (decrement v f).val ≡ true
unfolding decrement
decrement-strided v f =
    either (is_single v) (keeping_carry f.carry (exact (machine.decremented v.lo (greatest_flags f)))) (counted (previous_val v) true f.carry) refl
    (either-val (nat_lt 0 v.lo) (between (v.lo - 1) (v.hi - 1)) any_val refl refl)

-- ---- logic

conjunction-strided : (a v : Val) → is_strided (conjunction a v).val ≡ true
unfolding conjunction
conjunction-strided a v = either (is_single a && is_single v) (exact (machine.logical (bit_and a.lo v.lo) true)) (logical (between 0 (smaller a.hi v.hi)) true) refl refl

disjunction-strided : (a v : Val) → is_strided (disjunction a v).val ≡ true
unfolding disjunction
disjunction-strided a v = either (is_single a && is_single v) (exact (machine.logical (bit_or a.lo v.lo) false)) (logical (between (larger a.lo v.lo) 255) false) refl refl

exclusion-strided : (a v : Val) → is_strided (exclusion a v).val ≡ true
unfolding exclusion
exclusion-strided a v = either (is_single a && is_single v) (exact (machine.logical (bit_xor a.lo v.lo) false)) (logical any_val false) refl refl

-- AND A and OR A leave A
of_itself-strided : (a : Val) (half : Bool) → is_strided a ≡ true → is_strided (of_itself a half).val ≡ true
unfolding of_itself
of_itself-strided a half h = either (is_single a) (exact (machine.logical a.lo half)) (logical a half) refl h

pub complement-strided : (a : Val) (f : Flg) → is_strided (complement a f).val ≡ true
unfolding complement
complement-strided a f = refl

-- ---- operations of A

pub alu-strided : (how : AluOp) (a v : Val) (f : Flg) → is_strided a ≡ true → is_strided (alu how a v f).val ≡ true
unfolding alu
alu-strided op.Add a v f h = sum-strided a v (known false)
alu-strided op.Adc a v f h = sum-strided a v f.carry
alu-strided op.Sub a v f h = difference-strided a v (known false)
alu-strided op.Sbc a v f h = difference-strided a v f.carry
alu-strided op.And a v f h = conjunction-strided a v
alu-strided op.Xor a v f h = exclusion-strided a v
alu-strided op.Or a v f h = disjunction-strided a v
alu-strided op.Cp a v f h = h

pub alu_itself-strided : (how : AluOp) (a : Val) (f : Flg) → is_strided a ≡ true → is_strided (alu_itself how a f).val ≡ true
unfolding alu_itself
alu_itself-strided op.Add a f h = sum-strided a a (known false)
alu_itself-strided op.Adc a f h = sum-strided a a f.carry
alu_itself-strided op.Sub a f h = refl
alu_itself-strided op.Sbc a f h = difference-strided a a f.carry
alu_itself-strided op.And a f h = of_itself-strided a true h
alu_itself-strided op.Xor a f h = refl
alu_itself-strided op.Or a f h = of_itself-strided a false h
alu_itself-strided op.Cp a f h = h

-- ---- shifts, DAA and single bits

shifted_val-strided : (how : Shift) (v : Val) → is_strided (shifted_val how v) ≡ true
shifted_val-strided shift.Srl v = refl
shifted_val-strided shift.Rlc v = refl
shifted_val-strided shift.Rrc v = refl
shifted_val-strided shift.Rl v = refl
shifted_val-strided shift.Rr v = refl
shifted_val-strided shift.Sla v = refl
shifted_val-strided shift.Sra v = refl
shifted_val-strided shift.Swap v = refl

pub shift-strided : (how : Shift) (v : Val) (f : Flg) → is_strided (shift_of how v f).val ≡ true
unfolding shift_of
shift-strided how v f = either (is_single v && is_carry_known how f.carry) (exact (machine.shifted how v.lo f.carry.set)) (shifted_any how v) refl (shifted_val-strided how v)

pub rotation-strided : (how : Shift) (a : Val) (f : Flg) → is_strided (rotation_of_a how a f).val ≡ true
unfolding rotation_of_a
rotation-strided how a f = shift-strided how a f

pub adjustment-strided : (a : Val) (f : Flg) → is_strided (adjustment_of a f).val ≡ true
unfolding adjustment_of
adjustment-strided a f = either (is_single a && are_read_known f) (exact (machine.adjusted a.lo (greatest_flags f))) (adjusted_any f) refl refl

pub reset_bit-strided : (n : ℕ) (v : Val) → is_strided (reset_bit n v) ≡ true
unfolding reset_bit
reset_bit-strided n v = either-val (is_single v) (single (machine.bit_reset n v.lo)) (between 0 v.hi) refl refl

pub set_bit-strided : (n : ℕ) (v : Val) → is_strided (set_bit n v) ≡ true
unfolding set_bit
set_bit-strided n v = either-val (is_single v) (single (machine.bit_set n v.lo)) (between v.lo 255) refl refl
