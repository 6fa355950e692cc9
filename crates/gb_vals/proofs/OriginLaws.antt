-- What is computed is no copy of anything.
use Rattle.std.proofs.Common.{◌≡◌, ℕ, ◌+◌, ◌-◌, ◌/◌, ◌%◌, Bool, true, false, ◌&&◌, ◌==◌, if◌then◌else◌, cond, nat_lt, bit_and, bit_or, None, refl, sym, subst}
use Rattle.std.specs.Prelude.{bit_xor}
use Rattle.gb_ops.specs.declared.op.AluOp.{AluOp}
use Rattle.gb_ops.specs.declared.op.AluOp.TheVariants as op
use Rattle.gb_ops.specs.declared.op.Shift.{Shift}
use Rattle.gb_ops.specs.declared.op.Shift.TheVariants as shift
use Rattle.gb_ops.specs.declared.machine.Computed.{Computed}
use Rattle.gb_ops.specs.Arithmetic as machine
use Rattle.gb_domain.specs.declared.types.Val.{Val}
use Rattle.gb_domain.specs.declared.types.May.{May}
use Rattle.gb_domain.specs.declared.types.Flg.{Flg}
use Rattle.gb_vals.specs.declared.outcome.AbsComputed.{AbsComputed}
use Rattle.gb_vals.specs.Vals.{between, single, any_val, is_single}
use Rattle.gb_vals.specs.Flags.{known, greatest_flags}
use Rattle.gb_vals.specs.Outcomes.{exact}
use Rattle.gb_vals.specs.Meaning.{IsComputed}
use Rattle.gb_vals.specs.Sums.{cut, sum_of, difference_of, least_bit, greatest_bit, are_known, sum, difference, counted, keeping_carry, next_val, previous_val, increment, decrement}
use Rattle.gb_vals.specs.Logic.{smaller, larger, logical, conjunction, disjunction, exclusion, of_itself, complement}
use Rattle.gb_vals.specs.Alu.{alu, alu_itself, alu_origin, itself_origin}
use Rattle.gb_vals.specs.Shifts.{is_carry_known, shifted_val, shifted_any, shift_of, rotation_of_a}
use Rattle.gb_vals.specs.Bits.{tested, tested_any, test_bit, reset_bit, set_bit}
use Rattle.gb_vals.specs.Daa.{are_read_known, adjusted_any, adjustment_of}

-- a choice of two computed outcomes
IsComputed-either : (b : Bool) (o p : AbsComputed) → IsComputed o → IsComputed p → IsComputed (cond b o p)
IsComputed-either true o p h k = h
IsComputed-either false o p h k = k

either-origin : (b : Bool) (v w : Val) → v.origin ≡ None → w.origin ≡ None → (cond b v w).origin ≡ None
either-origin true v w h k = h
either-origin false v w h k = k

IsComputed-exact : (c : Computed) → IsComputed (exact c)
IsComputed-exact c = record { origin = refl; own = refl }

-- ---- sums

cut-origin : (least most : ℕ) → (cut least most).origin ≡ None
cut-origin least most = either-origin (least / 256 == most / 256) (between (least % 256) (most % 256)) any_val refl refl

IsComputed-sum_of : (least most : ℕ) → IsComputed (sum_of least most)
unfolding sum_of
IsComputed-sum_of least most = record { origin = cut-origin least most; own = refl }

IsComputed-difference_of : (least most : ℕ) → IsComputed (difference_of least most)
unfolding difference_of
IsComputed-difference_of least most = record { origin = cut-origin least most; own = refl }

IsComputed-sum : (a v : Val) (carry : May) → IsComputed (sum a v carry)
unfolding sum
IsComputed-sum a v carry =
    let least = a.lo + v.lo + least_bit carry in
    let most = a.hi + v.hi + greatest_bit carry in
    let known_sum = machine.added a.lo v.lo (greatest_bit carry) in
    IsComputed-either (are_known a v carry) (exact known_sum) (sum_of least most) (IsComputed-exact known_sum) (IsComputed-sum_of least most)

IsComputed-difference : (a v : Val) (borrow : May) → IsComputed (difference a v borrow)
unfolding difference
IsComputed-difference a v borrow =
    let least = a.lo + 256 - (v.hi + greatest_bit borrow) in
    let most = a.hi + 256 - (v.lo + least_bit borrow) in
    let known_difference = machine.subtracted a.lo v.lo (greatest_bit borrow) in
    IsComputed-either (are_known a v borrow) (exact known_difference) (difference_of least most) (IsComputed-exact known_difference) (IsComputed-difference_of least most)

pub increment_computed : (v : Val) (f : Flg) (o : AbsComputed) → o ≡ increment v f → IsComputed o
unfolding increment
increment_computed v f o e =
    let next = either-origin (nat_lt v.hi 255) (between ((v.lo + 1) % 256) (v.hi + 1)) any_val refl refl in
    subst (λ r. IsComputed r) (sym e) (IsComputed-either (is_single v) (keeping_carry f.carry (exact (machine.incremented v.lo (greatest_flags f)))) (counted (next_val v) false f.carry) (record { origin = refl; own = refl }) (record { origin = next; own = refl }))

pub decrement_computed : (v : Val) (f : Flg) (o : AbsComputed) → o ≡ decrement v f → IsComputed o
unfolding decrement
decrement_computed v f o e =
    let previous = either-origin (nat_lt 0 v.lo) (between (v.lo - 1) (v.hi - 1)) any_val refl refl in
    subst (λ r. IsComputed r) (sym e) (IsComputed-either (is_single v) (keeping_carry f.carry (exact (machine.decremented v.lo (greatest_flags f)))) (counted (previous_val v) true f.carry) (record { origin = refl; own = refl }) (record { origin = previous; own = refl }))

-- ---- logic

IsComputed-conjunction : (a v : Val) → IsComputed (conjunction a v)
unfolding conjunction
IsComputed-conjunction a v =
    IsComputed-either (is_single a && is_single v) (exact (machine.logical (bit_and a.lo v.lo) true)) (logical (between 0 (smaller a.hi v.hi)) true) (IsComputed-exact _) (record { origin = refl; own = refl })

IsComputed-disjunction : (a v : Val) → IsComputed (disjunction a v)
unfolding disjunction
IsComputed-disjunction a v =
    IsComputed-either (is_single a && is_single v) (exact (machine.logical (bit_or a.lo v.lo) false)) (logical (between (larger a.lo v.lo) 255) false) (IsComputed-exact _) (record { origin = refl; own = refl })

IsComputed-exclusion : (a v : Val) → IsComputed (exclusion a v)
unfolding exclusion
IsComputed-exclusion a v =
    IsComputed-either (is_single a && is_single v) (exact (machine.logical (bit_xor a.lo v.lo) false)) (logical any_val false) (IsComputed-exact _) (record { origin = refl; own = refl })

of_itself-origin : (a : Val) (half : Bool) → (of_itself a half).val.origin ≡ (if is_single a then None else a.origin)
unfolding of_itself
of_itself-origin a half = choose (is_single a)
  where
    choose : (b : Bool) → (cond b (exact (machine.logical a.lo half)) (logical a half)).val.origin ≡ cond b None a.origin
    choose true = refl
    choose false = refl

of_itself-own : (a : Val) (half : Bool) → (of_itself a half).flags.is_own ≡ false
unfolding of_itself
of_itself-own a half = choose (is_single a)
  where
    choose : (b : Bool) → (cond b (exact (machine.logical a.lo half)) (logical a half)).flags.is_own ≡ false
    choose true = refl
    choose false = refl

pub complement_computed : (a : Val) (f : Flg) (o : AbsComputed) → o ≡ complement a f → IsComputed o
unfolding complement
complement_computed a f o e = subst (λ r. IsComputed r) (sym e) (record { origin = refl; own = refl })

-- ---- operations of A

alu-origin : (how : AluOp) (a v : Val) (f : Flg) → (alu how a v f).val.origin ≡ alu_origin how a
unfolding alu
alu-origin op.Add a v f = (IsComputed-sum a v (known false)).origin
alu-origin op.Adc a v f = (IsComputed-sum a v f.carry).origin
alu-origin op.Sub a v f = (IsComputed-difference a v (known false)).origin
alu-origin op.Sbc a v f = (IsComputed-difference a v f.carry).origin
alu-origin op.And a v f = (IsComputed-conjunction a v).origin
alu-origin op.Xor a v f = (IsComputed-exclusion a v).origin
alu-origin op.Or a v f = (IsComputed-disjunction a v).origin
alu-origin op.Cp a v f = refl

alu-own : (how : AluOp) (a v : Val) (f : Flg) → (alu how a v f).flags.is_own ≡ false
unfolding alu
alu-own op.Add a v f = (IsComputed-sum a v (known false)).own
alu-own op.Adc a v f = (IsComputed-sum a v f.carry).own
alu-own op.Sub a v f = (IsComputed-difference a v (known false)).own
alu-own op.Sbc a v f = (IsComputed-difference a v f.carry).own
alu-own op.And a v f = (IsComputed-conjunction a v).own
alu-own op.Xor a v f = (IsComputed-exclusion a v).own
alu-own op.Or a v f = (IsComputed-disjunction a v).own
alu-own op.Cp a v f = (IsComputed-difference a v (known false)).own

alu_itself-origin : (how : AluOp) (a : Val) (f : Flg) → (alu_itself how a f).val.origin ≡ itself_origin how a
unfolding alu_itself
alu_itself-origin op.Add a f = (IsComputed-sum a a (known false)).origin
alu_itself-origin op.Adc a f = (IsComputed-sum a a f.carry).origin
alu_itself-origin op.Sub a f = refl
alu_itself-origin op.Sbc a f = (IsComputed-difference a a f.carry).origin
alu_itself-origin op.And a f = of_itself-origin a true
alu_itself-origin op.Xor a f = refl
alu_itself-origin op.Or a f = of_itself-origin a false
alu_itself-origin op.Cp a f = refl

alu_itself-own : (how : AluOp) (a : Val) (f : Flg) → (alu_itself how a f).flags.is_own ≡ false
unfolding alu_itself
alu_itself-own op.Add a f = (IsComputed-sum a a (known false)).own
alu_itself-own op.Adc a f = (IsComputed-sum a a f.carry).own
alu_itself-own op.Sub a f = refl
alu_itself-own op.Sbc a f = (IsComputed-difference a a f.carry).own
alu_itself-own op.And a f = of_itself-own a true
alu_itself-own op.Xor a f = refl
alu_itself-own op.Or a f = of_itself-own a false
alu_itself-own op.Cp a f = refl

pub alu_kept : (how : AluOp) (a v : Val) (f : Flg) (o : AbsComputed) → o ≡ alu how a v f → o.val.origin ≡ alu_origin how a
alu_kept how a v f o e = subst (λ r. r.val.origin ≡ alu_origin how a) (sym e) (alu-origin how a v f)

pub alu_written : (how : AluOp) (a v : Val) (f : Flg) (o : AbsComputed) → o ≡ alu how a v f → o.flags.is_own ≡ false
alu_written how a v f o e = subst (λ r. r.flags.is_own ≡ false) (sym e) (alu-own how a v f)

pub alu_itself_kept : (how : AluOp) (a : Val) (f : Flg) (o : AbsComputed) → o ≡ alu_itself how a f → o.val.origin ≡ itself_origin how a
alu_itself_kept how a f o e = subst (λ r. r.val.origin ≡ itself_origin how a) (sym e) (alu_itself-origin how a f)

pub alu_itself_written : (how : AluOp) (a : Val) (f : Flg) (o : AbsComputed) → o ≡ alu_itself how a f → o.flags.is_own ≡ false
alu_itself_written how a f o e = subst (λ r. r.flags.is_own ≡ false) (sym e) (alu_itself-own how a f)

-- ---- shifts, DAA and single bits

shifted_val-origin : (how : Shift) (v : Val) → (shifted_val how v).origin ≡ None
shifted_val-origin shift.Srl v = refl
shifted_val-origin shift.Rlc v = refl
shifted_val-origin shift.Rrc v = refl
shifted_val-origin shift.Rl v = refl
shifted_val-origin shift.Rr v = refl
shifted_val-origin shift.Sla v = refl
shifted_val-origin shift.Sra v = refl
shifted_val-origin shift.Swap v = refl

IsComputed-shift : (how : Shift) (v : Val) (f : Flg) → IsComputed (shift_of how v f)
unfolding shift_of
IsComputed-shift how v f =
    IsComputed-either (is_single v && is_carry_known how f.carry) (exact (machine.shifted how v.lo f.carry.set)) (shifted_any how v) (IsComputed-exact _) (record { origin = shifted_val-origin how v; own = refl })

pub shift_computed : (how : Shift) (v : Val) (f : Flg) (o : AbsComputed) → o ≡ shift_of how v f → IsComputed o
shift_computed how v f o e = subst (λ r. IsComputed r) (sym e) (IsComputed-shift how v f)

pub rotate_a_computed : (how : Shift) (a : Val) (f : Flg) (o : AbsComputed) → o ≡ rotation_of_a how a f → IsComputed o
unfolding rotation_of_a
rotate_a_computed how a f o e =
    let k : IsComputed (shift_of how a f) = IsComputed-shift how a f in
    subst (λ r. IsComputed r) (sym e) (record { origin = k.origin; own = k.own })

pub adjust_computed : (a : Val) (f : Flg) (o : AbsComputed) → o ≡ adjustment_of a f → IsComputed o
unfolding adjustment_of
adjust_computed a f o e =
    subst (λ r. IsComputed r) (sym e) (IsComputed-either (is_single a && are_read_known f) (exact (machine.adjusted a.lo (greatest_flags f))) (adjusted_any f) (IsComputed-exact _) (record { origin = refl; own = refl }))

pub test_bit_written : (n : ℕ) (v : Val) (f o : Flg) → o ≡ test_bit n v f → o.is_own ≡ false
unfolding test_bit
test_bit_written n v f o e = subst (λ r. r.is_own ≡ false) (sym e) (choose (is_single v))
  where
    choose : (b : Bool) → (cond b (tested n v.lo f) (tested_any f.carry)).is_own ≡ false
    choose true = refl
    choose false = refl

pub reset_bit_computed : (n : ℕ) (v o : Val) → o ≡ reset_bit n v → o.origin ≡ None
unfolding reset_bit
reset_bit_computed n v o e =
    subst (λ r. r.origin ≡ None) (sym e) (either-origin (is_single v) (single (machine.bit_reset n v.lo)) (between 0 v.hi) refl refl)

pub set_bit_computed : (n : ℕ) (v o : Val) → o ≡ set_bit n v → o.origin ≡ None
unfolding set_bit
set_bit_computed n v o e =
    subst (λ r. r.origin ≡ None) (sym e) (either-origin (is_single v) (single (machine.bit_set n v.lo)) (between v.lo 255) refl refl)
