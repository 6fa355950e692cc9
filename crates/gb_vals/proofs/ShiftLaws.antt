-- Rotations and shifts stand for those of the machine.
use Rattle.std.proofs.Common.{◌≡◌, ℕ, ◌<◌, ◌≤◌, Bool, true, false, ◌&&◌, cond, refl, sym, ap, subst, arith}
use Rattle.std.proofs.lemmas.Bool.{and_parts}
use Rattle.gb_ops.specs.declared.op.Shift.{Shift}
use Rattle.gb_ops.specs.declared.op.Shift.TheVariants as shift
use Rattle.gb_ops.specs.declared.registers.Flags.{Flags}
use Rattle.gb_ops.specs.Flags.{bit_of}
use Rattle.gb_ops.specs.Arithmetic as machine
use Rattle.gb_domain.specs.declared.types.Val.{Val}
use Rattle.gb_domain.specs.declared.types.May.{May}
use Rattle.gb_domain.specs.declared.types.Flg.{Flg}
use Rattle.gb_domain.specs.Rules.{IsVal, IsFlg}
use Rattle.gb_vals.specs.declared.outcome.AbsComputed.{AbsComputed}
use Rattle.gb_vals.specs.Vals.{is_single}
use Rattle.gb_vals.specs.Outcomes.{exact}
use Rattle.gb_vals.specs.Meaning.{In, FlagsIn, may_be, Gives, IsSound, IsOutcome}
use Rattle.gb_vals.specs.Shifts.{is_carry_known, shifted_val, carry_out, shifted_any, shift_of, shift_result, rotation_of_a, rotation_result}
use Rattle.gb_vals.proofs.MeaningLaws.{bit-weight, either-may_be, known-is, single-is, In-any, Gives-exact, IsOutcome-sound}
use Rattle.gb_domain.specs.Values.{is_strided}
use Rattle.gb_vals.proofs.StrideLaws.{shift-strided, rotation-strided}

shifted-byte : (how : Shift) (x : ℕ) (c : Bool) → x < 256 → machine.shifted_value how x c < 256
unfolding machine.shifted_value
shifted-byte shift.Rlc x c h = omega arith
shifted-byte shift.Rrc x c h = omega arith
shifted-byte shift.Rl x c h = let one : bit_of c 1 ≤ 1 = bit-weight c 1 in omega arith
shifted-byte shift.Rr x c h = let most : bit_of c 128 ≤ 128 = bit-weight c 128 in omega arith
shifted-byte shift.Sla x c h = omega arith
shifted-byte shift.Sra x c h = omega arith
shifted-byte shift.Swap x c h = omega arith
shifted-byte shift.Srl x c h = omega arith

In-shifted_val : (how : Shift) (v : Val) (x : ℕ) (c : Bool) → v.hi < 256 → In v x → In (shifted_val how v) (machine.shifted_value how x c)
unfolding machine.shifted_value
In-shifted_val shift.Srl v x c h m = record { least = omega arith; most = omega arith; low = refl }
In-shifted_val shift.Rlc v x c h m = In-any _ (shifted-byte shift.Rlc x c (omega arith))
In-shifted_val shift.Rrc v x c h m = In-any _ (shifted-byte shift.Rrc x c (omega arith))
In-shifted_val shift.Rl v x c h m = In-any _ (shifted-byte shift.Rl x c (omega arith))
In-shifted_val shift.Rr v x c h m = In-any _ (shifted-byte shift.Rr x c (omega arith))
In-shifted_val shift.Sla v x c h m = In-any _ (shifted-byte shift.Sla x c (omega arith))
In-shifted_val shift.Sra v x c h m = In-any _ (shifted-byte shift.Sra x c (omega arith))
In-shifted_val shift.Swap v x c h m = In-any _ (shifted-byte shift.Swap x c (omega arith))

carry_out-may_be : (how : Shift) (x : ℕ) → may_be (carry_out how) (machine.shifted_out how x) ≡ true
unfolding machine.shifted_out
carry_out-may_be shift.Swap x = refl
carry_out-may_be shift.Rlc x = either-may_be _
carry_out-may_be shift.Rrc x = either-may_be _
carry_out-may_be shift.Rl x = either-may_be _
carry_out-may_be shift.Rr x = either-may_be _
carry_out-may_be shift.Sla x = either-may_be _
carry_out-may_be shift.Sra x = either-may_be _
carry_out-may_be shift.Srl x = either-may_be _

-- only the carry that is read counts
same_shift : (how : Shift) (x : ℕ) (m : May) (c : Bool) → is_carry_known how m ≡ true → may_be m c ≡ true → machine.shifted how x c ≡ machine.shifted how x m.set
unfolding machine.shifted machine.shifted_value
same_shift shift.Rl x m c k h = ap (λ b. machine.shifted shift.Rl x b) (known-is m c k h)
same_shift shift.Rr x m c k h = ap (λ b. machine.shifted shift.Rr x b) (known-is m c k h)
same_shift shift.Rlc x m c k h = refl
same_shift shift.Rrc x m c k h = refl
same_shift shift.Sla x m c k h = refl
same_shift shift.Sra x m c k h = refl
same_shift shift.Swap x m c k h = refl
same_shift shift.Srl x m c k h = refl

Gives-shifted_any : (how : Shift) (v : Val) (x : ℕ) (c : Bool) → v.hi < 256 → In v x → Gives (shifted_any how v) (machine.shifted how x c)
unfolding machine.shifted
Gives-shifted_any how v x c byte m =
    record {
      value = In-shifted_val how v x c byte m;
      flags = record { zero = either-may_be _; subtract = refl; half_carry = refl; carry = carry_out-may_be how x };
    }

Gives-shift_of :
    (how : Shift) (v : Val) (f : Flg) (x : ℕ) (g : Flags)
    → v.hi < 256 → In v x → FlagsIn f g → Gives (shift_of how v f) (shift_result how x g)
unfolding shift_of
Gives-shift_of how v f x g byte m h = choose (is_single v && is_carry_known how f.carry) refl
  where
    choose :
        (b : Bool) → (is_single v && is_carry_known how f.carry) ≡ b
        → Gives (cond b (exact (machine.shifted how v.lo f.carry.set)) (shifted_any how v)) (machine.shifted how x g.carry)
    choose true e =
        let both = and_parts _ _ e in
        let p : x ≡ v.lo = single-is v x both.0 m in
        let q : machine.shifted how x g.carry ≡ machine.shifted how x f.carry.set = same_shift how x f.carry g.carry both.1 h.carry in
        let same : machine.shifted how x g.carry ≡ machine.shifted how v.lo f.carry.set = cc in
        Gives-exact (machine.shifted how v.lo f.carry.set) (machine.shifted how x g.carry) same
    choose false e = Gives-shifted_any how v x g.carry byte m

Gives-rotation_of_a :
    (how : Shift) (a : Val) (f : Flg) (x : ℕ) (g : Flags)
    → a.hi < 256 → In a x → FlagsIn f g → Gives (rotation_of_a how a f) (rotation_result how x g)
unfolding rotation_of_a
Gives-rotation_of_a how a f x g byte m h =
    let k = Gives-shift_of how a f x g byte m h in
    record {
      value = k.value;
      flags = record { zero = refl; subtract = k.flags.subtract; half_carry = k.flags.half_carry; carry = k.flags.carry };
    }

pub shift_sound : (how : Shift) (v : Val) (f : Flg) (o : AbsComputed) → o ≡ shift_of how v f → v.hi < 256 → IsSound (shift_result how) v f o
shift_sound how v f o e byte =
    subst (λ r. IsSound (shift_result how) v f r) (sym e) (record { gives = λ x g. Gives-shift_of how v f x g byte })

pub rotate_a_sound : (how : Shift) (a : Val) (f : Flg) (o : AbsComputed) → o ≡ rotation_of_a how a f → a.hi < 256 → IsSound (rotation_result how) a f o
rotate_a_sound how a f o e byte =
    subst (λ r. IsSound (rotation_result how) a f r) (sym e) (record { gives = λ x g. Gives-rotation_of_a how a f x g byte })

-- ---- results are bytes

shifted_val-byte : (how : Shift) (v : Val) → v.hi < 256 → (shifted_val how v).hi < 256
shifted_val-byte shift.Srl v h = omega arith
shifted_val-byte shift.Rlc v h = omega arith
shifted_val-byte shift.Rrc v h = omega arith
shifted_val-byte shift.Rl v h = omega arith
shifted_val-byte shift.Rr v h = omega arith
shifted_val-byte shift.Sla v h = omega arith
shifted_val-byte shift.Sra v h = omega arith
shifted_val-byte shift.Swap v h = omega arith

shift-byte : (how : Shift) (v : Val) (f : Flg) → IsVal v → (shift_of how v f).val.hi < 256
unfolding shift_of machine.shifted
shift-byte how v f h = choose (is_single v && is_carry_known how f.carry)
  where
    choose : (b : Bool) → (cond b (exact (machine.shifted how v.lo f.carry.set)) (shifted_any how v)).val.hi < 256
    choose true = shifted-byte how v.lo f.carry.set (omega arith)
    choose false = shifted_val-byte how v h.hi

pub shift_inhabited : (how : Shift) (v : Val) (f : Flg) (o : AbsComputed) → o ≡ shift_of how v f → IsVal v → IsFlg f → IsOutcome o
shift_inhabited how v f o e val flags =
    IsOutcome-sound (shift_result how) v f o (shift_sound how v f o e val.hi) val flags (subst (λ r. r.val.hi < 256) (sym e) (shift-byte how v f val))
    (subst (λ r. is_strided r.val ≡ true) (sym e) (shift-strided how v f))

rotation-byte : (how : Shift) (a : Val) (f : Flg) → IsVal a → (rotation_of_a how a f).val.hi < 256
unfolding rotation_of_a
rotation-byte how a f h = shift-byte how a f h

pub rotate_a_inhabited : (how : Shift) (a : Val) (f : Flg) (o : AbsComputed) → o ≡ rotation_of_a how a f → IsVal a → IsFlg f → IsOutcome o
rotate_a_inhabited how a f o e val flags =
    IsOutcome-sound (rotation_result how) a f o (rotate_a_sound how a f o e val.hi) val flags (subst (λ r. r.val.hi < 256) (sym e) (rotation-byte how a f val))
    (subst (λ r. is_strided r.val ≡ true) (sym e) (rotation-strided how a f))
