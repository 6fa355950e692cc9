-- F as an interval of bytes, and a byte as flags.
use Rattle.std.proofs.Common.{◌≡◌, ℕ, ◌<◌, ◌≤◌, Bool, true, false, not, cond, refl, sym, ap, subst, arith}
use Rattle.gb_ops.specs.declared.registers.Flags.{Flags}
use Rattle.gb_ops.specs.Flags.{bit_of, flags_byte, flags_of}
use Rattle.gb_domain.specs.declared.types.Val.{Val}
use Rattle.gb_domain.specs.declared.types.Flg.{Flg}
use Rattle.gb_domain.specs.Rules.{IsVal, IsFlg}
use Rattle.gb_vals.specs.Vals.{is_single}
use Rattle.gb_vals.specs.Flags.{any_flags, with_own, known_flags, greatest_flags, own_origin, is_own_origin, flags_val, flags_of_val}
use Rattle.gb_vals.specs.Meaning.{In, FlagsIn}
use Rattle.gb_vals.proofs.MeaningLaws.{either-may_be, bit-weight, bit-least, bit-greatest, single-is, FlagsIn-known, FlagsIn-greatest, IsFlg-from, IsVal-from, In-least}

In-flags_val : (f : Flg) (x : Flags) → FlagsIn f x → In (flags_val f) (flags_byte x)
unfolding flags_val flags_byte
In-flags_val f x h =
    let z : bit_of (not f.zero.clear) 128 ≤ bit_of x.zero 128 = bit-least f.zero x.zero 128 h.zero in
    let n : bit_of (not f.subtract.clear) 64 ≤ bit_of x.subtract 64 = bit-least f.subtract x.subtract 64 h.subtract in
    let d : bit_of (not f.half_carry.clear) 32 ≤ bit_of x.half_carry 32 = bit-least f.half_carry x.half_carry 32 h.half_carry in
    let c : bit_of (not f.carry.clear) 16 ≤ bit_of x.carry 16 = bit-least f.carry x.carry 16 h.carry in
    let z' : bit_of x.zero 128 ≤ bit_of f.zero.set 128 = bit-greatest f.zero x.zero 128 h.zero in
    let n' : bit_of x.subtract 64 ≤ bit_of f.subtract.set 64 = bit-greatest f.subtract x.subtract 64 h.subtract in
    let d' : bit_of x.half_carry 32 ≤ bit_of f.half_carry.set 32 = bit-greatest f.half_carry x.half_carry 32 h.half_carry in
    let c' : bit_of x.carry 16 ≤ bit_of f.carry.set 16 = bit-greatest f.carry x.carry 16 h.carry in
    record { least = omega arith; most = omega arith; low = refl }

FlagsIn-flags_of_val : (v : Val) (x : ℕ) → In v x → FlagsIn (flags_of_val v) (flags_of x)
unfolding flags_of_val
FlagsIn-flags_of_val v x m = choose (is_single v) refl
  where
    choose :
        (b : Bool) → is_single v ≡ b
        → FlagsIn (cond b (with_own (is_own_origin v.origin) (known_flags (flags_of v.lo))) (any_flags (is_own_origin v.origin))) (flags_of x)
    choose true e =
        let k : FlagsIn (known_flags (flags_of v.lo)) (flags_of x) = subst (λ n. FlagsIn (known_flags (flags_of n)) (flags_of x)) (single-is v x e m) (FlagsIn-known (flags_of x)) in
        record { zero = k.zero; subtract = k.subtract; half_carry = k.half_carry; carry = k.carry }
    choose false e =
        record { zero = either-may_be _; subtract = either-may_be _; half_carry = either-may_be _; carry = either-may_be _ }

flags_val-byte : (f : Flg) → (flags_val f).hi < 256
unfolding flags_val flags_byte
flags_val-byte f =
    let z : bit_of f.zero.set 128 ≤ 128 = bit-weight f.zero.set 128 in
    let n : bit_of f.subtract.set 64 ≤ 64 = bit-weight f.subtract.set 64 in
    let d : bit_of f.half_carry.set 32 ≤ 32 = bit-weight f.half_carry.set 32 in
    let c : bit_of f.carry.set 16 ≤ 16 = bit-weight f.carry.set 16 in
    omega arith

pub flags_val_sound : (f : Flg) (v : Val) (x : Flags) → v ≡ flags_val f → FlagsIn f x → In v (flags_byte x)
flags_val_sound f v x e h = subst (λ r. In r (flags_byte x)) (sym e) (In-flags_val f x h)

pub flags_val_inhabited : (f : Flg) (v : Val) → v ≡ flags_val f → IsFlg f → IsVal v
unfolding flags_val
flags_val_inhabited f v e h =
    subst (λ r. IsVal r) (sym e) (IsVal-from (flags_val f) _ (In-flags_val f (greatest_flags f) (FlagsIn-greatest f h)) (flags_val-byte f) refl)

pub flags_val_kept : (f : Flg) (v : Val) → v ≡ flags_val f → v.origin ≡ own_origin f.is_own
unfolding flags_val
flags_val_kept f v e = ap (λ (w : Val). w.origin) e

pub flags_of_val_sound : (v : Val) (f : Flg) (x : ℕ) → f ≡ flags_of_val v → In v x → FlagsIn f (flags_of x)
flags_of_val_sound v f x e m = subst (λ r. FlagsIn r (flags_of x)) (sym e) (FlagsIn-flags_of_val v x m)

pub flags_of_val_inhabited : (v : Val) (f : Flg) → f ≡ flags_of_val v → IsVal v → IsFlg f
flags_of_val_inhabited v f e h =
    subst (λ r. IsFlg r) (sym e) (IsFlg-from (flags_of_val v) _ (FlagsIn-flags_of_val v v.lo (In-least v h)))
