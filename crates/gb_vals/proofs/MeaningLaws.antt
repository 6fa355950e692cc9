-- What known and unknown bits, bytes and outcomes stand for.
use Rattle.std.proofs.Common.{◌≡◌, ℕ, ◌≤◌, ◌<◌, Bool, true, false, not, ◌||◌, ◌==◌, cond, refl, sym, subst, arith}
use Rattle.std.proofs.lemmas.Bool.{not-true, or_left, or_right}
use Rattle.std.proofs.lemmas.Bool.Decides.{nat_tests}
use Rattle.gb_ops.specs.declared.registers.Flags.{Flags}
use Rattle.gb_ops.specs.declared.machine.Computed.{Computed}
use Rattle.gb_domain.specs.declared.types.Val.{Val}
use Rattle.gb_domain.specs.declared.types.May.{May}
use Rattle.gb_domain.specs.declared.types.Flg.{Flg}
use Rattle.gb_domain.specs.Rules.{IsVal, IsFlg, has_value}
use Rattle.gb_domain.specs.Values.{is_strided}
use Rattle.gb_domain.proofs.ValueLaws.{same_itself}
use Rattle.gb_ops.specs.Flags.{bit_of}
use Rattle.gb_vals.specs.declared.outcome.AbsComputed.{AbsComputed}
use Rattle.gb_vals.specs.Vals.{single, any_val, is_single}
use Rattle.gb_vals.specs.Flags.{known, either, is_known, zero_by, known_flags, greatest_flags}
use Rattle.gb_vals.specs.Outcomes.{exact}
use Rattle.gb_vals.specs.Meaning.{In, FlagsIn, may_be, Gives, IsSound, IsSoundOfTwo, IsOutcome}

-- ---- bits

pub known-may_be : (b : Bool) → may_be (known b) b ≡ true
known-may_be true = refl
known-may_be false = refl

pub either-may_be : (b : Bool) → may_be either b ≡ true
either-may_be true = refl
either-may_be false = refl

pub known-may_be_same : (b c : Bool) → b ≡ c → may_be (known b) c ≡ true
known-may_be_same b c e = subst (λ k. may_be (known b) k ≡ true) e (known-may_be b)

pub may_be-by : (m : May) (b : Bool) → (b ≡ true → m.set ≡ true) → (b ≡ false → m.clear ≡ true) → may_be m b ≡ true
may_be-by m true set clear = set refl
may_be-by m false set clear = clear refl

-- a known bit is what its set says
pub known-is : (m : May) (b : Bool) → is_known m ≡ true → may_be m b ≡ true → b ≡ m.set
known-is m true k h = sym h
known-is m false k h = sym (not-true m.set (subst (λ c. cond c (not m.set) m.set ≡ true) h k))

pub bit-weight : (b : Bool) (weight : ℕ) → bit_of b weight ≤ weight
unfolding bit_of
bit-weight true weight = omega arith
bit-weight false weight = omega arith

-- the least and the greatest weight of a bit
pub bit-least : (m : May) (b : Bool) (weight : ℕ) → may_be m b ≡ true → bit_of (not m.clear) weight ≤ bit_of b weight
unfolding bit_of
bit-least m true weight h = bit-weight (not m.clear) weight
bit-least m false weight h = rw h (omega arith)

pub bit-greatest : (m : May) (b : Bool) (weight : ℕ) → may_be m b ≡ true → bit_of b weight ≤ bit_of m.set weight
unfolding bit_of
bit-greatest m true weight h = rw h (omega arith)
bit-greatest m false weight h = omega arith

or_other : (a b : Bool) → (a || b) ≡ true → b ≡ false → a ≡ true
or_other true b h e = refl
or_other false b h e = cc

has_value-from : (m : May) (b : Bool) → may_be m b ≡ true → has_value m ≡ true
has_value-from m true h = or_right m.clear m.set h
has_value-from m false h = or_left m.clear m.set h

-- a bit that has a value may be its greatest
greatest-may_be : (m : May) → has_value m ≡ true → may_be m m.set ≡ true
greatest-may_be m h = choose m.set refl
  where
    choose : (b : Bool) → m.set ≡ b → may_be m b ≡ true
    choose true e = e
    choose false e = or_other m.clear m.set h e

-- ---- bytes

pub In-any : (x : ℕ) → x < 256 → In any_val x
In-any x h = record { least = omega arith; most = omega arith; low = refl }

pub single-is : (v : Val) (x : ℕ) → is_single v ≡ true → In v x → x ≡ v.lo
single-is v x h m = grind (arith, nat_tests)

pub In-single : (x : ℕ) → In (single x) x
In-single x = record { least = omega arith; most = omega arith; low = refl }

-- Z by the bounds of a result
pub zero_by-may_be : (v : Val) (x : ℕ) → In v x → may_be (zero_by v) (x == 0) ≡ true
zero_by-may_be v x m = may_be-by (zero_by v) (x == 0) (λ e. grind (arith, nat_tests)) (λ e. grind (arith, nat_tests))

-- ---- flags and outcomes

pub FlagsIn-known : (f : Flags) → FlagsIn (known_flags f) f
FlagsIn-known f =
    record {
      zero = known-may_be f.zero;
      subtract = known-may_be f.subtract;
      half_carry = known-may_be f.half_carry;
      carry = known-may_be f.carry;
    }

pub Gives-exact : (c d : Computed) → d ≡ c → Gives (exact c) d
Gives-exact c d e = subst (λ k. Gives (exact k) d) e (record { value = In-single d.value; flags = FlagsIn-known d.flags })

pub FlagsIn-greatest : (f : Flg) → IsFlg f → FlagsIn f (greatest_flags f)
FlagsIn-greatest f h =
    record {
      zero = greatest-may_be f.zero h.zero;
      subtract = greatest-may_be f.subtract h.subtract;
      half_carry = greatest-may_be f.half_carry h.half_carry;
      carry = greatest-may_be f.carry h.carry;
    }

pub IsFlg-from : (f : Flg) (x : Flags) → FlagsIn f x → IsFlg f
IsFlg-from f x h =
    record {
      zero = has_value-from f.zero x.zero h.zero;
      subtract = has_value-from f.subtract x.subtract h.subtract;
      half_carry = has_value-from f.half_carry x.half_carry h.half_carry;
      carry = has_value-from f.carry x.carry h.carry;
    }

pub IsVal-from : (v : Val) (x : ℕ) → In v x → v.hi < 256 → is_strided v ≡ true → IsVal v
IsVal-from v x m byte strided = record { order = omega arith; hi = byte; strided = strided }

pub In-least : (v : Val) → IsVal v → In v v.lo
In-least v h = record { least = omega arith; most = h.order; low = same_itself v.low_bits v.lo }

IsOutcome-from : (o : AbsComputed) (c : Computed) → Gives o c → o.val.hi < 256 → is_strided o.val ≡ true → IsOutcome o
IsOutcome-from o c h byte strided =
    record { val = IsVal-from o.val c.value h.value byte strided; flags = IsFlg-from o.flags c.flags h.flags }

-- what is sound has a value, where the operands have one
pub IsOutcome-sound :
    (machine : ℕ → Flags → Computed) (v : Val) (f : Flg) (o : AbsComputed)
    → IsSound machine v f o → IsVal v → IsFlg f → o.val.hi < 256 → is_strided o.val ≡ true → IsOutcome o
IsOutcome-sound machine v f o sound val flags byte strided =
    IsOutcome-from o _ (sound.gives v.lo (greatest_flags f) (In-least v val) (FlagsIn-greatest f flags)) byte strided

pub IsOutcome-sound_of_two :
    (machine : ℕ → ℕ → Flags → Computed) (a v : Val) (f : Flg) (o : AbsComputed)
    → IsSoundOfTwo machine a v f o → IsVal a → IsVal v → IsFlg f → o.val.hi < 256 → is_strided o.val ≡ true → IsOutcome o
IsOutcome-sound_of_two machine a v f o sound val other flags byte strided =
    IsOutcome-from o _ (sound.gives a.lo v.lo (greatest_flags f) (In-least a val) (In-least v other) (FlagsIn-greatest f flags)) byte strided
