-- DAA stands for that of the machine.
use Rattle.std.proofs.Common.{◌≡◌, ℕ, ◌%◌, ◌<◌, Bool, true, false, ◌&&◌, cond, refl, sym, subst, arith}
use Rattle.std.proofs.lemmas.Bool.{and_parts}
use Rattle.gb_ops.specs.declared.registers.Flags.{Flags}
use Rattle.gb_ops.specs.Arithmetic.{adjusted}
use Rattle.gb_domain.specs.declared.types.Val.{Val}
use Rattle.gb_domain.specs.declared.types.Flg.{Flg}
use Rattle.gb_domain.specs.Rules.{IsVal, IsFlg}
use Rattle.gb_vals.specs.declared.outcome.AbsComputed.{AbsComputed}
use Rattle.gb_vals.specs.Vals.{is_single}
use Rattle.gb_vals.specs.Flags.{is_known, greatest_flags}
use Rattle.gb_vals.specs.Outcomes.{exact}
use Rattle.gb_vals.specs.Meaning.{In, FlagsIn, Gives, IsSound, IsOutcome}
use Rattle.gb_vals.specs.Daa.{adjusted_any, adjustment_of}
use Rattle.gb_vals.proofs.MeaningLaws.{either-may_be, known-is, single-is, In-any, Gives-exact, IsOutcome-sound}
use Rattle.gb_domain.specs.Values.{is_strided}
use Rattle.gb_vals.proofs.StrideLaws.{adjustment-strided}

adjusted-byte : (a : ℕ) (f : Flags) → (adjusted a f).value < 256
unfolding adjusted
adjusted-byte a f = choose f.subtract _ _
  where
    choose : (b : Bool) (p q : ℕ) → cond b (p % 256) (q % 256) < 256
    choose true p q = omega arith
    choose false p q = omega arith

-- Z doesn't count
without_z : (a : ℕ) (z z' n h c : Bool) → adjusted a (record { zero = z; subtract = n; half_carry = h; carry = c }) ≡ adjusted a (record { zero = z'; subtract = n; half_carry = h; carry = c })
unfolding adjusted
without_z a z z' n h c = refl

same_adjusted :
    (a a' : ℕ) (z z' n n' h h' c c' : Bool) → a ≡ a' → n ≡ n' → h ≡ h' → c ≡ c'
    → adjusted a (record { zero = z; subtract = n; half_carry = h; carry = c }) ≡ adjusted a' (record { zero = z'; subtract = n'; half_carry = h'; carry = c' })
same_adjusted a a' z z' n n' h h' c c' e p q r =
    let z : adjusted a (record { zero = z; subtract = n; half_carry = h; carry = c }) ≡ adjusted a (record { zero = z'; subtract = n; half_carry = h; carry = c }) = without_z a z z' n h c in
    cc

Gives-adjusted_any : (f : Flg) (x : ℕ) (g : Flags) → FlagsIn f g → Gives (adjusted_any f) (adjusted x g)
unfolding adjusted
Gives-adjusted_any f x g h =
    record {
      value = In-any (adjusted x g).value (adjusted-byte x g);
      flags = record { zero = either-may_be _; subtract = h.subtract; half_carry = refl; carry = either-may_be _ };
    }

Gives-adjustment_of : (a : Val) (f : Flg) (x : ℕ) (g : Flags) → In a x → FlagsIn f g → Gives (adjustment_of a f) (adjusted x g)
unfolding adjustment_of
Gives-adjustment_of a f x g m h = choose (is_single a && (is_known f.subtract && is_known f.half_carry && is_known f.carry)) refl
  where
    choose :
        (b : Bool) → (is_single a && (is_known f.subtract && is_known f.half_carry && is_known f.carry)) ≡ b
        → Gives (cond b (exact (adjusted a.lo (greatest_flags f))) (adjusted_any f)) (adjusted x g)
    choose true e =
        let both = and_parts _ _ e in
        let read = and_parts _ _ both.1 in
        let first = and_parts _ _ read.0 in
        Gives-exact (adjusted a.lo (greatest_flags f)) (adjusted x g)
        (same_adjusted x a.lo g.zero f.zero.set g.subtract f.subtract.set g.half_carry f.half_carry.set g.carry f.carry.set (single-is a x both.0 m) (known-is f.subtract g.subtract first.0 h.subtract) (known-is f.half_carry g.half_carry first.1 h.half_carry) (known-is f.carry g.carry read.1 h.carry))
    choose false e = Gives-adjusted_any f x g h

pub adjust_sound : (a : Val) (f : Flg) (o : AbsComputed) → o ≡ adjustment_of a f → IsSound adjusted a f o
adjust_sound a f o e = subst (λ r. IsSound adjusted a f r) (sym e) (record { gives = Gives-adjustment_of a f })

adjustment_of-byte : (a : Val) (f : Flg) → (adjustment_of a f).val.hi < 256
unfolding adjustment_of
adjustment_of-byte a f = choose (is_single a && (is_known f.subtract && is_known f.half_carry && is_known f.carry))
  where
    choose :
        (b : Bool) → (cond b (exact (adjusted a.lo (greatest_flags f))) (adjusted_any f)).val.hi < 256
    choose true = adjusted-byte a.lo (greatest_flags f)
    choose false = omega arith

pub adjust_inhabited : (a : Val) (f : Flg) (o : AbsComputed) → o ≡ adjustment_of a f → IsVal a → IsFlg f → IsOutcome o
adjust_inhabited a f o e val flags =
    IsOutcome-sound adjusted a f o (adjust_sound a f o e) val flags (subst (λ r. r.val.hi < 256) (sym e) (adjustment_of-byte a f))
    (subst (λ r. is_strided r.val ≡ true) (sym e) (adjustment-strided a f))
