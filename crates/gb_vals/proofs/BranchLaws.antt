-- Sides stand for the flags where the condition is met, and for a compared value.
use Rattle.std.proofs.Common.{◌≡◌, ℕ, ◌+◌, ◌-◌, ◌<◌, ◌≤◌, Bool, true, false, ◌==◌, cond, nat_lt, Option, Some, None, refl, sym, ◌∙◌, subst, arith}
use Rattle.std.proofs.lemmas.Bool.{not-true, true≢false}
use Rattle.std.proofs.lemmas.Bool.Decides.{nat_tests}
use Rattle.gb_ops.specs.declared.op.Condition.{Condition}
use Rattle.gb_ops.specs.declared.op.Condition.TheVariants as condition
use Rattle.gb_ops.specs.declared.registers.Flags.{Flags}
use Rattle.gb_ops.specs.Flags.{is_met}
use Rattle.gb_domain.specs.declared.types.Val.{Val}
use Rattle.gb_domain.specs.declared.types.Flg.{Flg}
use Rattle.gb_domain.specs.Rules.{IsFlg}
use Rattle.gb_vals.specs.Logic.{smaller, larger}
use Rattle.gb_vals.specs.Meaning.{In, FlagsIn, may_be}
use Rattle.gb_vals.specs.Tests.{IsCompared, IsSoundSide, IsKept, may_be_met, flags_met, meet, without, narrowed_by, side, IsOnSide, IsSide}
use Rattle.gb_vals.proofs.MeaningLaws.{known-may_be_same}

-- ---- a compared value on a side

-- x is among the values that are left, of which there are some
unfoldable pub IsHeld : Option Val → ℕ → Type 0
IsHeld None x = ⊥
IsHeld (Some v) x = In v x

IsHeld-meet : (first end x : ℕ) (v : Val) → first ≤ x → x < end → In v x → IsHeld (meet first end v) x
unfolding meet IsHeld
IsHeld-meet first end x v low high m = choose (nat_lt (larger v.lo first) (smaller (v.hi + 1) end)) refl
  where
    choose :
        (b : Bool) → nat_lt (larger v.lo first) (smaller (v.hi + 1) end) ≡ b
        → IsHeld (cond b (Some (record v { lo = larger v.lo first; hi = smaller (v.hi + 1) end - 1; low_bits = 0 })) None) x
    choose true e = record { least = grind (arith, nat_tests); most = grind (arith, nat_tests); low = refl }
    choose false e = absurd (grind (arith, nat_tests))

IsHeld-without : (n x : ℕ) (v : Val) → v.hi < 256 → (x == n) ≡ false → In v x → IsHeld (without n v) x
unfolding IsHeld
IsHeld-without n x v byte differs m = choose (v.lo == n) (v.hi == n) refl refl
  where
    choose :
        (b c : Bool) → (v.lo == n) ≡ b → (v.hi == n) ≡ c
        → IsHeld (cond b (meet (n + 1) 256 v) (cond c (meet 0 n v) (Some v))) x
    choose true c e f = IsHeld-meet (n + 1) 256 x v (grind (arith, nat_tests)) (omega arith) m
    choose false true e f = IsHeld-meet 0 n x v (omega arith) (grind (arith, nat_tests)) m
    choose false false e f = m

pub IsHeld-narrowed_by :
    (n : ℕ) (c : Condition) (v : Val) (x : ℕ) (g : Flags)
    → v.hi < 256 → IsCompared n x g → is_met c g ≡ true → In v x → IsHeld (narrowed_by n c v) x
unfolding is_met
IsHeld-narrowed_by n condition.NotZero v x g byte t h m = IsHeld-without n x v byte (sym t.0 ∙ not-true g.zero h) m
IsHeld-narrowed_by n condition.Zero v x g byte t h m =
    let e : (x == n) ≡ true = sym t.0 ∙ h in
    IsHeld-meet n (n + 1) x v (grind (arith, nat_tests)) (grind (arith, nat_tests)) m
IsHeld-narrowed_by n condition.NotCarry v x g byte t h m =
    let e : nat_lt x n ≡ false = sym t.1 ∙ not-true g.carry h in
    IsHeld-meet n 256 x v (grind (arith, nat_tests)) (omega arith) m
IsHeld-narrowed_by n condition.Carry v x g byte t h m =
    let e : nat_lt x n ≡ true = sym t.1 ∙ h in
    IsHeld-meet 0 n x v (omega arith) (grind (arith, nat_tests)) m

-- ---- the flags on a side

may_be_met-holds : (c : Condition) (f : Flg) (g : Flags) → is_met c g ≡ true → FlagsIn f g → may_be_met c f ≡ true
unfolding is_met
may_be_met-holds condition.NotZero f g h k = subst (λ b. may_be f.zero b ≡ true) (not-true g.zero h) k.zero
may_be_met-holds condition.Zero f g h k = subst (λ b. may_be f.zero b ≡ true) h k.zero
may_be_met-holds condition.NotCarry f g h k = subst (λ b. may_be f.carry b ≡ true) (not-true g.carry h) k.carry
may_be_met-holds condition.Carry f g h k = subst (λ b. may_be f.carry b ≡ true) h k.carry

FlagsIn-flags_met : (c : Condition) (f : Flg) (g : Flags) → is_met c g ≡ true → FlagsIn f g → FlagsIn (flags_met c f) g
unfolding is_met
FlagsIn-flags_met condition.NotZero f g h k =
    record { zero = known-may_be_same false g.zero (sym (not-true g.zero h)); subtract = k.subtract; half_carry = k.half_carry; carry = k.carry }
FlagsIn-flags_met condition.Zero f g h k =
    record { zero = known-may_be_same true g.zero (sym h); subtract = k.subtract; half_carry = k.half_carry; carry = k.carry }
FlagsIn-flags_met condition.NotCarry f g h k =
    record { zero = k.zero; subtract = k.subtract; half_carry = k.half_carry; carry = known-may_be_same false g.carry (sym (not-true g.carry h)) }
FlagsIn-flags_met condition.Carry f g h k =
    record { zero = k.zero; subtract = k.subtract; half_carry = k.half_carry; carry = known-may_be_same true g.carry (sym h) }

IsOnSide-side : (c : Condition) (f : Flg) (g : Flags) → FlagsIn f g → is_met c g ≡ true → IsOnSide (side c f) g
unfolding side
IsOnSide-side c f g h met = choose (may_be_met c f) refl
  where
    choose : (b : Bool) → may_be_met c f ≡ b → IsOnSide (cond b (Some (flags_met c f)) None) g
    choose true e = FlagsIn-flags_met c f g met h
    choose false e = absurd (true≢false (sym (may_be_met-holds c f g met h) ∙ e))

pub side_sound : (c : Condition) (f : Flg) (o : Option Flg) → o ≡ side c f → IsSoundSide c f o
side_sound c f o e = subst (λ r. IsSoundSide c f r) (sym e) (record { gives = λ g. IsOnSide-side c f g })

-- ---- each flag has a value

IsFlg-flags_met : (c : Condition) (f : Flg) → IsFlg f → IsFlg (flags_met c f)
IsFlg-flags_met condition.NotZero f h = record { zero = refl; subtract = h.subtract; half_carry = h.half_carry; carry = h.carry }
IsFlg-flags_met condition.Zero f h = record { zero = refl; subtract = h.subtract; half_carry = h.half_carry; carry = h.carry }
IsFlg-flags_met condition.NotCarry f h = record { zero = h.zero; subtract = h.subtract; half_carry = h.half_carry; carry = refl }
IsFlg-flags_met condition.Carry f h = record { zero = h.zero; subtract = h.subtract; half_carry = h.half_carry; carry = refl }

pub side_inhabited : (c : Condition) (f : Flg) (o : Option Flg) → o ≡ side c f → IsFlg f → IsSide o
unfolding side
side_inhabited c f o e q = subst (λ r. IsSide r) (sym e) (choose (may_be_met c f))
  where
    choose : (b : Bool) → IsSide (cond b (Some (flags_met c f)) None)
    choose true = IsFlg-flags_met c f q
    choose false = tt

-- ---- F stays a copy

flags_met-own : (c : Condition) (f : Flg) → (flags_met c f).is_own ≡ f.is_own
flags_met-own condition.NotZero f = refl
flags_met-own condition.Zero f = refl
flags_met-own condition.NotCarry f = refl
flags_met-own condition.Carry f = refl

pub side_kept : (c : Condition) (f : Flg) (o : Option Flg) → o ≡ side c f → IsKept f o
unfolding side
side_kept c f o e = subst (λ r. IsKept f r) (sym e) (choose (may_be_met c f))
  where
    choose : (b : Bool) → IsKept f (cond b (Some (flags_met c f)) None)
    choose true = flags_met-own c f
    choose false = tt
