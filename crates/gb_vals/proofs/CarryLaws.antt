-- SCF and CCF stand for those of the machine.
use Rattle.std.proofs.Common.{◌≡◌, Bool, true, false, not, if◌then◌else◌, cond, refl, sym, ap, subst}
use Rattle.gb_ops.specs.declared.registers.Flags.{Flags}
use Rattle.gb_domain.specs.declared.types.May.{May}
use Rattle.gb_domain.specs.declared.types.Flg.{Flg}
use Rattle.gb_domain.specs.Rules.{IsFlg}
use Rattle.gb_vals.specs.Flags.{known, either, is_known, greatest_flags}
use Rattle.gb_vals.specs.Meaning.{FlagsIn, may_be, IsSoundOfFlags}
use Rattle.gb_vals.specs.Carry.{set_carry, complement_carry, set_carry_result, complement_carry_result}
use Rattle.gb_vals.proofs.MeaningLaws.{known-may_be_same, either-may_be, known-is, FlagsIn-greatest, IsFlg-from}

FlagsIn-set_carry : (f : Flg) (x : Flags) → FlagsIn f x → FlagsIn (set_carry f) (set_carry_result x)
unfolding set_carry
FlagsIn-set_carry f x h = record { zero = h.zero; subtract = refl; half_carry = refl; carry = refl }

turned-may_be : (m : May) (b : Bool) → may_be m b ≡ true → may_be (if is_known m then known (not m.set) else either) (not b) ≡ true
turned-may_be m b h = choose (is_known m) refl
  where
    choose : (k : Bool) → is_known m ≡ k → may_be (cond k (known (not m.set)) either) (not b) ≡ true
    choose true e = known-may_be_same (not m.set) (not b) (ap not (sym (known-is m b e h)))
    choose false e = either-may_be (not b)

FlagsIn-complement_carry : (f : Flg) (x : Flags) → FlagsIn f x → FlagsIn (complement_carry f) (complement_carry_result x)
unfolding complement_carry
FlagsIn-complement_carry f x h =
    record { zero = h.zero; subtract = refl; half_carry = refl; carry = turned-may_be f.carry x.carry h.carry }

pub set_carry_sound : (f o : Flg) → o ≡ set_carry f → IsSoundOfFlags set_carry_result f o
set_carry_sound f o e = subst (λ r. IsSoundOfFlags set_carry_result f r) (sym e) (record { gives = FlagsIn-set_carry f })

pub set_carry_inhabited : (f o : Flg) → o ≡ set_carry f → IsFlg f → IsFlg o
set_carry_inhabited f o e h =
    subst (λ r. IsFlg r) (sym e) (IsFlg-from (set_carry f) _ (FlagsIn-set_carry f (greatest_flags f) (FlagsIn-greatest f h)))

pub complement_carry_sound : (f o : Flg) → o ≡ complement_carry f → IsSoundOfFlags complement_carry_result f o
complement_carry_sound f o e =
    subst (λ r. IsSoundOfFlags complement_carry_result f r) (sym e) (record { gives = FlagsIn-complement_carry f })

pub complement_carry_inhabited : (f o : Flg) → o ≡ complement_carry f → IsFlg f → IsFlg o
complement_carry_inhabited f o e h =
    subst (λ r. IsFlg r) (sym e) (IsFlg-from (complement_carry f) _ (FlagsIn-complement_carry f (greatest_flags f) (FlagsIn-greatest f h)))
