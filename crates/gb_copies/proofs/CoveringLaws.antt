-- What covers a byte's places holds wherever they do.
use Rattle.std.proofs.Common.{◌≡◌, ℕ, Bool, true, false, Option, Some, None, sym, ◌∙◌, ap, subst}
use Rattle.std.proofs.lemmas.Bool.{and_parts, eqb-true}
use Rattle.gb_ops.specs.declared.op.Register.{Register}
use Rattle.gb_ops.specs.declared.op.Register.TheVariants.{A, B, C, D, E, H, L}
use Rattle.gb_ops.specs.declared.registers.Registers.{Registers}
use Rattle.gb_ops.specs.declared.registers.Flags.{Flags}
use Rattle.gb_ops.specs.Registers.{get}
use Rattle.gb_domain.specs.declared.places.Test.{Test}
use Rattle.gb_domain.specs.declared.places.Test.TheVariants as test
use Rattle.gb_domain.specs.declared.places.OneByte.{OneByte}
use Rattle.gb_copies.specs.Meaning.{IsTested, HoldOneByte}
use Rattle.gb_copies.specs.Covering.{implied, covers_registers, covers_address, is_same_test, covers_test, covers_byte}
use Rattle.gb_copies.specs.Sound.{IsPartOf}

implied_use : (a b : Bool) → implied a b ≡ true → a ≡ true → b ≡ true
implied_use true b h p = h
implied_use false b h p = cc

register_covered : (s t : Registers Bool) (r : Register) → covers_registers s t ≡ true → get r t ≡ true → get r s ≡ true
register_covered s t r h p =
    let l = and_parts _ _ h in
    let h = and_parts _ _ l.0 in
    let e = and_parts _ _ h.0 in
    let d = and_parts _ _ e.0 in
    let c = and_parts _ _ d.0 in
    let b = and_parts _ _ c.0 in
    choose r b.0 b.1 c.1 d.1 e.1 h.1 l.1 p
  where
    choose :
        (r : Register)
        → implied t.a s.a ≡ true → implied t.b s.b ≡ true → implied t.c s.c ≡ true → implied t.d s.d ≡ true
        → implied t.e s.e ≡ true → implied t.h s.h ≡ true → implied t.l s.l ≡ true → get r t ≡ true → get r s ≡ true
    choose A a b c d e h l p = implied_use t.a s.a a p
    choose B a b c d e h l p = implied_use t.b s.b b p
    choose C a b c d e h l p = implied_use t.c s.c c p
    choose D a b c d e h l p = implied_use t.d s.d d p
    choose E a b c d e h l p = implied_use t.e s.e e p
    choose H a b c d e h l p = implied_use t.h s.h h p
    choose L a b c d e h l p = implied_use t.l s.l l p

address_covered : (s t : Option ℕ) (a : ℕ) → covers_address s t ≡ true → t ≡ Some a → s ≡ Some a
address_covered s None a h e = cc
address_covered None (Some c) a h e = cc
address_covered (Some b) (Some c) a h e = ap Some (eqb-true b c h) ∙ e

IsTested-same : (s t : Test) (v : ℕ) (f : Flags) → is_same_test s t ≡ true → IsTested (Some s) v f → IsTested (Some t) v f
IsTested-same (test.Compare n) (test.Compare m) v f h p = subst (λ k. IsTested (Some (test.Compare k)) v f) (eqb-true n m h) p
IsTested-same (test.Bits n) (test.Bits m) v f h p = subst (λ k. IsTested (Some (test.Bits k)) v f) (eqb-true n m h) p
IsTested-same (test.Compare n) (test.Bits m) v f h p = cc
IsTested-same (test.Bits n) (test.Compare m) v f h p = cc

test_covered : (s t : Option Test) (v : ℕ) (f : Flags) → covers_test s t ≡ true → IsTested s v f → IsTested t v f
test_covered s None v f h p = tt
test_covered None (Some t) v f h p = cc
test_covered (Some s) (Some t) v f h p = IsTested-same s t v f h p

HoldOneByte-covered :
    (s t : OneByte) (x : Registers ℕ) (memory : ℕ → ℕ) (f : Flags)
    → covers_byte s t ≡ true → HoldOneByte s x memory f → HoldOneByte t x memory f
unfolding covers_byte
HoldOneByte-covered s t x memory f h k =
    let p = and_parts _ _ h in
    let q = and_parts _ _ p.0 in
    record {
      byte = k.byte;
      small = k.small;
      registers = λ r is. k.registers r (register_covered s.registers t.registers r q.0 is);
      address = λ a is. k.address a (address_covered s.address t.address a q.1 is);
      test = test_covered s.test t.test k.byte f p.1 k.test;
    }

pub covers_byte_sound : (s t : OneByte) (o : Bool) → o ≡ covers_byte s t → o ≡ true → IsPartOf s t
covers_byte_sound s t o e h = record { gives = λ x memory f. HoldOneByte-covered s t x memory f (sym e ∙ h) }
