-- Places that come and go still hold one byte, and tests say what they say of it.
use Rattle.std.proofs.Common.{◌≡◌, ℕ, ◌%◌, ◌<◌, ◌≤◌, Bool, true, false, ◌&&◌, ◌==◌, cond, nat_le, bit_and, Option, Some, None, refl, sym, ◌∙◌, ap, subst, arith}
use Rattle.std.proofs.lemmas.Bool.{and_parts, eqb-true}
use Rattle.std.proofs.lemmas.Bool.Decides.{nat_tests}
use Rattle.std.proofs.lemmas.Grind.{and_numeral}
use Rattle.gb_ops.specs.declared.op.Register.{Register}
use Rattle.gb_ops.specs.declared.op.Register.TheVariants.{A}
use Rattle.gb_ops.specs.declared.registers.Registers.{Registers}
use Rattle.gb_ops.specs.declared.registers.Flags.{Flags}
use Rattle.gb_ops.specs.Registers.{get, set}
use Rattle.gb_domain.specs.declared.places.Place.{Place}
use Rattle.gb_domain.specs.declared.places.Place.TheVariants as place
use Rattle.gb_domain.specs.declared.places.Test.{Test}
use Rattle.gb_domain.specs.declared.places.Test.TheVariants as test
use Rattle.gb_domain.specs.declared.places.OneByte.{OneByte}
use Rattle.gb_domain.specs.Places.{no_place, no_byte}
use Rattle.gb_copies.specs.Meaning.{IsTested, HoldOneByte, held_at}
use Rattle.gb_copies.specs.Places.{has_place, is_address, is_place, count_places, of_places, address_outside, without_register, without_addresses, without_test, with_place, byte_at, only_tested, tested, tested_before_a}
use Rattle.gb_copies.specs.Sound.{IsSoundRegister, IsSoundStore, IsSoundFlags, IsSoundPlace, IsSoundTest, IsSoundOnlyTest, IsSoundTestBefore}
use Rattle.gb_copies.proofs.RegisterLaws.{AllHold-without, AllHold-with, AllHold-none}

pub same_address : {a c : ℕ} → Some a ≡ Some c → a ≡ c
same_address e = cc

-- ---- forgetting

HoldOneByte-without_test :
    (b : OneByte) (x : Registers ℕ) (memory : ℕ → ℕ) (f g : Flags) → HoldOneByte b x memory f → HoldOneByte (record b { test = None }) x memory g
HoldOneByte-without_test b x memory f g h =
    record { byte = h.byte; small = h.small; registers = h.registers; address = h.address; test = tt }

HoldOneByte-of_places :
    (b : OneByte) (x : Registers ℕ) (memory : ℕ → ℕ) (f : Flags) → HoldOneByte b x memory f → HoldOneByte (of_places b) x memory f
HoldOneByte-of_places b x memory f h = choose (has_place b)
  where
    choose : (is : Bool) → HoldOneByte (cond is b (record b { test = None })) x memory f
    choose true = h
    choose false = HoldOneByte-without_test b x memory f f h

pub HoldOneByte-without_register :
    (r : Register) (b : OneByte) (x : Registers ℕ) (memory : ℕ → ℕ) (f : Flags) (n : ℕ)
    → HoldOneByte b x memory f → HoldOneByte (without_register r b) (set r n x) memory f
unfolding without_register
HoldOneByte-without_register r b x memory f n h =
    HoldOneByte-of_places (record b { registers = set r false b.registers }) (set r n x) memory f
    (record {
      byte = h.byte;
      small = h.small;
      registers = AllHold-without r n h.byte b.registers x h.registers;
      address = h.address;
      test = h.test;
    })

pub without_register_sound : (r : Register) (s o : OneByte) → o ≡ without_register r s → IsSoundRegister r s o
without_register_sound r s o e =
    subst (λ k. IsSoundRegister r s k) (sym e) (record { gives = HoldOneByte-without_register r s })

address_outside-other :
    (first last a c : ℕ) (among : Option ℕ) → first ≤ a → a ≤ last → address_outside first last among ≡ Some c
    → (among ≡ Some c) × (c ≡ a → ⊥)
address_outside-other first last a c None low high e = cc
address_outside-other first last a c (Some d) low high e = choose (nat_le first d && nat_le d last) refl e
  where
    choose :
        (b : Bool) → (nat_le first d && nat_le d last) ≡ b → cond b None (Some d) ≡ Some c
        → (Some d ≡ Some c) × (c ≡ a → ⊥)
    choose true is e = cc
    choose false is e = (e, λ same. apart d (same_address e ∙ same) is)
      where
        apart : (d : ℕ) → d ≡ a → (nat_le first d && nat_le d last) ≡ false → ⊥
        apart d same is = grind (arith, nat_tests)

pub HoldOneByte-without_addresses :
    (first last : ℕ) (b : OneByte) (x : Registers ℕ) (memory written : ℕ → ℕ) (f : Flags) (a : ℕ)
    → first ≤ a → a ≤ last → ((c : ℕ) → (c ≡ a → ⊥) → written c ≡ memory c)
    → HoldOneByte b x memory f → HoldOneByte (without_addresses first last b) x written f
unfolding without_addresses
HoldOneByte-without_addresses first last b x memory written f a low high others h =
    HoldOneByte-of_places (record b { address = address_outside first last b.address }) x written f
    (record {
      byte = h.byte;
      small = h.small;
      registers = h.registers;
      address = λ c e.
          let o = address_outside-other first last a c b.address low high e in
          others c o.1 ∙ h.address c o.0;
      test = h.test;
    })

pub without_addresses_sound : (first last : ℕ) (s o : OneByte) → o ≡ without_addresses first last s → IsSoundStore first last s o
without_addresses_sound first last s o e =
    subst (λ k. IsSoundStore first last s k) (sym e) (record { gives = HoldOneByte-without_addresses first last s })

pub without_test_sound : (s o : OneByte) → o ≡ without_test s → IsSoundFlags s o
unfolding without_test
without_test_sound s o e = subst (λ k. IsSoundFlags s k) (sym e) (record { gives = HoldOneByte-without_test s })

-- ---- places

-- a place of the byte holds it
pub held_at-place :
    (p : Place) (b : OneByte) (x : Registers ℕ) (memory : ℕ → ℕ) (f : Flags) (h : HoldOneByte b x memory f)
    → is_place p b ≡ true → held_at p x memory ≡ h.byte
unfolding is_place
held_at-place (place.Register r) b x memory f h is = h.registers r is
held_at-place (place.Address a) b x memory f h is = h.address a (found b.address is)
  where
    found : (among : Option ℕ) → is_address a among ≡ true → among ≡ Some a
    found None is = cc
    found (Some c) is = ap Some (sym (eqb-true a c is))

-- a place that holds the byte may be one of its places
pub HoldOneByte-with_place :
    (p : Place) (b : OneByte) (x : Registers ℕ) (memory : ℕ → ℕ) (f : Flags) (h : HoldOneByte b x memory f)
    → held_at p x memory ≡ h.byte → HoldOneByte (with_place p b) x memory f
unfolding with_place
HoldOneByte-with_place (place.Register r) b x memory f h e =
    record {
      byte = h.byte;
      small = h.small;
      registers = AllHold-with r h.byte b.registers x e h.registers;
      address = h.address;
      test = h.test;
    }
HoldOneByte-with_place (place.Address a) b x memory f h e =
    record {
      byte = h.byte;
      small = h.small;
      registers = h.registers;
      address = λ c same. ap memory (sym (same_address same)) ∙ e;
      test = h.test;
    }

HoldOneByte-no_byte : (v : ℕ) (x : Registers ℕ) (memory : ℕ → ℕ) (f : Flags) → v < 256 → HoldOneByte no_byte x memory f
HoldOneByte-no_byte v x memory f small =
    record { byte = v; small = small; registers = AllHold-none v x; address = λ a e. cc; test = tt }

pub HoldOneByte-byte_at :
    (p : Place) (x : Registers ℕ) (memory : ℕ → ℕ) (f : Flags) → held_at p x memory < 256 → HoldOneByte (byte_at p) x memory f
unfolding HoldOneByte-no_byte
HoldOneByte-byte_at p x memory f small =
    HoldOneByte-with_place p no_byte x memory f (HoldOneByte-no_byte (held_at p x memory) x memory f small) refl

pub byte_at_sound : (p : Place) (o : OneByte) → o ≡ byte_at p → IsSoundPlace p o
byte_at_sound p o e = subst (λ k. IsSoundPlace p k) (sym e) (record { gives = HoldOneByte-byte_at p })

-- ---- tests

HoldOneByte-only_tested :
    (p : Place) (t : Test) (x : Registers ℕ) (memory : ℕ → ℕ) (f : Flags)
    → held_at p x memory < 256 → IsTested (Some t) (held_at p x memory) f → HoldOneByte (only_tested p t) x memory f
unfolding with_place
HoldOneByte-only_tested (place.Register r) t x memory f small says =
    record {
      byte = get r x;
      small = small;
      registers = AllHold-with r (get r x) no_place x refl (AllHold-none (get r x) x);
      address = λ a e. cc;
      test = says;
    }
HoldOneByte-only_tested (place.Address a) t x memory f small says =
    record {
      byte = memory a;
      small = small;
      registers = AllHold-none (memory a) x;
      address = λ c same. ap memory (sym (same_address same));
      test = says;
    }

pub only_tested_sound : (p : Place) (t : Test) (o : OneByte) → o ≡ only_tested p t → IsSoundOnlyTest p t o
only_tested_sound p t o e = subst (λ k. IsSoundOnlyTest p t k) (sym e) (record { gives = HoldOneByte-only_tested p t })

HoldOneByte-tested :
    (p : Place) (t : Test) (b : OneByte) (x : Registers ℕ) (memory : ℕ → ℕ) (f g : Flags)
    → held_at p x memory < 256 → IsTested (Some t) (held_at p x memory) g
    → HoldOneByte b x memory f → HoldOneByte (tested p t b) x memory g
unfolding tested
HoldOneByte-tested p t b x memory f g small says h = choose (is_place p b) refl
  where
    choose : (is : Bool) → is_place p b ≡ is → HoldOneByte (cond is (record b { test = Some t }) (only_tested p t)) x memory g
    choose true is =
        record {
          byte = h.byte;
          small = h.small;
          registers = h.registers;
          address = h.address;
          test = subst (λ v. IsTested (Some t) v g) (held_at-place p b x memory f h is) says;
        }
    choose false is = HoldOneByte-only_tested p t x memory g small says

pub tested_sound : (p : Place) (t : Test) (s o : OneByte) → o ≡ tested p t s → IsSoundTest p t s o
tested_sound p t s o e = subst (λ k. IsSoundTest p t s k) (sym e) (record { gives = HoldOneByte-tested p t s })

-- all bits of a byte
all_bits : (n : ℕ) → n < 256 → bit_and n 255 ≡ n
all_bits n small =
    let e : bit_and n 255 ≡ n % 256 = and_numeral n 254 refl in
    omega arith

HoldOneByte-tested_before_a :
    (t : Test) (b : OneByte) (x : Registers ℕ) (memory : ℕ → ℕ) (f g : Flags) (n : ℕ)
    → get A x < 256 → n < 256 → IsTested (Some t) (get A x) g → g.zero ≡ (n == 0)
    → HoldOneByte b x memory f → HoldOneByte (tested_before_a t b) (set A n x) memory g
unfolding tested_before_a
HoldOneByte-tested_before_a t b x memory f g n before small says zero h =
    choose (b.registers.a && nat_le 2 (count_places b)) refl
  where
    choose :
        (is : Bool) → (b.registers.a && nat_le 2 (count_places b)) ≡ is
        → HoldOneByte (cond is (record (record b { registers = record b.registers { a = false } }) { test = Some t }) (only_tested (place.Register A) (test.Bits 255))) (set A n x) memory g
    choose true is =
        record {
          byte = h.byte;
          small = h.small;
          registers = AllHold-without A n h.byte b.registers x h.registers;
          address = h.address;
          test = subst (λ v. IsTested (Some t) v g) (h.registers A (and_parts _ _ is).0) says;
        }
    choose false is =
        HoldOneByte-only_tested (place.Register A) (test.Bits 255) (set A n x) memory g small
        (subst (λ m. g.zero ≡ (m == 0)) (sym (all_bits n small)) zero)

pub tested_before_a_sound : (t : Test) (s o : OneByte) → o ≡ tested_before_a t s → IsSoundTestBefore t s o
tested_before_a_sound t s o e = subst (λ k. IsSoundTestBefore t s k) (sym e) (record { gives = HoldOneByte-tested_before_a t s })
