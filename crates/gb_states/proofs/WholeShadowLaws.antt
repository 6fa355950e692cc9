-- Places that shadow the controller's registers: what is read is spelled so, and what is spelled so is read.
use Rattle.std.proofs.Common.{◌≡◌, ℕ, ◌+◌, ◌*◌, ◌%◌, ◌<◌, ◌≤◌, Bool, true, false, ◌&&◌, not, ◌==◌, List, ◌++◌, Option, Some, None, refl, sym, ◌∙◌, ap, subst, arith}
use Rattle.std.specs.Prelude.{IfSome, is_some, is_none}
use Rattle.std.proofs.lemmas.Bool.Decides.{nat_tests}
use Rattle.gb_ops.specs.declared.machine.Region.{Region}
use Rattle.gb_ops.specs.declared.registers.Registers.{Registers}
use Rattle.gb_fields.specs.declared.fault.CertFault.TheVariants as fault
use Rattle.gb_domain.specs.declared.summary.Shadows.{Shadows}
use Rattle.gb_domain.specs.declared.summary.BankShadows.{BankShadows}
use Rattle.gb_domain.specs.Areas.{is_free_byte}
use Rattle.gb_domain.specs.RelationRules.{is_some_register}
use Rattle.gb_fields.specs.Format.{Read, checked, optional, byte}
use Rattle.gb_states.specs.RelationReading.{to_registers, address_at}
use Rattle.gb_states.specs.Rules.{is_unshadowed}
use Rattle.gb_states.specs.WholeRules.{AreShadowsIn, AreBankShadows}
use Rattle.gb_states.specs.WholeReading.{to_shadows, has_address, places_at, shadows_at, is_some_place, others_at, to_bank_shadows, bank_shadows_at}
use Rattle.gb_states.specs.Spelling as simple
use Rattle.gb_states.specs.RelationSpelling as told
use Rattle.gb_states.specs.WholeSpelling as spelled
use Rattle.gb_states.proofs.Formats.{IsFormat, IsFormat-byte, IsFormat-followed, IsFormat-checked, IsFormat-onto, IsFormat-mapped, IsFormat-as}
use Rattle.gb_states.proofs.FieldLaws.{same, spelled_byte}
use Rattle.gb_states.proofs.RelationLaws.{is_seven, registers-number, number-registers, no-registers, split, split-parts}
use Rattle.gb_states.proofs.PlaceLaws.{IsFormat-option, IsFormat-address}

from_shadows : Shadows → ℕ × Option ℕ
from_shadows s = (spelled.shadows_number s, s.address)

abbrev IsFreeOption : Region → Option ℕ → Type 0
IsFreeOption region o = IfSome o (λ a. is_free_byte region a ≡ true)

-- a byte that a test lets through, and an address where it says so
abbrev ArePlaces : Region → (ℕ → Type 0) → ℕ × Option ℕ → Type 0
ArePlaces region g p = g p.0 × ((is_some p.1 ≡ has_address p.0) × IsFreeOption region p.1)

number-again : (p : ℕ × Option ℕ) → p.0 < 256 → is_some p.1 ≡ has_address p.0 → spelled.shadows_number (to_shadows p) ≡ p.0
number-again p small e =
    let low : p.0 % 128 ≤ 127 = omega arith in
    ap (λ (b : Bool). 128 * simple.flag b + told.registers_number (to_registers (p.0 % 128))) e ∙ (ap (λ (n : ℕ). 128 * simple.flag (has_address p.0) + n) (number-registers (p.0 % 128) (is_seven (p.0 % 128) low)) ∙ split p.0 (has_address p.0) small refl)

places-there : (region : Region) (g : ℕ → Type 0) → ((n : ℕ) → g n → n < 256) → (p : ℕ × Option ℕ) → ArePlaces region g p → (from_shadows (to_shadows p) ≡ p) × (AreShadowsIn region (to_shadows p) × g (spelled.shadows_number (to_shadows p)))
unfolding from_shadows
places-there region g small p h =
    let e = number-again p (small p.0 h.0) h.1.0 in
    (ap (λ (n : ℕ). (let q : ℕ × Option ℕ = (n, p.1) in q)) e, (h.1.1, subst g (sym e) h.0))

number_small : (s : Shadows) → spelled.shadows_number s < 256
number_small s = by (is_some s.address) (registers-number s.registers).1
  where
    by : (b : Bool) → told.registers_number s.registers ≤ 127 → 128 * simple.flag b + told.registers_number s.registers < 256
    by true h = omega (arith, h)
    by false h = omega (arith, h)

places-again : (region : Region) (g : ℕ → Type 0) (s : Shadows) → AreShadowsIn region s × g (spelled.shadows_number s) → ArePlaces region g (from_shadows s) × (to_shadows (from_shadows s) ≡ s)
unfolding from_shadows
places-again region g s h =
    let r = registers-number s.registers in
    let p = split-parts (is_some s.address) (told.registers_number s.registers) r.1 in
    ((h.1, (sym p.1, h.0)), ap (λ (q : Registers Bool). (let x : Shadows = record { registers = q; address = s.address } in x)) (ap to_registers p.0 ∙ r.0))

abbrev spelled_places : ℕ × Option ℕ → List ℕ
spelled_places p = spelled_byte p.0 ++ told.optional simple.word p.1

IsFormat-places : (region : Region) (number : Read ℕ) (g : ℕ → Type 0) → ((n : ℕ) → g n → n < 256) → IsFormat number spelled_byte g → IsFormat (places_at region number) spelled.shadows (λ s. AreShadowsIn region s × g (spelled.shadows_number s))
unfolding from_shadows spelled.shadows
IsFormat-places region number g small a =
    IsFormat-onto to_shadows from_shadows _ spelled_places (ArePlaces region g) (λ s. AreShadowsIn region s × g (spelled.shadows_number s)) (places-there region g small) (places-again region g)
    (IsFormat-followed number (λ n. optional (has_address n) (address_at region)) spelled_byte (λ n. told.optional simple.word) g (λ n o. (is_some o ≡ has_address n) × IsFreeOption region o) a
    (λ n h. IsFormat-option (has_address n) (address_at region) simple.word (λ a. is_free_byte region a ≡ true) (IsFormat-address region)))

IsFormat-shadows : (region : Region) → IsFormat (shadows_at region) spelled.shadows (AreShadowsIn region)
unfolding shadows_at
IsFormat-shadows region =
    IsFormat-as (shadows_at region) spelled.shadows (λ s. AreShadowsIn region s × (spelled.shadows_number s < 256)) (AreShadowsIn region) (λ s h. h.0) (λ s h. (h, number_small s))
    (IsFormat-places region byte (λ n. n < 256) (λ n h. h) IsFormat-byte)

-- The byte is 0 exactly where there is no place.
none-said : (s : Shadows) → (spelled.shadows_number s == 0) ≡ is_unshadowed s
none-said s = by s.address (is_some_register s.registers) refl
  where
    not_zero : (n : ℕ) → 1 ≤ n → (n == 0) ≡ false
    not_zero n h = grind (arith, nat_tests)

    no_register : is_some_register s.registers ≡ false → told.registers_number s.registers ≡ 0
    no_register e = ap told.registers_number (no-registers s.registers e)

    zero_none : told.registers_number s.registers ≡ 0 → is_some_register s.registers ≡ false
    zero_none e = ap is_some_register (sym (registers-number s.registers).0 ∙ ap to_registers e)

    not_so : {X : Type 0} → true ≡ false → X
    not_so e = cc

    some_register : is_some_register s.registers ≡ true → (told.registers_number s.registers == 0) ≡ false
    some_register e = zero (told.registers_number s.registers == 0) refl
      where
        zero : (b : Bool) → (told.registers_number s.registers == 0) ≡ b → b ≡ false
        zero true f = not_so (sym e ∙ zero_none (same (told.registers_number s.registers) 0 f))
        zero false f = refl

    by : (o : Option ℕ) (b : Bool) → is_some_register s.registers ≡ b → (128 * simple.flag (is_some o) + told.registers_number s.registers == 0) ≡ (is_none o && not (is_some_register s.registers))
    by (Some a) b e = not_zero (128 + told.registers_number s.registers) (omega arith)
    by None true e = rw e (ap (λ n. n == 0) (plus (told.registers_number s.registers)) ∙ some_register e)
      where
        plus : (n : ℕ) → 128 * simple.flag false + n ≡ n
        plus n = omega arith
    by None false e = rw e (ap (λ n. n == 0) (plus (told.registers_number s.registers) (no_register e)))
      where
        plus : (n : ℕ) → n ≡ 0 → 128 * simple.flag false + n ≡ 0
        plus n h = omega (arith, h)

abbrev AreOthers : Region → Shadows → Shadows → Type 0
AreOthers region first second = AreShadowsIn region second × ((is_unshadowed first && is_unshadowed second) ≡ false)

some-place : (first second : Shadows) → is_some_place first (spelled.shadows_number second) ≡ not (is_unshadowed first && is_unshadowed second)
some-place first second = ap (λ b. not (is_unshadowed first && b)) (none-said second)

not_true : (b : Bool) → not b ≡ true → b ≡ false
not_true true h = cc
not_true false h = refl

true_not : (b : Bool) → b ≡ false → not b ≡ true
true_not b h = rw h refl

IsFormat-others : (region : Region) (first : Shadows) → IsFormat (others_at region first) spelled.shadows (AreOthers region first)
unfolding others_at
IsFormat-others region first =
    IsFormat-as (others_at region first) spelled.shadows (λ s. AreShadowsIn region s × ((spelled.shadows_number s < 256) × (is_some_place first (spelled.shadows_number s) ≡ true))) (AreOthers region first)
    (λ s h. (h.0, not_true (is_unshadowed first && is_unshadowed s) (sym (some-place first s) ∙ h.1.1)))
    (λ s h. (h.0, (number_small s, some-place first s ∙ true_not (is_unshadowed first && is_unshadowed s) h.1)))
    (IsFormat-places region (checked fault.Field (is_some_place first) byte) (λ n. (n < 256) × (is_some_place first n ≡ true)) (λ n h. h.0) (IsFormat-checked fault.Field (is_some_place first) byte spelled_byte (λ n. n < 256) IsFormat-byte))

from_bank_shadows : BankShadows → Shadows × Shadows
from_bank_shadows b = (b.first, b.second)

pub IsFormat-bank_shadows : (region : Region) → IsFormat (bank_shadows_at region) spelled.bank_shadows (AreBankShadows region)
unfolding bank_shadows_at from_bank_shadows spelled.bank_shadows
IsFormat-bank_shadows region =
    IsFormat-as (bank_shadows_at region) spelled.bank_shadows (λ b. AreShadowsIn region b.first × AreOthers region b.first b.second) (AreBankShadows region) (λ b h. record { first = h.0; second = h.1.0; some = h.1.1 }) (λ b h. (h.first, (h.second, h.some)))
    (IsFormat-mapped to_bank_shadows from_bank_shadows _ (λ p. spelled.shadows p.0 ++ spelled.shadows p.1) (λ p. AreShadowsIn region p.0 × AreOthers region p.0 p.1) (λ x h. refl) (λ y h. refl)
    (IsFormat-followed (shadows_at region) (others_at region) spelled.shadows (λ first. spelled.shadows) (AreShadowsIn region) (AreOthers region) (IsFormat-shadows region) (λ first h. IsFormat-others region first)))
