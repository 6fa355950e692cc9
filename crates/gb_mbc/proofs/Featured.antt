-- What a cartridge of each kind has.
use Rattle.std.proofs.Common.{◌≡◌, ℕ, List, Bool, true, false, cond, refl, arith, nat_lt, nat_le, ◌==◌, ◌&&◌, ◌||◌, not, Option, Some, None}
use Rattle.std.proofs.lemmas.Bool.Decides.{nat_tests}
use Rattle.gb_ops.specs.Cartridge.{kind_of, kind_or_rom, kind_of_type, type_byte, type_has_ram, type_has_clock, type_has_rumble, ram_banks, has_clock}
use Rattle.gb_ops.specs.declared.machine.Kind.{Kind}
use Rattle.gb_ops.specs.declared.machine.Kind.TheVariants as kind

-- the ranges of types, in their order
abbrev chosen : Bool → Bool → Bool → Bool → Option Kind
chosen a b c d = cond a (Some kind.Rom) (cond b (Some kind.Mbc1) (cond c (Some kind.Mbc3) (cond d (Some kind.Mbc5) None)))

rom_is : (a b c d : Bool) → kind_or_rom (chosen a b c d) ≡ kind.Rom → (a || (not b && not c && not d)) ≡ true
rom_is true b c d h = refl
rom_is false true c d h = absurd (let bad : kind.Mbc1 ≡ kind.Rom = h in cc)
rom_is false false true d h = absurd (let bad : kind.Mbc3 ≡ kind.Rom = h in cc)
rom_is false false false true h = absurd (let bad : kind.Mbc5 ≡ kind.Rom = h in cc)
rom_is false false false false h = refl

mbc1_is : (a b c d : Bool) → kind_or_rom (chosen a b c d) ≡ kind.Mbc1 → b ≡ true
mbc1_is true b c d h = absurd (let bad : kind.Rom ≡ kind.Mbc1 = h in cc)
mbc1_is false true c d h = refl
mbc1_is false false true d h = absurd (let bad : kind.Mbc3 ≡ kind.Mbc1 = h in cc)
mbc1_is false false false true h = absurd (let bad : kind.Mbc5 ≡ kind.Mbc1 = h in cc)
mbc1_is false false false false h = absurd (let bad : kind.Rom ≡ kind.Mbc1 = h in cc)

mbc3_is : (a b c d : Bool) → kind_or_rom (chosen a b c d) ≡ kind.Mbc3 → c ≡ true
mbc3_is true b c d h = absurd (let bad : kind.Rom ≡ kind.Mbc3 = h in cc)
mbc3_is false true c d h = absurd (let bad : kind.Mbc1 ≡ kind.Mbc3 = h in cc)
mbc3_is false false true d h = refl
mbc3_is false false false true h = absurd (let bad : kind.Mbc5 ≡ kind.Mbc3 = h in cc)
mbc3_is false false false false h = absurd (let bad : kind.Rom ≡ kind.Mbc3 = h in cc)

mbc5_is : (a b c d : Bool) → kind_or_rom (chosen a b c d) ≡ kind.Mbc5 → d ≡ true
mbc5_is true b c d h = absurd (let bad : kind.Rom ≡ kind.Mbc5 = h in cc)
mbc5_is false true c d h = absurd (let bad : kind.Mbc1 ≡ kind.Mbc5 = h in cc)
mbc5_is false false true d h = absurd (let bad : kind.Mbc3 ≡ kind.Mbc5 = h in cc)
mbc5_is false false false true h = refl
mbc5_is false false false false h = absurd (let bad : kind.Rom ≡ kind.Mbc5 = h in cc)

-- ---- a type without a clock, without rumble, without RAM

no_clock : (t : ℕ) → (nat_lt t 0x0F ≡ true) → type_has_clock t ≡ false
unfolding type_has_clock
no_clock t h = grind (arith, nat_tests)

no_clock_above : (t : ℕ) → (nat_lt 0x10 t ≡ true) → type_has_clock t ≡ false
unfolding type_has_clock
no_clock_above t h = grind (arith, nat_tests)

no_rumble : (t : ℕ) → (nat_lt t 0x1C ≡ true) → type_has_rumble t ≡ false
unfolding type_has_rumble
no_rumble t h = grind (arith, nat_tests)

-- ---- the features of each kind

-- no type outside the ranges of the controllers has RAM, a clock or rumble
outside :
    (t : ℕ) → ((t == 0) || (not (nat_le 1 t && nat_le t 3) && not (nat_le 0x0F t && nat_le t 0x13) && not (nat_le 0x19 t && nat_le t 0x1E))) ≡ true
    → (type_has_ram t ≡ false) × (type_has_clock t ≡ false) × (type_has_rumble t ≡ false)
unfolding type_has_ram type_has_clock type_has_rumble
outside t h = (grind (arith, nat_tests), grind (arith, nat_tests), grind (arith, nat_tests))

pub flat_laws : (rom : List ℕ) → kind_of rom ≡ kind.Rom → (ram_banks rom ≡ 0) × (has_clock rom ≡ false) × (type_has_rumble (type_byte rom) ≡ false)
unfolding kind_of kind_of_type has_clock ram_banks
flat_laws rom h =
    let t = type_byte rom in
    let none = outside t (rom_is (t == 0) (nat_le 1 t && nat_le t 3) (nat_le 0x0F t && nat_le t 0x13) (nat_le 0x19 t && nat_le t 0x1E) h) in
    (rw (none.0) refl, none.1, none.2)

pub mbc1_laws : (rom : List ℕ) → kind_of rom ≡ kind.Mbc1 → (has_clock rom ≡ false) × (type_has_rumble (type_byte rom) ≡ false)
unfolding kind_of kind_of_type has_clock
mbc1_laws rom h =
    let within : nat_le 1 (type_byte rom) && nat_le (type_byte rom) 3 ≡ true = mbc1_is (type_byte rom == 0) _ _ _ h in
    (no_clock (type_byte rom) (grind (arith, nat_tests)), no_rumble (type_byte rom) (grind (arith, nat_tests)))

pub mbc3_laws : (rom : List ℕ) → kind_of rom ≡ kind.Mbc3 → type_has_rumble (type_byte rom) ≡ false
unfolding kind_of kind_of_type
mbc3_laws rom h =
    let within : nat_le 0x0F (type_byte rom) && nat_le (type_byte rom) 0x13 ≡ true = mbc3_is (type_byte rom == 0) (nat_le 1 (type_byte rom) && nat_le (type_byte rom) 3) _ _ h in
    no_rumble (type_byte rom) (grind (arith, nat_tests))

pub mbc5_laws : (rom : List ℕ) → kind_of rom ≡ kind.Mbc5 → has_clock rom ≡ false
unfolding kind_of kind_of_type has_clock
mbc5_laws rom h =
    let within : nat_le 0x19 (type_byte rom) && nat_le (type_byte rom) 0x1E ≡ true =
    mbc5_is (type_byte rom == 0) (nat_le 1 (type_byte rom) && nat_le (type_byte rom) 3) (nat_le 0x0F (type_byte rom) && nat_le (type_byte rom) 0x13) _ h in
    no_clock_above (type_byte rom) (grind (arith, nat_tests))
