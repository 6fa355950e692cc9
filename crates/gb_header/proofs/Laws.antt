-- What is true of each cartridge.
use Rattle.std.proofs.Common.{◌≡◌, ℕ, ◌+◌, ◌*◌, ◌%◌, ◌^◌, ◌<◌, ◌≤◌, Bool, true, false, cond, ◌||◌, nat_lt, nat_le, if◌then◌else◌, List, length, slice_index, Option, Some, None, is_none, refl, ap, arith}
use Rattle.std.proofs.Math.Pow.{pow_mono}
use Rattle.std.proofs.lemmas.Bool.Decides.{nat_tests}
use Rattle.gb_ops.specs.Cartridge.{or_zero, kind_of, type_byte, rom_banks, rom_banks_of_size, ram_banks, shown_bank, low_bank_number, high_bank_number}
use Rattle.gb_ops.specs.declared.machine.Banks.{Banks}
use Rattle.gb_ops.specs.declared.machine.Kind.TheVariants as kind
use Rattle.gb_header.specs.Header.{IsCartridge, fault_of, has_fault, is_too_short, has_unknown_rom_size, has_wrong_length, is_too_large, greatest_rom_banks, greatest_ram_banks}

-- ---- a cartridge is a file without a fault

-- a choice that gives nothing goes on
none_of : {A : Type 0} (b : Bool) (a : A) (o : Option A) → cond b (Some a) o ≡ None → (b ≡ false) × (o ≡ None)
none_of true a o h = absurd (let bad : Some a ≡ None = h in cc)
none_of false a o h = (refl, h)

pub cartridge_without_fault : (bytes : List ℕ) → fault_of bytes ≡ None → IsCartridge bytes
unfolding fault_of has_fault
cartridge_without_fault bytes h =
    let short = none_of _ _ _ h in
    let kind = none_of _ _ _ short.1 in
    let rom = none_of _ _ _ kind.1 in
    let size = none_of _ _ _ rom.1 in
    let ram = none_of _ _ _ size.1 in
    let large = none_of _ _ _ ram.1 in
    let sum = none_of _ _ _ large.1 in
    record {
      is_long = short.0;
      type_is_known = kind.0;
      rom_size_is_known = rom.0;
      length_is_right = size.0;
      ram_size_is_known = ram.0;
      fits_its_type = large.0;
      checksum_is_right = sum.0;
    }

pub fault_of-cartridge : (bytes : List ℕ) → IsCartridge bytes → fault_of bytes ≡ None
unfolding fault_of has_fault
fault_of-cartridge bytes c =
    rw (c.is_long, c.type_is_known, c.rom_size_is_known, c.length_is_right, c.ram_size_is_known, c.fits_its_type, c.checksum_is_right) refl

-- ---- its length and its banks

-- the file has its whole header
pub whole_header : (rom : List ℕ) → IsCartridge rom → 0x150 ≤ length rom
unfolding is_too_short
whole_header rom c = let long : nat_lt (length rom) 0x8000 ≡ false = c.is_long in grind (arith, nat_tests)

-- the file is its banks
pub length-cartridge : (rom : List ℕ) → IsCartridge rom → length rom ≡ 0x4000 * rom_banks rom
unfolding has_wrong_length
length-cartridge rom c = let whole = c.length_is_right in grind (arith, nat_tests)

known_size : (b : Bool) (n : ℕ) → is_none (cond b (Some n) None) ≡ false → (b ≡ true) × (or_zero (cond b (Some n) None) ≡ n)
known_size true n h = (refl, refl)
known_size false n h = absurd (let bad : true ≡ false = h in cc)

pub rom_size-cartridge : (rom : List ℕ) → IsCartridge rom → slice_index rom 0x148 ≤ 8
unfolding has_unknown_rom_size rom_banks_of_size
rom_size-cartridge rom c =
    let small = (known_size (nat_le (slice_index rom 0x148) 8) _ c.rom_size_is_known).0 in grind (arith, nat_tests)

-- twice a power of 2
pub rom_banks-cartridge : (rom : List ℕ) → IsCartridge rom → rom_banks rom ≡ 2 * 2 ^ slice_index rom 0x148
unfolding has_unknown_rom_size rom_banks rom_banks_of_size
rom_banks-cartridge rom c = (known_size (nat_le (slice_index rom 0x148) 8) _ c.rom_size_is_known).1

small_power : (n : ℕ) → n ≤ 8 → (1 ≤ 2 ^ n) × (2 ^ n ≤ 256)
small_power n h = let low = pow_mono {i = 0} {j = n} (omega arith) in let high = pow_mono {i = n} {j = 8} h in omega arith

pub rom_banks-least : (rom : List ℕ) → IsCartridge rom → 2 ≤ rom_banks rom
rom_banks-least rom c =
    let power = small_power (slice_index rom 0x148) (rom_size-cartridge rom c) in rw (rom_banks-cartridge rom c) (omega arith)

pub rom_banks-most : (rom : List ℕ) → IsCartridge rom → rom_banks rom ≤ 512
rom_banks-most rom c =
    let power = small_power (slice_index rom 0x148) (rom_size-cartridge rom c) in rw (rom_banks-cartridge rom c) (omega arith)

-- each byte of each bank lies in the file
pub bank_inside : (rom : List ℕ) (bank address : ℕ) → IsCartridge rom → bank < rom_banks rom → 0x4000 * bank + address % 0x4000 < length rom
bank_inside rom bank address c lt = let whole = length-cartridge rom c in omega arith

-- ---- it fits its type

neither : (a b : Bool) → (a || b) ≡ false → (a ≡ false) × (b ≡ false)
neither true b h = absurd (let bad : true ≡ false = h in cc)
neither false b h = (refl, h)

fits : (rom : List ℕ) → IsCartridge rom
    → (nat_lt (greatest_rom_banks (kind_of rom)) (rom_banks rom) ≡ false) × (nat_lt (greatest_ram_banks (kind_of rom) (type_byte rom)) (ram_banks rom) ≡ false)
unfolding is_too_large
fits rom c = neither _ _ c.fits_its_type

pub rom_banks-fit : (rom : List ℕ) → IsCartridge rom → rom_banks rom ≤ greatest_rom_banks (kind_of rom)
rom_banks-fit rom c = let fit = (fits rom c).0 in grind (arith, nat_tests)

pub ram_banks-fit : (rom : List ℕ) → IsCartridge rom → ram_banks rom ≤ greatest_ram_banks (kind_of rom) (type_byte rom)
ram_banks-fit rom c = let fit = (fits rom c).1 in grind (arith, nat_tests)

-- without a controller it has two banks
pub rom_banks-rom : (rom : List ℕ) → IsCartridge rom → kind_of rom ≡ kind.Rom → rom_banks rom ≡ 2
unfolding greatest_rom_banks
rom_banks-rom rom c is_rom =
    let least = rom_banks-least rom c in
    let most : rom_banks rom ≤ 2 = rw (ap greatest_rom_banks is_rom) at (rom_banks-fit rom c) in
    omega arith

-- ---- the banks that are shown

pub shown_bank-below : (rom : List ℕ) (r : Banks) (address : ℕ) → IsCartridge rom → shown_bank rom r address < rom_banks rom
unfolding shown_bank
shown_bank-below rom r address c = let least = rom_banks-least rom c in omega arith

-- without a controller bank 0 is shown below 4000, and bank 1 from there on
fixed_bank : (low : Bool) → (if low then 0 else 1) % 2 ≡ (if low then 0 else 1)
fixed_bank true = refl
fixed_bank false = refl

pub shown_bank-rom : (rom : List ℕ) (r : Banks) (address : ℕ) → IsCartridge rom → kind_of rom ≡ kind.Rom
    → shown_bank rom r address ≡ (if nat_lt address 0x4000 then 0 else 1)
unfolding shown_bank low_bank_number high_bank_number
shown_bank-rom rom r address c is_rom = rw (rom_banks-rom rom c is_rom, is_rom) (fixed_bank (nat_lt address 0x4000))

-- ---- what the code's proofs go by

pub ruleset cartridge_laws = (cartridge_without_fault, fault_of-cartridge)

pub ruleset bank_laws = (whole_header, bank_inside, length-cartridge, rom_banks-cartridge, rom_banks-least, rom_banks-most, rom_banks-fit, ram_banks-fit, rom_banks-rom)
