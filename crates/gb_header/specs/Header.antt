-- Which files are cartridges (The cartridge header), and what is wrong with a file that isn't one.
-- The greatest sizes, the exact length of the file and the order of the faults are this project's own.
use Rattle.std.specs.Prelude.{◌≡◌, ℕ, ◌+◌, ◌-◌, ◌*◌, ◌%◌, ◌<◌, Bool, true, false, ◌==◌, nat_lt, ◌&&◌, ◌||◌, not, if◌then◌else◌, List, [], ◌∷◌, length, slice_index, slice_range, fold, find, Option, Some, None, is_none, Result, Ok, Err}
use Rattle.gb_ops.specs.Cartridge.{type_byte, kind_of, kind_of_type, type_has_ram, type_has_rumble, rom_banks, rom_banks_of_size, ram_banks, ram_banks_of_size}
use Rattle.gb_ops.specs.declared.machine.Kind.{Kind}
use Rattle.gb_ops.specs.declared.machine.Kind.TheVariants as kind
use Rattle.gb_header.specs.declared.fault.HeaderFault.{HeaderFault}
use Rattle.gb_header.specs.declared.fault.HeaderFault.TheVariants as fault

-- ---- the checksum

-- one more byte: x - b - 1 modulo 256, of bytes x and b
unfoldable pub checksum_after : ℕ → ℕ → ℕ
checksum_after x b = (x + 255 - b) % 256

-- the bytes that the checksum is made from
abbrev pub checked_bytes : List ℕ → List ℕ
checked_bytes bytes = slice_range bytes 0x134 0x14D

-- the checksum that a header has to have
unfoldable pub checksum_of : List ℕ → ℕ
checksum_of bytes = fold checksum_after 0 (checked_bytes bytes)

-- ---- the greatest sizes

-- in banks of 16 KiB
unfoldable pub greatest_rom_banks : Kind → ℕ
greatest_rom_banks kind.Rom = 2
greatest_rom_banks kind.Mbc1 = 128
greatest_rom_banks kind.Mbc3 = 128
greatest_rom_banks kind.Mbc5 = 512

-- in banks of 8 KiB; a rumble motor takes one line of the RAM bank's number
abbrev pub greatest_mbc5_ram_banks : ℕ → ℕ
greatest_mbc5_ram_banks t = if type_has_rumble t then 8 else 16

unfoldable pub greatest_ram_banks : Kind → ℕ → ℕ
greatest_ram_banks kind.Rom t = 0
greatest_ram_banks kind.Mbc1 t = 4
greatest_ram_banks kind.Mbc3 t = 4
greatest_ram_banks kind.Mbc5 t = greatest_mbc5_ram_banks t

-- ---- the faults; each test presumes that the earlier ones have not met

-- shorter than the smallest cartridge
unfoldable pub is_too_short : List ℕ → Bool
is_too_short bytes = nat_lt (length bytes) 0x8000

unfoldable pub has_unknown_type : List ℕ → Bool
has_unknown_type bytes = is_none (kind_of_type (type_byte bytes))

unfoldable pub has_unknown_rom_size : List ℕ → Bool
has_unknown_rom_size bytes = is_none (rom_banks_of_size (slice_index bytes 0x148))

unfoldable pub has_wrong_length : List ℕ → Bool
has_wrong_length bytes = not (length bytes == 0x4000 * rom_banks bytes)

-- a type without RAM has none, whatever the byte says
unfoldable pub has_unknown_ram_size : List ℕ → Bool
has_unknown_ram_size bytes = type_has_ram (type_byte bytes) && is_none (ram_banks_of_size (slice_index bytes 0x149))

unfoldable pub is_too_large : List ℕ → Bool
is_too_large bytes =
    nat_lt (greatest_rom_banks (kind_of bytes)) (rom_banks bytes) || nat_lt (greatest_ram_banks (kind_of bytes) (type_byte bytes)) (ram_banks bytes)

unfoldable pub has_wrong_checksum : List ℕ → Bool
has_wrong_checksum bytes = not (slice_index bytes 0x14D == checksum_of bytes)

-- whether a file has a fault
unfoldable pub has_fault : List ℕ → HeaderFault → Bool
has_fault bytes fault.TooShort = is_too_short bytes
has_fault bytes fault.Type = has_unknown_type bytes
has_fault bytes fault.RomSize = has_unknown_rom_size bytes
has_fault bytes fault.Length = has_wrong_length bytes
has_fault bytes fault.RamSize = has_unknown_ram_size bytes
has_fault bytes fault.TooLarge = is_too_large bytes
has_fault bytes fault.Checksum = has_wrong_checksum bytes

-- the number that the program prints after an H
abbrev pub fault_number : HeaderFault → ℕ
fault_number fault.TooShort = 1
fault_number fault.Type = 2
fault_number fault.RomSize = 3
fault_number fault.Length = 4
fault_number fault.RamSize = 5
fault_number fault.TooLarge = 6
fault_number fault.Checksum = 7

-- all of them, the lowest number first
abbrev pub faults : List HeaderFault
faults = fault.TooShort ∷ fault.Type ∷ fault.RomSize ∷ fault.Length ∷ fault.RamSize ∷ fault.TooLarge ∷ fault.Checksum ∷ []

-- the fault with the lowest number
unfoldable pub fault_of : List ℕ → Option HeaderFault
fault_of bytes = find (has_fault bytes) faults

-- a file has this fault, and none with a lower number
pub record IsLowestFault (bytes : List ℕ) (f : HeaderFault) : Type 0 where
  pub present : has_fault bytes f ≡ true
  pub lowest : (lower : HeaderFault) → fault_number lower < fault_number f → has_fault bytes lower ≡ false

-- a cartridge has no fault
pub record IsCartridge (bytes : List ℕ) : Type 0 where
  pub is_long : is_too_short bytes ≡ false
  pub type_is_known : has_unknown_type bytes ≡ false
  pub rom_size_is_known : has_unknown_rom_size bytes ≡ false
  pub length_is_right : has_wrong_length bytes ≡ false
  pub ram_size_is_known : has_unknown_ram_size bytes ≡ false
  pub fits_its_type : is_too_large bytes ≡ false
  pub checksum_is_right : has_wrong_checksum bytes ≡ false

-- what reading a file gives: its bytes, or its lowest fault
abbrev pub taken_or : Option HeaderFault → List ℕ → Result (List ℕ) HeaderFault
taken_or None bytes = Ok bytes
taken_or (Some f) bytes = Err f

unfoldable pub parsed : List ℕ → Result (List ℕ) HeaderFault
parsed bytes = taken_or (fault_of bytes) bytes
