-- The cartridge's header and the banks that its controller shows (The cartridge header; MBCs).
use Rattle.std.specs.Prelude.{ℕ, ◌+◌, ◌*◌, ◌/◌, ◌%◌, ◌^◌, Bool, false, ◌==◌, nat_lt, nat_le, ◌&&◌, ◌||◌, not, if◌then◌else◌, List, slice_index, Option, Some, None}
use Rattle.gb_ops.specs.declared.machine.Banks.{Banks}
use Rattle.gb_ops.specs.declared.machine.Kind.{Kind}
use Rattle.gb_ops.specs.declared.machine.Kind.TheVariants as kind

abbrev pub is_within : ℕ → ℕ → ℕ → Bool
is_within first last n = nat_le first n && nat_le n last

-- ---- the header

abbrev pub type_byte : List ℕ → ℕ
type_byte rom = slice_index rom 0x147

-- the kind of a type byte: 00 ROM, 01 to 03 MBC1, 0F to 13 MBC3, 19 to 1E MBC5
unfoldable pub kind_of_type : ℕ → Option Kind
kind_of_type t =
    if t == 0 then Some kind.Rom
    else if is_within 0x01 0x03 t then Some kind.Mbc1
    else if is_within 0x0F 0x13 t then Some kind.Mbc3
    else if is_within 0x19 0x1E t then Some kind.Mbc5
    else None

abbrev pub kind_or_rom : Option Kind → Kind
kind_or_rom None = kind.Rom
kind_or_rom (Some k) = k

unfoldable pub kind_of : List ℕ → Kind
kind_of rom = kind_or_rom (kind_of_type (type_byte rom))

-- the types with cartridge RAM: 02 03 10 12 13 1A 1B 1D 1E
unfoldable pub type_has_ram : ℕ → Bool
type_has_ram t = is_within 0x02 0x03 t || (t == 0x10) || is_within 0x12 0x13 t || is_within 0x1A 0x1B t || is_within 0x1D 0x1E t

-- the types with a clock: 0F 10
unfoldable pub type_has_clock : ℕ → Bool
type_has_clock t = is_within 0x0F 0x10 t

-- the types with rumble: 1C to 1E
unfoldable pub type_has_rumble : ℕ → Bool
type_has_rumble t = is_within 0x1C 0x1E t

-- the banks of 16 KiB that a ROM size byte stands for: twice 2 to the n, n at most 8
unfoldable pub rom_banks_of_size : ℕ → Option ℕ
rom_banks_of_size n = if nat_le n 8 then Some (2 * 2 ^ n) else None

-- the banks of 8 KiB that a RAM size byte stands for
unfoldable pub ram_banks_of_size : ℕ → Option ℕ
ram_banks_of_size n =
    if n == 0 then Some 0
    else if n == 2 then Some 1
    else if n == 3 then Some 4
    else if n == 4 then Some 16
    else if n == 5 then Some 8
    else None

abbrev pub or_zero : Option ℕ → ℕ
or_zero None = 0
or_zero (Some n) = n

-- the ROM banks of a cartridge
unfoldable pub rom_banks : List ℕ → ℕ
rom_banks rom = or_zero (rom_banks_of_size (slice_index rom 0x148))

-- the RAM banks of a cartridge: a type without RAM has none
unfoldable pub ram_banks : List ℕ → ℕ
ram_banks rom = if type_has_ram (type_byte rom) then or_zero (ram_banks_of_size (slice_index rom 0x149)) else 0

unfoldable pub has_clock : List ℕ → Bool
has_clock rom = type_has_clock (type_byte rom)

-- the cartridge has something behind A000-BFFF
unfoldable pub has_ram_or_clock : List ℕ → Bool
has_ram_or_clock rom = not (ram_banks rom == 0) || has_clock rom

-- ---- the controllers

-- the registers at power-up (own)
abbrev pub banks_at_power_up : Banks
banks_at_power_up = record { bank = 1; second = 0; gate = false; mode = false }

-- a number cut to the bits that so many banks need; the banks are a power of 2
abbrev pub cut_to : ℕ → ℕ → ℕ
cut_to banks n = n % banks

-- the bank at 0000-3FFF and at 4000-7FFF, before it is cut to the cartridge's size
unfoldable pub low_bank_number : Kind → Banks → ℕ
low_bank_number kind.Rom r = 0
low_bank_number kind.Mbc1 r = if r.mode then 32 * r.second else 0
low_bank_number kind.Mbc3 r = 0
low_bank_number kind.Mbc5 r = 0

unfoldable pub high_bank_number : Kind → Banks → ℕ
high_bank_number kind.Rom r = 1
high_bank_number kind.Mbc1 r = 32 * r.second + r.bank
high_bank_number kind.Mbc3 r = r.bank
high_bank_number kind.Mbc5 r = r.bank

-- the ROM bank shown at an address below 8000
unfoldable pub shown_bank : List ℕ → Banks → ℕ → ℕ
shown_bank rom r address =
    cut_to (rom_banks rom) (if nat_lt address 0x4000 then low_bank_number (kind_of rom) r else high_bank_number (kind_of rom) r)

-- 0 counts as 1
abbrev pub at_least_one : ℕ → ℕ
at_least_one n = if n == 0 then 1 else n

-- the gate opens where the low four bits of what is written are A
abbrev pub with_gate : Banks → ℕ → Banks
with_gate r v = record r { gate = v % 16 == 10 }

-- a write to the registers of each controller: the window of the address decides
unfoldable pub mbc1_after : Banks → ℕ → ℕ → Banks
mbc1_after r address v =
    if nat_lt address 0x2000 then with_gate r v
    else if nat_lt address 0x4000 then record r { bank = at_least_one (v % 32) }
    else if nat_lt address 0x6000 then record r { second = v % 4 }
    else record r { mode = v % 2 == 1 }

unfoldable pub mbc3_after : Banks → ℕ → ℕ → Banks
mbc3_after r address v =
    if nat_lt address 0x2000 then with_gate r v
    else if nat_lt address 0x4000 then record r { bank = at_least_one (v % 128) }
    else if nat_lt address 0x6000 then record r { second = v }
    else r

-- the bank's low eight bits and its bit 8 are written apart
unfoldable pub mbc5_after : Banks → ℕ → ℕ → Banks
mbc5_after r address v =
    if nat_lt address 0x2000 then with_gate r v
    else if nat_lt address 0x3000 then record r { bank = r.bank / 256 * 256 + v }
    else if nat_lt address 0x4000 then record r { bank = v % 2 * 256 + r.bank % 256 }
    else if nat_lt address 0x6000 then record r { second = v % 16 }
    else r

abbrev pub kind_after : Kind → Banks → ℕ → ℕ → Banks
kind_after kind.Rom r address v = r
kind_after kind.Mbc1 r address v = mbc1_after r address v
kind_after kind.Mbc3 r address v = mbc3_after r address v
kind_after kind.Mbc5 r address v = mbc5_after r address v

-- the registers after a write to an address below 8000
unfoldable pub banks_after : List ℕ → Banks → ℕ → ℕ → Banks
banks_after rom r address v = kind_after (kind_of rom) r address v
