-- What a cartridge's controller shows, and what is written to it (Pan Docs: MBCs).
use Rattle.std.specs.Prelude.{ℕ, Bool, false, ◌==◌, ◌%◌, nat_lt, if◌then◌else◌, List, Option, Some, None}
use Rattle.std.specs.Option.{option_map}
use Rattle.gb_ops.specs.declared.machine.Banks.{Banks}
use Rattle.gb_ops.specs.declared.machine.Kind.{Kind}
use Rattle.gb_ops.specs.declared.machine.Kind.TheVariants as kind
use Rattle.gb_ops.specs.Cartridge.{is_within, kind_of, rom_banks, ram_banks, has_clock, type_has_rumble, type_byte, cut_to, low_bank_number, high_bank_number, kind_after}
use Rattle.gb_mbc.specs.declared.clock.ClockRegister.{ClockRegister}
use Rattle.gb_mbc.specs.declared.clock.ClockRegister.TheVariants as register

-- the facts of the header that a controller rests on
pub record Features : Type 0 where
  pub kind : Kind
  pub rom_banks : ℕ
  pub ram_banks : ℕ
  pub has_clock : Bool
  pub has_rumble : Bool

unfoldable pub features_of : List ℕ → Features
features_of rom =
    record {
      kind = kind_of rom;
      rom_banks = rom_banks rom;
      ram_banks = ram_banks rom;
      has_clock = has_clock rom;
      has_rumble = type_has_rumble (type_byte rom);
    }

-- ---- each controller, as it is seen

pub record Mbc1State : Type 0 where
  pub rom_banks : ℕ
  pub ram_banks : ℕ
  pub registers : Banks

pub record Mbc3State : Type 0 where
  pub rom_banks : ℕ
  pub ram_banks : ℕ
  pub has_clock : Bool
  pub registers : Banks

pub record Mbc5State : Type 0 where
  pub rom_banks : ℕ
  pub ram_banks : ℕ
  pub has_rumble : Bool
  pub registers : Banks

abbrev pub flat_features : Features
flat_features = record { kind = kind.Rom; rom_banks = 2; ram_banks = 0; has_clock = false; has_rumble = false }

abbrev pub mbc1_features : Mbc1State → Features
mbc1_features m = record { kind = kind.Mbc1; rom_banks = m.rom_banks; ram_banks = m.ram_banks; has_clock = false; has_rumble = false }

abbrev pub mbc3_features : Mbc3State → Features
mbc3_features m =
    record { kind = kind.Mbc3; rom_banks = m.rom_banks; ram_banks = m.ram_banks; has_clock = m.has_clock; has_rumble = false }

abbrev pub mbc5_features : Mbc5State → Features
mbc5_features m =
    record { kind = kind.Mbc5; rom_banks = m.rom_banks; ram_banks = m.ram_banks; has_clock = false; has_rumble = m.has_rumble }

-- ---- what is shown

-- the ROM bank shown at 0000-3FFF
unfoldable pub low_bank : Features → Banks → ℕ
low_bank f r = cut_to f.rom_banks (low_bank_number f.kind r)

-- the ROM bank shown at 4000-7FFF
unfoldable pub high_bank : Features → Banks → ℕ
high_bank f r = cut_to f.rom_banks (high_bank_number f.kind r)

-- the RAM bank that the registers choose, before it is cut to the cartridge's size
unfoldable pub ram_bank_number : Kind → Bool → Banks → Option ℕ
ram_bank_number kind.Rom has_rumble r = None
ram_bank_number kind.Mbc1 has_rumble r = Some (if r.mode then r.second else 0)
ram_bank_number kind.Mbc3 has_rumble r = if nat_lt r.second 4 then Some r.second else None
ram_bank_number kind.Mbc5 has_rumble r = Some (if has_rumble then r.second % 8 else r.second)

-- the RAM bank behind the gate
unfoldable pub ram_bank : Features → Banks → Option ℕ
ram_bank f r = if f.ram_banks == 0 then None else option_map (cut_to f.ram_banks) (ram_bank_number f.kind f.has_rumble r)

-- the clock register that a number names
unfoldable pub clock_register_at : ℕ → Option ClockRegister
clock_register_at n =
    if n == 0x08 then Some register.Seconds
    else if n == 0x09 then Some register.Minutes
    else if n == 0x0A then Some register.Hours
    else if n == 0x0B then Some register.DayLow
    else if n == 0x0C then Some register.DayHigh
    else None

-- the clock register behind the gate
unfoldable pub clock_register : Features → Banks → Option ClockRegister
clock_register f r = if f.has_clock then clock_register_at r.second else None

-- the registers after a write to any address
unfoldable pub registers_after : Features → Banks → ℕ → ℕ → Banks
registers_after f r address v = if nat_lt address 0x8000 then kind_after f.kind r address v else r

-- the addresses whose writes change a register; behind 5FFF MBC1 alone has one
abbrev pub windows_end : Kind → ℕ
windows_end kind.Rom = 0
windows_end kind.Mbc1 = 0x8000
windows_end kind.Mbc3 = 0x6000
windows_end kind.Mbc5 = 0x6000

unfoldable pub is_window : Kind → ℕ → Bool
is_window k address = nat_lt address (windows_end k)

-- MBC3 latches its clock by writes to 6000-7FFF
unfoldable pub is_latch : Kind → ℕ → Bool
is_latch kind.Mbc3 address = is_within 0x6000 0x7FFF address
is_latch _ address = false
