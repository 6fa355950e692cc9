-- What stands behind A000-BFFF (Pan Docs: MBC1, MBC3, MBC5; own: what the registers don't choose reads FF
-- and drops writes).
use Rattle.std.specs.Prelude.{ℕ, ◌+◌, ◌-◌, ◌*◌, ◌<◌, if◌then◌else◌, slice_index, slice_set, Option, Some, None}
use Rattle.gb_mbc.specs.declared.clock.ClockRegister.{ClockRegister}
use Rattle.gb_mbc.specs.Clock as Clock
use Rattle.gb_mbc.specs.Controllers.{features_of, ram_bank, clock_register}
use Rattle.gb_bus.specs.declared.cartridge.Behind.{Behind}
use Rattle.gb_bus.specs.declared.cartridge.Behind.TheVariants as behind
use Rattle.gb_bus.specs.Contents.{Contents}

-- a RAM bank comes before a clock register
abbrev pub chosen : Option ℕ → Option ClockRegister → Behind
chosen (Some bank) register = behind.Ram bank
chosen None (Some register) = behind.Clock register
chosen None None = behind.Nothing

-- what the gate and the registers show
unfoldable pub behind_gate : Contents → Behind
behind_gate c =
    if c.view.storage.banks.gate
    then chosen (ram_bank (features_of c.view.rom) c.view.storage.banks) (clock_register (features_of c.view.rom) c.view.storage.banks)
    else behind.Nothing

-- a RAM bank is one of so many
abbrev pub IsHeld : ℕ → Behind → Type 0
IsHeld banks (behind.Ram bank) = bank < banks
IsHeld banks _ = Unit {0}

-- where a byte of a RAM bank stands in the RAM
abbrev pub ram_offset : ℕ → ℕ → ℕ
ram_offset bank address = 0x2000 * bank + (address - 0xA000)

abbrev pub behind_byte : Behind → Contents → ℕ → ℕ
behind_byte (behind.Ram bank) c address = slice_index c.cartridge_ram (ram_offset bank address)
behind_byte (behind.Clock register) c address = Clock.field register c.clock.latched
behind_byte behind.Nothing c address = 0xFF

abbrev pub behind_written : Behind → Contents → ℕ → ℕ → Contents
behind_written (behind.Ram bank) c address v = record c { cartridge_ram = slice_set c.cartridge_ram (ram_offset bank address) v }
behind_written (behind.Clock register) c address v = record c { clock = Clock.put c.clock register v }
behind_written behind.Nothing c address v = c

unfoldable pub cartridge_byte : Contents → ℕ → ℕ
cartridge_byte c address = behind_byte (behind_gate c) c address

unfoldable pub cartridge_written : Contents → ℕ → ℕ → Contents
cartridge_written c address v = behind_written (behind_gate c) c address v
