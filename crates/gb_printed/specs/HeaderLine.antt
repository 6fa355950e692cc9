-- The header's line (own text).
use Rattle.std.specs.Prelude.{ℕ, Bool, true, false, List, ◌++◌, codes, decimal, slice_index}
use Rattle.gb_ops.specs.declared.machine.Kind.{Kind}
use Rattle.gb_ops.specs.declared.machine.Kind.TheVariants as kind
use Rattle.gb_ops.specs.Cartridge.{type_byte, kind_of, rom_banks, ram_banks, has_clock}
use Rattle.gb_text.specs.Text.{line_feed, hex_byte}

abbrev pub kind_name : Kind → List ℕ
kind_name kind.Rom = codes "ROM"
kind_name kind.Mbc1 = codes "MBC1"
kind_name kind.Mbc3 = codes "MBC3"
kind_name kind.Mbc5 = codes "MBC5"

abbrev pub yes_or_no : Bool → List ℕ
yes_or_no true = codes "yes"
yes_or_no false = codes "no"

-- the type, the controller, the banks of ROM and RAM, the clock and the checksum
unfoldable pub header_text : List ℕ → List ℕ
header_text rom =
    codes "type " ++ hex_byte (type_byte rom) ++ codes " " ++ kind_name (kind_of rom)
    ++ codes " rom " ++ decimal (rom_banks rom) ++ codes " ram " ++ decimal (ram_banks rom)
    ++ codes " clock " ++ yes_or_no (has_clock rom) ++ codes " checksum " ++ hex_byte (slice_index rom 0x14D) ++ line_feed
