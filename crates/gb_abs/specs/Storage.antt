-- Bytes of work RAM and high RAM by their address (Memory map).
use Rattle.std.specs.Prelude.{ℕ, Bool, ◌||◌, List, slice_index}
use Rattle.gb_ops.specs.declared.machine.Mapped.{Mapped}
use Rattle.gb_ops.specs.declared.machine.Mapped.TheVariants as mapped
use Rattle.gb_ops.specs.Cartridge.{is_within}
use Rattle.gb_ops.specs.Memory.{Storage, mapped_at}

-- the addresses where a certificate may know bytes
abbrev pub is_ram : ℕ → Bool
is_ram a = is_within 0xC000 0xDFFF a || is_within 0xFF80 0xFFFE a

abbrev pub peek_by : Mapped → List ℕ → List ℕ → ℕ
peek_by (mapped.WorkRam i) work high = slice_index work i
peek_by (mapped.HighRam i) work high = slice_index high i
peek_by _ work high = 0

-- the byte of work RAM or high RAM at an address
unfoldable pub peek : Storage → ℕ → ℕ
peek s a = peek_by (mapped_at a) s.work s.high
