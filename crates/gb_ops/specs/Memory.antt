-- Memory, as the machine knows it: plain storage, the controller's registers and the transfer count
-- (Memory map; OAM DMA transfer).
use Rattle.std.specs.Prelude.{ℕ, ◌+◌, ◌-◌, ◌*◌, ◌/◌, ◌%◌, Bool, true, false, ◌≡◌, ◌==◌, ◌<◌, ◌≤◌, nat_lt, ◌&&◌, not, if◌then◌else◌, List, slice_index, slice_set}
use Rattle.gb_ops.specs.declared.machine.Banks.{Banks}
use Rattle.gb_ops.specs.declared.machine.Mapped.{Mapped}
use Rattle.gb_ops.specs.declared.machine.Mapped.TheVariants as mapped
use Rattle.gb_ops.specs.declared.machine.ReadSource.{ReadSource}
use Rattle.gb_ops.specs.declared.machine.ReadSource.TheVariants as place
use Rattle.gb_ops.specs.declared.machine.Write.{Write}
use Rattle.gb_ops.specs.declared.machine.Write.TheVariants as write
use Rattle.gb_ops.specs.Cartridge.{shown_bank, banks_after}

-- the memory's part of a machine state: the controller's registers, work RAM, high RAM, IE, and the
-- M-cycles that are left of a transfer
pub record Storage : Type 0 where
  pub banks : Banks
  pub work : List ℕ
  pub high : List ℕ
  pub ie : ℕ
  pub count : ℕ

-- what a bus shows within an event: its cartridge, the storage,
-- and whether a transfer starts when the event has ended
pub record View : Type 0 where
  pub rom : List ℕ
  pub storage : Storage
  pub starting : Bool

-- the memory map
unfoldable pub mapped_at : ℕ → Mapped
mapped_at a =
    if nat_lt a 0x8000 then mapped.Rom
    else if nat_lt a 0xA000 then mapped.Hardware
    else if nat_lt a 0xC000 then mapped.CartridgeRam
    else if nat_lt a 0xFE00 then mapped.WorkRam ((a - 0xC000) % 0x2000)
    else if nat_lt a 0xFF80 then (if a == 0xFF46 then mapped.Transfer else mapped.Hardware)
    else if nat_lt a 0xFFFF then mapped.HighRam (a - 0xFF80)
    else mapped.InterruptEnable

-- where the map has such a thing; a byte of plain storage lies in its memory
abbrev pub IsMapped : ℕ → Mapped → Type 0
IsMapped a mapped.Rom = a < 0x8000
IsMapped a mapped.CartridgeRam = (0xA000 ≤ a) × (a < 0xC000)
IsMapped a (mapped.WorkRam i) = i < 8192
IsMapped a (mapped.HighRam i) = i < 127
IsMapped a mapped.InterruptEnable = a ≡ 0xFFFF
IsMapped a mapped.Transfer = a ≡ 0xFF46
IsMapped a mapped.Hardware = (0x8000 ≤ a) × (a < 0xFE00 → a < 0xA000)

abbrev pub is_high : Mapped → Bool
is_high (mapped.HighRam i) = true
is_high _ = false

-- a transfer closes all but high RAM (own)
unfoldable pub is_closed : Storage → ℕ → Bool
is_closed s address = not (s.count == 0) && not (is_high (mapped_at address))

abbrev pub place_by : Mapped → View → ℕ → ReadSource
place_by mapped.Rom m address = place.Rom (shown_bank m.rom m.storage.banks address)
place_by (mapped.WorkRam i) m address = place.Plain
place_by (mapped.HighRam i) m address = place.Plain
place_by mapped.InterruptEnable m address = place.Plain
place_by _ m address = place.Free

-- what answers a read
unfoldable pub place_of : View → ℕ → ReadSource
place_of m address = if is_closed m.storage address then place.Free else place_by (mapped_at address) m address

abbrev pub is_free_place : ReadSource → Bool
is_free_place (place.Rom bank) = false
is_free_place place.Plain = false
is_free_place place.Free = true

-- a read that may give any byte
unfoldable pub is_free : View → ℕ → Bool
is_free m address = is_free_place (place_of m address)

-- a byte of the cartridge, by its bank and its address
abbrev pub rom_byte : List ℕ → ℕ → ℕ → ℕ
rom_byte rom bank address = slice_index rom (0x4000 * bank + address % 0x4000)

abbrev pub byte_by : Mapped → View → ℕ → ℕ
byte_by mapped.Rom m address = rom_byte m.rom (shown_bank m.rom m.storage.banks address) address
byte_by (mapped.WorkRam i) m address = slice_index m.storage.work i
byte_by (mapped.HighRam i) m address = slice_index m.storage.high i
byte_by mapped.InterruptEnable m address = m.storage.ie
byte_by _ m address = 0

-- the byte of ROM or plain storage at an address
unfoldable pub byte_at : View → ℕ → ℕ
byte_at m address = byte_by (mapped_at address) m address

-- what a bus shows after a write that no transfer closes
abbrev pub wrote_by : Mapped → View → ℕ → ℕ → View
wrote_by mapped.Rom m address v =
    record m { storage = record m.storage { banks = banks_after m.rom m.storage.banks address v } }
wrote_by (mapped.WorkRam i) m address v = record m { storage = record m.storage { work = slice_set m.storage.work i v } }
wrote_by (mapped.HighRam i) m address v = record m { storage = record m.storage { high = slice_set m.storage.high i v } }
wrote_by mapped.InterruptEnable m address v = record m { storage = record m.storage { ie = v } }
wrote_by mapped.Transfer m address v = record m { starting = true }
wrote_by _ m address v = m

abbrev pub kept_or : Bool → View → View → View
kept_or true m otherwise = m
kept_or false m otherwise = otherwise

-- a write; a transfer drops it where it is closed
unfoldable pub wrote : View → ℕ → ℕ → View
wrote m address v = kept_or (is_closed m.storage address) m (wrote_by (mapped_at address) m address v)

-- the end of an event of n M-cycles: a transfer that was started counts from 161
unfoldable pub passed : View → ℕ → View
passed m n =
    record m {
      storage = record m.storage { count = if m.starting then 161 else m.storage.count - n };
      starting = false;
    }

-- the writes of an instruction, in their order
unfoldable pub stored : View → Write → View
stored m write.Nothing = m
stored m (write.Byte address v) = wrote m address v
stored m (write.Word address w) = wrote (wrote m address (w % 256)) ((address + 1) % 65536) (w / 256)
stored m (write.Push sp w) = wrote (wrote m ((sp + 65535) % 65536) (w / 256)) ((sp + 65534) % 65536) (w % 256)
