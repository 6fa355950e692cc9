-- What each access of the console's memory gives and does (Pan Docs: Memory Map; OAM DMA Transfer). Own:
-- what a transfer closes reads FF; the 160 bytes are copied at the write; pages E0 to FF copy from C0 to DF.
use Rattle.std.specs.Prelude.{◌≡◌, ℕ, ◌+◌, ◌-◌, ◌*◌, ◌%◌, ◌^◌, Bool, true, false, ◌==◌, nat_le, if◌then◌else◌, List, map, slice_index, slice_set, bit_and, bit_or}
use Rattle.std.specs.List.{range_with_len}
use Rattle.gb_ops.specs.declared.machine.Mapped.{Mapped}
use Rattle.gb_ops.specs.declared.machine.Mapped.TheVariants as mapped
use Rattle.gb_ops.specs.Cartridge.{kind_of}
use Rattle.gb_ops.specs.Memory.{mapped_at, is_closed, byte_by, wrote_by, passed}
use Rattle.gb_ops.specs.Accesses.{Access, Reads, Writes, Passes, Acknowledges}
use Rattle.gb_mbc.specs.Clock as Clock
use Rattle.gb_mbc.specs.Controllers.{is_latch}
use Rattle.gb_ppu.specs.Below.gb_timer.Timer as Timer
use Rattle.gb_bus.specs.declared.hardware.Hardware.{Hardware}
use Rattle.gb_bus.specs.declared.hardware.Hardware.TheVariants as hardware
use Rattle.gb_ppu.specs.declared.mode.Mode.{Mode}
use Rattle.gb_ppu.specs.declared.mode.Mode.TheVariants as mode
use Rattle.gb_ppu.specs.declared.registers.LcdRegister.{LcdRegister}
use Rattle.gb_ppu.specs.declared.registers.LcdRegister.TheVariants as lcd
use Rattle.gb_ppu.specs.Control.{is_on}
use Rattle.gb_ppu.specs.Picture.{mode_of}
use Rattle.gb_ppu.specs.LcdRegisters.{register_read, register_written, requested_by}
use Rattle.gb_ppu.specs.Requests.{request_bits}
use Rattle.gb_bus.specs.Screen.{blank, pictured}
use Rattle.gb_bus.specs.Hardware.{hardware_at}
use Rattle.gb_bus.specs.Contents.{Contents}
use Rattle.gb_bus.specs.CartridgeRam.{cartridge_byte, cartridge_written}
use Rattle.gb_bus.specs.Registers.{io_byte, io_written, timer_bit}

-- ---- reads

-- the picture uses video RAM in mode 3, and OAM in modes 2 and 3
abbrev pub uses_video_ram : Mode → Bool
uses_video_ram mode.Drawing = true
uses_video_ram _ = false

abbrev pub uses_oam : Mode → Bool
uses_oam mode.ObjectScan = true
uses_oam mode.Drawing = true
uses_oam _ = false

abbrev pub hardware_byte : Hardware → Contents → ℕ
hardware_byte (hardware.VideoRam i) c = if uses_video_ram (mode_of c.picture) then 0xFF else slice_index c.video_ram i
hardware_byte (hardware.Oam i) c = if uses_oam (mode_of c.picture) then 0xFF else slice_index c.oam i
hardware_byte (hardware.Io register) c = io_byte register c
hardware_byte (hardware.Lcd register) c = register_read register c.picture
hardware_byte hardware.Nothing c = 0xFF

-- what is read where no transfer closes it
abbrev pub open_byte : Mapped → Contents → ℕ → ℕ
open_byte mapped.CartridgeRam c a = cartridge_byte c a
open_byte mapped.Transfer c a = c.page
open_byte mapped.Hardware c a = hardware_byte (hardware_at a) c
open_byte m c a = byte_by m c.view a

unfoldable pub byte_read : Contents → ℕ → ℕ
byte_read c a = if is_closed c.view.storage a then 0xFF else open_byte (mapped_at a) c a

-- ---- the transfer's copy

-- where a page is copied from
abbrev pub source_page : ℕ → ℕ
source_page page = if nat_le 0xE0 page then page - 0x20 else page

-- a byte as it is copied: neither the picture nor a transfer closes it
abbrev pub copied_byte : Mapped → Contents → ℕ → ℕ
copied_byte mapped.Hardware c a = slice_index c.video_ram (a - 0x8000)
copied_byte m c a = open_byte m c a

unfoldable pub source_byte : Contents → ℕ → ℕ
source_byte c a = copied_byte (mapped_at a) c a

-- byte i of what a transfer from a page copies
unfoldable pub transferred : Contents → ℕ → ℕ → ℕ
transferred c page i = source_byte c (256 * source_page page + i)

-- the 160 bytes of a transfer
unfoldable pub copied : Contents → ℕ → List ℕ
copied c page = map (transferred c page) (range_with_len 0 160)

-- ---- writes

-- nothing is shown as the LCD is turned off
abbrev pub screen_after : LcdRegister → ℕ → List (List ℕ) → List (List ℕ)
screen_after lcd.Lcdc v screen = if is_on v then screen else blank
screen_after _ v screen = screen

-- a write to a register of the picture may request STAT's interrupt
unfoldable pub lcd_written : LcdRegister → Contents → ℕ → Contents
lcd_written register c v =
    let picture = register_written register v c.picture in
    record c {
      picture = picture;
      screen = screen_after register v c.screen;
      requests = bit_or c.requests (request_bits (requested_by c.picture picture));
    }

abbrev pub hardware_written : Hardware → Contents → ℕ → Contents
hardware_written (hardware.VideoRam i) c v =
    if uses_video_ram (mode_of c.picture) then c else record c { video_ram = slice_set c.video_ram i v }
hardware_written (hardware.Oam i) c v = if uses_oam (mode_of c.picture) then c else record c { oam = slice_set c.oam i v }
hardware_written (hardware.Io register) c v = io_written register c v
hardware_written (hardware.Lcd register) c v = lcd_written register c v
hardware_written hardware.Nothing c v = c

-- the view after a write that no transfer closes
abbrev pub viewed : Mapped → Contents → ℕ → ℕ → Contents
viewed m c a v = record c { view = wrote_by m c.view a v }

-- MBC3 latches its clock by writes to 6000-7FFF
abbrev pub commanded : Bool → Contents → ℕ → Contents
commanded latches c v = if latches then record c { clock = Clock.commanded c.clock v } else c

-- what a write does where no transfer closes it
abbrev pub open_written : Mapped → Contents → ℕ → ℕ → Contents
open_written mapped.Rom c a v = commanded (is_latch (kind_of c.view.rom) a) (viewed mapped.Rom c a v) v
open_written mapped.CartridgeRam c a v = cartridge_written c a v
open_written mapped.Transfer c a v = record (viewed mapped.Transfer c a v) { page = v; oam = copied c v }
open_written mapped.Hardware c a v = hardware_written (hardware_at a) c v
open_written m c a v = viewed m c a v

unfoldable pub written : Contents → ℕ → ℕ → Contents
written c a v = if is_closed c.view.storage a then c else open_written (mapped_at a) c a v

-- ---- requests and time

-- the interrupts that are enabled and requested
abbrev pub shared_bits : ℕ → ℕ → ℕ
shared_bits ie requests = if ie % 32 == 0 then 0 else bit_and ie requests % 32

unfoldable pub shared : Contents → ℕ
shared c = shared_bits c.view.storage.ie c.requests

-- the request of interrupt i is taken back
unfoldable pub acknowledged : Contents → ℕ → Contents
acknowledged c i = record c { requests = bit_and c.requests (255 - 2 ^ i) }

-- the timer counts n M-cycles, and an overflow requests its interrupt
abbrev pub timed : Contents → ℕ → Contents
timed c n =
    record c {
      timer = Timer.advanced c.timer n;
      requests = if Timer.overflows c.timer (Timer.counts c.timer n) == 0 then c.requests else bit_or c.requests timer_bit;
    }

-- n M-cycles pass
unfoldable pub advanced : Contents → ℕ → Contents
advanced c n = pictured n (timed (record c { view = passed c.view n }) n)

-- an access, with the memory before it and after it
abbrev pub IsAccessed : Contents → Access → Contents → Type 0
IsAccessed old (Reads a v) new = (v ≡ byte_read old a) × (new ≡ old)
IsAccessed old (Writes a v) new = new ≡ written old a v
IsAccessed old (Passes n) new = new ≡ advanced old n
IsAccessed old (Acknowledges i) new = new ≡ acknowledged old i
