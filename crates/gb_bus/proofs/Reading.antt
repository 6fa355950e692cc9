-- What the bus shows of an access.
use Rattle.std.proofs.Common.{◌≡◌, ℕ, ◌<◌, ◌≤◌, ◌-◌, ◌%◌, ◌==◌, Bool, true, false, not, ◌&&◌, refl, ap, if◌then◌else◌, nat_lt, slice_index, arith}
use Rattle.std.specs.Prelude.{slice_set}
use Rattle.std.proofs.lemmas.Bool.{lt-ltb}
use Rattle.std.proofs.lemmas.Bool.Decides.{nat_tests}
use Rattle.gb_ops.specs.declared.machine.Mapped.{Mapped}
use Rattle.gb_ops.specs.declared.machine.Mapped.TheVariants as mapped
use Rattle.gb_ops.specs.declared.machine.ReadSource.TheVariants as place
use Rattle.gb_ops.specs.Memory.{View, Storage, mapped_at, is_high, rom_byte, is_closed, is_free, is_free_place, place_of, place_by, byte_at, byte_by, wrote, wrote_by, kept_or, passed}
use Rattle.gb_ops.specs.Cartridge.{kind_of, shown_bank}
use Rattle.gb_mbc.specs.Controllers.{is_latch}
use Rattle.gb_ppu.specs.Picture.{mode_of}
use Rattle.gb_bus.specs.Contents.{Contents}
use Rattle.gb_bus.specs.Hardware.{hardware_at}
use Rattle.gb_bus.specs.declared.hardware.Hardware.{Hardware}
use Rattle.gb_bus.specs.declared.hardware.Hardware.TheVariants as hardware
use Rattle.gb_bus.specs.declared.hardware.IoRegister.{IoRegister}
use Rattle.gb_bus.specs.declared.hardware.IoRegister.TheVariants as io
use Rattle.gb_bus.specs.declared.cartridge.Behind.{Behind}
use Rattle.gb_bus.specs.declared.cartridge.Behind.TheVariants as behind
use Rattle.gb_bus.specs.CartridgeRam.{behind_written, behind_gate, cartridge_written}
use Rattle.gb_bus.specs.Registers.{io_written}
use Rattle.gb_bus.specs.Access.{open_byte, byte_read, written, open_written, hardware_written, commanded, viewed, uses_video_ram, uses_oam, lcd_written}

-- ---- a fixed byte is what is read

free : true ≡ false → (A : Type 0) → A
free h A = absurd (let bad : true ≡ false = h in cc)

open_is : (m : Mapped) (c : Contents) (a : ℕ) → is_free_place (place_by m c.view a) ≡ false → byte_by m c.view a ≡ open_byte m c a
open_is mapped.Rom c a h = refl
open_is mapped.CartridgeRam c a h = free h _
open_is (mapped.WorkRam i) c a h = refl
open_is (mapped.HighRam i) c a h = refl
open_is mapped.InterruptEnable c a h = refl
open_is mapped.Transfer c a h = free h _
open_is mapped.Hardware c a h = free h _

fixed_by :
    (closed : Bool) (m : Mapped) (c : Contents) (a : ℕ) → is_free_place (if closed then place.Free else place_by m c.view a) ≡ false
    → byte_by m c.view a ≡ (if closed then 0xFF else open_byte m c a)
fixed_by true m c a h = free h _
fixed_by false m c a h = open_is m c a h

pub fixed_is : (c : Contents) (a : ℕ) → is_free c.view a ≡ false → byte_at c.view a ≡ byte_read c a
unfolding is_free place_of byte_at byte_read
fixed_is c a h = fixed_by (is_closed c.view.storage a) (mapped_at a) c a h

-- ---- reads of ROM

mapped_rom : (a : ℕ) → a < 0x8000 → mapped_at a ≡ mapped.Rom
unfolding mapped_at
mapped_rom a low = rw (lt-ltb a 0x8000 low) refl

open_where : (s : Storage) (a : ℕ) → s.count ≡ 0 → is_closed s a ≡ false
unfolding is_closed
open_where s a none = ap (λ (n : ℕ). not (n == 0) && not (is_high (mapped_at a))) none

pub rom_is_read : (c : Contents) (a : ℕ) → a < 0x8000 → c.view.storage.count ≡ 0 → rom_byte c.view.rom (shown_bank c.view.rom c.view.storage.banks a) a ≡ byte_read c a
unfolding byte_read
rom_is_read c a low none = rw (open_where c.view.storage a none, mapped_rom a low) refl

pub rom_is_fixed : (c : Contents) (a : ℕ) → a < 0x8000 → c.view.storage.count ≡ 0 → false ≡ is_free c.view a
unfolding is_free place_of
rom_is_fixed c a low none = rw (open_where c.view.storage a none, mapped_rom a low) refl

pub ruleset rom_reads = (rom_is_read, rom_is_fixed)

-- ---- reads and writes of work RAM

not_below : (a n : ℕ) → n ≤ a → nat_lt a n ≡ false
not_below a n h = grind (arith, nat_tests)

mapped_work : (a : ℕ) → 0xC000 ≤ a → a < 0xFE00 → mapped_at a ≡ mapped.WorkRam ((a - 0xC000) % 0x2000)
unfolding mapped_at
mapped_work a least most = rw (not_below a 0x8000 (omega (arith, least)), not_below a 0xA000 (omega (arith, least)), not_below a 0xC000 least, lt-ltb a 0xFE00 most) refl

pub work_is_read : (c : Contents) (a i : ℕ) → 0xC000 ≤ a → a < 0xFE00 → c.view.storage.count ≡ 0 → i ≡ (a - 0xC000) % 0x2000
    → slice_index c.view.storage.work i ≡ byte_read c a
unfolding byte_read
work_is_read c a i least most none is = rw (is, open_where c.view.storage a none, mapped_work a least most) refl

pub work_is_fixed : (c : Contents) (a : ℕ) → 0xC000 ≤ a → a < 0xFE00 → c.view.storage.count ≡ 0 → false ≡ is_free c.view a
unfolding is_free place_of
work_is_fixed c a least most none = rw (open_where c.view.storage a none, mapped_work a least most) refl

pub ruleset work_reads = (work_is_read, work_is_fixed)

pub work_is_written : (c : Contents) (a i v : ℕ) → 0xC000 ≤ a → a < 0xFE00 → c.view.storage.count ≡ 0 → i ≡ (a - 0xC000) % 0x2000
    → record c { view = record c.view { storage = record c.view.storage { work = slice_set c.view.storage.work i v } } } ≡ written c a v
unfolding written
work_is_written c a i v least most none is = rw (is, open_where c.view.storage a none, mapped_work a least most) refl

-- ---- M-cycles without a transfer

left_by : (b : Bool) (count n : ℕ) → b ≡ false → count ≡ 0 → count ≡ (if b then 161 else count - n)
left_by true count n h none = absurd (let bad : true ≡ false = h in cc)
left_by false count n h none = omega (arith, none)

view_passes : (v : View) (n : ℕ) → v.starting ≡ false → v.storage.count ≡ 0 → v ≡ passed v n
unfolding passed
view_passes v n settled none = λ i. record v { storage = record v.storage { count = left_by v.starting v.storage.count n settled none i }; starting = settled i }

pub none_passes : (c : Contents) (n : ℕ) → c.view.starting ≡ false → c.view.storage.count ≡ 0 → c ≡ record c { view = passed c.view n }
none_passes c n settled none = ap (λ (v : View). record c { view = v }) (view_passes c.view n settled none)

-- ---- what a write shows

command_keeps : (b : Bool) (c : Contents) (v : ℕ) → (commanded b c v).view ≡ c.view
command_keeps true c v = refl
command_keeps false c v = refl

behind_keeps : (b : Behind) (c : Contents) (a v : ℕ) → (behind_written b c a v).view ≡ c.view
behind_keeps (behind.Ram bank) c a v = refl
behind_keeps (behind.Clock register) c a v = refl
behind_keeps behind.Nothing c a v = refl

io_keeps : (r : IoRegister) (c : Contents) (v : ℕ) → (io_written r c v).view ≡ c.view
unfolding io_written
io_keeps io.Joypad c v = refl
io_keeps io.Divider c v = refl
io_keeps io.TimerCounter c v = refl
io_keeps io.TimerModulo c v = refl
io_keeps io.TimerControl c v = refl
io_keeps io.Requests c v = refl

used_keeps : (used : Bool) (c d : Contents) → d.view ≡ c.view → (if used then c else d).view ≡ c.view
used_keeps true c d h = refl
used_keeps false c d h = h

hardware_keeps : (h : Hardware) (c : Contents) (v : ℕ) → (hardware_written h c v).view ≡ c.view
unfolding lcd_written
hardware_keeps (hardware.VideoRam i) c v = used_keeps (uses_video_ram (mode_of c.picture)) c _ refl
hardware_keeps (hardware.Oam i) c v = used_keeps (uses_oam (mode_of c.picture)) c _ refl
hardware_keeps (hardware.Io r) c v = io_keeps r c v
hardware_keeps (hardware.Lcd r) c v = refl
hardware_keeps hardware.Nothing c v = refl

open_shows : (m : Mapped) (c : Contents) (a v : ℕ) → (open_written m c a v).view ≡ wrote_by m c.view a v
unfolding cartridge_written
open_shows mapped.Rom c a v = command_keeps (is_latch (kind_of c.view.rom) a) (viewed mapped.Rom c a v) v
open_shows mapped.CartridgeRam c a v = behind_keeps (behind_gate c) c a v
open_shows (mapped.WorkRam i) c a v = refl
open_shows (mapped.HighRam i) c a v = refl
open_shows mapped.InterruptEnable c a v = refl
open_shows mapped.Transfer c a v = refl
open_shows mapped.Hardware c a v = hardware_keeps (hardware_at a) c v

dropped_shows : (closed : Bool) (c d : Contents) (m : View) → d.view ≡ m → (if closed then c else d).view ≡ kept_or closed c.view m
dropped_shows true c d m h = refl
dropped_shows false c d m h = h

pub write_shows : (c : Contents) (a v : ℕ) → (written c a v).view ≡ wrote c.view a v
unfolding written wrote
write_shows c a v = dropped_shows (is_closed c.view.storage a) c (open_written (mapped_at a) c a v) (wrote_by (mapped_at a) c.view a v) (open_shows (mapped_at a) c a v)
