-- The I/O registers (Pan Docs: Joypad Input; Timer and Divider Registers; Interrupts; OAM DMA Transfer).
use Rattle.std.specs.Prelude.{ℕ, ◌+◌, ◌%◌, if◌then◌else◌, bit_and, bit_or}
use Rattle.gb_ppu.specs.Below.gb_timer.Timer.{div_of}
use Rattle.gb_ppu.specs.Below.gb_timer.Joypad.{Pad, joyp, is_requested}
use Rattle.gb_bus.specs.declared.hardware.IoRegister.{IoRegister}
use Rattle.gb_bus.specs.declared.hardware.IoRegister.TheVariants as io
use Rattle.gb_bus.specs.Contents.{Contents}

abbrev pub timer_bit : ℕ
timer_bit = 4

abbrev pub joypad_bit : ℕ
joypad_bit = 16

-- the joypad changes, and requests its interrupt where a line falls
abbrev pub with_pad : Contents → Pad → Contents
with_pad c pad =
    record c { pad = pad; requests = if is_requested c.pad pad then bit_or c.requests joypad_bit else c.requests }

unfoldable pub io_byte : IoRegister → Contents → ℕ
io_byte io.Joypad c = joyp c.pad
io_byte io.Divider c = div_of c.timer
io_byte io.TimerCounter c = c.timer.tima
io_byte io.TimerModulo c = c.timer.tma
io_byte io.TimerControl c = 0xF8 + c.timer.tac
io_byte io.Requests c = 0xE0 + c.requests

unfoldable pub io_written : IoRegister → Contents → ℕ → Contents
io_written io.Joypad c v = with_pad c (record c.pad { select = bit_and v 0x30 })
io_written io.Divider c v = record c { timer = record c.timer { counter = 0 } }
io_written io.TimerCounter c v = record c { timer = record c.timer { tima = v } }
io_written io.TimerModulo c v = record c { timer = record c.timer { tma = v } }
io_written io.TimerControl c v = record c { timer = record c.timer { tac = v % 8 } }
io_written io.Requests c v = record c { requests = v % 32 }
