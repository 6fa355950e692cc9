-- Where the memory map has hardware (Pan Docs: Memory Map; Hardware Registers List).
use Rattle.std.specs.Prelude.{ℕ, ◌-◌, ◌==◌, ◌<◌, nat_lt, if◌then◌else◌}
use Rattle.gb_bus.specs.declared.hardware.Hardware.{Hardware}
use Rattle.gb_bus.specs.declared.hardware.Hardware.TheVariants as hardware
use Rattle.gb_bus.specs.declared.hardware.IoRegister.TheVariants as io
use Rattle.gb_ppu.specs.declared.registers.LcdRegister.TheVariants as lcd

-- the I/O register at an address from FF00 to FF7F but FF46, which the memory map has apart; all others
-- read FF and drop writes (own)
unfoldable pub register_at : ℕ → Hardware
register_at a =
    if a == 0xFF00 then hardware.Io io.Joypad
    else if a == 0xFF04 then hardware.Io io.Divider
    else if a == 0xFF05 then hardware.Io io.TimerCounter
    else if a == 0xFF06 then hardware.Io io.TimerModulo
    else if a == 0xFF07 then hardware.Io io.TimerControl
    else if a == 0xFF0F then hardware.Io io.Requests
    else if a == 0xFF40 then hardware.Lcd lcd.Lcdc
    else if a == 0xFF41 then hardware.Lcd lcd.Stat
    else if a == 0xFF42 then hardware.Lcd lcd.Scy
    else if a == 0xFF43 then hardware.Lcd lcd.Scx
    else if a == 0xFF44 then hardware.Lcd lcd.Ly
    else if a == 0xFF45 then hardware.Lcd lcd.Lyc
    else if a == 0xFF47 then hardware.Lcd lcd.Bgp
    else if a == 0xFF48 then hardware.Lcd lcd.Obp0
    else if a == 0xFF49 then hardware.Lcd lcd.Obp1
    else if a == 0xFF4A then hardware.Lcd lcd.Wy
    else if a == 0xFF4B then hardware.Lcd lcd.Wx
    else hardware.Nothing

-- what stands at an address from 8000 to 9FFF or from FE00 to FF7F
unfoldable pub hardware_at : ℕ → Hardware
hardware_at a =
    if nat_lt a 0xA000 then hardware.VideoRam (a - 0x8000)
    else if nat_lt a 0xFE00 then hardware.Nothing
    else if nat_lt a 0xFEA0 then hardware.Oam (a - 0xFE00)
    else if nat_lt a 0xFF80 then register_at a
    else hardware.Nothing

-- a byte of video RAM or OAM lies in its memory
abbrev pub IsHeld : Hardware → Type 0
IsHeld (hardware.VideoRam i) = i < 0x2000
IsHeld (hardware.Oam i) = i < 160
IsHeld _ = Unit {0}
