-- The console's memory at power-up (Pan Docs: Power Up Sequence; own: 00 where it names no value, TAC's
-- unused bits 1, the timer's counter 0).
use Rattle.std.specs.Prelude.{ℕ, ◌*◌, false, List, replicate}
use Rattle.gb_ops.specs.Cartridge.{banks_at_power_up, ram_banks}
use Rattle.gb_ops.specs.Memory.{View}
use Rattle.gb_mbc.specs.Clock.{clock_at_power_up}
use Rattle.gb_ppu.specs.Below.gb_timer.Timer as Timer
use Rattle.gb_ppu.specs.PowerUp.{power_up}
use Rattle.gb_bus.specs.Contents.{Contents}
use Rattle.gb_bus.specs.Screen.{blank}

-- so many bytes 00
unfoldable pub zeros : ℕ → List ℕ
zeros n = replicate n 0

abbrev pub view_at_power_up : List ℕ → View
view_at_power_up rom =
    record {
      rom = rom;
      storage = record {
        banks = banks_at_power_up;
        work = zeros 0x2000;
        high = zeros 127;
        ie = 0;
        count = 0;
      };
      starting = false;
    }

unfoldable pub at_power_up : List ℕ → Contents
at_power_up rom =
    record {
      view = view_at_power_up rom;
      cartridge_ram = zeros (0x2000 * ram_banks rom);
      clock = clock_at_power_up;
      video_ram = zeros 0x2000;
      oam = zeros 160;
      timer = Timer.at_power_up;
      pad = record { select = 0; keys = 0 };
      picture = power_up;
      screen = blank;
      requests = 1;
      page = 0;
    }
