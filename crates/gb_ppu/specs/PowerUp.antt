-- The picture at power-up (Pan Docs: Power-Up Sequence; own: it stands at the start of a frame, where LY equals WY).
use Rattle.std.specs.Prelude.{false, Some}
use Rattle.gb_ppu.specs.declared.picture.Picture.{Picture}

abbrev pub power_up : Picture
power_up = record {
  lcdc = 0x91;
  stat = 0;
  scy = 0;
  scx = 0;
  lyc = 0;
  bgp = 0xFC;
  obp0 = 0;
  obp1 = 0;
  wy = 0;
  wx = 0;
  position = 0;
  window = Some 0;
  shows_window = false;
}
