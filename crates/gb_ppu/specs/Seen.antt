-- What a line is drawn from, as plain lists and numbers (Pan Docs: Rendering).
use Rattle.std.specs.Prelude.{ℕ, List, Option}
use Rattle.gb_ppu.specs.declared.picture.Picture.{Picture}
use Rattle.gb_ppu.specs.declared.scene.Scene.{Scene}

pub record Seen : Type 0 where
  pub video_ram : List ℕ
  pub oam : List ℕ
  pub lcdc : ℕ
  pub scx : ℕ
  pub scy : ℕ
  pub wx : ℕ
  pub bgp : ℕ
  pub obp0 : ℕ
  pub obp1 : ℕ
  -- the window's own line
  pub window_line : Option ℕ

-- what a scene lends
abbrev pub seen : Scene → Seen
seen s =
    record {
      video_ram = s.video_ram.now;
      oam = s.oam.now;
      lcdc = s.lcdc;
      scx = s.scx;
      scy = s.scy;
      wx = s.wx;
      bgp = s.bgp;
      obp0 = s.obp0;
      obp1 = s.obp1;
      window_line = s.window_line;
    }

-- what a line of this picture is drawn from
abbrev pub seen_by : Picture → List ℕ → List ℕ → Seen
seen_by p video_ram oam =
    record {
      video_ram = video_ram;
      oam = oam;
      lcdc = p.lcdc;
      scx = p.scx;
      scy = p.scy;
      wx = p.wx;
      bgp = p.bgp;
      obp0 = p.obp0;
      obp1 = p.obp1;
      window_line = p.window;
    }
