-- What time leaves alone (own: a consequence of the picture's course).
use Rattle.std.specs.Prelude.{◌≡◌}
use Rattle.gb_ppu.specs.declared.picture.Picture.{Picture}

-- M-cycles leave the registers alone: only writes change them
pub record HasSameRegisters (old new : Picture) : Type 0 where
  pub lcdc : new.lcdc ≡ old.lcdc
  pub stat : new.stat ≡ old.stat
  pub scy : new.scy ≡ old.scy
  pub scx : new.scx ≡ old.scx
  pub lyc : new.lyc ≡ old.lyc
  pub bgp : new.bgp ≡ old.bgp
  pub obp0 : new.obp0 ≡ old.obp0
  pub obp1 : new.obp1 ≡ old.obp1
  pub wy : new.wy ≡ old.wy
  pub wx : new.wx ≡ old.wx
