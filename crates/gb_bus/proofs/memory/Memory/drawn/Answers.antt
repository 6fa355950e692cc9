use Rattle.gb_bus.proofs.Screens.{line_is}
use Rattle.gb_bus.proofs.memory.Memory.drawn.Goals as goal

pub returns : goal.returns
returns c =
    rw (← c.self.view_is, ← c.ppu-ppu.ensures, ← c.deref.ensures, ← c.deref-2.ensures) (line_is _ _ _ _ _ _ c.render_line.array_long c.scene-scene.ensures c.line.ensures.value c.render_line.ensures.pixels)
