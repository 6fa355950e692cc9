use Rattle.std.proofs.Common.{arith}
use Rattle.gb_ppu.proofs.NextDrawing.{this-line, next-line, next-frame}
use Rattle.gb_ppu.proofs.ppu.until_drawing.Goals as goal

pub returns-then-column-lt20 : goal.returns-then-column-lt20
returns-then-column-lt20 c = this-line _ (omega arith) (omega arith)

pub returns-else-column-lt20 : goal.returns-else-column-lt20
returns-else-column-lt20 c = next-line _ (omega arith) (omega arith)

pub returns-then-position-ge-LAST_DRAWING : goal.returns-then-position-ge-LAST_DRAWING
returns-then-position-ge-LAST_DRAWING c = next-frame _ c.requires (omega arith)
