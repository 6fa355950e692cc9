use Rattle.std.proofs.Common.{refl, arith}
use Rattle.gb_ppu.proofs.Silent.{silent-scan, silent-line, silent-lines}
use Rattle.gb_ppu.proofs.silence.silent_lines.Goals as goal
use Rattle.gb_ppu.proofs.silence.silent_lines.Goals.{else-line-lt-DRAWN_LINES-via-then-line-lt-DRAWN_LINES+else-column-lt20, else-line-lt-DRAWN_LINES-via-else-line-lt-DRAWN_LINES}

pub returns-then-column-lt20 : goal.returns-then-column-lt20
returns-then-column-lt20 c = silent-scan _ c.requires.formed c.requires.on c.requires.sources (omega (arith, c.if-column-lt20.true))

pub returns-then-is_heeded : goal.returns-then-is_heeded
returns-then-is_heeded c =
    silent-line _ c.requires.formed c.requires.on c.requires.sources
    (elim c.else-line-lt-DRAWN_LINES.branch [
      | else-line-lt-DRAWN_LINES-via-then-line-lt-DRAWN_LINES+else-column-lt20 w ↦ λ drawn. omega (arith, w.if-column-lt20.false)
      | else-line-lt-DRAWN_LINES-via-else-line-lt-DRAWN_LINES w ↦ λ drawn. omega (arith, w.if-line-lt-DRAWN_LINES.false, drawn)
    ])

pub returns-else-is_heeded : goal.returns-else-is_heeded
returns-else-is_heeded c =
    silent-lines _ _ c.requires.formed c.requires.on c.requires.sources
    (elim c.else-line-lt-DRAWN_LINES.branch [
      | else-line-lt-DRAWN_LINES-via-then-line-lt-DRAWN_LINES+else-column-lt20 w ↦ λ drawn. omega (arith, w.if-column-lt20.false)
      | else-line-lt-DRAWN_LINES-via-else-line-lt-DRAWN_LINES w ↦ λ drawn. omega (arith, w.if-line-lt-DRAWN_LINES.false, drawn)
    ])
    refl (c.is_heeded.ensures c.if-is_heeded.false)
