use Rattle.std.proofs.Common.{◌+◌, arith}
use Rattle.gb_ppu.specs.Seen.{seen}
use Rattle.gb_ppu.proofs.FrontLines.{pixel-laid, laid_small, lane-joined, pixel-beyond}
use Rattle.gb_ppu.proofs.front.FrontLine.draw.Goals as goal

pub returns-then-object-lt-BEYOND : goal.returns-then-object-lt-BEYOND
returns-then-object-lt-BEYOND c = λ x within front h.
    let scene = seen c.args.scene.now in
    let object = c.args.object in
    rw (c.put.ensures.xs (x + 8) (omega arith), c.put.ensures.pixels (x + 8) (omega arith), pixel-laid scene x c.args.y object c.row_colours-colours.result c.requires.met c.row_colours-colours.ensures)
    (lane-joined scene object _ _ _ front c.if-object-lt-BEYOND.true (laid_small scene c.args.y object c.row_colours-colours.result (x + 8) c.row_colours-colours.ensures) (omega arith) h)

pub returns-else-object-lt-BEYOND : goal.returns-else-object-lt-BEYOND
returns-else-object-lt-BEYOND c = λ x within front h.
    rw (pixel-beyond (seen c.args.scene.now) x c.args.y c.args.object front c.requires.met within c.if-object-lt-BEYOND.false) h
