use Rattle.std.proofs.Common.{◌*◌, arith}
use Rattle.gb_ppu.proofs.MeetingLanes.{apart}
use Rattle.gb_ppu.proofs.front.any_meets.Goals as goal

pub returns : goal.returns
returns c = λ none k less.
    apart c.args.oam.now _ c.args.lcdc c.args.y c.args.group k _ c.sixteen_at.ensures (omega arith) c.requires.y_within c.object_height.ensures.value less
    (c.any_below.ensures none (4 * k) (omega arith))
