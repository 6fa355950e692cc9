use Rattle.std.proofs.Common.{refl}
use Rattle.gb_bus.proofs.Screens.{drawn_line_small, pictured-drawn, pictured-quiet, screened-drawn}
use Rattle.gb_bus.proofs.memory.Memory.pass_until_drawing.Goals as goal

pub draw_line-requires : goal.draw_line-requires
draw_line-requires c =
    rw c.advance_picture.ensures.passed
    (drawn_line_small c.in-Some.way c.args.self.now.picture _ c.in-Some.ensures.next (c.advance_picture.ensures.moved (c.in-Some.ensures.on refl)))

pub returns-in-Some-clause-passed : goal.returns-in-Some-clause-passed
returns-in-Some-clause-passed c =
    pictured-drawn c.in-Some.way c.args.self.now _ _ c.advance_picture.ensures.passed c.draw_line.ensures
    (screened-drawn c.in-Some.way c.args.self.now.picture _ _ _ (c.in-Some.ensures.on refl) c.in-Some.ensures.next
    (c.advance_picture.ensures.moved (c.in-Some.ensures.on refl)) c.advance_picture.ensures.on)

pub returns-in-None-clause-passed : goal.returns-in-None-clause-passed
returns-in-None-clause-passed c = pictured-quiet c.args.most c.args.self.now _ c.advance_picture-in-None.ensures.passed (c.in-None.ensures.none refl)
