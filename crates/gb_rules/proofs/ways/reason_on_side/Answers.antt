use Rattle.std.proofs.Common.{◌∙◌}
use Rattle.gb_rules.proofs.LowestLaws.{taken_on_side}
use Rattle.gb_rules.proofs.ways.reason_on_side.Goals as goal

pub returns : goal.returns
returns c =
    c.reason_of_possible.ensures
    ∙ taken_on_side _ _ _ c.args.site.now.rom.now c.args.site.now.row.now c.args.site.now.stack.now c.args.site.now.state.now _ _ _ _ _ c.in-Some.side _
    c.program_of-program.ensures c.behind-next.ensures
    c.memory_before-memory.ensures c.taken_side.ensures.exact c.in-Some.is c.side_successor.ensures
