use Rattle.std.proofs.Common.{sym}
use Rattle.gb_rules.proofs.LowestLaws.{before_reduced, lowest_of_none, read_of_parts}
use Rattle.gb_rules.proofs.ways.reason_of_reduced.Goals as goal

pub reason_of_each-requires-clause-before : goal.reason_of_each-requires-clause-before
reason_of_each-requires-clause-before c =
    rw (sym c.program_of-program.ensures) (before_reduced c.program_of-program.result c.args.site.now.stack.now.setting.rules c.args.site.now.stack.now.setting.entered c.read_in-read.result c.args.core.now c.args.site.now.state.now _ c.requires.rules c.requires.core
    (read_of_parts c.program_of-program.result c.args.site.now.state.now c.of.result.lists.now c.of.result.core.now c.of.result.relations.now c.relations.result.now c.of.result.summary.now c.read_in-read.result c.of.ensures.core c.of.ensures.relations c.of.ensures.summary c.of.ensures.lists c.relations.ensures c.read_in-read.ensures) (rw (sym c.relations.ensures) (sym c.if-reduce.ensures.exact)))

pub returns-else-reduce : goal.returns-else-reduce
returns-else-reduce c =
    lowest_of_none c.args.site.now.rom.now c.args.site.now.cert.now c.args.site.now.node.now c.args.site.now.row.now c.args.site.now.stack.now c.args.site.now.state.now c.requires.stack c.requires.state c.requires.rules
    (rw (sym c.program_of-program.ensures) (before_reduced c.program_of-program.result c.args.site.now.stack.now.setting.rules c.args.site.now.stack.now.setting.entered c.read_in-read.result c.args.core.now c.args.site.now.state.now _ c.requires.rules c.requires.core
    (read_of_parts c.program_of-program.result c.args.site.now.state.now c.of.result.lists.now c.of.result.core.now c.of.result.relations.now c.relations.result.now c.of.result.summary.now c.read_in-read.result c.of.ensures.core c.of.ensures.relations c.of.ensures.summary c.of.ensures.lists c.relations.ensures c.read_in-read.ensures) (rw (sym c.relations.ensures) (sym c.if-reduce.ensures.exact))))
