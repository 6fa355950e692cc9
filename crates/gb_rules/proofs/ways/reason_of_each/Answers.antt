use Rattle.std.proofs.Common.{sym}
use Rattle.gb_rules.proofs.LowestLaws.{lowest_of_ways, possible_before}
use Rattle.gb_rules.proofs.ways.reason_of_each.Goals as goal

pub reason_alone-alone-requires-clause-possible : goal.reason_alone-alone-requires-clause-possible
reason_alone-alone-requires-clause-possible c =
    possible_before c.args.site.now.rom.now c.args.site.now.cert.now c.args.site.now.node.now c.args.site.now.stack.now c.args.site.now.state.now _ c.requires.stack c.requires.state c.requires.before

pub returns : goal.returns
returns c =
    rw c.lower-3.ensures
    (rw c.lower-2.ensures
    (rw c.lower.ensures
    (rw c.reason_alone-alone.ensures
    (rw c.reason_if_taken-taken.ensures
    (rw c.reason_if_not_taken-not_taken.ensures
    (rw c.reason_if_staying-staying.ensures
    (sym (lowest_of_ways c.args.site.now.rom.now c.args.site.now.cert.now c.args.site.now.node.now c.args.site.now.row.now c.args.site.now.stack.now c.args.site.now.state.now _ c.requires.stack c.requires.state c.requires.before))))))))
