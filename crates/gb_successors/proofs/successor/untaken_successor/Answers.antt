use Rattle.std.proofs.Common.{refl}
use Rattle.gb_successors.specs.Successors.{untaken_successor}
use Rattle.gb_successors.proofs.MovedLaws.{untaken_state}
use Rattle.gb_successors.proofs.successor.untaken_successor.Goals as goal

pub returns : goal.returns
unfolding untaken_successor
returns c =
    rw (
      c.idle_successor.ensures,
      c.told_at_target-told.ensures,
      c.cell_alone-moved.ensures,
      c.end-core.ensures.exact,
      untaken_state c.args.stack c.args.kind c.args.side.now.cell c.args.row.cycles_not_taken c.args.state.now c.args.side.now.core c.args.side.now.relations,
    ) refl
