use Rattle.std.proofs.Common.{◌≡◌, refl, sym, ap}
use Rattle.gb_successors.specs.Settled.{told_successor}
use Rattle.gb_successors.specs.Stacks.{around_of}
use Rattle.gb_successors.specs.Successors.{effect_in, taken_parts, taken_move, relations_behind, summary_behind, taken_successor}
use Rattle.gb_successors.specs.Behind.{state_behind}
use Rattle.gb_successors.specs.Way.{Successor}
use Rattle.gb_successors.proofs.MovedLaws.{taken_state, moved_cells}
use Rattle.gb_successors.proofs.successor.successor_by.Goals as goal

pub returns : goal.returns
unfolding around_of effect_in taken_parts taken_move relations_behind summary_behind taken_successor
returns c =
    let untold : Successor = record {
      read = c.read_around-read.result;
      write = c.mark.new.effect.write;
      target = c.refined_target-target.result;
      next = c.args.taken.now.next;
      state = state_behind c.move_of-moved.result c.mark.new.effect.write c.end_core.new.core c.relations_after-relations.result c.summary_behind-summary.result c.args.taken.now.state.now;
    } in
    let is : untold ≡ taken_successor c.args.taken.now.stack.now c.args.taken.now.program.now c.args.taken.now.rom.now c.args.taken.now.row.now c.args.taken.now.next c.args.taken.now.state.now (record { core = c.args.taken.now.core.now; relations = c.args.taken.now.relations.now; cell = c.args.taken.now.cell.now }) =
    rw (
      c.move_of-moved.ensures,
      taken_state c.args.taken.now.stack.now c.kind-kind.result c.args.taken.now.cell.now c.stack_move-stack_move.result c.mark.new.effect.write c.args.taken.now.state.now c.end_core.new.core c.relations_after-relations.result c.summary_behind-summary.result,
      c.summary_behind-summary.ensures,
      c.move_of-moved.ensures,
      moved_cells c.args.taken.now.stack.now c.kind-kind.result c.args.taken.now.cell.now c.stack_move-stack_move.result c.mark.new.effect.write c.args.taken.now.state.now,
      c.end_core.ensures,
      c.relations_after-relations.ensures.exact,
      c.refined_target-target.ensures,
      c.target_of-behind.ensures.exact,
      c.stack_move-stack_move.ensures,
      c.mark.ensures,
      c.marks-is_marked.ensures,
      c.refine.ensures,
      c.known_bits-bits.ensures.exact,
      c.known_carry-carry.ensures.exact,
      c.transfer_in.ensures.exact,
      c.requires.before,
      c.read_word.ensures,
      c.sp_halves.ensures.exact,
      c.read_around-read.ensures,
      c.cut_read.ensures,
      c.around_of-around.ensures,
      c.read_of.ensures.exact,
      c.held_of.ensures,
      c.sp_bounds-sp.ensures.exact,
      c.pointer_bounds-pointer.ensures.exact,
      c.kind-kind.ensures.kind,
      sym c.requires.own,
    ) refl in
    rw c.told_at_target.ensures (ap (told_successor c.args.taken.now.told c.args.taken.now.state.now.core) is)
