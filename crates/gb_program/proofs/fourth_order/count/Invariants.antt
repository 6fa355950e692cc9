use Rattle.std.proofs.Common.{◌≡◌, ◌≤◌, length, take}
use Rattle.gb_command_line.specs.Below.gb_verify.Widened.{widened}
use Rattle.gb_program.specs.Fourth.{nodes_of}
use Rattle.gb_program.proofs.fourth_order.count.Given as goal

abbrev pub invariant-loop-i : goal.invariant-loop-i
invariant-loop-i l = record {
  exact : l.count ≡ length (nodes_of l.number (take l.i (widened l.cert).nodes));
  few : l.count ≤ l.i;
}
