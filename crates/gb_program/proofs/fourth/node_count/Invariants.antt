use Rattle.std.proofs.Common.{◌≡◌, ◌≤◌, ◌+◌, ◌*◌, drop, length}
use Rattle.gb_command_line.specs.Below.gb_verify.Widened.{widened}
use Rattle.gb_program.specs.Fourth.{grouped}
use Rattle.gb_program.proofs.fourth.node_count.Given as goal

abbrev pub invariant-loop-i : goal.invariant-loop-i
invariant-loop-i l = record {
  exact : l.nodes + length (grouped 0 (widened l.cert).nodes (drop l.i l.numbers)) ≡ length (grouped 0 (widened l.cert).nodes l.numbers);
  few : l.nodes ≤ l.i * 1048576;
}
