use Rattle.std.proofs.Common.{◌≡◌, ◌≤◌, ◌+◌, ◌*◌, ◌++◌, ◌∷◌, length, take}
use Rattle.std.specs.List.{flat_map}
use Rattle.gb_command_line.specs.Below.gb_verify.Below.gb_states.Spelling as spelled
use Rattle.gb_program.proofs.fourth_spelled.push_ranges.Given as goal

abbrev pub invariant-loop-range : goal.invariant-loop-range
invariant-loop-range l = record {
  text : l.out.items ≡ l.initial.out.items ++ flat_map spelled.range (take l.range-index l.ranges);
  long : length l.out.items ≡ length l.initial.out.items + 4 * l.range-index;
}
