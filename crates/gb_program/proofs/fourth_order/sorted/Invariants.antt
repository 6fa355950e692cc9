use Rattle.std.proofs.Common.{◌≡◌, ◌+◌, ◌-◌, ◌≤◌, length}
use Rattle.gb_command_line.specs.Below.gb_verify.Widened.{widened}
use Rattle.gb_program.specs.Fourth.{AreNumbers, entry_address, sorted}
use Rattle.gb_program.proofs.fourth_order.sorted.Given as goal

abbrev pub invariant-loop-number : goal.invariant-loop-number
invariant-loop-number l = record {
  exact : l.numbers.items ≡ sorted (entry_address (widened l.cert)) (l.number - 1);
  numbers : AreNumbers (length l.cert.procedures) l.numbers.items;
  long : length l.numbers.items + 1 ≡ l.number;
}
