use Rattle.std.proofs.Common.{◌≡◌, ◌+◌, drop}
use Rattle.gb_command_line.specs.Below.gb_verify.Widened.{widened}
use Rattle.gb_program.specs.Fourth.{entry_address, place}
use Rattle.gb_program.proofs.fourth_order.place.Given as goal

abbrev pub invariant-loop-i : goal.invariant-loop-i
invariant-loop-i l = place (entry_address (widened l.cert)) l.address l.numbers ≡ l.i + place (entry_address (widened l.cert)) l.address (drop l.i l.numbers)
