use Rattle.std.proofs.Common.{◌≡◌, ◌≤◌, ◌++◌, drop, length}
use Rattle.gb_calls.specs.Resuming.{given_from}
use Rattle.gb_calls.proofs.cells.given_addresses.Given as goal

abbrev pub invariant-loop-number : goal.invariant-loop-number
invariant-loop-number l = record {
  few : length l.given.items ≤ l.number;
  left : l.given.items ++ given_from l.number (drop l.number l.kept.items) l.exit ≡ given_from 0 l.kept.items l.exit;
}
