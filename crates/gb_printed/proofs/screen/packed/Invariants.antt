use Rattle.std.proofs.Common.{◌≡◌, ℕ, ◌<◌, [], length, get_or}
use Rattle.gb_printed.proofs.Packing.{byte_of_four}
use Rattle.gb_printed.proofs.screen.packed.Given as goal

abbrev pub invariant-loop-i : goal.invariant-loop-i
invariant-loop-i l = record {
  room : length l.bytes ≡ 40;
  done : (k : ℕ) → k < l.i → get_or l.bytes k 0 ≡ byte_of_four (get_or l.fours k []);
}
