use Rattle.std.proofs.Common.{◌≡◌, ◌≤◌, ◌++◌, drop, length}
use Rattle.std.specs.List.{filter_map}
use Rattle.gb_summaries.specs.Moves.{moved}
use Rattle.gb_summaries.proofs.moves.left_of_fills.Given as goal

abbrev pub invariant-loop-fill : goal.invariant-loop-fill
invariant-loop-fill l =
    (l.left.items ++ filter_map (moved l.fn.moves l.fn.pointers) (drop l.fill-index l.fn.fills) ≡ filter_map (moved l.fn.moves l.fn.pointers) l.fn.fills)
    × (length l.left.items ≤ l.fill-index)
