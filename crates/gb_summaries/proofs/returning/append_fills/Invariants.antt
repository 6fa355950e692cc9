use Rattle.std.proofs.Common.{◌≡◌, ◌≤◌, ◌+◌, ◌-◌, ◌++◌, take, drop, length}
use Rattle.gb_summaries.proofs.returning.append_fills.Given as goal

abbrev pub invariant-loop-fill : goal.invariant-loop-fill
invariant-loop-fill l =
    (l.fills.items ++ drop l.fill-index (take (8 - length l.fn.fills.items) l.fn.others) ≡ l.fn.fills.items ++ take (8 - length l.fn.fills.items) l.fn.others)
    × (length l.fills.items ≤ length l.fn.fills.items + l.fill-index)
