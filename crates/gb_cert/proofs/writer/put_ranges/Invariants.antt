use Rattle.std.proofs.Common.{◌≡◌, ◌++◌, take}
use Rattle.std.specs.List.{flat_map}
use Rattle.gb_states.specs.Spelling as spelled
use Rattle.gb_cert.proofs.writer.put_ranges.Given as goal

abbrev pub invariant-loop-range : goal.invariant-loop-range
invariant-loop-range l = l.out.items ≡ l.initial.out.items ++ flat_map spelled.range (take l.range-index l.ranges)
