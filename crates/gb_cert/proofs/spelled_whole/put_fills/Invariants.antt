use Rattle.std.proofs.Common.{◌≡◌, ◌++◌, take}
use Rattle.std.specs.List.{flat_map}
use Rattle.gb_states.specs.WholeSpelling as spelled
use Rattle.gb_cert.proofs.spelled_whole.put_fills.Given as goal

abbrev pub invariant-loop-fill : goal.invariant-loop-fill
invariant-loop-fill l = l.out.items ≡ l.initial.out.items ++ flat_map spelled.fill (take l.fill-index l.fills)
