use Rattle.std.proofs.Common.{◌≡◌, ◌++◌, take}
use Rattle.std.specs.List.{flat_map}
use Rattle.gb_states.specs.WholeSpelling as spelled
use Rattle.gb_cert.proofs.spelled_whole.put_facts.Given as goal

abbrev pub invariant-loop-fact : goal.invariant-loop-fact
invariant-loop-fact l = l.out.items ≡ l.initial.out.items ++ flat_map spelled.fact (take l.fact-index l.facts)
