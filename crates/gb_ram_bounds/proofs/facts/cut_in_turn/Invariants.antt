use Rattle.std.proofs.Common.{◌≡◌, drop}
use Rattle.gb_ram_bounds.specs.Facts.{cut_by_facts}
use Rattle.gb_ram_bounds.proofs.facts.cut_in_turn.Given as goal

abbrev pub invariant-loop-fact : goal.invariant-loop-fact
invariant-loop-fact l =
    cut_by_facts l.fn.facts l.fn.address l.fn.value ≡ cut_by_facts (drop l.fact-index l.fn.facts) l.fn.address l.value
