use Rattle.std.proofs.Common.{◌≡◌, ◌+◌, drop}
use Rattle.gb_ram_bounds.specs.Facts.{unbroken}
use Rattle.gb_ram_bounds.proofs.facts.unbroken.Given as goal

abbrev pub invariant-loop-number : goal.invariant-loop-number
invariant-loop-number l =
    unbroken l.fn.stored l.fn.value l.fn.facts ≡ l.number + unbroken l.fn.stored l.fn.value (drop l.number l.fn.facts)
