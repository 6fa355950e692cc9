use Rattle.std.proofs.Common.{◌≡◌, drop}
use Rattle.gb_ram_bounds.specs.Fills.{cut_by_fills}
use Rattle.gb_ram_bounds.proofs.fills.cut_in_turn.Given as goal

abbrev pub invariant-loop-fill : goal.invariant-loop-fill
invariant-loop-fill l =
    cut_by_fills l.fn.pointers l.fn.fills l.fn.address l.fn.value ≡ cut_by_fills l.fn.pointers (drop l.fill-index l.fn.fills) l.fn.address l.value
