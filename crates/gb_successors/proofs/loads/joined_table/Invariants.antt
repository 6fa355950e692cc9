use Rattle.std.proofs.Common.{◌≡◌}
use Rattle.gb_ops.specs.Memory.{rom_byte}
use Rattle.gb_domain.specs.Interval.{bounds}
use Rattle.gb_product.specs.Below.gb_summaries.Below.gb_ram_bounds.Addresses.{is_in, joined_of}
use Rattle.gb_successors.proofs.loads.joined_table.Given as goal

abbrev pub invariant-loop-more : goal.invariant-loop-more
invariant-loop-more l =
    l.known ≡ joined_of (is_in l.fn.addresses) (λ a. bounds (rom_byte l.fn.rom l.fn.bank a) (rom_byte l.fn.rom l.fn.bank a)) l.fn.addresses.first l.more
