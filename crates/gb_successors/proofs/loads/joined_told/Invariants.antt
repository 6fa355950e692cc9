use Rattle.std.proofs.Common.{◌≡◌}
use Rattle.gb_domain.specs.Values.{interval_of}
use Rattle.gb_product.specs.Below.gb_summaries.Below.gb_ram_bounds.Addresses.{is_in, joined_of}
use Rattle.gb_product.specs.Covering.{byte_in}
use Rattle.gb_abs_memory.specs.Access.{home_of}
use Rattle.gb_successors.proofs.loads.joined_told.Given as goal

abbrev pub invariant-loop-more : goal.invariant-loop-more
invariant-loop-more l =
    l.known ≡ joined_of (is_in l.fn.addresses) (λ a. interval_of (byte_in l.fn.program l.fn.values l.fn.cells l.fn.summary (home_of a))) l.fn.addresses.first l.more
