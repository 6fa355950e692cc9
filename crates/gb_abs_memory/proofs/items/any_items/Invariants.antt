use Rattle.std.proofs.Common.{◌≡◌, replicate}
use Rattle.gb_abs.specs.Below.gb_vals.Vals.{any_val}
use Rattle.gb_abs_memory.proofs.items.any_items.Given as goal

abbrev pub invariant-loop : goal.invariant-loop
invariant-loop l = l.items.items ≡ replicate l.index any_val
