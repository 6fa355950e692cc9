use Rattle.std.proofs.Common.{◌≡◌, ◌-◌}
use Rattle.gb_domain.specs.LowBits.{is_common, passing, count_passing}
use Rattle.gb_domain.proofs.low_bits.count_common.Given as goal

abbrev pub invariant-loop-bit : goal.invariant-loop-bit
invariant-loop-bit l =
    count_passing (is_common l.fn.left l.fn.right) ≡ passing (is_common l.fn.left l.fn.right) (8 - l.bit) l.bit
