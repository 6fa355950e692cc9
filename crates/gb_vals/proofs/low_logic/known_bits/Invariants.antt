use Rattle.std.proofs.Common.{◌≡◌, ◌-◌}
use Rattle.gb_domain.specs.LowBits.{passing, count_passing}
use Rattle.gb_vals.specs.LowLogic.{is_known}
use Rattle.gb_vals.proofs.low_logic.known_bits.Given as goal

abbrev pub invariant-loop-bit : goal.invariant-loop-bit
invariant-loop-bit l =
    count_passing (is_known l.fn.deciding l.fn.left l.fn.right)
    ≡ passing (is_known l.fn.deciding l.fn.left l.fn.right) (8 - l.bit) l.bit
