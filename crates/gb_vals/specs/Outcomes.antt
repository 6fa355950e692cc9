-- What an operation may give, and the outcome of operations on known operands (own).
use Rattle.gb_ops.specs.declared.machine.Computed.{Computed}
use Rattle.gb_vals.specs.declared.outcome.AbsComputed.{AbsComputed}
use Rattle.gb_vals.specs.Vals.{single}
use Rattle.gb_vals.specs.Flags.{known_flags}

-- what the machine computes, and nothing else
abbrev pub exact : Computed → AbsComputed
exact c = record { val = single c.value; flags = known_flags c.flags }
