-- Operations on abstract states: each follows a change of the machine (abstract interpretation: transfer functions).
use Rattle.std.specs.Prelude.{ℕ, ◌-◌, Bool, false, ◌||◌, if◌then◌else◌}
use Rattle.gb_ops.specs.declared.op.Register.{Register}
use Rattle.gb_ops.specs.Registers.{get, set}
use Rattle.gb_domain.specs.declared.types.Val.{Val}
use Rattle.gb_domain.specs.declared.types.ImeSet.{ImeSet}
use Rattle.gb_domain.specs.declared.types.Core.{Core}
use Rattle.gb_domain.specs.Types.{AbsState}

-- a register gets a value
unfoldable pub core_set_register : Register → Val → Core → Core
core_set_register r v s = record s { registers = set r v s.registers }

abbrev pub ime_set_after : ImeSet → ImeSet
ime_set_after s = record { off = s.off; pending = false; on = s.pending || s.on }

-- a register's bounds become one value of them; what it is a copy of and the flags stay
unfoldable pub core_with_value : Register → ℕ → Core → Core
core_with_value r n s = record s { registers = set r (record (get r s.registers) { lo = n; hi = n; low_bits = 0 }) s.registers }

-- an instruction was executed: pending interrupts become on
unfoldable pub core_settle : Core → Core
core_settle s = record s { ime = ime_set_after s.ime }

-- an instruction of n M-cycles has ended: where it started an OAM transfer, that runs from now on
unfoldable pub core_end : Bool → ℕ → Core → Core
core_end starts n s = if starts then record s { bound = 161 } else record s { bound = s.bound - n }

-- a state with another core: all else stays
abbrev pub with_core : AbsState → Core → AbsState
with_core s core = record s { core = core }
