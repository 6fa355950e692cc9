-- An instruction's byte in memory is where its pointer points, and what it stores is its register's byte.
use Rattle.std.proofs.Common.{refl}
use Rattle.gb_ops.specs.declared.op.Operand.TheVariants as operand
use Rattle.gb_ops.specs.declared.op.Indirect.TheVariants as indirect
use Rattle.gb_ops.specs.declared.op.Op.TheVariants as op
use Rattle.gb_ops.specs.Pairs.{pair_value}
use Rattle.gb_ops.specs.Effects.{read_of, effect_of, operand_read, operand_value, store_operand, update_operand, update_a, indirect_address}
use Rattle.gb_ops.specs.Pointers.{pointed, pointer_of, indirect_pointer, operand_pointer, either_pointer, high_register, low_register, byte_or_page, register_stored, stored_of, ReadsAt, WritesAt, WritesByte, GoesByPointers, StoresRegisters}

pub follows : GoesByPointers
unfolding pointer_of indirect_pointer operand_pointer either_pointer pointed high_register low_register byte_or_page read_of effect_of operand_read operand_value store_operand update_operand update_a indirect_address pair_value ReadsAt WritesAt
follows (op.StoreA indirect.Bc) p low high = (tt, refl)
follows (op.StoreA indirect.De) p low high = (tt, refl)
follows (op.StoreA indirect.HlIncrement) p low high = (tt, refl)
follows (op.StoreA indirect.HlDecrement) p low high = (tt, refl)
follows (op.LoadA indirect.Bc) p low high = (refl, tt)
follows (op.LoadA indirect.De) p low high = (refl, tt)
follows (op.LoadA indirect.HlIncrement) p low high = (refl, tt)
follows (op.LoadA indirect.HlDecrement) p low high = (refl, tt)
follows (op.Increment operand.AtHl) p low high = (refl, refl)
follows (op.Increment (operand.Register which)) p low high = tt
follows (op.Decrement operand.AtHl) p low high = (refl, refl)
follows (op.Decrement (operand.Register which)) p low high = tt
follows (op.LoadImmediate operand.AtHl v) p low high = (tt, refl)
follows (op.LoadImmediate (operand.Register which) v) p low high = tt
follows (op.Load operand.AtHl (operand.Register from)) p low high = (tt, refl)
follows (op.Load operand.AtHl operand.AtHl) p low high = (refl, refl)
follows (op.Load (operand.Register to) operand.AtHl) p low high = (refl, tt)
follows (op.Load (operand.Register to) (operand.Register from)) p low high = tt
follows (op.Alu how operand.AtHl) p low high = (refl, tt)
follows (op.Alu how (operand.Register from)) p low high = tt
follows op.StoreHighC p low high = (tt, refl)
follows op.LoadHighC p low high = (refl, tt)
follows (op.Shift how operand.AtHl) p low high = (refl, refl)
follows (op.Shift how (operand.Register which)) p low high = tt
follows (op.Bit n operand.AtHl) p low high = (refl, tt)
follows (op.Bit n (operand.Register which)) p low high = tt
follows (op.Reset n operand.AtHl) p low high = (refl, refl)
follows (op.Reset n (operand.Register which)) p low high = tt
follows (op.Set n operand.AtHl) p low high = (refl, refl)
follows (op.Set n (operand.Register which)) p low high = tt
follows _ p low high = tt

pub stores : StoresRegisters
unfolding stored_of register_stored effect_of operand_value store_operand WritesByte
stores (op.StoreA to) p low high = refl
stores (op.Load operand.AtHl (operand.Register from)) p low high = refl
stores (op.Load operand.AtHl operand.AtHl) p low high = tt
stores (op.Load (operand.Register to) from) p low high = tt
stores (op.StoreHigh b) p low high = refl
stores op.StoreHighC p low high = refl
stores (op.StoreAbsolute w) p low high = refl
stores _ p low high = tt
