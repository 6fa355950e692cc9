-- One value for each register (CPU registers and flags).
use Rattle.gb_ops.specs.declared.op.Register.{Register}
use Rattle.gb_ops.specs.declared.op.Register.TheVariants.{A, B, C, D, E, H, L}
use Rattle.gb_ops.specs.declared.registers.Registers.{Registers}

abbrev pub get : {X : Type 0} → Register → Registers X → X
get A s = s.a
get B s = s.b
get C s = s.c
get D s = s.d
get E s = s.e
get H s = s.h
get L s = s.l

abbrev pub set : {X : Type 0} → Register → X → Registers X → Registers X
set A v s = record s { a = v }
set B v s = record s { b = v }
set C v s = record s { c = v }
set D v s = record s { d = v }
set E v s = record s { e = v }
set H v s = record s { h = v }
set L v s = record s { l = v }
