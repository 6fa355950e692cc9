-- What an instruction leaves of the places that hold one byte, and what its flags then say of it (abstract interpretation: transfer
-- functions; own).
use Rattle.std.specs.Prelude.{ℕ, ◌+◌, ◌%◌, Bool, true, false, List, [], ◌∷◌, Option, Some, None, if◌then◌else◌}
use Rattle.gb_ops.specs.declared.op.Register.{Register}
use Rattle.gb_ops.specs.declared.op.Register.TheVariants.{A}
use Rattle.gb_ops.specs.declared.op.AluOp.{AluOp}
use Rattle.gb_ops.specs.declared.op.AluOp.TheVariants as alu
use Rattle.gb_ops.specs.declared.op.Operand.{Operand}
use Rattle.gb_ops.specs.declared.op.Operand.TheVariants as operand
use Rattle.gb_ops.specs.declared.op.Indirect.{Indirect}
use Rattle.gb_ops.specs.declared.op.Indirect.TheVariants as indirect
use Rattle.gb_ops.specs.declared.op.Op.{Op}
use Rattle.gb_ops.specs.declared.op.Op.TheVariants as op
use Rattle.gb_domain.specs.declared.places.StackBytes.{StackBytes}
use Rattle.gb_ops.specs.Registers.{get}
use Rattle.gb_ops.specs.Arithmetic.{mask_of}
use Rattle.gb_domain.specs.declared.low_bits.LowBits.{LowBits}
use Rattle.gb_domain.specs.declared.types.Val.{Val}
use Rattle.gb_domain.specs.declared.pairs.WordPair.TheVariants as words
use Rattle.gb_domain.specs.declared.places.Place.{Place}
use Rattle.gb_domain.specs.declared.places.Place.TheVariants as place
use Rattle.gb_domain.specs.declared.places.Test.{Test}
use Rattle.gb_domain.specs.declared.places.Test.TheVariants as test
use Rattle.gb_domain.specs.declared.places.OneByte.{OneByte}
use Rattle.gb_pairs.specs.Below.gb_vals.Vals.{is_single}
use Rattle.gb_domain.specs.declared.pairs.Bounds.{Bounds}
use Rattle.gb_pairs.specs.declared.values.Values.{Values}
use Rattle.gb_pairs.specs.Bounds.{bounds_of}
use Rattle.gb_copies.specs.Places.{without_register, without_addresses, without_test, only_tested, tested, tested_before_a}
use Rattle.gb_copies.specs.Copies.{copied}
use Rattle.gb_relations.specs.Places.{stored_at, loaded_at}
use Rattle.gb_relations.specs.PointedBits.{may_be_at}
use Rattle.gb_relations.specs.Written.{written, writes_flags, counted}

-- ---- addresses

-- an address alone
abbrev pub one : ℕ → Bounds
one a = record { first = a; last = a }

-- the addresses in a pair are its bounds
abbrev pub at_hl : Values → Bounds
at_hl v = bounds_of words.Hl v

abbrev pub at_indirect : Indirect → Values → Bounds
at_indirect indirect.Bc v = bounds_of words.Bc v
at_indirect indirect.De v = bounds_of words.De v
at_indirect indirect.HlIncrement v = at_hl v
at_indirect indirect.HlDecrement v = at_hl v

-- FF00 and what C may hold
abbrev pub at_high : Values → Bounds
at_high v = record { first = 0xFF00 + v.registers.c.lo; last = 0xFF00 + v.registers.c.hi }

-- ---- forgetting

abbrev pub without_registers : List Register → OneByte → OneByte
without_registers [] b = b
without_registers (r ∷ rest) b = without_registers rest (without_register r b)

abbrev pub may_meet : Option LowBits → Option ℕ → Bool
may_meet bits None = true
may_meet bits (Some a) = may_be_at bits a

-- one of the addresses was written, which has these low bits
abbrev pub without_all : Option LowBits → Bounds → OneByte → OneByte
without_all bits addresses b = if may_meet bits b.address then without_addresses addresses.first addresses.last b else b

abbrev pub without_test_if : Bool → OneByte → OneByte
without_test_if true b = without_test b
without_test_if false b = b

-- ---- copies

-- a register gets what a place holds, or what is known of no place
abbrev pub loaded : Register → Option Place → OneByte → OneByte
loaded to None b = without_register to b
loaded to (Some from) b = copied (place.Register to) from b

-- a register is stored at a place, or somewhere among addresses
abbrev pub stored : Option LowBits → Register → Bounds → Option Place → OneByte → OneByte
stored bits from addresses None b = without_all bits addresses b
stored bits from addresses (Some to) b = copied to (place.Register from) b

abbrev pub loaded_a : StackBytes → Bounds → OneByte → OneByte
loaded_a stack addresses b = loaded A (loaded_at stack addresses) b

abbrev pub stored_a : Option LowBits → StackBytes → Bounds → OneByte → OneByte
stored_a bits stack addresses b = stored bits A addresses (stored_at stack addresses) b

-- LD r,r; LD r,(HL); LD (HL),r
abbrev pub moved : Option LowBits → StackBytes → Operand → Operand → Values → OneByte → OneByte
moved bits stack (operand.Register to) (operand.Register from) v b = copied (place.Register to) (place.Register from) b
moved bits stack (operand.Register to) operand.AtHl v b = loaded to (loaded_at stack (at_hl v)) b
moved bits stack operand.AtHl (operand.Register from) v b = stored bits from (at_hl v) (stored_at stack (at_hl v)) b
moved bits stack operand.AtHl operand.AtHl v b = without_all bits (at_hl v) b

-- ---- tests

abbrev pub is_zero_test : Test
is_zero_test = test.Bits 255

-- Z says whether what was computed is 0
abbrev pub computed_at : Option LowBits → Option Place → Bounds → OneByte → OneByte
computed_at bits None addresses b = without_test (without_all bits addresses b)
computed_at bits (Some p) addresses b = only_tested p is_zero_test

abbrev pub computed : Option LowBits → StackBytes → Operand → Values → OneByte → OneByte
computed bits stack (operand.Register r) v b = only_tested (place.Register r) is_zero_test
computed bits stack operand.AtHl v b = computed_at bits (stored_at stack (at_hl v)) (at_hl v) b

abbrev pub bit_of : ℕ → Test
bit_of n = test.Bits (mask_of n)

abbrev pub bit_tested_at : Option Place → ℕ → OneByte → OneByte
bit_tested_at None n b = without_test b
bit_tested_at (Some p) n b = tested p (bit_of n) b

abbrev pub bit_tested : StackBytes → ℕ → Operand → Values → OneByte → OneByte
bit_tested stack n (operand.Register r) v b = tested (place.Register r) (bit_of n) b
bit_tested stack n operand.AtHl v b = bit_tested_at (loaded_at stack (at_hl v)) n b

abbrev pub place_a : Place
place_a = place.Register A

-- an operation of A with an operand, which may be known
abbrev pub of_a : AluOp → Option ℕ → OneByte → OneByte
of_a alu.Cp (Some n) b = tested place_a (test.Compare n) b
of_a alu.Cp None b = without_test b
of_a alu.Sub (Some n) b = tested_before_a (test.Compare n) b
of_a alu.And (Some m) b = tested_before_a (test.Bits m) b
of_a _ n b = only_tested place_a is_zero_test

-- the same with A itself
abbrev pub of_a_itself : AluOp → OneByte → OneByte
of_a_itself alu.And b = tested place_a (test.Compare 0) b
of_a_itself alu.Or b = tested place_a (test.Compare 0) b
of_a_itself alu.Cp b = without_test b
of_a_itself _ b = only_tested place_a is_zero_test

abbrev pub known : Val → Option ℕ
known v = if is_single v then Some v.lo else None

-- low is what was read at HL
abbrev pub of_a_with : AluOp → Operand → Values → Val → OneByte → OneByte
of_a_with how (operand.Register A) v low b = of_a_itself how b
of_a_with how (operand.Register r) v low b = of_a how (known (get r v.registers)) b
of_a_with how operand.AtHl v low b = of_a how (known low) b

-- ---- instructions

-- the places behind a taken instruction; the values are those before it, low is what it read at an address, and bits is what is known
-- of the low bits of an address that it stores at by a pointer
unfoldable pub byte_after : Option LowBits → StackBytes → Op → Values → Val → OneByte → OneByte
byte_after bits stack (op.StoreA to) v low b = without_registers (counted to) (stored_a bits stack (at_indirect to v) b)
byte_after bits stack (op.LoadA from) v low b = without_registers (counted from) (loaded_a stack (at_indirect from v) b)
byte_after bits stack (op.Increment which) v low b = computed bits stack which v b
byte_after bits stack (op.Decrement which) v low b = computed bits stack which v b
byte_after bits stack (op.LoadImmediate operand.AtHl n) v low b = without_all bits (at_hl v) b
byte_after bits stack (op.StoreSp w) v low b = without_all None (one ((w + 1) % 65536)) (without_all None (one w) b)
byte_after bits stack (op.Load to from) v low b = moved bits stack to from v b
byte_after bits stack (op.Alu how from) v low b = of_a_with how from v low b
byte_after bits stack (op.AluImmediate how n) v low b = of_a how (Some n) b
byte_after bits stack (op.StoreHigh n) v low b = stored_a None stack (one (0xFF00 + n)) b
byte_after bits stack (op.LoadHigh n) v low b = loaded_a stack (one (0xFF00 + n)) b
byte_after bits stack op.StoreHighC v low b = stored_a bits stack (at_high v) b
byte_after bits stack op.LoadHighC v low b = loaded_a stack (at_high v) b
byte_after bits stack (op.StoreAbsolute w) v low b = stored_a None stack (one w) b
byte_after bits stack (op.LoadAbsolute w) v low b = loaded_a stack (one w) b
byte_after bits stack (op.Shift how which) v low b = computed bits stack which v b
byte_after bits stack (op.Bit n which) v low b = bit_tested stack n which v b
byte_after bits stack (op.Reset n operand.AtHl) v low b = without_all bits (at_hl v) b
byte_after bits stack (op.Set n operand.AtHl) v low b = without_all bits (at_hl v) b
byte_after bits stack o v low b = without_test_if (writes_flags o) (without_registers (written o) b)
