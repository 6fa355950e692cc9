-- What the rules of versions 1 and 2 know of several parts together: a comparison of A (own).
use Rattle.std.specs.Prelude.{ℕ, Bool, true, ◌||◌, Option, Some, None, if◌then◌else◌}
use Rattle.std.specs.List.{list_any}
use Rattle.gb_ops.specs.declared.op.Register.TheVariants.{A}
use Rattle.gb_ops.specs.declared.op.AluOp.TheVariants as alu
use Rattle.gb_ops.specs.declared.op.Operand.TheVariants as operand
use Rattle.gb_ops.specs.declared.op.Op.{Op}
use Rattle.gb_ops.specs.declared.op.Op.TheVariants as op
use Rattle.gb_domain.specs.declared.places.Place.TheVariants as place
use Rattle.gb_domain.specs.declared.places.Test.TheVariants as test
use Rattle.gb_domain.specs.declared.places.OneByte.{OneByte}
use Rattle.gb_domain.specs.Places.{no_byte}
use Rattle.gb_domain.specs.Places.{is_same_register}
use Rattle.gb_copies.specs.Places.{byte_at, only_tested}
use Rattle.gb_relations.specs.Written.{written, writes_flags}

-- what an instruction compares A with: CP its byte, AND and OR of A with itself 0
unfoldable pub comparison_of : Op → Option ℕ
comparison_of (op.AluImmediate alu.Cp n) = Some n
comparison_of (op.Alu alu.And (operand.Register A)) = Some 0
comparison_of (op.Alu alu.Or (operand.Register A)) = Some 0
comparison_of _ = None

-- it writes A; so does LD A,A
unfoldable pub writes_a : Op → Bool
writes_a (op.Load (operand.Register A) from) = true
writes_a o = list_any (is_same_register A) (written o)

-- what is said of A alone
unfoldable pub only_of_a : OneByte → OneByte
only_of_a b = if b.registers.a then record (byte_at (place.Register A)) { test = b.test } else no_byte

abbrev pub compared_by : Option ℕ → Op → OneByte → OneByte
compared_by (Some n) o b = only_tested (place.Register A) (test.Compare n)
compared_by None o b = if writes_flags o || writes_a o then no_byte else only_of_a b

-- a comparison of A, until A or the flags are written
unfoldable pub compared_after : Op → OneByte → OneByte
compared_after o b = compared_by (comparison_of o) o b
