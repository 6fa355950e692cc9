use Rattle.std.proofs.Common.{◌≡◌, ℕ, ◌<◌, map, get_or, refl, ap, ◌∙◌, arith}
use Rattle.std.proofs.lemmas.List.FromFn.{get_or-map-range_with_len}
use Rattle.std.specs.List.{range_with_len}
use Rattle.gb_ops.specs.Table.{row_in, table, operand_of, indirect_of}
use Rattle.gb_faults.specs.declared.touch.TheConstants.{TOUCHES}
use Rattle.gb_faults.specs.declared.touch.Touch.TheVariants as touch
use Rattle.gb_faults.specs.Touch.{opcode_touch}
use Rattle.gb_faults.proofs.touch.touch_of.Goals as goal

-- the table has where the instructions of each opcode touch memory
table_is : TOUCHES ≡ map opcode_touch (range_with_len 0 256)
unfolding opcode_touch row_in table operand_of indirect_of
table_is = refl

read : (opcode : ℕ) → opcode < 256 → get_or TOUCHES opcode touch.Nothing ≡ opcode_touch opcode
read opcode h = ap (λ t. get_or t opcode touch.Nothing) table_is ∙ get_or-map-range_with_len opcode_touch 0 256 opcode opcode touch.Nothing h (omega arith)

pub returns : goal.returns
returns c = rw c.from.ensures (read c.args.opcode (omega arith))
