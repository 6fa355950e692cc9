use Rattle.std.proofs.Common.{◌≡◌, ℕ, ◌<◌, map, get_or, refl, ap, ◌∙◌, arith}
use Rattle.std.proofs.lemmas.List.FromFn.{get_or-map-range_with_len}
use Rattle.std.specs.List.{range_with_len}
use Rattle.gb_ops.specs.Table.{row_of, row_in, table, prefixed_table}
use Rattle.gb_ops.specs.Machine.{length_of}
use Rattle.gb_effects.specs.declared.advance.TheConstants.{LENGTHS}
use Rattle.gb_effects.proofs.advance.length_of.Goals as goal

-- the table has the length of each instruction
table_is : LENGTHS ≡ map length_of (range_with_len 0 256)
unfolding length_of row_of row_in table prefixed_table
table_is = refl

read : (opcode : ℕ) → opcode < 256 → get_or LENGTHS opcode 0 ≡ length_of opcode
read opcode h = ap (λ t. get_or t opcode 0) table_is ∙ get_or-map-range_with_len length_of 0 256 opcode opcode 0 h (omega arith)

pub returns : goal.returns
returns c = rw c.from.ensures (read c.args.opcode (omega arith))
