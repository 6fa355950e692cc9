-- Each instruction takes an M-cycle at least.
use Rattle.std.proofs.Common.{ℕ, ◌+◌, ◌*◌, ◌/◌, ◌≤◌, ◌-◌, Bool, true, false, ◌==◌, if◌then◌else◌, List, [], ◌∷◌, slice_index, Option, Some, None, arith}
use Rattle.std.specs.Prelude.{IfSome}
use Rattle.gb_ops.specs.declared.op.Row.{Row}
use Rattle.gb_ops.specs.Table.{Line, table, prefixed_table, row_in, row_of, decoded, at_hl, has}
use Rattle.gb_ops.specs.Machine.{BusState, cycles_of}
use Rattle.gb_ops.specs.Accesses.{row_cycles, executed_cycles}

-- a row takes an M-cycle at least, its condition met or not
record IsPositive (row : Row) : Type 0 where
  taken : 1 ≤ row.cycles
  not_taken : 1 ≤ row.cycles_not_taken

abbrev ArePositive : List Line → Type 0
ArePositive [] = Unit {0}
ArePositive (line ∷ lines) = ((k b w : ℕ) → IsPositive (line.row_at k b w)) × ArePositive lines

either_positive : (b : Bool) (m n : ℕ) → 1 ≤ m → 1 ≤ n → 1 ≤ (if b then m else n)
either_positive true m n hm hn = hm
either_positive false m n hm hn = hn

at_hl_positive : (field memory cycles : ℕ) → 1 ≤ memory → 1 ≤ cycles → 1 ≤ at_hl field memory cycles
at_hl_positive field memory cycles m c = either_positive (field == 6) memory cycles m c

table_positive : ArePositive table
unfolding table
table_positive = search (arith, at_hl_positive)

prefixed_positive : ArePositive prefixed_table
unfolding prefixed_table
prefixed_positive = search (arith, at_hl_positive)

found_row : (b : Bool) (row : Row) (rest : Option Row) → IsPositive row → IfSome rest IsPositive → IfSome (elim b [ true ↦ Some row | false ↦ rest ]) IsPositive
found_row true row rest p r = p
found_row false row rest p r = r

found_in : (lines : List Line) (opcode b w : ℕ) → ArePositive lines → IfSome (row_in lines opcode b w) IsPositive
unfolding row_in
found_in [] opcode b w p = tt
found_in (line ∷ lines) opcode b w p =
    found_row (has line opcode) (line.row_at ((opcode - line.first) / line.apart) b w) (row_in lines opcode b w)
    (p.0 ((opcode - line.first) / line.apart) b w) (found_in lines opcode b w p.1)

either_row : (b : Bool) (x y : Option Row) → IfSome x IsPositive → IfSome y IsPositive → IfSome (elim b [ true ↦ x | false ↦ y ]) IsPositive
either_row true x y hx hy = hx
either_row false x y hx hy = hy

row_of_positive : (opcode low high : ℕ) → IfSome (row_of opcode low high) IsPositive
unfolding row_of
row_of_positive opcode low high =
    either_row (opcode == 0xCB) (row_in prefixed_table low 0 0) (row_in table opcode low (low + 256 * high))
    (found_in prefixed_table low 0 0 prefixed_positive) (found_in table opcode low (low + 256 * high) table_positive)

taken_positive : (row : Row) (is_taken : Bool) → IsPositive row → 1 ≤ cycles_of row is_taken
taken_positive row true p = p.taken
taken_positive row false p = p.not_taken

row_positive : (row : Option Row) (s : BusState) (reads : List ℕ) → IfSome row IsPositive → 1 ≤ row_cycles row s reads
unfolding executed_cycles
row_positive None s reads p = omega arith
row_positive (Some row) s reads p = taken_positive row _ p

-- an instruction takes an M-cycle at least
pub run_positive : (bytes : List ℕ) (s : BusState) (reads : List ℕ) → 1 ≤ row_cycles (decoded bytes) s reads
run_positive bytes s reads = row_positive (decoded bytes) s reads (row_of_positive (slice_index bytes 0) (slice_index bytes 1) (slice_index bytes 2))
