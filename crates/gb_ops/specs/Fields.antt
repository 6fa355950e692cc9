-- The opcode table by the octal digits of the opcode, as a decoder reads it.
use Rattle.std.specs.Prelude.{ℕ, ◌-◌, ◌*◌, ◌/◌, ◌%◌, ◌==◌, nat_lt, if◌then◌else◌, Option, Some, None}
use Rattle.gb_ops.specs.declared.op.Op.TheVariants as op
use Rattle.gb_ops.specs.declared.op.Row.{Row}
use Rattle.gb_ops.specs.Table.{row, either, at_hl, operand_of, pair_of, stack_pair_of, condition_of, indirect_of, alu_of, shift_of}

-- the rows 00 to 3F, by the octal digits of the opcode
abbrev pub low_block : ℕ → ℕ → ℕ → ℕ → Row
low_block y z byte word =
    if z == 0 then
    (if y == 0 then row op.Nop 1 1
    else (if y == 1 then row (op.StoreSp word) 3 5
    else (if y == 2 then row op.Stop 2 1
    else (if y == 3 then row (op.JumpRelative byte) 2 3
    else either (op.JumpRelativeIf (condition_of (y - 4)) byte) 2 3 2))))
    else (if z == 1 then (if y % 2 == 0 then row (op.LoadPair (pair_of (y / 2)) word) 3 3 else row (op.AddHl (pair_of (y / 2))) 1 2)
    else (if z == 2 then (if y % 2 == 0 then row (op.StoreA (indirect_of (y / 2))) 1 2 else row (op.LoadA (indirect_of (y / 2))) 1 2)
    else (if z == 3 then (if y % 2 == 0 then row (op.IncrementPair (pair_of (y / 2))) 1 2 else row (op.DecrementPair (pair_of (y / 2))) 1 2)
    else (if z == 4 then row (op.Increment (operand_of y)) 1 (at_hl y 3 1)
    else (if z == 5 then row (op.Decrement (operand_of y)) 1 (at_hl y 3 1)
    else (if z == 6 then row (op.LoadImmediate (operand_of y) byte) 2 (at_hl y 3 2)
    else
    (if y == 4 then row op.DecimalAdjust 1 1
    else (if y == 5 then row op.Complement 1 1
    else (if y == 6 then row op.SetCarry 1 1
    else (if y == 7 then row op.ComplementCarry 1 1
    else row (op.RotateA (shift_of y)) 1 1))))))))))

-- the rows C0 to FF but CB
abbrev pub high_block : ℕ → ℕ → ℕ → ℕ → Option Row
high_block y z byte word =
    if z == 0 then
    (if y == 4 then Some (row (op.StoreHigh byte) 2 3)
    else (if y == 5 then Some (row (op.AddSp byte) 2 4)
    else (if y == 6 then Some (row (op.LoadHigh byte) 2 3)
    else (if y == 7 then Some (row (op.LoadHlSp byte) 2 3)
    else Some (either (op.ReturnIf (condition_of y)) 1 5 2)))))
    else (if z == 1 then
    (if y % 2 == 0 then Some (row (op.Pop (stack_pair_of (y / 2))) 1 3)
    else (if y / 2 == 0 then Some (row op.Return 1 4)
    else (if y / 2 == 1 then Some (row op.ReturnFromInterrupt 1 4)
    else (if y / 2 == 2 then Some (row op.JumpHl 1 1)
    else Some (row op.LoadSpHl 1 2)))))
    else (if z == 2 then
    (if y == 4 then Some (row op.StoreHighC 1 2)
    else (if y == 5 then Some (row (op.StoreAbsolute word) 3 4)
    else (if y == 6 then Some (row op.LoadHighC 1 2)
    else (if y == 7 then Some (row (op.LoadAbsolute word) 3 4)
    else Some (either (op.JumpIf (condition_of y) word) 3 4 3)))))
    else (if z == 3 then
    (if y == 0 then Some (row (op.Jump word) 3 4)
    else (if y == 6 then Some (row op.DisableInterrupts 1 1)
    else (if y == 7 then Some (row op.EnableInterrupts 1 1)
    else None)))
    else (if z == 4 then (if nat_lt y 4 then Some (either (op.CallIf (condition_of y) word) 3 6 3) else None)
    else (if z == 5 then
    (if y % 2 == 0 then Some (row (op.Push (stack_pair_of (y / 2))) 1 4)
    else (if y == 1 then Some (row (op.Call word) 3 6) else None))
    else (if z == 6 then Some (row (op.AluImmediate (alu_of y) byte) 2 2)
    else Some (row (op.Restart (8 * y)) 1 4)))))))

-- the rows behind the prefix CB
abbrev pub prefixed_block : ℕ → ℕ → ℕ → Row
prefixed_block x y z =
    if x == 0 then row (op.Shift (shift_of y) (operand_of z)) 2 (at_hl z 4 2)
    else (if x == 1 then row (op.Bit y (operand_of z)) 2 (at_hl z 3 2)
    else (if x == 2 then row (op.Reset y (operand_of z)) 2 (at_hl z 4 2)
    else row (op.Set y (operand_of z)) 2 (at_hl z 4 2)))

-- all rows but CB's, by the digits of the opcode
abbrev pub unprefixed : ℕ → ℕ → ℕ → Option Row
unprefixed opcode byte word =
    if opcode / 64 == 0 then Some (low_block (opcode / 8 % 8) (opcode % 8) byte word)
    else (if opcode / 64 == 1 then
    (if opcode == 0x76 then Some (row op.Halt 1 1)
    else Some (row (op.Load (operand_of (opcode / 8 % 8)) (operand_of (opcode % 8))) 1
    (at_hl (opcode / 8 % 8) 2 (at_hl (opcode % 8) 2 1))))
    else (if opcode / 64 == 2 then Some (row (op.Alu (alu_of (opcode / 8 % 8)) (operand_of (opcode % 8))) 1 (at_hl (opcode % 8) 2 1))
    else high_block (opcode / 8 % 8) (opcode % 8) byte word))
