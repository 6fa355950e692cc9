-- Where an instruction goes on, and whether it moves the stack pointer (CPU instruction set: jumps and
-- subroutines, stack operations; own).
use Rattle.std.specs.Prelude.{ℕ, Bool, true, false, if◌then◌else◌}
use Rattle.gb_ops.specs.declared.op.Pair.{Pair}
use Rattle.gb_ops.specs.declared.op.Pair.TheVariants as pair
use Rattle.gb_ops.specs.declared.op.Op.{Op}
use Rattle.gb_ops.specs.declared.op.Op.TheVariants as op
use Rattle.gb_ops.specs.Arithmetic.{displaced}
use Rattle.gb_domain.specs.declared.types.Core.{Core}
use Rattle.gb_domain.specs.declared.types.Halves.{Halves}
use Rattle.gb_abs_effects.specs.declared.targets.Target.{Target}
use Rattle.gb_abs_effects.specs.declared.targets.Target.TheVariants as target
use Rattle.gb_abs_effects.specs.Pairs.{is_word_known, least_word, pair_halves}

-- the address in a pair, where it is known
abbrev pub word_target : Halves → Target
word_target w = if is_word_known w then target.At (least_word w) else target.Unknown

-- where a taken instruction goes on, next being the address behind it
unfoldable pub target_of : Op → ℕ → Core → Target
target_of (op.JumpRelative e8) next s = target.At (displaced next e8)
target_of (op.JumpRelativeIf condition e8) next s = target.At (displaced next e8)
target_of (op.ReturnIf condition) next s = target.Return
target_of op.Return next s = target.Return
target_of op.ReturnFromInterrupt next s = target.Return
target_of (op.JumpIf condition w) next s = target.At w
target_of (op.Jump w) next s = target.At w
target_of (op.CallIf condition w) next s = target.Call w
target_of (op.Call w) next s = target.Call w
target_of (op.Restart w) next s = target.Call w
target_of op.JumpHl next s = word_target (pair_halves pair.Hl s)
target_of _ next s = target.At next

abbrev pub is_sp : Pair → Bool
is_sp pair.Sp = true
is_sp _ = false

-- SP may be another one behind the instruction
abbrev pub moves_sp : Op → Bool
moves_sp (op.LoadPair to w) = is_sp to
moves_sp (op.IncrementPair which) = is_sp which
moves_sp (op.DecrementPair which) = is_sp which
moves_sp (op.ReturnIf condition) = true
moves_sp op.Return = true
moves_sp op.ReturnFromInterrupt = true
moves_sp (op.Pop to) = true
moves_sp (op.Push from) = true
moves_sp (op.CallIf condition w) = true
moves_sp (op.Call w) = true
moves_sp (op.Restart w) = true
moves_sp (op.AddSp e8) = true
moves_sp op.LoadSpHl = true
moves_sp _ = false

-- the word goes on its own procedure's stack
abbrev pub is_push : Op → Bool
is_push (op.Push from) = true
is_push _ = false

abbrev pub is_pop : Op → Bool
is_pop (op.Pop to) = true
is_pop _ = false

-- the address behind it goes on the stack, if it is taken
abbrev pub is_call : Op → Bool
is_call (op.CallIf condition w) = true
is_call (op.Call w) = true
is_call (op.Restart w) = true
is_call _ = false

-- it goes on at the word on top of the stack, if it is taken
abbrev pub is_return : Op → Bool
is_return (op.ReturnIf condition) = true
is_return op.Return = true
is_return op.ReturnFromInterrupt = true
is_return _ = false
