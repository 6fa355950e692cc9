-- What an instruction does to the stack (CPU instruction set: stack manipulation instructions; own rules: SP, version 3).
use Rattle.std.specs.Prelude.{ℕ, ◌+◌, ◌-◌, ◌%◌, Bool, true, not, ◌&&◌, if◌then◌else◌, nat_lt, nat_le, [], map, length, Option, Some, None}
use Rattle.gb_ops.specs.declared.op.Pair.TheVariants as pair
use Rattle.gb_ops.specs.declared.op.Op.{Op}
use Rattle.gb_ops.specs.declared.op.Op.TheVariants as op
use Rattle.gb_ops.specs.declared.registers.Registers.{Registers}
use Rattle.gb_domain.specs.declared.pairs.Bounds.{Bounds}
use Rattle.gb_domain.specs.declared.rules.Rules.{Rules}
use Rattle.gb_domain.specs.declared.rules.Rules.TheVariants.{Simple, Extended}
use Rattle.gb_domain.specs.declared.setting.Setting.{Setting}
use Rattle.gb_domain.specs.declared.types.Core.{Core}
use Rattle.gb_domain.specs.declared.types.Halves.{Halves}
use Rattle.gb_domain.specs.declared.types.Origin.TheVariants.{MarkHigh, MarkLow}
use Rattle.gb_domain.specs.declared.types.Val.{Val}
use Rattle.gb_domain.specs.Types.{AbsState}
use Rattle.gb_domain.specs.Limits.{item_room}
use Rattle.gb_domain.specs.Settings.{known_base}
use Rattle.gb_product.specs.Below.gb_abs.Bytes.{without_newest, with_any_bytes, resized}
use Rattle.gb_product.specs.Below.gb_abs.Origins.{is_own, core_without_origins, cell_without_origin}
use Rattle.gb_product.specs.Below.gb_abs.Stack.{pushed}
use Rattle.gb_product.specs.Below.gb_abs_effects.declared.writes.AbsWrite.{AbsWrite}
use Rattle.gb_product.specs.Below.gb_abs_effects.declared.writes.AbsWrite.TheVariants as write
use Rattle.gb_domain.specs.declared.types.ImeSet.{ImeSet}
use Rattle.gb_successors.specs.declared.stacks.Around.{Around}
use Rattle.gb_successors.specs.declared.stacks.Stack.{Stack}
use Rattle.gb_successors.specs.declared.stacks.StackMove.{StackMove}
use Rattle.gb_successors.specs.declared.stacks.StackMove.TheVariants as move

-- ---- setting SP

-- the bytes from an address up to a base, where so many may be held
abbrev pub bytes_to : ℕ → ℕ → ℕ → Option ℕ
bytes_to base need a = if nat_le a base && nat_le (base - a) need && nat_le (base - a) 255 then Some (base - a) else None

abbrev pub bytes_to_if : Option ℕ → ℕ → ℕ → Option ℕ
bytes_to_if None need a = None
bytes_to_if (Some base) need a = bytes_to base need a

-- how many bytes of its own a procedure holds with SP at an address
abbrev pub own_bytes : Stack → ℕ → Option ℕ
own_bytes k a = bytes_to_if (known_base k.setting) k.need a

-- how many main holds, seen from another procedure
abbrev pub main_bytes : Stack → ℕ → Option ℕ
main_bytes k a = if k.setting.is_main then None else bytes_to (k.region.last + 1) k.main_need a

abbrev pub restart_by : Option ℕ → StackMove
restart_by None = move.Lost
restart_by (Some n) = move.Restart n

abbrev pub set_by : Option ℕ → Option ℕ → StackMove
set_by (Some n) main = move.Set n
set_by None main = restart_by main

-- SP becomes a known address: by the rules of versions 1 and 2 nothing is on the stack then; by those of version 3 it is one of
-- the procedure's own, or one of main's, where all begins anew
abbrev pub set_to : Rules → Stack → ℕ → StackMove
set_to Simple k a = move.Set 0
set_to Extended k a = set_by (own_bytes k a) (main_bytes k a)

-- ---- a stack that is put aside (own: version 4)

-- interrupts are off
abbrev pub is_off_alone : ImeSet → Bool
is_off_alone i = i.off && (not i.pending && not i.on)

-- the address so many bytes below a base
abbrev pub address_below : ℕ → ℕ → ℕ
address_below base n = (base + (65536 - n)) % 65536

-- HL is the address of the mark
abbrev pub is_mark : Registers Val → Bool
is_mark r = is_own MarkHigh r.h && is_own MarkLow r.l

-- how many bytes are held where SP comes back to the mark, by HL: the stack is set, and the procedure may hold them
abbrev pub held_at_mark : Stack → Core → Option ℕ
held_at_mark k core =
    if core.stack_set && (is_mark core.registers && (nat_le k.mark k.need && nat_le k.mark 255)) then Some k.mark else None

-- where SP is put aside before an instruction, whether it may be behind it: the stack is set, and interrupts are off; and whether
-- HL, with what is known before it, is where SP comes back to
unfoldable pub around_of : Stack → AbsState → Core → Around
around_of k s core =
    record {
      aside = s.summary.aside;
      may_leave = k.setting.is_whole && (s.core.stack_set && is_off_alone s.core.ime);
      back = if k.setting.is_whole then held_at_mark k core else None;
    }

-- where SP would be lost within bounds, it is put aside there
abbrev pub aside_if : StackMove → Bool → Bounds → StackMove
aside_if move.Lost true b = move.Aside b
aside_if m may b = m

abbrev pub aside_within : StackMove → Bool → Option Bounds → StackMove
aside_within m may None = m
aside_within m may (Some b) = aside_if m may b

-- by the rules of version 4 SP comes back to where so many bytes are held
abbrev pub back_or : Rules → Option ℕ → StackMove → StackMove
back_or Extended (Some n) m = move.Set n
back_or rules back m = m

-- behind a word at an address within bounds
abbrev pub behind_word : Bounds → Bounds
behind_word b = if nat_lt b.first 0xFFFE && nat_lt b.last 0xFFFE then record { first = b.first + 2; last = b.last + 2 } else record { first = 0; last = 0xFFFF }

-- put aside, SP passes a word; else a word is taken off
abbrev pub popped_by : Rules → Option Bounds → StackMove
popped_by Extended (Some b) = move.Aside (behind_word b)
popped_by rules aside = move.Take 2

-- SP becomes an address with these bounds
abbrev pub set_within : Stack → Option Bounds → StackMove
set_within k None = move.Stay
set_within k (Some b) = if nat_lt b.first b.last then move.Lost else set_to k.setting.rules k b.first

-- ---- the move

-- what the rules of version 3 alone follow
abbrev pub extended : Rules → StackMove → StackMove
extended Simple m = move.Stay
extended Extended m = m

-- the signed number e8 moves SP
abbrev pub displaced_by : ℕ → StackMove
displaced_by e8 = if nat_lt e8 128 then move.Take e8 else move.Append (256 - e8)

-- a word that is written on the stack
abbrev pub push_of : AbsWrite → StackMove
push_of (write.Push high low) = move.Push (record { high = high; low = low })
push_of _ = move.Stay

-- what an instruction does to the stack that writes so, from states around it; where it takes an address of HL, that has the bounds. By the rules of
-- versions 1 and 2 a return address belongs to the callee, and SP is what PUSH, POP and LD SP,n16 make of it.
unfoldable pub stack_move : Stack → Around → Op → AbsWrite → Option Bounds → StackMove
stack_move k g (op.LoadPair pair.Sp w) what hl = aside_if (set_to k.setting.rules k w) g.may_leave (record { first = w; last = w })
stack_move k g op.LoadSpHl what hl = back_or k.setting.rules g.back (aside_within (set_within k hl) g.may_leave hl)
stack_move k g (op.Push from) what hl = push_of what
stack_move k g (op.Pop to) what hl = popped_by k.setting.rules g.aside
stack_move k g (op.IncrementPair pair.Sp) what hl = extended k.setting.rules (move.Take 1)
stack_move k g (op.DecrementPair pair.Sp) what hl = extended k.setting.rules (move.Append 1)
stack_move k g (op.AddSp e8) what hl = extended k.setting.rules (displaced_by e8)
stack_move k g (op.CallIf condition w) what hl = extended k.setting.rules (push_of what)
stack_move k g (op.Call w) what hl = extended k.setting.rules (push_of what)
stack_move k g (op.Restart w) what hl = extended k.setting.rules (push_of what)
stack_move k g (op.ReturnIf condition) what hl = extended k.setting.rules (move.Take 2)
stack_move k g op.Return what hl = extended k.setting.rules (move.Take 2)
stack_move k g op.ReturnFromInterrupt what hl = extended k.setting.rules (move.Take 2)
stack_move k g _ what hl = move.Stay

-- ---- what it leaves

-- a word is pushed, where there is room for it; what pushes more is refused
unfoldable pub pushed_if_room : Setting → Halves → AbsState → AbsState
pushed_if_room z w s = if nat_lt (item_room z.rules) (length s.items + 2) then s else pushed w s

-- bytes of any value are put on, where there is room for them
unfoldable pub appended_if_room : Setting → ℕ → AbsState → AbsState
appended_if_room z n s = if nat_lt (item_room z.rules) (length s.items + n) then s else with_any_bytes n s

-- the stack is set with so many bytes, where there is room for them
unfoldable pub set_if_room : Setting → ℕ → AbsState → AbsState
set_if_room z n s = if nat_lt (item_room z.rules) n then s else resized n s

-- SP is put aside within bounds, or isn't
abbrev pub with_aside : Option Bounds → AbsState → AbsState
with_aside b s = record s { summary = record s.summary { aside = b } }

-- nothing is on the stack, and nothing a copy of what a procedure held as it was entered
abbrev pub begun_anew : AbsState → AbsState
begun_anew s = record s { core = core_without_origins s.core; items = []; cells = map cell_without_origin s.cells }

-- the stack and the states that it stands in, moved
unfoldable pub with_stack_moved : Setting → StackMove → AbsState → AbsState
with_stack_moved z move.Stay s = s
with_stack_moved z (move.Push w) s = pushed_if_room z w s
with_stack_moved z (move.Take n) s = without_newest n s
with_stack_moved z (move.Append n) s = appended_if_room z n s
with_stack_moved z (move.Set n) s = set_if_room z n (with_aside None s)
with_stack_moved z (move.Restart n) s = set_if_room z n (begun_anew (with_aside None s))
with_stack_moved z (move.Aside b) s = with_aside (Some b) s
with_stack_moved z move.Lost s = s

-- the stack is set
abbrev pub core_set : Core → Core
core_set core = record core { stack_set = true }

-- how many of so many items are held then, as far as there is room
abbrev pub in_room : Rules → ℕ → ℕ → ℕ
in_room rules more count = if nat_lt (item_room rules) more then count else more

abbrev pub count_behind : Rules → StackMove → ℕ → ℕ
count_behind rules (move.Push w) count = in_room rules (count + 2) count
count_behind rules (move.Take n) count = count - n
count_behind rules (move.Append n) count = in_room rules (count + n) count
count_behind rules (move.Set n) count = in_room rules n count
count_behind rules (move.Restart n) count = in_room rules n 0
count_behind rules _ count = count

-- what it makes of the core
unfoldable pub moved_core : StackMove → Core → Core
moved_core (move.Set n) core = core_set core
moved_core (move.Restart n) core = core_set (core_without_origins core)
moved_core _ core = core
