-- When a node is right: the reasons against it, each a test, and the lowest that applies (own rules).
use Rattle.std.specs.Prelude.{ℕ, ◌+◌, ◌-◌, Bool, true, false, not, ◌&&◌, ◌||◌, ◌==◌, if◌then◌else◌, nat_lt, List, [], ◌∷◌, length, find, slice_get, Option, Some, None, is_none, is_some, option_and_then}
use Rattle.gb_ops.specs.declared.machine.Region.{Region}
use Rattle.gb_ops.specs.declared.op.Pair.TheVariants as pair
use Rattle.gb_ops.specs.declared.op.Op.{Op}
use Rattle.gb_ops.specs.declared.op.Op.TheVariants as op
use Rattle.gb_ops.specs.declared.op.Row.{Row}
use Rattle.gb_ops.specs.Cartridge.{kind_of}
use Rattle.gb_ops.specs.Machine.{vector}
use Rattle.gb_ops.specs.Table.{decoded}
use Rattle.gb_successors.specs.Below.gb_domain.declared.types.Core.{Core}
use Rattle.gb_successors.specs.Below.gb_domain.declared.rules.Rules.{Rules}
use Rattle.gb_successors.specs.Below.gb_domain.declared.rules.Rules.TheVariants.{Simple, Extended}
use Rattle.gb_successors.specs.Below.gb_domain.declared.pairs.Bounds.{Bounds}
use Rattle.gb_successors.specs.Below.gb_domain.declared.setting.Setting.{Setting}
use Rattle.gb_successors.specs.Below.gb_domain.Limits.{rules_of, item_room}
use Rattle.gb_successors.specs.Below.gb_domain.Summaries.{Program}
use Rattle.gb_successors.specs.Below.gb_domain.Types.{AbsState, Node}
use Rattle.gb_successors.specs.Below.gb_domain.Certificate.{Certificate}
use Rattle.gb_successors.specs.Below.gb_abs.declared.reason.Reason.{Reason}
use Rattle.gb_successors.specs.Below.gb_abs.declared.reason.Reason.TheVariants as reason
use Rattle.gb_successors.specs.Below.gb_product.declared.parts.Product.{Product}
use Rattle.gb_successors.specs.Below.gb_product.Covering.{covers}
use Rattle.gb_successors.specs.Below.gb_abs_effects.declared.writes.AbsWrite.TheVariants as write
use Rattle.gb_successors.specs.Below.gb_abs_effects.declared.targets.Target.{Target}
use Rattle.gb_successors.specs.Below.gb_abs_effects.declared.targets.Target.TheVariants as target
use Rattle.gb_successors.specs.Below.gb_abs_effects.Targets.{moves_sp, is_push}
use Rattle.gb_successors.specs.Below.gb_abs_memory.Shown.{known_bank}
use Rattle.gb_successors.specs.Code.{area_end, leaves_area, is_other_bank, lies_in_high_ram, known_byte, known_bytes}
use Rattle.gb_successors.specs.Way.{Successor}
use Rattle.gb_successors.specs.declared.successors.Successors.{Successors}
use Rattle.gb_successors.specs.declared.stacks.Around.{Around}
use Rattle.gb_successors.specs.declared.stacks.Stack.{Stack}
use Rattle.gb_successors.specs.declared.stacks.StackMove.{StackMove}
use Rattle.gb_successors.specs.declared.stacks.StackMove.TheVariants as move
use Rattle.gb_successors.specs.Below.gb_abs.Meaning.{is_located}
use Rattle.gb_successors.specs.Stacks.{around_of, stack_move}
use Rattle.gb_successors.specs.Successors.{pointer_in, product_before, successors_of, any_successor}
use Rattle.gb_successors.specs.Refused.{is_unstorable, meets_closed, is_stack_limited, meets_oam_transfer, is_unknown}
use Rattle.std.specs.List.{list_any}
use Rattle.gb_calls.specs.Calls.{callee_of, are_ranges_inside}
use Rattle.gb_calls.specs.Resuming.{resumed}
use Rattle.gb_calls.specs.Interrupts.{left_by_dispatch, may_come, handler_of}
use Rattle.gb_rules.specs.declared.procedures.Called.{Called}
use Rattle.gb_rules.specs.Covered.{covered_at}
use Rattle.gb_rules.specs.Procedures.{ranges_of, kept_of, need_of, entered_of, setting_of, stack_of, program_of, exit_of, taken_by}

-- ---- the instruction alone

abbrev pub is_extended : Rules → Bool
is_extended Simple = false
is_extended Extended = true

abbrev pub is_stop : Op → Bool
is_stop op.Stop = true
is_stop _ = false

abbrev pub is_halt : Op → Bool
is_halt op.Halt = true
is_halt _ = false

-- the byte is known to be NOP's
abbrev pub is_nop : Option ℕ → Bool
is_nop None = false
is_nop (Some b) = b == 0

-- the byte behind an address of an area is known to be NOP's, and lies in the area
abbrev pub is_nop_behind : Program → List ℕ → AbsState → ℕ → Option ℕ → Bool
is_nop_behind program rom s a None = false
is_nop_behind program rom s a (Some end) = nat_lt (a + 1) end && is_nop (known_byte program rom s (a + 1))

-- HALT where interrupts may be off: the byte behind it may be read twice (halt: halt bug), which a NOP alone survives
unfoldable pub may_read_twice : Program → List ℕ → Node → Op → Bool
may_read_twice program rom n o = is_halt o && n.state.core.ime.off && not (is_nop_behind program rom n.state n.address (area_end n.address))

-- By the rules of versions 1 and 2: LD SP,n16 is main's, to the address behind the region; what pushes a word finds the stack
-- set, POP a word on it; and nothing else but returns moves SP. This is asked of the instruction, whether a side is possible
-- or not.
unfoldable pub breaks_simple_stack : Region → Node → Op → Bool
breaks_simple_stack region n (op.LoadPair pair.Sp w) = not (n.procedure == 0) || not (w == region.last + 1)
breaks_simple_stack region n (op.Push from) = not n.state.core.stack_set
breaks_simple_stack region n (op.Pop to) = not n.state.core.stack_set || nat_lt (length n.state.items) 2
breaks_simple_stack region n (op.CallIf condition w) = not n.state.core.stack_set
breaks_simple_stack region n (op.Call w) = not n.state.core.stack_set
breaks_simple_stack region n (op.Restart w) = not n.state.core.stack_set
breaks_simple_stack region n (op.ReturnIf condition) = false
breaks_simple_stack region n op.Return = false
breaks_simple_stack region n op.ReturnFromInterrupt = false
breaks_simple_stack region n o = moves_sp o

abbrev pub is_lost_move : StackMove → Bool
is_lost_move move.Lost = true
is_lost_move _ = false

-- SP is set to an address that is neither the procedure's nor main's, and may not be put aside
abbrev pub sets_lost : Stack → Around → Op → Option Bounds → Bool
sets_lost k g o hl = is_lost_move (stack_move k g o write.Nothing hl)

-- LD SP,HL from these states; where nothing is meant, nothing is asked
abbrev pub sets_lost_from : Stack → AbsState → Option Product → Bool
sets_lost_from k s None = false
sets_lost_from k s (Some p) = sets_lost k (around_of k s p.core) op.LoadSpHl (pointer_in k op.LoadSpHl p)

-- SP doesn't stand where the items end, or fewer bytes are held
abbrev pub lacks_bytes : ℕ → AbsState → Bool
lacks_bytes count s = not (is_located s) || nat_lt (length s.items) count

-- where the stack is put aside POP takes nothing off
abbrev pub lacks_word : Option Bounds → AbsState → Bool
lacks_word None s = lacks_bytes 2 s
lacks_word (Some b) s = false

-- By the rules of version 3: SP is set to a known address, one of the procedure's or of main's; what moves it otherwise finds
-- the stack set, and as many bytes as it takes off. By those of version 4 SP may be put aside: then POP reads elsewhere, and nothing else
-- moves SP but what sets it; nor does anything let interrupts come.
unfoldable pub breaks_extended_stack : Program → Stack → Node → Op → Bool
breaks_extended_stack program k n (op.LoadPair pair.Sp w) = sets_lost k (around_of k n.state n.state.core) (op.LoadPair pair.Sp w) None
breaks_extended_stack program k n op.LoadSpHl = sets_lost_from k n.state (product_before program k.setting.rules k.setting.entered n.state)
breaks_extended_stack program k n (op.Push from) = lacks_bytes 0 n.state
breaks_extended_stack program k n (op.Pop to) = lacks_word n.state.summary.aside n.state
breaks_extended_stack program k n (op.IncrementPair pair.Sp) = lacks_bytes 1 n.state
breaks_extended_stack program k n (op.DecrementPair pair.Sp) = lacks_bytes 0 n.state
breaks_extended_stack program k n (op.AddSp e8) = lacks_bytes (if nat_lt e8 128 then e8 else 0) n.state
breaks_extended_stack program k n (op.CallIf condition w) = lacks_bytes 0 n.state
breaks_extended_stack program k n (op.Call w) = lacks_bytes 0 n.state
breaks_extended_stack program k n (op.Restart w) = lacks_bytes 0 n.state
breaks_extended_stack program k n (op.ReturnIf condition) = is_some n.state.summary.aside
breaks_extended_stack program k n op.Return = is_some n.state.summary.aside
breaks_extended_stack program k n op.ReturnFromInterrupt = is_some n.state.summary.aside
breaks_extended_stack program k n op.EnableInterrupts = is_some n.state.summary.aside
breaks_extended_stack program k n o = false

abbrev pub breaks_stack_by : Rules → Program → Stack → Node → Op → Bool
breaks_stack_by Simple program k n o = breaks_simple_stack k.region n o
breaks_stack_by Extended program k n o = breaks_extended_stack program k n o

-- an instruction moves SP as it may not
abbrev pub breaks_stack : Program → Stack → Node → Op → Bool
breaks_stack program k n o = breaks_stack_by k.setting.rules program k n o

-- ---- depth

-- so many bytes are more than the need, or than a state can hold
abbrev pub is_deep : Rules → ℕ → ℕ → Bool
is_deep rules need bytes = nat_lt need bytes || nat_lt (item_room rules) bytes

-- PUSH of a word over the need, or over the 32 bytes that a state of versions 1 and 2 can hold
unfoldable pub pushes_too_deep : ℕ → Node → Op → Bool
pushes_too_deep need n o = is_push o && is_deep Simple need (length n.state.items + 2)

-- how many bytes are held behind an instruction that puts some on, or adds a number to SP
unfoldable pub bytes_after : Op → ℕ → Option ℕ
bytes_after (op.Push from) held = Some (held + 2)
bytes_after (op.DecrementPair pair.Sp) held = Some (held + 1)
bytes_after (op.AddSp e8) held = Some (if nat_lt e8 128 then held - e8 else held + (256 - e8))
bytes_after (op.CallIf condition w) held = Some (held + 2)
bytes_after (op.Call w) held = Some (held + 2)
bytes_after (op.Restart w) held = Some (held + 2)
bytes_after _ held = None

abbrev pub is_deep_if : ℕ → Option ℕ → Bool
is_deep_if need None = false
is_deep_if need (Some bytes) = is_deep Extended need bytes

-- where the instruction is taken, more bytes are held behind it than the need, or than a state can hold
abbrev pub grows_over : ℕ → Node → Op → Option Successor → Bool
grows_over need n o taken = is_some taken && is_deep_if need (bytes_after o (length n.state.items))

-- the stack grows too deep behind the instruction
abbrev pub moves_too_deep : Rules → ℕ → Node → Op → Option Successor → Bool
moves_too_deep Simple need n o taken = pushes_too_deep need n o
moves_too_deep Extended need n o taken = grows_over need n o taken

-- what of that is asked wherever the instruction leads
abbrev pub moves_alone_too_deep : Rules → ℕ → Node → Op → Bool
moves_alone_too_deep Simple need n o = pushes_too_deep need n o
moves_alone_too_deep Extended need n o = false

-- and what where it is taken
abbrev pub taken_too_deep : Rules → ℕ → Node → Op → Bool
taken_too_deep Simple need n o = false
taken_too_deep Extended need n o = is_deep_if need (bytes_after o (length n.state.items))

-- ---- its successors

-- an OAM transfer may close a byte of the instruction
unfoldable pub is_code_limited : Core → ℕ → ℕ → Bool
is_code_limited core a n = not (core.bound == 0) && not (lies_in_high_ram a n)

-- ---- calls and returns

abbrev pub callee_by : Program → Certificate → Setting → Target → AbsState → Option ℕ
callee_by program cert z (target.Call a) s = callee_of program cert z a s
callee_by program cert z _ s = None

-- the procedure that a successor calls
unfoldable pub callee_at : Program → Certificate → Setting → Successor → Option ℕ
callee_at program cert z t = callee_by program cert z t.target t.state

-- the bytes of a caller that wait below a callee: those that were held and the return address, or, by the rules of version 3,
-- those that the callee doesn't take over
abbrev pub waiting_below : Rules → Certificate → ℕ → ℕ → ℕ
waiting_below Simple cert held callee = held + 2
waiting_below Extended cert held callee = held - taken_by cert callee

abbrev pub is_over : Rules → Certificate → ℕ → ℕ → Option ℕ → Bool
is_over rules cert need held None = false
is_over rules cert need held (Some callee) = nat_lt need (waiting_below rules cert held callee + need_of cert callee)

-- the bytes that wait and the callee's need are more than the procedure's need
unfoldable pub calls_too_deep : Program → Certificate → Setting → ℕ → Successor → Bool
calls_too_deep program cert z need t = is_over z.rules cert need (length t.state.items) (callee_at program cert z t)

-- more bytes are on the stack than a state can hold
abbrev pub is_overfull : AbsState → Bool
is_overfull s = nat_lt (item_room Extended) (length s.items)

-- where nothing is meant, no node is asked for; where more is on the stack than a state can hold, none stands for it
abbrev pub is_uncovered_if : Program → Rules → Certificate → ℕ → ℕ → Option AbsState → Bool
is_uncovered_if program rules cert procedure a None = false
is_uncovered_if program rules cert procedure a (Some s) = is_overfull s || not (covered_at program rules cert procedure a s)

-- where its states stand, by these rules
abbrev pub setting_by : Rules → Certificate → ℕ → Setting
setting_by rules cert procedure = record (setting_of cert procedure) { rules = rules }

abbrev pub is_resumed_uncovered : Program → Rules → Certificate → ℕ → ℕ → AbsState → ℕ → Option AbsState → Bool
is_resumed_uncovered program rules cert procedure back s callee None = false
is_resumed_uncovered program rules cert procedure back s callee (Some exit) =
    is_uncovered_if program rules cert procedure back
    (resumed program (setting_by rules cert procedure) cert.region (taken_by cert callee) (ranges_of cert callee) (kept_of cert callee) s exit)

-- no node stands for what the caller goes on with when the callee returns
abbrev pub is_back_uncovered : Program → Rules → Certificate → ℕ → ℕ → AbsState → ℕ → Bool
is_back_uncovered program rules cert procedure back s callee = is_resumed_uncovered program rules cert procedure back s callee (exit_of cert callee)

-- By the rules of version 3 what is called goes on in the same procedure, where there is no callee.
abbrev pub is_inlined_uncovered : Program → Rules → Certificate → ℕ → ℕ → AbsState → Bool
is_inlined_uncovered program Simple cert procedure a s = false
is_inlined_uncovered program Extended cert procedure a s = not (covered_at program Extended cert procedure a s)

abbrev pub is_call_uncovered : Program → Rules → Certificate → ℕ → ℕ → ℕ → AbsState → Option ℕ → Bool
is_call_uncovered program rules cert procedure a back s None = is_inlined_uncovered program rules cert procedure a s
is_call_uncovered program rules cert procedure a back s (Some callee) = is_back_uncovered program rules cert procedure back s callee

abbrev pub is_uncovered_at : Program → Setting → Certificate → ℕ → Target → ℕ → AbsState → Bool
is_uncovered_at program z cert procedure (target.At a) back s = not (covered_at program z.rules cert procedure a s)
is_uncovered_at program z cert procedure (target.Call a) back s = is_call_uncovered program z.rules cert procedure a back s (callee_of program cert z a s)
is_uncovered_at program z cert procedure (target.Main a) back s = not (covered_at program z.rules cert 0 a s)
is_uncovered_at program z cert procedure _ back s = false

-- no node stands for the states behind, where they go on in the same procedure, at once or when the callee returns, or in main
unfoldable pub is_uncovered : Program → Setting → Certificate → ℕ → Successor → Bool
is_uncovered program z cert procedure t = is_uncovered_at program z cert procedure t.target t.next t.state

-- what a successor's call asks of the certificate, told together: its callee, whether the stack grows too deep, and whether no
-- node stands for what it leads to
abbrev pub called_by : Program → Certificate → Stack → ℕ → ℕ → ℕ → AbsState → Called
called_by program cert k procedure a back s =
    let callee = callee_of program cert k.setting a s in
    record {
      callee = callee;
      is_deep = is_over k.setting.rules cert k.need (length s.items) callee;
      is_uncovered = is_call_uncovered program k.setting.rules cert procedure a back s callee;
    }

abbrev pub no_call : Called
no_call = record { callee = None; is_deep = false; is_uncovered = false }

abbrev pub called_to : Program → Certificate → Stack → ℕ → Target → ℕ → AbsState → Called
called_to program cert k procedure (target.Call a) back s = called_by program cert k procedure a back s
called_to program cert k procedure _ back s = no_call

-- By the rules of versions 1 and 2 a callee is asked for, and that it writes where its caller may alone. By those of version 3
-- main may write anywhere, and what has no callee is inlined.
abbrev pub is_outside_of : Setting → Certificate → ℕ → Option ℕ → Bool
is_outside_of z cert procedure None = not (is_extended z.rules)
is_outside_of z cert procedure (Some callee) =
    not (is_extended z.rules && z.is_main) && not (are_ranges_inside (ranges_of cert callee) (ranges_of cert procedure))

abbrev pub is_uncallable_at : Program → Setting → Certificate → ℕ → Target → AbsState → Bool
is_uncallable_at program z cert procedure (target.Call a) s = is_outside_of z cert procedure (callee_of program cert z a s)
is_uncallable_at program z cert procedure _ s = false

-- a call of no procedure, or of one that may write where its caller may not
unfoldable pub is_uncallable : Program → Setting → Certificate → ℕ → Successor → Bool
is_uncallable program z cert procedure t = is_uncallable_at program z cert procedure t.target t.state

-- by the rules of versions 1 and 2 something is left on the stack; those of version 3 compare it with the exit's items
abbrev pub leaves_items : Rules → AbsState → Bool
leaves_items Simple s = not (length s.items == 0)
leaves_items Extended s = false

abbrev pub is_exit_missed : Program → Rules → AbsState → Option AbsState → Bool
is_exit_missed program rules s None = true
is_exit_missed program rules s (Some exit) = leaves_items rules s || not (covers program s exit)

abbrev pub is_unreturnable_at : Program → Rules → Certificate → ℕ → Target → AbsState → Bool
is_unreturnable_at program rules cert procedure target.Return s = procedure == 0 || is_exit_missed program rules s (exit_of cert procedure)
is_unreturnable_at program rules cert procedure target.Lost s = true
is_unreturnable_at program rules cert procedure _ s = false

-- a return from main, from a procedure that doesn't return, with something on the stack, or in a state that the exit doesn't
-- stand for; or one to a word that isn't known
unfoldable pub is_unreturnable : Program → Rules → Certificate → ℕ → Successor → Bool
is_unreturnable program rules cert procedure t = is_unreturnable_at program rules cert procedure t.target t.state

-- ---- interrupts

-- the interrupts, by their bits in IE
abbrev pub interrupts : List ℕ
interrupts = 0 ∷ 1 ∷ 2 ∷ 3 ∷ 4 ∷ []

-- an interrupt that may come at a node passes a test
abbrev pub any_interrupt : (ℕ → Bool) → Node → Bool
any_interrupt test n = list_any (λ i. may_come i n.state.core && test i) interrupts

-- the bytes that a dispatch leaves are too many, or those that wait and the handler's need are. By the rules of version 3 that
-- is asked where the stack is set.
abbrev pub is_dispatch_deep : Setting → Certificate → ℕ → AbsState → Option ℕ → Bool
is_dispatch_deep z cert need s handler =
    if is_extended z.rules
    then s.core.stack_set && (is_deep Extended need (length s.items + 2) || is_over Extended cert need (length s.items + 2) handler)
    else is_over Simple cert need (length s.items) handler

-- an interrupt may come whose dispatch makes the stack too deep
unfoldable pub handles_too_deep : Program → Certificate → Node → Bool
handles_too_deep program cert n =
    let z = setting_of cert n.procedure in
    any_interrupt (λ i. is_dispatch_deep z cert (need_of cert n.procedure) n.state (handler_of program cert z i n.address n.state)) n

-- a dispatch may come while an OAM transfer may close the stack region
unfoldable pub is_dispatch_limited : Region → Node → Bool
is_dispatch_limited region n = any_interrupt (λ i. is_stack_limited region n.state.core) n

-- by the rules of version 3 a dispatch pushes the address, and no node stands for more bytes than a state can hold
abbrev pub is_dispatch_overfull : Rules → AbsState → Bool
is_dispatch_overfull Simple s = false
is_dispatch_overfull Extended s = nat_lt (item_room Extended) (length s.items + 2)

-- what a dispatch leaves isn't covered: at the vector, where it is inlined, or at the node, where its handler returns to
abbrev pub is_dispatch_uncovered : Program → Rules → Certificate → Node → ℕ → AbsState → Option ℕ → Bool
is_dispatch_uncovered program rules cert n i s handler =
    is_dispatch_overfull rules n.state || is_call_uncovered program rules cert n.procedure (vector i) n.address s handler

-- no handler is there, or one that may write where the procedure may not; or what the procedure goes on with behind it
-- isn't covered where it was left
abbrev pub is_unhandled : Program → Setting → Certificate → Node → ℕ → Option ℕ → Bool
is_unhandled program z cert n i handler =
    not n.state.core.stack_set || is_outside_of z cert n.procedure handler
    || is_dispatch_uncovered program z.rules cert n i (left_by_dispatch z.rules n.address n.state) handler

-- an interrupt may come that isn't provided for
unfoldable pub lacks_handler : Program → Certificate → Node → Bool
lacks_handler program cert n =
    let z = setting_of cert n.procedure in
    any_interrupt (λ i. is_unhandled program z cert n i (handler_of program cert z i n.address n.state)) n

-- ---- the reasons

abbrev pub test_row : (Row → Bool) → Option Row → Bool
test_row test None = false
test_row test (Some row) = test row

-- a test of the row of the instruction's bytes, where they are known and there is one
abbrev pub test_instruction : (Row → Bool) → Option (List ℕ) → Bool
test_instruction test None = false
test_instruction test (Some bytes) = test_row test (decoded bytes)

abbrev pub is_undefined : Option (List ℕ) → Bool
is_undefined None = false
is_undefined (Some bytes) = is_none (decoded bytes)

unfoldable pub node_bytes : Program → List ℕ → Node → Option (List ℕ)
node_bytes program rom n = known_bytes program rom n.state n.address

-- where the procedure of a node stands
abbrev pub node_setting : Certificate → Node → Setting
node_setting cert n = setting_of cert n.procedure

-- the successors of a node's instruction
unfoldable pub ways_of : List ℕ → Certificate → Node → Row → Successors
ways_of rom cert n row = successors_of (stack_of cert n.procedure) (program_of rom cert) rom row n.address n.state

-- a test of them
unfoldable pub any_of : (Successor → Bool) → List ℕ → Certificate → Node → Row → Bool
any_of test rom cert n row = any_successor test (ways_of rom cert n row)

-- something is meant before the instruction
abbrev pub is_possible : List ℕ → Certificate → Node → Bool
is_possible rom cert n = is_some (product_before (program_of rom cert) (rules_of cert.version) (entered_of cert n.procedure) n.state)

-- the stack would grow over the procedure's need
unfoldable pub grows_too_deep : List ℕ → Certificate → Node → Row → Bool
grows_too_deep rom cert n row =
    moves_too_deep (rules_of cert.version) (need_of cert n.procedure) n row.op (ways_of rom cert n row).taken
    || any_of (calls_too_deep (program_of rom cert) cert (node_setting cert n) (need_of cert n.procedure)) rom cert n row
    || (handles_too_deep (program_of rom cert) cert n && is_possible rom cert n)

-- a successor may store where no store is allowed
unfoldable pub stores_outside : List ℕ → Certificate → Node → Row → Bool
stores_outside rom cert n row =
    any_of (λ t. is_unstorable (node_setting cert n) (kind_of rom) cert.region (ranges_of cert n.procedure) t.write) rom cert n row

-- one may meet closed cartridge RAM; asked for at the gate of the node's own state
unfoldable pub meets_ram : List ℕ → Certificate → Node → Row → Bool
meets_ram rom cert n row = any_of (meets_closed rom n.state.core) rom cert n row

-- an OAM transfer may close a byte of the instruction or an access of one, or start unseen; asked for at the node's bound
unfoldable pub meets_transfer : List ℕ → Certificate → Node → Row → Bool
meets_transfer rom cert n row =
    any_of (λ t. is_code_limited n.state.core n.address row.length || meets_oam_transfer cert.region n.state.core t) rom cert n row
    || (is_dispatch_limited cert.region n && is_possible rom cert n)

-- one may lead anywhere
unfoldable pub leads_anywhere : List ℕ → Certificate → Node → Row → Bool
leads_anywhere rom cert n row = any_of (λ t. is_unknown t.target) rom cert n row

-- the states behind one aren't covered
unfoldable pub leads_uncovered : List ℕ → Certificate → Node → Row → Bool
leads_uncovered rom cert n row = any_of (is_uncovered (program_of rom cert) (node_setting cert n) cert n.procedure) rom cert n row

-- one calls what it may not
unfoldable pub calls_wrongly : List ℕ → Certificate → Node → Row → Bool
calls_wrongly rom cert n row = any_of (is_uncallable (program_of rom cert) (node_setting cert n) cert n.procedure) rom cert n row

-- one returns as it may not
unfoldable pub returns_wrongly : List ℕ → Certificate → Node → Row → Bool
returns_wrongly rom cert n row = any_of (is_unreturnable (program_of rom cert) (rules_of cert.version) cert n.procedure) rom cert n row

-- whether a reason applies to a node whose instruction is known
unfoldable pub applies_to_row : List ℕ → Certificate → Node → Row → Reason → Bool
applies_to_row rom cert n row reason.Stop = is_stop row.op
applies_to_row rom cert n row reason.Halt = may_read_twice (program_of rom cert) rom n row.op
applies_to_row rom cert n row reason.Stack = breaks_stack (program_of rom cert) (stack_of cert n.procedure) n row.op
applies_to_row rom cert n row reason.Depth = grows_too_deep rom cert n row
applies_to_row rom cert n row reason.Store = stores_outside rom cert n row
applies_to_row rom cert n row reason.CartridgeRam = meets_ram rom cert n row
applies_to_row rom cert n row reason.OamTransfer = meets_transfer rom cert n row
applies_to_row rom cert n row reason.JumpHl = leads_anywhere rom cert n row
applies_to_row rom cert n row reason.Uncovered = leads_uncovered rom cert n row
applies_to_row rom cert n row reason.Callee = calls_wrongly rom cert n row
applies_to_row rom cert n row reason.Return = returns_wrongly rom cert n row
applies_to_row rom cert n row _ = false

-- whether a reason applies to a node; a later one presumes that the instruction could be read
unfoldable pub applies : List ℕ → Certificate → Node → Reason → Bool
applies rom cert n reason.Area = leaves_area n.address (known_byte (program_of rom cert) rom n.state n.address) (area_end n.address)
applies rom cert n reason.Bank = is_other_bank (known_bank rom n.state.core.ctl n.address) n.bank
applies rom cert n reason.Unreadable = is_none (node_bytes (program_of rom cert) rom n)
applies rom cert n reason.UndefinedOpcode = is_undefined (node_bytes (program_of rom cert) rom n)
applies rom cert n r = test_instruction (λ row. applies_to_row rom cert n row r) (node_bytes (program_of rom cert) rom n)

-- the reasons against where its successors go on, the lowest first
abbrev pub target_reasons : List Reason
target_reasons = reason.JumpHl ∷ reason.Uncovered ∷ reason.Callee ∷ reason.Return ∷ []

-- the reasons against its successors, the lowest first
abbrev pub way_reasons : List Reason
way_reasons = reason.Depth ∷ reason.Store ∷ reason.CartridgeRam ∷ reason.OamTransfer ∷ target_reasons

-- the reasons against a known instruction, the lowest first
abbrev pub row_reasons : List Reason
row_reasons = reason.Stop ∷ reason.Halt ∷ reason.Stack ∷ way_reasons

-- the reasons against nodes, the lowest first
abbrev pub reasons : List Reason
reasons = reason.Area ∷ reason.Bank ∷ reason.Unreadable ∷ reason.UndefinedOpcode ∷ row_reasons

-- the lowest reason against a node
unfoldable pub reason_of : List ℕ → Certificate → Node → Option Reason
reason_of rom cert n = find (applies rom cert n) reasons

-- the lowest reason against the node with a number
abbrev pub reason_at : List ℕ → Certificate → ℕ → Option Reason
reason_at rom cert i = option_and_then (reason_of rom cert) (slice_get cert.nodes i)

-- whether an interrupt may come at the node with a number that isn't provided for
abbrev pub lacks_in : Program → Certificate → Option Node → Bool
lacks_in program cert None = false
lacks_in program cert (Some n) = lacks_handler program cert n

abbrev pub lacks_handler_at : List ℕ → Certificate → ℕ → Bool
lacks_handler_at rom cert i = lacks_in (program_of rom cert) cert (slice_get cert.nodes i)
