-- What successors promise of the machine (abstract interpretation: soundness; own).
use Rattle.std.specs.Prelude.{◌≡◌, ℕ, ◌+◌, ◌-◌, ◌%◌, ◌≤◌, ◌<◌, ◌⊎◌, Bool, true, false, if◌then◌else◌, nat_lt, List, [], slice_index, length, Option, Some, None, is_some, IfSome}
use Rattle.std.specs.List.{AllByRecursion}
use Rattle.gb_ops.specs.declared.machine.Kind.TheVariants as kind
use Rattle.gb_ops.specs.declared.machine.Region.{Region}
use Rattle.gb_ops.specs.declared.registers.Ime.TheVariants as ime
use Rattle.gb_ops.specs.declared.op.Pair.TheVariants as pair
use Rattle.gb_ops.specs.declared.op.Op.{Op}
use Rattle.gb_ops.specs.declared.op.Op.TheVariants as op
use Rattle.gb_ops.specs.declared.op.Row.{Row}
use Rattle.gb_ops.specs.Cartridge.{kind_of}
use Rattle.gb_ops.specs.Pairs.{word}
use Rattle.gb_ops.specs.Machine.{executed, halt_stay, halt_bug, has_enabled}
use Rattle.gb_ops.specs.Faults.{no_faults, row_faults}
use Rattle.gb_ops.specs.Play.{MState, within, outside}
use Rattle.gb_domain.specs.declared.relations.Relations.{Relations}
use Rattle.gb_domain.specs.declared.rules.Rules.{Rules}
use Rattle.gb_domain.specs.declared.rules.Rules.TheVariants.{Simple, Extended}
use Rattle.gb_domain.specs.declared.setting.Setting.{Setting}
use Rattle.gb_domain.specs.declared.types.Origin.TheVariants.{ReturnHigh, ReturnLow}
use Rattle.gb_domain.specs.declared.types.Range.{Range}
use Rattle.gb_domain.specs.Summaries.{Program}
use Rattle.gb_domain.specs.Types.{AbsState}
use Rattle.gb_domain.specs.Areas.{IsRegion, is_free_byte}
use Rattle.gb_domain.specs.Limits.{item_room}
use Rattle.gb_domain.specs.Pairs.{ArePairs}
use Rattle.gb_domain.specs.Rules.{IsCore, IsVal}
use Rattle.gb_domain.specs.Settings.{IsBase}
use Rattle.gb_product.specs.Below.gb_summaries.Elsewhere.{AreFreeFacts, IsFree}
use Rattle.gb_product.specs.Below.gb_abs.Storage.{peek}
use Rattle.gb_product.specs.Below.gb_abs.Cells.{ArePlaced}
use Rattle.gb_product.specs.Below.gb_abs.Stack.{AreInRegion, pushed}
use Rattle.gb_product.specs.Below.gb_abs.Meaning.{Activation, MeansParts, is_located, origin_value}
use Rattle.gb_product.specs.Below.gb_abs_effects.declared.targets.Target.{Target}
use Rattle.gb_product.specs.Below.gb_abs_effects.declared.targets.Target.TheVariants as target
use Rattle.gb_product.specs.Below.gb_abs_effects.Sound.{HasBytes}
use Rattle.gb_product.specs.Below.gb_abs_effects.Targets.{moves_sp, is_push, is_pop, is_call, is_return}
use Rattle.gb_abs_memory.specs.Kept.{IsKept}
use Rattle.gb_abs_memory.specs.Sound.{IsRom, AreVals}
use Rattle.gb_product.specs.Below.gb_pairs.Sound.{AreWithin}
use Rattle.gb_product.specs.Below.gb_relations.Sound.{IsBytePlaced}
use Rattle.gb_product.specs.Held.{stack_held}
use Rattle.gb_product.specs.declared.parts.Product.{Product}
use Rattle.gb_product.specs.Meaning.{entered_with, AreRelated, IsSummarized, Means}
use Rattle.gb_abs_memory.specs.Windows.{known_kind}
use Rattle.gb_successors.specs.declared.stacks.Stack.{Stack}
use Rattle.gb_successors.specs.declared.stacks.StackMove.{StackMove}
use Rattle.gb_successors.specs.declared.stacks.StackMove.TheVariants as move
use Rattle.gb_successors.specs.Successors.{taken_move, product_before, successors_of}
use Rattle.gb_successors.specs.Stacks.{address_below}
use Rattle.gb_successors.specs.Summaries.{enables_interrupts}
use Rattle.gb_successors.specs.Way.{Successor}
use Rattle.gb_successors.specs.declared.successors.Successors.{Successors}
use Rattle.gb_successors.specs.Refused.{is_unstorable, meets_closed, meets_oam_transfer}
use Rattle.gb_product.specs.Below.gb_abs_effects.Pairs.{known_word}

-- one of the successors
abbrev pub IsOneOf : Successors → Successor → Type 0
IsOneOf ss t = (ss.taken ≡ Some t) ⊎ ((ss.not_taken ≡ Some t) ⊎ (ss.stays ≡ Some t))

-- ---- the stack

-- SP stands where the items end, with room for a word behind the bytes that are held
pub record IsPushable (z : Setting) (region : Region) (s : AbsState) (base : ℕ) : Type 0 where
  pub located : is_located s ≡ true
  pub held : nat_lt (item_room z.rules) (length s.items + 2) ≡ false
  pub room : AreInRegion region base (length s.items + 2)

-- SP stands where the items end, and a word is held
pub record IsPoppable (s : AbsState) : Type 0 where
  pub located : is_located s ≡ true
  pub held : 2 ≤ length s.items

-- SP stands where the items end, nothing is held, and the return word lies in the region
pub record IsReturnable (region : Region) (s : AbsState) (t : Successor) (base : ℕ) : Type 0 where
  pub located : is_located s ≡ true
  pub held : t.state.items ≡ []
  pub return_word : AreInRegion region (base + 2) 2

-- SP stays; LD SP,n16 sets it to the base; or the instruction is one of the stack's, and finds what it asks for. What
-- calls and returns ask for more is asked where they are taken.
abbrev pub IsStackKnown : Setting → Region → Op → AbsState → ℕ → Type 0
IsStackKnown z region o s base =
    (moves_sp o ≡ false)
    ⊎ ((o ≡ op.LoadPair pair.Sp base)
    ⊎ (((is_push o ≡ true) × IsPushable z region s base)
    ⊎ (((is_pop o ≡ true) × IsPoppable s)
    ⊎ (((is_call o ≡ true) × (is_located s ≡ true))
    ⊎ (is_return o ≡ true)))))

-- SP stands where the items end, with room for so many bytes more
pub record HasRoomFor (n : ℕ) (z : Setting) (region : Region) (s : AbsState) (base : ℕ) : Type 0 where
  pub located : is_located s ≡ true
  pub held : nat_lt (item_room z.rules) (length s.items + n) ≡ false
  pub room : AreInRegion region base (length s.items + n)

-- SP stands where the items end, and so many bytes are held
pub record HoldsBytes (n : ℕ) (s : AbsState) : Type 0 where
  pub located : is_located s ≡ true
  pub held : n ≤ length s.items

-- what a move of the stack asks for; of a return that is asked where it is taken. Put aside, nothing returns or lets interrupts come.
abbrev pub IsReady : Stack → Op → StackMove → AbsState → ℕ → Type 0
IsReady k o move.Stay s base = enables_interrupts o ≡ true → s.summary.aside ≡ None
IsReady k o (move.Push w) s base = HasRoomFor 2 k.setting k.region s base
IsReady k o (move.Append n) s base = HasRoomFor n k.setting k.region s base
IsReady k o (move.Take n) s base = (is_return o ≡ false → HoldsBytes n s) × (is_return o ≡ true → s.summary.aside ≡ None)
IsReady k o (move.Set n) s base = AreInRegion k.region base n
IsReady k o (move.Restart n) s base = AreInRegion k.region (k.region.last + 1) n
IsReady k o (move.Aside b) s base = Unit {0}
IsReady k o move.Lost s base = ⊥

-- what the instruction does to the stack, from what is known before it
abbrev pub move_before : Stack → Program → List ℕ → Row → ℕ → AbsState → Product → StackMove
move_before k program rom row a s p = taken_move k program rom row ((a + row.length) % 65536) s p

-- by the rules of version 3, where the instruction may be taken, the stack is ready for that
abbrev pub IsStackRuled : Rules → Stack → Program → List ℕ → Row → ℕ → AbsState → ℕ → Type 0
IsStackRuled Simple k program rom row a s base = IsStackKnown k.setting k.region row.op s base
IsStackRuled Extended k program rom row a s base =
    is_some (successors_of k program rom row a s).taken ≡ true
    → (p : Product) → product_before program Extended k.setting.entered s ≡ Some p → IsReady k row.op (move_before k program rom row a s p) s base

-- what the stack has to have for a successor by the rules of versions 1 and 2: a call wants room for the return address, a return
-- finds nothing but its own
abbrev pub IsStackFree : Region → Target → AbsState → Successor → ℕ → Type 0
IsStackFree region (target.Call a) s t base = AreInRegion region base (length t.state.items + 2)
IsStackFree region target.Return s t base = IsReturnable region s t base
IsStackFree region _ s t base = Unit {0}

-- it is known where it goes on
abbrev pub IsFound : Target → Type 0
IsFound target.Unknown = ⊥
IsFound target.Lost = ⊥
IsFound _ = Unit {0}

-- by the rules of version 3 that is all: its move has been asked for
abbrev pub IsStackFit : Rules → Region → Target → AbsState → Successor → ℕ → Type 0
IsStackFit Simple region w s t base = IsStackFree region w s t base
IsStackFit Extended region w s t base = IsFound w

-- how many bytes may be held behind an instruction
unfoldable pub bytes_behind : Op → ℕ → ℕ
bytes_behind o n = if is_push o then n + 2 else n

-- how many are held behind a move of the stack
abbrev pub bytes_moved : StackMove → ℕ → ℕ
bytes_moved (move.Push w) n = n + 2
bytes_moved (move.Take less) n = n - less
bytes_moved (move.Append more) n = n + more
bytes_moved (move.Set left) n = left
bytes_moved (move.Restart left) n = left
bytes_moved _ n = n

-- it holds as many as before, or is taken, and holds what its move leaves
abbrev pub IsMovedFrom : Stack → Program → List ℕ → Row → ℕ → AbsState → Successor → Type 0
IsMovedFrom k program rom row a s t =
    (length t.state.items ≡ length s.items)
    ⊎ (((successors_of k program rom row a s).taken ≡ Some t)
    × ((p : Product) → product_before program Extended k.setting.entered s ≡ Some p → length t.state.items ≡ bytes_moved (move_before k program rom row a s p) (length s.items)))

-- how many bytes a successor holds
abbrev pub IsHeld : Rules → Stack → Program → List ℕ → Row → ℕ → AbsState → Successor → Type 0
IsHeld Simple k program rom row a s t = length t.state.items ≤ bytes_behind row.op (length s.items)
IsHeld Extended k program rom row a s t = IsMovedFrom k program rom row a s t

-- nothing is against its accesses, in the state before it
pub record IsAllowed (z : Setting) (rom : List ℕ) (region : Region) (ranges : List Range) (s : AbsState) (base : ℕ) (t : Successor) : Type 0 where
  pub stores : is_unstorable z (kind_of rom) region ranges t.write ≡ false
  pub ram : meets_closed rom s.core t ≡ false
  pub oam_transfer : meets_oam_transfer region s.core t ≡ false
  pub stack : IsStackFit z.rules region t.target s t base

-- ---- where successors lead

-- the machine stands in the same procedure at an address
pub record StaysAt (region : Region) (a : ℕ) (t : Successor) (entry : Activation) (base : ℕ) (y : MState) : Type 0 where
  pub means : MeansParts t.state entry base y
  pub goes : y.processor.pc ≡ a
  pub room : AreInRegion region base (length t.state.items)

-- the machine has called: the word of the address behind the call is on its stack
pub record CallsAt (region : Region) (a : ℕ) (t : Successor) (entry : Activation) (base : ℕ) (y : MState) : Type 0 where
  pub means : MeansParts (pushed (known_word t.next) t.state) entry base y
  pub next : t.next < 65536
  pub goes : y.processor.pc ≡ a
  pub located : is_located t.state ≡ true
  pub placed : ArePlaced region t.state.cells

-- from x to y the machine has returned to the word at the base, which is off the stack
pub record ReturnsTo (t : Successor) (entry : Activation) (base : ℕ) (x y : MState) : Type 0 where
  pub means : MeansParts t.state entry (base + 2) y
  pub goes : y.processor.pc ≡ word (peek x.storage (base + 1)) (peek x.storage base)

-- by the rules of versions 1 and 2 nothing is said of a jump to somewhere, nor of what version 3 alone follows
abbrev pub LeadsSimply : Region → Target → Successor → Activation → ℕ → MState → MState → Type 0
LeadsSimply region (target.At a) t entry base x y = StaysAt region a t entry base y
LeadsSimply region (target.Call a) t entry base x y = CallsAt region a t entry base y
LeadsSimply region target.Return t entry base x y = ReturnsTo t entry base x y
LeadsSimply region _ t entry base x y = Unit {0}

-- the machine has called: the address behind the call is on top of its stack, and among what the procedure holds
pub record CalledAt (region : Region) (a : ℕ) (t : Successor) (entry : Activation) (base : ℕ) (y : MState) : Type 0 where
  pub means : MeansParts t.state entry base y
  pub goes : y.processor.pc ≡ a
  pub room : AreInRegion region base (length t.state.items)
  pub located : is_located t.state ≡ true
  pub next : t.next < 65536
  pub top : word (peek y.storage (y.processor.sp + 1)) (peek y.storage y.processor.sp) ≡ t.next
  pub placed : ArePlaced region t.state.cells

-- the machine has gone back to the word that was pushed as the procedure was entered, which isn't main
pub record ReturnsBy (z : Setting) (region : Region) (t : Successor) (entry : Activation) (base : ℕ) (y : MState) : Type 0 where
  pub means : MeansParts t.state entry base y
  pub goes : y.processor.pc ≡ word (origin_value ReturnHigh entry) (origin_value ReturnLow entry)
  pub room : AreInRegion region base (length t.state.items)
  pub procedure : z.is_main ≡ false

-- main begins anew in its program: nothing that is known is a copy of what stood somewhere at entry
pub record BeginsAnew (program : Program) (region : Region) (a : ℕ) (t : Successor) (y : MState) : Type 0 where
  pub means : (entry : Activation) → entry.program ≡ program → MeansParts t.state entry (region.last + 1) y
  pub goes : y.processor.pc ≡ a
  pub room : AreInRegion region (region.last + 1) (length t.state.items)

-- by the rules of version 3
abbrev pub LeadsWidely : Setting → Region → Target → Successor → Activation → ℕ → MState → Type 0
LeadsWidely z region (target.At a) t entry base y = StaysAt region a t entry base y
LeadsWidely z region (target.Call a) t entry base y = CalledAt region a t entry base y
LeadsWidely z region target.Return t entry base y = ReturnsBy z region t entry base y
LeadsWidely z region (target.Main a) t entry base y = BeginsAnew entry.program region a t y
LeadsWidely z region _ t entry base y = Unit {0}

abbrev pub LeadsTo : Rules → Setting → Region → Target → Successor → Activation → ℕ → MState → MState → Type 0
LeadsTo Simple z region w t entry base x y = LeadsSimply region w t entry base x y
LeadsTo Extended z region w t entry base x y = LeadsWidely z region w t entry base y

-- it is said where the machine is
abbrev pub is_followed : Rules → Target → Bool
is_followed rules target.Unknown = false
is_followed rules target.Lost = false
is_followed Simple (target.Main a) = false
is_followed Extended (target.Main a) = true
is_followed rules _ = true

-- each part of the states behind by itself: an event leads from x to y by the successor, and leaves what the procedure keeps
pub record LeadsParts (z : Setting) (region : Region) (ranges : List Range) (t : Successor) (entry : Activation) (base : ℕ) (x y : MState) : Type 0 where
  pub to : LeadsTo z.rules z region t.target t entry base x y
  pub kept : (b : ℕ) → IsKept z region ranges base b → peek y.storage b ≡ peek x.storage b

-- what is known together holds of y behind a successor's target; main begins anew, however it was entered then
abbrev pub AreRelatedBehind : Target → Relations → Activation → MState → Type 0
AreRelatedBehind (target.Main a) r entry y = (begun : Activation) → AreRelated r begun y
AreRelatedBehind w r entry y = AreRelated r entry y

-- so it does, and what is known together of the states behind holds of y, where it is said where that is; what they say of the
-- whole program does wherever that is
pub record Leads (z : Setting) (region : Region) (ranges : List Range) (t : Successor) (entry : Activation) (base : ℕ) (x y : MState) : Type 0 where
  pub to : LeadsTo z.rules z region t.target t entry base x y
  pub kept : (b : ℕ) → IsKept z region ranges base b → peek y.storage b ≡ peek x.storage b
  pub related : is_followed z.rules t.target ≡ true → AreRelatedBehind t.target t.state.relations entry y
  pub summary : IsSummarized t.state entry y

-- a program that states may speak of: its controller is the cartridge's, or none, of which nothing is said; its facts lie in RAM
-- outside the stack region
pub record IsProgram (rom : List ℕ) (region : Region) (program : Program) : Type 0 where
  pub controller : (program.kind ≡ kind.Rom) ⊎ (program.kind ≡ kind_of rom)
  pub facts : AreFreeFacts region program.facts

-- the machine stands before an instruction at an address, in a state that s means, and the pairs lay within bounds as the procedure was
-- entered
pub record Stands (z : Setting) (rom : List ℕ) (region : Region) (row : Row) (a : ℕ) (s : AbsState) (entry : Activation) (base : ℕ) (x : MState) : Type 0 where
  pub cartridge : IsRom rom
  pub is_region : IsRegion region
  pub core : IsCore s.core
  pub placed : ArePlaced region s.cells
  pub place : IsBytePlaced (stack_held z region (length s.items)) s.relations.byte.address
  pub pairs : ArePairs (is_free_byte region) s.relations.pairs
  pub vals : AreVals s.cells
  pub items : AllByRecursion IsVal s.items
  pub unset : s.core.stack_set ≡ false → s.items ≡ []
  pub quiet : z.rules ≡ Simple → s.summary.aside ≡ None
  pub aside : IfSome s.summary.aside (λ b. b.last < 65536)
  pub room : AreInRegion region base (length s.items)
  pub program : IsProgram rom region entry.program
  pub controlled : entry.program.kind ≡ known_kind z.is_whole (kind_of rom)
  pub apart : IsFree region s.summary
  pub means : Means s entry base x
  pub within : AreWithin z.entered (entered_with entry)
  pub based : IsBase z base
  pub at : x.processor.pc ≡ a

-- the instruction is one that may stand there
pub record IsRuled (k : Stack) (program : Program) (rom : List ℕ) (row : Row) (a : ℕ) (s : AbsState) (base : ℕ) : Type 0 where
  pub operands : HasBytes row.op
  pub runs : row.op ≡ op.Stop → ⊥
  pub stack : IsStackRuled k.setting.rules k program rom row a s base

-- where the HALT mark is clear, an instruction that is executed leads by one of the successors, if nothing is against that
-- one's accesses, and then without a fault
pub record Executes (k : Stack) (program : Program) (rom : List ℕ) (ranges : List Range) (row : Row) (a : ℕ) (s : AbsState) (ss : Successors) (entry : Activation) (base : ℕ) (x : MState) (reads : List ℕ) : Type 0 where
  pub successor : Successor
  pub is_one : IsOneOf ss successor
  pub leads : IsAllowed k.setting rom k.region ranges s base successor → Leads k.setting k.region ranges successor entry base x (outside (executed (within rom x) row reads))
  pub held : IsAllowed k.setting rom k.region ranges s base successor → IsHeld k.setting.rules k program rom row a s successor
  pub mark : (outside (executed (within rom x) row reads)).processor.halt_mark ≡ false
  pub faults : IsAllowed k.setting rom k.region ranges s base successor → row_faults (Some row) k.region (within rom x) reads ≡ no_faults

-- an event leads by a successor, which holds no more than so many bytes
pub record LeadsBy (z : Setting) (region : Region) (ranges : List Range) (bytes : ℕ) (way : Option Successor) (entry : Activation) (base : ℕ) (x y : MState) : Type 0 where
  pub successor : Successor
  pub is_way : way ≡ Some successor
  pub held : length successor.state.items ≤ bytes
  pub leads : Leads z region ranges successor entry base x y

-- HALT, as the table has it
pub record IsHalt (row : Row) : Type 0 where
  pub op_is : row.op ≡ op.Halt
  pub length_is : row.length ≡ 1
  pub cycles_are : row.cycles ≡ 1

-- Whatever an instruction but STOP does where the HALT mark is clear, in a procedure of the program, it leads by one of the
-- successors: executed, or HALT with an interrupt that is requested.
-- Then, with IME pending, the processor stays on it; with IME off the byte behind it will be read twice.
pub record AreSoundSuccessors (k : Stack) (program : Program) (rom : List ℕ) (row : Row) (a : ℕ) (s : AbsState) (ss : Successors) : Type 0 where
  pub executes :
      (ranges : List Range) (entry : Activation) (base : ℕ) (x : MState) (reads : List ℕ)
      → entry.program ≡ program → entry.mark ≡ address_below base k.mark → Stands k.setting rom k.region row a s entry base x → IsRuled k program rom row a s base → x.processor.halt_mark ≡ false → slice_index reads 0 ≤ 255 → slice_index reads 1 ≤ 255
      → Executes k program rom ranges row a s ss entry base x reads
  pub stays :
      (ranges : List Range) (entry : Activation) (base : ℕ) (x : MState)
      → entry.program ≡ program → Stands k.setting rom k.region row a s entry base x → IsHalt row → x.processor.ime ≡ ime.Pending → has_enabled (within rom x) ≡ true
      → LeadsBy k.setting k.region ranges (length s.items) ss.stays entry base x (outside (halt_stay (within rom x)))
  pub repeats :
      (ranges : List Range) (entry : Activation) (base : ℕ) (x : MState)
      → entry.program ≡ program → entry.mark ≡ address_below base k.mark → Stands k.setting rom k.region row a s entry base x → IsHalt row → x.processor.ime ≡ ime.Off → x.processor.halt_mark ≡ false
      → LeadsBy k.setting k.region ranges (length s.items) ss.taken entry base x (outside (halt_bug (within rom x)))
