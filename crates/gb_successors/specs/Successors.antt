-- The possible successors of an instruction (abstract interpretation: abstract semantics; own).
use Rattle.std.specs.Prelude.{ℕ, ◌+◌, ◌%◌, Bool, true, false, ◌&&◌, ◌||◌, if◌then◌else◌, List, length, Option, Some, None, option_map, option_and_then}
use Rattle.gb_ops.specs.declared.op.Op.{Op}
use Rattle.gb_ops.specs.declared.op.Op.TheVariants as op
use Rattle.gb_ops.specs.declared.op.Row.{Row}
use Rattle.gb_ops.specs.Cartridge.{kind_of}
use Rattle.gb_ops.specs.Pointers.{pointer_of}
use Rattle.gb_domain.specs.declared.low_bits.LowBits.{LowBits}
use Rattle.gb_domain.specs.declared.pairs.Bounds.{Bounds}
use Rattle.gb_domain.specs.declared.pairs.PairBounds.{PairBounds}
use Rattle.gb_domain.specs.Pairs.{any_pairs}
use Rattle.gb_domain.specs.declared.relations.Relations.{Relations}
use Rattle.gb_domain.specs.declared.rules.Rules.{Rules}
use Rattle.gb_domain.specs.declared.setting.Setting.{Setting}
use Rattle.gb_domain.specs.declared.types.Cell.{Cell}
use Rattle.gb_domain.specs.declared.types.Core.{Core}
use Rattle.gb_domain.specs.declared.types.Halves.{Halves}
use Rattle.gb_domain.specs.Summaries.{SummaryParts, Program}
use Rattle.gb_domain.specs.Types.{AbsState}
use Rattle.gb_product.specs.Below.gb_vals.Bits.{may_enable}
use Rattle.gb_product.specs.Below.gb_abs.Located.{item_at, sp_halves, sp_bounds}
use Rattle.gb_product.specs.Below.gb_abs.Operations.{core_settle, with_core}
use Rattle.gb_product.specs.Below.gb_abs_effects.declared.reads.AbsRead.{AbsRead}
use Rattle.gb_product.specs.Below.gb_abs_effects.declared.reads.AbsRead.TheVariants as read
use Rattle.gb_product.specs.Below.gb_abs_effects.declared.writes.AbsEffect.{AbsEffect}
use Rattle.gb_product.specs.Below.gb_abs_effects.declared.writes.AbsWrite.TheVariants as write
use Rattle.gb_product.specs.Below.gb_abs_effects.declared.targets.Target.TheVariants as target
use Rattle.gb_product.specs.Below.gb_abs_effects.Accesses.{read_of}
use Rattle.gb_product.specs.Below.gb_abs_effects.Targets.{target_of}
use Rattle.gb_product.specs.Below.gb_abs_effects.Transfer.{transfer, only_on}
use Rattle.gb_successors.specs.Way.{Successor}
use Rattle.gb_successors.specs.declared.successors.Successors.{Successors}
use Rattle.gb_successors.specs.declared.stacks.Stack.{Stack}
use Rattle.gb_successors.specs.declared.stacks.StackMove.{StackMove}
use Rattle.gb_product.specs.declared.parts.Branch.{Branch}
use Rattle.gb_product.specs.declared.parts.Product.{Product}
use Rattle.gb_product.specs.Held.{stack_held}
use Rattle.gb_product.specs.Covering.{read_in as bytes_read}
use Rattle.gb_product.specs.Reduced.{product_of, reduced}
use Rattle.gb_product.specs.Sides.{memory_of, taken_side, not_taken_side}
use Rattle.gb_product.specs.Below.gb_relations.PointedBits.{known_bits}
use Rattle.gb_product.specs.Below.gb_relations.Pointers.{pointer_bounds, known_carry}
use Rattle.gb_product.specs.Below.gb_relations.Transfer.{relations_after, values_of}
use Rattle.gb_successors.specs.Behind.{ended, with_relations, with_summary, with_cell_if, moved_state, core_behind}
use Rattle.gb_abs_memory.specs.Access.{item_or}
use Rattle.gb_successors.specs.Settled.{branch_outside, told_by, told_successor, held_way}
use Rattle.gb_successors.specs.StackMark.{marks, marked}
use Rattle.gb_successors.specs.Refined.{cut_read, read_around, refined, refined_target}
use Rattle.gb_successors.specs.Stacks.{around_of, stack_move}
use Rattle.gb_successors.specs.Loads.{word_by}
use Rattle.gb_successors.specs.Summaries.{pointed_bits, summary_by}
use Rattle.gb_domain.specs.declared.types.Val.{Val}

-- ---- successors

-- the address that an instruction takes from a pair has these bounds
abbrev pub pointer_in : Stack → Op → Product → Option Bounds
pointer_in k o p = pointer_bounds k.setting.rules o p.core.registers p.relations.pairs

-- the low bits of the address of its byte
abbrev pub bits_in : Stack → Op → Product → Option LowBits
bits_in k o p = known_bits k.setting.rules k.setting.is_whole o p.core.registers

-- what it reads
abbrev pub read_in : Stack → Op → AbsState → Product → AbsRead
read_in k o s p = read_around k.setting.rules s.summary.aside o (cut_read (pointer_in k o p) (read_of o p.core))

-- what is known of that
abbrev pub word_in : Stack → Program → List ℕ → Op → AbsState → Product → Halves
word_in k program rom o s p =
    word_by k.setting.rules k.setting k.region program rom (values_of p.core.registers p.relations.pairs) (pointed_bits (pointer_of o) p.core.registers)
    (with_core s p.core) (read_in k o s p)

-- what it does, next being the address behind it
unfoldable pub effect_in : Stack → Program → List ℕ → Op → ℕ → AbsState → Product → AbsEffect
effect_in k program rom o next s p =
    let word = word_in k program rom o s p in
    marked (marks k o s p.core) o
    (refined (pointer_in k o p) (bits_in k o p) (known_carry k.setting.rules o (sp_bounds k.setting s) p.core.registers p.relations.pairs)
    (transfer k.setting.is_whole o next (sp_halves k.setting s) p.core word.low word.high))

-- what that does to the stack
unfoldable pub taken_move : Stack → Program → List ℕ → Row → ℕ → AbsState → Product → StackMove
taken_move k program rom row next s p = stack_move k (around_of k s p.core) row.op (effect_in k program rom row.op next s p).write (pointer_in k row.op p)

-- The instruction is taken, with the core and what is known together p, which are settled, and a cell that its condition
-- tells; next is the address behind it; each part by itself.
unfoldable pub taken_parts : Stack → Program → List ℕ → Row → ℕ → AbsState → Product → Option Cell → Successor
taken_parts k program rom row next s p cell =
    let effect = effect_in k program rom row.op next s p in
    let m = stack_move k (around_of k s p.core) row.op effect.write (pointer_in k row.op p) in
    record {
      read = read_in k row.op s p;
      write = effect.write;
      target =
          refined_target k.setting.rules k.setting row.op next (word_in k program rom row.op s p) p.core (pointer_in k row.op p) m (target_of row.op next p.core);
      next = next;
      state = with_core (moved_state k (kind_of rom) cell m effect.write s) (core_behind k.setting.is_whole (kind_of rom) m row.cycles effect.write effect.core);
    }

-- the same states, of which something else is known together
abbrev pub related_successor : Relations → Successor → Successor
related_successor r t = record t { state = with_relations r t.state }

-- what is known together behind it
unfoldable pub relations_behind : Stack → Program → List ℕ → Op → AbsState → Product → Relations
relations_behind k program rom o s p =
    relations_after k.setting.rules k.setting.is_whole (stack_held k.setting k.region (length s.items)) o (sp_bounds k.setting s) p.core.registers
    (word_in k program rom o s p).low p.relations

-- the same states, which say something else of the whole program
abbrev pub said_successor : SummaryParts → Successor → Successor
said_successor m t = record t { state = with_summary m t.state }

-- what is said of the whole program behind it, where t is the successor but for that
unfoldable pub summary_behind : Stack → Program → Op → AbsState → Product → StackMove → Successor → SummaryParts
summary_behind k program o s p m t = summary_by k.setting.rules k program o s p m t.write t.state.cells

-- all of it
unfoldable pub taken_successor : Stack → Program → List ℕ → Row → ℕ → AbsState → Branch → Successor
taken_successor k program rom row next s b =
    let p = product_of b.core b.relations in
    let t = taken_parts k program rom row next s p b.cell in
    said_successor (summary_behind k program row.op s p (taken_move k program rom row next s p) t) (related_successor (relations_behind k program rom row.op s p) t)

-- it isn't taken: nothing happens but that time passes
unfoldable pub untaken_successor : Stack → Row → ℕ → AbsState → Branch → Successor
untaken_successor k row next s b =
    record {
      read = read.Nothing;
      write = write.Nothing;
      target = target.At next;
      next = next;
      state = with_relations b.relations (ended false row.cycles_not_taken (with_cell_if k.setting b.cell (with_core s b.core)));
    }

abbrev pub with_product : Successor → Product → Successor
with_product t p = record t { state = with_relations p.relations (with_core t.state p.core) }

-- the states behind are reduced, where the pairs lay in these bounds as the procedure was entered; where nothing is meant it isn't
-- possible. What the instruction stored may be refused yet, so that any bytes may stand where links read memory.
unfoldable pub reduced_successor : Rules → PairBounds → Successor → Option Successor
reduced_successor rules entered t = option_map (with_product t) (reduced rules entered any_pairs t.state.core t.state.relations)

-- a successor, where it is possible
abbrev pub some_if : Bool → Successor → Option Successor
some_if false t = None
some_if true t = Some t

-- interrupts became on while the processor stays on HALT
abbrev pub woken : Core → Core
woken core = record core { ime = only_on }

unfoldable pub staying_successor : ℕ → AbsState → Successor
staying_successor a s =
    record { read = read.Nothing; write = write.Nothing; target = target.At a; next = a; state = with_relations s.relations (ended false 1 (with_core s (woken s.core))) }

-- HALT with IME pending: where an interrupt is enabled and requested, the processor stays on it (halt)
unfoldable pub may_stay : Op → Core → Bool
may_stay op.Halt core = core.ime.pending && may_enable core.ie
may_stay _ core = false

unfoldable pub stays : Row → ℕ → AbsState → Option Successor
stays row a s = if may_stay row.op s.core then Some (staying_successor a s) else None

-- the states before are settled and so reduced; none where nothing is meant
unfoldable pub product_before : Program → Rules → PairBounds → AbsState → Option Product
product_before program rules entered s = reduced rules entered (bytes_read program s) (core_settle s.core) s.relations

-- the item at the address among the places, by the rules of version 4
abbrev pub item_of : Setting → AbsState → Option ℕ → Option Val
item_of z s None = None
item_of z s (Some a) = if z.is_whole then item_at z s a else None

-- what is known of the byte at that address
abbrev pub memory_before : Stack → Program → AbsState → Product → Val
memory_before k program s p =
    item_or (item_of k.setting s p.relations.byte.address)
    (memory_of program (values_of p.core.registers p.relations.pairs) s.cells s.summary p.relations.byte.address)

-- of a side, which may tell of an item: reduced, and with the places that are left
unfoldable pub settled_way : Stack → Option Cell → Core → Successor → Option Successor
settled_way k cell core t =
    held_way k.setting.rules k (reduced_successor k.setting.rules k.setting.entered (told_successor (told_by k.setting.rules k cell) core t))

abbrev pub taken_by_side : Stack → Program → List ℕ → Row → ℕ → AbsState → Branch → Option Successor
taken_by_side k program rom row next s b =
    settled_way k b.cell s.core (taken_successor k program rom row next s (branch_outside k.region b))

abbrev pub not_taken_by_side : Stack → Row → ℕ → AbsState → Branch → Option Successor
not_taken_by_side k row next s b = settled_way k b.cell s.core (untaken_successor k row next s (branch_outside k.region b))

abbrev pub taken_from : Stack → Program → List ℕ → Row → ℕ → AbsState → Product → Option Successor
taken_from k program rom row next s p =
    option_and_then (taken_by_side k program rom row next s) (taken_side row.op (memory_before k program s p) p.core p.relations)

abbrev pub not_taken_from : Stack → Program → Row → ℕ → AbsState → Product → Option Successor
not_taken_from k program row next s p =
    option_and_then (not_taken_by_side k row next s) (not_taken_side row.op (memory_before k program s p) p.core p.relations)

-- each of the possible successors of the instruction at an address
abbrev pub way_taken : Stack → Program → List ℕ → Row → ℕ → AbsState → Option Successor
way_taken k program rom row a s = option_and_then (taken_from k program rom row ((a + row.length) % 65536) s) (product_before program k.setting.rules k.setting.entered s)

abbrev pub way_not_taken : Stack → Program → Row → ℕ → AbsState → Option Successor
way_not_taken k program row a s = option_and_then (not_taken_from k program row ((a + row.length) % 65536) s) (product_before program k.setting.rules k.setting.entered s)

abbrev pub way_staying : Program → Rules → PairBounds → Row → ℕ → AbsState → Option Successor
way_staying program rules entered row a s = option_and_then (λ (p : Product). stays row a s) (product_before program rules entered s)

-- all of them
unfoldable pub successors_of : Stack → Program → List ℕ → Row → ℕ → AbsState → Successors
successors_of k program rom row a s =
    record { taken = way_taken k program rom row a s; not_taken = way_not_taken k program row a s; stays = way_staying program k.setting.rules k.setting.entered row a s }

-- ---- tests of all of them

abbrev pub has : (Successor → Bool) → Option Successor → Bool
has test None = false
has test (Some t) = test t

-- one of them passes a test
unfoldable pub any_successor : (Successor → Bool) → Successors → Bool
any_successor test t = has test t.taken || has test t.not_taken || has test t.stays
