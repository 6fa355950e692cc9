-- The states behind an instruction, by the stack that it moves, what it writes and its core (abstract semantics; own).
use Rattle.std.specs.Prelude.{ℕ, ◌+◌, ◌%◌, Bool, true, false, ◌||◌, if◌then◌else◌, Option, Some, None, is_some}
use Rattle.gb_ops.specs.declared.machine.Kind.{Kind}
use Rattle.gb_ops.specs.declared.machine.Region.{Region}
use Rattle.gb_domain.specs.declared.relations.Relations.{Relations}
use Rattle.gb_domain.specs.declared.setting.Setting.{Setting}
use Rattle.gb_domain.specs.declared.types.Cell.{Cell}
use Rattle.gb_domain.specs.declared.types.Core.{Core}
use Rattle.gb_domain.specs.Types.{AbsState}
use Rattle.gb_domain.specs.Summaries.{SummaryParts}
use Rattle.gb_domain.specs.Limits.{cell_room}
use Rattle.gb_product.specs.Below.gb_abs.Span.{one}
use Rattle.gb_product.specs.Below.gb_abs.Cells.{with_cell}
use Rattle.gb_product.specs.Below.gb_abs.Operations.{core_end, with_core}
use Rattle.gb_product.specs.Below.gb_abs_effects.declared.writes.AbsWrite.{AbsWrite}
use Rattle.gb_product.specs.Below.gb_abs_effects.declared.writes.AbsWrite.TheVariants as write
use Rattle.gb_abs_memory.specs.declared.store.Area.{Area}
use Rattle.gb_abs_memory.specs.declared.store.Area.TheVariants as area
use Rattle.gb_abs_memory.specs.Items.{items_stored}
use Rattle.gb_abs_memory.specs.Access.{area_of, stored_state, stored_core, starts_oam_transfer}
use Rattle.gb_successors.specs.declared.stacks.Stack.{Stack}
use Rattle.gb_successors.specs.declared.stacks.StackMove.{StackMove}
use Rattle.gb_successors.specs.declared.stacks.StackMove.TheVariants as move
use Rattle.gb_successors.specs.declared.way.Moved.{Moved}
use Rattle.gb_successors.specs.declared.way.Told.{Told}
use Rattle.gb_successors.specs.Stacks.{with_stack_moved, moved_core}

-- ---- writes

-- the address behind an address
abbrev pub behind : ℕ → ℕ
behind a = (a + 1) % 65536

-- the states after a write: a word is two stores, the low byte first; a word that is pushed changes no cell
unfoldable pub written : Setting → Region → Kind → AbsWrite → AbsState → AbsState
written z region k (write.Byte span v) s = stored_state z region k span v s
written z region k (write.Word a low high) s = stored_state z region k (one (behind a)) high (stored_state z region k (one a) low s)
written z region k _ s = s

-- the write starts an OAM transfer
unfoldable pub starts : AbsWrite → Bool
starts (write.Byte span v) = starts_oam_transfer span
starts (write.Word a low high) = starts_oam_transfer (one a) || starts_oam_transfer (one (behind a))
starts _ = false

-- an instruction of n M-cycles has ended
unfoldable pub ended : Bool → ℕ → AbsState → AbsState
ended is_started n s = with_core s (core_end is_started n s.core)

-- other things are known together; all else stays
abbrev pub with_relations : Relations → AbsState → AbsState
with_relations r s = record s { relations = r }

-- other things are said of the whole program; all else stays
abbrev pub with_summary : SummaryParts → AbsState → AbsState
with_summary m s = record s { summary = m }

-- what is said, or what was said before
abbrev pub summary_or : Option SummaryParts → SummaryParts → SummaryParts
summary_or None before = before
summary_or (Some m) before = m

-- ---- the states behind an instruction, by their core and the states before

-- it may change items
abbrev pub moves_stack : StackMove → Bool
moves_stack move.Stay = false
moves_stack m = true

abbrev pub is_in_ram : Option Area → Bool
is_in_ram (Some area.Ram) = true
is_in_ram _ = false

-- a write may change a cell
unfoldable pub changes_cells : Kind → AbsWrite → Bool
changes_cells k (write.Byte span v) = is_in_ram (area_of k span)
changes_cells k (write.Word a low high) = true
changes_cells k _ = false

-- what changes items or cells, if something does
unfoldable pub move_of : Stack → Kind → Option Cell → StackMove → AbsWrite → Option Moved
move_of k kind cell m what =
    if is_some cell || moves_stack m || changes_cells kind what
    then Some (record { stack = k; kind = kind; cell = cell; stack_move = m })
    else None

-- what its condition says of a byte of memory is known
unfoldable pub with_cell_if : Setting → Option Cell → AbsState → AbsState
with_cell_if z None s = s
with_cell_if z (Some c) s = record s { cells = with_cell (cell_room z.rules) c s.cells }

-- the items and cells behind an instruction, of those before: by what its condition says, by the stack's move, and by the write
unfoldable pub moved_state : Stack → Kind → Option Cell → StackMove → AbsWrite → AbsState → AbsState
moved_state k kind cell m what s =
    written k.setting k.region kind what (with_stack_moved k.setting m (with_cell_if k.setting cell s))

abbrev pub moved_by : Option Moved → AbsWrite → AbsState → AbsState
moved_by None what s = s
moved_by (Some m) what s = moved_state m.stack m.kind m.cell m.stack_move what s

-- what a side tells of an item is known of the states behind; the core is that before
abbrev pub told_behind : Option Told → Core → AbsState → AbsState
told_behind None core s = s
told_behind (Some t) core s = record s { items = items_stored t.setting t.region (one t.cell.address) t.cell.val core s.items }

abbrev pub state_behind : Option Moved → AbsWrite → Core → Relations → Option SummaryParts → AbsState → AbsState
state_behind m what core r said s = with_summary (summary_or said s.summary) (with_relations r (with_core (moved_by m what s) core))

-- what a write makes of the core; whole says that the rules are those of version 4
unfoldable pub written_core : Bool → Kind → AbsWrite → Core → Core
written_core whole k (write.Byte span v) core = stored_core whole k span v core
written_core whole k (write.Word a low high) core = stored_core whole k (one (behind a)) high (stored_core whole k (one a) low core)
written_core whole k _ core = core

unfoldable pub core_behind : Bool → Kind → StackMove → ℕ → AbsWrite → Core → Core
core_behind whole k m n what core = core_end (starts what) n (written_core whole k what (moved_core m core))
