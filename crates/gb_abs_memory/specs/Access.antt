-- Loads and stores of abstract states: what is refused, what a load gives, and what a store leaves
-- (Memory map; MBCs; OAM DMA transfer; the areas are own).
use Rattle.std.specs.Prelude.{ℕ, zero, suc, ◌+◌, ◌-◌, Bool, true, false, not, ◌&&◌, ◌||◌, ◌==◌, nat_lt, nat_le, if◌then◌else◌, List, Option, Some, None, Result, Ok, Err}
use Rattle.std.specs.List.{list_any}
use Rattle.gb_ops.specs.declared.machine.Kind.{Kind}
use Rattle.gb_ops.specs.declared.machine.Region.{Region}
use Rattle.gb_ops.specs.Cartridge.{is_within, kind_of, has_ram_or_clock}
use Rattle.gb_ops.specs.Memory.{rom_byte}
use Rattle.gb_domain.specs.declared.types.Val.{Val}
use Rattle.gb_domain.specs.declared.types.Cell.{Cell}
use Rattle.gb_domain.specs.declared.types.Core.{Core}
use Rattle.gb_domain.specs.declared.types.Range.{Range}
use Rattle.gb_domain.specs.Types.{AbsState}
use Rattle.gb_domain.specs.declared.setting.Setting.{Setting}
use Rattle.gb_domain.specs.declared.rules.Rules.{Rules}
use Rattle.gb_domain.specs.declared.rules.Rules.TheVariants.{Simple, Extended}
use Rattle.gb_domain.specs.Limits.{cell_room}
use Rattle.gb_domain.specs.Areas.{meets}
use Rattle.gb_domain.specs.Settings.{known_base}
use Rattle.gb_abs.specs.Below.gb_vals.Vals.{any_val, single}
use Rattle.gb_abs.specs.declared.reason.Reason.{Reason}
use Rattle.gb_abs.specs.declared.reason.Reason.TheVariants as reason
use Rattle.gb_abs.specs.declared.span.Span.{Span}
use Rattle.gb_abs.specs.Span.{is_one, is_inside, may_meet}
use Rattle.gb_abs.specs.Storage.{is_ram}
use Rattle.gb_abs.specs.Covering.{cell_at}
use Rattle.gb_abs.specs.Cells.{with_cell, without_cells, widened_cells}
use Rattle.gb_abs.specs.Operations.{with_core}
use Rattle.gb_abs.specs.Located.{item_at}
use Rattle.gb_abs_memory.specs.declared.windows.Window.{Window}
use Rattle.gb_abs_memory.specs.declared.store.Area.{Area}
use Rattle.gb_abs_memory.specs.declared.store.Area.TheVariants as area
use Rattle.gb_abs_memory.specs.declared.store.Stored.{Stored}
use Rattle.gb_abs_memory.specs.Windows.{window_of, ctl_written}
use Rattle.gb_abs_memory.specs.Shown.{known_bank}
use Rattle.gb_abs_memory.specs.Items.{items_stored}

-- ---- what is refused

-- the gate may be closed, or there is nothing behind it
unfoldable pub may_be_closed : List ℕ → Core → Bool
may_be_closed rom core = core.ctl.gate.clear || not (has_ram_or_clock rom)

-- cartridge RAM may be met while it is closed
unfoldable pub meets_closed_ram : List ℕ → Core → Span → Bool
meets_closed_ram rom core span = may_meet 0xA000 0xBFFF span && may_be_closed rom core

-- an OAM transfer may run, which closes all but high RAM
unfoldable pub is_limited : Core → Span → Bool
is_limited core span = not (core.bound == 0) && not (is_inside 0xFF80 0xFFFE span)

-- an OAM transfer may be started that copies cartridge RAM, pages A0 to BF, while it is closed
unfoldable pub may_copy_closed_ram : List ℕ → Core → Span → Val → Bool
may_copy_closed_ram rom core span v = may_meet 0xFF46 0xFF46 span && nat_le v.lo 0xBF && nat_le 0xA0 v.hi && may_be_closed rom core

-- a store, or the OAM transfer that it starts, may meet closed cartridge RAM
unfoldable pub store_meets_closed_ram : List ℕ → Core → Span → Val → Bool
store_meets_closed_ram rom core span v = meets_closed_ram rom core span || may_copy_closed_ram rom core span v

-- an OAM transfer may be started or not, so that no bound would know of it
unfoldable pub may_start_oam_transfer : Span → Bool
may_start_oam_transfer span = not (is_one span) && may_meet 0xFF46 0xFF46 span

-- a store that a running transfer closes, or that may start one unseen
unfoldable pub is_store_limited : Core → Span → Bool
is_store_limited core span = is_limited core span || may_start_oam_transfer span

abbrev pub refused_or : {X : Type 0} → Option Reason → X → Result X Reason
refused_or None x = Ok x
refused_or (Some r) x = Err r

-- ---- loads

-- where a byte is kept: the echo of work RAM is the same byte
abbrev pub home_of : ℕ → ℕ
home_of a = if is_within 0xE000 0xFDFF a then a - 0x2000 else a

abbrev pub rom_val : List ℕ → ℕ → Option ℕ → Val
rom_val rom a None = any_val
rom_val rom a (Some bank) = single (rom_byte rom bank a)

-- what is known of the byte at an address: hardware and cartridge RAM read as any byte
unfoldable pub val_at : List ℕ → AbsState → ℕ → Val
val_at rom s a =
    if nat_lt a 0x8000 then rom_val rom a (known_bank rom s.core.ctl a)
    else if is_ram (home_of a) then cell_at (home_of a) s.cells
    else if a == 0xFFFF then s.core.ie
    else any_val

abbrev pub item_or : Option Val → Val → Val
item_or None v = v
item_or (Some item) v = item

-- what is known of the byte at an address of a load: an item of RAM, or what is known there else
unfoldable pub val_or_item : Setting → List ℕ → AbsState → ℕ → Val
val_or_item z rom s a = item_or (if is_ram a then item_at z s a else None) (val_at rom s a)

-- at most 256 addresses of one half of ROM
unfoldable pub is_table : Span → Bool
is_table span = nat_le span.first span.last && (is_inside 0x0000 0x3FFF span || is_inside 0x4000 0x7FFF span) && nat_le (span.last - span.first) 255

-- the least interval that holds another one and a byte
abbrev pub joined : Val → ℕ → Val
joined v n = record { lo = if nat_lt n v.lo then n else v.lo; hi = if nat_lt v.hi n then n else v.hi; low_bits = 0; origin = None }

-- the least interval that holds a byte of a bank, and so many behind it
abbrev pub table : List ℕ → ℕ → ℕ → ℕ → Val
table rom bank a zero = single (rom_byte rom bank a)
table rom bank a (suc more) = joined (table rom bank a more) (rom_byte rom bank (a + suc more))

abbrev pub table_by : Option ℕ → List ℕ → Span → Val
table_by None rom span = any_val
table_by (Some bank) rom span = table rom bank span.first (span.last - span.first)

-- by the rules of version 3, of one of several bytes of ROM the bounds are known
abbrev pub several_by : Rules → List ℕ → Core → Span → Val
several_by Simple rom core span = any_val
several_by Extended rom core span = if is_table span then table_by (known_bank rom core.ctl span.first) rom span else any_val

-- what is known of the byte that a load gives
unfoldable pub loaded_val : Setting → List ℕ → AbsState → Span → Val
loaded_val z rom s span = if is_one span then val_or_item z rom s span.first else several_by z.rules rom s.core span

-- the lowest reason against a load
unfoldable pub load_reason : List ℕ → Core → Span → Option Reason
load_reason rom core span =
    if meets_closed_ram rom core span then Some reason.CartridgeRam
    else if is_limited core span then Some reason.OamTransfer
    else None

unfoldable pub load : Setting → List ℕ → AbsState → Span → Result Val Reason
load z rom s span = refused_or (load_reason rom s.core span) (loaded_val z rom s span)

-- ---- stores

abbrev pub area_by : Option Window → Span → Option Area
area_by (Some w) span = Some (area.Controller w.register)
area_by None span =
    if is_inside 0x8000 0x9FFF span || is_inside 0xA000 0xBFFF span || is_inside 0xFE00 0xFF7F span then Some area.Hardware
    else if is_inside 0xC000 0xDFFF span || is_inside 0xFF80 0xFFFE span then Some area.Ram
    else if is_inside 0xFFFF 0xFFFF span then Some area.InterruptEnable
    else None

-- the area that all addresses lie in; a store has none in the echo of work RAM
unfoldable pub area_of : Kind → Span → Option Area
area_of k span = area_by (window_of k span) span

abbrev pub is_range : Span → Range → Bool
is_range span r = is_inside r.first r.last span

-- all of them lie in the stack region, below a base that is known
abbrev pub is_below_base : Option ℕ → Region → Span → Bool
is_below_base None region span = false
is_below_base (Some base) region span = is_inside region.first region.last span && nat_lt span.last base

-- RAM is stored to outside the stack region, inside one of the procedure's ranges; by the rules of version 3 main may store
-- anywhere, and another procedure inside one of its ranges, or in the stack region below its base
abbrev pub is_ram_allowed : Rules → Setting → Region → List Range → Span → Bool
is_ram_allowed Simple z region ranges span = not (meets region span.first span.last) && list_any (is_range span) ranges
is_ram_allowed Extended z region ranges span = z.is_main || list_any (is_range span) ranges || is_below_base (known_base z) region span

abbrev pub is_allowed : Setting → Option Area → Region → List Range → Span → Bool
is_allowed z None region ranges span = false
is_allowed z (Some area.Ram) region ranges span = is_ram_allowed z.rules z region ranges span
is_allowed z _ region ranges span = true

unfoldable pub is_storable : Setting → Kind → Region → List Range → Span → Bool
is_storable z k region ranges span = is_allowed z (area_of k span) region ranges span

-- the lowest reason against a store
unfoldable pub store_reason : Setting → List ℕ → Region → List Range → Core → Span → Val → Option Reason
store_reason z rom region ranges core span v =
    if not (is_storable z (kind_of rom) region ranges span) then Some reason.Store
    else if store_meets_closed_ram rom core span v then Some reason.CartridgeRam
    else if is_store_limited core span then Some reason.OamTransfer
    else None

-- the cell at one address of RAM gets the value; by the rules of version 3, which let the stack region be stored to, a byte there
-- gets no cell
abbrev pub one_stored : Rules → Region → Span → Val → List Cell → List Cell
one_stored Simple region span v cells = with_cell (cell_room Simple) (record { address = span.first; val = v }) cells
one_stored Extended region span v cells =
    if meets region span.first span.last then cells else with_cell (cell_room Extended) (record { address = span.first; val = v }) cells

-- the cells at several addresses: by the rules of versions 1 and 2 nothing is known of them any more, by those of version 3 they
-- may hold the value too; whole says that the rules are those of version 4
abbrev pub several_stored : Bool → Rules → Span → Val → List Cell → List Cell
several_stored whole Simple span v cells = without_cells span.first span.last cells
several_stored whole Extended span v cells = widened_cells whole span v cells

abbrev pub cells_stored : Bool → Rules → Region → Span → Val → List Cell → List Cell
cells_stored whole rules region span v cells = if is_one span then one_stored rules region span v cells else several_stored whole rules span v cells

-- of a store to RAM that may meet items and cells both effects count
unfoldable pub ram_stored : Setting → Region → Span → Val → AbsState → AbsState
ram_stored z region span v s =
    record s {
      items = items_stored z region span v s.core s.items;
      cells = cells_stored z.is_whole z.rules region span v s.cells;
    }

abbrev pub stored_in : Setting → Region → Option Area → Kind → Span → Val → AbsState → AbsState
stored_in z region (Some (area.Controller (Some r))) k span v s = with_core s (record s.core { ctl = ctl_written z.is_whole k r v s.core.ctl })
stored_in z region (Some area.Ram) k span v s = ram_stored z region span v s
stored_in z region (Some area.InterruptEnable) k span v s = with_core s (record s.core { ie = v })
stored_in z region _ k span v s = s

-- the state after a store
unfoldable pub stored_state : Setting → Region → Kind → Span → Val → AbsState → AbsState
stored_state z region k span v s = stored_in z region (area_of k span) k span v s

-- what a store makes of the core
abbrev pub stored_core_in : Bool → Option Area → Kind → Span → Val → Core → Core
stored_core_in w (Some (area.Controller (Some r))) k span v c = record c { ctl = ctl_written w k r v c.ctl }
stored_core_in w (Some area.InterruptEnable) k span v c = record c { ie = v }
stored_core_in w _ k span v c = c

unfoldable pub stored_core : Bool → Kind → Span → Val → Core → Core
stored_core w k span v c = stored_core_in w (area_of k span) k span v c

-- FF46 alone starts an OAM transfer
abbrev pub starts_oam_transfer : Span → Bool
starts_oam_transfer span = is_one span && (span.first == 0xFF46)

unfoldable pub store : Setting → List ℕ → Region → List Range → AbsState → Span → Val → Result Stored Reason
store z rom region ranges s span v =
    refused_or (store_reason z rom region ranges s.core span v)
    (record { state = stored_state z region (kind_of rom) span v s; starts = starts_oam_transfer span })
