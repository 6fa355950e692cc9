-- What a procedure begins with, which one is called, and what it may write (own rules: calls).
use Rattle.std.specs.Prelude.{ℕ, ◌+◌, ◌-◌, Bool, true, false, ◌&&◌, ◌||◌, ◌==◌, nat_le, List, [], ◌∷◌, length, map, slice_get, Option, Some, None}
use Rattle.std.specs.List.{list_any, list_all}
use Rattle.gb_ops.specs.declared.machine.Region.{Region}
use Rattle.gb_ops.specs.declared.registers.Registers.{Registers}
use Rattle.gb_domain.specs.LowBits.{no_low_bits}
use Rattle.gb_domain.specs.declared.types.Origin.TheVariants as origin
use Rattle.gb_domain.specs.declared.types.Val.{Val}
use Rattle.gb_domain.specs.declared.types.Cell.{Cell}
use Rattle.gb_domain.specs.declared.types.Core.{Core}
use Rattle.gb_domain.specs.declared.types.Range.{Range}
use Rattle.gb_domain.specs.declared.rules.Rules.{Rules}
use Rattle.gb_domain.specs.declared.rules.Rules.TheVariants.{Simple, Extended}
use Rattle.gb_domain.specs.declared.setting.Setting.{Setting}
use Rattle.gb_domain.specs.Limits.{cell_room}
use Rattle.gb_domain.specs.Settings.{known_base}
use Rattle.gb_domain.specs.Summaries.{Program, SummaryParts, no_summary}
use Rattle.gb_domain.specs.Types.{AbsState, ProcedureParts, Node, all_or_none}
use Rattle.gb_domain.specs.Certificate.{Certificate}
use Rattle.gb_product.specs.Below.gb_abs.Cells.{with_cell}
use Rattle.gb_product.specs.Below.gb_abs.Origins.{own, cell_without_origin}
use Rattle.gb_abs_memory.specs.Access.{is_range}
use Rattle.gb_product.specs.Covering.{covers}
use Rattle.gb_product.specs.Held.{relations_outside}
use Rattle.gb_calls.specs.Parts.{byte_there}
use Rattle.gb_calls.specs.TakenOver.{taken_over}

-- ---- entering

abbrev pub own_registers : Registers Val → Registers Val
own_registers r = record {
  a = own origin.A r.a;
  b = own origin.B r.b;
  c = own origin.C r.c;
  d = own origin.D r.d;
  e = own origin.E r.e;
  h = own origin.H r.h;
  l = own origin.L r.l;
}

abbrev pub entered_core : Core → Core
entered_core s = record s {
  registers = own_registers s.registers;
  flags = record s.flags { is_own = true };
  ie = own origin.Ie s.ie;
  ctl = record s.ctl { kept = all_or_none true };
}

-- the items with which it begins, its entry node having k: by the rules of versions 1 and 2 none, the return word being no item
-- of any procedure's; by those of version 3 its caller's newest
abbrev pub items_entered : Rules → ℕ → List Val → List Val
items_entered Simple k items = []
items_entered Extended k items = taken_over k items

-- what is said of the whole program: by the rules of versions 1 and 2 nothing
abbrev pub summary_entered : Rules → SummaryParts → SummaryParts
summary_entered Simple s = no_summary
summary_entered Extended s = s

-- the byte at a kept address, the one with this number, as s knows it: a copy of what it was as the procedure was entered
abbrev pub kept_cell : Program → AbsState → ℕ → ℕ → Cell
kept_cell program s i a = record { address = a; val = own (origin.Kept i) (byte_there program s a) }

-- cells with those of kept addresses, the first of which has the number i: one at the address becomes the copy, else that is put in
-- its place by address where there is room
abbrev pub with_kept : Program → Rules → AbsState → ℕ → List ℕ → List Cell → List Cell
with_kept program rules s i [] cells = cells
with_kept program rules s i (a ∷ kept) cells =
    with_kept program rules s (i + 1) kept (with_cell (cell_room rules) (kept_cell program s i a) cells)

-- what a procedure with these kept addresses begins with that is called in s: each register, the flags and IE are their own origins,
-- the controller is kept, the cells are no copies but for the bytes at these addresses, what is known together stays but for an item
-- among the places, and what is said of the whole program stays
unfoldable pub entered_by : Program → Region → Rules → ℕ → List ℕ → AbsState → AbsState
entered_by program region rules k kept s =
    record s {
      core = entered_core s.core;
      items = items_entered rules k s.items;
      cells = with_kept program rules s 0 kept (map cell_without_origin s.cells);
      relations = relations_outside region s.relations;
      summary = summary_entered rules s.summary;
    }

-- ---- the callee

-- a base that is said is so many bytes below the caller's, which then is said too
abbrev pub is_base_below : Option ℕ → ℕ → ℕ → Bool
is_base_below None base below = base == 0
is_base_below (Some caller) base below = base == 0 || base + below == caller

-- by the rules of versions 1 and 2 nothing is taken over; by those of version 3 the caller has the k items among its n, and the
-- others wait above the base
abbrev pub fits_by : Rules → Option ℕ → ℕ → ℕ → ℕ → Bool
fits_by Simple caller base k n = true
fits_by Extended caller base k n = nat_le k n && is_base_below caller base (n - k)

-- a procedure with this base, whose entry node has k items, may take them of a caller's n
unfoldable pub fits : Setting → ℕ → ℕ → ℕ → Bool
fits z base k n = fits_by z.rules (known_base z) base k n

-- a procedure with this base, these kept addresses and t at its entry may begin where it is called in s
unfoldable pub may_begin : Program → Region → Setting → AbsState → ℕ → List ℕ → AbsState → Bool
may_begin program region z s base kept t =
    fits z base (length t.items) (length s.items) && covers program (entered_by program region z.rules (length t.items) kept s) t

-- the node begins at the address and stands for the states
abbrev pub is_entry_node : Program → Region → Setting → ℕ → AbsState → ℕ → List ℕ → Option Node → Bool
is_entry_node program region z a s base kept None = false
is_entry_node program region z a s base kept (Some n) = (n.address == a) && may_begin program region z s base kept n.state

-- the procedure begins so
unfoldable pub is_entry : Program → Certificate → Setting → ℕ → AbsState → ProcedureParts → Bool
is_entry program cert z a s p = is_entry_node program cert.region z a s p.base p.kept (slice_get cert.nodes p.entry)

abbrev pub or_later : Bool → ℕ → Option ℕ → Option ℕ
or_later true i later = Some i
or_later false i later = later

-- the first of these procedures that begins so; the first of them has the number i
abbrev pub entry_from : Program → Certificate → Setting → ℕ → AbsState → ℕ → List ProcedureParts → Option ℕ
entry_from program cert z a s i [] = None
entry_from program cert z a s i (p ∷ ps) = or_later (is_entry program cert z a s p) i (entry_from program cert z a s (i + 1) ps)

abbrev pub entry_behind_main : Program → Certificate → Setting → ℕ → AbsState → List ProcedureParts → Option ℕ
entry_behind_main program cert z a s [] = None
entry_behind_main program cert z a s (main ∷ ps) = entry_from program cert z a s 1 ps

-- the callee of a call in s, which stands in the setting: the first procedure but main whose entry node has the address, and that
-- may begin there
unfoldable pub callee_of : Program → Certificate → Setting → ℕ → AbsState → Option ℕ
callee_of program cert z a s = entry_behind_main program cert z a s cert.procedures

-- ---- ranges

-- the range lies in one of the others
abbrev pub is_in_one : List Range → Range → Bool
is_in_one outer r = list_any (is_range (record { first = r.first; last = r.last; low = no_low_bits })) outer

-- each range of the callee lies in one of the caller's
unfoldable pub are_ranges_inside : List Range → List Range → Bool
are_ranges_inside inner outer = list_all (is_in_one outer) inner
