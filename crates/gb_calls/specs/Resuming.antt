-- What a caller goes on with behind a call (own rules: calls).
use Rattle.std.specs.Prelude.{◌≡◌, ℕ, ◌+◌, ◌-◌, ◌*◌, ◌/◌, ◌<◌, Bool, true, false, not, ◌&&◌, ◌||◌, if◌then◌else◌, nat_lt, nat_le, List, [], ◌∷◌, length, map, take, Option, Some, None, option_map, option_and_then}
use Rattle.std.specs.List.{filter, list_all, list_any}
use Rattle.gb_ops.specs.declared.machine.Kind.{Kind}
use Rattle.gb_ops.specs.declared.machine.Kind.TheVariants as kind
use Rattle.gb_ops.specs.declared.machine.Region.{Region}
use Rattle.gb_ops.specs.declared.registers.Registers.{Registers}
use Rattle.gb_domain.specs.declared.types.Origin.TheVariants as origin
use Rattle.gb_domain.specs.declared.types.Val.{Val}
use Rattle.gb_domain.specs.declared.types.Cell.{Cell}
use Rattle.gb_domain.specs.declared.types.Ctl.{Ctl}
use Rattle.gb_domain.specs.declared.types.KeptBanks.{KeptBanks}
use Rattle.gb_domain.specs.declared.types.Core.{Core}
use Rattle.gb_domain.specs.declared.types.Range.{Range}
use Rattle.gb_domain.specs.declared.pairs.Link.{Link}
use Rattle.gb_domain.specs.declared.pairs.Other.{Other}
use Rattle.gb_domain.specs.declared.pairs.Other.TheVariants as other
use Rattle.gb_domain.specs.declared.places.OneByte.{OneByte}
use Rattle.gb_domain.specs.declared.relations.Relations.{Relations}
use Rattle.gb_domain.specs.declared.places.StackBytes.{StackBytes}
use Rattle.gb_domain.specs.declared.rules.Rules.{Rules}
use Rattle.gb_domain.specs.declared.rules.Rules.TheVariants.{Simple, Extended}
use Rattle.gb_domain.specs.declared.setting.Setting.{Setting}
use Rattle.gb_domain.specs.Limits.{cell_room, item_room}
use Rattle.gb_domain.specs.Places.{no_byte}
use Rattle.gb_domain.specs.Relations.{no_relations}
use Rattle.gb_domain.specs.Summaries.{SummaryParts, Program, no_summary}
use Rattle.gb_domain.specs.Types.{AbsState}
use Rattle.gb_product.specs.Below.gb_pairs.declared.values.Values.{Values}
use Rattle.gb_product.specs.Below.gb_pairs.Reduced.{reduced}
use Rattle.gb_domain.specs.declared.pairs.PairBounds.{PairBounds}
use Rattle.gb_product.specs.Below.gb_relations.declared.returned.Kept.{Kept}
use Rattle.gb_product.specs.Below.gb_relations.Compared.{only_of_a}
use Rattle.gb_product.specs.Below.gb_relations.Returned.{returned}
use Rattle.gb_product.specs.Below.gb_relations.Transfer.{values_of}
use Rattle.gb_product.specs.Below.gb_abs.Covering.{cell_at}
use Rattle.gb_product.specs.Below.gb_abs.Origins.{is_own}
use Rattle.gb_product.specs.Below.gb_abs.Span.{one}
use Rattle.gb_product.specs.Covering.{values_in, read_in}
use Rattle.gb_product.specs.Held.{stack_held, held_relations}
use Rattle.gb_product.specs.Reduced.{reduced_controller}
use Rattle.gb_product.specs.Below.gb_summaries.declared.returning.GivenBack.{GivenBack}
use Rattle.gb_product.specs.Below.gb_summaries.Returning.{is_byte_kept, summary_returned}
use Rattle.gb_abs_memory.specs.Access.{is_range}
use Rattle.gb_abs_memory.specs.Windows.{low_bank_least, low_bank_most}
use Rattle.gb_calls.specs.declared.resuming.Resumed.{Resumed}
use Rattle.gb_calls.specs.declared.resuming.Resumed.TheVariants.{Nothing, States, TooDeep}
use Rattle.gb_calls.specs.declared.resuming.Return.{Return}
use Rattle.gb_calls.specs.declared.resuming.Return.TheVariants as return
use Rattle.gb_calls.specs.TakenOver.{given_back_items}
use Rattle.gb_calls.specs.Told.{is_left, place_back, val_back, cell_back}

-- ---- the core

abbrev pub registers_back : Program → Bool → List ℕ → AbsState → Registers Val → Registers Val
registers_back program whole kept s x = record {
  a = place_back program whole kept s origin.A x.a;
  b = place_back program whole kept s origin.B x.b;
  c = place_back program whole kept s origin.C x.c;
  d = place_back program whole kept s origin.D x.d;
  e = place_back program whole kept s origin.E x.e;
  h = place_back program whole kept s origin.H x.h;
  l = place_back program whole kept s origin.L x.l;
}

-- what the caller has kept, where the callee has kept it too
abbrev pub kept_back : KeptBanks → KeptBanks → KeptBanks
kept_back s x = record {
  bank = x.bank && s.bank;
  second = x.second && s.second;
  gate = x.gate && s.gate;
  mode = x.mode && s.mode;
  high_bank = x.high_bank && s.high_bank;
}

-- the callee has kept the whole bank, which MBC1 and MBC3 have in one register
abbrev pub is_bank_kept : Kind → KeptBanks → Bool
is_bank_kept kind.Mbc1 x = x.bank
is_bank_kept kind.Mbc3 x = x.bank
is_bank_kept _ x = x.bank && x.high_bank

-- the bounds of a bank, and of one whose halves come from two
abbrev pub whole_bank : Ctl → ℕ × ℕ
whole_bank c = (c.bank_lo, c.bank_hi)

abbrev pub joined_halves : Ctl → Ctl → ℕ × ℕ
joined_halves high low = (high.bank_lo / 256 * 256 + low_bank_least low, high.bank_hi / 256 * 256 + low_bank_most low)

-- the bank's bounds: what the callee has kept is the caller's, of MBC5 each half by itself
unfoldable pub bank_back : Kind → Ctl → Ctl → ℕ × ℕ
bank_back kind.Mbc5 s x = joined_halves (if x.kept.high_bank then s else x) (if x.kept.bank then s else x)
bank_back kind.Rom s x = whole_bank (if is_bank_kept kind.Rom x.kept then s else x)
bank_back kind.Mbc1 s x = whole_bank (if is_bank_kept kind.Mbc1 x.kept then s else x)
bank_back kind.Mbc3 s x = whole_bank (if is_bank_kept kind.Mbc3 x.kept then s else x)

-- each register that the callee has kept is the caller's, else its exit says what it is
abbrev pub controller_back : Kind → Ctl → Ctl → Ctl
controller_back k s x = record {
  bank_lo = (bank_back k s x).0;
  bank_hi = (bank_back k s x).1;
  second_lo = if x.kept.second then s.second_lo else x.second_lo;
  second_hi = if x.kept.second then s.second_hi else x.second_hi;
  gate = if x.kept.gate then s.gate else x.gate;
  mode = if x.kept.mode then s.mode else x.mode;
  kept = kept_back s.kept x.kept;
}

-- interrupts and the bound are the exit's, the stack is the caller's
abbrev pub core_back : Program → Bool → List ℕ → AbsState → Core → Core
core_back program whole kept s x = record {
  ime = x.ime;
  bound = x.bound;
  stack_set = s.core.stack_set;
  ctl = controller_back program.kind s.core.ctl x.ctl;
  flags = if x.flags.is_own then s.core.flags else x.flags;
  ie = place_back program whole kept s origin.Ie x.ie;
  registers = registers_back program whole kept s x.registers;
}

-- ---- cells

-- the address lies in one of the ranges
abbrev pub is_address_in : List Range → ℕ → Bool
is_address_in ranges a = list_any (is_range (one a)) ranges

abbrev pub is_in_ranges : List Range → Cell → Bool
is_in_ranges ranges c = is_address_in ranges c.address

abbrev pub is_out_of_ranges : List Range → Cell → Bool
is_out_of_ranges ranges c = if is_in_ranges ranges c then false else true

-- a cell in its place by address
abbrev pub inserted : Cell → List Cell → List Cell
inserted c [] = c ∷ []
inserted c (d ∷ ds) = if nat_lt c.address d.address then c ∷ d ∷ ds else d ∷ inserted c ds

-- cells among others, by address
abbrev pub merged : List Cell → List Cell → List Cell
merged [] others = others
merged (c ∷ cs) others = merged cs (inserted c others)

-- the caller's cells outside the callee's ranges, and the exit's inside, each as it is given back, by address
abbrev pub all_cells_back : (Cell → Cell) → List Range → List Cell → List Cell → List Cell
all_cells_back given ranges caller exit =
    merged (map given (filter (is_in_ranges ranges) exit)) (filter (is_out_of_ranges ranges) caller)

-- the first of them, as many as there is room for
unfoldable pub cells_back : ℕ → (Cell → Cell) → List Range → List Cell → List Cell → List Cell
cells_back room given ranges caller exit = take room (all_cells_back given ranges caller exit)

-- ---- bytes that are given back

-- those of the kept addresses, the first of which has the number i, at which the exit has a cell with just this copy
abbrev pub given_from : ℕ → List ℕ → List Cell → List ℕ
given_from i [] exit = []
given_from i (a ∷ kept) exit =
    if is_own (origin.Kept i) (cell_at a exit) then a ∷ given_from (i + 1) kept exit else given_from (i + 1) kept exit

unfoldable pub given_addresses : List ℕ → List Cell → List ℕ
given_addresses kept exit = given_from 0 kept exit

-- ---- by the rules of versions 1 and 2

-- what is said of the caller's A holds again where A and the flags are the caller's
abbrev pub byte_back : AbsState → AbsState → OneByte
byte_back s x =
    if is_own origin.A x.core.registers.a && x.core.flags.is_own then only_of_a s.relations.byte else no_byte

-- nothing is known of the whole program, nor of the controller's kind
abbrev pub unknown_program : Program
unknown_program = record { is_whole = false; kind = kind.Rom; facts = [] }

-- the caller holds what it held, its cells and a comparison of A as far as they are kept
unfoldable pub resumed_alone : List Range → AbsState → AbsState → AbsState
resumed_alone ranges s x =
    record {
      core = core_back unknown_program false [] s x.core;
      items = s.items;
      cells = cells_back (cell_room Simple) (cell_back unknown_program false [] s) ranges s.cells x.cells;
      relations = record no_relations { byte = byte_back s x };
      summary = no_summary;
    }

-- ---- by the rules of version 3

abbrev pub own_by_register : Registers Val → Registers Bool
own_by_register r = record {
  a = is_own origin.A r.a;
  b = is_own origin.B r.b;
  c = is_own origin.C r.c;
  d = is_own origin.D r.d;
  e = is_own origin.E r.e;
  h = is_own origin.H r.h;
  l = is_own origin.L r.l;
}

abbrev pub cell_of : Other → Option ℕ
cell_of (other.Cell a) = Some a
cell_of _ = None

-- the byte of memory that a link reads, if it reads one, is given back as it was
abbrev pub is_read_kept : List Range → List ℕ → Option Link → Bool
is_read_kept ranges addresses None = true
is_read_kept ranges addresses (Some l) = is_byte_kept ranges addresses (cell_of l.other)

-- what a callee with these ranges and this exit gives back as it was, and the bytes at these addresses, of what the caller knows
-- together
abbrev pub kept_by : List Range → List ℕ → Relations → Core → Kept
kept_by ranges addresses known exit = record {
  registers = own_by_register exit.registers;
  flags = exit.flags.is_own;
  address = is_byte_kept ranges addresses known.byte.address;
  read = record {
    bc = is_read_kept ranges addresses known.pairs.bc.link;
    de = is_read_kept ranges addresses known.pairs.de.link;
    hl = is_read_kept ranges addresses known.pairs.hl.link;
  };
}

-- what a callee with this exit gives back as it was, of what is said of the whole program
abbrev pub given_by : Core → GivenBack
given_by exit = record { registers = own_by_register exit.registers; banks = exit.ctl.kept }

-- a state holds all of the cells: the caller's outside the callee's ranges, and the exit's inside
abbrev pub has_room : List Range → List Cell → List Cell → Bool
has_room ranges caller exit = nat_le (length (filter (is_out_of_ranges ranges) caller) + length (filter (is_in_ranges ranges) exit)) 64

-- what is said of the whole program on either side, as far as it holds where the callee returns
unfoldable pub summary_back : Program → Bool → List Range → List ℕ → AbsState → AbsState → SummaryParts
summary_back program whole ranges kept s x =
    summary_returned program ranges (given_by x.core) (given_addresses kept x.cells) (values_in s) s.cells s.summary x.cells x.summary
    (has_room ranges s.cells x.cells) (cells_back (cell_room Extended) (cell_back program whole kept s) ranges s.cells x.cells)

-- the caller's waiting items and the exit's behind them, what is known together on either side, of the caller's without items that
-- don't wait, and what is said of the whole program
unfoldable pub rejoined : Program → Bool → StackBytes → ℕ → List Range → List ℕ → AbsState → AbsState → AbsState
rejoined program whole waiting k ranges kept s x =
    let known = held_relations waiting s.relations in
    record {
      core = core_back program whole kept s x.core;
      items = given_back_items k s.items (map (val_back program whole kept s) x.items);
      cells = cells_back (cell_room Extended) (cell_back program whole kept s) ranges s.cells x.cells;
      relations = returned (kept_by ranges (given_addresses kept x.cells) known x.core) s.core.registers known x.relations;
      summary = summary_back program whole ranges kept s x;
    }

abbrev pub with_values : AbsState → Values → AbsState
with_values s v = record s { core = record s.core { registers = v.registers }; relations = record s.relations { pairs = v.pairs } }

abbrev pub with_values_if : AbsState → Option Values → Option AbsState
with_values_if s None = None
with_values_if s (Some v) = Some (with_values s v)

abbrev pub with_controller : AbsState → Ctl → AbsState
with_controller s c = record s { core = record s.core { ctl = c } }

-- the controller's banks are cut to what the places of its windows leave
unfoldable pub with_banks_cut : Program → AbsState → Option AbsState
with_banks_cut program s = option_map (with_controller s) (reduced_controller program (values_in s) s.cells s.summary s.core.ctl)

-- registers and pairs are cut to what they leave each other, where the pairs lay in these bounds as the procedure was entered, and then
-- the banks; none where nothing is meant
unfoldable pub reduced_state : Program → PairBounds → AbsState → Option AbsState
reduced_state program entered s =
    option_and_then (with_banks_cut program) (with_values_if s (reduced entered (read_in program s) (values_of s.core.registers s.relations.pairs)))

-- ---- by those of version 4

abbrev pub are_registers_left : Program → List ℕ → AbsState → Registers Val → Bool
are_registers_left program kept s x =
    is_left program kept s x.a && is_left program kept s x.b && is_left program kept s x.c && is_left program kept s x.d
    && is_left program kept s x.e && is_left program kept s x.h && is_left program kept s x.l

-- a cell isn't given back, or something is left of its value
abbrev pub is_cell_left : Program → List ℕ → List Range → AbsState → Cell → Bool
is_cell_left program kept ranges s c = not (is_in_ranges ranges c) || is_left program kept s c.val

-- of each of the exit's values that the caller gets something is left
unfoldable pub are_all_left : Program → List ℕ → List Range → AbsState → AbsState → Bool
are_all_left program kept ranges s x =
    are_registers_left program kept s x.core.registers && is_left program kept s x.core.ie && list_all (is_left program kept s) x.items
    && list_all (is_cell_left program kept ranges s) x.cells

-- versions 1 to 3 ask for nothing
abbrev pub is_something : Program → Bool → List ℕ → List Range → AbsState → AbsState → Bool
is_something program false kept ranges s x = true
is_something program true kept ranges s x = are_all_left program kept ranges s x

-- ---- by all rules; those of version 4 know the whole program

-- the stack with the items that wait for a callee that took k over
abbrev pub waiting_stack : Setting → Region → ℕ → AbsState → StackBytes
waiting_stack z region k s = stack_held z region (length s.items - k)

unfoldable pub resumed_by : Rules → Program → Setting → Region → ℕ → List Range → List ℕ → AbsState → AbsState → Option AbsState
resumed_by Simple program z region k ranges kept s x = Some (resumed_alone ranges s x)
resumed_by Extended program z region k ranges kept s x =
    if is_something program z.is_whole kept ranges s x
    then reduced_state program z.entered (rejoined program z.is_whole (waiting_stack z region k s) k ranges kept s x)
    else None

-- what the caller goes on with that was in s, in a procedure of a program with a stack region, where the callee has these ranges and
-- kept addresses, began with k items and left by the exit x; none where nothing is meant
abbrev pub resumed : Program → Setting → Region → ℕ → List Range → List ℕ → AbsState → AbsState → Option AbsState
resumed program z region k ranges kept s x = resumed_by z.rules program z region k ranges kept s x

-- with more items than any state has
pub record IsTooDeep (s : Option AbsState) : Type 0 where
  pub state : AbsState
  pub is : s ≡ Some state
  pub deep : item_room Extended < length state.items

-- what was computed is the states, as far as a state holds them
abbrev pub IsResumed : Resumed → Option AbsState → Type 0
IsResumed Nothing s = s ≡ None
IsResumed (States t) s = s ≡ Some t
IsResumed TooDeep s = IsTooDeep s

-- the same, where its states stand elsewhere
abbrev pub resumed_to : Return → AbsState → Resumed
resumed_to return.Nothing s = Nothing
resumed_to return.States s = States s
resumed_to return.TooDeep s = TooDeep
