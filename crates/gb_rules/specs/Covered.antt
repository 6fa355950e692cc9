-- Covering at an address: by one node, or value by value of a register or of a byte of RAM (abstract interpretation: inclusion in
-- a disjunction; own).
use Rattle.std.specs.Prelude.{ℕ, zero, suc, ◌+◌, ◌-◌, ◌≤◌, Bool, true, not, ◌&&◌, ◌||◌, ◌==◌, nat_lt, List, [], ◌∷◌, length, Option, Some, None, option_map}
use Rattle.std.specs.List.{list_any}
use Rattle.gb_ops.specs.declared.op.Register.{Register}
use Rattle.gb_ops.specs.declared.op.Register.TheVariants.{A, B, C, D, E, H, L}
use Rattle.gb_ops.specs.Registers.{get}
use Rattle.gb_successors.specs.Below.gb_domain.declared.pairs.PairBounds.{PairBounds}
use Rattle.gb_successors.specs.Below.gb_domain.declared.relations.Relations.{Relations}
use Rattle.gb_successors.specs.Below.gb_domain.declared.rules.Rules.{Rules}
use Rattle.gb_successors.specs.Below.gb_domain.declared.rules.Rules.TheVariants.{Extended}
use Rattle.gb_successors.specs.Below.gb_domain.declared.types.Cell.{Cell}
use Rattle.gb_successors.specs.Below.gb_domain.Certificate.{Certificate}
use Rattle.gb_successors.specs.Below.gb_domain.Limits.{cell_room}
use Rattle.gb_successors.specs.Below.gb_domain.Values.{has_low_bits}
use Rattle.gb_successors.specs.Below.gb_domain.declared.types.Core.{Core}
use Rattle.gb_successors.specs.Below.gb_domain.declared.types.Val.{Val}
use Rattle.gb_successors.specs.Below.gb_domain.Summaries.{SummaryParts, Program}
use Rattle.gb_successors.specs.Below.gb_domain.Types.{AbsState, Node}
use Rattle.gb_successors.specs.Below.gb_product.declared.parts.Product.{Product}
use Rattle.gb_successors.specs.Below.gb_product.Covering.{covers, byte_in, values_in}
use Rattle.gb_successors.specs.Below.gb_product.Reduced.{reduced_wholly}
use Rattle.gb_successors.specs.Below.gb_abs.Cells.{is_at, with_cell}
use Rattle.gb_successors.specs.Below.gb_abs.Operations.{core_with_value, with_core}
use Rattle.gb_rules.specs.Procedures.{entered_of}
use Rattle.gb_rules.specs.declared.by_values.Parted.{Parted}
use Rattle.gb_rules.specs.declared.by_values.Parted.TheVariants as parted

-- the node is the procedure's, at the address
abbrev pub is_node_at : ℕ → ℕ → Node → Bool
is_node_at procedure a n = (n.procedure == procedure) && (n.address == a)

-- a node stands for these states, in a procedure at an address
abbrev pub is_cover : Program → ℕ → ℕ → AbsState → Node → Bool
is_cover program procedure a s n = is_node_at procedure a n && covers program s n.state

-- one node of the procedure stands for these states at the address
unfoldable pub is_covered_by_one : Program → List Node → ℕ → ℕ → AbsState → Bool
is_covered_by_one program nodes procedure a s = list_any (is_cover program procedure a s) nodes

-- of these states, those with one value in a register
unfoldable pub with_value : Register → AbsState → ℕ → AbsState
with_value r s v = with_core s (core_with_value r v s.core)

-- states with this core, of which this is known together, which say this of the whole program, and the items and cells of others
abbrev pub with_parts : Core → Relations → SummaryParts → AbsState → AbsState
with_parts core r m s = record s { core = core; relations = r; summary = m }

-- n numbers from one on pass a test
abbrev pub all_from : (ℕ → Bool) → ℕ → ℕ → Bool
all_from test first zero = true
all_from test first (suc n) = all_from test first n && test (first + n)

-- how many values an interval has
abbrev pub count_of : Val → ℕ
count_of v = v.hi + 1 - v.lo

-- of one node's states, where nothing is meant none is asked for
abbrev pub is_covered_if : Program → List Node → ℕ → ℕ → Option AbsState → Bool
is_covered_if program nodes procedure a None = true
is_covered_if program nodes procedure a (Some s) = is_covered_by_one program nodes procedure a s

abbrev pub with_product : AbsState → Product → AbsState
with_product s p = record s { core = p.core; relations = p.relations }

-- the states, reduced, where the pairs lay in these bounds as the procedure was entered; none where nothing is meant
unfoldable pub reduced_state : Program → Rules → PairBounds → AbsState → Option AbsState
reduced_state program rules entered s = option_map (with_product s) (reduced_wholly program rules entered s.core s.relations s.cells s.summary)

-- ---- value by value

-- of these states, those with one value at an address of RAM, of which v is known
unfoldable pub with_byte : ℕ → Val → AbsState → ℕ → AbsState
with_byte at v s n =
    record s { cells = with_cell (cell_room Extended) (record { address = at; val = record v { lo = n; hi = n; low_bits = 0 } }) s.cells }

-- of these states, those with one value
abbrev pub with_one : Parted → AbsState → ℕ → AbsState
with_one (parted.Register r) s n = with_value r s n
with_one (parted.Byte at v) s n = with_byte at v s n

-- what is known of what is told apart
abbrev pub known_of : Parted → AbsState → Val
known_of (parted.Register r) s = get r s.core.registers
known_of (parted.Byte at v) s = v

-- one node stands for those of these states with a value, reduced; of a value that the low bits rule out none is asked for
unfoldable pub is_value_covered : Program → Rules → PairBounds → List Node → ℕ → ℕ → AbsState → Parted → ℕ → Bool
is_value_covered program rules entered nodes procedure a s by n =
    not (has_low_bits (known_of by s) n) || is_covered_if program nodes procedure a (reduced_state program rules entered (with_one by s n))

-- for each value one node stands for the states with it
unfoldable pub is_covered_by_values : Program → Rules → PairBounds → List Node → ℕ → ℕ → AbsState → Parted → Bool
is_covered_by_values program rules entered nodes procedure a s by =
    all_from (is_value_covered program rules entered nodes procedure a s by) (known_of by s).lo (count_of (known_of by s))

abbrev pub registers : List Register
registers = A ∷ B ∷ C ∷ D ∷ E ∷ H ∷ L ∷ []

abbrev pub is_covered_by_register : Program → Rules → PairBounds → List Node → ℕ → ℕ → AbsState → Register → Bool
is_covered_by_register program rules entered nodes procedure a s r = is_covered_by_values program rules entered nodes procedure a s (parted.Register r)

-- ---- a byte of RAM

abbrev pub is_single : Val → Bool
is_single v = v.lo == v.hi

-- for each value of a byte, of which v is known: that isn't one value, and there is a cell for it, or room for one
abbrev pub is_covered_by_known : Program → Rules → PairBounds → List Node → ℕ → ℕ → AbsState → ℕ → Val → Bool
is_covered_by_known program rules entered nodes procedure a s at v =
    not (is_single v) && (list_any (is_at at) s.cells || nat_lt (length s.cells) (cell_room Extended))
    && is_covered_by_values program rules entered nodes procedure a s (parted.Byte at v)

-- the same of the byte at an address
unfoldable pub is_covered_by_byte : Program → Rules → PairBounds → List Node → ℕ → ℕ → AbsState → ℕ → Bool
is_covered_by_byte program rules entered nodes procedure a s at =
    is_covered_by_known program rules entered nodes procedure a s at (byte_in program (values_in s) s.cells s.summary at)

abbrev pub is_covered_by_cell : Program → Rules → PairBounds → List Node → ℕ → ℕ → AbsState → Cell → Bool
is_covered_by_cell program rules entered nodes procedure a s c = is_covered_by_byte program rules entered nodes procedure a s c.address

-- one of the addresses where a node there has a cell
unfoldable pub is_covered_by_bytes : Program → Rules → PairBounds → List Node → ℕ → ℕ → AbsState → Bool
is_covered_by_bytes program rules entered nodes procedure a s =
    list_any (λ n. is_node_at procedure a n && list_any (is_covered_by_cell program rules entered nodes procedure a s) n.state.cells) nodes

-- a node there has a cell at the address
unfoldable pub has_cell_there : List Node → ℕ → ℕ → ℕ → Bool
has_cell_there nodes procedure a at = list_any (λ n. is_node_at procedure a n && list_any (is_at at) n.state.cells) nodes

-- an address isn't before the one that is found first
abbrev pub IsUpTo : Option ℕ → ℕ → Type 0
IsUpTo None at = ⊥
IsUpTo (Some first) at = first ≤ at

-- ---- all of it

-- value by value of a register some nodes stand for these states, or, by the rules of version 4, of a byte of RAM
abbrev pub is_covered_apart : Program → Rules → Certificate → ℕ → ℕ → AbsState → Bool
is_covered_apart program rules cert procedure a s =
    list_any (is_covered_by_register program rules (entered_of cert procedure) cert.nodes procedure a s) registers
    || (cert.version == 4) && is_covered_by_bytes program rules (entered_of cert procedure) cert.nodes procedure a s

-- one node stands for them, or some do so
unfoldable pub covered_at : Program → Rules → Certificate → ℕ → ℕ → AbsState → Bool
covered_at program rules cert procedure a s =
    is_covered_by_one program cert.nodes procedure a s || is_covered_apart program rules cert procedure a s
