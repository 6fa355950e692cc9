-- The sides of an instruction: its flag is known, the places of a byte that the flags speak of are narrowed, and so is a pair of
-- which Z says whether it is 0 (abstract interpretation: branch refinement; own).
use Rattle.std.specs.Prelude.{ℕ, Bool, ◌&&◌, ◌==◌, if◌then◌else◌, List, Option, Some, None}
use Rattle.gb_ops.specs.declared.op.Condition.{Condition}
use Rattle.gb_ops.specs.declared.op.Condition.TheVariants as condition
use Rattle.gb_ops.specs.declared.op.Op.{Op}
use Rattle.gb_domain.specs.declared.pairs.WordPair.{WordPair}
use Rattle.gb_domain.specs.declared.relations.Relations.{Relations}
use Rattle.gb_domain.specs.declared.types.Val.{Val}
use Rattle.gb_domain.specs.declared.types.Core.{Core}
use Rattle.gb_domain.specs.declared.types.Cell.{Cell}
use Rattle.gb_domain.specs.Summaries.{Program, SummaryParts}
use Rattle.gb_domain.specs.Types.{any_val}
use Rattle.gb_abs_effects.specs.Sides as Flags
use Rattle.gb_summaries.specs.Below.gb_pairs.declared.values.Values.{Values}
use Rattle.gb_summaries.specs.Below.gb_pairs.Reduced.{restricted}
use Rattle.gb_summaries.specs.Below.gb_copies.declared.sides.PlaceContents.{PlaceContents}
use Rattle.gb_summaries.specs.Below.gb_copies.Sides.{narrowed}
use Rattle.gb_summaries.specs.Below.gb_relations.Transfer.{values_of}
use Rattle.gb_product.specs.declared.parts.Branch.{Branch}
use Rattle.gb_product.specs.declared.parts.Branches.{Branches}
use Rattle.gb_product.specs.Covering.{byte_in}

-- ---- the byte in memory

-- what a state with these cells, and what it says of the whole program, knows of the byte at the address among the places; any where
-- there is none
abbrev pub memory_of : Program → Values → List Cell → SummaryParts → Option ℕ → Val
memory_of program v cells s None = any_val
memory_of program v cells s (Some a) = byte_in program v cells s a

abbrev pub contents_of : Core → Val → PlaceContents
contents_of core memory = record { registers = core.registers; memory = memory }

-- each byte lies in the bounds
abbrev pub is_any : Val → Bool
is_any v = (v.lo == 0) && (v.hi == 255)

-- the address among the places with its value, where that says something
abbrev pub known_cell : Option ℕ → Val → Option Cell
known_cell None v = None
known_cell (Some a) v = if is_any v then None else Some (record { address = a; val = v })

-- ---- a pair of which Z says whether it is 0

-- what a condition leaves of such a pair; C and NC say nothing of it
abbrev pub without_others : Option WordPair → Condition → Values → Option Values
without_others None k v = Some v
without_others (Some p) condition.Zero v = restricted p (record { first = 0; last = 0 }) v
without_others (Some p) condition.NotZero v = restricted p (record { first = 1; last = 0xFFFF }) v
without_others (Some p) _ v = Some v

-- ---- a side

abbrev pub with_values_if : Core → Relations → Option Cell → Option Values → Option Branch
with_values_if core r cell None = None
with_values_if core r cell (Some v) =
    Some (record { core = record core { registers = v.registers }; relations = record r { pairs = v.pairs }; cell = cell })

abbrev pub with_contents_if : Condition → Core → Relations → Option PlaceContents → Option Branch
with_contents_if k core r None = None
with_contents_if k core r (Some c) =
    with_values_if core r (known_cell r.byte.address c.memory) (without_others r.zero k (values_of c.registers r.pairs))

-- the side where a condition is met, by what the flags say of a byte, of which this is known in memory, and of a pair, if that is
-- possible
unfoldable pub narrowed_side : Condition → Val → Relations → Core → Option Branch
narrowed_side k memory r core = with_contents_if k core r (narrowed r.byte k (contents_of core memory))

-- the side of a core that the flags leave; without a condition as it stands
abbrev pub side_where : Option Condition → Val → Relations → Option Core → Option Branch
side_where k memory r None = None
side_where None memory r (Some core) = Some (record { core = core; relations = r; cell = None })
side_where (Some k) memory r (Some core) = narrowed_side k memory r core

-- where the instruction is taken, if that is possible
unfoldable pub taken_side : Op → Val → Core → Relations → Option Branch
taken_side o memory core r = side_where (Flags.condition_of o) memory r (Flags.sides_of o core).taken

abbrev pub opposite_of : Option Condition → Option Condition
opposite_of None = None
opposite_of (Some k) = Some (Flags.opposite k)

-- where it isn't taken, if that is possible
unfoldable pub not_taken_side : Op → Val → Core → Relations → Option Branch
not_taken_side o memory core r = side_where (opposite_of (Flags.condition_of o)) memory r (Flags.sides_of o core).not_taken

-- the possible sides of an instruction; one without a condition has the taken side alone
unfoldable pub sides_of : Op → Val → Core → Relations → Branches
sides_of o memory core r = record { taken = taken_side o memory core r; not_taken = not_taken_side o memory core r }
