-- What of the stack is known of the states behind an instruction: a side may tell of an item, and items that are gone are no places
-- (abstract semantics; own rules: version 4).
use Rattle.std.specs.Prelude.{length, Option, Some, None, option_map, if◌then◌else◌}
use Rattle.gb_ops.specs.declared.machine.Region.{Region}
use Rattle.gb_domain.specs.declared.relations.Relations.{Relations}
use Rattle.gb_domain.specs.declared.rules.Rules.{Rules}
use Rattle.gb_domain.specs.declared.rules.Rules.TheVariants.{Simple, Extended}
use Rattle.gb_domain.specs.declared.types.Cell.{Cell}
use Rattle.gb_domain.specs.declared.types.Core.{Core}
use Rattle.gb_domain.specs.Areas.{meets}
use Rattle.gb_domain.specs.Types.{AbsState}
use Rattle.gb_product.specs.Below.gb_abs_effects.declared.targets.Target.{Target}
use Rattle.gb_product.specs.Below.gb_abs_effects.declared.targets.Target.TheVariants as target
use Rattle.gb_product.specs.declared.parts.Branch.{Branch}
use Rattle.gb_product.specs.Held.{stack_held, held_relations, relations_outside}
use Rattle.gb_successors.specs.declared.stacks.Stack.{Stack}
use Rattle.gb_successors.specs.declared.way.Told.{Told}
use Rattle.gb_successors.specs.Behind.{with_relations, told_behind}
use Rattle.gb_successors.specs.Way.{Successor}

-- ---- what a side tells of memory

-- of a cell outside the stack region, or of an item inside
abbrev pub cell_outside : Region → Option Cell → Option Cell
cell_outside region None = None
cell_outside region (Some c) = if meets region c.address c.address then None else Some c

-- by the rules of versions 1 and 2 no item is known by its address
abbrev pub told_by : Rules → Stack → Option Cell → Option Told
told_by rules k None = None
told_by Simple k (Some c) = None
told_by Extended k (Some c) =
    if meets k.region c.address c.address then Some (record { setting = k.setting; region = k.region; cell = c }) else None

-- the side tells of a cell alone
abbrev pub branch_outside : Region → Branch → Branch
branch_outside region b = record b { cell = cell_outside region b.cell }

-- where main begins anew nothing is told
abbrev pub told_at_target : Target → Option Told → Option Told
told_at_target w None = None
told_at_target (target.Main a) (Some t) = None
told_at_target w (Some t) = Some t

abbrev pub told_successor : Option Told → Core → Successor → Successor
told_successor o core t = record t { state = told_behind (told_at_target t.target o) core t.state }

-- ---- places

-- where main begins anew no item is a place; else those are that are left
abbrev pub relations_left : Stack → Target → AbsState → Relations
relations_left k (target.Main a) s = relations_outside k.region s.relations
relations_left k w s = held_relations (stack_held k.setting k.region (length s.items)) s.relations

abbrev pub held_successor : Stack → Successor → Successor
held_successor k t = record t { state = with_relations (relations_left k t.target t.state) t.state }

-- by the rules of versions 1 and 2 no item is a place
abbrev pub held_way : Rules → Stack → Option Successor → Option Successor
held_way Simple k way = way
held_way Extended k way = option_map (held_successor k) way
