-- What a store makes of the bytes of the stack that it may meet (own).
use Rattle.std.specs.Prelude.{ℕ, ◌-◌, if◌then◌else◌, List, [], ◌∷◌, length, replicate, Option, Some, None}
use Rattle.gb_ops.specs.declared.machine.Region.{Region}
use Rattle.gb_domain.specs.declared.types.Val.{Val}
use Rattle.gb_domain.specs.declared.types.Core.{Core}
use Rattle.gb_domain.specs.declared.rules.Rules.{Rules}
use Rattle.gb_domain.specs.declared.rules.Rules.TheVariants.{Simple, Extended}
use Rattle.gb_domain.specs.declared.setting.Setting.{Setting}
use Rattle.gb_domain.specs.Areas.{meets}
use Rattle.gb_abs.specs.Below.gb_vals.Vals.{any_val}
use Rattle.gb_abs.specs.declared.span.Span.{Span}
use Rattle.gb_abs.specs.Span.{is_one, counts}
use Rattle.gb_abs.specs.Located.{stack_base}

-- the item at an address becomes a value, if the address is one of those that count
abbrev pub item_after : Span → Val → ℕ → Val → Val
item_after span v a item = if counts span a then v else item

-- the items below an address, where each that stands at one of the addresses that count becomes a value
abbrev pub items_below : ℕ → Span → Val → List Val → List Val
items_below top span v [] = []
items_below top span v (item ∷ items) = item_after span v (top - 1) item ∷ items_below (top - 1) span v items

-- a store to one address sets the item that stands there; of several, any item that stands there may be any byte after it;
-- where it isn't known where items stand, a store that may meet the stack region may meet each of them
abbrev pub items_by : Option ℕ → Region → Span → Val → List Val → List Val
items_by None region span v items = if meets region span.first span.last then replicate (length items) any_val else items
items_by (Some base) region span v items = items_below base span (if is_one span then v else any_val) items

-- by the rules of versions 1 and 2 no store meets an item
abbrev pub items_under : Rules → Option ℕ → Region → Span → Val → List Val → List Val
items_under Simple base region span v items = items
items_under Extended base region span v items = items_by base region span v items

-- the items of states with this core after a store to RAM
unfoldable pub items_stored : Setting → Region → Span → Val → Core → List Val → List Val
items_stored z region span v core items = items_under z.rules (stack_base z core) region span v items
