-- Where items stand and SP points, where the base is known (own).
use Rattle.std.specs.Prelude.{ℕ, ◌-◌, ◌/◌, ◌%◌, ◌≤◌, ◌==◌, Bool, nat_lt, if◌then◌else◌, List, length, slice_get, Option, Some, None}
use Rattle.gb_ops.specs.Play.{MState}
use Rattle.gb_domain.specs.declared.pairs.Bounds.{Bounds}
use Rattle.gb_domain.specs.declared.rules.Rules.{Rules}
use Rattle.gb_domain.specs.declared.rules.Rules.TheVariants.{Simple, Extended}
use Rattle.gb_domain.specs.declared.setting.Setting.{Setting}
use Rattle.gb_domain.specs.declared.types.Core.{Core}
use Rattle.gb_domain.specs.declared.types.Halves.{Halves}
use Rattle.gb_domain.specs.declared.types.Val.{Val}
use Rattle.gb_domain.specs.Settings.{known_base, IsBase}
use Rattle.gb_domain.specs.Types.{AbsState}
use Rattle.gb_vals.specs.Vals.{any_val, single}
use Rattle.gb_abs.specs.Meaning.{Activation, Holds, MeansParts}
use Rattle.gb_abs.specs.Storage.{peek}

-- by the rules of versions 1 and 2 no base is known; by those of version 3 it says where SP points as long as the items do
abbrev pub base_by : Rules → Bool → Option ℕ → Option ℕ
base_by Simple set base = None
base_by Extended set base = if set then base else None

-- the address above the items, where addresses can be reckoned from it
unfoldable pub stack_base : Setting → Core → Option ℕ
stack_base z core = base_by z.rules core.stack_set (known_base z)

abbrev pub item_by : Option ℕ → List Val → ℕ → Option Val
item_by None items a = None
item_by (Some b) items a = if nat_lt a b then slice_get items (b - 1 - a) else None

-- the item that stands at an address
unfoldable pub item_at : Setting → AbsState → ℕ → Option Val
item_at z s a = item_by (stack_base z s.core) s.items a

abbrev pub halves_by : Option ℕ → ℕ → Halves
halves_by None count = record { high = any_val; low = any_val }
halves_by (Some b) count = record { high = single ((b - count) / 256); low = single ((b - count) % 256) }

-- of a word within bounds
abbrev pub halves_within : Bounds → Halves
halves_within b =
    if b.first == b.last then record { high = single (b.first / 256); low = single (b.first % 256) } else record { high = any_val; low = any_val }

-- put aside, it is within bounds
abbrev pub sp_halves_by : Option Bounds → Option ℕ → ℕ → Halves
sp_halves_by None base count = halves_by base count
sp_halves_by (Some b) base count = halves_within b

-- SP as a pair
unfoldable pub sp_halves : Setting → AbsState → Halves
sp_halves z s = sp_halves_by s.summary.aside (stack_base z s.core) (length s.items)

abbrev pub bounds_by : Option ℕ → ℕ → Bounds
bounds_by None count = record { first = 0; last = 0xFFFF }
bounds_by (Some b) count = record { first = b - count; last = b - count }

abbrev pub sp_bounds_by : Option Bounds → Option ℕ → ℕ → Bounds
sp_bounds_by None base count = bounds_by base count
sp_bounds_by (Some b) base count = b

-- the bounds of SP
unfoldable pub sp_bounds : Setting → AbsState → Bounds
sp_bounds z s = sp_bounds_by s.summary.aside (stack_base z s.core) (length s.items)

-- ---- what that promises

-- in each of these states, of a procedure whose base is what is said, v stands for the byte at the address
pub record IsSoundItem (z : Setting) (s : AbsState) (a : ℕ) (v : Val) : Type 0 where
  pub gives : (entry : Activation) (base : ℕ) (x : MState) → IsBase z base → MeansParts s entry base x → Holds v entry (peek x.storage a)

-- SP lies within the bounds, where it is put aside
abbrev pub IsSpWithin : Option Bounds → ℕ → Type 0
IsSpWithin None sp = Unit {0}
IsSpWithin (Some b) sp = (b.first ≤ sp) × (sp ≤ b.last)

-- in each of these states the halves stand for SP's
pub record IsSoundSp (z : Setting) (s : AbsState) (w : Halves) : Type 0 where
  pub high : (entry : Activation) (base : ℕ) (x : MState) → IsBase z base → MeansParts s entry base x → IsSpWithin s.summary.aside x.processor.sp → Holds w.high entry (x.processor.sp / 256)
  pub low : (entry : Activation) (base : ℕ) (x : MState) → IsBase z base → MeansParts s entry base x → IsSpWithin s.summary.aside x.processor.sp → Holds w.low entry (x.processor.sp % 256)

-- in each of these states SP lies within the bounds
pub record IsSoundSpBounds (z : Setting) (s : AbsState) (b : Bounds) : Type 0 where
  pub first : (entry : Activation) (base : ℕ) (x : MState) → IsBase z base → MeansParts s entry base x → IsSpWithin s.summary.aside x.processor.sp → b.first ≤ x.processor.sp
  pub last : (entry : Activation) (base : ℕ) (x : MState) → IsBase z base → MeansParts s entry base x → IsSpWithin s.summary.aside x.processor.sp → x.processor.sp ≤ b.last
