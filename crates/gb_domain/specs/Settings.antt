-- Where a state stands (own format).
use Rattle.std.specs.Prelude.{◌≡◌, ℕ, Bool, false, ◌==◌, if◌then◌else◌, Option, Some, None}
use Rattle.gb_domain.specs.declared.rules.Rules.TheVariants.{Simple}
use Rattle.gb_domain.specs.declared.setting.Setting.{Setting}
use Rattle.gb_domain.specs.Pairs.{any_pairs}

-- the base, where the certificate says it
unfoldable pub known_base : Setting → Option ℕ
known_base s = if s.base == 0 then None else Some s.base

-- a base that is said is the address above the procedure's items
abbrev pub IsBase : Setting → ℕ → Type 0
IsBase s base = (b : ℕ) → known_base s ≡ Some b → b ≡ base

-- by the rules of versions 1 and 2 nothing is said of a base
abbrev pub simple : Bool → Setting
simple is_main = record { rules = Simple; is_whole = false; is_main = is_main; base = 0; entered = any_pairs }
