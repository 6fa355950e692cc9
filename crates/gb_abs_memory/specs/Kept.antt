-- What a procedure leaves as it is (own rules).
use Rattle.std.specs.Prelude.{◌≡◌, ℕ, ◌≤◌, Bool, true, false, not, List}
use Rattle.std.specs.List.{list_any}
use Rattle.gb_ops.specs.declared.machine.Region.{Region}
use Rattle.gb_domain.specs.declared.rules.Rules.{Rules}
use Rattle.gb_domain.specs.declared.rules.Rules.TheVariants.{Simple, Extended}
use Rattle.gb_domain.specs.declared.setting.Setting.{Setting}
use Rattle.gb_domain.specs.declared.types.Range.{Range}
use Rattle.gb_domain.specs.Areas.{meets}
use Rattle.gb_abs.specs.Span.{one}
use Rattle.gb_abs.specs.Storage.{is_ram}
use Rattle.gb_abs_memory.specs.Access.{is_range}

abbrev pub keeps_by : Rules → Bool → Bool
keeps_by Simple is_main = true
keeps_by Extended is_main = not is_main

-- main, by the rules of version 3, may change all of RAM; any other procedure keeps some
abbrev pub keeps : Setting → Bool
keeps z = keeps_by z.rules z.is_main

-- a byte of RAM that a procedure with these ranges leaves as it is: outside them, and in the stack region not below the base
pub record IsKept (z : Setting) (region : Region) (ranges : List Range) (base b : ℕ) : Type 0 where
  pub procedure : keeps z ≡ true
  pub ram : is_ram b ≡ true
  pub outside : list_any (is_range (one b)) ranges ≡ false
  pub above : meets region b b ≡ true → base ≤ b
