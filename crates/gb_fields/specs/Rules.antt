-- Tests of single fields (own format).
use Rattle.std.specs.Prelude.{ℕ, ◌+◌, ◌-◌, ◌%◌, Bool, true, false, ◌&&◌, ◌||◌, not, ◌==◌, if◌then◌else◌, nat_le, nat_lt}
use Rattle.gb_ops.specs.declared.machine.Region.{Region}
use Rattle.gb_domain.specs.declared.rules.Rules.{Rules}
use Rattle.gb_domain.specs.declared.rules.Rules.TheVariants.{Simple, Extended}
use Rattle.gb_domain.specs.Limits.{rules_of}
use Rattle.gb_fields.specs.Limits.{unit}

abbrev pub is_version : ℕ → Bool
is_version n = n == 1 || (n == 2 || n == 3)

-- Files of versions 1 and 2 begin with other letters than those of version 3.
abbrev pub is_version_of : Rules → ℕ → Bool
is_version_of Simple n = n == 1 || n == 2
is_version_of Extended n = n == 3

-- version 4 too
abbrev pub is_any_version : ℕ → Bool
is_any_version n = is_version n || n == 4

-- Files of version 4 begin with the letters of version 3.
abbrev pub is_any_version_of : Rules → ℕ → Bool
is_any_version_of Simple n = is_version_of Simple n
is_any_version_of Extended n = is_version_of Extended n || n == 4

abbrev pub any_rules_by : Bool → ℕ → Rules
any_rules_by true version = Extended
any_rules_by false version = rules_of version

-- By which rules a version reads the fields that versions 3 and 4 have in common: version 4 reads them as version 3 does.
abbrev pub any_rules_of : ℕ → Rules
any_rules_of version = any_rules_by (version == 4) version

-- how many bytes it has
abbrev pub size : Region → ℕ
size r = r.last - r.first + 1

-- So many bytes of the stack can be counted.
abbrev pub is_whole : Rules → ℕ → Bool
is_whole rules n = n % unit rules == 0

-- Main's stack has room in the region.
abbrev pub fits : Bool → Region → ℕ → Bool
fits is_main region need = not is_main || nat_le need (size region)

-- the address above main's items
abbrev pub main_base : Region → ℕ
main_base region = region.last + 1

-- the base of main, and of a procedure that says none
abbrev pub usual_base : Bool → Region → ℕ
usual_base is_main region = if is_main then main_base region else 0

-- from the region's first address to the one above its last
abbrev pub is_in_stack : Region → ℕ → Bool
is_in_stack region base = nat_le region.first base && nat_le base (main_base region)

-- a base that may be said: main's alone, or any in the region, or none
abbrev pub is_base : Bool → Region → ℕ → Bool
is_base true region base = base == main_base region
is_base false region base = base == 0 || is_in_stack region base

-- Versions 1 and 2 say no base, and have the usual ones.
abbrev pub is_base_of : Rules → Bool → Region → ℕ → Bool
is_base_of Simple is_main region base = base == usual_base is_main region
is_base_of Extended is_main region base = is_base is_main region base

-- The second comes after the first, or is the same.
abbrev pub is_from : ℕ × ℕ → ℕ × ℕ → Bool
is_from a b = nat_lt a.0 b.0 || a.0 == b.0 && nat_le a.1 b.1
