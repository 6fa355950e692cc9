-- Intervals of bytes (abstract interpretation: the interval domain; own).
use Rattle.std.specs.Prelude.{ℕ, Bool, ◌==◌, None}
use Rattle.gb_domain.specs.declared.types.Val.{Val}

-- a computed interval is no copy of anything
abbrev pub between : ℕ → ℕ → Val
between lo hi = record { lo = lo; hi = hi; low_bits = 0; origin = None }

abbrev pub single : ℕ → Val
single x = between x x

abbrev pub any_val : Val
any_val = between 0 255

abbrev pub is_single : Val → Bool
is_single v = v.lo == v.hi
