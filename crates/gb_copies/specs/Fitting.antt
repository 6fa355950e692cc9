-- The numbers that a window's register may hold, where places shadow it (abstract interpretation: reduction; own).
use Rattle.std.specs.Prelude.{◌≡◌, ℕ, ◌+◌, ◌-◌, ◌^◌, ◌≤◌, Bool, true, false, ◌&&◌, ◌||◌, not, ◌==◌, nat_lt, nat_le, List, Option, Some, None, is_some}
use Rattle.std.specs.List.{AllByRecursion, list_all}
use Rattle.gb_ops.specs.declared.machine.Banks.{Banks}
use Rattle.gb_ops.specs.declared.machine.Kind.{Kind}
use Rattle.gb_domain.specs.declared.pairs.Bounds.{Bounds}
use Rattle.gb_domain.specs.declared.interval.StridedInterval.{StridedInterval}
use Rattle.gb_domain.specs.LowBits.{modulus, low_bits}
use Rattle.gb_domain.specs.Interval.{with_low_bits, cut}
use Rattle.gb_domain.specs.Meaning.{In}
use Rattle.gb_copies.specs.Sides.{least_from, greatest_from}
use Rattle.gb_copies.specs.declared.windows.BankWindow.{BankWindow}
use Rattle.gb_copies.specs.Windows.{has_windows, register_of, register_bits, counts_from_one, left_by}
use Rattle.gb_copies.specs.ShadowMeaning.{IsShadow}

-- ---- what fits

-- one of a place's values leaves the number
pub record Leaves (k : Kind) (which : BankWindow) (v : StridedInterval) (x : ℕ) : Type 0 where
  pub byte : ℕ
  pub is_in : In v byte
  pub left : left_by k which byte ≡ x

-- of each place one does
abbrev pub Fits : Kind → BankWindow → List StridedInterval → ℕ → Type 0
Fits k which vs x = AllByRecursion (λ v. Leaves k which v x) vs

-- the least and the greatest number from first to last that fits
pub record IsFitted (k : Kind) (which : BankWindow) (vs : List StridedInterval) (first last : ℕ) (b : Bounds) : Type 0 where
  pub least_within : first ≤ b.first
  pub greatest_within : b.last ≤ last
  pub least : Fits k which vs b.first
  pub greatest : Fits k which vs b.last
  pub all : (x : ℕ) → first ≤ x → x ≤ last → Fits k which vs x → (b.first ≤ x) × (x ≤ b.last)

abbrev pub IsFitting : Kind → BankWindow → List StridedInterval → ℕ → ℕ → Option Bounds → Type 0
IsFitting k which vs first last None = (x : ℕ) → first ≤ x → x ≤ last → Fits k which vs x → ⊥
IsFitting k which vs first last (Some b) = IsFitted k which vs first last b

-- a place holds one of its values, which shadows the register
pub record HoldsShadow (k : Kind) (which : BankWindow) (r : Banks) (v : StridedInterval) : Type 0 where
  pub byte : ℕ
  pub is_in : In v byte
  pub shadow : IsShadow k which byte r

abbrev pub WithinSome : Option Bounds → ℕ → Type 0
WithinSome None x = ⊥
WithinSome (Some b) x = (b.first ≤ x) × (x ≤ b.last)

-- where each place does, and the register lies within bounds, it lies within what is left of them
pub record IsSoundFitting (k : Kind) (which : BankWindow) (vs : List StridedInterval) (first last : ℕ) (o : Option Bounds) : Type 0 where
  pub gives :
      (r : Banks)
      → has_windows k ≡ true → AllByRecursion (HoldsShadow k which r) vs
      → first ≤ register_of k which r → register_of k which r ≤ last → WithinSome o (register_of k which r)

-- ---- how it is found

abbrev pub is_some_in : StridedInterval → Option StridedInterval → Bool
is_some_in v None = false
is_some_in v (Some w) = is_some (cut v w)

-- one of the values has these low bits
unfoldable pub some_has : StridedInterval → ℕ → ℕ → Bool
some_has v n rest = is_some_in v (with_low_bits v.lo v.hi (low_bits n rest))

-- all values have the low bits of one number each, and this number is none of theirs
unfoldable pub is_outside : StridedInterval → ℕ → ℕ → Bool
is_outside v n x = nat_lt v.hi (modulus n) && nat_lt x (modulus n) && (nat_lt x v.lo || nat_lt v.hi x)

-- each number within the bounds is a value, and this is one of them
unfoldable pub is_inside : StridedInterval → ℕ → Bool
is_inside v x = v.count == 0 && nat_le v.lo x && nat_le x v.hi

-- in a register that counts from one, 0 leaves 1
abbrev pub leaves_by : Bool → StridedInterval → ℕ → ℕ → Bool
leaves_by false v n x = some_has v n x
leaves_by true v n x = not (x == 0) && (some_has v n x || x == 1 && some_has v n 0)

unfoldable pub leaves : Kind → BankWindow → ℕ → StridedInterval → Bool
leaves k which x v = nat_lt x (2 ^ register_bits k which) && leaves_by (counts_from_one k which) v (register_bits k which) x

unfoldable pub fits : Kind → BankWindow → List StridedInterval → ℕ → Bool
fits k which vs x = list_all (leaves k which x) vs

abbrev pub with_ends : Option ℕ → Option ℕ → Option Bounds
with_ends (Some first) (Some last) = Some (record { first = first; last = last })
with_ends _ _ = None

unfoldable pub fitting : Kind → BankWindow → List StridedInterval → ℕ → ℕ → Option Bounds
fitting k which vs first last =
    with_ends (least_from (fits k which vs) (last + 1 - first) first) (greatest_from (fits k which vs) (last + 1 - first) last)
