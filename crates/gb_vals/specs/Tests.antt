-- What a conditional instruction learns from its condition (abstract interpretation: branch refinement; own).
use Rattle.std.specs.Prelude.{◌≡◌, ℕ, ◌+◌, ◌-◌, Bool, true, false, ◌==◌, if◌then◌else◌, nat_lt, Option, Some, None}
use Rattle.gb_ops.specs.declared.op.Condition.{Condition}
use Rattle.gb_ops.specs.declared.op.Condition.TheVariants as condition
use Rattle.gb_ops.specs.declared.registers.Flags.{Flags}
use Rattle.gb_ops.specs.Flags.{is_met}
use Rattle.gb_domain.specs.declared.types.Val.{Val}
use Rattle.gb_domain.specs.declared.types.Flg.{Flg}
use Rattle.gb_domain.specs.Rules.{IsFlg}
use Rattle.gb_vals.specs.Flags.{known}
use Rattle.gb_vals.specs.Logic.{smaller, larger}
use Rattle.gb_vals.specs.Meaning.{FlagsIn}

-- what the flags say of a value that was compared with n: Z is set exactly where it is n, and C exactly where it is below n
abbrev pub IsCompared : ℕ → ℕ → Flags → Type 0
IsCompared n v f = (f.zero ≡ (v == n)) × (f.carry ≡ nat_lt v n)

-- ---- sides

abbrev pub may_be_met : Condition → Flg → Bool
may_be_met condition.NotZero f = f.zero.clear
may_be_met condition.Zero f = f.zero.set
may_be_met condition.NotCarry f = f.carry.clear
may_be_met condition.Carry f = f.carry.set

-- the flag of the condition is known
abbrev pub flags_met : Condition → Flg → Flg
flags_met condition.NotZero f = record f { zero = known false }
flags_met condition.Zero f = record f { zero = known true }
flags_met condition.NotCarry f = record f { carry = known false }
flags_met condition.Carry f = record f { carry = known true }

-- the values from first, and below end; none where that is empty
unfoldable pub meet : ℕ → ℕ → Val → Option Val
meet first end v =
    let lo = larger v.lo first in
    let after = smaller (v.hi + 1) end in
    if nat_lt lo after then Some (record v { lo = lo; hi = after - 1; low_bits = 0 }) else None

-- all but n, where n is an end
abbrev pub without : ℕ → Val → Option Val
without n v =
    if v.lo == n then meet (n + 1) 256 v
    else if v.hi == n then meet 0 n v
    else Some v

-- the values that a condition leaves behind a comparison with n
abbrev pub narrowed_by : ℕ → Condition → Val → Option Val
narrowed_by n condition.NotZero v = without n v
narrowed_by n condition.Zero v = meet n (n + 1) v
narrowed_by n condition.NotCarry v = meet n 256 v
narrowed_by n condition.Carry v = meet 0 n v

-- the flags where a condition is met, if that is possible
unfoldable pub side : Condition → Flg → Option Flg
side condition f = if may_be_met condition f then Some (flags_met condition f) else None

-- a side stands for the flags; one that can't be, for none
abbrev pub IsOnSide : Option Flg → Flags → Type 0
IsOnSide None g = ⊥
IsOnSide (Some f) g = FlagsIn f g

-- the side stands for all flags that f stands for, that meet the condition
pub record IsSoundSide (condition : Condition) (f : Flg) (o : Option Flg) : Type 0 where
  pub gives : (g : Flags) → FlagsIn f g → is_met condition g ≡ true → IsOnSide o g

-- on a side that can be each flag has a value
abbrev pub IsSide : Option Flg → Type 0
IsSide None = Unit {0}
IsSide (Some f) = IsFlg f

-- F stays a copy of what it was a copy of
abbrev pub IsKept : Flg → Option Flg → Type 0
IsKept f None = Unit {0}
IsKept f (Some g) = g.is_own ≡ f.is_own
