-- What intervals and sets of flags stand for, their origins apart (abstract interpretation: concretization and soundness; own).
use Rattle.std.specs.Prelude.{◌≡◌, ℕ, ◌≤◌, Bool, true, false, None}
use Rattle.gb_ops.specs.declared.registers.Flags.{Flags}
use Rattle.gb_ops.specs.declared.machine.Computed.{Computed}
use Rattle.gb_domain.specs.declared.types.Val.{Val}
use Rattle.gb_domain.specs.declared.types.May.{May}
use Rattle.gb_domain.specs.declared.types.Flg.{Flg}
use Rattle.gb_domain.specs.Rules.{IsVal, IsFlg}
use Rattle.gb_domain.specs.Values.{has_low_bits}
use Rattle.gb_vals.specs.declared.outcome.AbsComputed.{AbsComputed}

-- x is within v's bounds, whatever its low bits
pub record InBounds (v : Val) (x : ℕ) : Type 0 where
  pub least : v.lo ≤ x
  pub most : x ≤ v.hi

-- v stands for x: x is within the bounds, and has the low bits
pub record In (v : Val) (x : ℕ) : Type 0 where
  pub least : v.lo ≤ x
  pub most : x ≤ v.hi
  pub low : has_low_bits v x ≡ true

-- a bit may be so
abbrev pub may_be : May → Bool → Bool
may_be m true = m.set
may_be m false = m.clear

-- f stands for x
pub record FlagsIn (f : Flg) (x : Flags) : Type 0 where
  pub zero : may_be f.zero x.zero ≡ true
  pub subtract : may_be f.subtract x.subtract ≡ true
  pub half_carry : may_be f.half_carry x.half_carry ≡ true
  pub carry : may_be f.carry x.carry ≡ true

-- an outcome stands for what the machine computes
pub record Gives (o : AbsComputed) (c : Computed) : Type 0 where
  pub value : In o.val c.value
  pub flags : FlagsIn o.flags c.flags

-- an outcome stands for what the machine computes of each value and flags that v and f stand for
pub record IsSound (machine : ℕ → Flags → Computed) (v : Val) (f : Flg) (o : AbsComputed) : Type 0 where
  pub gives : (x : ℕ) (g : Flags) → In v x → FlagsIn f g → Gives o (machine x g)

-- an outcome stands for what the machine computes of each two values and flags that a, v and f stand for
pub record IsSoundOfTwo (machine : ℕ → ℕ → Flags → Computed) (a v : Val) (f : Flg) (o : AbsComputed) : Type 0 where
  pub gives : (x y : ℕ) (g : Flags) → In a x → In v y → FlagsIn f g → Gives o (machine x y g)

-- a value stands for what the machine computes of each value that v stands for, by an operation that leaves the flags
pub record IsSoundOfVal (machine : ℕ → ℕ) (v o : Val) : Type 0 where
  pub gives : (x : ℕ) → In v x → In o (machine x)

-- flags stand for those that the machine computes of each value and flags that v and f stand for
pub record IsSoundOfTest (machine : ℕ → Flags → Flags) (v : Val) (f o : Flg) : Type 0 where
  pub gives : (x : ℕ) (g : Flags) → In v x → FlagsIn f g → FlagsIn o (machine x g)

-- flags stand for those that the machine computes of each flags that f stands for
pub record IsSoundOfFlags (machine : Flags → Flags) (f o : Flg) : Type 0 where
  pub gives : (g : Flags) → FlagsIn f g → FlagsIn o (machine g)

-- the answer is yes where a byte within the bounds has a property
pub record IsSoundAnswer (property : ℕ → Bool) (v : Val) (answer : Bool) : Type 0 where
  pub gives : (x : ℕ) → InBounds v x → property x ≡ true → answer ≡ true

-- a byte within the bounds has a property
pub record HasOne (property : ℕ → Bool) (v : Val) : Type 0 where
  pub value : ℕ
  pub within : InBounds v value
  pub holds : property value ≡ true

-- an outcome has a value, and each flag has one
pub record IsOutcome (o : AbsComputed) : Type 0 where
  pub val : IsVal o.val
  pub flags : IsFlg o.flags

-- an outcome is computed: no copy of anything
pub record IsComputed (o : AbsComputed) : Type 0 where
  pub origin : o.val.origin ≡ None
  pub own : o.flags.is_own ≡ false
