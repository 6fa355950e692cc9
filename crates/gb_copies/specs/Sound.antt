-- What operations on places promise of registers, memory and flags (abstract interpretation: soundness; own).
use Rattle.std.specs.Prelude.{◌≡◌, ℕ, ◌≤◌, ◌<◌, true, false, ◌==◌, Option, Some, None}
use Rattle.gb_ops.specs.declared.op.Register.{Register}
use Rattle.gb_ops.specs.declared.op.Register.TheVariants.{A}
use Rattle.gb_ops.specs.declared.op.Condition.{Condition}
use Rattle.gb_ops.specs.declared.registers.Registers.{Registers}
use Rattle.gb_ops.specs.declared.registers.Flags.{Flags}
use Rattle.gb_ops.specs.Registers.{get, set}
use Rattle.gb_ops.specs.Flags.{is_met}
use Rattle.gb_domain.specs.declared.types.Val.{Val}
use Rattle.gb_domain.specs.declared.places.Place.{Place}
use Rattle.gb_domain.specs.declared.places.Test.{Test}
use Rattle.gb_domain.specs.declared.places.OneByte.{OneByte}
use Rattle.gb_domain.specs.Values.{is_strided}
use Rattle.gb_vals.specs.Meaning.{In}
use Rattle.gb_copies.specs.declared.sides.PlaceContents.{PlaceContents}
use Rattle.gb_copies.specs.Meaning.{IsTested, HoldOneByte, held_at}

-- ---- forgetting

-- whatever the register becomes
pub record IsSoundRegister (r : Register) (s after : OneByte) : Type 0 where
  pub gives :
      (x : Registers ℕ) (memory : ℕ → ℕ) (f : Flags) (n : ℕ)
      → HoldOneByte s x memory f → HoldOneByte after (set r n x) memory f

-- whatever one of the addresses becomes
pub record IsSoundStore (first last : ℕ) (s after : OneByte) : Type 0 where
  pub gives :
      (x : Registers ℕ) (memory written : ℕ → ℕ) (f : Flags) (a : ℕ)
      → first ≤ a → a ≤ last → ((b : ℕ) → (b ≡ a → ⊥) → written b ≡ memory b)
      → HoldOneByte s x memory f → HoldOneByte after x written f

-- whatever the flags become
pub record IsSoundFlags (s after : OneByte) : Type 0 where
  pub gives :
      (x : Registers ℕ) (memory : ℕ → ℕ) (f g : Flags) → HoldOneByte s x memory f → HoldOneByte after x memory g

-- ---- tests

-- a place's byte is a byte, whatever else there is
pub record IsSoundPlace (p : Place) (after : OneByte) : Type 0 where
  pub gives :
      (x : Registers ℕ) (memory : ℕ → ℕ) (f : Flags)
      → held_at p x memory < 256 → HoldOneByte after x memory f

-- the same, with flags that say this of it
pub record IsSoundOnlyTest (p : Place) (t : Test) (after : OneByte) : Type 0 where
  pub gives :
      (x : Registers ℕ) (memory : ℕ → ℕ) (f : Flags)
      → held_at p x memory < 256 → IsTested (Some t) (held_at p x memory) f → HoldOneByte after x memory f

-- the flags become some that say this of what the place holds
pub record IsSoundTest (p : Place) (t : Test) (s after : OneByte) : Type 0 where
  pub gives :
      (x : Registers ℕ) (memory : ℕ → ℕ) (f g : Flags)
      → held_at p x memory < 256 → IsTested (Some t) (held_at p x memory) g
      → HoldOneByte s x memory f → HoldOneByte after x memory g

-- A becomes n, and the flags some that say this of what A held, and of n whether it is 0
pub record IsSoundTestBefore (t : Test) (s after : OneByte) : Type 0 where
  pub gives :
      (x : Registers ℕ) (memory : ℕ → ℕ) (f g : Flags) (n : ℕ)
      → get A x < 256 → n < 256 → IsTested (Some t) (get A x) g → g.zero ≡ (n == 0)
      → HoldOneByte s x memory f → HoldOneByte after (set A n x) memory g

-- ---- copies

-- a register gets what another place holds
pub record IsSoundCopyTo (r : Register) (from : Place) (s after : OneByte) : Type 0 where
  pub gives :
      (x : Registers ℕ) (memory : ℕ → ℕ) (f : Flags)
      → held_at from x memory < 256 → HoldOneByte s x memory f
      → HoldOneByte after (set r (held_at from x memory) x) memory f

-- an address gets what a register holds
pub record IsSoundStoreOf (a : ℕ) (r : Register) (s after : OneByte) : Type 0 where
  pub gives :
      (x : Registers ℕ) (memory written : ℕ → ℕ) (f : Flags)
      → get r x < 256 → written a ≡ get r x → ((b : ℕ) → (b ≡ a → ⊥) → written b ≡ memory b)
      → HoldOneByte s x memory f → HoldOneByte after x written f

-- ---- sides

abbrev pub HoldContents : OneByte → PlaceContents → Registers ℕ → (ℕ → ℕ) → Type 0
HoldContents b c x memory =
    ((r : Register) → In (get r c.registers) (get r x)) × ((a : ℕ) → b.address ≡ Some a → In c.memory (memory a))

abbrev pub HoldContentsIn : OneByte → Option PlaceContents → Registers ℕ → (ℕ → ℕ) → Type 0
HoldContentsIn b None x memory = ⊥
HoldContentsIn b (Some c) x memory = HoldContents b c x memory

-- where the condition is met, no registers and no memory are lost
pub record IsSoundNarrowing (b : OneByte) (k : Condition) (c : PlaceContents) (o : Option PlaceContents) : Type 0 where
  pub gives :
      (x : Registers ℕ) (memory : ℕ → ℕ) (f : Flags)
      → HoldContents b c x memory → HoldOneByte b x memory f → is_met k f ≡ true → HoldContentsIn b o x memory

-- the new bounds lie within the old ones, stay in order and have the low bits, and what the value is a copy of stays
pub record IsCutVal (old new : Val) : Type 0 where
  pub least : old.lo ≤ new.lo
  pub most : new.hi ≤ old.hi
  pub order : old.lo ≤ old.hi → new.lo ≤ new.hi
  pub strided : is_strided old ≡ true → is_strided new ≡ true
  pub origin : new.origin ≡ old.origin

-- contents are cut, and only at places of the byte
pub record IsCut (b : OneByte) (old new : PlaceContents) : Type 0 where
  pub registers : (r : Register) → IsCutVal (get r old.registers) (get r new.registers)
  pub memory : IsCutVal old.memory new.memory
  pub other_registers : (r : Register) → get r b.registers ≡ false → get r new.registers ≡ get r old.registers
  pub other_memory : b.address ≡ None → new.memory ≡ old.memory

-- ---- covering

pub record IsPartOf (s t : OneByte) : Type 0 where
  pub gives : (x : Registers ℕ) (memory : ℕ → ℕ) (f : Flags) → HoldOneByte s x memory f → HoldOneByte t x memory f
