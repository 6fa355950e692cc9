-- Which registers, memory and flags stand behind places that hold one byte (abstract interpretation: concretization; own).
use Rattle.std.specs.Prelude.{◌≡◌, ℕ, ◌<◌, true, ◌==◌, nat_lt, bit_and, Option, Some, None}
use Rattle.gb_ops.specs.declared.op.Register.{Register}
use Rattle.gb_ops.specs.declared.registers.Registers.{Registers}
use Rattle.gb_ops.specs.declared.registers.Flags.{Flags}
use Rattle.gb_ops.specs.Registers.{get}
use Rattle.gb_domain.specs.declared.places.Place.{Place}
use Rattle.gb_domain.specs.declared.places.Place.TheVariants as place
use Rattle.gb_domain.specs.declared.places.Test.{Test}
use Rattle.gb_domain.specs.declared.places.Test.TheVariants as test
use Rattle.gb_domain.specs.declared.places.OneByte.{OneByte}

-- what the flags say of a byte
abbrev pub IsTested : Option Test → ℕ → Flags → Type 0
IsTested None v f = Unit {0}
IsTested (Some (test.Compare n)) v f = (f.zero ≡ (v == n)) × (f.carry ≡ nat_lt v n)
IsTested (Some (test.Bits m)) v f = f.zero ≡ (bit_and v m == 0)

-- all these places hold one byte, of which the flags say what the test says; memory by address
pub record HoldOneByte (b : OneByte) (x : Registers ℕ) (memory : ℕ → ℕ) (f : Flags) : Type 0 where
  pub byte : ℕ
  pub small : byte < 256
  pub registers : (r : Register) → get r b.registers ≡ true → get r x ≡ byte
  pub address : (a : ℕ) → b.address ≡ Some a → memory a ≡ byte
  pub test : IsTested b.test byte f

-- what a place holds
abbrev pub held_at : Place → Registers ℕ → (ℕ → ℕ) → ℕ
held_at (place.Register r) x memory = get r x
held_at (place.Address a) x memory = memory a
