-- What operations on shadows promise of registers, memory and the controller (abstract interpretation: soundness; own).
use Rattle.std.specs.Prelude.{◌≡◌, ℕ, ◌≤◌, ◌<◌, true}
use Rattle.gb_ops.specs.declared.machine.Banks.{Banks}
use Rattle.gb_ops.specs.declared.machine.Kind.{Kind}
use Rattle.gb_ops.specs.declared.op.Register.{Register}
use Rattle.gb_ops.specs.declared.registers.Flags.{Flags}
use Rattle.gb_ops.specs.declared.registers.Registers.{Registers}
use Rattle.gb_ops.specs.Registers.{get, set}
use Rattle.gb_ops.specs.Cartridge.{kind_after}
use Rattle.gb_domain.specs.declared.places.Place.{Place}
use Rattle.gb_domain.specs.declared.places.OneByte.{OneByte}
use Rattle.gb_copies.specs.Meaning.{HoldOneByte, held_at}
use Rattle.gb_copies.specs.declared.windows.BankWindow.{BankWindow}
use Rattle.gb_domain.specs.declared.summary.Shadows.{Shadows}
use Rattle.gb_copies.specs.Windows.{is_in_window}
use Rattle.gb_copies.specs.ShadowMeaning.{AreShadows}

-- memory is what it was but for one address
abbrev pub IsWrittenAt : ℕ → (ℕ → ℕ) → (ℕ → ℕ) → Type 0
IsWrittenAt a memory written = (b : ℕ) → (b ≡ a → ⊥) → written b ≡ memory b

-- whatever the register becomes
pub record IsSoundRegister (q : Register) (s after : Shadows) : Type 0 where
  pub gives :
      (k : Kind) (which : BankWindow) (x : Registers ℕ) (memory : ℕ → ℕ) (r : Banks) (n : ℕ)
      → AreShadows k which s x memory r → AreShadows k which after (set q n x) memory r

-- whatever one of the addresses becomes
pub record IsSoundStore (first last : ℕ) (s after : Shadows) : Type 0 where
  pub gives :
      (k : Kind) (which : BankWindow) (x : Registers ℕ) (memory written : ℕ → ℕ) (r : Banks) (a : ℕ)
      → first ≤ a → a ≤ last → IsWrittenAt a memory written
      → AreShadows k which s x memory r → AreShadows k which after x written r

-- a register gets what a place holds
pub record IsSoundCopyTo (q : Register) (from : Place) (s after : Shadows) : Type 0 where
  pub gives :
      (k : Kind) (which : BankWindow) (x : Registers ℕ) (memory : ℕ → ℕ) (r : Banks)
      → AreShadows k which s x memory r → AreShadows k which after (set q (held_at from x memory) x) memory r

-- an address gets what a place held
pub record IsSoundStoreOf (a : ℕ) (from : Place) (s after : Shadows) : Type 0 where
  pub gives :
      (k : Kind) (which : BankWindow) (x : Registers ℕ) (memory written : ℕ → ℕ) (r : Banks)
      → written a ≡ held_at from x memory → IsWrittenAt a memory written
      → AreShadows k which s x memory r → AreShadows k which after x written r

-- a register's byte is stored into the window, whatever the controller's registers were
pub record IsSoundSwitch (q : Register) (b : OneByte) (after : Shadows) : Type 0 where
  pub gives :
      (k : Kind) (which : BankWindow) (x : Registers ℕ) (memory : ℕ → ℕ) (f : Flags) (a : ℕ) (old : Banks)
      → get q x < 256 → is_in_window k which a ≡ true → HoldOneByte b x memory f
      → AreShadows k which after x memory (kind_after k old a (get q x))
