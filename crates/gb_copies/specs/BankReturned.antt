-- Shadows as a routine returns (abstract interpretation: procedure summaries; own).
use Rattle.std.specs.Prelude.{◌≡◌, ℕ, Bool, true, ◌&&◌, if◌then◌else◌, Option, Some, None}
use Rattle.gb_ops.specs.declared.machine.Banks.{Banks}
use Rattle.gb_ops.specs.declared.machine.Kind.{Kind}
use Rattle.gb_ops.specs.declared.op.Register.{Register}
use Rattle.gb_ops.specs.declared.registers.Registers.{Registers}
use Rattle.gb_ops.specs.Registers.{get}
use Rattle.gb_domain.specs.Places.{no_place}
use Rattle.gb_copies.specs.declared.windows.BankWindow.{BankWindow}
use Rattle.gb_domain.specs.declared.summary.Shadows.{Shadows}
use Rattle.gb_copies.specs.declared.bank_returned.Preserved.{Preserved}
use Rattle.gb_copies.specs.Windows.{register_of}
use Rattle.gb_copies.specs.ShadowMeaning.{AreShadows}
use Rattle.gb_copies.specs.Shadows.{either_registers, both_registers}

abbrev pub registers_if : Bool → Registers Bool → Registers Bool
registers_if c s = if c then s else no_place

-- the exit's address, else the caller's where it may stay
abbrev pub address_returned : Bool → Option ℕ → Option ℕ → Option ℕ
address_returned stays (Some a) caller = Some a
address_returned stays None caller = if stays then caller else None

-- the exit's shadows, and of the caller's those whose byte and register are as they were
unfoldable pub returned : Preserved → Shadows → Shadows → Shadows
returned kept exit caller = record {
  registers = either_registers exit.registers (registers_if kept.window (both_registers kept.registers caller.registers));
  address = address_returned (kept.window && kept.address) exit.address caller.address;
}

-- what the routine kept: the window's register, registers, and the byte at the caller's address
pub record AreKept (k : Kind) (which : BankWindow) (kept : Preserved) (caller : Shadows) (x y : Registers ℕ) (memory after : ℕ → ℕ) (r s : Banks) : Type 0 where
  pub window : kept.window ≡ true → register_of k which s ≡ register_of k which r
  pub registers : (q : Register) → get q kept.registers ≡ true → get q y ≡ get q x
  pub address : kept.address ≡ true → (a : ℕ) → caller.address ≡ Some a → after a ≡ memory a

-- as it was called the caller's shadows held, and as it returns the exit's: then these do
pub record IsSoundReturn (kept : Preserved) (exit caller o : Shadows) : Type 0 where
  pub gives :
      (k : Kind) (which : BankWindow) (x y : Registers ℕ) (memory after : ℕ → ℕ) (r s : Banks)
      → AreKept k which kept caller x y memory after r s
      → AreShadows k which caller x memory r → AreShadows k which exit y after s → AreShadows k which o y after s
