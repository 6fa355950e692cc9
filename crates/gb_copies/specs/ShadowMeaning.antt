-- What shadows of a controller's register are (abstract interpretation: concretization; own).
use Rattle.std.specs.Prelude.{◌≡◌, ℕ, true, Some}
use Rattle.gb_ops.specs.declared.machine.Banks.{Banks}
use Rattle.gb_ops.specs.declared.machine.Kind.{Kind}
use Rattle.gb_ops.specs.declared.op.Register.{Register}
use Rattle.gb_ops.specs.declared.registers.Registers.{Registers}
use Rattle.gb_ops.specs.Registers.{get}
use Rattle.gb_copies.specs.declared.windows.BankWindow.{BankWindow}
use Rattle.gb_domain.specs.declared.summary.Shadows.{Shadows}
use Rattle.gb_copies.specs.Windows.{has_windows, register_of, left_by}

-- a byte shadows the register of a window: stored there, it leaves what the register holds; without a controller nothing is said
abbrev pub IsShadow : Kind → BankWindow → ℕ → Banks → Type 0
IsShadow k which byte r = has_windows k ≡ true → left_by k which byte ≡ register_of k which r

-- each of the places has such a byte; two of them needn't hold the same one
pub record AreShadows (k : Kind) (which : BankWindow) (s : Shadows) (x : Registers ℕ) (memory : ℕ → ℕ) (r : Banks) : Type 0 where
  pub registers : (q : Register) → get q s.registers ≡ true → IsShadow k which (get q x) r
  pub address : (a : ℕ) → s.address ≡ Some a → IsShadow k which (memory a) r
