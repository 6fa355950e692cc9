-- Covering of shadows (abstract interpretation: the order of the domain; own).
use Rattle.std.specs.Prelude.{◌≡◌, ℕ, ◌≤◌, Bool, true, not, ◌&&◌, ◌||◌, ◌==◌, Option, Some, None}
use Rattle.gb_ops.specs.declared.machine.Banks.{Banks}
use Rattle.gb_ops.specs.declared.machine.Kind.{Kind}
use Rattle.gb_ops.specs.declared.op.Register.{Register}
use Rattle.gb_ops.specs.declared.op.Register.TheVariants.{A, B, C, D, E, H, L}
use Rattle.gb_ops.specs.declared.registers.Registers.{Registers}
use Rattle.gb_ops.specs.Registers.{get}
use Rattle.gb_domain.specs.declared.pairs.Bounds.{Bounds}
use Rattle.gb_domain.specs.declared.interval.StridedInterval.{StridedInterval}
use Rattle.gb_domain.specs.Meaning.{In}
use Rattle.gb_copies.specs.Places.{is_address}
use Rattle.gb_copies.specs.declared.windows.BankWindow.{BankWindow}
use Rattle.gb_domain.specs.declared.summary.Shadows.{Shadows}
use Rattle.gb_copies.specs.declared.bank_covering.Known.{Known}
use Rattle.gb_copies.specs.Windows.{has_windows, register_of, left_by}
use Rattle.gb_copies.specs.ShadowMeaning.{AreShadows}

-- the byte is known, and so is the register: it is what the byte leaves; without a controller a byte leaves what is there
unfoldable pub is_left : Kind → BankWindow → Bounds → StridedInterval → Bool
is_left k which b v = v.lo == v.hi && b.first == b.last && (not (has_windows k) || left_by k which v.lo == b.first)

-- a register that is to be a shadow is one, or is known to be
unfoldable pub covers_register : Kind → BankWindow → Known → Shadows → Shadows → Register → Bool
covers_register k which known s t q = not (get q t.registers) || get q s.registers || is_left k which known.bounds (get q known.registers)

abbrev pub covers_address : Kind → BankWindow → Known → Shadows → Option ℕ → Bool
covers_address k which known s None = true
covers_address k which known s (Some a) = is_address a s.address || is_left k which known.bounds known.memory

-- each place that is to be a shadow is one, or is known to be
unfoldable pub covers : Kind → BankWindow → Known → Shadows → Shadows → Bool
covers k which known s t =
    covers_register k which known s t A && covers_register k which known s t B && covers_register k which known s t C
    && covers_register k which known s t D && covers_register k which known s t E && covers_register k which known s t H
    && covers_register k which known s t L && covers_address k which known s t.address

-- registers, the byte at the other ones' address, and the window's register are as they are known
pub record IsKnown (k : Kind) (which : BankWindow) (known : Known) (t : Shadows) (x : Registers ℕ) (memory : ℕ → ℕ) (r : Banks) : Type 0 where
  pub registers : (q : Register) → In (get q known.registers) (get q x)
  pub byte : (a : ℕ) → t.address ≡ Some a → In known.memory (memory a)
  pub least : known.bounds.first ≤ register_of k which r
  pub greatest : register_of k which r ≤ known.bounds.last

-- whatever holds the first shadows, and is as it is known, holds the other ones
pub record IsPartOf (k : Kind) (which : BankWindow) (known : Known) (s t : Shadows) : Type 0 where
  pub gives :
      (x : Registers ℕ) (memory : ℕ → ℕ) (r : Banks)
      → IsKnown k which known t x memory r → AreShadows k which s x memory r → AreShadows k which t x memory r
