-- The windows of a controller's registers, and what a store there leaves (MBCs; the least bounds are own).
use Rattle.std.specs.Prelude.{◌≡◌, ℕ, ◌+◌, ◌-◌, ◌*◌, ◌/◌, ◌%◌, ◌≤◌, Bool, true, false, not, ◌&&◌, ◌||◌, ◌==◌, nat_lt, nat_le, if◌then◌else◌, List, [], ◌∷◌, Option, Some, None}
use Rattle.std.specs.List.{find, Contains}
use Rattle.gb_ops.specs.declared.machine.Banks.{Banks}
use Rattle.gb_ops.specs.declared.machine.Kind.{Kind}
use Rattle.gb_ops.specs.declared.machine.Kind.TheVariants as kind
use Rattle.gb_ops.specs.Cartridge.{at_least_one, kind_after}
use Rattle.gb_domain.specs.declared.types.Val.{Val}
use Rattle.gb_domain.specs.declared.types.May.{May}
use Rattle.gb_domain.specs.declared.types.Ctl.{Ctl}
use Rattle.gb_domain.specs.declared.types.KeptBanks.{KeptBanks}
use Rattle.gb_domain.specs.Types.{all_or_none}
use Rattle.gb_abs.specs.Below.gb_vals.Meaning.{InBounds, may_be}
use Rattle.gb_abs.specs.Meaning.{HoldsLowBank, KeepsBanks}
use Rattle.gb_abs.specs.declared.span.Span.{Span}
use Rattle.gb_abs.specs.Span.{is_inside}
use Rattle.gb_abs_memory.specs.declared.windows.ControllerRegister.{ControllerRegister}
use Rattle.gb_abs_memory.specs.declared.windows.ControllerRegister.TheVariants as register
use Rattle.gb_abs_memory.specs.declared.windows.Window.{Window}

abbrev pub window : ℕ → ℕ → Option ControllerRegister → Window
window first last r = record { first = first; last = last; register = r }

-- the windows of each controller; without a controller a write has no effect
unfoldable pub windows : Kind → List Window
windows kind.Rom = window 0x0000 0x7FFF None ∷ []
windows kind.Mbc1 =
    window 0x0000 0x1FFF (Some register.Gate) ∷ window 0x2000 0x3FFF (Some register.Bank)
    ∷ window 0x4000 0x5FFF (Some register.Second) ∷ window 0x6000 0x7FFF (Some register.Mode) ∷ []
windows kind.Mbc3 =
    window 0x0000 0x1FFF (Some register.Gate) ∷ window 0x2000 0x3FFF (Some register.Bank)
    ∷ window 0x4000 0x5FFF (Some register.Second) ∷ window 0x6000 0x7FFF None ∷ []
windows kind.Mbc5 =
    window 0x0000 0x1FFF (Some register.Gate) ∷ window 0x2000 0x2FFF (Some register.LowBank)
    ∷ window 0x3000 0x3FFF (Some register.HighBank) ∷ window 0x4000 0x5FFF (Some register.Second)
    ∷ window 0x6000 0x7FFF None ∷ []

abbrev pub holds : Span → Window → Bool
holds s w = is_inside w.first w.last s

-- the window that all addresses lie in
unfoldable pub window_of : Kind → Span → Option Window
window_of k s = find (holds s) (windows k)

-- ---- the numbers from lo to hi, each cut to n values

abbrev pub is_in_one_block : ℕ → ℕ → ℕ → Bool
is_in_one_block n lo hi = lo / n == hi / n

unfoldable pub cut_least : ℕ → ℕ → ℕ → ℕ
cut_least n lo hi = if is_in_one_block n lo hi then lo % n else 0

unfoldable pub cut_most : ℕ → ℕ → ℕ → ℕ
cut_most n lo hi = if is_in_one_block n lo hi then hi % n else n - 1

-- one of them is r, cut to n values: the least that is doesn't come after hi
unfoldable pub has_rest : ℕ → ℕ → Val → Bool
has_rest n r v = nat_le (v.lo + (n + r - v.lo % n) % n) v.hi

-- one of them isn't
unfoldable pub has_other_rest : ℕ → ℕ → Val → Bool
has_other_rest n r v = nat_lt v.lo v.hi || not (v.lo % n == r)

-- ---- the registers after a store

-- how many values a register holds
abbrev pub bank_values : Kind → ℕ
bank_values kind.Mbc1 = 32
bank_values _ = 128

abbrev pub second_values : Kind → ℕ
second_values kind.Mbc1 = 4
second_values kind.Mbc5 = 16
second_values _ = 256

abbrev pub gate_after : Val → May
gate_after v = record { clear = has_other_rest 16 10 v; set = has_rest 16 10 v }

abbrev pub mode_after : Val → May
mode_after v = record { clear = has_rest 2 0 v; set = has_rest 2 1 v }

-- the bank of MBC1 and MBC3: 0 counts as 1
abbrev pub bank_after : ℕ → Val → Ctl → Ctl
bank_after n v c =
    record c { bank_lo = at_least_one (cut_least n v.lo v.hi); bank_hi = at_least_one (cut_most n v.lo v.hi) }

-- the bank of MBC5: its low eight bits, and its bit 8, as one number
abbrev pub low_bank_after : Val → Ctl → Ctl
low_bank_after v c =
    record c { bank_lo = c.bank_lo / 256 * 256 + v.lo; bank_hi = c.bank_hi / 256 * 256 + v.hi }

abbrev pub high_bank_after : Val → Ctl → Ctl
high_bank_after v c =
    record c {
      bank_lo = cut_least 2 v.lo v.hi * 256 + cut_least 256 c.bank_lo c.bank_hi;
      bank_hi = cut_most 2 v.lo v.hi * 256 + cut_most 256 c.bank_lo c.bank_hi;
    }

abbrev pub second_after : ℕ → Val → Ctl → Ctl
second_after n v c = record c { second_lo = cut_least n v.lo v.hi; second_hi = cut_most n v.lo v.hi }

-- the registers after a store of any of these bytes to one of them; what is said of what is kept stays
unfoldable pub ctl_after : Kind → ControllerRegister → Val → Ctl → Ctl
ctl_after k register.Gate v c = record c { gate = gate_after v }
ctl_after k register.Bank v c = bank_after (bank_values k) v c
ctl_after k register.LowBank v c = low_bank_after v c
ctl_after k register.HighBank v c = high_bank_after v c
ctl_after k register.Second v c = second_after (second_values k) v c
ctl_after k register.Mode v c = record c { mode = mode_after v }

-- the low eight bits of the least and of the greatest bank; where these are out of order no bank is meant, and they are any
abbrev pub are_low_ordered : Ctl → Bool
are_low_ordered c = nat_le (c.bank_lo % 256) (c.bank_hi % 256)

unfoldable pub low_bank_least : Ctl → ℕ
low_bank_least c = if are_low_ordered c then c.bank_lo % 256 else 0

unfoldable pub low_bank_most : Ctl → ℕ
low_bank_most c = if are_low_ordered c then c.bank_hi % 256 else 255

-- MBC5's bit 8 is stored, where the low eight bits have bounds of their own
abbrev pub high_half_after : Val → Ctl → Ctl
high_half_after v c =
    record c { bank_lo = cut_least 2 v.lo v.hi * 256 + low_bank_least c; bank_hi = cut_most 2 v.lo v.hi * 256 + low_bank_most c }

abbrev pub is_high : ControllerRegister → Bool
is_high register.HighBank = true
is_high _ = false

-- by the rules of version 4 the halves of MBC5's bank have bounds of their own, by those before the whole bank has
unfoldable pub ctl_by : Bool → Kind → ControllerRegister → Val → Ctl → Ctl
ctl_by w k r v c = if w && is_high r then high_half_after v c else ctl_after k r v c

-- all that is kept but the register
abbrev pub kept_but : ControllerRegister → KeptBanks → KeptBanks
kept_but register.Gate k = record k { gate = false }
kept_but register.Bank k = record k { bank = false }
kept_but register.LowBank k = record k { bank = false }
kept_but register.HighBank k = record k { high_bank = false }
kept_but register.Second k = record k { second = false }
kept_but register.Mode k = record k { mode = false }

-- what is kept after a store to a register, whatever the values: by the rules of version 4 all else that was, by those before nothing
abbrev pub kept_after : Bool → ControllerRegister → KeptBanks → KeptBanks
kept_after true r k = kept_but r k
kept_after false r k = all_or_none false

-- the controller after a store
abbrev pub ctl_written : Bool → Kind → ControllerRegister → Val → Ctl → Ctl
ctl_written w k r v c = record (ctl_by w k r v c) { kept = kept_after w r c.kept }

-- ---- what that promises

-- the controller's registers lie within the bounds and sets
pub record InCtl (c : Ctl) (r : Banks) : Type 0 where
  pub bank_least : c.bank_lo ≤ r.bank
  pub bank_most : r.bank ≤ c.bank_hi
  pub second_least : c.second_lo ≤ r.second
  pub second_most : r.second ≤ c.second_hi
  pub gate : may_be c.gate r.gate ≡ true
  pub mode : may_be c.mode r.mode ≡ true

-- an address lies in a window of the register
pub record IsAddressOf (k : Kind) (r : ControllerRegister) (a : ℕ) : Type 0 where
  pub window : Window
  pub is_window : Contains (windows k) window
  pub register : window.register ≡ Some r
  pub first : window.first ≤ a
  pub last : a ≤ window.last

-- whatever the registers are and whichever byte within the bounds is stored, they are within the result
pub record IsSoundWrite (k : Kind) (r : ControllerRegister) (v : Val) (c after : Ctl) : Type 0 where
  pub gives : (a n : ℕ) (old : Banks) → IsAddressOf k r a → InCtl c old → InBounds v n → n ≤ 255 → InCtl after (kind_after k old a n)

-- some registers and some byte within the bounds lead to registers with a property
pub record Leads (write : Banks → ℕ → Banks) (v : Val) (c : Ctl) (P : Banks → Type 0) : Type 0 where
  pub old : Banks
  pub byte : ℕ
  pub within : InCtl c old
  pub stored : InBounds v byte
  pub after : P (write old byte)

-- each end of the bounds, and each member of the sets, comes from some registers and some byte
pub record IsLeast (write : Banks → ℕ → Banks) (v : Val) (c after : Ctl) : Type 0 where
  pub bank_lo : Leads write v c (λ r. r.bank ≡ after.bank_lo)
  pub bank_hi : Leads write v c (λ r. r.bank ≡ after.bank_hi)
  pub second_lo : Leads write v c (λ r. r.second ≡ after.second_lo)
  pub second_hi : Leads write v c (λ r. r.second ≡ after.second_hi)
  pub gate : (b : Bool) → may_be after.gate b ≡ true → Leads write v c (λ r. r.gate ≡ b)
  pub mode : (b : Bool) → may_be after.mode b ≡ true → Leads write v c (λ r. r.mode ≡ b)

-- no smaller bounds and sets hold what a store leaves
pub record IsLeastWrite (k : Kind) (r : ControllerRegister) (v : Val) (c after : Ctl) : Type 0 where
  pub reached : (a : ℕ) → IsAddressOf k r a → IsLeast (λ old n. kind_after k old a n) v c after

-- all but the register stays
abbrev pub IsWrittenAlone : ControllerRegister → Ctl → Ctl → Type 0
IsWrittenAlone register.Gate c after = after ≡ record c { gate = after.gate }
IsWrittenAlone register.Second c after = after ≡ record c { second_lo = after.second_lo; second_hi = after.second_hi }
IsWrittenAlone register.Mode c after = after ≡ record c { mode = after.mode }
IsWrittenAlone _ c after = after ≡ record c { bank_lo = after.bank_lo; bank_hi = after.bank_hi }

-- the controller of which states speak: the cartridge's by the rules of version 4, and none by those before
abbrev pub known_kind : Bool → Kind → Kind
known_kind true k = k
known_kind false k = kind.Rom

-- of the registers that were what they were before something, those that are said to be kept are so after the store
pub record IsSoundKeeping (w : Bool) (r : ControllerRegister) (kept after : KeptBanks) : Type 0 where
  pub gives :
      (k : Kind) (a n : ℕ) (before old : Banks)
      → IsAddressOf k r a → n ≤ 255 → KeepsBanks (known_kind w k) kept before old → KeepsBanks (known_kind w k) after before (kind_after k old a n)

-- the registers lie within the bounds and sets, and the low eight bits of MBC5's bank within their own
pub record InHalves (k : Kind) (c : Ctl) (r : Banks) : Type 0 where
  pub within : InCtl c r
  pub low : HoldsLowBank k c r.bank

-- whatever the registers are and whichever byte within the bounds is stored, they are within the result, by the rules of the version
pub record IsSoundWriting (w : Bool) (k : Kind) (r : ControllerRegister) (v : Val) (c after : Ctl) : Type 0 where
  pub gives :
      (a n : ℕ) (old : Banks) → IsAddressOf k r a → InHalves (known_kind w k) c old → InBounds v n → n ≤ 255 → v.hi ≤ 255
      → InHalves (known_kind w k) after (kind_after k old a n)
