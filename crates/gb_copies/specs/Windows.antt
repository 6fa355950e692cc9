-- The two windows of a controller whose registers variables shadow, and what a byte leaves there (MBCs; own).
use Rattle.std.specs.Prelude.{◌≡◌, ℕ, ◌/◌, ◌%◌, ◌^◌, ◌<◌, Bool, true, false}
use Rattle.gb_ops.specs.declared.machine.Banks.{Banks}
use Rattle.gb_ops.specs.declared.machine.Kind.{Kind}
use Rattle.gb_ops.specs.declared.machine.Kind.TheVariants as kind
use Rattle.gb_ops.specs.Cartridge.{is_within, at_least_one, kind_after}
use Rattle.gb_copies.specs.declared.windows.BankWindow.{BankWindow}
use Rattle.gb_copies.specs.declared.windows.BankWindow.TheVariants.{First, Second}

-- without a controller there are none
abbrev pub has_windows : Kind → Bool
has_windows kind.Rom = false
has_windows _ = true

-- the addresses of a window: MBC5 has its bank's low eight bits in one, and bit 8 in the other
unfoldable pub is_in_window : Kind → BankWindow → ℕ → Bool
is_in_window kind.Rom which a = false
is_in_window kind.Mbc5 First a = is_within 0x2000 0x2FFF a
is_in_window kind.Mbc5 Second a = is_within 0x3000 0x3FFF a
is_in_window _ First a = is_within 0x2000 0x3FFF a
is_in_window _ Second a = is_within 0x4000 0x5FFF a

-- what its register holds
unfoldable pub register_of : Kind → BankWindow → Banks → ℕ
register_of kind.Mbc5 First r = r.bank % 256
register_of kind.Mbc5 Second r = r.bank / 256
register_of _ First r = r.bank
register_of _ Second r = r.second

-- how many low bits of a byte the register takes
abbrev pub register_bits : Kind → BankWindow → ℕ
register_bits kind.Mbc1 First = 5
register_bits kind.Mbc1 Second = 2
register_bits kind.Mbc3 First = 7
register_bits kind.Mbc5 Second = 1
register_bits _ _ = 8

-- the bank of MBC1 and MBC3
abbrev pub counts_from_one : Kind → BankWindow → Bool
counts_from_one kind.Mbc1 First = true
counts_from_one kind.Mbc3 First = true
counts_from_one _ _ = false

abbrev pub counted : Bool → ℕ → ℕ
counted true n = at_least_one n
counted false n = n

-- what a byte leaves in it
unfoldable pub left_by : Kind → BankWindow → ℕ → ℕ
left_by k which byte = counted (counts_from_one k which) (byte % 2 ^ register_bits k which)

-- ---- what that promises

-- a store into the window leaves what the byte leaves
abbrev pub StoresLeave : Type 0
StoresLeave =
    (k : Kind) (which : BankWindow) (r : Banks) (a byte : ℕ)
    → byte < 256 → is_in_window k which a ≡ true → register_of k which (kind_after k r a byte) ≡ left_by k which byte

-- a store elsewhere below 8000 leaves the register
abbrev pub OtherStoresStay : Type 0
OtherStoresStay =
    (k : Kind) (which : BankWindow) (r : Banks) (a byte : ℕ)
    → byte < 256 → a < 0x8000 → has_windows k ≡ true → is_in_window k which a ≡ false
    → register_of k which (kind_after k r a byte) ≡ register_of k which r
