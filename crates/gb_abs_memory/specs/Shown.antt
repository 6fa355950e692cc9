-- The ROM bank that is shown, whatever a controller's registers are within their bounds and sets (MBCs; own).
use Rattle.std.specs.Prelude.{◌≡◌, ℕ, ◌+◌, ◌*◌, Bool, true, not, ◌&&◌, ◌||◌, ◌==◌, nat_lt, nat_le, if◌then◌else◌, List, Option, Some, None}
use Rattle.gb_ops.specs.declared.machine.Banks.{Banks}
use Rattle.gb_ops.specs.declared.machine.Kind.{Kind}
use Rattle.gb_ops.specs.declared.machine.Kind.TheVariants as kind
use Rattle.gb_ops.specs.Cartridge.{cut_to, kind_of, rom_banks, shown_bank}
use Rattle.gb_domain.specs.declared.types.Ctl.{Ctl}
use Rattle.gb_abs_memory.specs.Windows.{InCtl}

-- one value
abbrev pub is_bank_single : Ctl → Bool
is_bank_single c = c.bank_lo == c.bank_hi

-- 32 times the second register, cut to so many banks: always 0 where there are at most 32
abbrev pub is_second_known : ℕ → Ctl → Bool
is_second_known banks c = nat_le banks 32 || (c.second_lo == c.second_hi)

-- the bank at 0000-3FFF of MBC1 is known: mode 0 shows bank 0, mode 1 shows 32 times the second register
abbrev pub is_mode_harmless : ℕ → Ctl → Bool
is_mode_harmless banks c = not c.mode.set || is_second_known banks c && (not c.mode.clear || (cut_to banks (32 * c.second_lo) == 0))

abbrev pub known_if : Bool → ℕ → Option ℕ
known_if true n = Some n
known_if _ n = None

-- the bank at 0000-3FFF, of so many
unfoldable pub known_low_bank : Kind → ℕ → Ctl → Option ℕ
known_low_bank kind.Mbc1 banks c = known_if (is_mode_harmless banks c) (if c.mode.set then cut_to banks (32 * c.second_lo) else 0)
known_low_bank _ banks c = Some 0

-- the bank at 4000-7FFF, of so many
unfoldable pub known_high_bank : Kind → ℕ → Ctl → Option ℕ
known_high_bank kind.Rom banks c = Some (cut_to banks 1)
known_high_bank kind.Mbc1 banks c = known_if (is_bank_single c && is_second_known banks c) (cut_to banks (32 * c.second_lo + c.bank_lo))
known_high_bank _ banks c = known_if (is_bank_single c) (cut_to banks c.bank_lo)

-- the bank at an address; RAM has bank 0
unfoldable pub known_bank : List ℕ → Ctl → ℕ → Option ℕ
known_bank rom c a =
    if nat_lt a 0x4000 then known_low_bank (kind_of rom) (rom_banks rom) c
    else if nat_lt a 0x8000 then known_high_bank (kind_of rom) (rom_banks rom) c
    else Some 0

-- all registers within the bounds and sets show this bank
abbrev pub AllShow : List ℕ → Ctl → ℕ → ℕ → Type 0
AllShow rom c a bank = (r : Banks) → InCtl c r → shown_bank rom r a ≡ bank
