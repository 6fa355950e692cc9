-- The facts of a header, and what a controller shows by them.
use Rattle.std.proofs.Common.{◌≡◌, ◌≢◌, ℕ, ◌<◌, ◌≤◌, true, false, not, ◌||◌, ◌==◌, nat_lt, List, Option, Some, None, Ok, Err, slice_set, slice_index, refl, ap, ◌∙◌, arith, get_or-set_other}
use Rattle.std.proofs.lemmas.List.{get_or-replicate}
use Rattle.std.proofs.lemmas.Bool.{lt-ltb}
use Rattle.gb_ops.specs.declared.machine.Banks.{Banks}
use Rattle.gb_ops.specs.declared.machine.Kind.{Kind}
use Rattle.gb_ops.specs.Cartridge.{kind_of, kind_of_type, rom_banks, rom_banks_of_size, ram_banks, type_has_ram, has_clock, type_has_clock, type_has_rumble, shown_bank, banks_after, has_ram_or_clock}
use Rattle.gb_cpu.specs.Below.gb_header.declared.fault.HeaderFault.{HeaderFault}
use Rattle.gb_cpu.specs.Below.gb_header.Header.{parsed, taken_or, fault_of}
use Rattle.gb_plain.specs.Shown.{zeros}
use Rattle.gb_cpu.specs.Below.gb_mbc.Controllers.{Features, features_of, flat_features, low_bank, high_bank, registers_after}

-- what a controller shows is what the machine's definitions show
pub low_is_shown : (f : Features) (rom : List ℕ) (r : Banks) (a : ℕ) → f ≡ features_of rom → nat_lt a 0x4000 ≡ true → low_bank f r ≡ shown_bank rom r a
unfolding low_bank features_of shown_bank
low_is_shown f rom r a is low = rw (is, low) refl

pub high_is_shown : (f : Features) (rom : List ℕ) (r : Banks) (a : ℕ) → f ≡ features_of rom → nat_lt a 0x4000 ≡ false → high_bank f r ≡ shown_bank rom r a
unfolding high_bank features_of shown_bank
high_is_shown f rom r a is high = rw (is, high) refl

-- what is written is the machine's
pub registers_are :
    (f : Features) (rom : List ℕ) (r : Banks) (a v : ℕ) → f ≡ features_of rom → a < 0x8000 → registers_after f r a v ≡ banks_after rom r a v
unfolding registers_after features_of banks_after
registers_are f rom r a v is below = rw (is, lt-ltb a 0x8000 below) refl

-- two cartridges with the same facts
pub ram_or_clock_by_features : (a b : List ℕ) → features_of a ≡ features_of b → has_ram_or_clock a ≡ has_ram_or_clock b
unfolding features_of has_ram_or_clock
ram_or_clock_by_features a b e = ap (λ (f : Features). not (f.ram_banks == 0) || f.has_clock) e

pub kind_by_features : (f : Features) (rom : List ℕ) (k : Kind) → f ≡ features_of rom → k ≡ f.kind → k ≡ kind_of rom
unfolding features_of
kind_by_features f rom k is same = same ∙ ap (λ (g : Features). g.kind) is

-- the facts rest on the bytes 0147 to 0149 alone
pub features_set :
    (rom : List ℕ) (i v : ℕ) → 0x147 ≢ i → 0x148 ≢ i → 0x149 ≢ i → features_of (slice_set rom i v) ≡ features_of rom
unfolding features_of kind_of rom_banks ram_banks has_clock
features_set rom i v a b c =
    rw (get_or-set_other rom i 0x147 v 0 a, get_or-set_other rom i 0x148 v 0 b, get_or-set_other rom i 0x149 v 0 c) refl

pub ram_or_clock_set :
    (rom : List ℕ) (i v : ℕ) → 0x147 ≢ i → 0x148 ≢ i → 0x149 ≢ i → has_ram_or_clock (slice_set rom i v) ≡ has_ram_or_clock rom
ram_or_clock_set rom i v a b c = ram_or_clock_by_features (slice_set rom i v) rom (features_set rom i v a b c)

pub checksum_apart : (rom : List ℕ) (v : ℕ) → features_of (slice_set rom 0x14D v) ≡ features_of rom
checksum_apart rom v = features_set rom 0x14D v (λ e. absurd (omega (arith, e))) (λ e. absurd (omega (arith, e))) (λ e. absurd (omega (arith, e)))

-- bytes 00, enough of them, are a cartridge without a controller
byte_of_zeros : (n i : ℕ) → i < n → slice_index (zeros n) i ≡ 0
unfolding zeros
byte_of_zeros n i h = get_or-replicate n i 0 0 h

pub zeros_features : (n : ℕ) → 0x150 ≤ n → flat_features ≡ features_of (zeros n)
unfolding features_of kind_of kind_of_type rom_banks rom_banks_of_size ram_banks type_has_ram has_clock type_has_clock type_has_rumble
zeros_features n h = rw (byte_of_zeros n 0x147 (omega arith), byte_of_zeros n 0x148 (omega arith)) refl

pub flat_has_none : (rom : List ℕ) → flat_features ≡ features_of rom → false ≡ has_ram_or_clock rom
unfolding features_of has_ram_or_clock
flat_has_none rom e = ap (λ (f : Features). not (f.ram_banks == 0) || f.has_clock) e

-- a cartridge that is accepted is the bytes that it was read from
by_fault : (o : Option HeaderFault) (bytes rom : List ℕ) → Ok rom ≡ taken_or o bytes → rom ≡ bytes
by_fault None bytes rom e = let is : Ok rom ≡ Ok bytes = e in cc
by_fault (Some f) bytes rom e = absurd (let bad : Ok rom ≡ Err f = e in cc)

pub parsed_is : (bytes rom : List ℕ) → Ok rom ≡ parsed bytes → rom ≡ bytes
unfolding parsed
parsed_is bytes rom e = by_fault (fault_of bytes) bytes rom e
