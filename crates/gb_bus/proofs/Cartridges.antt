-- The cartridge behind the bus.
use Rattle.std.proofs.Common.{◌≡◌, ℕ, ◌<◌, true, false, nat_lt, List, refl, ap}
use Rattle.std.proofs.lemmas.Bool.{lt-ltb}
use Rattle.gb_ops.specs.declared.machine.Banks.{Banks}
use Rattle.gb_ops.specs.Cartridge.{shown_bank, ram_banks, banks_after, kind_of}
use Rattle.gb_mbc.proofs.Below.gb_header_laws.Laws.{shown_bank-below, bank_inside}
use Rattle.gb_mbc.specs.Controllers.{Features, features_of, low_bank, high_bank, registers_after, is_latch}

-- what a controller shows is what the machine's definitions show
pub low_is_shown : (f : Features) (rom : List ℕ) (r : Banks) (a : ℕ) → f ≡ features_of rom → nat_lt a 0x4000 ≡ true → low_bank f r ≡ shown_bank rom r a
unfolding low_bank features_of shown_bank
low_is_shown f rom r a is low = rw (is, low) refl

pub high_is_shown : (f : Features) (rom : List ℕ) (r : Banks) (a : ℕ) → f ≡ features_of rom → nat_lt a 0x4000 ≡ false → high_bank f r ≡ shown_bank rom r a
unfolding high_bank features_of shown_bank
high_is_shown f rom r a is high = rw (is, high) refl

-- a bank that a controller shows is one of the cartridge's
pub ram_is_held : (f : Features) (rom : List ℕ) (bank : ℕ) → f ≡ features_of rom → bank < f.ram_banks → bank < ram_banks rom
unfolding features_of
ram_is_held f rom bank is below = rw (ap (λ (g : Features). g.ram_banks) is) at below

-- what is written is the machine's
pub registers_are :
    (f : Features) (rom : List ℕ) (r : Banks) (a v : ℕ) → f ≡ features_of rom → a < 0x8000 → registers_after f r a v ≡ banks_after rom r a v
unfolding registers_after features_of banks_after
registers_are f rom r a v is below = rw (is, lt-ltb a 0x8000 below) refl

pub latch_is : (f : Features) (rom : List ℕ) (a : ℕ) → f ≡ features_of rom → is_latch f.kind a ≡ is_latch (kind_of rom) a
unfolding features_of
latch_is f rom a is = ap (λ (g : Features). is_latch g.kind a) is

pub ruleset rom_laws = (shown_bank-below, bank_inside)
