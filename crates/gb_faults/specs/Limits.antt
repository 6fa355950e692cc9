-- What the faults of an access depend on (own).
use Rattle.std.specs.Prelude.{ℕ, nat_lt, Bool, List, [], false}
use Rattle.gb_ops.specs.declared.machine.Kind.{Kind}
use Rattle.gb_ops.specs.declared.machine.Kind.TheVariants as kind
use Rattle.gb_ops.specs.Memory.{View}

-- a view of a cartridge, the gate to its RAM and the transfer alone
unfoldable pub limits : List ℕ → Bool → ℕ → View
limits rom gate count =
    record {
      rom = rom;
      storage = record { banks = record { bank = 0; second = 0; gate = gate; mode = false }; work = []; high = []; ie = 0; count = count };
      starting = false;
    }

-- the limits of any view
unfoldable pub limits_of : View → View
limits_of m = limits m.rom m.storage.banks.gate m.storage.count

-- a controller has the gate to cartridge RAM at 0000-1FFF (Pan Docs: MBC1, MBC3, MBC5)
abbrev pub has_gate : Kind → ℕ → Bool
has_gate kind.Rom a = false
has_gate _ a = nat_lt a 0x2000
