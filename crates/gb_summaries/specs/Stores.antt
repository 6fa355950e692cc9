-- What a store leaves of what is said of the whole program (abstract interpretation: transfer functions; MBCs; own).
use Rattle.std.specs.Prelude.{◌≡◌, ℕ, ◌<◌, List, map, take, Option, Some, None, if◌then◌else◌}
use Rattle.gb_ops.specs.declared.machine.Banks.{Banks}
use Rattle.gb_ops.specs.declared.machine.Kind.{Kind}
use Rattle.gb_ops.specs.declared.machine.Region.{Region}
use Rattle.gb_ops.specs.declared.op.Register.{Register}
use Rattle.gb_ops.specs.declared.registers.Processor.{Processor}
use Rattle.gb_ops.specs.declared.registers.Registers.{Registers}
use Rattle.gb_ops.specs.Cartridge.{kind_after}
use Rattle.gb_ops.specs.Registers.{get}
use Rattle.gb_domain.specs.declared.places.OneByte.{OneByte}
use Rattle.gb_domain.specs.declared.places.Place.{Place}
use Rattle.gb_domain.specs.declared.places.Place.TheVariants as place
use Rattle.gb_domain.specs.declared.summary.Fact.{Fact}
use Rattle.gb_domain.specs.declared.summary.Shadows.{Shadows}
use Rattle.gb_domain.specs.declared.types.Cell.{Cell}
use Rattle.gb_domain.specs.Summaries.{SummaryParts, Program}
use Rattle.gb_relations.specs.Below.gb_copies.declared.windows.BankWindow.{BankWindow}
use Rattle.gb_relations.specs.Below.gb_copies.declared.windows.BankWindow.TheVariants.{First, Second}
use Rattle.gb_relations.specs.Below.gb_copies.Meaning.{HoldOneByte}
use Rattle.gb_relations.specs.Below.gb_copies.Shadows.{copied_to_address, stored}
use Rattle.gb_relations.specs.Below.gb_copies.Windows.{is_in_window}
use Rattle.gb_relations.specs.Places.{stored_place}
use Rattle.gb_ram_bounds.specs.declared.addresses.AddressSet.{AddressSet}
use Rattle.gb_ram_bounds.specs.Addresses.{is_in}
use Rattle.gb_ram_bounds.specs.Facts.{level_after}
use Rattle.gb_ram_bounds.specs.Fills.{filled}
use Rattle.gb_ram_bounds.specs.Meaning.{GoesThrough, HasCellsOf, IsStored}
use Rattle.gb_summaries.specs.declared.stores.Store.{Store}
use Rattle.gb_summaries.specs.Meaning.{HoldSummary, pointers_of}

-- ---- in RAM

-- one of the addresses was written
abbrev pub address_left : AddressSet → Option ℕ → Option ℕ
address_left x None = None
address_left x (Some a) = if is_in x a then None else Some a

unfoldable pub without_stored : AddressSet → Shadows → Shadows
without_stored x s = record s { address = address_left x s.address }

-- a register was stored at a place, or a byte somewhere among addresses
abbrev pub shadows_by : Option Place → Option Register → AddressSet → Shadows → Shadows
shadows_by (Some (place.Address a)) (Some q) x s = copied_to_address a (place.Register q) s
shadows_by _ _ x s = without_stored x s

unfoldable pub shadows_stored : Region → Store → Shadows → Shadows
shadows_stored region w s =
    shadows_by (stored_place region (record { first = w.addresses.first; last = w.addresses.last })) w.from w.addresses s

-- a byte was stored in RAM; the cells are those after it
unfoldable pub stored_in_ram : Region → List Fact → List Cell → Store → SummaryParts → SummaryParts
stored_in_ram region facts cells w s =
    record s {
      level = level_after (take s.level facts) cells w.addresses w.value;
      fills = map (filled cells w.addresses w.through w.value) s.fills;
      shadows =
          record {
            first = shadows_stored region w s.shadows.first;
            second = shadows_stored region w s.shadows.second;
          };
    }

-- ---- into the controller

-- a byte was stored at an address, by a register or not, whose other places the byte has
unfoldable pub switched_window : Kind → BankWindow → ℕ → Option Register → OneByte → Shadows → Shadows
switched_window k which a from b s = if is_in_window k which a then stored from b else s

unfoldable pub switched : Kind → ℕ → Option Register → OneByte → SummaryParts → SummaryParts
switched k a from b s =
    record s {
      shadows =
          record {
            first = switched_window k First a from b s.shadows.first;
            second = switched_window k Second a from b s.shadows.second;
          };
    }

-- ---- what that promises

-- the byte is the register's, where there is one
abbrev pub IsFrom : Option Register → Registers ℕ → ℕ → Type 0
IsFrom None x n = Unit {0}
IsFrom (Some q) x n = n ≡ get q x

-- memory after the store
pub record IsAfterStore (w : Store) (p : Processor) (memory stored : ℕ → ℕ) : Type 0 where
  pub store : IsStored w.addresses w.value memory stored
  pub through : GoesThrough w.through (pointers_of p) store.address
  pub from : IsFrom w.from p.registers (stored store.address)

-- the summary holds after the store, with the cells that are there then
pub record IsSoundStore (program : Program) (cells : List Cell) (w : Store) (s after : SummaryParts) : Type 0 where
  pub gives :
      (before : List Cell) (p : Processor) (memory stored : ℕ → ℕ) (banks : Banks)
      → HasCellsOf before cells → IsAfterStore w p memory stored
      → HoldSummary program before s p memory banks → HoldSummary program cells after p stored banks

-- the windows have both addresses, or neither
pub record ShareWindows (k : Kind) (a b : ℕ) : Type 0 where
  pub same : (which : BankWindow) → is_in_window k which a ≡ is_in_window k which b

-- it holds after a store at an address of the same windows
pub record IsSoundSwitch (program : Program) (a : ℕ) (from : Option Register) (b : OneByte) (s after : SummaryParts) : Type 0 where
  pub gives :
      (cells : List Cell) (p : Processor) (memory : ℕ → ℕ) (banks : Banks) (at byte : ℕ)
      → ShareWindows program.kind a at → at < 0x8000 → byte < 256 → IsFrom from p.registers byte
      → HoldOneByte b p.registers memory p.flags → HoldSummary program cells s p memory banks
      → HoldSummary program cells after p memory (kind_after program.kind banks at byte)
