-- What loads and stores of abstract states promise of the machine (abstract interpretation: soundness; own).
use Rattle.std.specs.Prelude.{◌≡◌, ℕ, ◌*◌, ◌^◌, ◌<◌, ◌≤◌, Bool, true, false, ◌||◌, ◌==◌, List, slice_index, length}
use Rattle.std.specs.List.{AllByRecursion, list_any}
use Rattle.gb_ops.specs.declared.machine.Region.{Region}
use Rattle.gb_ops.specs.Cartridge.{kind_of, rom_banks}
use Rattle.gb_ops.specs.Memory.{View, wrote}
use Rattle.gb_ops.specs.Machine.{read_at}
use Rattle.gb_ops.specs.Faults.{no_faults, access_faults, write_faults}
use Rattle.gb_ops.specs.Play.{MState}
use Rattle.gb_domain.specs.declared.types.Val.{Val}
use Rattle.gb_domain.specs.declared.types.Cell.{Cell}
use Rattle.gb_domain.specs.declared.types.Range.{Range}
use Rattle.gb_domain.specs.Types.{AbsState}
use Rattle.gb_domain.specs.Areas.{IsRegion, meets}
use Rattle.gb_domain.specs.Rules.{IsVal}
use Rattle.gb_domain.specs.Settings.{IsBase}
use Rattle.gb_domain.specs.declared.setting.Setting.{Setting}
use Rattle.gb_domain.specs.declared.rules.Rules.TheVariants.{Simple}
use Rattle.gb_abs.specs.declared.span.Span.{Span}
use Rattle.gb_abs.specs.Span.{IsIn, one}
use Rattle.gb_abs.specs.Cells.{ArePlaced}
use Rattle.gb_abs.specs.Stack.{AreInRegion}
use Rattle.gb_abs.specs.Storage.{is_ram, peek}
use Rattle.gb_abs.specs.Meaning.{Activation, Holds, MeansParts}
use Rattle.gb_abs_memory.specs.declared.store.Stored.{Stored}
use Rattle.gb_abs_memory.specs.Access.{is_range}
use Rattle.gb_abs_memory.specs.Kept.{keeps, IsKept}
use Rattle.gb_abs_memory.specs.Windows.{known_kind}

-- a number of banks that a cartridge may have: 2 to 512
pub record IsSize (banks : ℕ) : Type 0 where
  pub exponent : ℕ
  pub small : exponent ≤ 8
  pub power : banks ≡ 2 * 2 ^ exponent

-- bytes, of so many banks
pub record IsRom (rom : List ℕ) : Type 0 where
  pub size : IsSize (rom_banks rom)
  pub bytes : (i : ℕ) → slice_index rom i ≤ 255

-- a bus shows a machine state's memory within an event
abbrev pub view : List ℕ → MState → Bool → View
view rom x starting = record { rom = rom; storage = x.storage; starting = starting }

-- each cell has a value
abbrev pub AreVals : List Cell → Type 0
AreVals cells = AllByRecursion (λ c. IsVal c.val) cells

-- a byte is read without a fault, and v stands for it
pub record IsLoaded (m : View) (a : ℕ) (free : List ℕ) (v : Val) (entry : Activation) : Type 0 where
  pub holds : Holds v entry (read_at m a free).value
  pub byte : (read_at m a free).value ≤ 255
  pub faults : access_faults m a ≡ no_faults

-- of each of these states, of a procedure whose base is what is said, from each of these addresses, whatever free reads give
pub record IsSoundLoad (z : Setting) (rom : List ℕ) (s : AbsState) (span : Span) (v : Val) : Type 0 where
  pub gives : (entry : Activation) (base : ℕ) (x : MState) (starting : Bool) (a : ℕ) (free : List ℕ)
      → IsBase z base → IsRom rom → MeansParts s entry base x → IsVal s.core.ie → IsIn span a → a < 65536 → slice_index free 0 ≤ 255
      → IsLoaded (view rom x starting) a free v entry

-- a byte is stored without a fault: what is left is meant, with as many items, the other bytes of RAM and the places of cells
-- are kept, and an OAM transfer starts exactly where it is said; what the procedure keeps isn't stored to, and a byte of the stack
-- region outside its ranges lies below its base; by the rules of versions 1 and 2 the items stay
pub record IsStored (z : Setting) (m : View) (a n : ℕ) (region : Region) (ranges : List Range) (s : AbsState) (entry : Activation) (base : ℕ) (x : MState) (o : Stored) : Type 0 where
  pub means : MeansParts o.state entry base (record x { storage = (wrote m a n).storage })
  pub faults : write_faults m a n ≡ no_faults
  pub starting : (wrote m a n).starting ≡ (m.starting || o.starts)
  pub rom : (wrote m a n).rom ≡ m.rom
  pub others : (b : ℕ) → is_ram b ≡ true → (b == a) ≡ false → peek (wrote m a n).storage b ≡ peek x.storage b
  pub spared : IsKept z region ranges base a → ⊥
  pub held : keeps z ≡ true → meets region a a ≡ true → list_any (is_range (one a)) ranges ≡ false → a < base
  pub count : length o.state.items ≡ length s.items
  pub items : z.rules ≡ Simple → o.state.items ≡ s.items
  pub placed : ArePlaced region o.state.cells

-- of each of these states, of a procedure whose base is what is said in a program whose controller is known by the rules of version 4,
-- to each of these addresses, each byte that v stands for
pub record IsSoundStore (z : Setting) (rom : List ℕ) (region : Region) (ranges : List Range) (s : AbsState) (span : Span) (v : Val) (o : Stored) : Type 0 where
  pub gives : (entry : Activation) (base : ℕ) (x : MState) (starting : Bool) (a n : ℕ)
      → IsBase z base → entry.program.kind ≡ known_kind z.is_whole (kind_of rom) → MeansParts s entry base x
      → ArePlaced region s.cells → AreInRegion region base (length s.items) → IsRegion region
      → IsIn span a → a < 65536 → Holds v entry n → n ≤ 255 → v.hi ≤ 255
      → IsStored z (view rom x starting) a n region ranges s entry base x o
