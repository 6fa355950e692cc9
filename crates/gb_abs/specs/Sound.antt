-- What operations on abstract states promise of the machine (abstract interpretation: soundness; own).
use Rattle.std.specs.Prelude.{◌≡◌, ℕ, ◌+◌, ◌/◌, ◌%◌, ◌≤◌, ◌<◌, ◌-◌, Bool, true, false, ◌==◌, List, length, None, ◌⊎◌}
use Rattle.gb_ops.specs.declared.machine.Kind.{Kind}
use Rattle.gb_ops.specs.declared.machine.Region.{Region}
use Rattle.gb_ops.specs.declared.machine.Read.TheVariants as read
use Rattle.gb_ops.specs.declared.machine.Write.TheVariants as write
use Rattle.gb_ops.specs.declared.op.Register.{Register}
use Rattle.gb_ops.specs.Registers.{get, set}
use Rattle.gb_ops.specs.Pairs.{with_registers}
use Rattle.gb_ops.specs.Memory.{Storage, View, stored, passed}
use Rattle.gb_ops.specs.Machine.{loaded, settled}
use Rattle.gb_ops.specs.Effects.{with_sp}
use Rattle.gb_ops.specs.Faults.{no_faults, store_faults, load_faults}
use Rattle.gb_ops.specs.Play.{MState}
use Rattle.gb_domain.specs.declared.types.Val.{Val}
use Rattle.gb_domain.specs.declared.types.Core.{Core}
use Rattle.gb_domain.specs.declared.types.Halves.{Halves}
use Rattle.gb_domain.specs.Types.{AbsState}
use Rattle.gb_domain.specs.Areas.{IsRegion, meets}
use Rattle.gb_abs.specs.Meaning.{Activation, Holds, MeansCore, MeansParts, is_located}
use Rattle.gb_abs.specs.Cells.{IsPlaced, ArePlaced}
use Rattle.gb_abs.specs.Poked.{IsPoked}
use Rattle.gb_abs.specs.Storage.{is_ram, peek}
use Rattle.gb_abs.specs.declared.span.Span.{Span}
use Rattle.gb_abs.specs.Span.{IsIn}
use Rattle.gb_abs.specs.Stack.{AreInRegion}

-- in programs with this controller t means each machine state that s means, where its stack is put aside only if that of t is
pub record IsPartOf (kind : Kind) (s t : AbsState) : Type 0 where
  pub gives : (entry : Activation) (base : ℕ) (x : MState) → entry.program.kind ≡ kind → (t.summary.aside ≡ None → s.summary.aside ≡ None) → MeansParts s entry base x → MeansParts t entry base x

-- ---- cores

-- a register gets one of the values that v stands for
pub record IsSoundSet (r : Register) (v : Val) (s after : Core) : Type 0 where
  pub gives :
      (entry : Activation) (x : MState) (n : ℕ) → Holds v entry n → MeansCore s entry x
      → MeansCore after entry (record x { processor = with_registers x.processor (set r n x.processor.registers) })

-- of the states where the register holds n, none is lost
pub record IsSoundValue (r : Register) (n : ℕ) (s after : Core) : Type 0 where
  pub gives : (entry : Activation) (x : MState) → get r x.processor.registers ≡ n → MeansCore s entry x → MeansCore after entry x

-- an instruction was executed
pub record IsSoundSettling (s after : Core) : Type 0 where
  pub gives : (entry : Activation) (x : MState) → MeansCore s entry x → MeansCore after entry (record x { processor = settled x.processor })

-- an instruction of n M-cycles has ended, which started an OAM transfer or didn't
pub record IsSoundEnd (starts : Bool) (n : ℕ) (s after : Core) : Type 0 where
  pub gives :
      (rom : List ℕ) (entry : Activation) (x : MState) → MeansCore s entry x
      → MeansCore after entry (record x { storage = (passed (record { rom = rom; storage = x.storage; starting = starts }) n).storage })

-- ---- cells

-- of each of these states, where a byte that v stands for is stored at an address outside the stack region
pub record IsSoundEntry (a : ℕ) (v : Val) (s after : AbsState) : Type 0 where
  pub gives :
      (region : Region) (entry : Activation) (base : ℕ) (x : MState) (t : Storage) (n : ℕ)
      → MeansParts s entry base x → IsPoked a n x.storage t → Holds v entry n → IsPlaced region (record { address = a; val = v })
      → ArePlaced region s.cells → AreInRegion region base (length s.items) → IsRegion region
      → MeansParts after entry base (record x { storage = t })

-- of each of these states, where any byte is stored at one of the addresses, all outside the stack region
pub record IsSoundDrop (first last : ℕ) (s after : AbsState) : Type 0 where
  pub gives :
      (region : Region) (entry : Activation) (base : ℕ) (x : MState) (t : Storage) (a n : ℕ)
      → MeansParts s entry base x → IsPoked a n x.storage t → first ≤ a → a ≤ last → meets region first last ≡ false
      → ArePlaced region s.cells → AreInRegion region base (length s.items) → IsRegion region
      → MeansParts after entry base (record x { storage = t })

-- of each of these states, where a byte that v stands for is stored at one of the addresses, outside the stack region
pub record IsSoundWidening (span : Span) (v : Val) (s after : AbsState) : Type 0 where
  pub gives :
      (region : Region) (entry : Activation) (base : ℕ) (x : MState) (t : Storage) (a n : ℕ)
      → MeansParts s entry base x → IsPoked a n x.storage t → Holds v entry n → IsIn span a → meets region a a ≡ false
      → ArePlaced region s.cells → AreInRegion region base (length s.items) → IsRegion region
      → MeansParts after entry base (record x { storage = t })

-- ---- words

-- no OAM transfer closes the region: none runs, or the region lies in high RAM
abbrev pub IsRegionOpen : Storage → Region → Type 0
IsRegionOpen s region = (s.count ≡ 0) ⊎ (0xFF80 ≤ region.first)

-- the machine with the stack pointer and the storage after a push
abbrev pub with_stack : MState → ℕ → Storage → MState
with_stack x sp t = record { processor = with_sp x.processor sp; storage = t }

-- what a push leaves: the state with the word pushed, no fault, and all bytes of RAM but the word's two
pub record Pushes (region : Region) (after : AbsState) (entry : Activation) (base : ℕ) (x : MState) (m : View) (w : ℕ) : Type 0 where
  pub means : MeansParts after entry base (with_stack x ((x.processor.sp + 65534) % 65536) (stored m (write.Push x.processor.sp w)).storage)
  pub faults : store_faults region m (write.Push x.processor.sp w) ≡ no_faults
  pub starting : (stored m (write.Push x.processor.sp w)).starting ≡ m.starting
  pub rom : (stored m (write.Push x.processor.sp w)).rom ≡ m.rom
  pub banks : (stored m (write.Push x.processor.sp w)).storage.banks ≡ m.storage.banks
  pub ie : (stored m (write.Push x.processor.sp w)).storage.ie ≡ m.storage.ie
  pub count : (stored m (write.Push x.processor.sp w)).storage.count ≡ m.storage.count
  pub others :
      (b : ℕ) → is_ram b ≡ true → (b == x.processor.sp - 1) ≡ false → (b == x.processor.sp - 2) ≡ false
      → peek (stored m (write.Push x.processor.sp w)).storage b ≡ peek x.storage b

-- what a pop gives: the word's two bytes, the state without it, and no fault
pub record Pops (after : AbsState) (i : Halves) (entry : Activation) (base : ℕ) (x : MState) (m : View) (free : List ℕ) : Type 0 where
  pub low : Holds i.low entry (loaded m (read.Word x.processor.sp) free).low
  pub high : Holds i.high entry (loaded m (read.Word x.processor.sp) free).high
  pub faults : load_faults m (read.Word x.processor.sp) ≡ no_faults
  pub means : MeansParts after entry base (record x { processor = with_sp x.processor ((x.processor.sp + 2) % 65536) })

-- of each of these states, with SP where the items end and room for the word, each word that i stands for
pub record IsSoundPush (s : AbsState) (i : Halves) (after : AbsState) : Type 0 where
  pub gives :
      (region : Region) (entry : Activation) (base : ℕ) (x : MState) (m : View) (w : ℕ)
      → MeansParts s entry base x → m.storage ≡ x.storage → is_located s ≡ true → AreInRegion region base (length s.items + 2)
      → IsRegion region → ArePlaced region s.cells → IsRegionOpen x.storage region → Holds i.high entry (w / 256) → Holds i.low entry (w % 256) → w < 65536
      → Pushes region after entry base x m w

-- of each of these states, with SP where the items end: i stands for the word that is read
pub record IsSoundPop (s : AbsState) (i : Halves) (after : AbsState) : Type 0 where
  pub gives :
      (region : Region) (entry : Activation) (base : ℕ) (x : MState) (m : View) (free : List ℕ)
      → MeansParts s entry base x → m.storage ≡ x.storage → is_located s ≡ true → AreInRegion region base (length s.items)
      → IsRegion region → IsRegionOpen x.storage region → Pops after i entry base x m free
