-- Which memories are meant (abstract interpretation: concretization and soundness; own).
use Rattle.std.specs.Prelude.{◌≡◌, ℕ, ◌+◌, ◌<◌, ◌≤◌, true, false, List, take, Option, Some, None}
use Rattle.std.specs.List.{AllByRecursion}
use Rattle.gb_domain.specs.declared.pairs.Bounds.{Bounds}
use Rattle.gb_domain.specs.declared.interval.StridedInterval.{StridedInterval}
use Rattle.gb_domain.specs.Meaning.{In}
use Rattle.gb_domain.specs.declared.types.Cell.{Cell}
use Rattle.gb_ram_bounds.specs.declared.addresses.AddressSet.{AddressSet}
use Rattle.gb_domain.specs.declared.summary.Fact.{Fact}
use Rattle.gb_ops.specs.declared.op.Pointer.{Pointer}
use Rattle.gb_ram_bounds.specs.declared.pointers.Pointers.{Pointers}
use Rattle.gb_domain.specs.declared.summary.Fill.{Fill}
use Rattle.gb_ram_bounds.specs.Cells.{cell_at, has_cell}
use Rattle.gb_ram_bounds.specs.Addresses.{is_in}
use Rattle.gb_ram_bounds.specs.Facts.{has_address}
use Rattle.gb_ram_bounds.specs.Fills.{at_pointer, is_same_pointer, reaches, is_between, bytes_of}

-- memory is a function from addresses to bytes; each cell's byte is one of its values
pub record HoldCells (cells : List Cell) (memory : ℕ → ℕ) : Type 0 where
  pub gives : (a : ℕ) (v : StridedInterval) → cell_at cells a ≡ Some v → In v (memory a)

-- a fact holds: each of its addresses without a cell has one of its values
pub record HoldsFact (cells : List Cell) (memory : ℕ → ℕ) (f : Fact) : Type 0 where
  pub gives : (a : ℕ) → has_address f a ≡ true → has_cell cells a ≡ false → In f.value (memory a)

-- all facts hold
abbrev pub HoldFacts : List Fact → List Cell → (ℕ → ℕ) → Type 0
HoldFacts facts cells memory = AllByRecursion (HoldsFact cells memory) facts

-- a fill holds with these pointers: each of its addresses without a cell has one of its values
pub record HoldsFill (cells : List Cell) (memory : ℕ → ℕ) (x : Pointers ℕ) (f : Fill) : Type 0 where
  pub gives :
      (a : ℕ)
      → is_between f a ≡ true → reaches f.end x a ≡ true → has_cell cells a ≡ false → In (bytes_of f) (memory a)

-- all fills hold
abbrev pub HoldFills : List Fill → List Cell → (ℕ → ℕ) → Pointers ℕ → Type 0
HoldFills fills cells memory x = AllByRecursion (HoldsFill cells memory x) fills

-- none is no claim
abbrev pub HoldsSome : Option Fill → List Cell → (ℕ → ℕ) → Pointers ℕ → Type 0
HoldsSome None cells memory x = Unit {0}
HoldsSome (Some f) cells memory x = HoldsFill cells memory x f

-- each pointer is within its bounds
pub record PointersIn (p : Pointers Bounds) (x : Pointers ℕ) : Type 0 where
  pub least : (q : Pointer) → (at_pointer q p).first ≤ at_pointer q x
  pub most : (q : Pointer) → at_pointer q x ≤ (at_pointer q p).last

-- all pointers but one are what they were
pub record OthersStay (q : Pointer) (x y : Pointers ℕ) : Type 0 where
  pub gives : (r : Pointer) → is_same_pointer q r ≡ false → at_pointer r y ≡ at_pointer r x

-- the address is the pointer, where there is one
abbrev pub GoesThrough : Option Pointer → Pointers ℕ → ℕ → Type 0
GoesThrough None x a = Unit {0}
GoesThrough (Some q) x a = a ≡ at_pointer q x

-- memory after one of the values was stored to one of the addresses
pub record IsStored (s : AddressSet) (v : StridedInterval) (before after : ℕ → ℕ) : Type 0 where
  pub address : ℕ
  pub among : is_in s address ≡ true
  pub value : In v (after address)
  pub others : (a : ℕ) → (a ≡ address → ⊥) → after a ≡ before a

-- no cell went
pub record HasCellsOf (before after : List Cell) : Type 0 where
  pub gives : (a : ℕ) → has_cell after a ≡ false → has_cell before a ≡ false

-- ---- what the functions promise

-- a byte without a cell is one of these values, where it was one of those before and the facts hold
pub record IsSoundByFacts (facts : List Fact) (a : ℕ) (v o : StridedInterval) : Type 0 where
  pub gives :
      (cells : List Cell) (memory : ℕ → ℕ)
      → HoldFacts facts cells memory → has_cell cells a ≡ false → In v (memory a) → In o (memory a)

-- after the store the first n facts hold
pub record IsSoundLevel (facts : List Fact) (after : List Cell) (s : AddressSet) (v : StridedInterval) (n : ℕ) : Type 0 where
  pub gives :
      (before : List Cell) (memory stored : ℕ → ℕ)
      → HasCellsOf before after → IsStored s v memory stored → HoldFacts facts before memory
      → HoldFacts (take n facts) after stored

-- facts that hold with these cells hold with those
pub record AreKept (facts : List Fact) (cells kept : List Cell) : Type 0 where
  pub gives : (memory : ℕ → ℕ) → HoldCells cells memory → HoldFacts facts cells memory → HoldFacts facts kept memory

-- a byte without a cell is one of these values, where it was one of those before and the fills hold
pub record IsSoundByFills (p : Pointers Bounds) (fills : List Fill) (a : ℕ) (v o : StridedInterval) : Type 0 where
  pub gives :
      (cells : List Cell) (memory : ℕ → ℕ) (x : Pointers ℕ)
      → PointersIn p x → HoldFills fills cells memory x → has_cell cells a ≡ false → In v (memory a) → In o (memory a)

-- after the store the fill holds
pub record IsSoundStore (after : List Cell) (s : AddressSet) (through : Option Pointer) (v : StridedInterval) (f o : Fill) : Type 0 where
  pub gives :
      (before : List Cell) (memory stored : ℕ → ℕ) (x : Pointers ℕ)
      → HasCellsOf before after → (w : IsStored s v memory stored) → GoesThrough through x w.address
      → HoldsFill before memory x f → HoldsFill after stored x o

-- as one pointer gets any value, the fill holds
pub record IsSoundWrite (q : Pointer) (p : Pointers Bounds) (f : Fill) (o : Option Fill) : Type 0 where
  pub gives :
      (cells : List Cell) (memory : ℕ → ℕ) (x y : Pointers ℕ)
      → PointersIn p x → OthersStay q x y → HoldsFill cells memory x f → HoldsSome o cells memory y

-- as it gets n more
pub record IsSoundRise (q : Pointer) (n : ℕ) (p : Pointers Bounds) (f : Fill) (o : Option Fill) : Type 0 where
  pub gives :
      (cells : List Cell) (memory : ℕ → ℕ) (x y : Pointers ℕ)
      → PointersIn p x → OthersStay q x y → at_pointer q y ≡ at_pointer q x + n → HoldsFill cells memory x f
      → HoldsSome o cells memory y

-- as it gets n less
pub record IsSoundFall (q : Pointer) (n : ℕ) (p : Pointers Bounds) (f : Fill) (o : Option Fill) : Type 0 where
  pub gives :
      (cells : List Cell) (memory : ℕ → ℕ) (x y : Pointers ℕ)
      → PointersIn p x → OthersStay q x y → at_pointer q x ≡ at_pointer q y + n → HoldsFill cells memory x f
      → HoldsSome o cells memory y

-- ---- covering

-- cells, facts and fills of a state hold, its pointers are within bounds, and memory has bytes
pub record HoldsState (facts : List Fact) (cells : List Cell) (fills : List Fill) (p : Pointers Bounds) (memory : ℕ → ℕ) (x : Pointers ℕ) : Type 0 where
  pub bytes : (a : ℕ) → memory a < 256
  pub cells_hold : HoldCells cells memory
  pub facts_hold : HoldFacts facts cells memory
  pub fills_hold : HoldFills fills cells memory x
  pub pointers : PointersIn p x

-- the byte at the address is one of these values
pub record IsSoundByte (facts : List Fact) (cells : List Cell) (fills : List Fill) (p : Pointers Bounds) (a : ℕ) (o : StridedInterval) : Type 0 where
  pub gives : (memory : ℕ → ℕ) (x : Pointers ℕ) → HoldsState facts cells fills p memory x → In o (memory a)

-- with the cells that are kept these facts hold
pub record GivesFacts (facts : List Fact) (cells : List Cell) (fills : List Fill) (p : Pointers Bounds) (kept : List Cell) (wanted : List Fact) : Type 0 where
  pub gives : (memory : ℕ → ℕ) (x : Pointers ℕ) → HoldsState facts cells fills p memory x → HoldFacts wanted kept memory

-- with them these fills hold
pub record GivesFills (facts : List Fact) (cells : List Cell) (fills : List Fill) (p : Pointers Bounds) (kept : List Cell) (wanted : List Fill) : Type 0 where
  pub gives : (memory : ℕ → ℕ) (x : Pointers ℕ) → HoldsState facts cells fills p memory x → HoldFills wanted kept memory x
