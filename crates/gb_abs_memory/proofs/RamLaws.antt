-- What a store to RAM makes of the cells, and of a state's meaning.
use Rattle.std.proofs.Common.{◌≡◌, ℕ, ◌+◌, Bool, true, false, ◌==◌, cond, List, [], ◌∷◌, length, Some, None, refl, sym, ◌∙◌, ap, subst, arith}
use Rattle.std.proofs.lemmas.Bool.Decides.{nat_tests}
use Rattle.gb_ops.specs.declared.machine.Region.{Region}
use Rattle.gb_ops.specs.Memory.{Storage}
use Rattle.gb_ops.specs.Play.{MState}
use Rattle.gb_domain.specs.declared.types.Val.{Val}
use Rattle.gb_domain.specs.declared.types.Cell.{Cell}
use Rattle.gb_domain.specs.Types.{AbsState}
use Rattle.gb_domain.specs.declared.setting.Setting.{Setting}
use Rattle.gb_domain.specs.declared.rules.Rules.{Rules}
use Rattle.gb_domain.specs.declared.rules.Rules.TheVariants.{Simple, Extended}
use Rattle.gb_domain.specs.Areas.{IsRegion, meets}
use Rattle.gb_domain.specs.Limits.{cell_room}
use Rattle.gb_domain.specs.Settings.{IsBase}
use Rattle.gb_abs.specs.declared.span.Span.{Span}
use Rattle.gb_abs.specs.Span.{IsIn, one, is_one, counts}
use Rattle.gb_abs.specs.Storage.{is_ram, peek}
use Rattle.gb_abs.specs.Cells.{IsPlaced, ArePlaced, with_cell, widened, widened_cells}
use Rattle.gb_abs.specs.Meaning.{Activation, Holds, MeansParts}
use Rattle.gb_abs.specs.Poked.{IsPoked}
use Rattle.gb_abs.specs.Stack.{AreInRegion}
use Rattle.gb_abs.proofs.CellLaws.{ArePlaced-with_cell, ArePlaced-without_cells}
use Rattle.gb_abs.proofs.CoveringLaws.{AreCells}
use Rattle.gb_abs.proofs.StorageLaws.{MeansCore-storage, MeansParts-with_cell, MeansParts-without_cells, meets-inside, placed_in_ram}
use Rattle.gb_abs.proofs.WideningLaws.{Holds-widened, ArePlaced-widened, MeansParts-widened_cells}
use Rattle.gb_abs_memory.specs.Access.{one_stored, several_stored, cells_stored, ram_stored}
use Rattle.gb_abs_memory.proofs.ItemLaws.{AreItems-stored, length-items_stored}

-- a byte of RAM is stored to one of the addresses, in one of the states; by the rules of versions 1 and 2 they lie outside the
-- stack region
pub record AtRam (z : Setting) (region : Region) (s : AbsState) (span : Span) (v : Val) (entry : Activation) (base : ℕ) (x : MState) (t : Storage) (a n : ℕ) : Type 0 where
  pub base_is : IsBase z base
  pub means : MeansParts s entry base x
  pub placed : ArePlaced region s.cells
  pub room : AreInRegion region base (length s.items)
  pub is_region : IsRegion region
  pub at : IsIn span a
  pub ram : is_ram a ≡ true
  pub holds : Holds v entry n
  pub poked : IsPoked a n x.storage t
  pub simple : z.rules ≡ Simple → meets region span.first span.last ≡ false

-- ---- cells

-- a byte of the stack region is no cell's
AreCells-region :
    (region : Region) (cells : List Cell) (entry : Activation) (a n : ℕ) (s t : Storage) → IsPoked a n s t → meets region a a ≡ true → ArePlaced region cells
    → AreCells cells entry s → AreCells cells entry t
AreCells-region region [] entry a n s t p met placed h = tt
AreCells-region region (c ∷ cells) entry a n s t p met placed h = (
  subst (λ m. Holds c.val entry m) (sym (p.others c.address (placed_in_ram region c placed.0) (differs c.address placed.0.apart))) h.0,
  AreCells-region region cells entry a n s t p met placed.1 h.1,
)
  where
    differs : (b : ℕ) → meets region b b ≡ false → (b == a) ≡ false
    differs b apart = grind (arith, nat_tests)

AreCells-wider : (whole : Bool) (cells : List Cell) (entry : Activation) (span : Span) (v : Val) (s : Storage) → AreCells cells entry s → AreCells (widened_cells whole span v cells) entry s
unfolding widened_cells
AreCells-wider whole [] entry span v s h = tt
AreCells-wider whole (c ∷ cells) entry span v s h = (wider (counts span c.address), AreCells-wider whole cells entry span v s h.1)
  where
    wider : (b : Bool)
        → Holds (cond b (record { address = c.address; val = widened whole c.val v }) c).val entry (peek s (cond b (record { address = c.address; val = widened whole c.val v }) c).address)
    wider true = Holds-widened whole c.val v entry (peek s c.address) h.0
    wider false = h.0

-- cells stand for their bytes, outside the region
record Stand (region : Region) (cells : List Cell) (entry : Activation) (t : Storage) : Type 0 where
  means : AreCells cells entry t
  placed : ArePlaced region cells

-- an address outside the region gets a cell
Stand-with_cell :
    (z : Setting) (room : ℕ) (region : Region) (s : AbsState) (span : Span) (v : Val) (entry : Activation) (base : ℕ) (x : MState) (t : Storage) (a n : ℕ)
    → AtRam z region s span v entry base x t a n → meets region a a ≡ false → Stand region (with_cell room (record { address = a; val = v }) s.cells) entry t
Stand-with_cell z room region s span v entry base x t a n h apart =
    let ram = h.ram in
    let place : IsPlaced region (record { address = a; val = v }) = record { area = grind (arith, nat_tests); apart = apart } in
    record {
      means = (MeansParts-with_cell region room s entry base x t a n v h.means h.poked h.holds place h.placed h.room h.is_region).cells;
      placed = ArePlaced-with_cell region room (record { address = a; val = v }) s.cells place h.placed;
    }

Stand-one :
    (z : Setting) (rules : Rules) (region : Region) (s : AbsState) (span : Span) (v : Val) (entry : Activation) (base : ℕ) (x : MState) (t : Storage) (a n : ℕ)
    → AtRam z region s span v entry base x t a n → z.rules ≡ rules → Stand region (one_stored rules region (one a) v s.cells) entry t
Stand-one z Simple region s span v entry base x t a n h e =
    Stand-with_cell z (cell_room Simple) region s span v entry base x t a n h (meets-inside region span.first span.last a (h.simple e) h.at.first h.at.last)
Stand-one z Extended region s span v entry base x t a n h e = choose (meets region a a) refl
  where
    choose : (b : Bool) → meets region a a ≡ b → Stand region (cond b s.cells (with_cell (cell_room Extended) (record { address = a; val = v }) s.cells)) entry t
    choose true met = record { means = AreCells-region region s.cells entry a n x.storage t h.poked met h.placed h.means.cells; placed = h.placed }
    choose false apart = Stand-with_cell z (cell_room Extended) region s span v entry base x t a n h apart

Stand-several :
    (z : Setting) (rules : Rules) (region : Region) (s : AbsState) (span : Span) (v : Val) (entry : Activation) (base : ℕ) (x : MState) (t : Storage) (a n : ℕ)
    → AtRam z region s span v entry base x t a n → z.rules ≡ rules → Stand region (several_stored z.is_whole rules span v s.cells) entry t
Stand-several z Simple region s span v entry base x t a n h e =
    record {
      means = (MeansParts-without_cells region s entry base x t a n span.first span.last h.means h.poked h.at.first h.at.last (h.simple e) h.placed h.room h.is_region).cells;
      placed = ArePlaced-without_cells region span.first span.last s.cells h.placed;
    }
Stand-several z Extended region s span v entry base x t a n h e =
    record { means = choose (meets region a a) refl; placed = ArePlaced-widened z.is_whole region span v s.cells h.placed }
  where
    choose : (b : Bool) → meets region a a ≡ b → AreCells (widened_cells z.is_whole span v s.cells) entry t
    choose true met = AreCells-wider z.is_whole s.cells entry span v t (AreCells-region region s.cells entry a n x.storage t h.poked met h.placed h.means.cells)
    choose false apart =
        (MeansParts-widened_cells z.is_whole region s entry base x t a n span v h.means h.poked h.holds h.at apart h.placed h.room h.is_region).cells

Stand-stored :
    (z : Setting) (region : Region) (s : AbsState) (span : Span) (v : Val) (entry : Activation) (base : ℕ) (x : MState) (t : Storage) (a n : ℕ)
    → AtRam z region s span v entry base x t a n → Stand region (cells_stored z.is_whole z.rules region span v s.cells) entry t
Stand-stored z region s span v entry base x t a n h = choose (is_one span) refl
  where
    -- where it stands alone its low bits aren't asked
    same_one : (rules : Rules) → one_stored rules region (record { first = a; last = a; low = span.low }) v s.cells ≡ one_stored rules region (one a) v s.cells
    same_one Simple = refl
    same_one Extended = refl

    alone : is_one span ≡ true → one_stored z.rules region span v s.cells ≡ one_stored z.rules region (one a) v s.cells
    alone e =
        let low = h.at.first in
        let high = h.at.last in
        let first : span.first ≡ a = grind (arith, nat_tests) in
        let last : span.last ≡ a = grind (arith, nat_tests) in
        ap (λ (b : ℕ). one_stored z.rules region (record { first = b; last = span.last; low = span.low }) v s.cells) first
        ∙ (ap (λ (b : ℕ). one_stored z.rules region (record { first = a; last = b; low = span.low }) v s.cells) last ∙ same_one z.rules)

    choose : (one : Bool) → is_one span ≡ one → Stand region (cond one (one_stored z.rules region span v s.cells) (several_stored z.is_whole z.rules span v s.cells)) entry t
    choose true e =
        subst (λ cells. Stand region cells entry t) (sym (alone e)) (Stand-one z z.rules region s span v entry base x t a n h refl)
    choose false e = Stand-several z z.rules region s span v entry base x t a n h refl

-- ---- states

pub ArePlaced-ram_stored :
    (z : Setting) (region : Region) (s : AbsState) (span : Span) (v : Val) (entry : Activation) (base : ℕ) (x : MState) (t : Storage) (a n : ℕ)
    → AtRam z region s span v entry base x t a n → ArePlaced region (ram_stored z region span v s).cells
unfolding ram_stored
ArePlaced-ram_stored z region s span v entry base x t a n h = (Stand-stored z region s span v entry base x t a n h).placed

-- what is left is meant
pub MeansParts-ram_stored :
    (z : Setting) (region : Region) (s : AbsState) (span : Span) (v : Val) (entry : Activation) (base : ℕ) (x : MState) (t : Storage) (a n : ℕ)
    → AtRam z region s span v entry base x t a n → MeansParts (ram_stored z region span v s) entry base (record x { storage = t })
unfolding ram_stored
MeansParts-ram_stored z region s span v entry base x t a n h =
    let m = h.means in
    let p = h.poked in
    record {
      core = MeansCore-storage s.core entry x t p.banks p.ie p.count m.core;
      memory = p.memory;
      sp = m.sp;
      stack = λ e. subst (λ k. x.processor.sp + k ≡ base) (sym (length-items_stored z region span v s.core s.items)) (m.stack e);
      items = AreItems-stored z region s.core s.items entry base a n span v x.storage t h.base_is p h.at h.holds h.simple h.is_region h.room m.items;
      cells = (Stand-stored z region s span v entry base x t a n h).means;
    }
