-- What is said of the whole program still holds with more cells, since it is about addresses without a cell alone.
use Rattle.std.proofs.Common.{◌≡◌, ℕ, ◌==◌, ◌≤◌, ◌||◌, Bool, true, false, cond, nat_lt, List, [], ◌∷◌, ◌++◌, length, take, Option, Some, None, refl, sym, ◌∙◌, ap, subst, arith}
use Rattle.std.proofs.lemmas.Bool.Decides.{nat_tests}
use Rattle.std.specs.List.{AllByRecursion, filter, list_any}
use Rattle.gb_ops.specs.declared.machine.Banks.{Banks}
use Rattle.gb_ops.specs.declared.machine.Kind.{Kind}
use Rattle.gb_ops.specs.declared.registers.Registers.{Registers}
use Rattle.gb_ops.specs.Pairs.{word}
use Rattle.gb_ops.specs.Pointers.{pointed, byte_or_page, high_register, low_register}
use Rattle.gb_domain.specs.declared.pairs.Bounds.{Bounds}
use Rattle.gb_domain.specs.declared.summary.Shadows.{Shadows}
use Rattle.gb_domain.specs.Meaning.{In}
use Rattle.gb_summaries.specs.Below.gb_copies.declared.windows.BankWindow.{BankWindow}
use Rattle.gb_summaries.specs.Below.gb_copies.declared.windows.BankWindow.TheVariants.{First, Second}
use Rattle.gb_summaries.specs.Below.gb_copies.ShadowMeaning.{AreShadows}
use Rattle.gb_summaries.specs.Below.gb_copies.Windows.{left_by}
use Rattle.gb_summaries.specs.Below.gb_ram_bounds.Fills.{bytes_of}
use Rattle.gb_ops.specs.declared.registers.Processor.{Processor}
use Rattle.gb_ops.specs.Play.{MState}
use Rattle.gb_domain.specs.declared.summary.Fact.{Fact}
use Rattle.gb_domain.specs.declared.summary.Fill.{Fill}
use Rattle.gb_domain.specs.declared.types.Cell.{Cell}
use Rattle.gb_domain.specs.Summaries.{SummaryParts, Program, no_summary}
use Rattle.gb_domain.specs.Types.{AbsState}
use Rattle.gb_domain.specs.Values.{interval_of}
use Rattle.gb_abs_effects.specs.Below.gb_abs.Cells.{is_below, is_above, is_at, entered, with_cell}
use Rattle.gb_abs_effects.specs.Below.gb_abs.Meaning.{Activation}
use Rattle.gb_abs_effects.specs.Below.gb_abs.Storage.{peek}
use Rattle.gb_summaries.specs.Meaning.{pointers_of, IsAside, HoldSummary}
use Rattle.gb_summaries.proofs.MeaningLaws.{nothing_holds}
use Rattle.gb_summaries.specs.Below.gb_ram_bounds.declared.pointers.Pointers.{Pointers}
use Rattle.gb_summaries.specs.Below.gb_ram_bounds.Cells.{cell_at, is_there, has_cell}
use Rattle.gb_summaries.specs.Below.gb_ram_bounds.Meaning.{HoldFacts, HoldFills, HasCellsOf}
use Rattle.gb_product.specs.Meaning.{IsSummarized}

-- ---- addresses without a cell

-- no cell is at the address
IsWithout : ℕ → List Cell → Type 0
IsWithout a cells = AllByRecursion (λ c. (c.address == a) ≡ false) cells

not_so : {X : Type 0} → true ≡ false → X
not_so h = cc

without_cell : (a : ℕ) (cells : List Cell) → has_cell cells a ≡ false → IsWithout a cells
unfolding has_cell IsWithout
without_cell a [] h = tt
without_cell a (c ∷ cells) h = by (c.address == a) refl h (without_cell a cells)
  where
    by :
        (b : Bool) → (c.address == a) ≡ b → is_there (cond b (Some (interval_of c.val)) (cell_at cells a)) ≡ false
        → (is_there (cell_at cells a) ≡ false → IsWithout a cells) → IsWithout a (c ∷ cells)
    by true e g rest = not_so g
    by false e g rest = (e, rest g)

no_cell : (a : ℕ) (cells : List Cell) → IsWithout a cells → has_cell cells a ≡ false
unfolding has_cell IsWithout
no_cell a [] h = refl
no_cell a (c ∷ cells) h = ap (λ b. is_there (cond b (Some (interval_of c.val)) (cell_at cells a))) h.0 ∙ no_cell a cells h.1

without_first : (a : ℕ) (xs ys : List Cell) → IsWithout a (xs ++ ys) → IsWithout a xs
unfolding IsWithout
without_first a [] ys h = tt
without_first a (x ∷ xs) ys h = (h.0, without_first a xs ys h.1)

without_last : (a : ℕ) (xs ys : List Cell) → IsWithout a (xs ++ ys) → IsWithout a ys
unfolding IsWithout
without_last a [] ys h = h
without_last a (x ∷ xs) ys h = without_last a xs ys h.1

-- a cell at another address than one entered is kept
without_parts :
    (a k : ℕ) (cells : List Cell) → (k == a) ≡ false → IsWithout a (filter (is_below k) cells) → IsWithout a (filter (is_above k) cells)
    → IsWithout a cells
unfolding IsWithout
without_parts a k [] apart below above = tt
without_parts a k (c ∷ cells) apart below above =
    by (nat_lt c.address k) (nat_lt k c.address) refl refl (without_parts a k cells apart) below above
  where
    same : nat_lt c.address k ≡ false → nat_lt k c.address ≡ false → c.address ≡ k
    same e f = grind (arith, nat_tests)

    by :
        (lower higher : Bool) → nat_lt c.address k ≡ lower → nat_lt k c.address ≡ higher
        → (IsWithout a (filter (is_below k) cells) → IsWithout a (filter (is_above k) cells) → IsWithout a cells)
        → IsWithout a (cond lower (c ∷ filter (is_below k) cells) (filter (is_below k) cells))
        → IsWithout a (cond higher (c ∷ filter (is_above k) cells) (filter (is_above k) cells))
        → IsWithout a (c ∷ cells)
    by true true e f rest l h = (l.0, rest l.1 h.1)
    by true false e f rest l h = (l.0, rest l.1 h)
    by false true e f rest l h = (h.0, rest l h.1)
    by false false e f rest l h = (ap (λ n. n == a) (same e f) ∙ apart, rest l h)

has_cells_entered : (c : Cell) (cells : List Cell) → HasCellsOf cells (entered c cells)
unfolding entered IsWithout
has_cells_entered c cells =
    record {
      gives = λ a h.
          let none = without_cell a (filter (is_below c.address) cells ++ c ∷ filter (is_above c.address) cells) h in
          let last = without_last a (filter (is_below c.address) cells) (c ∷ filter (is_above c.address) cells) none in
          no_cell a cells (without_parts a c.address cells last.0 (without_first a (filter (is_below c.address) cells) _ none) last.1);
    }

has_cells_chosen : (b : Bool) (c : Cell) (cells : List Cell) → HasCellsOf cells (cond b (entered c cells) cells)
has_cells_chosen true c cells = has_cells_entered c cells
has_cells_chosen false c cells = record { gives = λ a h. h }

pub has_cells_with_cell : (room : ℕ) (c : Cell) (cells : List Cell) → HasCellsOf cells (with_cell room c cells)
unfolding with_cell
has_cells_with_cell room c cells = has_cells_chosen (list_any (is_at c.address) cells || nat_lt (length cells) room) c cells

-- ---- with more cells

facts_with_cells :
    (facts : List Fact) (before after : List Cell) (memory : ℕ → ℕ) → HasCellsOf before after → HoldFacts facts before memory → HoldFacts facts after memory
facts_with_cells [] before after memory more h = tt
facts_with_cells (f ∷ facts) before after memory more h =
    (record { gives = λ a has none. h.0.gives a has (more.gives a none) }, facts_with_cells facts before after memory more h.1)

fills_with_cells :
    (fills : List Fill) (before after : List Cell) (memory : ℕ → ℕ) (x : Pointers ℕ)
    → HasCellsOf before after → HoldFills fills before memory x → HoldFills fills after memory x
fills_with_cells [] before after memory x more h = tt
fills_with_cells (f ∷ fills) before after memory x more h =
    (record { gives = λ a between reached none. h.0.gives a between reached (more.gives a none) }, fills_with_cells fills before after memory x more h.1)

pub HoldSummary-with_cells :
    (program : Program) (before after : List Cell) (s : SummaryParts) (p : Processor) (memory : ℕ → ℕ) (banks : Banks)
    → HasCellsOf before after → HoldSummary program before s p memory banks → HoldSummary program after s p memory banks
HoldSummary-with_cells program before after s p memory banks more h =
    record {
      facts = facts_with_cells (take s.level program.facts) before after memory more h.facts;
      fills = fills_with_cells s.fills before after memory _ more h.fills;
      first = h.first;
      second = h.second;
      aside = h.aside;
    }

-- ---- the same machine but for what a summary isn't about

pointers_same : (p q : Processor) → q.registers ≡ p.registers → pointers_of q ≡ pointers_of p
unfolding pointed byte_or_page high_register low_register
pointers_same p q e =
    ap (λ (r : Registers ℕ). record { bc = word r.b r.c; de = word r.d r.e; hl = word r.h r.l; high_c = word 0xFF r.c }) e

facts_same :
    (facts : List Fact) (cells : List Cell) (memory after : ℕ → ℕ) → ((a : ℕ) → after a ≡ memory a) → HoldFacts facts cells memory → HoldFacts facts cells after
facts_same [] cells memory after same h = tt
facts_same (f ∷ facts) cells memory after same h =
    (record { gives = λ a has none. subst (In f.value) (sym (same a)) (h.0.gives a has none) }, facts_same facts cells memory after same h.1)

fills_same :
    (fills : List Fill) (cells : List Cell) (memory after : ℕ → ℕ) (x : Pointers ℕ)
    → ((a : ℕ) → after a ≡ memory a) → HoldFills fills cells memory x → HoldFills fills cells after x
fills_same [] cells memory after x same h = tt
fills_same (f ∷ fills) cells memory after x same h =
    (record { gives = λ a between reached none. subst (In (bytes_of f)) (sym (same a)) (h.0.gives a between reached none) }, fills_same fills cells memory after x same h.1)

shadows_same :
    (k : Kind) (which : BankWindow) (s : Shadows) (x : Registers ℕ) (memory after : ℕ → ℕ) (r : Banks)
    → ((a : ℕ) → after a ≡ memory a) → AreShadows k which s x memory r → AreShadows k which s x after r
shadows_same k which s x memory after r same h =
    record { registers = h.registers; address = λ a e has. ap (left_by k which) (same a) ∙ h.address a e has }

aside_same : (o : Option Bounds) (p q : Processor) → q.sp ≡ p.sp → q.ime ≡ p.ime → IsAside o p → IsAside o q
aside_same None p q sp ime h = tt
aside_same (Some b) p q sp ime h =
    record { first = subst (λ n. b.first ≤ n) (sym sp) h.first; last = subst (λ n. n ≤ b.last) (sym sp) h.last; off = ime ∙ h.off }

pub HoldSummary-same :
    (program : Program) (cells : List Cell) (s : SummaryParts) (p q : Processor) (memory after : ℕ → ℕ) (before banks : Banks)
    → q.registers ≡ p.registers → q.sp ≡ p.sp → q.ime ≡ p.ime → banks ≡ before → ((a : ℕ) → after a ≡ memory a)
    → HoldSummary program cells s p memory before → HoldSummary program cells s q after banks
HoldSummary-same program cells s p q memory after before banks registers sp ime e same h =
    record {
      facts = facts_same (take s.level program.facts) cells memory after same h.facts;
      fills = subst (HoldFills s.fills cells after) (sym (pointers_same p q registers)) (fills_same s.fills cells memory after _ same h.fills);
      first = subst (λ x. AreShadows program.kind First s.shadows.first x after banks) (sym registers)
          (subst (λ r. AreShadows program.kind First s.shadows.first p.registers after r) (sym e) (shadows_same _ _ s.shadows.first _ memory after before same h.first));
      second = subst (λ x. AreShadows program.kind Second s.shadows.second x after banks) (sym registers)
          (subst (λ r. AreShadows program.kind Second s.shadows.second p.registers after r) (sym e) (shadows_same _ _ s.shadows.second _ memory after before same h.second));
      aside = aside_same s.aside p q sp ime h.aside;
    }

-- ---- nothing is said

pub IsSummarized-quiet : (s : AbsState) (entry : Activation) (x : MState) → s.summary ≡ no_summary → IsSummarized s entry x
IsSummarized-quiet s entry x e =
    subst (λ m. HoldSummary entry.program s.cells m x.processor (peek x.storage) x.storage.banks) (sym e)
    (nothing_holds entry.program s.cells x.processor (peek x.storage) x.storage.banks)
