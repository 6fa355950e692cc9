-- What a procedure begins with holds of the machine, as the procedure was entered in it.
use Rattle.std.proofs.Common.{◌≡◌, ℕ, suc, ◌+◌, ◌<◌, Bool, true, false, ◌||◌, nat_lt, cond, List, [], ◌∷◌, ◌++◌, length, map, slice_index, refl, sym, ◌∙◌, ap, subst, arith}
use Rattle.std.specs.List.{AllByRecursion, filter, list_any}
use Rattle.gb_ops.specs.declared.op.Register.{Register}
use Rattle.gb_ops.specs.declared.op.Register.TheVariants.{A, B, C, D, E, H, L}
use Rattle.gb_ops.specs.declared.registers.Registers.{Registers}
use Rattle.gb_ops.specs.Registers.{get}
use Rattle.gb_ops.specs.Play.{MState}
use Rattle.gb_domain.specs.declared.rules.Rules.{Rules}
use Rattle.gb_domain.specs.declared.rules.Rules.TheVariants.{Simple, Extended}
use Rattle.gb_domain.specs.declared.types.Origin.TheVariants as origin
use Rattle.gb_domain.specs.declared.types.Val.{Val}
use Rattle.gb_domain.specs.declared.types.Cell.{Cell}
use Rattle.gb_domain.specs.declared.types.Core.{Core}
use Rattle.gb_domain.specs.Limits.{cell_room}
use Rattle.gb_domain.specs.Summaries.{Program}
use Rattle.gb_domain.specs.Types.{AbsState, origin_of_register}
use Rattle.gb_product.specs.Below.gb_abs.Storage.{peek}
use Rattle.gb_ops.specs.declared.machine.Kind.{Kind}
use Rattle.gb_ops.specs.declared.machine.Kind.TheVariants as kind
use Rattle.gb_product.specs.Below.gb_abs.Meaning.{Activation, Holds, IsBankKept, IsHighBankKept, HoldsLowBank, MeansCore}
use Rattle.gb_product.specs.Below.gb_abs.Cells.{is_below, is_above, is_at, entered, with_cell}
use Rattle.gb_product.specs.Below.gb_abs.Origins.{own, cell_without_origin}
use Rattle.gb_product.specs.Below.gb_summaries.Below.gb_ram_bounds.Meaning.{HasCellsOf}
use Rattle.gb_product.specs.Below.gb_summaries.Meaning.{HoldSummary}
use Rattle.gb_product.proofs.CoveringLaws.{Holds-byte}
use Rattle.gb_product.proofs.SummaryLaws.{HoldSummary-with_cells, has_cells_with_cell}
use Rattle.gb_product.proofs.Below.gb_abs_laws.CellLaws.{AllByRecursion-append, AllByRecursion-where}
use Rattle.gb_product.proofs.Below.gb_abs_laws.CoveringLaws.{AreCells}
use Rattle.gb_product.proofs.Below.gb_abs_laws.OriginLaws.{origin_value-of_register, Holds-own, HoldsLowBank-bounds, AreCells-without_origins}
use Rattle.gb_product.proofs.Below.gb_summaries_laws.MeaningLaws.{nothing_holds}
use Rattle.gb_product.specs.Meaning.{Means}
use Rattle.gb_ops.specs.declared.machine.Region.{Region}
use Rattle.gb_product.proofs.HeldLaws.{related_outside}
use Rattle.gb_calls.specs.Calls.{own_registers, entered_core, kept_cell, with_kept, entered_by}
use Rattle.gb_calls.specs.Parts.{byte_there}
use Rattle.gb_calls.specs.Sound.{without_word, IsCalled, Begins, callee_base, IsSoundEntering}
use Rattle.gb_calls.specs.TakenOver.{base_below}
use Rattle.gb_calls.proofs.CellsBackLaws.{HasCellsOf-uncopied}
use Rattle.gb_calls.proofs.TakenOverLaws.{taken_over-items, taken_over-pointer}

-- ---- states

register_own : (s : Registers Val) (r : Register) → get r (own_registers s) ≡ own (origin_of_register r) (get r s)
register_own s A = refl
register_own s B = refl
register_own s C = refl
register_own s D = refl
register_own s E = refl
register_own s H = refl
register_own s L = refl

-- what stays is kept
bank_kept_itself : (k : Kind) (b : ℕ) → IsBankKept k b b
bank_kept_itself kind.Rom b = refl
bank_kept_itself kind.Mbc1 b = refl
bank_kept_itself kind.Mbc3 b = refl
bank_kept_itself kind.Mbc5 b = refl

high_kept_itself : (k : Kind) (b : ℕ) → IsHighBankKept k b b
high_kept_itself kind.Rom b = refl
high_kept_itself kind.Mbc1 b = tt
high_kept_itself kind.Mbc3 b = tt
high_kept_itself kind.Mbc5 b = refl

MeansCore-entered : (s : Core) (entry begun : Activation) → begun.program ≡ entry.program → MeansCore s entry begun.entered → MeansCore (entered_core s) begun begun.entered
MeansCore-entered s entry begun same m =
    record {
      registers = λ r. subst (λ v. Holds v begun (get r begun.entered.processor.registers)) (sym (register_own s.registers r))
          (Holds-own (origin_of_register r) (get r s.registers) entry begun (get r begun.entered.processor.registers) (m.registers r)
          (sym (origin_value-of_register r begun)));
      flags = record {
        zero = m.flags.zero;
        subtract = m.flags.subtract;
        half_carry = m.flags.half_carry;
        carry = m.flags.carry;
        own = λ e. refl;
      };
      ie = Holds-own origin.Ie s.ie entry begun begun.entered.storage.ie m.ie refl;
      ime = m.ime;
      controller = record {
        bank_least = m.controller.bank_least;
        bank_most = m.controller.bank_most;
        low_bank = HoldsLowBank-bounds begun.program.kind s.ctl (entered_core s).ctl begun.entered.storage.banks.bank refl refl
            (subst (λ p. HoldsLowBank p.kind s.ctl begun.entered.storage.banks.bank) (sym same) m.controller.low_bank);
        second_least = m.controller.second_least;
        second_most = m.controller.second_most;
        gate = m.controller.gate;
        mode = m.controller.mode;
        kept = record {
          bank = λ e. bank_kept_itself begun.program.kind _;
          second = λ e. refl;
          gate = λ e. refl;
          mode = λ e. refl;
          high_bank = λ e. high_kept_itself begun.program.kind _;
        };
      };
      count = m.count;
      locked = m.locked;
      stopped = m.stopped;
    }

-- where SP points doesn't matter to what it says
pub MeansCore-with_word : (s : Core) (entry : Activation) (x : MState) → MeansCore s entry (without_word x) → MeansCore s entry x
MeansCore-with_word s entry x m =
    record {
      registers = m.registers;
      flags = m.flags;
      ie = m.ie;
      ime = m.ime;
      controller = m.controller;
      count = m.count;
      locked = m.locked;
      stopped = m.stopped;
    }

-- ---- kept cells

AllByRecursion-with_cell : (P : Cell → Type 0) (room : ℕ) (c : Cell) (cells : List Cell) → P c → AllByRecursion P cells → AllByRecursion P (with_cell room c cells)
unfolding with_cell entered
AllByRecursion-with_cell P room c cells p h = choose (list_any (is_at c.address) cells || nat_lt (length cells) room)
  where
    choose : (b : Bool) → AllByRecursion P (cond b (filter (is_below c.address) cells ++ c ∷ filter (is_above c.address) cells) cells)
    choose true =
        AllByRecursion-append P (filter (is_below c.address) cells) (c ∷ filter (is_above c.address) cells)
        (AllByRecursion-where P P P (is_below c.address) (λ d e q r. q) cells h h)
        (p, AllByRecursion-where P P P (is_above c.address) (λ d e q r. q) cells h h)
    choose false = h

-- a kept cell's byte is what it was as the procedure was entered
AreCells-with_kept :
    (program : Program) (rules : Rules) (s : AbsState) (i : ℕ) (kept : List ℕ) (cells : List Cell) (entry begun : Activation)
    → ((a : ℕ) → Holds (byte_there program s a) entry (peek begun.entered.storage a))
    → ((j : ℕ) → slice_index begun.kept (i + j) ≡ slice_index kept j)
    → AreCells cells begun begun.entered.storage → AreCells (with_kept program rules s i kept cells) begun begun.entered.storage
AreCells-with_kept program rules s i [] cells entry begun known at h = h
AreCells-with_kept program rules s i (a ∷ kept) cells entry begun known at h =
    AreCells-with_kept program rules s (i + 1) kept (with_cell (cell_room rules) (kept_cell program s i a) cells) entry begun known later
    (AllByRecursion-with_cell (λ c. Holds c.val begun (peek begun.entered.storage c.address)) (cell_room rules) (kept_cell program s i a) cells
    (Holds-own (origin.Kept i) (byte_there program s a) entry begun (peek begun.entered.storage a) (known a) (ap (peek begun.entered.storage) (sym here)))
    h)
  where
    later : (j : ℕ) → slice_index begun.kept (i + 1 + j) ≡ slice_index kept j
    later j = let next : i + suc j ≡ i + 1 + j = omega arith in ap (slice_index begun.kept) (sym next) ∙ at (suc j)

    here : slice_index begun.kept i ≡ a
    here = let none : i + 0 ≡ i = omega arith in ap (slice_index begun.kept) (sym none) ∙ at 0

-- none of the cells goes
HasCellsOf-with_kept : (program : Program) (rules : Rules) (s : AbsState) (i : ℕ) (kept : List ℕ) (cells : List Cell) → HasCellsOf cells (with_kept program rules s i kept cells)
HasCellsOf-with_kept program rules s i [] cells = record { gives = λ a h. h }
HasCellsOf-with_kept program rules s i (b ∷ kept) cells =
    let rest = HasCellsOf-with_kept program rules s (i + 1) kept (with_cell (cell_room rules) (kept_cell program s i b) cells) in
    let first = has_cells_with_cell (cell_room rules) (kept_cell program s i b) cells in
    record { gives = λ a h. first.gives a (rest.gives a h) }

-- the caller's cells, and those of the kept addresses
AreCells-entered :
    (program : Program) (rules : Rules) (kept : List ℕ) (s : AbsState) (entry : Activation) (base : ℕ) (begun : Activation) (x : MState)
    → entry.program ≡ program → begun.kept ≡ kept → x.storage ≡ begun.entered.storage → Means s entry base x
    → AreCells (with_kept program rules s 0 kept (map cell_without_origin s.cells)) begun begun.entered.storage
AreCells-entered program rules kept s entry base begun x is names same m =
    AreCells-with_kept program rules s 0 kept (map cell_without_origin s.cells) entry begun
    (λ a. subst (λ t. Holds (byte_there program s a) entry (peek t a)) same
    (subst (λ p. Holds (byte_there p s a) entry (peek x.storage a)) is (Holds-byte s a entry base x m)))
    (λ j. let none : 0 + j ≡ j = omega arith in ap (slice_index begun.kept) none ∙ ap (λ xs. slice_index xs j) names)
    (AreCells-without_origins s.cells entry begun begun.entered.storage (subst (λ t. AreCells s.cells entry t) same m.parts.cells))

-- ---- what a procedure begins with

-- a procedure that is entered, its return word at SP and no item of its caller's, begins with what is said
pub Means-entered :
    (program : Program) (region : Region) (k : ℕ) (kept : List ℕ) (s : AbsState) (entry : Activation) (base : ℕ) (begun : Activation)
    → entry.program ≡ program → begun.program ≡ program → begun.kept ≡ kept → Means s entry base (without_word begun.entered)
    → begun.entered.processor.sp < 65536 → Means (entered_by program region Simple k kept s) begun begun.entered.processor.sp begun.entered
unfolding entered_by
Means-entered program region k kept s entry base begun is f names m lt =
    let e : begun.program ≡ entry.program = f ∙ sym is in
    record {
      parts = record {
        core = MeansCore-entered s.core entry begun e (MeansCore-with_word s.core entry begun.entered m.parts.core);
        memory = m.parts.memory;
        sp = lt;
        stack = λ e. omega arith;
        items = tt;
        cells = AreCells-entered program Simple kept s entry base begun (without_word begun.entered) is names refl m;
      };
      related = related_outside region s.relations entry begun begun.entered m.related;
      summary = nothing_holds begun.program _ begun.entered.processor (peek begun.entered.storage) begun.entered.storage.banks;
    }

-- a procedure that takes over items of its caller's, its return word among them, begins with what is said
pub Means-taken_over :
    (program : Program) (region : Region) (k : ℕ) (kept : List ℕ) (s : AbsState) (entry : Activation) (base : ℕ) (begun : Activation)
    → entry.program ≡ program → begun.program ≡ program → begun.kept ≡ kept → IsCalled k s entry base begun.entered
    → Means (entered_by program region Extended k kept s) begun (base_below k s.items base) begun.entered
unfolding entered_by
Means-taken_over program region k kept s entry base begun is f names h =
    let e : begun.program ≡ entry.program = f ∙ sym is in
    let plain = map cell_without_origin s.cells in
    let more = with_kept program Extended s 0 kept plain in
    let some = HasCellsOf-uncopied s.cells in
    let others = HasCellsOf-with_kept program Extended s 0 kept plain in
    let all : HasCellsOf s.cells more = record { gives = λ a none. some.gives a (others.gives a none) } in
    record {
      parts = record {
        core = MeansCore-entered s.core entry begun e h.caller.parts.core;
        memory = h.caller.parts.memory;
        sp = h.caller.parts.sp;
        stack = λ e. taken_over-pointer k s.items begun.entered.processor.sp base h.few (h.caller.parts.stack h.located);
        items = taken_over-items k s entry base begun h.few h.located h.caller.parts;
        cells = AreCells-entered program Extended kept s entry base begun begun.entered is names refl h.caller;
      };
      related = related_outside region s.relations entry begun begun.entered h.caller.related;
      summary = subst (λ p. HoldSummary p more s.summary begun.entered.processor (peek begun.entered.storage) begun.entered.storage.banks) (sym e)
          (HoldSummary-with_cells entry.program s.cells more s.summary begun.entered.processor (peek begun.entered.storage) begun.entered.storage.banks
          all h.caller.summary);
    }

-- by either rules
Means-begun :
    (program : Program) (region : Region) (rules : Rules) (k : ℕ) (kept : List ℕ) (s : AbsState) (entry : Activation) (base : ℕ) (begun : Activation)
    → entry.program ≡ program → begun.program ≡ program → begun.kept ≡ kept → Begins rules k s entry base begun.entered
    → Means (entered_by program region rules k kept s) begun (callee_base rules k s.items base begun.entered) begun.entered
Means-begun program region Simple k kept s entry base begun is f names h = Means-entered program region k kept s entry base begun is f names h.0 h.1
Means-begun program region Extended k kept s entry base begun is f names h = Means-taken_over program region k kept s entry base begun is f names h

pub enter_sound :
    (program : Program) (region : Region) (rules : Rules) (k : ℕ) (kept : List ℕ) (s o : AbsState) → o ≡ entered_by program region rules k kept s
    → IsSoundEntering program region rules k kept s o
enter_sound program region rules k kept s o e =
    record {
      gives = λ entry base begun is f names h.
          subst (λ (w : AbsState). Means w begun (callee_base rules k s.items base begun.entered) begun.entered) (sym e)
          (Means-begun program region rules k kept s entry base begun is f names h);
    }
