-- The controller's registers stay within what the places of its windows leave.
use Rattle.std.proofs.Common.{◌≡◌, ℕ, ◌≤◌, ◌<◌, Bool, true, false, cond, nat_le, List, Option, Some, None, option_map, refl, sym, subst, arith, take}
use Rattle.std.specs.Prelude.{option_and_then, IfSome}
use Rattle.std.proofs.lemmas.Bool.Decides.{nat_tests}
use Rattle.gb_ops.specs.declared.machine.Banks.{Banks}
use Rattle.gb_ops.specs.declared.machine.Kind.{Kind}
use Rattle.gb_ops.specs.declared.machine.Kind.TheVariants as kind
use Rattle.gb_ops.specs.declared.registers.Processor.{Processor}
use Rattle.gb_domain.specs.declared.pairs.Bounds.{Bounds}
use Rattle.gb_domain.specs.declared.pairs.PairBounds.{PairBounds}
use Rattle.gb_product.specs.Covering.{read_by}
use Rattle.gb_product.specs.Meaning.{beside}
use Rattle.gb_domain.specs.declared.types.Cell.{Cell}
use Rattle.gb_domain.specs.declared.types.Ctl.{Ctl}
use Rattle.gb_domain.specs.Summaries.{Program, SummaryParts}
use Rattle.gb_abs_effects.specs.Below.gb_abs.Meaning.{Activation, HoldsLowBank, HoldsController, MeansCore}
use Rattle.gb_summaries.specs.Below.gb_pairs.declared.values.Values.{Values}
use Rattle.gb_summaries.specs.Below.gb_pairs.Meaning.{Beside, AreBytes, Holds as HoldValues}
use Rattle.gb_summaries.specs.Below.gb_ram_bounds.Meaning.{HoldCells, HoldsState}
use Rattle.gb_summaries.specs.Below.gb_copies.declared.windows.BankWindow.{BankWindow}
use Rattle.gb_summaries.specs.Below.gb_copies.declared.windows.BankWindow.TheVariants.{First, Second}
use Rattle.gb_summaries.specs.Below.gb_copies.Fitting.{WithinSome}
use Rattle.gb_summaries.specs.Below.gb_copies.Windows.{register_of}
use Rattle.gb_summaries.specs.Known.{pointer_bounds, window_bounds, HoldWindows, HoldsKnown}
use Rattle.gb_summaries.specs.Meaning.{pointers_of, HoldSummary}
use Rattle.gb_summaries.specs.Reducing.{shadows_of, has_shadow, reduced_window}
use Rattle.gb_summaries.proofs.KnownLaws.{windows_within, PointersIn-known}
use Rattle.gb_summaries.proofs.ReducingLaws.{reduced_window_sound}
use Rattle.gb_product.specs.Reduced.{cut_bounds, with_window, ordered_or, with_bounds, cut_window, reduced_controller, product_of, reduced, with_banks_cut, reduced_wholly}
use Rattle.gb_product.specs.Sound.{HoldsControllerIf, IsSoundController, IsReduced, IsMeantProduct, IsSoundReducing, IsSoundWhole}
use Rattle.gb_ops.specs.Play.{MState}
use Rattle.gb_domain.specs.declared.relations.Relations.{Relations}
use Rattle.gb_domain.specs.declared.rules.Rules.{Rules}
use Rattle.gb_domain.specs.declared.types.Core.{Core}
use Rattle.gb_domain.specs.Pairs.{ArePairs}
use Rattle.gb_abs_effects.specs.Below.gb_abs.Storage.{peek}
use Rattle.gb_summaries.specs.Below.gb_relations.Transfer.{values_of}
use Rattle.gb_product.specs.declared.parts.Product.{Product}
use Rattle.gb_product.proofs.ReducedLaws.{Holds-values, reduced_sound, reduced_cuts}
use Rattle.gb_product.proofs.ReadLaws.{AreReadIn-read_by}
use Rattle.gb_domain.specs.declared.rules.Rules.TheVariants.{Simple, Extended}

-- the windows' registers are within the bounds that a controller gives them
pub windows_hold : (c : Ctl) (entry : Activation) (r : Banks) → HoldsController c entry r → HoldWindows entry.program.kind c r
windows_hold c entry r h =
    windows_within entry.program.kind c r (
    record {
      bank_least = h.bank_least;
      bank_most = h.bank_most;
      second_least = h.second_least;
      second_most = h.second_most;
      low_least = λ e. (subst (λ k. HoldsLowBank k c r.bank) e h.low_bank).0;
      low_most = λ e. (subst (λ k. HoldsLowBank k c r.bank) e h.low_bank).1;
    })

-- ---- bounds that are in others too

first_of_both : (x y n : ℕ) → x ≤ n → y ≤ n → cond (nat_le y x) x y ≤ n
first_of_both x y n h k = choose (nat_le y x)
  where
    choose : (b : Bool) → cond b x y ≤ n
    choose true = h
    choose false = k

last_of_both : (x y n : ℕ) → n ≤ x → n ≤ y → n ≤ cond (nat_le x y) x y
last_of_both x y n h k = choose (nat_le x y)
  where
    choose : (b : Bool) → n ≤ cond b x y
    choose true = h
    choose false = k

last_below : (x y : ℕ) → cond (nat_le x y) x y ≤ x
last_below x y = choose (nat_le x y) refl
  where
    choose : (b : Bool) → nat_le x y ≡ b → cond b x y ≤ x
    choose true e = omega arith
    choose false e = grind (arith, nat_tests)

-- ---- one window

other_low : (k : Kind) (c : Ctl) (entry : Activation) (r : Banks) → entry.program.kind ≡ k → HoldsLowBank k c r.bank → HoldsLowBank entry.program.kind c r.bank
other_low k c entry r e h = subst (λ q. HoldsLowBank q c r.bank) (sym e) h

-- with bounds that the register is within
HoldsController-with_window :
    (k : Kind) (which : BankWindow) (b : Bounds) (c : Ctl) (entry : Activation) (r : Banks)
    → entry.program.kind ≡ k → b.first ≤ register_of k which r → register_of k which r ≤ b.last → b.last ≤ (window_bounds k which c).last
    → HoldsController c entry r → HoldsController (with_window k which b c) entry r
unfolding with_window window_bounds register_of
HoldsController-with_window kind.Mbc5 First b c entry r e least most small h =
    let from = h.bank_least in
    let to = h.bank_most in
    record {
      bank_least = omega (arith, from, least);
      bank_most = omega (arith, to, most);
      low_bank = other_low kind.Mbc5 _ entry r e (omega (arith, least), omega (arith, most, small));
      second_least = h.second_least;
      second_most = h.second_most;
      gate = h.gate;
      mode = h.mode;
      kept = h.kept;
    }
HoldsController-with_window kind.Mbc5 Second b c entry r e least most small h =
    let low = subst (λ q. HoldsLowBank q c r.bank) e h.low_bank in
    let from = low.0 in
    let to = low.1 in
    record {
      bank_least = omega (arith, from, least);
      bank_most = omega (arith, to, most);
      low_bank = other_low kind.Mbc5 _ entry r e (omega (arith, from), omega (arith, to));
      second_least = h.second_least;
      second_most = h.second_most;
      gate = h.gate;
      mode = h.mode;
      kept = h.kept;
    }
HoldsController-with_window kind.Rom First b c entry r e least most small h =
    record { bank_least = least; bank_most = most; low_bank = other_low kind.Rom _ entry r e tt; second_least = h.second_least; second_most = h.second_most; gate = h.gate; mode = h.mode; kept = h.kept }
HoldsController-with_window kind.Rom Second b c entry r e least most small h =
    record { bank_least = h.bank_least; bank_most = h.bank_most; low_bank = other_low kind.Rom _ entry r e tt; second_least = least; second_most = most; gate = h.gate; mode = h.mode; kept = h.kept }
HoldsController-with_window kind.Mbc1 First b c entry r e least most small h =
    record { bank_least = least; bank_most = most; low_bank = other_low kind.Mbc1 _ entry r e tt; second_least = h.second_least; second_most = h.second_most; gate = h.gate; mode = h.mode; kept = h.kept }
HoldsController-with_window kind.Mbc1 Second b c entry r e least most small h =
    record { bank_least = h.bank_least; bank_most = h.bank_most; low_bank = other_low kind.Mbc1 _ entry r e tt; second_least = least; second_most = most; gate = h.gate; mode = h.mode; kept = h.kept }
HoldsController-with_window kind.Mbc3 First b c entry r e least most small h =
    record { bank_least = least; bank_most = most; low_bank = other_low kind.Mbc3 _ entry r e tt; second_least = h.second_least; second_most = h.second_most; gate = h.gate; mode = h.mode; kept = h.kept }
HoldsController-with_window kind.Mbc3 Second b c entry r e least most small h =
    record { bank_least = h.bank_least; bank_most = h.bank_most; low_bank = other_low kind.Mbc3 _ entry r e tt; second_least = least; second_most = most; gate = h.gate; mode = h.mode; kept = h.kept }

HoldsController-with_bounds :
    (k : Kind) (which : BankWindow) (b : Bounds) (c : Ctl) (entry : Activation) (r : Banks)
    → entry.program.kind ≡ k → b.first ≤ register_of k which r → register_of k which r ≤ b.last → b.last ≤ (window_bounds k which c).last
    → HoldsController c entry r → HoldsController (with_bounds k which c b) entry r
HoldsController-with_bounds k which b c entry r e least most small h = choose (nat_le b.first b.last)
  where
    cut : Ctl
    cut = with_window k which b c

    ordered : (t : Bool) → HoldsController (cond t (with_window k which b c) c) entry r
    ordered true = HoldsController-with_window k which b c entry r e least most small h
    ordered false = h

    choose : (t : Bool) → HoldsController (cond t (ordered_or c (with_window k which b c)) c) entry r
    choose true = ordered (nat_le cut.bank_lo cut.bank_hi)
    choose false = h

-- what a state knows, of the registers of both windows
record HoldsRest (program : Program) (v : Values) (cells : List Cell) (s : SummaryParts) (p : Processor) (memory : ℕ → ℕ) (r : Banks) : Type 0 where
  was : Beside
  values : HoldValues v was p.registers
  registers : AreBytes p.registers
  bytes : (a : ℕ) → memory a < 256
  cells_hold : HoldCells cells memory
  summary : HoldSummary program cells s p memory r

HoldsController-cut_window :
    (which : BankWindow) (v : Values) (cells : List Cell) (s : SummaryParts) (c : Ctl) (entry : Activation) (p : Processor) (memory : ℕ → ℕ) (r : Banks)
    → HoldsRest entry.program v cells s p memory r → HoldsController c entry r → HoldsControllerIf (cut_window entry.program which v cells s c) entry r
unfolding cut_window
HoldsController-cut_window which v cells s c entry p memory r rest h = choose (has_shadow (shadows_of which s))
  where
    k : Kind
    k = entry.program.kind

    windows : HoldWindows entry.program.kind c r
    windows = windows_hold c entry r h

    known : HoldsKnown entry.program v c cells s p memory r
    known = record { was = rest.was; values = rest.values; windows = windows; bytes = rest.bytes; cells_hold = rest.cells_hold; summary = rest.summary }

    by : (o : Option Bounds) → WithinSome o (register_of entry.program.kind which r)
        → HoldsControllerIf (option_map (λ b. with_bounds entry.program.kind which c (cut_bounds (window_bounds entry.program.kind which c) b)) o) entry r
    by None w = w
    by (Some b) w =
        let d = window_bounds entry.program.kind which c in
        HoldsController-with_bounds entry.program.kind which (cut_bounds d b) c entry r refl
        (first_of_both d.first b.first _ (windows.least which) w.0) (last_of_both d.last b.last _ (windows.most which) w.1) (last_below d.last b.last) h

    choose : (t : Bool)
        → HoldsControllerIf (cond t (option_map (λ b. with_bounds entry.program.kind which c (cut_bounds (window_bounds entry.program.kind which c) b)) (reduced_window entry.program which v c cells s)) (Some c)) entry r
    choose true =
        by (reduced_window entry.program which v c cells s)
        ((reduced_window_sound entry.program which v c cells s _ refl).gives p memory r rest.registers known)
    choose false = h

-- ---- both

HoldsController-reduced :
    (v : Values) (cells : List Cell) (s : SummaryParts) (c : Ctl) (entry : Activation) (p : Processor) (memory : ℕ → ℕ) (r : Banks)
    → HoldsRest entry.program v cells s p memory r → HoldsController c entry r → HoldsControllerIf (reduced_controller entry.program v cells s c) entry r
unfolding reduced_controller
HoldsController-reduced v cells s c entry p memory r rest h =
    by (cut_window entry.program First v cells s c) (HoldsController-cut_window First v cells s c entry p memory r rest h)
  where
    by : (o : Option Ctl) → HoldsControllerIf o entry r → HoldsControllerIf (option_and_then (cut_window entry.program Second v cells s) o) entry r
    by None k = k
    by (Some d) k = HoldsController-cut_window Second v cells s d entry p memory r rest k

pub reduced_controller_sound :
    (program : Program) (v : Values) (cells : List Cell) (s : SummaryParts) (c : Ctl) (o : Option Ctl)
    → o ≡ reduced_controller program v cells s c → IsSoundController program v cells s c o
reduced_controller_sound program v cells s c o e =
    subst (λ q. IsSoundController program v cells s c q) (sym e)
    (record {
      gives = λ entry was p memory r of registers values bytes cells_hold summary h.
          subst (λ q. HoldsControllerIf (reduced_controller q v cells s c) entry r) of
          (HoldsController-reduced v cells s c entry p memory r
          (record { was = was; values = values; registers = registers; bytes = bytes; cells_hold = cells_hold; summary = subst (λ q. HoldSummary q cells s p memory r) (sym of) summary }) h);
    })

-- ---- with registers and pairs

MeansCore-with_ctl : (core : Core) (c : Ctl) (entry : Activation) (x : MState) → HoldsController c entry x.storage.banks → MeansCore core entry x → MeansCore (record core { ctl = c }) entry x
MeansCore-with_ctl core c entry x h m = record {
  registers = m.registers;
  flags = m.flags;
  ie = m.ie;
  ime = m.ime;
  controller = h;
  count = m.count;
  locked = m.locked;
  stopped = m.stopped;
}

pub with_banks_cut_sound :
    (program : Program) (entered : PairBounds) (cells : List Cell) (s : SummaryParts) (core : Core) (r : Relations) (o q : Option Product)
    → IsSoundReducing entered (read_by program (values_of core.registers r.pairs) cells s r.pairs) core r o → q ≡ option_and_then (with_banks_cut program cells s) o → IsSoundWhole program entered cells s core r q
with_banks_cut_sound program entered cells s core r o q sound e =
    subst (λ t. IsSoundWhole program entered cells s core r t) (sym e)
    (record {
      gives = λ entry x of within registers bytes cells_hold summary m related.
          let state : HoldsState (take s.level program.facts) cells s.fills (pointer_bounds v) (peek x.storage) (pointers_of x.processor) =
          record {
            bytes = bytes;
            cells_hold = cells_hold;
            facts_hold = summary.facts;
            fills_hold = summary.fills;
            pointers = PointersIn-known v (beside entry x) x.processor (Holds-values core r entry x m related);
          } in
          by entry x of registers bytes cells_hold summary o
          (sound.gives entry x within (AreReadIn-read_by program v cells s r.pairs (peek x.storage) (pointers_of x.processor) state) registers m related);
    })
  where
    v : Values
    v = values_of core.registers r.pairs

    by : (entry : Activation) (x : MState) → entry.program ≡ program → AreBytes x.processor.registers → ((a : ℕ) → peek x.storage a < 256) → HoldCells cells (peek x.storage)
        → HoldSummary program cells s x.processor (peek x.storage) x.storage.banks → (p : Option Product) → IsMeantProduct p entry x → IsMeantProduct (option_and_then (with_banks_cut program cells s) p) entry x
    by entry x of registers bytes cells_hold summary None m = m
    by entry x of registers bytes cells_hold summary (Some p) m =
        cut (reduced_controller program (values_of p.core.registers p.relations.pairs) cells s p.core.ctl)
        ((reduced_controller_sound program (values_of p.core.registers p.relations.pairs) cells s p.core.ctl _ refl).gives entry (beside entry x) x.processor (peek x.storage) x.storage.banks of registers
        (Holds-values p.core p.relations entry x m.core m.related) bytes cells_hold summary m.core.controller)
      where
        cut : (d : Option Ctl) → HoldsControllerIf d entry x.storage.banks → IsMeantProduct (option_map (λ c. product_of (record p.core { ctl = c }) p.relations) d) entry x
        cut None h = h
        cut (Some d) h = record { core = MeansCore-with_ctl p.core d entry x h m.core; related = m.related }

-- as it stands
pub same_whole : (program : Program) (entered : PairBounds) (cells : List Cell) (s : SummaryParts) (core : Core) (r : Relations) → IsSoundWhole program entered cells s core r (Some (product_of core r))
same_whole program entered cells s core r = record { gives = λ entry x of within registers bytes cells_hold summary m related. record { core = m; related = related } }

pub reduced_wholly_sound :
    (may_be : ℕ → Bool) (program : Program) (rules : Rules) (entered : PairBounds) (core : Core) (r : Relations) (cells : List Cell) (s : SummaryParts)
    → (rules ≡ Extended → ArePairs may_be r.pairs) → IsSoundWhole program entered cells s core r (reduced_wholly program rules entered core r cells s)
unfolding reduced_wholly reduced
reduced_wholly_sound may_be program Simple entered core r cells s are = same_whole program entered cells s core r
reduced_wholly_sound may_be program Extended entered core r cells s are =
    let read = read_by program (values_of core.registers r.pairs) cells s r.pairs in
    with_banks_cut_sound program entered cells s core r (reduced Extended entered read core r) _ (reduced_sound may_be Extended entered read core r _ refl (are refl)) refl

-- SP stays set, and the one byte keeps its places
abbrev pub AreKept : Core → Relations → Product → Type 0
AreKept core r p = (p.core.stack_set ≡ core.stack_set) × (p.relations.byte ≡ r.byte)

with_banks_cut_kept :
    (program : Program) (cells : List Cell) (s : SummaryParts) (core : Core) (r : Relations) (o q : Option Product)
    → IfSome o (IsReduced core r) → q ≡ option_and_then (with_banks_cut program cells s) o → IfSome q (AreKept core r)
with_banks_cut_kept program cells s core r o q cut e = subst (λ t. IfSome t (AreKept core r)) (sym e) (by o cut)
  where
    by : (t : Option Product) → IfSome t (IsReduced core r) → IfSome (option_and_then (with_banks_cut program cells s) t) (AreKept core r)
    by None h = tt
    by (Some p) h = choose (reduced_controller program (values_of p.core.registers p.relations.pairs) cells s p.core.ctl)
      where
        choose : (d : Option Ctl) → IfSome (option_map (λ c. product_of (record p.core { ctl = c }) p.relations) d) (AreKept core r)
        choose None = tt
        choose (Some c) = (h.core.stack_set, h.relations.byte)

pub with_banks_cut_stack :
    (program : Program) (cells : List Cell) (s : SummaryParts) (core : Core) (r : Relations) (o q : Option Product)
    → IfSome o (IsReduced core r) → q ≡ option_and_then (with_banks_cut program cells s) o → IfSome q (λ p. p.core.stack_set ≡ core.stack_set)
with_banks_cut_stack program cells s core r o q cut e = set q (with_banks_cut_kept program cells s core r o q cut e)
  where
    set : (t : Option Product) → IfSome t (AreKept core r) → IfSome t (λ p. p.core.stack_set ≡ core.stack_set)
    set None h = tt
    set (Some p) h = h.0

pub reduced_wholly_kept :
    (program : Program) (rules : Rules) (entered : PairBounds) (core : Core) (r : Relations) (cells : List Cell) (s : SummaryParts)
    → IfSome (reduced_wholly program rules entered core r cells s) (AreKept core r)
unfolding reduced_wholly reduced
reduced_wholly_kept program Simple entered core r cells s = (refl, refl)
reduced_wholly_kept program Extended entered core r cells s = with_banks_cut_kept program cells s core r (reduced Extended entered _ core r) _ (reduced_cuts Extended entered _ core r _ refl) refl
