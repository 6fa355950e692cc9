-- A store that isn't refused has no fault, and leaves what the state after it means.
use Rattle.std.proofs.Common.{◌≡◌, ℕ, ◌-◌, ◌<◌, ◌≤◌, Bool, true, false, not, ◌&&◌, ◌||◌, ◌==◌, nat_le, nat_lt, if◌then◌else◌, List, [], ◌∷◌, length, Option, Some, None, Ok, refl, sym, ◌∙◌, ap, subst, arith, ◌⊎◌, inl, inr}
use Rattle.std.proofs.lemmas.Bool.{not-false, not-true, or_parts}
use Rattle.std.specs.List.{AllByRecursion, list_any}
use Rattle.std.specs.Result.{IfOk}
use Rattle.std.proofs.lemmas.Bool.Decides.{nat_tests}
use Rattle.std.proofs.lemmas.List.Elements.{All-from_recursion}
use Rattle.gb_ops.specs.declared.machine.Banks.{Banks}
use Rattle.gb_ops.specs.declared.machine.Kind.{Kind}
use Rattle.gb_ops.specs.declared.machine.Kind.TheVariants as kind
use Rattle.gb_ops.specs.declared.machine.Mapped.{Mapped}
use Rattle.gb_ops.specs.declared.machine.Mapped.TheVariants as mapped
use Rattle.gb_ops.specs.declared.machine.Region.{Region}
use Rattle.gb_ops.specs.Cartridge.{is_within, kind_of, kind_after, banks_after}
use Rattle.gb_ops.specs.Memory.{Storage, View, mapped_at, is_closed, wrote, wrote_by}
use Rattle.gb_ops.specs.Faults.{no_faults, is_ram_closed, access_faults, write_faults}
use Rattle.gb_ops.specs.Play.{MState}
use Rattle.gb_domain.specs.declared.types.Val.{Val}
use Rattle.gb_domain.specs.declared.types.Ctl.{Ctl}
use Rattle.gb_domain.specs.declared.types.Core.{Core}
use Rattle.gb_domain.specs.declared.types.Cell.{Cell}
use Rattle.gb_domain.specs.declared.types.Range.{Range}
use Rattle.gb_domain.specs.Types.{AbsState}
use Rattle.gb_domain.specs.declared.setting.Setting.{Setting}
use Rattle.gb_domain.specs.declared.rules.Rules.{Rules}
use Rattle.gb_domain.specs.declared.rules.Rules.TheVariants.{Simple, Extended}
use Rattle.gb_domain.specs.Settings.{known_base, IsBase}
use Rattle.gb_domain.specs.Areas.{IsRegion, meets}
use Rattle.gb_abs.specs.declared.span.Span.{Span}
use Rattle.gb_abs.specs.Span.{IsIn, one, is_inside, may_meet}
use Rattle.gb_abs.specs.Storage.{is_ram, peek}
use Rattle.gb_abs.specs.Operations.{with_core}
use Rattle.gb_abs.specs.Cells.{ArePlaced}
use Rattle.gb_abs.specs.Stack.{AreInRegion}
use Rattle.gb_abs.specs.Meaning.{Activation, Holds, KeepsBanks, HoldsLowBank, HoldsController, MeansCore, AreItems, MeansParts, IsMemory}
use Rattle.gb_abs.proofs.LocationLaws.{located-more}
use Rattle.gb_abs.proofs.StorageLaws.{region_in_ram, wrote-poked, wrote_ram-starting, wrote_ram-rom}
use Rattle.gb_abs_memory.specs.declared.windows.ControllerRegister.{ControllerRegister}
use Rattle.gb_abs_memory.specs.declared.windows.ControllerRegister.TheVariants as register
use Rattle.gb_abs_memory.specs.declared.windows.Window.{Window}
use Rattle.gb_abs_memory.specs.declared.store.Area.{Area}
use Rattle.gb_abs_memory.specs.declared.store.Area.TheVariants as area
use Rattle.gb_abs_memory.specs.declared.store.Stored.{Stored}
use Rattle.gb_abs_memory.specs.Windows.{InHalves, known_kind, windows, window_of, kept_after, ctl_written}
use Rattle.gb_abs_memory.specs.Access.{may_be_closed, meets_closed_ram, may_copy_closed_ram, store_meets_closed_ram, is_limited, may_start_oam_transfer, is_store_limited, area_by, area_of, is_range, is_below_base, is_ram_allowed, is_allowed, is_storable, store_reason, ram_stored, stored_in, stored_state, starts_oam_transfer, store}
use Rattle.gb_abs_memory.specs.Sound.{view, IsStored, IsSoundStore}
use Rattle.gb_abs_memory.specs.Kept.{keeps, keeps_by, IsKept}
use Rattle.gb_abs_memory.proofs.ItemLaws.{items_stored-simple, length-items_stored}
use Rattle.gb_abs_memory.proofs.RamLaws.{AtRam, ArePlaced-ram_stored, MeansParts-ram_stored}
use Rattle.gb_abs_memory.proofs.ControllerLaws.{IsInWindow, IsInWindow-window_of, window-written, window-nothing, kept_after_sound}
use Rattle.gb_abs_memory.proofs.LoadLaws.{both_false, within_ctl, rom_at, ram-open, not_limited, taken, not_refused, if_ok}

-- ---- no fault

and_first : (a b c d : Bool) → (a && b && c && d) ≡ false → d ≡ true → a ≡ true → (b && c) ≡ false
and_first true true true true h p q = h
and_first true true true false h p q = absurd (let bad : false ≡ true = p in cc)
and_first true true false d h p q = refl
and_first true false c d h p q = refl
and_first false b c d h p q = absurd (let bad : false ≡ true = q in cc)

no_page : (v : Val) (entry : Activation) (n : ℕ) → Holds v entry n → (nat_le v.lo 0xBF && nat_le 0xA0 v.hi) ≡ false → is_within 0xA0 0xBF n ≡ false
no_page v entry n m h =
    let low = m.least in
    let high = m.most in
    grind (arith, nat_tests)

meets_at : (span : Span) (a b : ℕ) → IsIn span a → (a == b) ≡ true → may_meet b b span ≡ true
meets_at span a b i h =
    let low = i.first in
    let high = i.last in
    grind (arith, nat_tests)

-- an OAM transfer that is started copies no closed cartridge RAM
page_open :
    (rom : List ℕ) (core : Core) (entry : Activation) (span : Span) (v : Val) (a n : ℕ) → may_copy_closed_ram rom core span v ≡ false → may_be_closed rom core ≡ true
    → IsIn span a → Holds v entry n → ((a == 0xFF46) && is_within 0xA0 0xBF n) ≡ false
unfolding may_copy_closed_ram
page_open rom core entry span v a n h closed i m = choose (a == 0xFF46) refl
  where
    choose : (b : Bool) → (a == 0xFF46) ≡ b → (b && is_within 0xA0 0xBF n) ≡ false
    choose true e = no_page v entry n m (and_first (may_meet 0xFF46 0xFF46 span) (nat_le v.lo 0xBF) (nat_le 0xA0 v.hi) (may_be_closed rom core) h closed (meets_at span a 0xFF46 i e))
    choose false e = refl

apart_from : (first last a : ℕ) (span : Span) → IsIn span a → may_meet first last span ≡ false → is_within first last a ≡ false
apart_from first last a span i h =
    let low = i.first in
    let high = i.last in
    grind (arith, nat_tests)

closed_faultless :
    (rom : List ℕ) (core : Core) (entry : Activation) (x : MState) (starting : Bool) (span : Span) (v : Val) (a n : ℕ) → store_meets_closed_ram rom core span v ≡ false
    → MeansCore core entry x → IsIn span a → Holds v entry n
    → ((is_within 0xA000 0xBFFF a || ((a == 0xFF46) && is_within 0xA0 0xBF n)) && is_ram_closed (view rom x starting)) ≡ false
unfolding store_meets_closed_ram meets_closed_ram
closed_faultless rom core entry x starting span v a n h m i k = choose (may_be_closed rom core) refl
  where
    tests : ((may_meet 0xA000 0xBFFF span && may_be_closed rom core) ≡ false) × (may_copy_closed_ram rom core span v ≡ false)
    tests = or_parts _ _ h

    first : (b : Bool) → may_be_closed rom core ≡ true → (b && may_be_closed rom core) ≡ false → b ≡ false
    first true e t = absurd (let bad : true ≡ false = sym e ∙ t in cc)
    first false e t = refl

    choose : (b : Bool) → may_be_closed rom core ≡ b → ((is_within 0xA000 0xBFFF a || ((a == 0xFF46) && is_within 0xA0 0xBF n)) && is_ram_closed (view rom x starting)) ≡ false
    choose true e =
        both_false (is_within 0xA000 0xBFFF a || ((a == 0xFF46) && is_within 0xA0 0xBF n)) (is_ram_closed (view rom x starting))
        (inl (rw (apart_from 0xA000 0xBFFF a span i (first _ e tests.0), page_open rom core entry span v a n tests.1 e i k) refl))
    choose false e = both_false _ _ (inr (ram-open rom core entry x starting m e))

pub write-faultless :
    (rom : List ℕ) (core : Core) (entry : Activation) (x : MState) (starting : Bool) (span : Span) (v : Val) (a n : ℕ) → store_meets_closed_ram rom core span v ≡ false
    → is_limited core span ≡ false → MeansCore core entry x → IsIn span a → Holds v entry n → write_faults (view rom x starting) a n ≡ no_faults
unfolding write_faults access_faults
write-faultless rom core entry x starting span v a n ram limited m i k =
    rw (closed_faultless rom core entry x starting span v a n ram m i k, not_limited core entry x span a m i limited) refl

-- ---- what is written

written_at : (m : View) (a n : ℕ) (k : Mapped) → is_closed m.storage a ≡ false → mapped_at a ≡ k → wrote m a n ≡ wrote_by k m a n
unfolding wrote
written_at m a n k open_ e = rw open_ (ap (λ j. wrote_by j m a n) e)

-- a state holds of another storage with the same RAM
items_same : (items : List Val) (entry : Activation) (top : ℕ) (s t : Storage) → ((b : ℕ) → peek t b ≡ peek s b) → AreItems items entry top s → AreItems items entry top t
items_same [] entry top s t e h = tt
items_same (v ∷ items) entry top s t e h = (subst (λ n. Holds v entry n) (sym (e (top - 1))) h.0, items_same items entry (top - 1) s t e h.1)

cells_same :
    (cells : List Cell) (entry : Activation) (s t : Storage) → ((b : ℕ) → peek t b ≡ peek s b)
    → AllByRecursion (λ c. Holds c.val entry (peek s c.address)) cells → AllByRecursion (λ c. Holds c.val entry (peek t c.address)) cells
cells_same [] entry s t e h = tt
cells_same (c ∷ cells) entry s t e h = (subst (λ n. Holds c.val entry n) (sym (e c.address)) h.0, cells_same cells entry s t e h.1)

-- the storage with another IE and other registers of the controller
abbrev with_others : Storage → Banks → ℕ → Storage
with_others t banks ie = record t { banks = banks; ie = ie }

same_bytes : (t : Storage) (banks : Banks) (ie b : ℕ) → peek (with_others t banks ie) b ≡ peek t b
unfolding peek
same_bytes t banks ie b = refl

memory_same : (t : Storage) (banks : Banks) (ie : ℕ) → IsMemory t → IsMemory (with_others t banks ie)
memory_same t banks ie m = record { work = m.work; high = m.high; bytes = λ b. subst (λ n. n ≤ 255) (sym (same_bytes t banks ie b)) (m.bytes b) }

-- another controller's registers, and another IE
MeansParts-others :
    (s : AbsState) (core : Core) (entry : Activation) (base : ℕ) (x : MState) (banks : Banks) (ie : ℕ) → MeansParts s entry base x → core.stack_set ≡ s.core.stack_set
    → MeansCore core entry (record x { storage = with_others x.storage banks ie }) → MeansParts (with_core s core) entry base (record x { storage = with_others x.storage banks ie })
MeansParts-others s core entry base x banks ie m set c =
    record {
      core = c;
      memory = memory_same x.storage banks ie m.memory;
      sp = m.sp;
      stack = λ e. m.stack (located-more s.summary.aside s.core.stack_set core.stack_set (λ on. sym set ∙ on) e);
      items = items_same s.items entry base x.storage (with_others x.storage banks ie) (same_bytes x.storage banks ie) m.items;
      cells = cells_same s.cells entry x.storage (with_others x.storage banks ie) (same_bytes x.storage banks ie) m.cells;
    }

-- ---- a register of the controller

controller_core : (core : Core) (ctl : Ctl) (entry : Activation) (x : MState) (banks : Banks) → MeansCore core entry x → HoldsController ctl entry banks
    → MeansCore (record core { ctl = ctl }) entry (record x { storage = with_others x.storage banks x.storage.ie })
controller_core core ctl entry x banks m h =
    record {
      registers = m.registers;
      flags = m.flags;
      ie = m.ie;
      ime = m.ime;
      controller = h;
      count = m.count;
      locked = m.locked;
      stopped = m.stopped;
    }

controller_holds :
    (whole : Bool) (k : Kind) (r : ControllerRegister) (v : Val) (c : Ctl) (entry : Activation) (banks : Banks)
    → entry.program.kind ≡ known_kind whole k → InHalves (known_kind whole k) (ctl_written whole k r v c) banks
    → KeepsBanks (known_kind whole k) (kept_after whole r c.kept) entry.entered.storage.banks banks
    → HoldsController (ctl_written whole k r v c) entry banks
controller_holds whole k r v c entry banks is i m = record {
  bank_least = i.within.bank_least;
  bank_most = i.within.bank_most;
  low_bank = subst (λ q. HoldsLowBank q (ctl_written whole k r v c) banks.bank) (sym is) i.low;
  second_least = i.within.second_least;
  second_most = i.within.second_most;
  gate = i.within.gate;
  mode = i.within.mode;
  kept = subst (λ q. KeepsBanks q (kept_after whole r c.kept) entry.entered.storage.banks banks) (sym is) m;
}

in_halves : (k : Kind) (c : Ctl) (entry : Activation) (r : Banks) → entry.program.kind ≡ k → HoldsController c entry r → InHalves k c r
in_halves k c entry r is h = record { within = within_ctl c entry r h; low = subst (λ q. HoldsLowBank q c r.bank) is h.low_bank }

-- the controller after a store to a window
abbrev written_in : Bool → Kind → Option ControllerRegister → Val → Ctl → Ctl
written_in whole k None v c = c
written_in whole k (Some r) v c = ctl_written whole k r v c

-- a store in a window
window_holds :
    (whole : Bool) (k : Kind) (w : Window) (a n : ℕ) (v : Val) (c : Ctl) (entry : Activation) (old : Banks) (o : Option ControllerRegister) → IsInWindow k w a → w.register ≡ o
    → entry.program.kind ≡ known_kind whole k → v.hi ≤ 255
    → HoldsController c entry old → Holds v entry n → n ≤ 255 → HoldsController (written_in whole k o v c) entry (kind_after k old a n)
window_holds whole k w a n v c entry old None at e is hi h m byte = subst (λ b. HoldsController c entry b) (sym (window-nothing k w a n old at e)) h
window_holds whole k w a n v c entry old (Some r) at e is hi h m byte =
    controller_holds whole k r v c entry _ is
    (window-written whole k w a n v c old r at e (in_halves (known_kind whole k) c entry old is h) (record { least = m.least; most = m.most }) byte hi)
    ((kept_after_sound whole r c.kept _ refl).gives k a n entry.entered.storage.banks old
    (record { window = w; is_window = at.is_window; register = e; first = at.first; last = at.last }) byte
    (subst (λ q. KeepsBanks q c.kept entry.entered.storage.banks old) is h.kept))

-- ---- one store

-- what the procedure keeps isn't stored to, and in the stack region what lies outside its ranges lies below its base
pub record IsLawful (z : Setting) (region : Region) (ranges : List Range) (base a : ℕ) : Type 0 where
  pub spared : IsKept z region ranges base a → ⊥
  pub held : keeps z ≡ true → meets region a a ≡ true → list_any (is_range (one a)) ranges ≡ false → a < base

-- a byte is stored to one of the addresses, in one of the states, and nothing is against it
pub record AtStore (z : Setting) (rom : List ℕ) (region : Region) (ranges : List Range) (s : AbsState) (span : Span) (v : Val) (entry : Activation) (base : ℕ) (x : MState) (starting : Bool) (a n : ℕ) : Type 0 where
  pub means : MeansParts s entry base x
  pub placed : ArePlaced region s.cells
  pub room : AreInRegion region base (length s.items)
  pub is_region : IsRegion region
  pub at : IsIn span a
  pub address : a < 65536
  pub holds : Holds v entry n
  pub byte : n ≤ 255
  pub hi : v.hi ≤ 255
  pub kind : entry.program.kind ≡ known_kind z.is_whole (kind_of rom)
  pub faults : write_faults (view rom x starting) a n ≡ no_faults
  pub free : is_closed x.storage a ≡ false
  pub seen : may_start_oam_transfer span ≡ false
  pub lawful : IsLawful z region ranges base a
  pub base_is : IsBase z base

-- what is left, given as another view
stored_as :
    (z : Setting) (m m' : View) (a n : ℕ) (region : Region) (ranges : List Range) (s : AbsState) (entry : Activation) (base : ℕ) (x : MState) (o : Stored) → wrote m a n ≡ m' → write_faults m a n ≡ no_faults
    → MeansParts o.state entry base (record x { storage = m'.storage }) → m'.starting ≡ (m.starting || o.starts) → m'.rom ≡ m.rom → o.state.items ≡ s.items
    → ArePlaced region o.state.cells → ((b : ℕ) → peek m'.storage b ≡ peek x.storage b) → IsLawful z region ranges base a
    → IsStored z m a n region ranges s entry base x o
stored_as z m m' a n region ranges s entry base x o e faults means starting rom items placed bytes lawful =
    record {
      means = subst (λ (w : View). MeansParts o.state entry base (record x { storage = w.storage })) (sym e) means;
      faults = faults;
      starting = ap (λ (w : View). w.starting) e ∙ starting;
      rom = ap (λ (w : View). w.rom) e ∙ rom;
      others = λ b ram other. ap (λ (w : View). peek w.storage b) e ∙ bytes b;
      spared = lawful.spared;
      held = lawful.held;
      count = ap length items;
      items = λ simple. items;
      placed = placed;
    }

or_false : (b : Bool) → b ≡ (b || false)
or_false true = refl
or_false false = refl

or_true : (b : Bool) → true ≡ (b || true)
or_true true = refl
or_true false = refl

-- a store outside FF46 starts no OAM transfer
no_oam_transfer : (span : Span) (a : ℕ) → IsIn span a → (a == 0xFF46) ≡ false → starts_oam_transfer span ≡ false
no_oam_transfer span a i h =
    let low = i.first in
    let high = i.last in
    grind (arith, nat_tests)

starts_not : (starting : Bool) (span : Span) (a : ℕ) → IsIn span a → (a == 0xFF46) ≡ false → starting ≡ (starting || starts_oam_transfer span)
starts_not starting span a i h = or_false starting ∙ ap (λ b. starting || b) (sym (no_oam_transfer span a i h))

-- ---- in a window of the controller

windows_low : (k : Kind) → AllByRecursion (λ (w : Window). w.last ≤ 0x7FFF) (windows k)
unfolding windows
windows_low kind.Rom = (omega arith, tt)
windows_low kind.Mbc1 = (omega arith, (omega arith, (omega arith, (omega arith, tt))))
windows_low kind.Mbc3 = (omega arith, (omega arith, (omega arith, (omega arith, tt))))
windows_low kind.Mbc5 = (omega arith, (omega arith, (omega arith, (omega arith, (omega arith, tt)))))

window_below : (k : Kind) (w : Window) (a : ℕ) → IsInWindow k w a → a < 0x8000
window_below k w a at =
    let c = at.is_window in
    let low : w.last ≤ 0x7FFF = subst (λ (u : Window). u.last ≤ 0x7FFF) c.2 (All-from_recursion (λ (u : Window). u.last ≤ 0x7FFF) (windows k) (windows_low k) c.0 w c.1) in
    let high = at.last in
    omega arith

window_state : (z : Setting) (region : Region) (k : Kind) (o : Option ControllerRegister) (span : Span) (v : Val) (s : AbsState)
    → with_core s (record s.core { ctl = written_in z.is_whole k o v s.core.ctl }) ≡ stored_in z region (Some (area.Controller o)) k span v s
window_state z region k None span v s = refl
window_state z region k (Some r) span v s = refl

below_not : (a : ℕ) → a < 0x8000 → (a == 0xFF46) ≡ false
below_not a h = grind (arith, nat_tests)

stored_window :
    (z : Setting) (rom : List ℕ) (region : Region) (ranges : List Range) (s : AbsState) (span : Span) (v : Val) (entry : Activation) (base : ℕ) (x : MState) (starting : Bool) (a n : ℕ) (w : Window)
    → AtStore z rom region ranges s span v entry base x starting a n → window_of (kind_of rom) span ≡ Some w
    → IsStored z (view rom x starting) a n region ranges s entry base x (record { state = stored_in z region (Some (area.Controller w.register)) (kind_of rom) span v s; starts = starts_oam_transfer span })
unfolding banks_after
stored_window z rom region ranges s span v entry base x starting a n w h e =
    let at = IsInWindow-window_of (kind_of rom) span w a e h.at in
    let low = window_below (kind_of rom) w a at in
    let m = h.means in
    let banks = kind_after (kind_of rom) x.storage.banks a n in
    let ctl = written_in z.is_whole (kind_of rom) w.register v s.core.ctl in
    let holds = window_holds z.is_whole (kind_of rom) w a n v s.core.ctl entry x.storage.banks w.register at refl h.kind h.hi m.core.controller h.holds h.byte in
    let core = controller_core s.core ctl entry x banks m.core holds in
    subst (λ (t : AbsState). IsStored z (view rom x starting) a n region ranges s entry base x (record { state = t; starts = starts_oam_transfer span })) (window_state z region (kind_of rom) w.register span v s)
    (stored_as z (view rom x starting) (wrote_by mapped.Rom (view rom x starting) a n) a n region ranges s entry base x _ (written_at (view rom x starting) a n mapped.Rom h.free (rom_at a low)) h.faults
    (MeansParts-others s (record s.core { ctl = ctl }) entry base x banks x.storage.ie m refl core) (starts_not starting span a h.at (below_not a low)) refl refl h.placed
    (λ b. same_bytes x.storage banks x.storage.ie b) h.lawful)

-- ---- in hardware

abbrev is_hardware : Span → Bool
is_hardware span = is_inside 0x8000 0x9FFF span || is_inside 0xA000 0xBFFF span || is_inside 0xFE00 0xFF7F span

abbrev is_hardware_address : ℕ → Bool
is_hardware_address a = is_within 0x8000 0xBFFF a || is_within 0xFE00 0xFF7F a

hardware_in : (span : Span) (a : ℕ) → IsIn span a → is_hardware span ≡ true → is_hardware_address a ≡ true
hardware_in span a i h =
    let low = i.first in
    let high = i.last in
    grind (arith, nat_tests)

abbrev IsIdle : Mapped → Type 0
IsIdle k = (m : View) (a n : ℕ) → wrote_by k m a n ≡ m

hardware_idle : (a : ℕ) → is_hardware_address a ≡ true → (a == 0xFF46) ≡ false → IsIdle (mapped_at a)
unfolding mapped_at
hardware_idle a h other = choose (is_within 0xA000 0xBFFF a) refl
  where
    cartridge : is_within 0xA000 0xBFFF a ≡ true → mapped_at a ≡ mapped.CartridgeRam
    cartridge e = grind (arith, nat_tests)

    hardware : is_within 0xA000 0xBFFF a ≡ false → mapped_at a ≡ mapped.Hardware
    hardware e = grind (arith, nat_tests)

    choose : (b : Bool) → is_within 0xA000 0xBFFF a ≡ b → IsIdle (mapped_at a)
    choose true e = subst IsIdle (sym (cartridge e)) (λ m a n. refl)
    choose false e = subst IsIdle (sym (hardware e)) (λ m a n. refl)

oam_transfer_at : (a : ℕ) → (a == 0xFF46) ≡ true → mapped_at a ≡ mapped.Transfer
unfolding mapped_at
oam_transfer_at a h = grind (arith, nat_tests)

-- a store that may meet FF46 is one of FF46 alone
starts_here : (span : Span) (a : ℕ) → IsIn span a → (a == 0xFF46) ≡ true → may_start_oam_transfer span ≡ false → starts_oam_transfer span ≡ true
unfolding may_start_oam_transfer
starts_here span a i h seen =
    let low = i.first in
    let high = i.last in
    grind (arith, nat_tests)

stored_hardware :
    (z : Setting) (rom : List ℕ) (region : Region) (ranges : List Range) (s : AbsState) (span : Span) (v : Val) (entry : Activation) (base : ℕ) (x : MState) (starting : Bool) (a n : ℕ)
    → AtStore z rom region ranges s span v entry base x starting a n → is_hardware span ≡ true
    → IsStored z (view rom x starting) a n region ranges s entry base x (record { state = s; starts = starts_oam_transfer span })
stored_hardware z rom region ranges s span v entry base x starting a n h inside = choose (a == 0xFF46) refl
  where
    choose : (b : Bool) → (a == 0xFF46) ≡ b → IsStored z (view rom x starting) a n region ranges s entry base x (record { state = s; starts = starts_oam_transfer span })
    choose true e =
        stored_as z (view rom x starting) (view rom x true) a n region ranges s entry base x _ (written_at (view rom x starting) a n mapped.Transfer h.free (oam_transfer_at a e)) h.faults h.means
        (or_true starting ∙ ap (λ b. starting || b) (sym (starts_here span a h.at e h.seen))) refl refl h.placed (λ b. refl) h.lawful
    choose false e =
        stored_as z (view rom x starting) (view rom x starting) a n region ranges s entry base x _
        (written_at (view rom x starting) a n (mapped_at a) h.free refl ∙ hardware_idle a (hardware_in span a h.at inside) e (view rom x starting) a n) h.faults h.means
        (starts_not starting span a h.at e) refl refl h.placed (λ b. refl) h.lawful

-- ---- in RAM

abbrev is_ram_span : Span → Bool
is_ram_span span = is_inside 0xC000 0xDFFF span || is_inside 0xFF80 0xFFFE span

ram_in : (span : Span) (a : ℕ) → IsIn span a → is_ram_span span ≡ true → is_ram a ≡ true
ram_in span a i h =
    let low = i.first in
    let high = i.last in
    grind (arith, nat_tests)

ram_not : (a : ℕ) → is_ram a ≡ true → (a == 0xFF46) ≡ false
ram_not a h = grind (arith, nat_tests)

apart_at : (region : Region) (span : Span) (a : ℕ) → IsIn span a → meets region span.first span.last ≡ false → meets region a a ≡ false
apart_at region span a i h =
    let low = i.first in
    let high = i.last in
    grind (arith, nat_tests)

stored_ram :
    (z : Setting) (rom : List ℕ) (region : Region) (ranges : List Range) (s : AbsState) (span : Span) (v : Val) (entry : Activation) (base : ℕ) (x : MState) (starting : Bool) (a n : ℕ)
    → AtStore z rom region ranges s span v entry base x starting a n → is_ram_span span ≡ true → (z.rules ≡ Simple → meets region span.first span.last ≡ false)
    → IsStored z (view rom x starting) a n region ranges s entry base x (record { state = ram_stored z region span v s; starts = starts_oam_transfer span })
unfolding ram_stored
stored_ram z rom region ranges s span v entry base x starting a n h inside simple =
    let ram = ram_in span a h.at inside in
    let poked = wrote-poked (view rom x starting) a n h.means.memory ram h.byte h.free in
    let at : AtRam z region s span v entry base x (wrote (view rom x starting) a n).storage a n =
    record { base_is = h.base_is; means = h.means; placed = h.placed; room = h.room; is_region = h.is_region; at = h.at; ram = ram; holds = h.holds; poked = poked; simple = simple } in
    record {
      means = MeansParts-ram_stored z region s span v entry base x _ a n at;
      faults = h.faults;
      starting = wrote_ram-starting (view rom x starting) a n ram h.free ∙ starts_not starting span a h.at (ram_not a ram);
      rom = wrote_ram-rom (view rom x starting) a n ram h.free;
      others = poked.others;
      spared = h.lawful.spared;
      held = h.lawful.held;
      count = length-items_stored z region span v s.core s.items;
      items = λ e. items_stored-simple z region span v s.core s.items e;
      placed = ArePlaced-ram_stored z region s span v entry base x _ a n at;
    }

-- ---- at IE

ie_only : (span : Span) (a : ℕ) → IsIn span a → is_inside 0xFFFF 0xFFFF span ≡ true → a ≡ 0xFFFF
ie_only span a i h =
    let low = i.first in
    let high = i.last in
    grind (arith, nat_tests)

ie_mapped : (a : ℕ) → a ≡ 0xFFFF → mapped_at a ≡ mapped.InterruptEnable
unfolding mapped_at
ie_mapped a h = grind (arith, nat_tests)

ie_not : (a : ℕ) → a ≡ 0xFFFF → (a == 0xFF46) ≡ false
ie_not a h = grind (arith, nat_tests)

ie_core : (core : Core) (v : Val) (entry : Activation) (x : MState) (n : ℕ) → MeansCore core entry x → Holds v entry n → MeansCore (record core { ie = v }) entry (record x { storage = with_others x.storage x.storage.banks n })
ie_core core v entry x n m h =
    record {
      registers = m.registers;
      flags = m.flags;
      ie = h;
      ime = m.ime;
      controller = m.controller;
      count = m.count;
      locked = m.locked;
      stopped = m.stopped;
    }

stored_ie :
    (z : Setting) (rom : List ℕ) (region : Region) (ranges : List Range) (s : AbsState) (span : Span) (v : Val) (entry : Activation) (base : ℕ) (x : MState) (starting : Bool) (a n : ℕ)
    → AtStore z rom region ranges s span v entry base x starting a n → is_inside 0xFFFF 0xFFFF span ≡ true
    → IsStored z (view rom x starting) a n region ranges s entry base x (record { state = with_core s (record s.core { ie = v }); starts = starts_oam_transfer span })
stored_ie z rom region ranges s span v entry base x starting a n h inside =
    let here = ie_only span a h.at inside in
    let m = h.means in
    stored_as z (view rom x starting) (wrote_by mapped.InterruptEnable (view rom x starting) a n) a n region ranges s entry base x _
    (written_at (view rom x starting) a n mapped.InterruptEnable h.free (ie_mapped a here)) h.faults
    (MeansParts-others s (record s.core { ie = v }) entry base x x.storage.banks n m refl (ie_core s.core v entry x n m.core h.holds)) (starts_not starting span a h.at (ie_not a here)) refl refl
    h.placed (λ b. same_bytes x.storage x.storage.banks n b) h.lawful

-- ---- each area

-- the state and the start that a store in an area leaves
abbrev leaves : Setting → Region → Option Area → Kind → Span → Val → AbsState → Stored
leaves z region o k span v s = record { state = stored_in z region o k span v s; starts = starts_oam_transfer span }

not_so : {X : Type 0} → true ≡ false → X
not_so h = absurd cc

first_true : (a b : Bool) → (a && b) ≡ true → a ≡ true
first_true true b h = refl
first_true false b h = absurd (let bad : false ≡ true = h in cc)

second_true : (a b : Bool) → (a && b) ≡ true → b ≡ true
second_true true b h = h
second_true false b h = absurd (let bad : false ≡ true = h in cc)

-- by the rules of versions 1 and 2 no store meets the stack region
apart_simple : (z : Setting) (region : Region) (ranges : List Range) (span : Span) → z.rules ≡ Simple → is_ram_allowed z.rules z region ranges span ≡ true
    → meets region span.first span.last ≡ false
apart_simple z region ranges span e allowed = not-true _ (first_true _ _ (subst (λ rules. is_ram_allowed rules z region ranges span ≡ true) e allowed))

stored_above :
    (z : Setting) (rom : List ℕ) (region : Region) (ranges : List Range) (s : AbsState) (span : Span) (v : Val) (entry : Activation) (base : ℕ) (x : MState) (starting : Bool) (a n : ℕ)
    → AtStore z rom region ranges s span v entry base x starting a n → is_allowed z (area_by None span) region ranges span ≡ true
    → IsStored z (view rom x starting) a n region ranges s entry base x (leaves z region (area_by None span) (kind_of rom) span v s)
stored_above z rom region ranges s span v entry base x starting a n h = choose (is_hardware span) (is_ram_span span) (is_inside 0xFFFF 0xFFFF span) (λ e. e) (λ e. e) (λ e. e)
  where
    choose : (hardware ram ie : Bool) → (hardware ≡ true → is_hardware span ≡ true) → (ram ≡ true → is_ram_span span ≡ true) → (ie ≡ true → is_inside 0xFFFF 0xFFFF span ≡ true)
        → is_allowed z (if hardware then Some area.Hardware else if ram then Some area.Ram else if ie then Some area.InterruptEnable else None) region ranges span ≡ true
        → IsStored z (view rom x starting) a n region ranges s entry base x
        (leaves z region (if hardware then Some area.Hardware else if ram then Some area.Ram else if ie then Some area.InterruptEnable else None) (kind_of rom) span v s)
    choose true ram ie p q r allowed = stored_hardware z rom region ranges s span v entry base x starting a n h (p refl)
    choose false true ie p q r allowed = stored_ram z rom region ranges s span v entry base x starting a n h (q refl) (λ e. apart_simple z region ranges span e allowed)
    choose false false true p q r allowed = stored_ie z rom region ranges s span v entry base x starting a n h (r refl)
    choose false false false p q r allowed = absurd (let bad : false ≡ true = allowed in cc)

stored_by :
    (z : Setting) (rom : List ℕ) (region : Region) (ranges : List Range) (s : AbsState) (span : Span) (v : Val) (entry : Activation) (base : ℕ) (x : MState) (starting : Bool) (a n : ℕ) (o : Option Window)
    → AtStore z rom region ranges s span v entry base x starting a n → window_of (kind_of rom) span ≡ o → is_allowed z (area_by o span) region ranges span ≡ true
    → IsStored z (view rom x starting) a n region ranges s entry base x (leaves z region (area_by o span) (kind_of rom) span v s)
stored_by z rom region ranges s span v entry base x starting a n None h e allowed = stored_above z rom region ranges s span v entry base x starting a n h allowed
stored_by z rom region ranges s span v entry base x starting a n (Some w) h e allowed = stored_window z rom region ranges s span v entry base x starting a n w h e

in_range : (ranges : List Range) (span : Span) (a : ℕ) → IsIn span a → list_any (is_range span) ranges ≡ true → list_any (is_range (one a)) ranges ≡ true
in_range [] span a i h = h
in_range (r ∷ ranges) span a i h = either (is_range span r) (is_range (one a) r) (λ e. inside r e) h (λ e. in_range ranges span a i e)
  where
    inside : (r : Range) → is_range span r ≡ true → is_range (one a) r ≡ true
    inside r e =
        let low = i.first in
        let high = i.last in
        grind (arith, nat_tests)

    either : (b c : Bool) → (b ≡ true → c ≡ true) → (b || list_any (is_range span) ranges) ≡ true
        → (list_any (is_range span) ranges ≡ true → list_any (is_range (one a)) ranges ≡ true) → (c || list_any (is_range (one a)) ranges) ≡ true
    either true c f t g = rw (f refl) refl
    either false true f t g = refl
    either false false f t g = g t

ram_contra : (a : ℕ) → is_ram a ≡ true → (is_hardware_address a ≡ true) ⊎ ((a ≡ 0xFFFF) ⊎ (a < 0x8000)) → ⊥
ram_contra a h (inl e) = grind (arith, nat_tests)
ram_contra a h (inr (inl e)) = grind (arith, nat_tests)
ram_contra a h (inr (inr e)) = grind (arith, nat_tests)

not_ram : (b : Bool) → (b ≡ true → ⊥) → b ≡ false
not_ram true f = absurd (f refl)
not_ram false f = refl

either : {X : Type 0} (b c : Bool) → (b ≡ true → X) → (c ≡ true → X) → (b || c) ≡ true → X
either true c f g h = f refl
either false c f g h = g h

above_not : (base a : ℕ) → base ≤ a → a < base → ⊥
above_not base a above below = omega arith

main_keeps_nothing : (z : Setting) → z.rules ≡ Extended → z.is_main ≡ true → keeps z ≡ true → ⊥
main_keeps_nothing z e main keeping = not_so (sym keeping ∙ ap (λ rules. keeps_by rules z.is_main) e ∙ ap not main)

in_ram : (region : Region) (a : ℕ) → IsRegion region → meets region a a ≡ true → is_ram a ≡ true
in_ram region a r met =
    let first : region.first ≤ a = grind (arith, nat_tests) in
    let last : a ≤ region.last = grind (arith, nat_tests) in
    region_in_ram region a r first last

below_known : (base last a b : ℕ) → nat_lt last b ≡ true → a ≤ last → b ≡ base → a < base
below_known base last a b h high same = grind (arith, nat_tests)

-- a store to RAM that is allowed changes nothing that the procedure keeps
IsLawful-ram : (z : Setting) (region : Region) (ranges : List Range) (span : Span) (base a : ℕ) → IsBase z base → IsIn span a → is_ram_allowed z.rules z region ranges span ≡ true
    → IsLawful z region ranges base a
IsLawful-ram z region ranges span base a right i allowed = by_rules z.rules refl allowed
  where
    in_ranges : list_any (is_range span) ranges ≡ true → IsLawful z region ranges base a
    in_ranges e =
        let here = in_range ranges span a i e in
        record { spared = λ k. not_so (sym here ∙ k.outside); held = λ keeping met out. absurd (not_so (sym here ∙ out)) }

    below : (o : Option ℕ) → known_base z ≡ o → is_below_base o region span ≡ true → a < base
    below None e h = absurd (let bad : false ≡ true = h in cc)
    below (Some b) e h = below_known base span.last a b (second_true (is_inside region.first region.last span) (nat_lt span.last b) h) i.last (right b e)

    in_region : (o : Option ℕ) → is_below_base o region span ≡ true → meets region a a ≡ true
    in_region None h = absurd (let bad : false ≡ true = h in cc)
    in_region (Some b) h =
        let low = i.first in
        let high = i.last in
        let inside : is_inside region.first region.last span ≡ true = first_true (is_inside region.first region.last span) (nat_lt span.last b) h in
        grind (arith, nat_tests)

    in_stack : is_below_base (known_base z) region span ≡ true → IsLawful z region ranges base a
    in_stack h =
        let lower = below (known_base z) refl h in
        record { spared = λ k. above_not base a (k.above (in_region (known_base z) h)) lower; held = λ keeping met out. lower }

    by_procedure : (is_main : Bool) → z.rules ≡ Extended → z.is_main ≡ is_main → (is_main || list_any (is_range span) ranges || is_below_base (known_base z) region span) ≡ true
        → IsLawful z region ranges base a
    by_procedure true e main h = record { spared = λ k. main_keeps_nothing z e main k.procedure; held = λ keeping met out. absurd (main_keeps_nothing z e main keeping) }
    by_procedure false e main h = either _ _ in_ranges in_stack h

    by_rules : (rules : Rules) → z.rules ≡ rules → is_ram_allowed rules z region ranges span ≡ true → IsLawful z region ranges base a
    by_rules Simple e h = in_ranges (second_true _ _ h)
    by_rules Extended e h = by_procedure z.is_main e refl h

-- outside RAM a procedure keeps nothing
IsLawful-outside : (z : Setting) (region : Region) (ranges : List Range) (base a : ℕ) → IsRegion region → is_ram a ≡ false → IsLawful z region ranges base a
IsLawful-outside z region ranges base a r out =
    record { spared = λ k. not_so (sym k.ram ∙ out); held = λ keeping met outside. absurd (not_so (sym (in_ram region a r met) ∙ out)) }

pub IsLawful-storable : (z : Setting) (k : Kind) (region : Region) (ranges : List Range) (span : Span) (base a : ℕ) → IsBase z base → IsRegion region
    → is_storable z k region ranges span ≡ true → IsIn span a → IsLawful z region ranges base a
unfolding is_storable area_of
IsLawful-storable z k region ranges span base a right r h i = by_window (window_of k span) refl h
  where
    outside : (is_ram a ≡ true → ⊥) → IsLawful z region ranges base a
    outside f = IsLawful-outside z region ranges base a r (not_ram (is_ram a) f)

    by_area : (hardware inside ie : Bool) → (hardware ≡ true → is_hardware span ≡ true) → (ie ≡ true → is_inside 0xFFFF 0xFFFF span ≡ true)
        → is_allowed z (if hardware then Some area.Hardware else if inside then Some area.Ram else if ie then Some area.InterruptEnable else None) region ranges span ≡ true
        → IsLawful z region ranges base a
    by_area true inside ie p q allowed = outside (λ ram. ram_contra a ram (inl (hardware_in span a i (p refl))))
    by_area false true ie p q allowed = IsLawful-ram z region ranges span base a right i allowed
    by_area false false true p q allowed = outside (λ ram. ram_contra a ram (inr (inl (ie_only span a i (q refl)))))
    by_area false false false p q allowed = absurd (not_so (sym allowed))

    by_window : (o : Option Window) → window_of k span ≡ o → is_allowed z (area_by o span) region ranges span ≡ true → IsLawful z region ranges base a
    by_window (Some w) e allowed = outside (λ ram. ram_contra a ram (inr (inr (window_below k w a (IsInWindow-window_of k span w a e i)))))
    by_window None e allowed = by_area (is_hardware span) (is_ram_span span) (is_inside 0xFFFF 0xFFFF span) (λ e. e) (λ e. e) allowed

-- a store, by its tests
pub IsSoundStore-stored_state :
    (z : Setting) (rom : List ℕ) (region : Region) (ranges : List Range) (s : AbsState) (span : Span) (v : Val) → is_storable z (kind_of rom) region ranges span ≡ true
    → store_meets_closed_ram rom s.core span v ≡ false → is_store_limited s.core span ≡ false
    → IsSoundStore z rom region ranges s span v (record { state = stored_state z region (kind_of rom) span v s; starts = starts_oam_transfer span })
unfolding is_storable area_of stored_state is_store_limited
IsSoundStore-stored_state z rom region ranges s span v storable ram limited = record {
  gives = λ entry base x starting a n right kind m placed room region_is i lt k byte hi.
      let both = or_parts _ _ limited in
      stored_by z rom region ranges s span v entry base x starting a n (window_of (kind_of rom) span)
      (record {
        means = m;
        placed = placed;
        room = room;
        is_region = region_is;
        at = i;
        address = lt;
        holds = k;
        byte = byte;
        hi = hi;
        kind = kind;
        faults = write-faultless rom s.core entry x starting span v a n ram both.0 m.core i k;
        free = not_limited s.core entry x span a m.core i both.0;
        seen = both.1;
        lawful = IsLawful-storable z (kind_of rom) region ranges span base a right region_is storable i;
        base_is = right;
      })
      refl storable;
}

-- what a store leaves is what a bus shows of the state after it
pub stored-view :
    (z : Setting) (rom : List ℕ) (region : Region) (ranges : List Range) (s : AbsState) (entry : Activation) (base : ℕ) (x : MState) (starting : Bool) (a n : ℕ) (o : Stored)
    → IsStored z (view rom x starting) a n region ranges s entry base x o
    → wrote (view rom x starting) a n ≡ view rom (record x { storage = (wrote (view rom x starting) a n).storage }) (starting || o.starts)
stored-view z rom region ranges s entry base x starting a n o h = same (wrote (view rom x starting) a n) h.rom h.starting
  where
    same : (m : View) → m.rom ≡ rom → m.starting ≡ (starting || o.starts) → m ≡ view rom (record x { storage = m.storage }) (starting || o.starts)
    same m p q = ap (λ (r : List ℕ). record m { rom = r }) p ∙ ap (λ b. record m { rom = rom; starting = b }) q

-- a store, by its answer
pub IsSoundStore-store :
    (z : Setting) (rom : List ℕ) (region : Region) (ranges : List Range) (s : AbsState) (span : Span) (v : Val) (o : Stored) → store z rom region ranges s span v ≡ Ok o
    → IsSoundStore z rom region ranges s span v o
unfolding store store_reason
IsSoundStore-store z rom region ranges s span v o h =
    let t = taken _ _ o h in
    let storable = not_refused _ _ _ t.0 in
    let ram = not_refused _ _ _ storable.1 in
    let limited = not_refused _ _ _ ram.1 in
    subst (IsSoundStore z rom region ranges s span v) t.1 (IsSoundStore-stored_state z rom region ranges s span v (not-false _ storable.0) ram.0 limited.0)

pub store_sound :
    (z : Setting) (rom : List ℕ) (region : Region) (ranges : List Range) (s : AbsState) (span : Span) (v : Val)
    → IfOk (store z rom region ranges s span v) (λ o. IsSoundStore z rom region ranges s span v o)
store_sound z rom region ranges s span v =
    if_ok (store z rom region ranges s span v) (λ o. IsSoundStore z rom region ranges s span v o) (λ o h. IsSoundStore-store z rom region ranges s span v o h)

pub ruleset store_laws = (store_sound)
