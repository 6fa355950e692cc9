-- A load that isn't refused has no fault, and gives a byte that its value stands for.
use Rattle.std.proofs.Common.{◌≡◌, ℕ, zero, suc, ◌+◌, ◌-◌, ◌%◌, ◌<◌, ◌≤◌, Bool, true, false, cond, not, ◌&&◌, ◌||◌, ◌==◌, nat_lt, nat_le, if◌then◌else◌, ◌⊎◌, inl, inr, List, [], ◌∷◌, slice_index, slice_get, Option, Some, None, Result, Ok, Err, refl, sym, ◌∙◌, ap, subst, arith}
use Rattle.std.proofs.lemmas.Bool.{and_cases, eqb-true, not-false, or_parts}
use Rattle.std.specs.List.{AllByRecursion}
use Rattle.std.specs.Option.{IfSome}
use Rattle.std.specs.Result.{IfOk}
use Rattle.std.proofs.lemmas.Bool.Decides.{nat_tests}
use Rattle.gb_ops.specs.declared.machine.Banks.{Banks}
use Rattle.gb_ops.specs.declared.machine.Mapped.{Mapped}
use Rattle.gb_ops.specs.declared.machine.Mapped.TheVariants as mapped
use Rattle.gb_ops.specs.Cartridge.{is_within, shown_bank, has_ram_or_clock}
use Rattle.gb_ops.specs.Memory.{View, mapped_at, is_high, is_closed, place_by, place_of, is_free_place, is_free, rom_byte, byte_by, byte_at}
use Rattle.gb_ops.specs.Machine.{Reading, read_by, read_at}
use Rattle.gb_ops.specs.Faults.{no_faults, is_ram_closed, access_faults}
use Rattle.gb_ops.specs.Play.{MState, within}
use Rattle.gb_domain.specs.declared.types.Val.{Val}
use Rattle.gb_domain.specs.declared.types.May.{May}
use Rattle.gb_domain.specs.declared.types.Ctl.{Ctl}
use Rattle.gb_domain.specs.declared.types.Cell.{Cell}
use Rattle.gb_domain.specs.declared.types.Core.{Core}
use Rattle.gb_domain.specs.Types.{AbsState}
use Rattle.gb_domain.specs.Rules.{IsVal}
use Rattle.gb_domain.specs.Settings.{IsBase}
use Rattle.gb_domain.specs.declared.rules.Rules.{Rules}
use Rattle.gb_domain.specs.declared.rules.Rules.TheVariants.{Simple, Extended}
use Rattle.gb_domain.specs.declared.setting.Setting.{Setting}
use Rattle.gb_abs.specs.Located.{stack_base, item_by, item_at}
use Rattle.gb_abs.proofs.LocatedLaws.{IsSoundItem-item_at}
use Rattle.gb_abs.specs.Below.gb_vals.Vals.{any_val, single}
use Rattle.gb_abs.specs.Below.gb_vals.Meaning.{may_be}
use Rattle.gb_abs.specs.declared.span.Span.{Span}
use Rattle.gb_abs.specs.declared.reason.Reason.{Reason}
use Rattle.gb_abs.specs.Span.{IsIn, is_one, is_inside, may_meet}
use Rattle.gb_abs.specs.Storage.{is_ram, peek, peek_by}
use Rattle.gb_abs.specs.Covering.{cell_at}
use Rattle.gb_abs.specs.Meaning.{Activation, Holds, HoldsController, MeansCore, MeansParts}
use Rattle.gb_abs.proofs.CoveringLaws.{Holds-cell}
use Rattle.gb_abs.proofs.OperationLaws.{Holds-single}
use Rattle.gb_header.specs.Header.{IsCartridge}
use Rattle.gb_header.proofs.Laws.{rom_size-cartridge, rom_banks-cartridge}
use Rattle.gb_abs_memory.specs.Windows.{InCtl}
use Rattle.gb_abs_memory.specs.Shown.{known_bank}
use Rattle.gb_abs_memory.specs.Access.{may_be_closed, meets_closed_ram, is_limited, refused_or, home_of, rom_val, val_at, item_or, val_or_item, is_table, joined, table, table_by, several_by, loaded_val, load_reason, load}
use Rattle.gb_abs_memory.specs.Sound.{view, IsRom, AreVals, IsLoaded, IsSoundLoad}
use Rattle.gb_abs_memory.proofs.ShownLaws.{known_bank-sound}

-- ---- tests

not_open : (b c : Bool) → b ≡ true → c ≡ true → not (b && c) ≡ false
not_open b c p q = rw (p, q) refl

-- ---- no fault

-- a bit that isn't clear is set
must_be_set : (m : May) (b : Bool) → m.clear ≡ false → may_be m b ≡ true → b ≡ true
must_be_set m true none h = refl
must_be_set m false none h = absurd (let bad : false ≡ true = sym none ∙ h in cc)

pub ram-open : (rom : List ℕ) (core : Core) (entry : Activation) (x : MState) (starting : Bool) → MeansCore core entry x → may_be_closed rom core ≡ false → is_ram_closed (view rom x starting) ≡ false
unfolding is_ram_closed may_be_closed
ram-open rom core entry x starting m h =
    let open_both = or_parts _ _ h in
    not_open x.storage.banks.gate (has_ram_or_clock rom) (must_be_set core.ctl.gate x.storage.banks.gate open_both.0 m.controller.gate) (not-false _ open_both.1)

apart : (first last a : ℕ) (span : Span) → IsIn span a → may_meet first last span ≡ false → is_within first last a ≡ false
apart first last a span i h =
    let low = i.first in
    let high = i.last in
    grind (arith, nat_tests)

pub both_false : (a b : Bool) → (a ≡ false) ⊎ (b ≡ false) → (a && b) ≡ false
both_false true b (inl h) = absurd (let bad : true ≡ false = h in cc)
both_false true b (inr h) = h
both_false false b h = refl

pub not_closed_ram :
    (rom : List ℕ) (core : Core) (entry : Activation) (x : MState) (starting : Bool) (span : Span) (a : ℕ) → MeansCore core entry x → IsIn span a
    → meets_closed_ram rom core span ≡ false → (is_within 0xA000 0xBFFF a && is_ram_closed (view rom x starting)) ≡ false
unfolding meets_closed_ram
not_closed_ram rom core entry x starting span a m i h = elim (and_cases _ _ h) [
  | inl away ↦ both_false _ _ (inl (apart 0xA000 0xBFFF a span i away))
  | inr ready ↦ both_false _ _ (inr (ram-open rom core entry x starting m ready))
]

high_at : (a : ℕ) → is_within 0xFF80 0xFFFE a ≡ true → mapped_at a ≡ mapped.HighRam (a - 0xFF80)
unfolding mapped_at
high_at a h = grind (arith, nat_tests)

in_high : (a : ℕ) → 0xFF80 ≤ a → a < 0xFFFF → is_high (mapped_at a) ≡ true
in_high a low high = let within : is_within 0xFF80 0xFFFE a ≡ true = grind (arith, nat_tests) in rw (high_at a within) refl

not_running : (count : ℕ) → count ≡ 0 → not (count == 0) ≡ false
not_running count h = grind (arith, nat_tests)

-- no OAM transfer closes the address
pub not_limited : (core : Core) (entry : Activation) (x : MState) (span : Span) (a : ℕ) → MeansCore core entry x → IsIn span a → is_limited core span ≡ false → is_closed x.storage a ≡ false
unfolding is_limited is_closed
not_limited core entry x span a m i h = elim (and_cases _ _ h) [
  | inl none ↦
      let zero : core.bound ≡ 0 = bound_zero core.bound none in
      let count = m.count in
      both_false _ _ (inl (not_running x.storage.count (omega arith)))
  | inr inside ↦
      let high : is_inside 0xFF80 0xFFFE span ≡ true = not-false _ inside in
      let ends = within span high in
      let least = i.first in
      let most = i.last in
      both_false _ _ (inr (ap not (in_high a (omega arith) (omega arith))))
]
  where
    bound_zero : (n : ℕ) → not (n == 0) ≡ false → n ≡ 0
    bound_zero n h = grind (arith, nat_tests)

    within : (span : Span) → is_inside 0xFF80 0xFFFE span ≡ true → (0xFF80 ≤ span.first) × (span.last ≤ 0xFFFE)
    within span h = (grind (arith, nat_tests), grind (arith, nat_tests))

pub access-faultless :
    (rom : List ℕ) (core : Core) (entry : Activation) (x : MState) (starting : Bool) (span : Span) (a : ℕ) → MeansCore core entry x → IsIn span a
    → meets_closed_ram rom core span ≡ false → is_limited core span ≡ false → access_faults (view rom x starting) a ≡ no_faults
unfolding access_faults
access-faultless rom core entry x starting span a m i ram limited =
    rw (not_closed_ram rom core entry x starting span a m i ram, not_limited core entry x span a m i limited) refl

-- ---- the byte that is read

-- a read, by what the memory map has there
abbrev pub answer : Mapped → View → ℕ → List ℕ → Reading
answer k m a free = read_by (is_free_place (place_by k m a)) (byte_by k m a) free

pub read_open : (m : View) (a : ℕ) (free : List ℕ) → is_closed m.storage a ≡ false → read_at m a free ≡ answer (mapped_at a) m a free
unfolding read_at is_free place_of byte_at
read_open m a free h = rw h refl

answer_byte :
    (k : Mapped) (m : View) (a : ℕ) (free : List ℕ) → peek_by k m.storage.work m.storage.high ≤ 255 → m.storage.ie ≤ 255
    → ((i : ℕ) → slice_index m.rom i ≤ 255) → slice_index free 0 ≤ 255 → (answer k m a free).value ≤ 255
answer_byte mapped.Rom m a free ram ie rom byte = rom _
answer_byte mapped.CartridgeRam m a free ram ie rom byte = byte
answer_byte (mapped.WorkRam i) m a free ram ie rom byte = ram
answer_byte (mapped.HighRam i) m a free ram ie rom byte = ram
answer_byte mapped.InterruptEnable m a free ram ie rom byte = ie
answer_byte mapped.Transfer m a free ram ie rom byte = byte
answer_byte mapped.Hardware m a free ram ie rom byte = byte

any_holds : (entry : Activation) (n : ℕ) → n ≤ 255 → Holds any_val entry n
any_holds entry n h = record { least = omega arith; most = h; low = refl; origin = λ o e. cc }

-- IE is a byte
ie_byte : (s : AbsState) (entry : Activation) (base : ℕ) (x : MState) → MeansParts s entry base x → IsVal s.core.ie → x.storage.ie ≤ 255
ie_byte s entry base x m q =
    let ie = m.core.ie in
    let most = ie.most in
    let hi = q.hi in
    omega arith

-- whatever is read is a byte
pub read_byte :
    (rom : List ℕ) (s : AbsState) (entry : Activation) (base : ℕ) (x : MState) (starting : Bool) (a : ℕ) (free : List ℕ) → IsRom rom → MeansParts s entry base x → IsVal s.core.ie
    → slice_index free 0 ≤ 255 → (answer (mapped_at a) (view rom x starting) a free).value ≤ 255
unfolding peek
read_byte rom s entry base x starting a free r m q byte =
    answer_byte (mapped_at a) (view rom x starting) a free (m.memory.bytes a) (ie_byte s entry base x m q) r.bytes byte

pub within_ctl : (c : Ctl) (entry : Activation) (r : Banks) → HoldsController c entry r → InCtl c r
within_ctl c entry r h = record {
  bank_least = h.bank_least;
  bank_most = h.bank_most;
  second_least = h.second_least;
  second_most = h.second_most;
  gate = h.gate;
  mode = h.mode;
}

-- ROM
pub rom_at : (a : ℕ) → a < 0x8000 → mapped_at a ≡ mapped.Rom
unfolding mapped_at
rom_at a h = grind (arith, nat_tests)

known_rom : (rom : List ℕ) (a : ℕ) (entry : Activation) (o : Option ℕ) (bank : ℕ) → ((i : ℕ) → slice_index rom i ≤ 255) → IfSome o (λ b. bank ≡ b) → Holds (rom_val rom a o) entry (rom_byte rom bank a)
known_rom rom a entry None bank bytes h = any_holds entry _ (bytes _)
known_rom rom a entry (Some b) bank bytes h = subst (λ n. Holds (single (rom_byte rom b a)) entry (rom_byte rom n a)) (sym h) (Holds-single _ entry)

-- RAM and its echo
home_same : (a : ℕ) → is_ram (home_of a) ≡ true → a < 65536 → mapped_at a ≡ mapped_at (home_of a)
unfolding mapped_at
home_same a h lt = grind (arith, nat_tests)

work_at : (a : ℕ) → is_within 0xC000 0xDFFF a ≡ true → mapped_at a ≡ mapped.WorkRam ((a - 0xC000) % 0x2000)
unfolding mapped_at
work_at a h = grind (arith, nat_tests)

abbrev IsRamByte : Mapped → Type 0
IsRamByte (mapped.WorkRam i) = Unit {0}
IsRamByte (mapped.HighRam i) = Unit {0}
IsRamByte _ = ⊥

ram_byte : (a : ℕ) → is_ram a ≡ true → IsRamByte (mapped_at a)
ram_byte a h = choose (is_within 0xC000 0xDFFF a) refl h
  where
    choose : (b : Bool) → is_within 0xC000 0xDFFF a ≡ b → (b || is_within 0xFF80 0xFFFE a) ≡ true → IsRamByte (mapped_at a)
    choose true e t = subst IsRamByte (sym (work_at a e)) tt
    choose false e t = subst IsRamByte (sym (high_at a t)) tt

ram_answer : (k : Mapped) (a : ℕ) (m : View) (free : List ℕ) → IsRamByte k → peek_by k m.storage.work m.storage.high ≡ (answer k m a free).value
ram_answer mapped.Rom a m free h = absurd h
ram_answer mapped.CartridgeRam a m free h = absurd h
ram_answer (mapped.WorkRam i) a m free h = refl
ram_answer (mapped.HighRam i) a m free h = refl
ram_answer mapped.InterruptEnable a m free h = absurd h
ram_answer mapped.Transfer a m free h = absurd h
ram_answer mapped.Hardware a m free h = absurd h

ram_read : (rom : List ℕ) (x : MState) (starting : Bool) (a : ℕ) (free : List ℕ) → is_ram (home_of a) ≡ true → a < 65536
    → peek x.storage (home_of a) ≡ (answer (mapped_at a) (view rom x starting) a free).value
unfolding peek
ram_read rom x starting a free h lt =
    ram_answer (mapped_at (home_of a)) a (view rom x starting) free (ram_byte (home_of a) h)
    ∙ ap (λ k. (answer k (view rom x starting) a free).value) (sym (home_same a h lt))

-- IE
ie_at : (a : ℕ) → (a == 0xFFFF) ≡ true → mapped_at a ≡ mapped.InterruptEnable
unfolding mapped_at
ie_at a h = grind (arith, nat_tests)

-- what is known of a byte stands for what is read
pub Holds-val_at :
    (rom : List ℕ) (s : AbsState) (entry : Activation) (base : ℕ) (x : MState) (starting : Bool) (a : ℕ) (free : List ℕ) → IsRom rom → MeansParts s entry base x → IsVal s.core.ie
    → a < 65536 → slice_index free 0 ≤ 255 → Holds (val_at rom s a) entry (answer (mapped_at a) (view rom x starting) a free).value
unfolding val_at
Holds-val_at rom s entry base x starting a free r m q lt byte =
    choose (nat_lt a 0x8000) (is_ram (home_of a)) (a == 0xFFFF) below (λ e. e) (λ e. e)
  where
    below : nat_lt a 0x8000 ≡ true → a < 0x8000
    below h = grind (arith, nat_tests)

    choose : (low ram ie : Bool) → (low ≡ true → a < 0x8000) → (ram ≡ true → is_ram (home_of a) ≡ true) → (ie ≡ true → (a == 0xFFFF) ≡ true)
        → Holds (if low then rom_val rom a (known_bank rom s.core.ctl a) else if ram then cell_at (home_of a) s.cells else if ie then s.core.ie else any_val) entry
        (answer (mapped_at a) (view rom x starting) a free).value
    choose true ram ie low in_ram at =
        subst (λ k. Holds (rom_val rom a (known_bank rom s.core.ctl a)) entry (answer k (view rom x starting) a free).value) (sym (rom_at a (low refl)))
        (known_rom rom a entry (known_bank rom s.core.ctl a) (shown_bank rom x.storage.banks a) r.bytes
        (known_bank-sound rom s.core.ctl a x.storage.banks r.size (low refl) (within_ctl s.core.ctl entry x.storage.banks m.core.controller)))
    choose false true ie low in_ram at =
        subst (λ n. Holds (cell_at (home_of a) s.cells) entry n) (ram_read rom x starting a free (in_ram refl) lt)
        (Holds-cell s.cells (home_of a) entry x.storage m.memory m.cells)
    choose false false true low in_ram at =
        subst (λ k. Holds s.core.ie entry (answer k (view rom x starting) a free).value) (sym (ie_at a (at refl))) m.core.ie
    choose false false false low in_ram at = any_holds entry _ (read_byte rom s entry base x starting a free r m q byte)

-- an address of one is that one
pub one_address : (span : Span) (a : ℕ) → is_one span ≡ true → IsIn span a → span.first ≡ a
one_address span a h i =
    let same = eqb-true span.first span.last h in
    let low = i.first in
    let high = i.last in
    omega arith

-- an item of RAM, or what is known there else
ram_here : (rom : List ℕ) (x : MState) (starting : Bool) (a : ℕ) (free : List ℕ) → is_ram a ≡ true → peek x.storage a ≡ (answer (mapped_at a) (view rom x starting) a free).value
unfolding peek
ram_here rom x starting a free h = ram_answer (mapped_at a) a (view rom x starting) free (ram_byte a h)

Holds-val_or_item :
    (z : Setting) (rom : List ℕ) (s : AbsState) (entry : Activation) (base : ℕ) (x : MState) (starting : Bool) (a : ℕ) (free : List ℕ) → IsBase z base → IsRom rom → MeansParts s entry base x
    → IsVal s.core.ie → a < 65536 → slice_index free 0 ≤ 255 → Holds (val_or_item z rom s a) entry (answer (mapped_at a) (view rom x starting) a free).value
unfolding val_or_item
Holds-val_or_item z rom s entry base x starting a free right r m q lt byte = choose (is_ram a) refl
  where
    known : Holds (val_at rom s a) entry (answer (mapped_at a) (view rom x starting) a free).value
    known = Holds-val_at rom s entry base x starting a free r m q lt byte

    by_item : is_ram a ≡ true → (o : Option Val) → item_at z s a ≡ o → Holds (item_or o (val_at rom s a)) entry (answer (mapped_at a) (view rom x starting) a free).value
    by_item ram None e = known
    by_item ram (Some v) e = subst (λ n. Holds v entry n) (ram_here rom x starting a free ram) ((IsSoundItem-item_at z s a v e).gives entry base x right m)

    choose : (b : Bool) → is_ram a ≡ b → Holds (item_or (if b then item_at z s a else None) (val_at rom s a)) entry (answer (mapped_at a) (view rom x starting) a free).value
    choose true e = by_item e (item_at z s a) refl
    choose false e = known

-- the least interval that holds another one and a byte
joined-old : (v : Val) (n k : ℕ) (entry : Activation) → Holds v entry k → Holds (joined v n) entry k
joined-old v n k entry h =
    let least = h.least in
    let most = h.most in
    record { least = grind (arith, nat_tests); most = grind (arith, nat_tests); low = refl; origin = λ o e. cc }

joined-new : (v : Val) (n : ℕ) (entry : Activation) → Holds (joined v n) entry n
joined-new v n entry = record { least = grind (arith, nat_tests); most = grind (arith, nat_tests); low = refl; origin = λ o e. cc }

-- bytes of a bank
Holds-table : (rom : List ℕ) (bank a more k : ℕ) (entry : Activation) → k ≤ more → Holds (table rom bank a more) entry (rom_byte rom bank (a + k))
Holds-table rom bank a zero k entry h =
    let same : a ≡ a + k = omega arith in
    subst (λ n. Holds (single (rom_byte rom bank a)) entry (rom_byte rom bank n)) same (Holds-single _ entry)
Holds-table rom bank a (suc more) k entry h = choose (nat_le k more) refl (λ le. Holds-table rom bank a more k entry le)
  where
    choose : (b : Bool) → nat_le k more ≡ b → (k ≤ more → Holds (table rom bank a more) entry (rom_byte rom bank (a + k)))
        → Holds (joined (table rom bank a more) (rom_byte rom bank (a + suc more))) entry (rom_byte rom bank (a + k))
    choose true e before = joined-old (table rom bank a more) _ _ entry (before (grind (arith, nat_tests)))
    choose false e before =
        let last : k ≡ suc more = grind (arith, nat_tests) in
        subst (λ n. Holds (joined (table rom bank a more) (rom_byte rom bank (a + suc more))) entry (rom_byte rom bank (a + n))) (sym last)
        (joined-new (table rom bank a more) (rom_byte rom bank (a + suc more)) entry)

-- an address of a table lies in the half where it begins
pub record IsInTable (span : Span) (a : ℕ) : Type 0 where
  pub half : nat_lt span.first 0x4000 ≡ nat_lt a 0x4000
  pub first : nat_lt span.first 0x8000 ≡ true
  pub here : nat_lt a 0x8000 ≡ true
  pub below : a < 0x8000

pub in_table : (span : Span) (a : ℕ) → is_table span ≡ true → IsIn span a → IsInTable span a
unfolding is_table
in_table span a h i =
    let low = i.first in
    let high = i.last in
    record { half = grind (arith, nat_tests); first = grind (arith, nat_tests); here = grind (arith, nat_tests); below = grind (arith, nat_tests) }

pub known_bank-half : (rom : List ℕ) (c : Ctl) (span : Span) (a : ℕ) → IsInTable span a → known_bank rom c a ≡ known_bank rom c span.first
unfolding known_bank
known_bank-half rom c span a t = rw (t.half, t.first, t.here) refl

Holds-table_by :
    (o : Option ℕ) (rom : List ℕ) (span : Span) (a bank : ℕ) (entry : Activation) → ((i : ℕ) → slice_index rom i ≤ 255) → IsIn span a → IfSome o (λ b. bank ≡ b)
    → Holds (table_by o rom span) entry (rom_byte rom bank a)
Holds-table_by None rom span a bank entry bytes i h = any_holds entry _ (bytes _)
Holds-table_by (Some b) rom span a bank entry bytes i h =
    let low = i.first in
    let high = i.last in
    let there : span.first + (a - span.first) ≡ a = omega arith in
    let held = Holds-table rom b span.first (span.last - span.first) (a - span.first) entry (omega arith) in
    subst (λ n. Holds (table rom b span.first (span.last - span.first)) entry (rom_byte rom n a)) (sym h)
    (subst (λ n. Holds (table rom b span.first (span.last - span.first)) entry (rom_byte rom b n)) there held)

Holds-several :
    (rules : Rules) (rom : List ℕ) (s : AbsState) (span : Span) (entry : Activation) (base : ℕ) (x : MState) (starting : Bool) (a : ℕ) (free : List ℕ) → IsRom rom → MeansParts s entry base x
    → IsVal s.core.ie → IsIn span a → slice_index free 0 ≤ 255 → Holds (several_by rules rom s.core span) entry (answer (mapped_at a) (view rom x starting) a free).value
Holds-several Simple rom s span entry base x starting a free r m q i byte = any_holds entry _ (read_byte rom s entry base x starting a free r m q byte)
Holds-several Extended rom s span entry base x starting a free r m q i byte = choose (is_table span) refl
  where
    within : IsInTable span a → Holds (table_by (known_bank rom s.core.ctl span.first) rom span) entry (answer (mapped_at a) (view rom x starting) a free).value
    within t =
        let shown = known_bank-sound rom s.core.ctl a x.storage.banks r.size t.below (within_ctl s.core.ctl entry x.storage.banks m.core.controller) in
        let same = subst (λ o. IfSome o (λ b. shown_bank rom x.storage.banks a ≡ b)) (known_bank-half rom s.core.ctl span a t) shown in
        subst (λ k. Holds (table_by (known_bank rom s.core.ctl span.first) rom span) entry (answer k (view rom x starting) a free).value) (sym (rom_at a t.below))
        (Holds-table_by (known_bank rom s.core.ctl span.first) rom span a (shown_bank rom x.storage.banks a) entry r.bytes i same)

    choose : (b : Bool) → is_table span ≡ b
        → Holds (if b then table_by (known_bank rom s.core.ctl span.first) rom span else any_val) entry (answer (mapped_at a) (view rom x starting) a free).value
    choose true e = within (in_table span a e i)
    choose false e = any_holds entry _ (read_byte rom s entry base x starting a free r m q byte)

Holds-loaded :
    (z : Setting) (rom : List ℕ) (s : AbsState) (span : Span) (entry : Activation) (base : ℕ) (x : MState) (starting : Bool) (a : ℕ) (free : List ℕ) → IsBase z base → IsRom rom
    → MeansParts s entry base x → IsVal s.core.ie → IsIn span a → a < 65536 → slice_index free 0 ≤ 255
    → Holds (loaded_val z rom s span) entry (answer (mapped_at a) (view rom x starting) a free).value
unfolding loaded_val
Holds-loaded z rom s span entry base x starting a free right r m q i lt byte = choose (is_one span) (λ e. one_address span a e i)
  where
    choose : (one : Bool) → (one ≡ true → span.first ≡ a)
        → Holds (if one then val_or_item z rom s span.first else several_by z.rules rom s.core span) entry (answer (mapped_at a) (view rom x starting) a free).value
    choose true e =
        subst (λ b. Holds (val_or_item z rom s b) entry (answer (mapped_at a) (view rom x starting) a free).value) (sym (e refl))
        (Holds-val_or_item z rom s entry base x starting a free right r m q lt byte)
    choose false e = Holds-several z.rules rom s span entry base x starting a free r m q i byte

-- ---- a load, by its tests

-- between events a bus starts no OAM transfer
pub within-view : (rom : List ℕ) (x : MState) → (within rom x).memory ≡ view rom x false
unfolding within
within-view rom x = refl

pub IsLoaded-loaded_val :
    (z : Setting) (rom : List ℕ) (s : AbsState) (span : Span) (entry : Activation) (base : ℕ) (x : MState) (starting : Bool) (a : ℕ) (free : List ℕ)
    → meets_closed_ram rom s.core span ≡ false → is_limited s.core span ≡ false → IsIn span a → a < 65536 → IsBase z base → MeansParts s entry base x → IsVal s.core.ie → IsRom rom
    → slice_index free 0 ≤ 255 → IsLoaded (view rom x starting) a free (loaded_val z rom s span) entry
IsLoaded-loaded_val z rom s span entry base x starting a free ram limited i lt right m q r byte =
    let answered = sym (read_open (view rom x starting) a free (not_limited s.core entry x span a m.core i limited)) in
    record {
      holds = subst (λ (n : Reading). Holds (loaded_val z rom s span) entry n.value) answered (Holds-loaded z rom s span entry base x starting a free right r m q i lt byte);
      byte = subst (λ (n : Reading). n.value ≤ 255) answered (read_byte rom s entry base x starting a free r m q byte);
      faults = access-faultless rom s.core entry x starting span a m.core i ram limited;
    }

-- a load, by its tests alone
pub IsSoundLoad-loaded_val :
    (z : Setting) (rom : List ℕ) (s : AbsState) (span : Span) → meets_closed_ram rom s.core span ≡ false → is_limited s.core span ≡ false
    → IsSoundLoad z rom s span (loaded_val z rom s span)
IsSoundLoad-loaded_val z rom s span ram limited =
    record { gives = λ entry base x starting a free right r m q i lt byte. IsLoaded-loaded_val z rom s span entry base x starting a free ram limited i lt right m q r byte }

-- ---- a load gives a value

IsVal-any : IsVal any_val
IsVal-any = record { order = omega arith; hi = omega arith; strided = refl }

IsVal-rom : (rom : List ℕ) (a : ℕ) (o : Option ℕ) → ((i : ℕ) → slice_index rom i ≤ 255) → IsVal (rom_val rom a o)
IsVal-rom rom a None bytes = IsVal-any
IsVal-rom rom a (Some bank) bytes =
    let byte : rom_byte rom bank a ≤ 255 = bytes _ in
    record { order = omega arith; hi = omega arith; strided = refl }

pub IsVal-cell : (cells : List Cell) (a : ℕ) → AreVals cells → IsVal (cell_at a cells)
IsVal-cell [] a h = IsVal-any
IsVal-cell (c ∷ cells) a h = choose (c.address == a) (IsVal-cell cells a h.1)
  where
    choose : (b : Bool) → IsVal (cell_at a cells) → IsVal (cond b c.val (cell_at a cells))
    choose true rest = h.0
    choose false rest = rest

pub IsVal-val_at :
    (rom : List ℕ) (s : AbsState) (a : ℕ) → IsVal s.core.ie → AreVals s.cells → ((i : ℕ) → slice_index rom i ≤ 255) → IsVal (val_at rom s a)
unfolding val_at
IsVal-val_at rom s a ie cells bytes = choose (nat_lt a 0x8000) (is_ram (home_of a)) (a == 0xFFFF)
  where
    choose : (low ram enable : Bool)
        → IsVal (if low then rom_val rom a (known_bank rom s.core.ctl a) else if ram then cell_at (home_of a) s.cells else if enable then s.core.ie else any_val)
    choose true ram enable = IsVal-rom rom a (known_bank rom s.core.ctl a) bytes
    choose false true enable = IsVal-cell s.cells (home_of a) cells
    choose false false true = ie
    choose false false false = IsVal-any

IsVal-held : (items : List Val) (i : ℕ) (v : Val) → slice_get items i ≡ Some v → AllByRecursion IsVal items → IsVal v
IsVal-held [] i v e h = absurd (let bad : None ≡ Some v = e in cc)
IsVal-held (u ∷ items) zero v e h = subst IsVal (same u v e) h.0
  where
    same : (u v : Val) → Some u ≡ Some v → u ≡ v
    same u v e = cc
IsVal-held (u ∷ items) (suc i) v e h = IsVal-held items i v e h.1

IsVal-item : (z : Setting) (s : AbsState) (a : ℕ) (o : Option Val) (v : Val) → item_at z s a ≡ o → AllByRecursion IsVal s.items → IsVal v → IsVal (item_or o v)
unfolding item_at
IsVal-item z s a None v e items q = q
IsVal-item z s a (Some item) v e items q = by_base (stack_base z s.core) e
  where
    by_base : (b : Option ℕ) → item_by b s.items a ≡ Some item → IsVal item
    by_base None e = absurd (let bad : None ≡ Some item = e in cc)
    by_base (Some b) e = below b (nat_lt a b) e
      where
        below : (b : ℕ) (lt : Bool) → cond lt (slice_get s.items (b - 1 - a)) None ≡ Some item → IsVal item
        below b true e = IsVal-held s.items _ item e items
        below b false e = absurd (let bad : None ≡ Some item = e in cc)

IsVal-val_or_item :
    (z : Setting) (rom : List ℕ) (s : AbsState) (a : ℕ) → IsVal s.core.ie → AreVals s.cells → AllByRecursion IsVal s.items → ((i : ℕ) → slice_index rom i ≤ 255)
    → IsVal (val_or_item z rom s a)
unfolding val_or_item
IsVal-val_or_item z rom s a ie cells items bytes = choose (is_ram a)
  where
    choose : (b : Bool) → IsVal (item_or (if b then item_at z s a else None) (val_at rom s a))
    choose true = IsVal-item z s a (item_at z s a) (val_at rom s a) refl items (IsVal-val_at rom s a ie cells bytes)
    choose false = IsVal-val_at rom s a ie cells bytes

IsVal-joined : (v : Val) (n : ℕ) → IsVal v → n ≤ 255 → IsVal (joined v n)
IsVal-joined v n q h =
    let order = q.order in
    let hi = q.hi in
    record { order = grind (arith, nat_tests); hi = grind (arith, nat_tests); strided = refl }

IsVal-table : (rom : List ℕ) (bank a more : ℕ) → ((i : ℕ) → slice_index rom i ≤ 255) → IsVal (table rom bank a more)
IsVal-table rom bank a zero bytes = IsVal-rom rom a (Some bank) bytes
IsVal-table rom bank a (suc more) bytes = IsVal-joined (table rom bank a more) _ (IsVal-table rom bank a more bytes) (bytes _)

IsVal-several : (rules : Rules) (rom : List ℕ) (core : Core) (span : Span) → ((i : ℕ) → slice_index rom i ≤ 255) → IsVal (several_by rules rom core span)
IsVal-several Simple rom core span bytes = IsVal-any
IsVal-several Extended rom core span bytes = choose (is_table span)
  where
    by_bank : (o : Option ℕ) → IsVal (table_by o rom span)
    by_bank None = IsVal-any
    by_bank (Some bank) = IsVal-table rom bank span.first (span.last - span.first) bytes

    choose : (b : Bool) → IsVal (if b then table_by (known_bank rom core.ctl span.first) rom span else any_val)
    choose true = by_bank (known_bank rom core.ctl span.first)
    choose false = IsVal-any

pub IsVal-loaded_val :
    (z : Setting) (rom : List ℕ) (s : AbsState) (span : Span) → IsVal s.core.ie → AreVals s.cells → AllByRecursion IsVal s.items → ((i : ℕ) → slice_index rom i ≤ 255)
    → IsVal (loaded_val z rom s span)
unfolding loaded_val
IsVal-loaded_val z rom s span ie cells items bytes = choose (is_one span)
  where
    choose : (one : Bool) → IsVal (if one then val_or_item z rom s span.first else several_by z.rules rom s.core span)
    choose true = IsVal-val_or_item z rom s span.first ie cells items bytes
    choose false = IsVal-several z.rules rom s.core span bytes

-- ---- a load, by its answer

ok_same : {X E : Type 0} (x y : X) (r : Result X E) → r ≡ Ok x → r ≡ Ok y → x ≡ y
ok_same x y r p q = cc

pub taken : {X : Type 0} (o : Option Reason) (x y : X) → refused_or o x ≡ Ok y → (o ≡ None) × (x ≡ y)
taken None x y h = (refl, ok_same x y (refused_or None x) refl h)
taken (Some e) x y h = absurd (let bad : Err e ≡ Ok y = h in cc)

pub not_refused : {X : Type 0} (b : Bool) (x : X) (o : Option X) → cond b (Some x) o ≡ None → (b ≡ false) × (o ≡ None)
not_refused true x o h = absurd (let bad : Some x ≡ None = h in cc)
not_refused false x o h = (refl, h)

pub IsSoundLoad-load : (z : Setting) (rom : List ℕ) (s : AbsState) (span : Span) (v : Val) → load z rom s span ≡ Ok v → IsSoundLoad z rom s span v
unfolding load load_reason
IsSoundLoad-load z rom s span v h =
    let t = taken _ _ v h in
    let ram = not_refused _ _ _ t.0 in
    let limited = not_refused _ _ _ ram.1 in
    subst (λ w. IsSoundLoad z rom s span w) t.1 (IsSoundLoad-loaded_val z rom s span ram.0 limited.0)

-- what holds of each answer that a call may give
pub if_ok : {X : Type 0} (r : Result X Reason) (P : X → Type 0) → ((x : X) → r ≡ Ok x → P x) → IfOk r P
if_ok (Ok x) P h = h x refl
if_ok (Err e) P h = tt

pub load_sound : (z : Setting) (rom : List ℕ) (s : AbsState) (span : Span) → IfOk (load z rom s span) (λ v. IsSoundLoad z rom s span v)
load_sound z rom s span = if_ok (load z rom s span) (λ v. IsSoundLoad z rom s span v) (λ v h. IsSoundLoad-load z rom s span v h)

pub ruleset load_laws = (load_sound)

pub load_inhabited :
    (z : Setting) (rom : List ℕ) (s : AbsState) (span : Span) (r : Result Val Reason) → r ≡ load z rom s span
    → IsVal s.core.ie → AreVals s.cells → AllByRecursion IsVal s.items → ((i : ℕ) → slice_index rom i ≤ 255) → IfOk r IsVal
unfolding load
load_inhabited z rom s span r e ie cells items bytes =
    subst (λ k. IfOk k IsVal) (sym e)
    (if_ok (load z rom s span) IsVal (λ v h. subst IsVal (taken (load_reason rom s.core span) _ v h).1 (IsVal-loaded_val z rom s span ie cells items bytes)))

-- a cartridge whose bytes are bytes
pub IsRom-cartridge : (rom : List ℕ) → IsCartridge rom → ((i : ℕ) → slice_index rom i ≤ 255) → IsRom rom
IsRom-cartridge rom c bytes =
    record {
      size = record { exponent = slice_index rom 0x148; small = rom_size-cartridge rom c; power = rom_banks-cartridge rom c };
      bytes = bytes;
    }
