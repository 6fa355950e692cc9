-- What covers an abstract state stands for its machine states, part by part.
use Rattle.std.proofs.Common.{◌≡◌, ℕ, suc, length, ◌+◌, ◌-◌, ◌%◌, ◌≤◌, Bool, true, false, ◌==◌, if◌then◌else◌, cond, List, [], ◌∷◌, Option, Some, None, refl, sym, ◌∙◌, ap, subst, arith}
use Rattle.std.proofs.lemmas.Bool.{and_parts, eqb-true, leb-true}
use Rattle.std.proofs.lemmas.Bool.Decides.{nat_tests}
use Rattle.std.specs.List.{AllByRecursion, list_all}
use Rattle.gb_ops.specs.declared.op.Register.{Register}
use Rattle.gb_ops.specs.declared.op.Register.TheVariants.{A, B, C, D, E, H, L}
use Rattle.gb_ops.specs.declared.registers.Registers.{Registers}
use Rattle.gb_ops.specs.declared.registers.Flags.{Flags}
use Rattle.gb_ops.specs.declared.registers.Ime.{Ime}
use Rattle.gb_ops.specs.declared.registers.Ime.TheVariants.{Off, Pending, On}
use Rattle.gb_ops.specs.declared.machine.Banks.{Banks}
use Rattle.gb_ops.specs.declared.machine.Kind.{Kind}
use Rattle.gb_ops.specs.declared.machine.Kind.TheVariants as kind
use Rattle.gb_ops.specs.Registers.{get}
use Rattle.gb_ops.specs.Memory.{Storage}
use Rattle.gb_ops.specs.Play.{MState}
use Rattle.gb_domain.specs.declared.types.Origin.{Origin}
use Rattle.gb_domain.specs.declared.types.Origin.TheVariants as origin
use Rattle.gb_domain.specs.declared.types.Val.{Val}
use Rattle.gb_domain.specs.declared.types.May.{May}
use Rattle.gb_domain.specs.declared.types.Flg.{Flg}
use Rattle.gb_domain.specs.declared.types.ImeSet.{ImeSet}
use Rattle.gb_domain.specs.declared.types.Ctl.{Ctl}
use Rattle.gb_domain.specs.declared.types.KeptBanks.{KeptBanks}
use Rattle.gb_domain.specs.declared.types.Cell.{Cell}
use Rattle.gb_domain.specs.declared.types.Core.{Core}
use Rattle.gb_domain.specs.Types.{AbsState}
use Rattle.gb_domain.proofs.ValueLaws.{has_covered}
use Rattle.gb_abs.specs.Storage.{peek}
use Rattle.gb_abs.specs.Meaning.{Activation, Holds, HoldsFlags, KeepsBanks, HoldsLowBank, HoldsController, MeansCore, AreItems, MeansParts, IsMemory, ime_may_be, is_located}
use Rattle.gb_abs.specs.Covering.{origin_number, covers_origin, covers_val, covers_may, covers_flags, covers_ime, covers_kept, covers_low_bank, covers_controller, covers_registers, covers_core, covers_items, cell_at, covers_cells, covers_parts, implied}
use Rattle.gb_abs.specs.Sound.{IsPartOf}
use Rattle.gb_vals.specs.Vals.{any_val}
use Rattle.gb_abs.proofs.LocationLaws.{located-set, located-none, is_located-of}
use Rattle.gb_vals.specs.Meaning.{may_be}

-- ---- tests and what they say

pub implied_use : (a b : Bool) → implied a b ≡ true → a ≡ true → b ≡ true
implied_use true b h p = h
implied_use false b h p = cc

-- ---- origins

origin_at : ℕ → Origin
origin_at n =
    if n == 1 then origin.A
    else if n == 2 then origin.F
    else if n == 3 then origin.B
    else if n == 4 then origin.C
    else if n == 5 then origin.D
    else if n == 6 then origin.E
    else if n == 7 then origin.H
    else if n == 8 then origin.L
    else if n == 9 then origin.Ie
    else if n == 10 then origin.ReturnHigh
    else if n == 11 then origin.ReturnLow
    else if n == 28 then origin.MarkHigh
    else if n == 29 then origin.MarkLow
    else origin.Kept (n - 30)

origin_at-number : (o : Origin) → origin_at (origin_number o) ≡ o
unfolding origin_at
origin_at-number origin.A = refl
origin_at-number origin.F = refl
origin_at-number origin.B = refl
origin_at-number origin.C = refl
origin_at-number origin.D = refl
origin_at-number origin.E = refl
origin_at-number origin.H = refl
origin_at-number origin.L = refl
origin_at-number origin.Ie = refl
origin_at-number origin.ReturnHigh = refl
origin_at-number origin.ReturnLow = refl
origin_at-number (origin.Kept i) = grind (arith, nat_tests)
origin_at-number origin.MarkHigh = refl
origin_at-number origin.MarkLow = refl

pub same_origin : (s t : Origin) → (origin_number s == origin_number t) ≡ true → s ≡ t
same_origin s t h = sym (origin_at-number s) ∙ ap origin_at (eqb-true (origin_number s) (origin_number t) h) ∙ origin_at-number t

pub origin_from : (from to : Option Origin) (o : Origin) → covers_origin from to ≡ true → to ≡ Some o → from ≡ Some o
origin_from from None o h e = cc
origin_from None (Some to) o h e = cc
origin_from (Some from) (Some to) o h e = ap Some (same_origin from to h) ∙ e

-- ---- the parts

pub Holds-covered : (s t : Val) (entry : Activation) (x : ℕ) → covers_val s t ≡ true → Holds s entry x → Holds t entry x
unfolding covers_val
Holds-covered s t entry x h m =
    let p = and_parts _ _ h in
    let q = and_parts _ _ p.0 in
    let bounds = and_parts _ _ q.0 in
    let lo : t.lo ≤ s.lo = leb-true _ _ bounds.0 in
    let hi : s.hi ≤ t.hi = leb-true _ _ bounds.1 in
    record {
      least = let a = m.least in omega arith;
      most = let a = m.most in omega arith;
      low = has_covered s t x q.1 m.least m.most m.low;
      origin = λ o e. m.origin o (origin_from s.origin t.origin o p.1 e);
    }

may_covered : (s t : May) (b : Bool) → covers_may s t ≡ true → may_be s b ≡ true → may_be t b ≡ true
may_covered s t true h m = implied_use _ _ (and_parts _ _ h).0 m
may_covered s t false h m = implied_use _ _ (and_parts _ _ h).1 m

flags_covered : (s t : Flg) (entry : Activation) (x : Flags) → covers_flags s t ≡ true → HoldsFlags s entry x → HoldsFlags t entry x
unfolding covers_flags
flags_covered s t entry x h m =
    let p = and_parts _ _ h in
    let c = and_parts _ _ p.0 in
    let f = and_parts _ _ c.0 in
    let n = and_parts _ _ f.0 in
    record {
      zero = may_covered s.zero t.zero x.zero n.0 m.zero;
      subtract = may_covered s.subtract t.subtract x.subtract n.1 m.subtract;
      half_carry = may_covered s.half_carry t.half_carry x.half_carry f.1 m.half_carry;
      carry = may_covered s.carry t.carry x.carry c.1 m.carry;
      own = λ e. m.own (implied_use _ _ p.1 e);
    }

ime_covered : (s t : ImeSet) (i : Ime) → covers_ime s t ≡ true → ime_may_be s i ≡ true → ime_may_be t i ≡ true
unfolding covers_ime
ime_covered s t Off h m = implied_use _ _ (and_parts _ _ (and_parts _ _ h).0).0 m
ime_covered s t Pending h m = implied_use _ _ (and_parts _ _ (and_parts _ _ h).0).1 m
ime_covered s t On h m = implied_use _ _ (and_parts _ _ h).1 m

kept_covered : (k : Kind) (s t : KeptBanks) (before x : Banks) → covers_kept s t ≡ true → KeepsBanks k s before x → KeepsBanks k t before x
unfolding covers_kept
kept_covered k s t before x h m =
    let mode = and_parts _ _ h in
    let gate = and_parts _ _ mode.0 in
    let second = and_parts _ _ gate.0 in
    let bank = and_parts _ _ second.0 in
    record {
      bank = λ e. m.bank (implied_use _ _ bank.0 e);
      second = λ e. m.second (implied_use _ _ bank.1 e);
      gate = λ e. m.gate (implied_use _ _ second.1 e);
      mode = λ e. m.mode (implied_use _ _ gate.1 e);
      high_bank = λ e. m.high_bank (implied_use _ _ mode.1 e);
    }

low_covered : (k : Kind) (s t : Ctl) (bank : ℕ) → covers_low_bank k s t ≡ true → HoldsLowBank k s bank → HoldsLowBank k t bank
unfolding covers_low_bank
low_covered kind.Rom s t bank h m = tt
low_covered kind.Mbc1 s t bank h m = tt
low_covered kind.Mbc3 s t bank h m = tt
low_covered kind.Mbc5 s t bank h m =
    let both = and_parts _ _ h in
    let least : t.bank_lo % 256 ≤ s.bank_lo % 256 = leb-true _ _ both.0 in
    let most : s.bank_hi % 256 ≤ t.bank_hi % 256 = leb-true _ _ both.1 in
    let lo = m.0 in
    let hi = m.1 in
    (omega arith, omega arith)

controller_covered : (k : Kind) (s t : Ctl) (entry : Activation) (x : Banks) → entry.program.kind ≡ k → covers_controller k s t ≡ true → HoldsController s entry x → HoldsController t entry x
unfolding covers_controller
controller_covered k s t entry x is h m =
    let kept = and_parts _ _ h in
    let mode = and_parts _ _ kept.0 in
    let gate = and_parts _ _ mode.0 in
    let hi = and_parts _ _ gate.0 in
    let lo = and_parts _ _ hi.0 in
    let bank = and_parts _ _ lo.0 in
    let low = and_parts _ _ bank.0 in
    let f1 : t.bank_lo ≤ s.bank_lo = leb-true _ _ low.1 in
    let f2 : s.bank_hi ≤ t.bank_hi = leb-true _ _ bank.1 in
    let f3 : t.second_lo ≤ s.second_lo = leb-true _ _ lo.1 in
    let f4 : s.second_hi ≤ t.second_hi = leb-true _ _ hi.1 in
    record {
      bank_least = let a = m.bank_least in omega arith;
      bank_most = let a = m.bank_most in omega arith;
      low_bank = low_covered entry.program.kind s t x.bank (subst (λ q. covers_low_bank q s t ≡ true) (sym is) low.0) m.low_bank;
      second_least = let a = m.second_least in omega arith;
      second_most = let a = m.second_most in omega arith;
      gate = may_covered s.gate t.gate x.gate gate.1 m.gate;
      mode = may_covered s.mode t.mode x.mode mode.1 m.mode;
      kept = kept_covered entry.program.kind s.kept t.kept _ x kept.1 m.kept;
    }

pub register_covered : (s t : Registers Val) (r : Register) → covers_registers s t ≡ true → covers_val (get r s) (get r t) ≡ true
unfolding covers_registers
register_covered s t r h =
    let l = and_parts _ _ h in
    let h' = and_parts _ _ l.0 in
    let e = and_parts _ _ h'.0 in
    let d = and_parts _ _ e.0 in
    let c = and_parts _ _ d.0 in
    let b = and_parts _ _ c.0 in
    elim r as (λ q. covers_val (get q s) (get q t) ≡ true) [ A ↦ b.0 | B ↦ b.1 | C ↦ c.1 | D ↦ d.1 | E ↦ e.1 | H ↦ h'.1 | L ↦ l.1 ]

core_covered : (k : Kind) (s t : Core) (entry : Activation) (x : MState) → entry.program.kind ≡ k → covers_core k s t ≡ true → MeansCore s entry x → MeansCore t entry x
unfolding covers_core
core_covered k s t entry x is h m =
    let stack = and_parts _ _ h in
    let bound = and_parts _ _ stack.0 in
    let controller = and_parts _ _ bound.0 in
    let ime = and_parts _ _ controller.0 in
    let ie = and_parts _ _ ime.0 in
    let flags = and_parts _ _ ie.0 in
    let low : s.bound ≤ t.bound = leb-true _ _ bound.1 in
    record {
      registers = λ r. Holds-covered _ _ _ _ (register_covered s.registers t.registers r flags.0) (m.registers r);
      flags = flags_covered s.flags t.flags entry x.processor.flags flags.1 m.flags;
      ie = Holds-covered _ _ _ _ ie.1 m.ie;
      ime = ime_covered s.ime t.ime x.processor.ime ime.1 m.ime;
      controller = controller_covered k s.ctl t.ctl entry x.storage.banks is controller.1 m.controller;
      count = let a = m.count in omega arith;
      locked = m.locked;
      stopped = m.stopped;
    }

stack_covered : (k : Kind) (s t : Core) → covers_core k s t ≡ true → t.stack_set ≡ true → s.stack_set ≡ true
unfolding covers_core
stack_covered k s t h e =
    let stack = and_parts _ _ h in
    implied_use _ _ stack.1 e

-- ---- items and cells

items_covered : (ss ts : List Val) (entry : Activation) (top : ℕ) (m : Storage) → covers_items ss ts ≡ true → AreItems ss entry top m → AreItems ts entry top m
items_covered [] [] entry top m h a = tt
items_covered [] (t ∷ ts) entry top m h a = cc
items_covered (s ∷ ss) [] entry top m h a = cc
items_covered (s ∷ ss) (t ∷ ts) entry top m h a =
    let p = and_parts _ _ h in
    (Holds-covered _ _ _ _ p.0 a.0, items_covered ss ts entry (top - 1) m p.1 a.1)

abbrev pub AreCells : List Cell → Activation → Storage → Type 0
AreCells cells entry m = AllByRecursion (λ c. Holds c.val entry (peek m c.address)) cells

pub Holds-any : (entry : Activation) (x : ℕ) → x ≤ 255 → Holds any_val entry x
Holds-any entry x h = record { least = omega arith; most = h; low = refl; origin = λ o e. cc }

-- what is known of a byte holds of it
pub Holds-cell : (cells : List Cell) (a : ℕ) (entry : Activation) (m : Storage) → IsMemory m → AreCells cells entry m → Holds (cell_at a cells) entry (peek m a)
Holds-cell [] a entry m k h = Holds-any entry _ (k.bytes a)
Holds-cell (c ∷ cs) a entry m k h =
    choose (c.address == a) refl (λ e. subst (λ n. Holds c.val entry (peek m n)) (eqb-true c.address a e) h.0) (Holds-cell cs a entry m k h.1)
  where
    choose : (b : Bool) → (c.address == a) ≡ b → ((c.address == a) ≡ true → Holds c.val entry (peek m a)) → Holds (cell_at a cs) entry (peek m a) → Holds (cond b c.val (cell_at a cs)) entry (peek m a)
    choose true e here rest = here e
    choose false e here rest = rest

cells_covered : (ss ts : List Cell) (entry : Activation) (m : Storage) → IsMemory m → list_all (λ c. covers_val (cell_at c.address ss) c.val) ts ≡ true → AreCells ss entry m → AreCells ts entry m
cells_covered ss [] entry m k h a = tt
cells_covered ss (t ∷ ts) entry m k h a =
    let p = and_parts _ _ h in
    (Holds-covered _ _ _ _ p.0 (Holds-cell ss t.address entry m k a), cells_covered ss ts entry m k p.1 a)

-- what covers an abstract state stands for each of its machine states
pub MeansParts-covered : (k : Kind) (s t : AbsState) (entry : Activation) (base : ℕ) (x : MState) → entry.program.kind ≡ k → covers_parts k s t ≡ true
    → (t.summary.aside ≡ None → s.summary.aside ≡ None) → MeansParts s entry base x → MeansParts t entry base x
unfolding covers_parts covers_cells
MeansParts-covered k s t entry base x is h aside m =
    let cells = and_parts _ _ h in
    let items = and_parts _ _ cells.0 in
    record {
      core = core_covered k s.core t.core entry x is items.0 m.core;
      memory = m.memory;
      sp = m.sp;
      stack = λ e. ap (λ n. x.processor.sp + n) (sym (lengths s.items t.items items.1)) ∙ m.stack (located e (stack_covered k s.core t.core items.0));
      items = items_covered s.items t.items entry base x.storage items.1 m.items;
      cells = cells_covered s.cells t.cells entry x.storage m.memory cells.1 m.cells;
    }
  where
    located : is_located t ≡ true → (t.core.stack_set ≡ true → s.core.stack_set ≡ true) → is_located s ≡ true
    located e set =
        is_located-of s.summary.aside s.core.stack_set (aside (located-none t.summary.aside t.core.stack_set e)) (set (located-set t.summary.aside t.core.stack_set e))

    lengths : (ss ts : List Val) → covers_items ss ts ≡ true → length ss ≡ length ts
    lengths [] [] h = refl
    lengths [] (t ∷ ts) h = cc
    lengths (s ∷ ss) [] h = cc
    lengths (s ∷ ss) (t ∷ ts) h = ap suc (lengths ss ts (and_parts _ _ h).1)

pub covers_parts_sound : (k : Kind) (s t : AbsState) (o : Bool) → o ≡ covers_parts k s t → o ≡ true → IsPartOf k s t
covers_parts_sound k s t o e h = record { gives = λ entry base x is aside m. MeansParts-covered k s t entry base x is (sym e ∙ h) aside m }
