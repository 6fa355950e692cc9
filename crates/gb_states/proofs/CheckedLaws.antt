-- What is read again is what was checked: values, cores and lists, by the bytes that spell them in any version.
use Rattle.std.proofs.Common.{◌≡◌, ℕ, ◌+◌, ◌*◌, ◌/◌, ◌%◌, ◌≤◌, Bool, true, false, ◌&&◌, ◌==◌, List, [], ◌∷◌, ◌++◌, length, Option, Some, None, refl, sym, ap, ◌∙◌, length-append, arith}
use Rattle.std.specs.List.{AllByRecursion, flat_map, list_all}
use Rattle.std.proofs.lemmas.List.Concat.{flat_map-cons}
use Rattle.gb_ops.specs.declared.machine.Region.{Region}
use Rattle.gb_ops.specs.declared.op.Register.{Register}
use Rattle.gb_ops.specs.declared.op.Register.TheVariants.{A, B, C, D, E, H, L}
use Rattle.gb_ops.specs.declared.registers.Registers.{Registers}
use Rattle.gb_ops.specs.Registers.{get}
use Rattle.gb_domain.specs.declared.types.Origin.{Origin}
use Rattle.gb_domain.specs.declared.types.Origin.TheVariants as origin
use Rattle.gb_domain.specs.declared.types.May.{May}
use Rattle.gb_domain.specs.declared.types.Flg.{Flg}
use Rattle.gb_domain.specs.declared.types.ImeSet.{ImeSet}
use Rattle.gb_domain.specs.declared.types.KeptBanks.{KeptBanks}
use Rattle.gb_domain.specs.declared.types.Val.{Val}
use Rattle.gb_domain.specs.declared.types.Ctl.{Ctl}
use Rattle.gb_domain.specs.declared.types.Core.{Core}
use Rattle.gb_domain.specs.declared.types.Cell.{Cell}
use Rattle.gb_domain.specs.declared.rules.Rules.{Rules}
use Rattle.gb_domain.specs.Rules.{IsChain, after_cell}
use Rattle.gb_domain.specs.Types.{are_all_kept, all_or_none}
use Rattle.gb_fields.specs.Reading.{word_of}
use Rattle.gb_states.specs.Rules.{is_declared_origin, may_be_of, is_sayable, are_sayable, is_all_or_none, is_core_sayable, is_cell_sayable}
use Rattle.gb_states.specs.Reading.{to_may, to_flg}
use Rattle.gb_states.specs.WholeRules.{is_origin_in, IsValIn, IsCoreIn, IsCellIn}
use Rattle.gb_states.specs.WholeReading.{to_val}
use Rattle.gb_states.specs.Checked.{flg_in, kept_in, core_in, test_in, listed_items, listed_cells}
use Rattle.gb_states.specs.Spelling as simple
use Rattle.gb_states.specs.WholeSpelling as spelled
use Rattle.gb_states.proofs.FieldLaws.{and_both, same, Flags, number_of, not-declared, of-flag, may-number, ime-number, flags-number, kept-again, own-again}
use Rattle.gb_states.proofs.WholeLaws.{tagged-again, strided_few, banks-again}

word-again : (w : ℕ) → w % 256 + 256 * (w / 256) ≡ w
word-again w = omega arith

-- ---- values

-- An origin that versions 1 to 3 have a number for has the same one in version 4.
older-number : (o : Option Origin) → is_declared_origin o ≡ false → simple.origin_number o ≡ spelled.origin_number o
older-number None h = refl
older-number (Some origin.A) h = refl
older-number (Some origin.F) h = refl
older-number (Some origin.B) h = refl
older-number (Some origin.C) h = refl
older-number (Some origin.D) h = refl
older-number (Some origin.E) h = refl
older-number (Some origin.H) h = refl
older-number (Some origin.L) h = refl
older-number (Some origin.Ie) h = refl
older-number (Some origin.ReturnHigh) h = refl
older-number (Some origin.ReturnLow) h = refl
older-number (Some (origin.Kept i)) h = absurd cc
older-number (Some origin.MarkHigh) h = absurd cc
older-number (Some origin.MarkLow) h = absurd cc

-- It is no byte that a procedure names.
older-origin : (o : Option Origin) → is_declared_origin o ≡ false → is_origin_in 0 o ≡ true
older-origin None h = refl
older-origin (Some origin.A) h = refl
older-origin (Some origin.F) h = refl
older-origin (Some origin.B) h = refl
older-origin (Some origin.C) h = refl
older-origin (Some origin.D) h = refl
older-origin (Some origin.E) h = refl
older-origin (Some origin.H) h = refl
older-origin (Some origin.L) h = refl
older-origin (Some origin.Ie) h = refl
older-origin (Some origin.ReturnHigh) h = refl
older-origin (Some origin.ReturnLow) h = refl
older-origin (Some (origin.Kept i)) h = absurd cc
older-origin (Some origin.MarkHigh) h = absurd cc
older-origin (Some origin.MarkLow) h = absurd cc

-- The value is read again by its bytes in version 4.
abbrev pub IsAgain : Val → Type 0
IsAgain v = to_val ((v.lo, v.hi), spelled.tag v) ≡ v

-- What versions 1 to 3 can say has the same bytes in all versions.
pub older-val : (rules : Rules) (v : Val) → is_sayable rules v ≡ true → simple.val v ≡ spelled.val v
unfolding simple.val spelled.val
older-val rules v h =
    let s = and_both (may_be_of rules v.origin) (v.low_bits == 0) h in
    let zero : v.low_bits ≡ 0 = same v.low_bits 0 s.1 in
    let number : simple.origin_number v.origin ≡ spelled.origin_number v.origin = older-number v.origin (not-declared rules v.origin s.0) in
    let tag : simple.origin_number v.origin ≡ 32 * v.low_bits + spelled.origin_number v.origin = omega (arith, zero, number) in
    ap (λ (n : ℕ). v.lo ∷ v.hi ∷ n ∷ []) tag

pub older-again : (rules : Rules) (v : Val) → is_sayable rules v ≡ true → IsAgain v
older-again rules v h =
    let s = and_both (may_be_of rules v.origin) (v.low_bits == 0) h in
    let zero : v.low_bits ≡ 0 = same v.low_bits 0 s.1 in
    tagged-again 0 v (omega arith) (omega (arith, zero)) (older-origin v.origin (not-declared rules v.origin s.0))

pub fourth-again : (kept : ℕ) (v : Val) → kept ≤ 16 → IsValIn kept v → IsAgain v
fourth-again kept v few h = tagged-again kept v few (strided_few v h.val.strided) h.origin

-- ---- cores

-- a core and its test, by a number for what is kept
abbrev pub core_by : (KeptBanks → ℕ) → Core → Option ℕ → List ℕ
core_by number c t = simple.core_by (simple.ctl_by number) spelled.val (simple.vals_by spelled.val) c t

-- Each value of the core is read again.
abbrev pub AreAgain : Core → Type 0
AreAgain c = IsAgain c.ie × ((r : Register) → IsAgain (get r c.registers))

vals-same : (rules : Rules) (r : Registers Val) → are_sayable rules r ≡ true → (simple.vals_by simple.val r ≡ simple.vals_by spelled.val r) × ((q : Register) → IsAgain (get q r))
vals-same rules r h =
    let p = and_both (is_sayable rules r.a) (is_sayable rules r.b && (is_sayable rules r.c && (is_sayable rules r.d && (is_sayable rules r.e && (is_sayable rules r.h && is_sayable rules r.l))))) h in
    let q = and_both (is_sayable rules r.b) (is_sayable rules r.c && (is_sayable rules r.d && (is_sayable rules r.e && (is_sayable rules r.h && is_sayable rules r.l)))) p.1 in
    let s = and_both (is_sayable rules r.c) (is_sayable rules r.d && (is_sayable rules r.e && (is_sayable rules r.h && is_sayable rules r.l))) q.1 in
    let u = and_both (is_sayable rules r.d) (is_sayable rules r.e && (is_sayable rules r.h && is_sayable rules r.l)) s.1 in
    let v = and_both (is_sayable rules r.e) (is_sayable rules r.h && is_sayable rules r.l) u.1 in
    let w = and_both (is_sayable rules r.h) (is_sayable rules r.l) v.1 in
    (rw (older-val rules r.a p.0, older-val rules r.b q.0, older-val rules r.c s.0, older-val rules r.d u.0, older-val rules r.e v.0, older-val rules r.h w.0, older-val rules r.l w.1) refl, each p.0 q.0 s.0 u.0 v.0 w.0 w.1)
  where
    each : is_sayable rules r.a ≡ true → is_sayable rules r.b ≡ true → is_sayable rules r.c ≡ true → is_sayable rules r.d ≡ true → is_sayable rules r.e ≡ true → is_sayable rules r.h ≡ true → is_sayable rules r.l ≡ true → (q : Register) → IsAgain (get q r)
    each a b c d e h l A = older-again rules r.a a
    each a b c d e h l B = older-again rules r.b b
    each a b c d e h l C = older-again rules r.c c
    each a b c d e h l D = older-again rules r.d d
    each a b c d e h l E = older-again rules r.e e
    each a b c d e h l H = older-again rules r.h h
    each a b c d e h l L = older-again rules r.l l

core-parts : (rules : Rules) (c : Core) → is_core_sayable rules c ≡ true → (is_all_or_none c.ctl.kept ≡ true) × ((is_sayable rules c.ie ≡ true) × (are_sayable rules c.registers ≡ true))
core-parts rules c h =
    let p = and_both (is_all_or_none c.ctl.kept) (is_sayable rules c.ie && are_sayable rules c.registers) h in
    (p.0, and_both (is_sayable rules c.ie) (are_sayable rules c.registers) p.1)

pub older-core : (rules : Rules) (c : Core) (t : Option ℕ) → is_core_sayable rules c ≡ true → simple.core c t ≡ core_by simple.all_number c t
unfolding simple.core simple.ctl simple.vals
older-core rules c t h =
    let p = core-parts rules c h in
    rw (older-val rules c.ie p.1.0, (vals-same rules c.registers p.1.1).0) refl

pub older-values : (rules : Rules) (c : Core) → is_core_sayable rules c ≡ true → AreAgain c
older-values rules c h =
    let p = core-parts rules c h in
    (older-again rules c.ie p.1.0, (vals-same rules c.registers p.1.1).1)

-- In versions 1 to 3 all is kept, or nothing.
pub older-kept : (rules : Rules) (c : Core) → is_core_sayable rules c ≡ true → kept_in false (simple.all_number c.ctl.kept) ≡ c.ctl.kept
older-kept rules c h = ap (λ (b : Bool). all_or_none b) (of-flag (are_all_kept c.ctl.kept)) ∙ kept-again c.ctl.kept (core-parts rules c h).0

pub fourth-core : (c : Core) (t : Option ℕ) → spelled.core c t ≡ core_by spelled.kept_number c t
unfolding spelled.core spelled.ctl spelled.vals
fourth-core c t = refl

pub fourth-values : (kept : ℕ) (c : Core) → kept ≤ 16 → IsCoreIn kept c → AreAgain c
fourth-values kept c few h = (fourth-again kept c.ie few h.ie, λ r. fourth-again kept (get r c.registers) few (h.registers r))

pub fourth-kept : (c : Core) → kept_in true (spelled.kept_number c.ctl.kept) ≡ c.ctl.kept
fourth-kept c = (banks-again c.ctl.kept).0

make_ctl : (a a2 b b2 c d : ℕ) (g g2 m m2 : May) (k k2 : KeptBanks) → a ≡ a2 → b ≡ b2 → g ≡ g2 → m ≡ m2 → k ≡ k2
    → (let x : Ctl = record { bank_lo = a; bank_hi = b; second_lo = c; second_hi = d; gate = g; mode = m; kept = k } in x) ≡ record { bank_lo = a2; bank_hi = b2; second_lo = c; second_hi = d; gate = g2; mode = m2; kept = k2 }
make_ctl a a2 b b2 c d g g2 m m2 k k2 ea eb eg em ek = rw (ea, eb, eg, em, ek) refl

ctl-again : (fourth : Bool) (number : KeptBanks → ℕ) (c : Ctl) → kept_in fourth (number c.kept) ≡ c.kept
    → (let x : Ctl = record { bank_lo = word_of (c.bank_lo % 256, c.bank_lo / 256); bank_hi = word_of (c.bank_hi % 256, c.bank_hi / 256); second_lo = c.second_lo; second_hi = c.second_hi; gate = to_may (simple.may_number c.gate); mode = to_may (simple.may_number c.mode); kept = kept_in fourth (number c.kept) } in x) ≡ c
ctl-again fourth number c kept = make_ctl _ c.bank_lo _ c.bank_hi c.second_lo c.second_hi _ c.gate _ c.mode _ c.kept (word-again c.bank_lo) (word-again c.bank_hi) (may-number c.gate) (may-number c.mode) kept

make_flg : (p q : Flags) (o u : Bool) → p ≡ q → o ≡ u → to_flg (p, o) ≡ to_flg (q, u)
make_flg p q o u e f = rw (e, f) refl

flg-again : (f : Flg) → flg_in (number_of (f.zero, (f.subtract, (f.half_carry, f.carry)))) (simple.own_number f.is_own) ≡ f
flg-again f = make_flg _ (f.zero, (f.subtract, (f.half_carry, f.carry))) _ f.is_own (flags-number (f.zero, (f.subtract, (f.half_carry, f.carry)))) (own-again f.is_own)

make_vals : (a b c d e h l a2 b2 c2 d2 e2 h2 l2 : Val) → a ≡ a2 → b ≡ b2 → c ≡ c2 → d ≡ d2 → e ≡ e2 → h ≡ h2 → l ≡ l2
    → (let r : Registers Val = record { a = a; b = b; c = c; d = d; e = e; h = h; l = l } in r) ≡ record { a = a2; b = b2; c = c2; d = d2; e = e2; h = h2; l = l2 }
make_vals a b c d e h l a2 b2 c2 d2 e2 h2 l2 ea eb ec ed ee eh el = rw (ea, eb, ec, ed, ee, eh, el) refl

make_core : (i i2 : ImeSet) (b : ℕ) (s s2 : Bool) (k k2 : Ctl) (f f2 : Flg) (v v2 : Val) (r r2 : Registers Val) → i ≡ i2 → s ≡ s2 → k ≡ k2 → f ≡ f2 → v ≡ v2 → r ≡ r2
    → (let x : Core = record { ime = i; bound = b; stack_set = s; ctl = k; flags = f; ie = v; registers = r } in x) ≡ record { ime = i2; bound = b; stack_set = s2; ctl = k2; flags = f2; ie = v2; registers = r2 }
make_core i i2 b s s2 k k2 f f2 v v2 r r2 ei es ek ef ev er = rw (ei, es, ek, ef, ev, er) refl

abbrev again : Val → Val
again v = to_val ((v.lo, v.hi), spelled.tag v)

-- the core that stands at the front of bytes
pub core-again : (fourth : Bool) (number : KeptBanks → ℕ) (c : Core) (t : Option ℕ) (rest : List ℕ) → kept_in fourth (number c.ctl.kept) ≡ c.ctl.kept → AreAgain c → core_in fourth (core_by number c t ++ rest) ≡ c
unfolding simple.flg spelled.val
core-again fourth number c t rest kept are = by t
  where
    vals : (let r : Registers Val = record { a = again c.registers.a; b = again c.registers.b; c = again c.registers.c; d = again c.registers.d; e = again c.registers.e; h = again c.registers.h; l = again c.registers.l } in r) ≡ c.registers
    vals = make_vals _ _ _ _ _ _ _ _ _ _ _ _ _ _ (are.1 A) (are.1 B) (are.1 C) (are.1 D) (are.1 E) (are.1 H) (are.1 L)

    by : (o : Option ℕ) → core_in fourth (core_by number c o ++ rest) ≡ c
    by None = make_core _ c.ime c.bound _ c.stack_set _ c.ctl _ c.flags _ c.ie _ c.registers (ime-number c.ime) (of-flag c.stack_set) (ctl-again fourth number c.ctl kept) (flg-again c.flags) are.0 vals
    by (Some a) = make_core _ c.ime c.bound _ c.stack_set _ c.ctl _ c.flags _ c.ie _ c.registers (ime-number c.ime) (of-flag c.stack_set) (ctl-again fourth number c.ctl kept) (flg-again c.flags) are.0 vals

-- its test
pub test-again : (number : KeptBanks → ℕ) (c : Core) (t : Option ℕ) (rest : List ℕ) → test_in (core_by number c t ++ rest) ≡ t
test-again number c None rest = refl
test-again number c (Some a) rest = refl

test-long : (o : Option ℕ) → length (simple.test o) ≡ 2
test-long None = refl
test-long (Some a) = refl

-- it has 40 bytes
pub core-long : (number : KeptBanks → ℕ) (c : Core) (t : Option ℕ) → length (core_by number c t) ≡ 40
unfolding simple.flg spelled.val
core-long number c t = simp length-append (omega (arith, test-long t))

-- ---- lists

pub vals-long : (vs : List Val) → length (flat_map spelled.val vs) ≡ 3 * length vs
unfolding spelled.val
vals-long [] = refl
vals-long (v ∷ vs) = ap length (flat_map-cons spelled.val v vs) ∙ length-append (spelled.val v) (flat_map spelled.val vs) ∙ omega (arith, vals-long vs)

pub cells-long : (xs : List Cell) → length (flat_map spelled.cell xs) ≡ 5 * length xs
unfolding spelled.val spelled.cell
cells-long [] = refl
cells-long (x ∷ xs) = ap length (flat_map-cons spelled.cell x xs) ∙ length-append (spelled.cell x) (flat_map spelled.cell xs) ∙ omega (arith, cells-long xs)

pub older-vals : (rules : Rules) (vs : List Val) → list_all (is_sayable rules) vs ≡ true → flat_map simple.val vs ≡ flat_map spelled.val vs
older-vals rules [] h = refl
older-vals rules (v ∷ vs) h =
    let p = and_both (is_sayable rules v) (list_all (is_sayable rules) vs) h in
    flat_map-cons simple.val v vs ∙ (ap (λ (b : List ℕ). b ++ flat_map simple.val vs) (older-val rules v p.0) ∙ (ap (λ (b : List ℕ). spelled.val v ++ b) (older-vals rules vs p.1) ∙ sym (flat_map-cons spelled.val v vs)))

older-cell : (rules : Rules) (x : Cell) → is_cell_sayable rules x ≡ true → simple.cell x ≡ spelled.cell x
unfolding simple.cell spelled.cell
older-cell rules x h = ap (λ (b : List ℕ). simple.word x.address ++ b) (older-val rules x.val h)

pub older-cells : (rules : Rules) (xs : List Cell) → list_all (is_cell_sayable rules) xs ≡ true → flat_map simple.cell xs ≡ flat_map spelled.cell xs
older-cells rules [] h = refl
older-cells rules (x ∷ xs) h =
    let p = and_both (is_cell_sayable rules x) (list_all (is_cell_sayable rules) xs) h in
    flat_map-cons simple.cell x xs ∙ (ap (λ (b : List ℕ). b ++ flat_map simple.cell xs) (older-cell rules x p.0) ∙ (ap (λ (b : List ℕ). spelled.cell x ++ b) (older-cells rules xs p.1) ∙ sym (flat_map-cons spelled.cell x xs)))

-- each value of a list is read again
abbrev pub IsCellAgain : Cell → Type 0
IsCellAgain c = IsAgain c.val

pub older-items-again : (rules : Rules) (vs : List Val) → list_all (is_sayable rules) vs ≡ true → AllByRecursion IsAgain vs
older-items-again rules [] h = tt
older-items-again rules (v ∷ vs) h =
    let p = and_both (is_sayable rules v) (list_all (is_sayable rules) vs) h in
    (older-again rules v p.0, older-items-again rules vs p.1)

pub older-cells-again : (rules : Rules) (xs : List Cell) → list_all (is_cell_sayable rules) xs ≡ true → AllByRecursion IsCellAgain xs
older-cells-again rules [] h = tt
older-cells-again rules (x ∷ xs) h =
    let p = and_both (is_cell_sayable rules x) (list_all (is_cell_sayable rules) xs) h in
    (older-again rules x.val p.0, older-cells-again rules xs p.1)

pub fourth-items-again : (kept : ℕ) (vs : List Val) → kept ≤ 16 → AllByRecursion (IsValIn kept) vs → AllByRecursion IsAgain vs
fourth-items-again kept [] few h = tt
fourth-items-again kept (v ∷ vs) few h = (fourth-again kept v few h.0, fourth-items-again kept vs few h.1)

pub fourth-cells-again : (kept : ℕ) (region : Region) (least : ℕ) (xs : List Cell) → kept ≤ 16 → IsChain (IsCellIn kept region) after_cell least xs → AllByRecursion IsCellAgain xs
fourth-cells-again kept region least [] few h = tt
fourth-cells-again kept region least (x ∷ xs) few h = (fourth-again kept x.val few h.0.val, fourth-cells-again kept region (after_cell x) xs few h.1)

pub items-again : (vs : List Val) → AllByRecursion IsAgain vs → listed_items (flat_map spelled.val vs) ≡ vs
unfolding listed_items spelled.val
items-again [] h = refl
items-again (v ∷ vs) h =
    ap listed_items (flat_map-cons spelled.val v vs)
    ∙ (ap (λ (w : Val). w ∷ listed_items (flat_map spelled.val vs)) h.0 ∙ ap (λ (ws : List Val). v ∷ ws) (items-again vs h.1))

make_cell : (a b : ℕ) (v w : Val) → a ≡ b → v ≡ w → (let c : Cell = record { address = a; val = v } in c) ≡ record { address = b; val = w }
make_cell a b v w e f = rw (e, f) refl

pub cells-again : (xs : List Cell) → AllByRecursion IsCellAgain xs → listed_cells (flat_map spelled.cell xs) ≡ xs
unfolding listed_cells spelled.cell spelled.val
cells-again [] h = refl
cells-again (x ∷ xs) h =
    ap listed_cells (flat_map-cons spelled.cell x xs)
    ∙ (ap (λ (y : Cell). y ∷ listed_cells (flat_map spelled.cell xs)) (make_cell _ x.address _ x.val (word-again x.address) h.0)
    ∙ ap (λ (ys : List Cell). x ∷ ys) (cells-again xs h.1))
