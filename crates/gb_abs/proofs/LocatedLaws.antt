-- Where items stand and SP points, where the base is known.
use Rattle.std.proofs.Common.{◌≡◌, ℕ, zero, suc, ◌-◌, ◌/◌, ◌%◌, ◌≤◌, ◌<◌, ◌==◌, Bool, true, false, nat_lt, cond, List, [], ◌∷◌, length, slice_get, Option, Some, None, refl, sym, subst, arith}
use Rattle.std.specs.Prelude.{IfSome}
use Rattle.std.proofs.lemmas.Bool.Decides.{nat_tests}
use Rattle.std.proofs.lemmas.Bool.{eqb-true}
use Rattle.gb_ops.specs.Memory.{Storage}
use Rattle.gb_ops.specs.Play.{MState}
use Rattle.gb_domain.specs.declared.pairs.Bounds.{Bounds}
use Rattle.gb_domain.specs.declared.rules.Rules.{Rules}
use Rattle.gb_domain.specs.declared.rules.Rules.TheVariants.{Simple, Extended}
use Rattle.gb_domain.specs.declared.setting.Setting.{Setting}
use Rattle.gb_domain.specs.declared.types.Halves.{Halves}
use Rattle.gb_domain.specs.declared.types.Val.{Val}
use Rattle.gb_domain.specs.Settings.{known_base, IsBase}
use Rattle.gb_domain.specs.Types.{AbsState}
use Rattle.gb_vals.specs.Vals.{any_val, single}
use Rattle.gb_abs.specs.Meaning.{Activation, Holds, AreItems, MeansParts}
use Rattle.gb_abs.specs.Storage.{peek}
use Rattle.gb_abs.specs.Located.{base_by, stack_base, item_by, item_at, halves_by, halves_within, sp_halves_by, sp_halves, bounds_by, sp_bounds_by, sp_bounds, IsSpWithin, IsSoundItem, IsSoundSp, IsSoundSpBounds}
use Rattle.gb_abs.proofs.CoveringLaws.{Holds-any}
use Rattle.gb_abs.proofs.LocationLaws.{is_located-of}
use Rattle.gb_abs.proofs.OperationLaws.{Holds-single}

-- a base from which addresses are reckoned is the procedure's, and SP is where the items say
record IsReckoned (s : AbsState) (base b : ℕ) : Type 0 where
  is : b ≡ base
  set : s.core.stack_set ≡ true

reckoned : (z : Setting) (s : AbsState) (base b : ℕ) → IsBase z base → stack_base z s.core ≡ Some b → IsReckoned s base b
unfolding stack_base
reckoned z s base b right h = by_rules z.rules s.core.stack_set refl h
  where
    by_set : (set : Bool) → s.core.stack_set ≡ set → cond set (known_base z) None ≡ Some b → IsReckoned s base b
    by_set true e h = record { is = right b h; set = e }
    by_set false e h = absurd (let bad : None ≡ Some b = h in cc)

    by_rules : (rules : Rules) (set : Bool) → s.core.stack_set ≡ set → base_by rules set (known_base z) ≡ Some b → IsReckoned s base b
    by_rules Simple set e h = absurd (let bad : None ≡ Some b = h in cc)
    by_rules Extended set e h = by_set set e h

some_same : {X : Type 0} (x y : X) → Some x ≡ Some y → x ≡ y
some_same x y h = cc

-- each item stands for the byte that stands as far below
pub AreItems-at :
    (items : List Val) (entry : Activation) (top i : ℕ) (s : Storage) (v : Val) → slice_get items i ≡ Some v → AreItems items entry top s → Holds v entry (peek s (top - 1 - i))
AreItems-at [] entry top i s v e h = absurd (let bad : None ≡ Some v = e in cc)
AreItems-at (u ∷ items) entry top zero s v e h =
    let same : top - 1 ≡ top - 1 - zero = omega arith in
    subst (λ n. Holds v entry (peek s n)) same (subst (λ w. Holds w entry (peek s (top - 1))) (some_same u v e) h.0)
AreItems-at (u ∷ items) entry top (suc i) s v e h =
    let same : top - 1 - 1 - i ≡ top - 1 - suc i = omega arith in
    subst (λ n. Holds v entry (peek s n)) same (AreItems-at items entry (top - 1) i s v e h.1)

pub IsSoundItem-item_at : (z : Setting) (s : AbsState) (a : ℕ) (v : Val) → item_at z s a ≡ Some v → IsSoundItem z s a v
unfolding item_at
IsSoundItem-item_at z s a v h = record { gives = λ entry base x right m. by_base entry base x right m (stack_base z s.core) refl h }
  where
    below : (entry : Activation) (base : ℕ) (x : MState) (b : ℕ) → MeansParts s entry base x → b ≡ base → (lt : Bool) → nat_lt a b ≡ lt
        → cond lt (slice_get s.items (b - 1 - a)) None ≡ Some v → Holds v entry (peek x.storage a)
    below entry base x b m same true e h =
        let there = AreItems-at s.items entry b (b - 1 - a) x.storage v h (subst (λ n. AreItems s.items entry n x.storage) (sym same) m.items) in
        let less : a < b = grind (arith, nat_tests) in
        let at : b - 1 - (b - 1 - a) ≡ a = omega arith in
        subst (λ n. Holds v entry (peek x.storage n)) at there
    below entry base x b m same false e h = absurd (let bad : None ≡ Some v = h in cc)

    by_base : (entry : Activation) (base : ℕ) (x : MState) → IsBase z base → MeansParts s entry base x → (o : Option ℕ) → stack_base z s.core ≡ o
        → item_by o s.items a ≡ Some v → Holds v entry (peek x.storage a)
    by_base entry base x right m None e h = absurd (let bad : None ≡ Some v = h in cc)
    by_base entry base x right m (Some b) e h = below entry base x b m (reckoned z s base b right e).is (nat_lt a b) refl h

if_some : {X : Type 0} (o : Option X) (P : X → Type 0) → ((x : X) → o ≡ Some x → P x) → IfSome o P
if_some None P h = tt
if_some (Some x) P h = h x refl

pub item_sound : (z : Setting) (s : AbsState) (a : ℕ) (o : Option Val) → o ≡ item_at z s a → IfSome o (λ v. IsSoundItem z s a v)
item_sound z s a o e =
    subst (λ r. IfSome r (λ v. IsSoundItem z s a v)) (sym e) (if_some (item_at z s a) (λ v. IsSoundItem z s a v) (λ v h. IsSoundItem-item_at z s a v h))

-- ---- SP

-- SP, reckoned from the base
sp_is : (z : Setting) (s : AbsState) (entry : Activation) (base : ℕ) (x : MState) (b : ℕ) → IsBase z base → MeansParts s entry base x → s.summary.aside ≡ None → stack_base z s.core ≡ Some b
    → b - length s.items ≡ x.processor.sp
sp_is z s entry base x b right m none e =
    let r = reckoned z s base b right e in
    let is = r.is in
    let stack = m.stack (is_located-of s.summary.aside s.core.stack_set none r.set) in
    omega arith

high_held : (z : Setting) (s : AbsState) (entry : Activation) (base : ℕ) (x : MState) (o : Option ℕ) → IsBase z base → MeansParts s entry base x → s.summary.aside ≡ None → stack_base z s.core ≡ o
    → Holds (halves_by o (length s.items)).high entry (x.processor.sp / 256)
high_held z s entry base x None right m none e = let small = m.sp in Holds-any entry _ (omega arith)
high_held z s entry base x (Some b) right m none e =
    subst (λ n. Holds (single ((b - length s.items) / 256)) entry (n / 256)) (sp_is z s entry base x b right m none e) (Holds-single _ entry)

low_held : (z : Setting) (s : AbsState) (entry : Activation) (base : ℕ) (x : MState) (o : Option ℕ) → IsBase z base → MeansParts s entry base x → s.summary.aside ≡ None → stack_base z s.core ≡ o
    → Holds (halves_by o (length s.items)).low entry (x.processor.sp % 256)
low_held z s entry base x None right m none e = Holds-any entry _ (omega arith)
low_held z s entry base x (Some b) right m none e =
    subst (λ n. Holds (single ((b - length s.items) % 256)) entry (n % 256)) (sp_is z s entry base x b right m none e) (Holds-single _ entry)

within_halves : (b : Bounds) (entry : Activation) (n : ℕ) → n < 65536 → (b.first ≤ n) × (n ≤ b.last)
    → Holds (halves_within b).high entry (n / 256) × Holds (halves_within b).low entry (n % 256)
within_halves b entry n small h = by (b.first == b.last) refl
  where
    by :
        (e : Bool) → (b.first == b.last) ≡ e
        → Holds (cond {A = Halves} e (record { high = single (b.first / 256); low = single (b.first % 256) }) (record { high = any_val; low = any_val })).high entry (n / 256)
        × Holds (cond {A = Halves} e (record { high = single (b.first / 256); low = single (b.first % 256) }) (record { high = any_val; low = any_val })).low entry (n % 256)
    by true e =
        let same = eqb-true b.first b.last e in
        let low = h.0 in
        let high = h.1 in
        let is : b.first ≡ n = omega arith in
        (subst (λ k. Holds (single (b.first / 256)) entry (k / 256)) is (Holds-single _ entry), subst (λ k. Holds (single (b.first % 256)) entry (k % 256)) is (Holds-single _ entry))
    by false e = (Holds-any entry _ (omega arith), Holds-any entry _ (omega arith))

high_in : (z : Setting) (s : AbsState) (entry : Activation) (base : ℕ) (x : MState) (o : Option Bounds) → IsBase z base → MeansParts s entry base x → s.summary.aside ≡ o
    → IsSpWithin o x.processor.sp → Holds (sp_halves_by o (stack_base z s.core) (length s.items)).high entry (x.processor.sp / 256)
high_in z s entry base x None right m e a = high_held z s entry base x (stack_base z s.core) right m e refl
high_in z s entry base x (Some b) right m e a = (within_halves b entry x.processor.sp m.sp a).0

low_in : (z : Setting) (s : AbsState) (entry : Activation) (base : ℕ) (x : MState) (o : Option Bounds) → IsBase z base → MeansParts s entry base x → s.summary.aside ≡ o
    → IsSpWithin o x.processor.sp → Holds (sp_halves_by o (stack_base z s.core) (length s.items)).low entry (x.processor.sp % 256)
low_in z s entry base x None right m e a = low_held z s entry base x (stack_base z s.core) right m e refl
low_in z s entry base x (Some b) right m e a = (within_halves b entry x.processor.sp m.sp a).1

pub halves_sound : (z : Setting) (s : AbsState) (w : Halves) → w ≡ sp_halves z s → IsSoundSp z s w
unfolding sp_halves
halves_sound z s w e =
    subst (λ h. IsSoundSp z s h) (sym e)
    (record {
      high = λ entry base x right m a. high_in z s entry base x s.summary.aside right m refl a;
      low = λ entry base x right m a. low_in z s entry base x s.summary.aside right m refl a;
    })

record IsBetween (b : Bounds) (n : ℕ) : Type 0 where
  first : b.first ≤ n
  last : n ≤ b.last

within : (z : Setting) (s : AbsState) (entry : Activation) (base : ℕ) (x : MState) (o : Option ℕ) → IsBase z base → MeansParts s entry base x → s.summary.aside ≡ None → stack_base z s.core ≡ o
    → IsBetween (bounds_by o (length s.items)) x.processor.sp
within z s entry base x None right m none e = let small = m.sp in record { first = omega arith; last = omega arith }
within z s entry base x (Some b) right m none e =
    let is = sp_is z s entry base x b right m none e in
    record { first = omega arith; last = omega arith }

sp_in : (z : Setting) (s : AbsState) (entry : Activation) (base : ℕ) (x : MState) (o : Option Bounds) → IsBase z base → MeansParts s entry base x → s.summary.aside ≡ o
    → IsSpWithin o x.processor.sp → IsBetween (sp_bounds_by o (stack_base z s.core) (length s.items)) x.processor.sp
sp_in z s entry base x None right m e a = within z s entry base x (stack_base z s.core) right m e refl
sp_in z s entry base x (Some b) right m e a = record { first = a.0; last = a.1 }

pub bounds_sound : (z : Setting) (s : AbsState) (b : Bounds) → b ≡ sp_bounds z s → IsSoundSpBounds z s b
unfolding sp_bounds
bounds_sound z s b e =
    subst (λ h. IsSoundSpBounds z s h) (sym e)
    (record {
      first = λ entry base x right m a. (sp_in z s entry base x s.summary.aside right m refl a).first;
      last = λ entry base x right m a. (sp_in z s entry base x s.summary.aside right m refl a).last;
    })
