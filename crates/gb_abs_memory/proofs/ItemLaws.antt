-- What a store makes of the bytes of the stack: they stand for the bytes that are there after it.
use Rattle.std.proofs.Common.{◌≡◌, ℕ, zero, suc, ◌-◌, ◌≤◌, ◌<◌, Bool, true, false, ◌&&◌, ◌==◌, if◌then◌else◌, cond, List, [], ◌∷◌, ◌++◌, length, drop, replicate, slice_get, Option, Some, None, refl, sym, ap, subst, arith, length-append, length-drop}
use Rattle.std.proofs.lemmas.List.{length-replicate}
use Rattle.std.proofs.lemmas.Bool.Decides.{nat_tests}
use Rattle.gb_ops.specs.declared.machine.Region.{Region}
use Rattle.gb_ops.specs.Cartridge.{is_within}
use Rattle.gb_ops.specs.Memory.{Storage}
use Rattle.gb_ops.specs.Play.{MState}
use Rattle.gb_domain.specs.declared.types.Val.{Val}
use Rattle.gb_domain.specs.declared.types.Core.{Core}
use Rattle.gb_domain.specs.declared.rules.Rules.{Rules}
use Rattle.gb_domain.specs.declared.rules.Rules.TheVariants.{Simple, Extended}
use Rattle.gb_domain.specs.declared.setting.Setting.{Setting}
use Rattle.gb_domain.specs.Areas.{IsRegion, meets}
use Rattle.gb_domain.specs.LowBits.{are_congruent}
use Rattle.gb_domain.specs.Settings.{known_base, IsBase}
use Rattle.gb_abs.specs.Below.gb_vals.Vals.{any_val}
use Rattle.gb_abs.specs.declared.span.Span.{Span}
use Rattle.gb_abs.specs.Span.{IsIn, is_one, counts}
use Rattle.gb_abs.specs.Storage.{is_ram, peek}
use Rattle.gb_abs.specs.Located.{base_by, stack_base}
use Rattle.gb_abs.specs.Meaning.{Activation, Holds, AreItems, IsMemory}
use Rattle.gb_abs.specs.Poked.{IsPoked}
use Rattle.gb_abs.specs.Stack.{AreInRegion}
use Rattle.gb_abs.proofs.CoveringLaws.{Holds-any}
use Rattle.gb_abs.proofs.SpanLaws.{apart-from}
use Rattle.gb_abs.proofs.StorageLaws.{AreItems-poked, meets-inside, region_in_ram}
use Rattle.gb_abs_memory.specs.Items.{items_below, items_by, items_under, items_stored}

-- ---- how many there are

length-items_below : (top : ℕ) (span : Span) (v : Val) (items : List Val) → length (items_below top span v items) ≡ length items
length-items_below top span v [] = refl
length-items_below top span v (item ∷ items) = ap suc (length-items_below (top - 1) span v items)

-- a loop over at most 255 items that has kept what each becomes has room for the next
pub items_room :
    (top base : ℕ) (span : Span) (v : Val) (kept held : List Val) (i : ℕ)
    → kept ++ items_below top span v (drop i held) ≡ items_below base span v held → i < length held → length held ≤ 255 → length kept < 255
items_room top base span v kept held i e lt few =
    let whole = length-append kept (items_below top span v (drop i held)) in
    let same = ap length e in
    let all = length-items_below base span v held in
    let rest = length-items_below top span v (drop i held) in
    let left = length-drop i held in
    omega arith

-- a store leaves as many items as there were
pub length-items_stored : (z : Setting) (region : Region) (span : Span) (v : Val) (core : Core) (items : List Val) → length (items_stored z region span v core items) ≡ length items
unfolding items_stored
length-items_stored z region span v core items = by_rules z.rules (stack_base z core)
  where
    by_base : (base : Option ℕ) → length (items_by base region span v items) ≡ length items
    by_base None = choose (meets region span.first span.last)
      where
        choose : (b : Bool) → length (cond b (replicate (length items) any_val) items) ≡ length items
        choose true = length-replicate (length items) any_val
        choose false = refl
    by_base (Some base) = length-items_below base span (if is_one span then v else any_val) items

    by_rules : (rules : Rules) (base : Option ℕ) → length (items_under rules base region span v items) ≡ length items
    by_rules Simple base = refl
    by_rules Extended base = by_base base

-- a base from which addresses are reckoned is the procedure's
base_is : (z : Setting) (core : Core) (base b : ℕ) → IsBase z base → stack_base z core ≡ Some b → b ≡ base
unfolding stack_base
base_is z core base b right h = by_rules z.rules core.stack_set h
  where
    by_rules : (rules : Rules) (set : Bool) → base_by rules set (known_base z) ≡ Some b → b ≡ base
    by_rules Simple set h = absurd (let bad : None ≡ Some b = h in cc)
    by_rules Extended true h = right b h
    by_rules Extended false h = absurd (let bad : None ≡ Some b = h in cc)

outside_region : (region : Region) (span : Span) (b : ℕ) → meets region span.first span.last ≡ false → region.first ≤ b → b ≤ region.last → is_within span.first span.last b ≡ false
outside_region region span b h low high = grind (arith, nat_tests)

-- an address outside the span doesn't count
none_counts : (span : Span) (a : ℕ) → is_within span.first span.last a ≡ false → counts span a ≡ false
none_counts span a h = ap (λ b. b && are_congruent span.low.count a span.low.bits) h

within_of : (b c : Bool) → (b && c) ≡ true → b ≡ true
within_of true c h = refl
within_of false c h = cc

-- ---- which they are

-- by the rules of versions 1 and 2 the items stay
pub items_stored-simple :
    (z : Setting) (region : Region) (span : Span) (v : Val) (core : Core) (items : List Val) → z.rules ≡ Simple → items_stored z region span v core items ≡ items
unfolding items_stored
items_stored-simple z region span v core items e = ap (λ rules. items_under rules (stack_base z core) region span v items) e

-- nothing of the core is asked but whether the stack is set
pub items_stored-core :
    (z : Setting) (region : Region) (span : Span) (v : Val) (core other : Core) (items : List Val) → core.stack_set ≡ other.stack_set
    → items_stored z region span v core items ≡ items_stored z region span v other items
unfolding items_stored stack_base
items_stored-core z region span v core other items e = ap (λ set. items_under z.rules (base_by z.rules set (known_base z)) region span v items) e

-- an item that stands at none of the addresses is spared
slice_get-below :
    (top : ℕ) (span : Span) (v : Val) (items : List Val) (i : ℕ) → is_within span.first span.last (top - 1 - i) ≡ false
    → slice_get (items_below top span v items) i ≡ slice_get items i
slice_get-below top span v [] i h = refl
slice_get-below top span v (item ∷ items) zero h =
    let first : top - 1 - zero ≡ top - 1 = omega arith in
    let outside : counts span (top - 1) ≡ false = none_counts span (top - 1) (subst (λ b. is_within span.first span.last b ≡ false) first h) in
    ap (λ b. Some (cond b v item)) outside
slice_get-below top span v (item ∷ items) (suc i) h =
    let same : top - 1 - 1 - i ≡ top - 1 - suc i = omega arith in
    slice_get-below (top - 1) span v items i (subst (λ b. is_within span.first span.last b ≡ false) (sym same) h)

pub items_stored-spared :
    (z : Setting) (region : Region) (span : Span) (v : Val) (core : Core) (items : List Val) (b i : ℕ) → stack_base z core ≡ Some b
    → is_within span.first span.last (b - 1 - i) ≡ false → slice_get (items_stored z region span v core items) i ≡ slice_get items i
unfolding items_stored
items_stored-spared z region span v core items b i e h = subst (λ o. slice_get (items_under z.rules o region span v items) i ≡ slice_get items i) (sym e) (by_rules z.rules)
  where
    by_rules : (rules : Rules) → slice_get (items_under rules (Some b) region span v items) i ≡ slice_get items i
    by_rules Simple = refl
    by_rules Extended = slice_get-below b span (if is_one span then v else any_val) items i h

-- a store outside the stack region spares all items
items_below-apart :
    (region : Region) (top : ℕ) (span : Span) (v : Val) (items : List Val) → meets region span.first span.last ≡ false → AreInRegion region top (length items)
    → items_below top span v items ≡ items
items_below-apart region top span v [] apart room = refl
items_below-apart region top span v (item ∷ items) apart room =
    let first = room.first in
    let last = room.last in
    let outside : counts span (top - 1) ≡ false = none_counts span (top - 1) (outside_region region span (top - 1) apart (omega arith) (omega arith)) in
    let rest : items_below (top - 1) span v items ≡ items = items_below-apart region (top - 1) span v items apart (record { first = omega arith; last = omega arith }) in
    rw (outside, rest) refl

pub items_stored-apart :
    (z : Setting) (region : Region) (span : Span) (v : Val) (core : Core) (items : List Val) (base : ℕ) → IsBase z base
    → meets region span.first span.last ≡ false → AreInRegion region base (length items) → items_stored z region span v core items ≡ items
unfolding items_stored
items_stored-apart z region span v core items base right apart room = by_rules z.rules
  where
    by_base : (o : Option ℕ) → stack_base z core ≡ o → items_by o region span v items ≡ items
    by_base None e = rw apart refl
    by_base (Some b) e =
        items_below-apart region b span (if is_one span then v else any_val) items apart (subst (λ n. AreInRegion region n (length items)) (sym (base_is z core base b right e)) room)

    by_rules : (rules : Rules) → items_under rules (stack_base z core) region span v items ≡ items
    by_rules Simple = refl
    by_rules Extended = by_base (stack_base z core) refl

-- ---- what they stand for

-- a byte is stored to one of the addresses: where the value stands for what is then at each of them, each item stands for its byte
AreItems-below :
    (region : Region) (items : List Val) (entry : Activation) (top a n : ℕ) (span : Span) (v : Val) (s t : Storage)
    → IsPoked a n s t → IsIn span a → ((b : ℕ) → counts span b ≡ true → Holds v entry (peek t b))
    → IsRegion region → AreInRegion region top (length items) → AreItems items entry top s → AreItems (items_below top span v items) entry top t
AreItems-below region [] entry top a n span v s t p i met r room h = tt
AreItems-below region (item ∷ items) entry top a n span v s t p i met r room h =
    let first = room.first in
    let last = room.last in
    let low : region.first ≤ top - 1 = omega arith in
    let high : top - 1 ≤ region.last = omega arith in (
      here (counts span (top - 1)) refl (region_in_ram region (top - 1) r low high),
      AreItems-below region items entry (top - 1) a n span v s t p i met r (record { first = omega arith; last = omega arith }) h.1,
    )
  where
    here : (b : Bool) → counts span (top - 1) ≡ b → is_ram (top - 1) ≡ true → Holds (cond b v item) entry (peek t (top - 1))
    here true e ram = met (top - 1) e
    here false e ram = subst (λ m. Holds item entry m) (sym (p.others (top - 1) ram (apart-from span a (top - 1) i e))) h.0

only_one : (first last a b : ℕ) → first ≤ a → a ≤ last → (first == last) ≡ true → is_within first last b ≡ true → b ≡ a
only_one first last a b low high one e = grind (arith, nat_tests)

-- of a store to one address the value is what is there
one_met :
    (entry : Activation) (a n : ℕ) (span : Span) (v : Val) (s t : Storage) → IsPoked a n s t → IsIn span a → Holds v entry n → is_one span ≡ true
    → (b : ℕ) → counts span b ≡ true → Holds v entry (peek t b)
one_met entry a n span v s t p i h one b e =
    let low = i.first in
    let high = i.last in
    let same : b ≡ a = only_one span.first span.last a b low high one (within_of _ _ e) in
    subst (λ c. Holds v entry (peek t c)) (sym same) (subst (λ m. Holds v entry m) (sym p.byte) h)

AreItems-any : (items : List Val) (entry : Activation) (top : ℕ) (t : Storage) → IsMemory t → AreItems (replicate (length items) any_val) entry top t
AreItems-any [] entry top t m = tt
AreItems-any (item ∷ items) entry top t m = (Holds-any entry (peek t (top - 1)) (m.bytes (top - 1)), AreItems-any items entry (top - 1) t m)

-- a byte is stored to RAM, by the rules of versions 1 and 2 outside the stack region: each item stands for its byte
pub AreItems-stored :
    (z : Setting) (region : Region) (core : Core) (items : List Val) (entry : Activation) (base a n : ℕ) (span : Span) (v : Val) (s t : Storage)
    → IsBase z base → IsPoked a n s t → IsIn span a → Holds v entry n → (z.rules ≡ Simple → meets region span.first span.last ≡ false)
    → IsRegion region → AreInRegion region base (length items) → AreItems items entry base s → AreItems (items_stored z region span v core items) entry base t
unfolding items_stored
AreItems-stored z region core items entry base a n span v s t right p i h simple r room m = by_rules z.rules refl
  where
    apart : meets region span.first span.last ≡ false → AreItems items entry base t
    apart e = AreItems-poked region items entry base a n s t p r room (meets-inside region span.first span.last a e i.first i.last) m

    unknown : (b : Bool) → meets region span.first span.last ≡ b → AreItems (cond b (replicate (length items) any_val) items) entry base t
    unknown true e = AreItems-any items entry base t p.memory
    unknown false e = apart e

    known : (one : Bool) → is_one span ≡ one → AreItems (items_below base span (cond one v any_val) items) entry base t
    known true e = AreItems-below region items entry base a n span v s t p i (one_met entry a n span v s t p i h e) r room m
    known false e = AreItems-below region items entry base a n span any_val s t p i (λ b within. Holds-any entry (peek t b) (p.memory.bytes b)) r room m

    by_base : (o : Option ℕ) → stack_base z core ≡ o → AreItems (items_by o region span v items) entry base t
    by_base None e = unknown (meets region span.first span.last) refl
    by_base (Some b) e =
        subst (λ top. AreItems (items_below top span (cond (is_one span) v any_val) items) entry base t) (sym (base_is z core base b right e)) (known (is_one span) refl)

    by_rules : (rules : Rules) → z.rules ≡ rules → AreItems (items_under rules (stack_base z core) region span v items) entry base t
    by_rules Simple e = apart (simple e)
    by_rules Extended e = by_base (stack_base z core) refl
