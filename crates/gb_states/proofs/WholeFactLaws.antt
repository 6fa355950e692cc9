-- Facts and fills of version 4: what is read is spelled so, and what is spelled so is read.
use Rattle.std.proofs.Common.{◌≡◌, ℕ, ◌<◌, ◌≤◌, Bool, true, false, ◌||◌, not, ◌==◌, nat_le, List, [], ◌∷◌, ◌++◌, length, Option, Some, None, refl, sym, ◌∙◌, ap, subst, arith}
use Rattle.std.specs.Prelude.{IfSome}
use Rattle.std.specs.List.{AllByRecursion}
use Rattle.gb_ops.specs.declared.machine.Region.{Region}
use Rattle.gb_ops.specs.declared.op.Pointer.{Pointer}
use Rattle.gb_ops.specs.declared.op.Pointer.TheVariants as pointer
use Rattle.gb_fields.specs.declared.fault.CertFault.TheVariants as fault
use Rattle.gb_domain.specs.declared.interval.StridedInterval.{StridedInterval}
use Rattle.gb_domain.specs.declared.summary.Fact.{Fact}
use Rattle.gb_domain.specs.declared.summary.Fill.{Fill}
use Rattle.gb_domain.specs.declared.summary.FillEnd.{FillEnd}
use Rattle.gb_domain.specs.declared.summary.Reach.{Reach}
use Rattle.gb_domain.specs.declared.summary.Reach.TheVariants.{Below, Above}
use Rattle.gb_domain.specs.Areas.{is_area, meets}
use Rattle.gb_domain.specs.Rules.{IsChain, IsVal}
use Rattle.gb_fields.specs.Format.{both, followed, byte}
use Rattle.gb_fields.specs.Limits.{fill_limit}
use Rattle.gb_fields.specs.Reading.{is_between, word, byte_between, word_between, count_within, turned, offset_at, nothing}
use Rattle.gb_states.specs.Reading.{is_free}
use Rattle.gb_states.specs.WholeRules.{value_of, IsStretch, says_something, IsFact, IsFill, is_said, AreLevels}
use Rattle.gb_states.specs.WholeReading.{stretch_at, are_said, said_at, is_step, to_interval, is_strided_interval, interval_at, to_fact, fact_at, pointer_of, reach_of, to_end, end_by, end_of, end_at, to_fill, fill_at, fill_count_at, fills_at, levels_at}
use Rattle.gb_states.specs.Spelling as simple
use Rattle.gb_states.specs.WholeSpelling as spelled
use Rattle.gb_states.proofs.Formats.{IsFormat, IsFormat-byte, IsFormat-both, IsFormat-followed, IsFormat-checked, IsFormat-onto, IsFormat-mapped, IsFormat-as, IsFormat-spelled, IsFormat-nothing, IsFormat-counted, all_of_chain, chain_of_all}
use Rattle.gb_states.proofs.FieldLaws.{le_is, is_le, and_both, both_and, within, is_within, all_below, below, same, is_same, area_small, spelled_byte, IsFormat-word, IsFormat-byte_between, IsFormat-word_between, IsFormat-count_within}
use Rattle.gb_states.proofs.StateLaws.{not_is, is_not}
use Rattle.gb_states.proofs.WholeLaws.{strided_few}

abbrev Two : Type 0
Two = ℕ × ℕ

abbrev pub spelled_stretch : ℕ × ℕ → List ℕ
spelled_stretch p = spelled.stretch p.0 p.1

abbrev pub IsStretchPair : Region → ℕ × ℕ → Type 0
IsStretchPair region p = IsStretch region p.0 p.1

stretch-is : (region : Region) (p : ℕ × ℕ) → ((p.0 < 65536) × (p.1 < 65536)) × (is_free region p ≡ true) → IsStretchPair region p
stretch-is region p h = let a = and_both (is_area p.0 p.1) (not (meets region p.0 p.1)) h.1 in record { area = a.0; apart = not_is (meets region p.0 p.1) a.1 }

is-stretch : (region : Region) (p : ℕ × ℕ) → IsStretchPair region p → ((p.0 < 65536) × (p.1 < 65536)) × (is_free region p ≡ true)
is-stretch region p h = (area_small p.0 p.1 h.area, both_and (is_area p.0 p.1) (not (meets region p.0 p.1)) h.area (is_not (meets region p.0 p.1) h.apart))

pub IsFormat-stretch : (region : Region) → IsFormat (stretch_at region) spelled_stretch (IsStretchPair region)
unfolding stretch_at spelled.stretch
IsFormat-stretch region =
    IsFormat-as (stretch_at region) spelled_stretch (λ p. ((p.0 < 65536) × (p.1 < 65536)) × (is_free region p ≡ true)) (IsStretchPair region) (stretch-is region) (is-stretch region)
    (IsFormat-checked fault.Field (is_free region) _ _ _ (IsFormat-both word word _ _ _ _ IsFormat-word IsFormat-word))

-- bytes in order that leave one out
pub record AreSaid (p : ℕ × ℕ) : Type 0 where
  pub order : p.0 ≤ p.1
  pub hi : p.1 < 256
  pub says : says_something p.0 p.1 ≡ true

abbrev spelled_said : ℕ × ℕ → List ℕ
spelled_said p = p.0 ∷ p.1 ∷ []

said-is : (p : ℕ × ℕ) → ((p.0 < 256) × (p.1 < 256)) × (are_said p ≡ true) → AreSaid p
said-is p h = let a = and_both (nat_le p.0 p.1) (says_something p.0 p.1) h.1 in record { order = le_is p.0 p.1 a.0; hi = h.0.1; says = a.1 }

is-said : (p : ℕ × ℕ) → AreSaid p → ((p.0 < 256) × (p.1 < 256)) × (are_said p ≡ true)
is-said p h = ((omega (arith, h.order, h.hi), h.hi), both_and (nat_le p.0 p.1) (says_something p.0 p.1) (is_le p.0 p.1 h.order) h.says)

pub IsFormat-said : IsFormat said_at spelled_said AreSaid
unfolding said_at
IsFormat-said =
    IsFormat-as said_at spelled_said (λ p. ((p.0 < 256) × (p.1 < 256)) × (are_said p ≡ true)) AreSaid said-is is-said
    (IsFormat-checked fault.Field are_said _ _ _ (IsFormat-both byte byte _ _ _ _ IsFormat-byte IsFormat-byte))

from_interval : StridedInterval → (ℕ × ℕ) × ℕ
from_interval s = ((s.lo, s.hi), s.count)

abbrev spelled_interval : StridedInterval → List ℕ
spelled_interval s = (s.lo ∷ s.hi ∷ []) ++ (s.count ∷ [])

-- an interval that says something
pub record IsSaidInterval (s : StridedInterval) : Type 0 where
  pub value : IsVal (value_of s)
  pub says : says_something s.lo s.hi ≡ true

abbrev IsReadInterval : StridedInterval → Type 0
IsReadInterval s = (AreSaid (s.lo, s.hi) × (s.count < 256)) × (is_strided_interval s ≡ true)

is-interval : (s : StridedInterval) → IsSaidInterval s → IsReadInterval s
is-interval s h = let few = strided_few (value_of s) h.value.strided in ((record { order = h.value.order; hi = h.value.hi; says = h.says }, omega (arith, few)), h.value.strided)

IsFormat-interval : IsFormat interval_at spelled_interval IsSaidInterval
unfolding interval_at from_interval
IsFormat-interval =
    IsFormat-as interval_at spelled_interval IsReadInterval IsSaidInterval (λ s h. record { value = record { order = h.0.0.order; hi = h.0.0.hi; strided = h.1 }; says = h.0.0.says }) is-interval
    (IsFormat-checked fault.Field is_strided_interval _ spelled_interval (λ s. AreSaid (s.lo, s.hi) × (s.count < 256))
    (IsFormat-mapped to_interval from_interval _ (λ p. spelled_said p.0 ++ spelled_byte p.1) (λ p. AreSaid p.0 × (p.1 < 256)) (λ x h. refl) (λ y h. refl)
    (IsFormat-both said_at byte _ _ _ _ IsFormat-said IsFormat-byte)))

from_fact : Fact → ((ℕ × ℕ) × ℕ) × StridedInterval
from_fact f = (((f.first, f.last), f.step), f.value)

abbrev AreFactParts : Region → ((ℕ × ℕ) × ℕ) × StridedInterval → Type 0
AreFactParts region p = ((IsStretchPair region p.0.0 × (p.0.1 < 256)) × (is_step p.0 ≡ true)) × IsSaidInterval p.1

pub IsFormat-fact : (region : Region) → IsFormat (fact_at region) spelled.fact (IsFact region)
unfolding fact_at from_fact spelled.fact
IsFormat-fact region =
    IsFormat-as (fact_at region) spelled.fact (λ f. AreFactParts region (from_fact f)) (IsFact region)
    (λ f h. record { stretch = h.0.0.0; stepped = h.0.1; step = h.0.0.1; value = h.1.value; says = h.1.says })
    (λ f h. (((h.stretch, h.step), h.stepped), record { value = h.value; says = h.says }))
    (IsFormat-mapped to_fact from_fact _ (λ p. (spelled_stretch p.0.0 ++ spelled_byte p.0.1) ++ spelled_interval p.1) (AreFactParts region) (λ x h. refl) (λ y h. refl)
    (IsFormat-both _ interval_at _ _ _ _ (IsFormat-checked fault.Field is_step _ _ _ (IsFormat-both (stretch_at region) byte _ _ _ _ (IsFormat-stretch region) IsFormat-byte)) IsFormat-interval))

-- ---- fills

turned-back : (n : ℕ) → n < 65536 → (turned (turned n) ≡ n) × (turned n < 65536)
turned-back n h = (omega arith, omega arith)

abbrev spelled_offset : ℕ → List ℕ
spelled_offset n = simple.word (turned n)

IsFormat-offset : IsFormat offset_at spelled_offset (λ n. n < 65536)
unfolding offset_at
IsFormat-offset =
    IsFormat-onto turned turned word simple.word (λ n. n < 65536) (λ n. n < 65536) turned-back (λ n h. let t = turned-back n h in (t.1, t.0)) IsFormat-word

-- an end's number, 0 for none, and its distance
abbrev number_in : Option FillEnd → ℕ
number_in None = 0
number_in (Some e) = spelled.end_number e

abbrev offset_in : Option FillEnd → ℕ
offset_in None = 0
offset_in (Some e) = e.offset

abbrev told_offset : Option FillEnd → List ℕ
told_offset None = []
told_offset (Some e) = spelled_offset e.offset

-- an end with this number, or none
abbrev IsEndOf : ℕ → Option FillEnd → Type 0
IsEndOf n o = (number_in o ≡ n) × IfSome o (λ e. e.offset < 65536)

abbrev end_with : ℕ → ℕ → FillEnd
end_with n offset = record { pointer = pointer_of n; reach = reach_of n; offset = offset }

number-end : (n offset : ℕ) → n ≤ 8 → (n == 0) ≡ false → spelled.end_number (end_with n offset) ≡ n
unfolding all_below
number-end n offset few some = by (below 9 (λ c. c == 0 || spelled.end_number (end_with c 0) == c) refl n (omega (arith, few)))
  where
    or_second : (a b : Bool) → a ≡ false → (a || b) ≡ true → b ≡ true
    or_second true b e h = absurd cc
    or_second false b e h = h

    by : (n == 0 || spelled.end_number (end_with n 0) == n) ≡ true → spelled.end_number (end_with n offset) ≡ n
    by h = same _ _ (or_second (n == 0) (spelled.end_number (end_with n 0) == n) some h)

abbrev an_end : Pointer → Reach → ℕ → FillEnd
an_end p r o = record { pointer = p; reach = r; offset = o }

end-number : (e : FillEnd) → end_with (spelled.end_number e) e.offset ≡ e
end-number e = by e.pointer e.reach e.offset
  where
    by : (p : Pointer) (r : Reach) (o : ℕ) → end_with (spelled.end_number (an_end p r o)) o ≡ an_end p r o
    by pointer.Bc Below o = refl
    by pointer.De Below o = refl
    by pointer.Hl Below o = refl
    by pointer.HighC Below o = refl
    by pointer.Bc Above o = refl
    by pointer.De Above o = refl
    by pointer.Hl Above o = refl
    by pointer.HighC Above o = refl

end-some : (e : FillEnd) → (1 ≤ spelled.end_number e) × (spelled.end_number e ≤ 8)
end-some e = by e.pointer e.reach e.offset
  where
    by : (p : Pointer) (r : Reach) (o : ℕ) → (1 ≤ spelled.end_number (an_end p r o)) × (spelled.end_number (an_end p r o) ≤ 8)
    by pointer.Bc Below o = (omega arith, omega arith)
    by pointer.De Below o = (omega arith, omega arith)
    by pointer.Hl Below o = (omega arith, omega arith)
    by pointer.HighC Below o = (omega arith, omega arith)
    by pointer.Bc Above o = (omega arith, omega arith)
    by pointer.De Above o = (omega arith, omega arith)
    by pointer.Hl Above o = (omega arith, omega arith)
    by pointer.HighC Above o = (omega arith, omega arith)

no-end : (n : ℕ) → (n == 0) ≡ true → (o : Option FillEnd) → IsEndOf n o → o ≡ None
no-end n none None h = refl
no-end n none (Some e) h = absurd (let zero = same n 0 none in let some = (end-some e).0 in let is = h.0 in omega (arith, zero, some, is))

end-again : (n : ℕ) → (n == 0) ≡ false → (o : Option FillEnd) → IsEndOf n o → (offset_in o < 65536) × (to_end n (offset_in o) ≡ o)
end-again n some None h = absurd (let e = is_same n 0 (sym h.0) in not_so (sym e ∙ some))
  where
    not_so : true ≡ false → ⊥
    not_so e = cc
end-again n some (Some e) h = (h.1, ap (λ (k : ℕ). Some (end_with k e.offset)) (sym h.0) ∙ ap (λ (x : FillEnd). Some x) (end-number e))

offset-told : (n : ℕ) → (n == 0) ≡ false → (o : Option FillEnd) → IsEndOf n o → spelled_offset (offset_in o) ≡ told_offset o
offset-told n some None h = absurd (let e = is_same n 0 (sym h.0) in not_so (sym e ∙ some))
  where
    not_so : true ≡ false → ⊥
    not_so e = cc
offset-told n some (Some e) h = refl

IsFormat-end_by : (b : Bool) (n : ℕ) → (n == 0) ≡ b → n ≤ 8 → IsFormat (end_by b n) told_offset (IsEndOf n)
IsFormat-end_by true n none few =
    IsFormat-as (nothing None) told_offset (λ o. o ≡ None) (IsEndOf n) (λ o e. subst (IsEndOf n) (sym e) (sym (same n 0 none), tt)) (no-end n none) (IsFormat-nothing None told_offset refl)
IsFormat-end_by false n some few =
    IsFormat-spelled (end_by false n) (λ o. spelled_offset (offset_in o)) told_offset (IsEndOf n) (offset-told n some)
    (IsFormat-onto (to_end n) offset_in offset_at spelled_offset (λ m. m < 65536) (IsEndOf n) (λ m h. (refl, (number-end n m few some, h))) (end-again n some) IsFormat-offset)

end-told : (o : Option FillEnd) → spelled_byte (number_in o) ++ told_offset o ≡ spelled.fill_end o
end-told None = refl
end-told (Some e) = refl

abbrev IsEnd : Option FillEnd → Type 0
IsEnd o = IfSome o (λ e. e.offset < 65536)

end-few : (o : Option FillEnd) → number_in o ≤ 8
end-few None = omega arith
end-few (Some e) = (end-some e).1

IsFormat-end : IsFormat end_at spelled.fill_end IsEnd
unfolding end_at
IsFormat-end =
    IsFormat-spelled end_at (λ o. spelled_byte (number_in o) ++ told_offset o) spelled.fill_end IsEnd (λ o h. end-told o)
    (IsFormat-onto (λ (p : ℕ × Option FillEnd). p.1) (λ o. (number_in o, o)) (followed (byte_between 0 8) end_of) (λ p. spelled_byte p.0 ++ told_offset p.1) (λ p. ((p.0 < 256) × (is_between 0 8 p.0 ≡ true)) × IsEndOf p.0 p.1) IsEnd
    (λ p h. (ap (λ (n : ℕ). (let q : ℕ × Option FillEnd = (n, p.1) in q)) h.1.0, h.1.1)) (λ o h. let few = end-few o in (((omega (arith, few), is_within 8 (number_in o) few), (refl, h)), refl))
    (IsFormat-followed (byte_between 0 8) end_of spelled_byte (λ n. told_offset) (λ n. (n < 256) × (is_between 0 8 n ≡ true)) IsEndOf (IsFormat-byte_between 0 8) (λ n h. IsFormat-end_by (n == 0) n refl (within 8 n h.1))))

from_fill : Fill → (ℕ × ℕ) × (Option FillEnd × (ℕ × ℕ))
from_fill f = ((f.first, f.last), (f.end, (f.lo, f.hi)))

abbrev AreFillParts : Region → (ℕ × ℕ) × (Option FillEnd × (ℕ × ℕ)) → Type 0
AreFillParts region p = IsStretchPair region p.0 × (IsEnd p.1.0 × AreSaid p.1.1)

pub IsFormat-fill : (region : Region) → IsFormat (fill_at region) spelled.fill (IsFill region)
unfolding fill_at from_fill spelled.fill
IsFormat-fill region =
    IsFormat-as (fill_at region) spelled.fill (λ f. AreFillParts region (from_fill f)) (IsFill region)
    (λ f h. record { stretch = h.0; order = h.1.1.order; hi = h.1.1.hi; says = h.1.1.says; end = h.1.0 })
    (λ f h. (h.stretch, (h.end, record { order = h.order; hi = h.hi; says = h.says })))
    (IsFormat-mapped to_fill from_fill _ (λ p. spelled_stretch p.0 ++ (spelled.fill_end p.1.0 ++ spelled_said p.1.1)) (AreFillParts region) (λ x h. refl) (λ y h. refl)
    (IsFormat-both (stretch_at region) (both end_at said_at) _ _ _ _ (IsFormat-stretch region) (IsFormat-both end_at said_at _ _ _ _ IsFormat-end IsFormat-said)))

-- ---- the level and the fills

abbrev AreFills : Region → ℕ → List Fill → Type 0
AreFills region level fills = ((length fills ≤ fill_limit) × (is_said level (length fills) ≡ true)) × AllByRecursion (IsFill region) fills

abbrev IsFillCount : ℕ → ℕ → Type 0
IsFillCount level n = (n ≤ fill_limit) × (is_said level n ≡ true)

IsFormat-fills : (region : Region) (level : ℕ) → IsFormat (fills_at region level) (simple.counted spelled.fill) (AreFills region level)
unfolding fill_count_at fills_at
IsFormat-fills region level =
    IsFormat-as (fills_at region level) (simple.counted spelled.fill) (λ fills. IsFillCount level (length fills) × IsChain {S = Unit {0}} (λ s. IsFill region) (λ f. tt) tt fills) (AreFills region level) (λ fills h. (h.0, all_of_chain (IsFill region) fills h.1)) (λ fills h. (h.0, chain_of_all (IsFill region) fills h.1))
    (IsFormat-counted {S = Unit {0}} (fill_count_at level) spelled_byte (IsFillCount level) (λ s. fill_at region) (λ f. tt) spelled.fill (λ s. IsFill region) tt
    (IsFormat-checked fault.Field (is_said level) (count_within fill_limit) spelled_byte (λ n. n ≤ fill_limit) (IsFormat-count_within fill_limit (omega arith))) (λ s. IsFormat-fill region))

pub IsFormat-levels : (facts : ℕ) (region : Region) → facts < 65536 → IsFormat (levels_at facts region) spelled.levels (AreLevels facts region)
unfolding levels_at spelled.levels
IsFormat-levels facts region small =
    IsFormat-as (levels_at facts region) spelled.levels (λ p. ((p.0 < 65536) × (is_between 0 facts p.0 ≡ true)) × AreFills region p.0 p.1) (AreLevels facts region)
    (λ p h. record { level = within facts p.0 h.0.1; few = h.1.0.0; said = h.1.0.1; each = h.1.1 })
    (λ p h. let le = h.level in ((omega (arith, le, small), is_within facts p.0 h.level), ((h.few, h.said), h.each)))
    (IsFormat-followed (word_between 0 facts) (fills_at region) simple.word (λ level. simple.counted spelled.fill) (λ n. (n < 65536) × (is_between 0 facts n ≡ true)) (AreFills region) (IsFormat-word_between 0 facts) (λ level h. IsFormat-fills region level))
