-- What a state says that is about the whole program, addresses to be kept, and lists of facts: what is read is spelled so, and what is spelled so is read.
use Rattle.std.proofs.Common.{◌≡◌, ℕ, ◌+◌, ◌*◌, ◌/◌, ◌%◌, ◌<◌, ◌≤◌, Bool, true, false, ◌&&◌, not, ◌==◌, nat_le, List, [], ◌∷◌, ◌++◌, length, Option, refl, sym, subst, arith}
use Rattle.std.specs.Prelude.{IfSome, is_some}
use Rattle.std.specs.List.{AllByRecursion}
use Rattle.std.proofs.lemmas.Bool.Decides.{nat_tests}
use Rattle.gb_ops.specs.declared.machine.Region.{Region}
use Rattle.gb_fields.specs.declared.fault.CertFault.TheVariants as fault
use Rattle.gb_domain.specs.declared.pairs.Bounds.{Bounds}
use Rattle.gb_domain.specs.declared.summary.Fill.{Fill}
use Rattle.gb_domain.specs.declared.summary.Shadows.{Shadows}
use Rattle.gb_domain.specs.declared.summary.BankShadows.{BankShadows}
use Rattle.gb_domain.specs.Summaries.{SummaryParts, no_shadows, no_bank_shadows}
use Rattle.gb_domain.specs.Areas.{is_free_byte}
use Rattle.gb_domain.specs.Rules.{IsChain}
use Rattle.gb_fields.specs.Format.{optional}
use Rattle.gb_fields.specs.Limits.{fact_limit, fill_limit, kept_room}
use Rattle.gb_fields.specs.Reading.{is_between, word, byte_between, count_within, word_count_within}
use Rattle.gb_states.specs.declared.whole.Declared.{Declared}
use Rattle.gb_states.specs.RelationReading.{defaulted, address_at, bounds_at}
use Rattle.gb_states.specs.Rules.{is_unshadowed}
use Rattle.gb_states.specs.WholeRules.{IsFact, IsFill, is_said, AreLevels, AreShadowsIn, AreBankShadows, IsFreeFrom, after_address, AreKept, AreFacts}
use Rattle.gb_states.specs.WholeReading.{fact_at, levels_at, bank_shadows_at, to_declared, may_be_declared, declared_at, no_levels, to_summary, summary_at, free_address_at, kept_addresses_at, facts_at}
use Rattle.gb_states.specs.Spelling as simple
use Rattle.gb_states.specs.RelationSpelling as told
use Rattle.gb_states.specs.WholeSpelling as spelled
use Rattle.gb_states.proofs.Formats.{IsFormat, IsFormat-both, IsFormat-checked, IsFormat-mapped, IsFormat-as, IsFormat-counted, all_of_chain, chain_of_all}
use Rattle.gb_states.proofs.FieldLaws.{le_is, is_le, within, is_within, all_below, below, same, flag_small, one-flag, spelled_byte, IsFormat-word, IsFormat-byte_between, IsFormat-count_within}
use Rattle.gb_states.proofs.PairLaws.{IsWhere, IsFormat-defaulted, AreBounds, IsFormat-bounds}
use Rattle.gb_states.proofs.PlaceLaws.{IsFormat-option, IsFormat-address}
use Rattle.gb_states.proofs.SummaryLaws.{unshadowed-is, no-fills}
use Rattle.gb_states.proofs.WholeFactLaws.{IsFormat-fact, IsFormat-levels}
use Rattle.gb_states.proofs.WholeShadowLaws.{IsFormat-bank_shadows}

-- ---- which parts there are

bits-number : (a b c d : ℕ) → a ≤ 1 → b ≤ 1 → c ≤ 1 → d ≤ 1 → (n : ℕ) → n ≡ 8 * d + 4 * c + 2 * b + a → (n % 2 ≡ a) × (n / 2 % 2 ≡ b) × (n / 4 % 2 ≡ c) × (n / 8 ≡ d) × (n ≤ 15)
bits-number a b c d a1 b1 c1 d1 n e0 = (omega arith, omega arith, omega arith, omega arith, omega arith)

abbrev pub declared : Bool → Bool → Bool → Bool → Declared
declared a b c d = record { shadows = a; levels = b; aside = c; item = d }

pub declared-same : (a b c d a2 b2 c2 d2 : Bool) → a ≡ a2 → b ≡ b2 → c ≡ c2 → d ≡ d2 → declared a b c d ≡ declared a2 b2 c2 d2
declared-same a b c d a2 b2 c2 d2 ea eb ec ed = rw (ea, eb, ec, ed) refl

declared-again : (d : Declared) → (to_declared (spelled.declared_number d) ≡ d) × (spelled.declared_number d ≤ 15)
declared-again d =
    let n : ℕ = spelled.declared_number d in
    let b = bits-number (simple.flag d.shadows) (simple.flag d.levels) (simple.flag d.aside) (simple.flag d.item) (flag_small d.shadows) (flag_small d.levels) (flag_small d.aside) (flag_small d.item) n refl in
    (declared-same (n % 2 == 1) (n / 2 % 2 == 1) (n / 4 % 2 == 1) (n / 8 == 1) d.shadows d.levels d.aside d.item (one-flag _ d.shadows b.0) (one-flag _ d.levels b.1) (one-flag _ d.aside b.2) (one-flag _ d.item b.3), b.4)

number-declared : (n : ℕ) → (n < 256) × (is_between 0 15 n ≡ true) → spelled.declared_number (to_declared n) ≡ n
unfolding all_below
number-declared n h = same _ _ (below 16 (λ c. spelled.declared_number (to_declared c) == c) refl n (high n h.1))
  where
    high : (n : ℕ) → is_between 0 15 n ≡ true → n < 16
    high n h = grind (arith, nat_tests)

abbrev pub spelled_declared : Declared → List ℕ
spelled_declared d = spelled.declared_number d ∷ []

pub IsFormat-declared : (aside item : Bool) → IsFormat (declared_at aside item) spelled_declared (λ d. may_be_declared aside item d ≡ true)
unfolding declared_at
IsFormat-declared aside item =
    IsFormat-as (declared_at aside item) spelled_declared (λ d. ((spelled.declared_number d < 256) × (is_between 0 15 (spelled.declared_number d) ≡ true)) × (may_be_declared aside item d ≡ true)) (λ d. may_be_declared aside item d ≡ true) (λ d h. h.1)
    (λ d h. let few = (declared-again d).1 in ((omega (arith, few), is_within 15 (spelled.declared_number d) few), h))
    (IsFormat-checked fault.Field (may_be_declared aside item) _ spelled_declared _ (IsFormat-mapped to_declared spelled.declared_number (byte_between 0 15) spelled_byte _ number-declared (λ d h. (declared-again d).0) (IsFormat-byte_between 0 15)))

-- ---- the parts

not_true : (b : Bool) → not b ≡ true → b ≡ false
not_true true h = cc
not_true false h = refl

true_not : (b : Bool) → b ≡ false → not b ≡ true
true_not b h = rw h refl

not_false : (b : Bool) → not b ≡ false → b ≡ true
not_false true h = refl
not_false false h = cc

and_parts : (a b : Bool) → (a && b) ≡ true → (a ≡ true) × (b ≡ true)
and_parts true b h = (refl, h)
and_parts false b h = cc

-- there is a place
abbrev has_place : BankShadows → Bool
has_place b = not (is_unshadowed b.first && is_unshadowed b.second)

-- right shadows, there or not
abbrev AreShadowsFor : Region → Bool → BankShadows → Type 0
AreShadowsFor region there b = (AreShadowsIn region b.first × AreShadowsIn region b.second) × (has_place b ≡ there)

shadows-are : (region : Region) (there : Bool) (b : BankShadows) → IsWhere no_bank_shadows (AreBankShadows region) there b → AreShadowsFor region there b
shadows-are region true b h = ((h.first, h.second), true_not (is_unshadowed b.first && is_unshadowed b.second) h.some)
shadows-are region false b h = subst (AreShadowsFor region false) (sym h) ((tt, tt), refl)

are-shadows : (region : Region) (there : Bool) (b : BankShadows) → AreShadowsFor region there b → IsWhere no_bank_shadows (AreBankShadows region) there b
are-shadows region true b h = record { first = h.0.0; second = h.0.1; some = not_true (is_unshadowed b.first && is_unshadowed b.second) h.1 }
are-shadows region false b h =
    let none = and_parts (is_unshadowed b.first) (is_unshadowed b.second) (not_false (is_unshadowed b.first && is_unshadowed b.second) h.1) in
    both_same b.first no_shadows b.second no_shadows (unshadowed-is b.first none.0) (unshadowed-is b.second none.1)
  where
    both_same : (a c d e : Shadows) → a ≡ c → d ≡ e → (let x : BankShadows = record { first = a; second = d } in x) ≡ record { first = c; second = e }
    both_same a c d e f g = rw (f, g) refl

IsFormat-shadows_where : (region : Region) (there : Bool) → IsFormat (defaulted no_bank_shadows there (bank_shadows_at region)) (λ b. told.where_there (has_place b) (spelled.bank_shadows b)) (AreShadowsFor region there)
IsFormat-shadows_where region there =
    IsFormat-as (defaulted no_bank_shadows there (bank_shadows_at region)) (λ b. told.where_there (has_place b) (spelled.bank_shadows b)) (IsWhere no_bank_shadows (AreBankShadows region) there) (AreShadowsFor region there) (shadows-are region there) (are-shadows region there)
    (IsFormat-defaulted no_bank_shadows has_place there (bank_shadows_at region) spelled.bank_shadows (AreBankShadows region) refl (λ b h. true_not (is_unshadowed b.first && is_unshadowed b.second) h.some) (IsFormat-bank_shadows region))

abbrev Levels : Type 0
Levels = ℕ × List Fill

abbrev says_level : Levels → Bool
says_level p = is_said p.0 (length p.1)

-- a right level and fills, there or not
record AreLevelsFor (facts : ℕ) (region : Region) (there : Bool) (p : Levels) : Type 0 where
  level : p.0 ≤ facts
  few : length p.1 ≤ fill_limit
  each : AllByRecursion (IsFill region) p.1
  said : says_level p ≡ there

levels-are : (facts : ℕ) (region : Region) (there : Bool) (p : Levels) → IsWhere no_levels (AreLevels facts region) there p → AreLevelsFor facts region there p
levels-are facts region true p h = record { level = h.level; few = h.few; each = h.each; said = h.said }
levels-are facts region false p h = subst (AreLevelsFor facts region false) (sym h) (record { level = omega arith; few = omega arith; each = tt; said = refl })

are-levels : (facts : ℕ) (region : Region) (there : Bool) (p : Levels) → AreLevelsFor facts region there p → IsWhere no_levels (AreLevels facts region) there p
are-levels facts region true p h = record { level = h.level; few = h.few; said = h.said; each = h.each }
are-levels facts region false p h =
    let none = and_parts (p.0 == 0) (length p.1 == 0) (not_false (p.0 == 0 && length p.1 == 0) h.said) in
    both_same p.0 0 p.1 [] (same p.0 0 none.0) (no-fills p.1 none.1)
  where
    both_same : (n m : ℕ) (f g : List Fill) → n ≡ m → f ≡ g → (let x : Levels = (n, f) in x) ≡ (m, g)
    both_same n m f g a b = rw (a, b) refl

IsFormat-levels_where : (facts : ℕ) (region : Region) (there : Bool) → facts < 65536 → IsFormat (defaulted no_levels there (levels_at facts region)) (λ p. told.where_there (says_level p) (spelled.levels p)) (AreLevelsFor facts region there)
IsFormat-levels_where facts region there small =
    IsFormat-as (defaulted no_levels there (levels_at facts region)) (λ p. told.where_there (says_level p) (spelled.levels p)) (IsWhere no_levels (AreLevels facts region) there) (AreLevelsFor facts region there) (levels-are facts region there) (are-levels facts region there)
    (IsFormat-defaulted no_levels says_level there (levels_at facts region) spelled.levels (AreLevels facts region) refl (λ p h. h.said) (IsFormat-levels facts region small))

-- ---- all of them

abbrev Parts : Type 0
Parts = BankShadows × (Levels × Option Bounds)

from_summary : SummaryParts → Parts
from_summary s = (s.shadows, ((s.level, s.fills), s.aside))

abbrev IsAside : Bool → Option Bounds → Type 0
IsAside there o = (is_some o ≡ there) × IfSome o AreBounds

abbrev AreParts : ℕ → Region → Declared → Parts → Type 0
AreParts facts region d p = AreShadowsFor region d.shadows p.0 × (AreLevelsFor facts region d.levels p.1.0 × IsAside d.aside p.1.1)

-- a right summary whose parts are there as these say
pub record IsSummaryFor (facts : ℕ) (region : Region) (d : Declared) (s : SummaryParts) : Type 0 where
  pub level : s.level ≤ facts
  pub few : length s.fills ≤ fill_limit
  pub fills : AllByRecursion (IsFill region) s.fills
  pub first : AreShadowsIn region s.shadows.first
  pub second : AreShadowsIn region s.shadows.second
  pub aside : IfSome s.aside AreBounds
  pub has_shadows : has_place s.shadows ≡ d.shadows
  pub has_levels : is_said s.level (length s.fills) ≡ d.levels
  pub has_aside : is_some s.aside ≡ d.aside

pub IsFormat-summary : (facts : ℕ) (region : Region) (d : Declared) → facts < 65536 → IsFormat (summary_at facts region d) spelled.summary (IsSummaryFor facts region d)
unfolding summary_at from_summary spelled.summary
IsFormat-summary facts region d small =
    IsFormat-as (summary_at facts region d) spelled.summary (λ s. AreParts facts region d (from_summary s)) (IsSummaryFor facts region d)
    (λ s h. record { level = h.1.0.level; few = h.1.0.few; fills = h.1.0.each; first = h.0.0.0; second = h.0.0.1; aside = h.1.1.1; has_shadows = h.0.1; has_levels = h.1.0.said; has_aside = h.1.1.0 })
    (λ s h. (((h.first, h.second), h.has_shadows), (record { level = h.level; few = h.few; each = h.fills; said = h.has_levels }, (h.has_aside, h.aside))))
    (IsFormat-mapped to_summary from_summary _ (λ p. told.where_there (has_place p.0) (spelled.bank_shadows p.0) ++ (told.where_there (says_level p.1.0) (spelled.levels p.1.0) ++ told.optional told.bounds p.1.1)) (AreParts facts region d) (λ x h. refl) (λ y h. refl)
    (IsFormat-both (defaulted no_bank_shadows d.shadows (bank_shadows_at region)) _ _ _ _ _ (IsFormat-shadows_where region d.shadows)
    (IsFormat-both (defaulted no_levels d.levels (levels_at facts region)) (optional d.aside bounds_at) _ _ _ _ (IsFormat-levels_where facts region d.levels small) (IsFormat-option d.aside bounds_at told.bounds AreBounds IsFormat-bounds))))

-- ---- what a procedure names

pub IsFormat-free_address : (region : Region) (least : ℕ) → IsFormat (free_address_at region least) simple.word (IsFreeFrom region least)
unfolding free_address_at
IsFormat-free_address region least =
    IsFormat-as (free_address_at region least) simple.word (λ a. (is_free_byte region a ≡ true) × (nat_le least a ≡ true)) (IsFreeFrom region least) (λ a h. record { order = le_is least a h.1; free = h.0 }) (λ a h. (h.free, is_le least a h.order))
    (IsFormat-checked fault.Order (nat_le least) (address_at region) simple.word (λ a. is_free_byte region a ≡ true) (IsFormat-address region))

kept_small : (is_main : Bool) → kept_room is_main < 256
kept_small true = omega arith
kept_small false = omega arith

pub IsFormat-kept_addresses : (is_main : Bool) (region : Region) → IsFormat (kept_addresses_at is_main region) spelled.kept_addresses (AreKept is_main region)
unfolding kept_addresses_at spelled.kept_addresses
IsFormat-kept_addresses is_main region =
    IsFormat-as (kept_addresses_at is_main region) spelled.kept_addresses (λ xs. (length xs ≤ kept_room is_main) × IsChain (IsFreeFrom region) after_address 0 xs) (AreKept is_main region) (λ xs h. record { few = h.0; chain = h.1 }) (λ xs h. (h.few, h.chain))
    (IsFormat-counted (count_within (kept_room is_main)) spelled_byte (λ n. n ≤ kept_room is_main) (free_address_at region) after_address simple.word (IsFreeFrom region) 0 (IsFormat-count_within (kept_room is_main) (kept_small is_main)) (IsFormat-free_address region))

-- ---- what a certificate says

IsFormat-word_count_within : (limit : ℕ) → limit < 65536 → IsFormat (word_count_within limit) simple.word (λ n. n ≤ limit)
IsFormat-word_count_within limit small =
    IsFormat-as (word_count_within limit) simple.word (λ n. (n < 65536) × (is_between 0 limit n ≡ true)) (λ n. n ≤ limit) (λ n h. within limit n h.1) (λ n h. (omega (arith, h, small), is_within limit n h))
    (IsFormat-checked fault.Count (is_between 0 limit) word simple.word (λ n. n < 65536) IsFormat-word)

pub IsFormat-facts : (region : Region) → IsFormat (facts_at region) spelled.facts (AreFacts region)
unfolding facts_at spelled.facts
IsFormat-facts region =
    IsFormat-as (facts_at region) spelled.facts (λ fs. (length fs ≤ fact_limit) × IsChain {S = Unit {0}} (λ s. IsFact region) (λ f. tt) tt fs) (AreFacts region) (λ fs h. record { few = h.0; each = all_of_chain (IsFact region) fs h.1 }) (λ fs h. (h.few, chain_of_all (IsFact region) fs h.each))
    (IsFormat-counted {S = Unit {0}} (word_count_within fact_limit) simple.word (λ n. n ≤ fact_limit) (λ s. fact_at region) (λ f. tt) spelled.fact (λ s. IsFact region) tt (IsFormat-word_count_within fact_limit (omega arith)) (λ s. IsFormat-fact region))
