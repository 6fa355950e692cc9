-- What is read where it is said alone how many facts hold.
use Rattle.std.proofs.Common.{◌≡◌, ℕ, ◌+◌, ◌-◌, ◌*◌, ◌≤◌, ◌<◌, ◌==◌, Bool, true, false, not, ◌&&◌, List, [], ◌∷◌, length, take, drop, slice_index, Option, Some, None, is_some, Result, Ok, refl, sym, ap, subst, ◌∙◌, arith}
use Rattle.std.proofs.lemmas.Bool.Decides.{nat_tests}
use Rattle.std.proofs.lemmas.List.{take_all}
use Rattle.gb_ops.specs.declared.machine.Region.{Region}
use Rattle.gb_fields.specs.declared.fault.CertFault.{CertFault}
use Rattle.gb_fields.specs.declared.fault.CertFault.TheVariants as fault
use Rattle.gb_fields.specs.Format.{Read, go_on, followed, both, mapped, if_passes, optional, several}
use Rattle.gb_fields.specs.Reading.{is_between, word_of, word, word_between}
use Rattle.gb_domain.specs.declared.places.StackBytes.{StackBytes}
use Rattle.gb_domain.specs.declared.pairs.Bounds.{Bounds}
use Rattle.gb_domain.specs.declared.pairs.Pairs.{Pairs}
use Rattle.gb_domain.specs.declared.pairs.WordPair.{WordPair}
use Rattle.gb_domain.specs.declared.places.OneByte.{OneByte}
use Rattle.gb_domain.specs.declared.summary.Fill.{Fill}
use Rattle.gb_domain.specs.Pairs.{no_pairs}
use Rattle.gb_domain.specs.Places.{no_byte}
use Rattle.gb_domain.specs.Relations.{no_relations}
use Rattle.gb_domain.specs.Silent.{level_alone}
use Rattle.gb_domain.specs.Summaries.{SummaryParts, no_bank_shadows}
use Rattle.gb_states.specs.declared.relations.InMemory.TheVariants.{Nowhere}
use Rattle.gb_states.specs.declared.relations.Present.{Present}
use Rattle.gb_states.specs.declared.whole.Declared.{Declared}
use Rattle.gb_states.specs.RelationReading.{defaulted, to_present, present_at, bounds_at, pairs_at, parts_at}
use Rattle.gb_states.specs.WholeRules.{is_said}
use Rattle.gb_states.specs.WholeReading.{fill_at, fill_count_at, fills_at, levels_at, bank_shadows_at, to_declared, declared_at, to_summary, summary_at, to_told, may_be_item, present_declared_at, place_of, told_at}

-- ---- fields that are read

followed_is :
    {X Y : Type 0} (r : Read X) (t : X → Read Y) (bytes middle end : List ℕ) (x : X) (y : Y)
    → r bytes ≡ Ok (x, middle) → t x middle ≡ Ok (y, end) → followed r t bytes ≡ Ok ((x, y), end)
followed_is {X} {Y} r t bytes middle end x y e g =
    ap (λ (z : Result (X × List ℕ) CertFault). go_on z (λ x rest. go_on (t x rest) (λ y end. Ok ((x, y), end)))) e
    ∙ ap (λ (z : Result (Y × List ℕ) CertFault). go_on z (λ y end. Ok ((x, y), end))) g

mapped_is : {X Y : Type 0} (f : X → Y) (r : Read X) (bytes end : List ℕ) (x : X) → r bytes ≡ Ok (x, end) → mapped f r bytes ≡ Ok (f x, end)
mapped_is {X} {Y} f r bytes end x e = ap (λ (z : Result (X × List ℕ) CertFault). go_on z (λ x rest. Ok (f x, rest))) e

-- ---- a level without fills

between : (facts n : ℕ) → n ≤ facts → is_between 0 facts n ≡ true
between facts n h = grind (arith, nat_tests)

level_is : (facts low high : ℕ) (rest : List ℕ) → word_of (low, high) ≤ facts → word_between 0 facts (low ∷ high ∷ rest) ≡ Ok (word_of (low, high), rest)
unfolding word
level_is facts low high rest h =
    ap (λ b. if_passes fault.Field b (word_of (low, high)) rest) (between facts (word_of (low, high)) h)

some_level : (n : ℕ) → 0 < n → (n == 0) ≡ false
some_level n h = grind (arith, nat_tests)

said : (level : ℕ) → 0 < level → is_said level 0 ≡ true
said level h = ap (λ b. not (b && true)) (some_level level h)

abbrev some_of : Region → ℕ → Read (List Fill)
some_of region = several {S = Unit {0}} {X = Fill} (λ s. fill_at region) (λ f. tt) tt

no_fills : (region : Region) (level : ℕ) (rest : List ℕ) → 0 < level → fills_at region level (0 ∷ rest) ≡ Ok ([], rest)
unfolding fills_at fill_count_at several
no_fills region level rest h =
    mapped_is (λ p. p.1) (followed (fill_count_at level) (some_of region)) (0 ∷ rest) rest (0, [])
    (followed_is (fill_count_at level) (some_of region) (0 ∷ rest) rest rest 0 [] (ap (λ b. if_passes fault.Field b 0 rest) (said level h)) refl)

levels_are :
    (facts low high : ℕ) (region : Region) (rest : List ℕ) → 0 < word_of (low, high) → word_of (low, high) ≤ facts
    → levels_at facts region (low ∷ high ∷ 0 ∷ rest) ≡ Ok ((word_of (low, high), []), rest)
unfolding levels_at
levels_are facts low high region rest some few =
    followed_is (word_between 0 facts) (fills_at region) (low ∷ high ∷ 0 ∷ rest) (0 ∷ rest) rest (word_of (low, high)) [] (level_is facts low high (0 ∷ rest) few) (no_fills region (word_of (low, high)) rest some)

abbrev behind_shadows : ℕ → Region → Read ((ℕ × List Fill) × Option Bounds)
behind_shadows facts region = both (levels_at facts region) (optional false bounds_at)

summary_is :
    (facts low high : ℕ) (region : Region) (rest : List ℕ) → 0 < word_of (low, high) → word_of (low, high) ≤ facts
    → summary_at facts region (to_declared 2) (low ∷ high ∷ 0 ∷ rest) ≡ Ok (level_alone (word_of (low, high)), rest)
unfolding summary_at
summary_is facts low high region rest some few =
    mapped_is to_summary (both (defaulted no_bank_shadows false (bank_shadows_at region)) (behind_shadows facts region)) (low ∷ high ∷ 0 ∷ rest) rest (no_bank_shadows, ((word_of (low, high), []), None))
    (followed_is (defaulted no_bank_shadows false (bank_shadows_at region)) (λ x. behind_shadows facts region) (low ∷ high ∷ 0 ∷ rest) (low ∷ high ∷ 0 ∷ rest) rest no_bank_shadows ((word_of (low, high), []), None) refl
    (followed_is (levels_at facts region) (λ x. optional false bounds_at) (low ∷ high ∷ 0 ∷ rest) rest rest (word_of (low, high), []) None (levels_are facts low high region rest some few) refl))

declared_is : (may : Bool) (rest : List ℕ) → declared_at may false (2 ∷ rest) ≡ Ok (to_declared 2, rest)
unfolding declared_at
declared_is true rest = refl
declared_is false rest = refl

present_is : (rest : List ℕ) → present_at None (0 ∷ rest) ≡ Ok (to_present 0, rest)
unfolding present_at
present_is rest = refl

abbrev no_parts : OneByte × (Option WordPair × Pairs)
no_parts = (no_byte, (None, no_pairs))

abbrev parts_behind : ℕ → StackBytes → Present × Declared → Read ((OneByte × (Option WordPair × Pairs)) × SummaryParts)
parts_behind facts k d = both (parts_at true k None (place_of d) d.0) (summary_at facts k.region d.1)

told_is :
    (facts low high : ℕ) (k : StackBytes) (may : Bool) (rest : List ℕ) → 0 < word_of (low, high) → word_of (low, high) ≤ facts
    → told_at facts k may None (0 ∷ 2 ∷ low ∷ high ∷ 0 ∷ rest) ≡ Ok ((no_relations, level_alone (word_of (low, high))), rest)
unfolding told_at pairs_at
told_is facts low high k may rest some few =
    mapped_is to_told (followed (present_declared_at k may None) (parts_behind facts k)) (0 ∷ 2 ∷ low ∷ high ∷ 0 ∷ rest) rest ((to_present 0, to_declared 2), (no_parts, level_alone (word_of (low, high))))
    (followed_is (present_declared_at k may None) (parts_behind facts k) (0 ∷ 2 ∷ low ∷ high ∷ 0 ∷ rest) (low ∷ high ∷ 0 ∷ rest) rest (to_present 0, to_declared 2) (no_parts, level_alone (word_of (low, high)))
    (followed_is (present_at None) (λ p. declared_at may (may_be_item k p)) (0 ∷ 2 ∷ low ∷ high ∷ 0 ∷ rest) (2 ∷ low ∷ high ∷ 0 ∷ rest) (low ∷ high ∷ 0 ∷ rest) (to_present 0) (to_declared 2) (present_is (2 ∷ low ∷ high ∷ 0 ∷ rest)) (declared_is may (low ∷ high ∷ 0 ∷ rest)))
    (followed_is (parts_at true k None Nowhere (to_present 0)) (λ x. summary_at facts k.region (to_declared 2)) (low ∷ high ∷ 0 ∷ rest) (low ∷ high ∷ 0 ∷ rest) rest no_parts (level_alone (word_of (low, high))) refl (summary_is facts low high k.region rest some few)))

pub level_told :
    (facts : ℕ) (test : Option ℕ) (bytes : List ℕ) (level : ℕ) → 5 ≤ length bytes
    → slice_index bytes 0 ≡ 0 → slice_index bytes 1 ≡ 2 → slice_index bytes 4 ≡ 0 → is_some test ≡ false
    → level ≡ slice_index bytes 2 + slice_index bytes 3 * 256 → 0 < level → level ≤ facts
    → (k : StackBytes) (may : Bool) → told_at facts k may test bytes ≡ Ok ((no_relations, level_alone level), take (length bytes - 5) (drop 5 bytes))
level_told facts (Some n) bytes level h present declared fills none is some few k may = cc
level_told facts None [] level h present declared fills none is some few k may = absurd (omega arith)
level_told facts None (a ∷ []) level h present declared fills none is some few k may = absurd (omega arith)
level_told facts None (a ∷ b ∷ []) level h present declared fills none is some few k may = absurd (omega arith)
level_told facts None (a ∷ b ∷ c ∷ []) level h present declared fills none is some few k may = absurd (omega arith)
level_told facts None (a ∷ b ∷ c ∷ d ∷ []) level h present declared fills none is some few k may = absurd (omega arith)
level_told facts None (a ∷ b ∷ c ∷ d ∷ e ∷ rest) level h present declared fills none is some few k may =
    let long : length (a ∷ b ∷ c ∷ d ∷ e ∷ rest) - 5 ≡ length rest = omega arith in
    let same : level ≡ word_of (c, d) = (let q : level ≡ c + d * 256 = is in omega arith) in
    let more : 0 < word_of (c, d) = subst (λ n. 0 < n) same some in
    let fewer : word_of (c, d) ≤ facts = subst (λ n. n ≤ facts) same few in
    ap (λ n. told_at facts k may None (n ∷ b ∷ c ∷ d ∷ e ∷ rest)) present
    ∙ (ap (λ n. told_at facts k may None (0 ∷ n ∷ c ∷ d ∷ e ∷ rest)) declared
    ∙ (ap (λ n. told_at facts k may None (0 ∷ 2 ∷ c ∷ d ∷ n ∷ rest)) fills
    ∙ (told_is facts c d k may rest more fewer
    ∙ (ap (λ (n : ℕ). Ok ((no_relations, level_alone n), rest)) (sym same)
    ∙ ap (λ (xs : List ℕ). Ok ((no_relations, level_alone level), xs)) (sym (ap (λ (n : ℕ). take n rest) long ∙ take_all (length rest) rest (omega arith)))))))
