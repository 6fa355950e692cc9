-- What a state says of several of its parts together: what is read is spelled so, and what is spelled so is read.
use Rattle.std.proofs.Common.{◌≡◌, ℕ, ◌+◌, ◌*◌, ◌/◌, ◌%◌, ◌<◌, ◌≤◌, Bool, true, false, ◌&&◌, ◌||◌, ◌==◌, nat_le, List, [], ◌∷◌, ◌++◌, Option, Some, None, refl, sym, ◌∙◌, ap, subst, arith}
use Rattle.std.specs.Prelude.{not, IfSome, is_some, is_none}
use Rattle.std.proofs.lemmas.Bool.Decides.{nat_tests}
use Rattle.gb_ops.specs.declared.machine.Region.{Region}
use Rattle.gb_ops.specs.declared.registers.Registers.{Registers}
use Rattle.gb_fields.specs.declared.fault.CertFault.TheVariants as fault
use Rattle.gb_domain.specs.declared.pairs.WordPair.{WordPair}
use Rattle.gb_domain.specs.declared.pairs.WordPair.TheVariants.{Bc, De, Hl}
use Rattle.gb_domain.specs.declared.pairs.PairFacts.{PairFacts}
use Rattle.gb_domain.specs.declared.pairs.Pairs.{Pairs}
use Rattle.gb_domain.specs.declared.places.Test.{Test}
use Rattle.gb_domain.specs.declared.places.Test.TheVariants.{Compare, Bits}
use Rattle.gb_domain.specs.declared.places.OneByte.{OneByte}
use Rattle.gb_domain.specs.declared.places.StackBytes.{StackBytes}
use Rattle.gb_domain.specs.declared.relations.Relations.{Relations}
use Rattle.gb_domain.specs.declared.rules.Rules.{Rules}
use Rattle.gb_domain.specs.declared.rules.Rules.TheVariants.{Simple, Extended}
use Rattle.gb_domain.specs.Areas.{is_free_byte}
use Rattle.gb_domain.specs.Pairs.{nothing_known, no_pairs, facts_of, IsPairFacts}
use Rattle.gb_domain.specs.Places.{no_byte}
use Rattle.gb_fields.specs.Format.{both, optional, byte}
use Rattle.gb_fields.specs.Reading.{is_between, byte_between}
use Rattle.gb_states.specs.declared.relations.Present.{Present}
use Rattle.gb_states.specs.declared.relations.InMemory.{InMemory}
use Rattle.gb_states.specs.declared.relations.InMemory.TheVariants.{Nowhere, Address, Item}
use Rattle.gb_domain.specs.RelationRules.{is_some_register, has_place, operand, compared, bits_of, IsOneByte, is_known, IsRelations, test_byte, test_alone, is_a_alone, is_test_byte, are_unknown, is_test_alone}
use Rattle.gb_states.specs.Links.{are_linked}
use Rattle.gb_states.specs.Rules.{may_be_known}
use Rattle.gb_states.specs.RelationReading.{defaulted, to_present, is_present, present_at, to_registers, have_place, registers_at, is_somewhere, place_by, memory_at, test_of, to_byte, byte_at, pair_at, pairs_at, to_relations, parts_at, no_items, relations_at, relations_by}
use Rattle.gb_states.specs.Spelling as spelled
use Rattle.gb_states.specs.RelationSpelling as told
use Rattle.gb_states.specs.WholeSpelling.{is_address, memory}
use Rattle.gb_states.proofs.Formats.{IsFormat, IsFormat-byte, IsFormat-nothing, IsFormat-both, IsFormat-followed, IsFormat-checked, IsFormat-onto, IsFormat-mapped, IsFormat-as, IsFormat-spelled}
use Rattle.gb_states.proofs.FieldLaws.{le_is, is_le, and_both, is_within, all_below, below, same, flag_small, one-flag, spelled_byte, IsFormat-byte_between}
use Rattle.gb_states.proofs.PlaceLaws.{IsFormat-option, may_be_in, LiesIn, IsFormat-memory, memory-plain, somewhere, free-there, there-free}
use Rattle.gb_states.proofs.PairLaws.{IsWhere, IsFormat-defaulted, neither, none-is, some-pair, IsFormat-pair, MayBeLinked, AreFactsFor, facts-absent, ArePairsFor, IsFormat-pairs, AreLinked, pairs-linked, each-linked}

-- ---- seven bits

abbrev seven : Bool → Bool → Bool → Bool → Bool → Bool → Bool → ℕ
seven a b c d e f g = 64 * spelled.flag g + 32 * spelled.flag f + 16 * spelled.flag e + 8 * spelled.flag d + 4 * spelled.flag c + 2 * spelled.flag b + spelled.flag a

bits-number : (a b c d e f g : ℕ) → a ≤ 1 → b ≤ 1 → c ≤ 1 → d ≤ 1 → e ≤ 1 → f ≤ 1 → g ≤ 1 → (n : ℕ) → n ≡ 64 * g + 32 * f + 16 * e + 8 * d + 4 * c + 2 * b + a
    → (n % 2 ≡ a) × (n / 2 % 2 ≡ b) × (n / 4 % 2 ≡ c) × (n / 8 % 2 ≡ d) × (n / 16 % 2 ≡ e) × (n / 32 % 2 ≡ f) × (n / 64 ≡ g) × (n ≤ 127)
bits-number a b c d e f g a1 b1 c1 d1 e1 f1 g1 n e0 = (omega arith, omega arith, omega arith, omega arith, omega arith, omega arith, omega arith, omega arith)

seven-bits : (a b c d e f g : Bool) (n : ℕ) → n ≡ seven a b c d e f g
    → ((n % 2 == 1) ≡ a) × ((n / 2 % 2 == 1) ≡ b) × ((n / 4 % 2 == 1) ≡ c) × ((n / 8 % 2 == 1) ≡ d) × ((n / 16 % 2 == 1) ≡ e) × ((n / 32 % 2 == 1) ≡ f) × ((n / 64 == 1) ≡ g) × (n ≤ 127)
seven-bits a b c d e f g n same =
    let k = bits-number (spelled.flag a) (spelled.flag b) (spelled.flag c) (spelled.flag d) (spelled.flag e) (spelled.flag f) (spelled.flag g) (flag_small a) (flag_small b) (flag_small c) (flag_small d) (flag_small e) (flag_small f) (flag_small g) n same in
    (one-flag _ a k.0, one-flag _ b k.1, one-flag _ c k.2, one-flag _ d k.3, one-flag _ e k.4, one-flag _ f k.5, one-flag _ g k.6, k.7)

-- so small a byte
abbrev pub IsSeven : ℕ → Type 0
IsSeven n = (n < 256) × (is_between 0 127 n ≡ true)

pub is_seven : (n : ℕ) → n ≤ 127 → IsSeven n
is_seven n h = (omega arith, is_within 127 n h)

below_seven : (n : ℕ) → is_between 0 127 n ≡ true → n < 128
below_seven n h = grind (arith, nat_tests)

abbrev present : Bool → Bool → Bool → Bool → Bool → Bool → Bool → Present
present a b c d e f g = record { byte = a; address = b; bits = c; zero = d; bc = e; de = f; hl = g }

present-same : (a b c d e f g a2 b2 c2 d2 e2 f2 g2 : Bool) → a ≡ a2 → b ≡ b2 → c ≡ c2 → d ≡ d2 → e ≡ e2 → f ≡ f2 → g ≡ g2 → present a b c d e f g ≡ present a2 b2 c2 d2 e2 f2 g2
present-same a b c d e f g a2 b2 c2 d2 e2 f2 g2 ea eb ec ed ee ef eg = rw (ea, eb, ec, ed, ee, ef, eg) refl

present-number : (p : Present) → (to_present (told.present_number p) ≡ p) × (told.present_number p ≤ 127)
present-number p = by p.byte p.address p.bits p.zero p.bc p.de p.hl
  where
    by : (a b c d e f g : Bool) → (to_present (seven a b c d e f g) ≡ present a b c d e f g) × (seven a b c d e f g ≤ 127)
    by a b c d e f g =
        let n : ℕ = seven a b c d e f g in
        let k = seven-bits a b c d e f g n refl in
        (present-same (n % 2 == 1) (n / 2 % 2 == 1) (n / 4 % 2 == 1) (n / 8 % 2 == 1) (n / 16 % 2 == 1) (n / 32 % 2 == 1) (n / 64 == 1) a b c d e f g k.0 k.1 k.2 k.3 k.4 k.5 k.6, k.7)

number-present : (n : ℕ) → IsSeven n → told.present_number (to_present n) ≡ n
unfolding all_below
number-present n h = same _ _ (below 128 (λ c. told.present_number (to_present c) == c) refl n (below_seven n h.1))

abbrev pub spelled_present : Present → List ℕ
spelled_present p = told.byte (told.present_number p)

pub IsFormat-present : (test : Option ℕ) → IsFormat (present_at test) spelled_present (λ p. is_present test p ≡ true)
unfolding present_at
IsFormat-present test =
    IsFormat-as (present_at test) spelled_present (λ p. IsSeven (told.present_number p) × (is_present test p ≡ true)) (λ p. is_present test p ≡ true) (λ p h. h.1) (λ p h. (is_seven (told.present_number p) (present-number p).1, h))
    (IsFormat-checked fault.Field (is_present test) _ spelled_present _ (IsFormat-mapped to_present told.present_number (byte_between 0 127) spelled_byte _ number-present (λ p h. (present-number p).0) (IsFormat-byte_between 0 127)))

-- a number below 128, and 128 more or not
pub split : (n : ℕ) (b : Bool) → n < 256 → nat_le 128 n ≡ b → 128 * spelled.flag b + n % 128 ≡ n
split n true h e = let high : 128 ≤ n = le_is 128 n e in omega (arith, high)
split n false h e = let low : n < 128 = grind (arith, nat_tests, e) in omega (arith, low)

pub split-parts : (b : Bool) (r : ℕ) → r ≤ 127 → ((128 * spelled.flag b + r) % 128 ≡ r) × (nat_le 128 (128 * spelled.flag b + r) ≡ b)
split-parts true r h = (omega arith, is_le 128 (128 + r) (omega arith))
split-parts false r h = (omega arith, less (128 * spelled.flag false + r) (omega (arith, h)))
  where
    less : (n : ℕ) → n ≤ 127 → nat_le 128 n ≡ false
    less n h = grind (arith, nat_tests)

-- ---- places that hold one byte

abbrev registers : Bool → Bool → Bool → Bool → Bool → Bool → Bool → Registers Bool
registers a b c d e f g = record { a = a; b = b; c = c; d = d; e = e; h = f; l = g }

registers-same : (a b c d e f g a2 b2 c2 d2 e2 f2 g2 : Bool) → a ≡ a2 → b ≡ b2 → c ≡ c2 → d ≡ d2 → e ≡ e2 → f ≡ f2 → g ≡ g2 → registers a b c d e f g ≡ registers a2 b2 c2 d2 e2 f2 g2
registers-same a b c d e f g a2 b2 c2 d2 e2 f2 g2 ea eb ec ed ee ef eg = rw (ea, eb, ec, ed, ee, ef, eg) refl

pub registers-number : (s : Registers Bool) → (to_registers (told.registers_number s) ≡ s) × (told.registers_number s ≤ 127)
registers-number s = by s.a s.b s.c s.d s.e s.h s.l
  where
    by : (a b c d e f g : Bool) → (to_registers (seven a b c d e f g) ≡ registers a b c d e f g) × (seven a b c d e f g ≤ 127)
    by a b c d e f g =
        let n : ℕ = seven a b c d e f g in
        let k = seven-bits a b c d e f g n refl in
        (registers-same (n % 2 == 1) (n / 2 % 2 == 1) (n / 4 % 2 == 1) (n / 8 % 2 == 1) (n / 16 % 2 == 1) (n / 32 % 2 == 1) (n / 64 == 1) a b c d e f g k.0 k.1 k.2 k.3 k.4 k.5 k.6, k.7)

pub number-registers : (n : ℕ) → IsSeven n → told.registers_number (to_registers n) ≡ n
unfolding all_below
number-registers n h = same _ _ (below 128 (λ c. told.registers_number (to_registers c) == c) refl n (below_seven n h.1))

abbrev spelled_registers : Registers Bool → List ℕ
spelled_registers s = told.byte (told.registers_number s)

IsFormat-registers : (in_memory : Bool) → IsFormat (registers_at in_memory) spelled_registers (λ s. have_place in_memory s ≡ true)
unfolding registers_at
IsFormat-registers in_memory =
    IsFormat-as (registers_at in_memory) spelled_registers (λ s. IsSeven (told.registers_number s) × (have_place in_memory s ≡ true)) (λ s. have_place in_memory s ≡ true) (λ s h. h.1) (λ s h. (is_seven (told.registers_number s) (registers-number s).1, h))
    (IsFormat-checked fault.Field (have_place in_memory) _ spelled_registers _ (IsFormat-mapped to_registers told.registers_number (byte_between 0 127) spelled_byte _ number-registers (λ s h. (registers-number s).0) (IsFormat-byte_between 0 127)))

-- the state's test and the bits of another aren't there both
abbrev IsOneTest : Option ℕ → Bool → Type 0
IsOneTest test bits = not (is_some test && bits) ≡ true

-- one byte at some place, a place in memory and bits there as these say
record IsPlaces (k : StackBytes) (test : Option ℕ) (at : InMemory) (bits : Bool) (b : OneByte) : Type 0 where
  place : has_place b ≡ true
  memory : LiesIn k at b.address
  has_bits : is_some (bits_of b.test) ≡ bits
  compares : compared b.test ≡ test
  small : IfSome b.test (λ t. operand t < 256)

from_byte : OneByte → Registers Bool × (Option ℕ × Option ℕ)
from_byte b = (b.registers, (b.address, bits_of b.test))

abbrev ArePlaces : StackBytes → InMemory → Bool → Registers Bool × (Option ℕ × Option ℕ) → Type 0
ArePlaces k at bits p = (have_place (is_somewhere at) p.0 ≡ true) × (LiesIn k at p.1.0 × ((is_some p.1.1 ≡ bits) × IfSome p.1.1 (λ m. m < 256)))

not_both : {X : Type 0} (bits : Bool) → not (true && bits) ≡ true → true ≡ bits → X
not_both true h e = absurd cc
not_both false h e = absurd cc

bits-kept : (test o : Option ℕ) (bits : Bool) → IsOneTest test bits → is_some o ≡ bits → bits_of (test_of test o) ≡ o
bits-kept (Some n) (Some m) bits h e = not_both bits h e
bits-kept (Some n) None bits h e = refl
bits-kept None (Some m) bits h e = refl
bits-kept None None bits h e = refl

test-compares : (test o : Option ℕ) → compared (test_of test o) ≡ test
test-compares (Some n) o = refl
test-compares None (Some m) = refl
test-compares None None = refl

test-small : (test o : Option ℕ) → IfSome test (λ n. n < 256) → IfSome o (λ m. m < 256) → IfSome (test_of test o) (λ t. operand t < 256)
test-small (Some n) o h g = h
test-small None (Some m) h g = g
test-small None None h g = tt

test-again : (t : Option Test) → test_of (compared t) (bits_of t) ≡ t
test-again (Some (Compare n)) = refl
test-again (Some (Bits m)) = refl
test-again None = refl

bits-small : (t : Option Test) → IfSome t (λ t. operand t < 256) → IfSome (bits_of t) (λ m. m < 256)
bits-small (Some (Compare n)) h = tt
bits-small (Some (Bits m)) h = h
bits-small None h = tt

byte-there : (k : StackBytes) (test : Option ℕ) (at : InMemory) (bits : Bool) → IsOneTest test bits → IfSome test (λ n. n < 256) → (p : Registers Bool × (Option ℕ × Option ℕ)) → ArePlaces k at bits p
    → (from_byte (to_byte test p) ≡ p) × IsPlaces k test at bits (to_byte test p)
unfolding from_byte
byte-there k test at bits one small p h = (
  ap (λ (o : Option ℕ). (let q : Registers Bool × (Option ℕ × Option ℕ) = (p.0, (p.1.0, o)) in q)) (bits-kept test p.1.1 bits one h.1.1.0),
  record {
    place = ap (λ a. a || is_some_register p.0) h.1.0.0 ∙ h.0;
    memory = h.1.0;
    has_bits = ap is_some (bits-kept test p.1.1 bits one h.1.1.0) ∙ h.1.1.0;
    compares = test-compares test p.1.1;
    small = test-small test p.1.1 small h.1.1.1;
  },
)

byte-again : (k : StackBytes) (test : Option ℕ) (at : InMemory) (bits : Bool) (b : OneByte) → IsPlaces k test at bits b → ArePlaces k at bits (from_byte b) × (to_byte test (from_byte b) ≡ b)
unfolding from_byte
byte-again k test at bits b h = (
  (sym (ap (λ a. a || is_some_register b.registers) h.memory.0) ∙ h.place, (h.memory, (h.has_bits, bits-small b.test h.small))),
  ap (λ (t : Option Test). (let q : OneByte = record { registers = b.registers; address = b.address; test = t } in q)) (ap (λ c. test_of c (bits_of b.test)) (sym h.compares) ∙ test-again b.test),
)

-- the places, as version 4 spells the one in memory
abbrev pub places_told : StackBytes → OneByte → List ℕ
places_told k b = told.places_by (memory k.region k.base b.address) b

IsFormat-places : (k : StackBytes) (test : Option ℕ) (at : InMemory) (bits : Bool) → IsOneTest test bits → IfSome test (λ n. n < 256) → k.count < 256 → IsFormat (byte_at k test at bits) (places_told k) (IsPlaces k test at bits)
unfolding byte_at from_byte told.places_by
IsFormat-places k test at bits one small few =
    IsFormat-onto (to_byte test) from_byte _ (λ p. spelled_registers p.0 ++ (memory k.region k.base p.1.0 ++ told.optional spelled_byte p.1.1)) (ArePlaces k at bits) (IsPlaces k test at bits) (byte-there k test at bits one small) (byte-again k test at bits)
    (IsFormat-both (registers_at (is_somewhere at)) (both (memory_at k at) (optional bits byte)) _ _ _ _ (IsFormat-registers (is_somewhere at))
    (IsFormat-both (memory_at k at) (optional bits byte) _ _ _ _ (IsFormat-memory k at few) (IsFormat-option bits byte spelled_byte (λ m. m < 256) IsFormat-byte)))

-- what holds of one byte where these parts are there
pub record IsByteFor (k : StackBytes) (test : Option ℕ) (there : Bool) (at : InMemory) (bits : Bool) (b : OneByte) : Type 0 where
  pub is_byte : IsOneByte (may_be_in k at) b
  pub place : has_place b ≡ there
  pub in_memory : is_some b.address ≡ is_somewhere at
  pub has_bits : is_some (bits_of b.test) ≡ bits
  pub compares : compared b.test ≡ test

-- there are a byte's parts only with the byte, and not two tests
abbrev pub AreParts : Option ℕ → Bool → Bool → Bool → Type 0
AreParts test there in_memory bits = ((there || not (in_memory || is_some test || bits)) && not (is_some test && bits)) ≡ true

absent-byte : (k : StackBytes) (test : Option ℕ) (at : InMemory) (bits : Bool) → AreParts test false (is_somewhere at) bits → IsByteFor k test false at bits no_byte
absent-byte k None Nowhere false h = record { is_byte = record { address = tt; place = refl; test = tt }; place = refl; in_memory = refl; has_bits = refl; compares = refl }
absent-byte k None Nowhere true h = absurd cc
absent-byte k None Address bits h = absurd cc
absent-byte k None Item bits h = absurd cc
absent-byte k (Some n) Nowhere bits h = absurd cc
absent-byte k (Some n) Address bits h = absurd cc
absent-byte k (Some n) Item bits h = absurd cc

pub no-registers : (s : Registers Bool) → is_some_register s ≡ false → s ≡ registers false false false false false false false
no-registers s h =
    let l = neither (s.a || s.b || s.c || s.d || s.e || s.h) s.l h in
    let k = neither (s.a || s.b || s.c || s.d || s.e) s.h l.0 in
    let e = neither (s.a || s.b || s.c || s.d) s.e k.0 in
    let d = neither (s.a || s.b || s.c) s.d e.0 in
    let c = neither (s.a || s.b) s.c d.0 in
    let b = neither s.a s.b c.0 in
    registers-same s.a s.b s.c s.d s.e s.h s.l false false false false false false false b.0 b.1 c.1 d.1 e.1 k.1 l.1

pub none_is : {X : Type 0} (o : Option X) → is_none o ≡ true → o ≡ None
none_is None h = refl
none_is (Some x) h = absurd cc

or-second : (a b : Bool) → (a || b) ≡ true → a ≡ false → b ≡ true
or-second true b h e = absurd cc
or-second false b h e = h

byte-same : (s t : Registers Bool) (a b : Option ℕ) (x y : Option Test) → s ≡ t → a ≡ b → x ≡ y → (let q : OneByte = record { registers = s; address = a; test = x } in q) ≡ record { registers = t; address = b; test = y }
byte-same s t a b x y es ea ex = rw (es, ea, ex) refl

byte-absent : (may_be : ℕ → Bool) (b : OneByte) → IsOneByte may_be b → has_place b ≡ false → b ≡ no_byte
byte-absent may_be b g h =
    let k = neither (is_some b.address) (is_some_register b.registers) h in
    byte-same b.registers _ b.address None b.test None (no-registers b.registers k.1) (none-is b.address k.0) (none_is b.test (or-second (has_place b) (is_none b.test) g.place h))

byte-is : (k : StackBytes) (test : Option ℕ) (there : Bool) (at : InMemory) (bits : Bool) → AreParts test there (is_somewhere at) bits → (b : OneByte) → IsWhere no_byte (IsPlaces k test at bits) there b → IsByteFor k test there at bits b
byte-is k test true at bits parts b h = record {
  is_byte = record { address = h.memory.1; place = ap (λ p. p || is_none b.test) h.place; test = h.small };
  place = h.place;
  in_memory = h.memory.0;
  has_bits = h.has_bits;
  compares = h.compares;
}
byte-is k test false at bits parts b h = subst (IsByteFor k test false at bits) (sym h) (absent-byte k test at bits parts)

is-byte : (k : StackBytes) (test : Option ℕ) (there : Bool) (at : InMemory) (bits : Bool) (b : OneByte) → IsByteFor k test there at bits b → IsWhere no_byte (IsPlaces k test at bits) there b
is-byte k test true at bits b h = record { place = h.place; memory = (h.in_memory, h.is_byte.address); has_bits = h.has_bits; compares = h.compares; small = h.is_byte.test }
is-byte k test false at bits b h = byte-absent (may_be_in k at) b h.is_byte h.place

unfoldable pub told_byte : StackBytes → OneByte → List ℕ
told_byte k b = told.where_there (has_place b) (places_told k b)

IsFormat-one_byte : (k : StackBytes) (test : Option ℕ) (there : Bool) (at : InMemory) (bits : Bool) → AreParts test there (is_somewhere at) bits → IfSome test (λ n. n < 256) → k.count < 256
    → IsFormat (defaulted no_byte there (byte_at k test at bits)) (told_byte k) (IsByteFor k test there at bits)
unfolding told_byte
IsFormat-one_byte k test there at bits parts small few =
    IsFormat-as (defaulted no_byte there (byte_at k test at bits)) (told_byte k) (IsWhere no_byte (IsPlaces k test at bits) there) (IsByteFor k test there at bits) (byte-is k test there at bits parts) (is-byte k test there at bits)
    (IsFormat-defaulted no_byte has_place there (byte_at k test at bits) (places_told k) (IsPlaces k test at bits) refl (λ b h. h.place) (IsFormat-places k test at bits (and_both (there || not (is_somewhere at || is_some test || bits)) (not (is_some test && bits)) parts).1 small few))

-- ---- all of them

abbrev pub All : Type 0
All = Present × (OneByte × (Option WordPair × Pairs))

-- where an address is there as this says
unfoldable pub from_relations : Bool → Relations → All
from_relations address r = (told.present_by address r, (r.byte, (r.zero, r.pairs)))

-- what is behind those that there are
abbrev pub ArePresent : Bool → StackBytes → Option ℕ → InMemory → Present → OneByte × (Option WordPair × Pairs) → Type 0
ArePresent wide k test at p q = IsByteFor k test p.byte at p.bits q.0 × (((is_some q.1.0 ≡ p.zero) × IfSome q.1.0 (λ z. Unit {0})) × ArePairsFor wide k.region p q.1.1)

-- what there may be beside a state's test
abbrev pub IsTold : (ℕ → Bool) → (ℕ → Bool) → Option ℕ → Relations → Type 0
IsTold may_be may_read test r = IsRelations may_be may_read r × (compared r.byte.test ≡ test)

pair-facts : (wide : Bool) (region : Region) (f : PairFacts) (there : Bool) → AreFactsFor wide region there f → IsPairFacts (is_free_byte region) f
pair-facts wide region f there h = record { last = h.0.0.1; link = h.0.1.0 }

pairs-each : (wide : Bool) (region : Region) (p : Present) (s : Pairs) → ArePairsFor wide region p s → (w : WordPair) → IsPairFacts (is_free_byte region) (facts_of w s)
pairs-each wide region p s h Bc = pair-facts wide region s.bc p.bc h.0
pairs-each wide region p s h De = pair-facts wide region s.de p.de h.1.0
pairs-each wide region p s h Hl = pair-facts wide region s.hl p.hl h.1.1

pairs-ordered : (wide : Bool) (region : Region) (p : Present) (s : Pairs) → ArePairsFor wide region p s → (w : WordPair) → (facts_of w s).bounds.first ≤ (facts_of w s).bounds.last
pairs-ordered wide region p s h Bc = h.0.0.0.0
pairs-ordered wide region p s h De = h.1.0.0.0.0
pairs-ordered wide region p s h Hl = h.1.1.0.0.0

pub relations-there : (wide : Bool) (k : StackBytes) (test : Option ℕ) (at : InMemory) (x : All) → ArePresent wide k test at x.0 x.1
    → (from_relations x.0.address (to_relations x) ≡ x) × (IsTold (may_be_in k at) (is_free_byte k.region) test (to_relations x) × AreLinked wide x.1.1.1)
unfolding from_relations
relations-there wide k test at x h =
    let p = x.0 in
    let b = h.0 in
    let s = h.1.1 in (
      ap (λ (p : Present). (let q : All = (p, x.1) in q)) (present-same _ _ _ _ _ _ _ x.0.byte x.0.address x.0.bits x.0.zero x.0.bc x.0.de x.0.hl b.place refl b.has_bits h.1.0.0 s.0.1 s.1.0.1 s.1.1.1),
      ((record { byte = b.is_byte; pairs = record { each = pairs-each wide k.region x.0 x.1.1.1 s }; order = pairs-ordered wide k.region x.0 x.1.1.1 s }, b.compares), pairs-linked wide k.region x.0 x.1.1.1 s),
    )

-- The same relations, where the address is right by another rule.
pub address-as : (may_be may_too may_read : ℕ → Bool) (r : Relations) → IsRelations may_be may_read r → IfSome r.byte.address (λ a. may_too a ≡ true) → IsRelations may_too may_read r
address-as may_be may_too may_read r h a = record { byte = record { address = a; place = h.byte.place; test = h.byte.test }; pairs = h.pairs; order = h.order }

-- the parts that there are, are such
pub present-parts : (at : InMemory) (register : Bool) (t : Option Test) → ((is_somewhere at || register) || is_none t) ≡ true → AreParts (compared t) (is_somewhere at || register) (is_address at) (is_some (bits_of t))
present-parts Address register None h = refl
present-parts Address register (Some (Compare n)) h = refl
present-parts Address register (Some (Bits m)) h = refl
present-parts Item register None h = refl
present-parts Item register (Some (Compare n)) h = refl
present-parts Item register (Some (Bits m)) h = refl
present-parts Nowhere true None h = refl
present-parts Nowhere true (Some (Compare n)) h = refl
present-parts Nowhere true (Some (Bits m)) h = refl
present-parts Nowhere false None h = refl
present-parts Nowhere false (Some t) h = absurd cc

facts-for : (wide : Bool) (region : Region) (f : PairFacts) → IsPairFacts (is_free_byte region) f → f.bounds.first ≤ f.bounds.last → MayBeLinked wide f.link → AreFactsFor wide region (is_known f) f
facts-for wide region f h order may = (((order, h.last), (h.link, may)), refl)

pub relations-again : (wide : Bool) (k : StackBytes) (test : Option ℕ) (at : InMemory) (address : Bool) (r : Relations) → IsTold (may_be_in k at) (is_free_byte k.region) test r → AreLinked wide r.pairs → is_some r.byte.address ≡ is_somewhere at
    → ArePresent wide k test at (from_relations address r).0 (from_relations address r).1 × (to_relations (from_relations address r) ≡ r)
unfolding from_relations
relations-again wide k test at address r h linked in_memory =
    let e = h.0.pairs.each in
    let o = h.0.order in
    let w = each-linked wide r.pairs linked in (
      (
        record { is_byte = h.0.byte; place = refl; in_memory = in_memory; has_bits = refl; compares = h.1 },
        ((refl, some-pair r.zero), (facts-for wide k.region r.pairs.bc (e Bc) (o Bc) w.0, (facts-for wide k.region r.pairs.de (e De) (o De) w.1.0, facts-for wide k.region r.pairs.hl (e Hl) (o Hl) w.1.1))),
      ),
      refl,
    )

-- which parts there are may be said, where the address is there as the place in memory says
pub is-present : (may_be may_read : ℕ → Bool) (test : Option ℕ) (at : InMemory) (r : Relations) → IsTold may_be may_read test r → is_some r.byte.address ≡ is_somewhere at → is_present test (from_relations (is_address at) r).0 ≡ true
unfolding from_relations
is-present may_be may_read test at r h in_memory =
    let register = is_some_register r.byte.registers in
    let place : ((is_somewhere at || register) || is_none r.byte.test) ≡ true = sym (ap (λ a. (a || register) || is_none r.byte.test) in_memory) ∙ h.0.byte.place in
    subst (λ t. AreParts t (is_some r.byte.address || register) (is_address at) (is_some (bits_of r.byte.test))) h.1
    (subst (λ a. AreParts (compared r.byte.test) (a || register) (is_address at) (is_some (bits_of r.byte.test))) (sym in_memory) (present-parts at register r.byte.test place))

abbrev pub told_parts : StackBytes → OneByte × (Option WordPair × Pairs) → List ℕ
told_parts k q = told_byte k q.0 ++ (told.optional told.pair q.1.0 ++ told.pairs q.1.1)

pub IsFormat-parts : (wide : Bool) (k : StackBytes) (test : Option ℕ) (at : InMemory) (p : Present) → IfSome test (λ n. n < 256) → k.count < 256 → AreParts test p.byte (is_somewhere at) p.bits → IsFormat (parts_at wide k test at p) (told_parts k) (ArePresent wide k test at p)
unfolding told_byte
IsFormat-parts wide k test at p small few h =
    IsFormat-both (defaulted no_byte p.byte (byte_at k test at p.bits)) (both (optional p.zero pair_at) (pairs_at wide k.region p)) (told_byte k) (λ q. told.optional told.pair q.0 ++ told.pairs q.1) (IsByteFor k test p.byte at p.bits) (λ q. ((is_some q.0 ≡ p.zero) × IfSome q.0 (λ z. Unit {0})) × ArePairsFor wide k.region p q.1) (IsFormat-one_byte k test p.byte at p.bits h small few)
    (IsFormat-both (optional p.zero pair_at) (pairs_at wide k.region p) (told.optional told.pair) told.pairs (λ z. (is_some z ≡ p.zero) × IfSome z (λ z. Unit {0})) (ArePairsFor wide k.region p) (IsFormat-option p.zero pair_at told.pair (λ z. Unit {0}) IsFormat-pair) (IsFormat-pairs wide k.region p))

-- ---- versions 1 to 3

-- in them a place in memory is an address, and no link has a base or a width or reads memory
abbrev older_place : Present → InMemory
older_place p = place_by false p.address

abbrev AreOlder : Region → Option ℕ → All → Type 0
AreOlder region test x = (is_present test x.0 ≡ true) × ArePresent false (no_items region) test (older_place x.0) x.0 x.1

abbrev pub IsToldExactly : Region → Option ℕ → Relations → Type 0
IsToldExactly region test r = IsTold (is_free_byte region) (is_free_byte region) test r × (are_linked false r.pairs ≡ true)

abbrev older_of : Relations → All
older_of r = from_relations (is_some r.byte.address) r

older-there : (region : Region) (test : Option ℕ) (x : All) → AreOlder region test x → (older_of (to_relations x) ≡ x) × IsToldExactly region test (to_relations x)
older-there region test x h =
    let k = no_items region in
    let r = relations-there false k test (older_place x.0) x h.1 in
    let address = h.1.0.in_memory ∙ somewhere x.0.address in
    (ap (λ a. from_relations a (to_relations x)) address ∙ r.0, ((address-as (may_be_in k (older_place x.0)) (is_free_byte region) (is_free_byte region) (to_relations x) r.1.0.0 (free-there k x.0.address x.1.0.address r.1.0.0.byte.address), r.1.0.1), r.1.1))

older-again : (region : Region) (test : Option ℕ) (r : Relations) → IsToldExactly region test r → AreOlder region test (older_of r) × (to_relations (older_of r) ≡ r)
unfolding from_relations
older-again region test r h =
    let k = no_items region in
    let address = is_some r.byte.address in
    let at = place_by false address in
    let there : IsTold (may_be_in k at) (is_free_byte k.region) test r = (address-as (is_free_byte region) (may_be_in k at) (is_free_byte region) r h.0.0 (there-free k r.byte.address h.0.0.byte.address), h.0.1) in
    let a = relations-again false k test at address r there h.1 (sym (somewhere address)) in
    ((subst (λ b. is_present test (from_relations b r).0 ≡ true) (spelled_so address) (is-present (may_be_in k at) (is_free_byte region) test at r there (sym (somewhere address))), a.0), a.1)
  where
    spelled_so : (address : Bool) → is_address (place_by false address) ≡ address
    spelled_so true = refl
    spelled_so false = refl

-- The place in memory has the same bytes as the address.
older-told : (region : Region) (r : Relations) → IsRelations (is_free_byte region) (is_free_byte region) r → spelled_present (older_of r).0 ++ told_parts (no_items region) (older_of r).1 ≡ told.relations r
unfolding from_relations told_byte told.relations
older-told region r h = ap (λ m. told.present_number (told.present_in r) ∷ told.parts_by m r) (memory-plain region 0 r.byte.address h.byte.address)

-- What is read beside a state's test is the spelling of what there may be, whose test compares where the state's does.
pub IsFormat-relations : (region : Region) (test : Option ℕ) → IfSome test (λ n. n < 256) → IsFormat (relations_at region test) told.relations (IsToldExactly region test)
unfolding relations_at
IsFormat-relations region test small =
    let k = no_items region in
    IsFormat-spelled (relations_at region test) (λ r. spelled_present (older_of r).0 ++ told_parts k (older_of r).1) told.relations (IsToldExactly region test) (λ r h. older-told region r h.0.0)
    (IsFormat-onto to_relations older_of _ (λ x. spelled_present x.0 ++ told_parts k x.1) (AreOlder region test) (IsToldExactly region test) (older-there region test) (older-again region test)
    (IsFormat-followed (present_at test) (λ p. parts_at false k test (older_place p) p) spelled_present (λ p. told_parts k) (λ p. is_present test p ≡ true) (λ p. ArePresent false k test (older_place p) p) (IsFormat-present test)
    (λ p h. IsFormat-parts false k test (older_place p) p small (omega arith) (subst (λ a. AreParts test p.byte a p.bits) (sym (somewhere p.address)) h))))

-- ---- a test of A alone

alone-compares : (test : Option ℕ) → compared (test_alone test).byte.test ≡ test
alone-compares None = refl
alone-compares (Some n) = refl

alone-byte : (may_be : ℕ → Bool) (test : Option ℕ) → IfSome test (λ n. n < 256) → IsOneByte may_be (test_byte test)
alone-byte may_be None small = record { address = tt; place = refl; test = tt }
alone-byte may_be (Some n) small = record { address = tt; place = refl; test = small }

unknown-facts : (may_read : ℕ → Bool) (p : WordPair) → IsPairFacts may_read (facts_of p no_pairs)
unknown-facts may_read Bc = record { last = omega arith; link = tt }
unknown-facts may_read De = record { last = omega arith; link = tt }
unknown-facts may_read Hl = record { last = omega arith; link = tt }

unknown-ordered : (p : WordPair) → (facts_of p no_pairs).bounds.first ≤ (facts_of p no_pairs).bounds.last
unknown-ordered Bc = omega arith
unknown-ordered De = omega arith
unknown-ordered Hl = omega arith

pub alone-relations : (may_be may_read : ℕ → Bool) (test : Option ℕ) → IfSome test (λ n. n < 256) → IsRelations may_be may_read (test_alone test)
alone-relations may_be may_read test small = record { byte = alone-byte may_be test small; pairs = record { each = unknown-facts may_read }; order = unknown-ordered }

alone-is : (test : Option ℕ) → is_test_alone (test_alone test) ≡ true
alone-is None = refl
alone-is (Some n) = refl

pub not-true : (b : Bool) → not b ≡ true → b ≡ false
not-true true h = cc
not-true false h = refl

a-alone : (s : Registers Bool) → is_a_alone s ≡ true → s ≡ registers true false false false false false false
a-alone s h =
    let t = and_both s.a (not (s.b || s.c || s.d || s.e || s.h || s.l)) h in
    let l = neither (s.b || s.c || s.d || s.e || s.h) s.l (not-true (s.b || s.c || s.d || s.e || s.h || s.l) t.1) in
    let k = neither (s.b || s.c || s.d || s.e) s.h l.0 in
    let e = neither (s.b || s.c || s.d) s.e k.0 in
    let d = neither (s.b || s.c) s.d e.0 in
    let c = neither s.b s.c d.0 in
    registers-same s.a s.b s.c s.d s.e s.h s.l true false false false false false false t.0 c.0 c.1 d.1 e.1 k.1 l.1

byte-alone : (s : Registers Bool) (address : Option ℕ) (t : Option Test) → is_test_byte t (record { registers = s; address = address; test = t }) ≡ true → (let q : OneByte = record { registers = s; address = address; test = t } in q) ≡ test_byte (compared t)
byte-alone s address None h =
    let k = neither (is_some address) (is_some_register s) (not-true (is_some address || is_some_register s) h) in
    byte-same s _ address None None None (no-registers s k.1) (none-is address k.0) refl
byte-alone s address (Some (Compare n)) h =
    let k = and_both (not (is_some address)) (is_a_alone s) h in
    byte-same s _ address None (Some (Compare n)) (Some (Compare n)) (a-alone s k.1) (none-is address (not-true (is_some address) k.0)) refl
byte-alone s address (Some (Bits m)) h = absurd cc

pairs-same : (a b c x y z : PairFacts) → a ≡ x → b ≡ y → c ≡ z → (let q : Pairs = record { bc = a; de = b; hl = c } in q) ≡ record { bc = x; de = y; hl = z }
pairs-same a b c x y z ea eb ec = rw (ea, eb, ec) refl

pairs-unknown : (s : Pairs) → are_unknown s ≡ true → s ≡ no_pairs
pairs-unknown s h =
    let a = and_both (not (is_known s.bc)) (not (is_known s.de) && not (is_known s.hl)) h in
    let b = and_both (not (is_known s.de)) (not (is_known s.hl)) a.1 in
    pairs-same s.bc s.de s.hl nothing_known nothing_known nothing_known (facts-absent s.bc (not-true (is_known s.bc) a.0)) (facts-absent s.de (not-true (is_known s.de) b.0)) (facts-absent s.hl (not-true (is_known s.hl) b.1))

relations-same : (a b : OneByte) (c d : Option WordPair) (e f : Pairs) → a ≡ b → c ≡ d → e ≡ f → (let q : Relations = record { byte = a; zero = c; pairs = e } in q) ≡ record { byte = b; zero = d; pairs = f }
relations-same a b c d e f ea ec ee = rw (ea, ec, ee) refl

-- Where nothing is known but a test of A, it is this.
pub is-alone : (r : Relations) → is_test_alone r ≡ true → r ≡ test_alone (compared r.byte.test)
is-alone r h =
    let a = and_both (is_test_byte r.byte.test r.byte) (is_none r.zero && are_unknown r.pairs) h in
    let b = and_both (is_none r.zero) (are_unknown r.pairs) a.1 in
    relations-same r.byte (test_byte (compared r.byte.test)) r.zero None r.pairs no_pairs (byte-alone r.byte.registers r.byte.address r.byte.test a.0) (none_is r.zero b.0) (pairs-unknown r.pairs b.1)

-- What versions 1 and 2 can say, version 3 can.
pub alone_known : (r : Relations) → is_test_alone r ≡ true → may_be_known Extended r ≡ true
alone_known r h = ap (λ (s : Relations). are_linked false s.pairs) (is-alone r h)

-- ---- all versions

-- what there may be beside a state's test, by the rules
abbrev pub IsToldBy : Rules → Region → Option ℕ → Relations → Type 0
IsToldBy Simple region test r = r ≡ test_alone test
IsToldBy Extended region test r = IsToldExactly region test r

pub told-compares : (rules : Rules) (region : Region) (test : Option ℕ) (r : Relations) → IsToldBy rules region test r → compared r.byte.test ≡ test
told-compares Simple region test r h = ap (λ (s : Relations). compared s.byte.test) h ∙ alone-compares test
told-compares Extended region test r h = h.0.1

pub told-relations : (rules : Rules) (region : Region) (test : Option ℕ) (r : Relations) → IfSome test (λ n. n < 256) → IsToldBy rules region test r → IsRelations (is_free_byte region) (is_free_byte region) r
told-relations Simple region test r small h = subst (IsRelations (is_free_byte region) (is_free_byte region)) (sym h) (alone-relations (is_free_byte region) (is_free_byte region) test small)
told-relations Extended region test r small h = h.0.0

pub told-known : (rules : Rules) (region : Region) (test : Option ℕ) (r : Relations) → IsToldBy rules region test r → may_be_known rules r ≡ true
told-known Simple region test r h = ap is_test_alone h ∙ alone-is test
told-known Extended region test r h = h.1

pub is-told : (rules : Rules) (region : Region) (r : Relations) → IsRelations (is_free_byte region) (is_free_byte region) r → may_be_known rules r ≡ true → IsToldBy rules region (compared r.byte.test) r
is-told Simple region r h known = is-alone r known
is-told Extended region r h known = ((h, refl), known)

pub compared-small : (t : Option Test) → IfSome t (λ t. operand t < 256) → IfSome (compared t) (λ n. n < 256)
compared-small (Some (Compare n)) h = h
compared-small (Some (Bits m)) h = tt
compared-small None h = tt

pub IsFormat-relations_by : (rules : Rules) (region : Region) (test : Option ℕ) → IfSome test (λ n. n < 256) → IsFormat (relations_by rules region test) (told.relations_by rules) (IsToldBy rules region test)
IsFormat-relations_by Simple region test small = IsFormat-nothing (test_alone test) (told.relations_by Simple) refl
IsFormat-relations_by Extended region test small = IsFormat-relations region test small

no-flag : (b : Bool) → spelled.flag b ≡ 0 → b ≡ false
no-flag true e = cc
no-flag false e = refl

-- Where no part is there nothing is known.
pub nothing-known : (may_be may_read : ℕ → Bool) (address : Bool) (r : Relations) → IsRelations may_be may_read r → told.present_number (told.present_by address r) ≡ 0 → r ≡ test_alone None
nothing-known may_be may_read address r h e =
    let p = told.present_by address r in
    relations-same r.byte no_byte r.zero None r.pairs no_pairs (byte-absent may_be r.byte h.byte (no-flag p.byte (omega (arith, e)))) (none-is r.zero (no-flag p.zero (omega (arith, e))))
    (pairs-same r.pairs.bc r.pairs.de r.pairs.hl nothing_known nothing_known nothing_known (facts-absent r.pairs.bc (no-flag p.bc (omega (arith, e)))) (facts-absent r.pairs.de (no-flag p.de (omega (arith, e)))) (facts-absent r.pairs.hl (no-flag p.hl (omega (arith, e)))))

-- And nothing is spelled.
pub nothing-told : (may_be may_read : ℕ → Bool) (r : Relations) → IsRelations may_be may_read r → told.present_number (told.present_in r) ≡ 0 → (r ≡ test_alone None) × (told.relations r ≡ 0 ∷ [])
unfolding told.relations told.pairs
nothing-told may_be may_read r h e = let none = nothing-known may_be may_read (is_some r.byte.address) r h e in (none, ap told.relations none)
