-- Places in memory that hold one byte, at an address or at that of an item: what is read is spelled so, and what is spelled so is read.
use Rattle.std.proofs.Common.{◌≡◌, ℕ, ◌+◌, ◌-◌, ◌%◌, ◌<◌, ◌≤◌, Bool, true, false, ◌&&◌, ◌||◌, ◌==◌, nat_le, nat_lt, List, [], ◌∷◌, Option, Some, None, refl, sym, ◌∙◌, ap, subst, arith}
use Rattle.std.specs.Prelude.{not, IfSome, is_some}
use Rattle.std.proofs.lemmas.Bool.Decides.{nat_tests}
use Rattle.gb_ops.specs.declared.machine.Region.{Region}
use Rattle.gb_fields.specs.declared.fault.CertFault.TheVariants as fault
use Rattle.gb_domain.specs.declared.places.StackBytes.{StackBytes}
use Rattle.gb_domain.specs.Areas.{is_area, meets, is_free_byte, is_item, is_place_at}
use Rattle.gb_fields.specs.Format.{Read, optional, byte}
use Rattle.gb_fields.specs.Reading.{word, nothing}
use Rattle.gb_states.specs.declared.relations.InMemory.{InMemory}
use Rattle.gb_states.specs.declared.relations.InMemory.TheVariants.{Nowhere, Address, Item}
use Rattle.gb_states.specs.RelationReading.{address_at, is_stack_byte, item_address, is_item_number, item_at, is_somewhere, place_by, memory_at}
use Rattle.gb_states.specs.Spelling as spelled
use Rattle.gb_states.specs.RelationSpelling as told
use Rattle.gb_states.specs.WholeSpelling.{place_if, place_in, is_address, item_number, memory_if, memory}
use Rattle.gb_states.specs.WholeSpelling.{is_item as is_item_place}
use Rattle.gb_states.proofs.Formats.{IsFormat, IsFormat-byte, IsFormat-nothing, IsFormat-checked, IsFormat-onto, IsFormat-as, IsFormat-spelled, IsFormat-optional, spelled_option, is_there}
use Rattle.gb_states.proofs.FieldLaws.{and_both, both_and, is_le, le_is, area_small, spelled_byte, IsFormat-word}

-- ---- what may be there

some-there : {X : Type 0} (o : Option X) → is_some o ≡ is_there o
some-there None = refl
some-there (Some x) = refl

option-told : {X : Type 0} (w : X → List ℕ) (o : Option X) → spelled_option w o ≡ told.optional w o
option-told w None = refl
option-told w (Some x) = refl

pub IsFormat-option : {X : Type 0} (there : Bool) (r : Read X) (w : X → List ℕ) (g : X → Type 0) → IsFormat r w g → IsFormat (optional there r) (told.optional w) (λ o. (is_some o ≡ there) × IfSome o g)
IsFormat-option {X} there r w g a =
    IsFormat-as (optional there r) (told.optional w) (λ o. (is_there o ≡ there) × IfSome o g) (λ o. (is_some o ≡ there) × IfSome o g) (λ o h. (some-there o ∙ h.0, h.1)) (λ o h. (sym (some-there o) ∙ h.0, h.1))
    (IsFormat-spelled (optional there r) (spelled_option w) (told.optional w) (λ o. (is_there o ≡ there) × IfSome o g) (λ o h. option-told w o) (IsFormat-optional there r w g a))

-- ---- addresses and items

pub IsFormat-address : (region : Region) → IsFormat (address_at region) spelled.word (λ a. is_free_byte region a ≡ true)
unfolding address_at
IsFormat-address region =
    IsFormat-as (address_at region) spelled.word (λ a. (a < 65536) × (is_free_byte region a ≡ true)) (λ a. is_free_byte region a ≡ true) (λ a h. h.1) (λ a h. ((area_small a a (and_both (is_area a a) (not (meets region a a)) h).0).0, h))
    (IsFormat-checked fault.Field (is_free_byte region) word spelled.word (λ a. a < 65536) IsFormat-word)

-- an address at which a place like this may lie
abbrev pub may_be_in : StackBytes → InMemory → ℕ → Bool
may_be_in k Nowhere a = false
may_be_in k Address a = is_free_byte k.region a
may_be_in k Item a = is_stack_byte k.region a && is_item k.base k.count a

lt_is : (a b : ℕ) → nat_lt a b ≡ true → a < b
lt_is a b h = grind (arith, nat_tests)

is_lt : (a b : ℕ) → a < b → nat_lt a b ≡ true
is_lt a b h = grind (arith, nat_tests)

area-above : (a : ℕ) → is_area a a ≡ true → 0 < a
area-above a h = grind (arith, nat_tests)

abbrev IsItemNumber : StackBytes → ℕ → Type 0
IsItemNumber k n = (n < 256) × (is_item_number k n ≡ true)

-- the number again
number-back : (base n a : ℕ) → a ≡ base - 1 - n → 0 < a → n < 256 → (base - 1 - a) % 256 ≡ n
number-back base n a e some few = omega arith

-- the item with a number below the count lies among so many
among-items : (base count n a : ℕ) → a ≡ base - 1 - n → 0 < a → n < count → is_item base count a ≡ true
among-items base count n a e some below = both_and (nat_lt a base) (nat_le base (a + count)) (is_lt a base (omega (arith, e, some))) (is_le base (a + count) (omega (arith, e, some, below)))

item-there : (k : StackBytes) (n : ℕ) → IsItemNumber k n → (item_number k.base (item_address k.base n) ≡ n) × (may_be_in k Item (item_address k.base n) ≡ true)
item-there k n h =
    let a = item_address k.base n in
    let t = and_both (nat_lt n k.count) (is_stack_byte k.region a) h.1 in
    let some = area-above a (and_both (is_area a a) (meets k.region a a) t.1).0 in
    (number-back k.base n a refl some h.0, both_and (is_stack_byte k.region a) (is_item k.base k.count a) t.1 (among-items k.base k.count n a refl some (lt_is n k.count t.0)))

-- the number of an item among so many, which are few
small-number : (base count a n : ℕ) → n ≡ (base - 1 - a) % 256 → count < 256 → a < base → base ≤ a + count → (n < count) × (base - 1 - n ≡ a)
small-number base count a n e few below above =
    let same : n ≡ base - 1 - a = omega (arith, e, few, below, above) in
    (omega (arith, same, below, above), omega (arith, same, below))

item-again : (k : StackBytes) → k.count < 256 → (a : ℕ) → may_be_in k Item a ≡ true → IsItemNumber k (item_number k.base a) × (item_address k.base (item_number k.base a) ≡ a)
item-again k few a h =
    let n = item_number k.base a in
    let t = and_both (is_stack_byte k.region a) (is_item k.base k.count a) h in
    let i = and_both (nat_lt a k.base) (nat_le k.base (a + k.count)) t.1 in
    let s = small-number k.base k.count a n refl few (lt_is a k.base i.0) (le_is k.base (a + k.count) i.1) in
    let below = s.0 in
    ((omega (arith, below, few), both_and (nat_lt n k.count) (is_stack_byte k.region (item_address k.base n)) (is_lt n k.count below) (ap (λ (b : ℕ). is_stack_byte k.region b) s.1 ∙ t.0)), s.1)

abbrev spelled_item : ℕ → ℕ → List ℕ
spelled_item base a = item_number base a ∷ []

IsFormat-item : (k : StackBytes) → k.count < 256 → IsFormat (item_at k) (spelled_item k.base) (λ a. may_be_in k Item a ≡ true)
unfolding item_at
IsFormat-item k few =
    IsFormat-onto (item_address k.base) (item_number k.base) _ spelled_byte (IsItemNumber k) (λ a. may_be_in k Item a ≡ true) (item-there k) (item-again k few)
    (IsFormat-checked fault.Field (is_item_number k) byte spelled_byte (λ n. n < 256) IsFormat-byte)

-- ---- the place in memory

not-true : (b : Bool) → not b ≡ true → b ≡ false
not-true true h = cc
not-true false h = refl

address-spelled : (region : Region) (base a : ℕ) → is_free_byte region a ≡ true → spelled.word a ≡ memory_if (meets region a a) base a
address-spelled region base a h = sym (ap (λ b. memory_if b base a) (not-true (meets region a a) (and_both (is_area a a) (not (meets region a a)) h).1))

item-spelled : (k : StackBytes) (a : ℕ) → may_be_in k Item a ≡ true → spelled_item k.base a ≡ memory_if (meets k.region a a) k.base a
item-spelled k a h = sym (ap (λ b. memory_if b k.base a) (and_both (is_area a a) (meets k.region a a) (and_both (is_stack_byte k.region a) (is_item k.base k.count a) h).0).1)

-- Where each place in memory is an address outside the region, it is spelled as versions 1 to 3 spell it.
pub memory-plain : (region : Region) (base : ℕ) (o : Option ℕ) → IfSome o (λ a. is_free_byte region a ≡ true) → memory region base o ≡ told.optional spelled.word o
memory-plain region base None h = refl
memory-plain region base (Some a) h = sym (address-spelled region base a h)

-- right where it is there or not, as the place in memory says
abbrev pub LiesIn : StackBytes → InMemory → Option ℕ → Type 0
LiesIn k place o = (is_some o ≡ is_somewhere place) × IfSome o (λ a. may_be_in k place a ≡ true)

pub IsFormat-memory : (k : StackBytes) (place : InMemory) → k.count < 256 → IsFormat (memory_at k place) (memory k.region k.base) (LiesIn k place)
IsFormat-memory k Nowhere few = IsFormat-as (nothing None) (memory k.region k.base) (λ o. o ≡ None) (LiesIn k Nowhere) (λ o e. subst (LiesIn k Nowhere) (sym e) (refl, tt)) nowhere (IsFormat-nothing None (memory k.region k.base) refl)
  where
    nowhere : (o : Option ℕ) → LiesIn k Nowhere o → o ≡ None
    nowhere None h = refl
    nowhere (Some a) h = absurd cc
IsFormat-memory k Address few = IsFormat-spelled (memory_at k Address) (told.optional spelled.word) (memory k.region k.base) (LiesIn k Address) spell (IsFormat-option true (address_at k.region) spelled.word (λ a. is_free_byte k.region a ≡ true) (IsFormat-address k.region))
  where
    spell : (o : Option ℕ) → LiesIn k Address o → told.optional spelled.word o ≡ memory k.region k.base o
    spell None h = refl
    spell (Some a) h = address-spelled k.region k.base a h.1
IsFormat-memory k Item few = IsFormat-spelled (memory_at k Item) (told.optional (spelled_item k.base)) (memory k.region k.base) (LiesIn k Item) spell (IsFormat-option true (item_at k) (spelled_item k.base) (λ a. may_be_in k Item a ≡ true) (IsFormat-item k few))
  where
    spell : (o : Option ℕ) → LiesIn k Item o → told.optional (spelled_item k.base) o ≡ memory k.region k.base o
    spell None h = refl
    spell (Some a) h = item-spelled k a h.1

-- ---- which place it is

-- Where something lies tells which place it is.
pub place-is : (k : StackBytes) (place : InMemory) (o : Option ℕ) → LiesIn k place o → place_in k.region o ≡ place
place-is k Nowhere None h = refl
place-is k Nowhere (Some a) h = absurd cc
place-is k Address None h = absurd cc
place-is k Address (Some a) h = ap place_if (not-true (meets k.region a a) (and_both (is_area a a) (not (meets k.region a a)) h.1).1)
place-is k Item None h = absurd cc
place-is k Item (Some a) h = ap place_if (and_both (is_area a a) (meets k.region a a) (and_both (is_stack_byte k.region a) (is_item k.base k.count a) h.1).0).1

pub place-again : (place : InMemory) → place_by (is_item_place place) (is_address place) ≡ place
place-again Nowhere = refl
place-again Address = refl
place-again Item = refl

pub item-bit : (item address : Bool) → is_item_place (place_by item address) ≡ item
item-bit true address = refl
item-bit false true = refl
item-bit false false = refl

-- The bits aren't both set.
pub address-bit : (item address : Bool) → (item ≡ true → address ≡ false) → is_address (place_by item address) ≡ address
address-bit true address h = sym (h refl)
address-bit false true h = refl
address-bit false false h = refl

pub somewhere : (address : Bool) → is_somewhere (place_by false address) ≡ address
somewhere true = refl
somewhere false = refl

-- ---- where a byte may be a place

-- in versions 1 to 3
pub free-there : (k : StackBytes) (address : Bool) (o : Option ℕ) → IfSome o (λ a. may_be_in k (place_by false address) a ≡ true) → IfSome o (λ a. is_free_byte k.region a ≡ true)
free-there k address None h = tt
free-there k true (Some a) h = h
free-there k false (Some a) h = absurd cc

pub there-free : (k : StackBytes) (o : Option ℕ) → IfSome o (λ a. is_free_byte k.region a ≡ true) → IfSome o (λ a. may_be_in k (place_by false (is_some o)) a ≡ true)
there-free k None h = tt
there-free k (Some a) h = h

-- in version 4
pub place-there : (k : StackBytes) (place : InMemory) (o : Option ℕ) → IfSome o (λ a. may_be_in k place a ≡ true) → IfSome o (λ a. is_place_at k a ≡ true)
place-there k place None h = tt
place-there k Nowhere (Some a) h = absurd cc
place-there k Address (Some a) h =
    let t = and_both (is_area a a) (not (meets k.region a a)) h in
    both_and (is_area a a) (not (meets k.region a a) || is_item k.base k.count a) t.0 (ap (λ b. b || is_item k.base k.count a) t.1)
place-there k Item (Some a) h =
    let t = and_both (is_stack_byte k.region a) (is_item k.base k.count a) h in
    both_and (is_area a a) (not (meets k.region a a) || is_item k.base k.count a) (and_both (is_area a a) (meets k.region a a) t.0).0 (either (not (meets k.region a a)) (is_item k.base k.count a) t.1)
  where
    either : (b c : Bool) → c ≡ true → (b || c) ≡ true
    either true c h = refl
    either false c h = h

left-item : (m i : Bool) → m ≡ true → (not m || i) ≡ true → i ≡ true
left-item true i e h = h
left-item false i e h = absurd cc

lies : (k : StackBytes) (a : ℕ) (m : Bool) → meets k.region a a ≡ m → is_place_at k a ≡ true → LiesIn k (place_if m) (Some a)
lies k a true e h =
    let t = and_both (is_area a a) (not (meets k.region a a) || is_item k.base k.count a) h in
    let item = left-item (meets k.region a a) (is_item k.base k.count a) e t.1 in
    (refl, both_and (is_stack_byte k.region a) (is_item k.base k.count a) (both_and (is_area a a) (meets k.region a a) t.0 e) item)
lies k a false e h = (refl, both_and (is_area a a) (not (meets k.region a a)) (and_both (is_area a a) (not (meets k.region a a) || is_item k.base k.count a) h).0 (ap not e))

pub there-place : (k : StackBytes) (o : Option ℕ) → IfSome o (λ a. is_place_at k a ≡ true) → LiesIn k (place_in k.region o) o
there-place k None h = (refl, tt)
there-place k (Some a) h = lies k a (meets k.region a a) refl h

-- ---- whether an item may be named

abbrev names : StackBytes → Bool → Bool → Bool
names k byte address = byte && (not address && not (k.count == 0))

-- Where an item is named there is no address.
pub named-alone : (k : StackBytes) (byte address item : Bool) → (names k byte address || not item) ≡ true → item ≡ true → address ≡ false
named-alone k byte address item h e = by (names k byte address) item refl h e
  where
    by : (n i : Bool) → names k byte address ≡ n → (n || not i) ≡ true → i ≡ true → address ≡ false
    by true i m h e = not-true address (and_both (not address) (not (k.count == 0)) (and_both byte (not address && not (k.count == 0)) m).1).0
    by false true m h e = absurd cc
    by false false m h e = absurd cc

-- Where an item is named the one byte has a place.
pub named-there : (k : StackBytes) (byte address item : Bool) → (names k byte address || not item) ≡ true → item ≡ true → byte ≡ true
named-there k byte address item h e = by (names k byte address) item refl h e
  where
    by : (n i : Bool) → names k byte address ≡ n → (n || not i) ≡ true → i ≡ true → byte ≡ true
    by true i m h e = (and_both byte (not address && not (k.count == 0)) m).0
    by false true m h e = absurd cc
    by false false m h e = absurd cc

some-items : (k : StackBytes) (a : ℕ) → is_item k.base k.count a ≡ true → not (k.count == 0) ≡ true
some-items k a h =
    let t = and_both (nat_lt a k.base) (nat_le k.base (a + k.count)) h in
    by k.count k.base (lt_is a k.base t.0) (le_is k.base (a + k.count) t.1)
  where
    by : (n base : ℕ) → a < base → base ≤ a + n → not (n == 0) ≡ true
    by n base below above = grind (arith, nat_tests, below, above)

-- An item that is a place may be named; there is a place then.
pub may-name : (k : StackBytes) (place : InMemory) (o : Option ℕ) (register : Bool) → LiesIn k place o → (names k (is_some o || register) (is_address place) || not (is_item_place place)) ≡ true
may-name k Nowhere o register h = other (names k (is_some o || register) false)
  where
    other : (b : Bool) → (b || true) ≡ true
    other true = refl
    other false = refl
may-name k Address o register h = other (names k (is_some o || register) true)
  where
    other : (b : Bool) → (b || true) ≡ true
    other true = refl
    other false = refl
may-name k Item None register h = absurd cc
may-name k Item (Some a) register h = ap (λ b. b || false) (some-items k a (and_both (is_stack_byte k.region a) (is_item k.base k.count a) h.1).1)
