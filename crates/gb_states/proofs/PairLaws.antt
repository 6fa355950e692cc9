-- What a state knows of register pairs: what is read is spelled so, and what is spelled so is read.
use Rattle.std.proofs.Common.{◌≡◌, ℕ, ◌+◌, ◌*◌, ◌/◌, ◌%◌, ◌<◌, ◌≤◌, Bool, true, false, ◌&&◌, ◌||◌, ◌==◌, nat_le, List, [], ◌++◌, Option, Some, None, refl, sym, ◌∙◌, ap, subst, arith}
use Rattle.std.specs.Prelude.{not, IfSome, is_some, is_none}
use Rattle.std.proofs.lemmas.Bool.Decides.{nat_tests}
use Rattle.gb_ops.specs.declared.machine.Region.{Region}
use Rattle.gb_ops.specs.declared.op.Register.TheVariants.{A, B, C, D, E, H, L}
use Rattle.gb_fields.specs.declared.fault.CertFault.TheVariants as fault
use Rattle.gb_domain.specs.declared.pairs.WordPair.{WordPair}
use Rattle.gb_domain.specs.declared.pairs.WordPair.TheVariants.{Bc, De, Hl}
use Rattle.gb_domain.specs.declared.pairs.Bounds.{Bounds}
use Rattle.gb_domain.specs.declared.pairs.Other.{Other}
use Rattle.gb_domain.specs.declared.pairs.Other.TheVariants.{Register as Of, Pair, Cell, Nothing}
use Rattle.gb_domain.specs.declared.pairs.Link.{Link}
use Rattle.gb_domain.specs.declared.pairs.PairFacts.{PairFacts}
use Rattle.gb_domain.specs.declared.pairs.Pairs.{Pairs}
use Rattle.gb_domain.specs.Areas.{is_free_byte}
use Rattle.gb_domain.specs.Pairs.{nothing_known, is_factor, IsReadAt, IsLink}
use Rattle.gb_fields.specs.Format.{Read, both, followed, mapped, checked, optional, byte}
use Rattle.gb_fields.specs.Reading.{is_between, is_ordered, word, byte_between, word_between, nothing}
use Rattle.gb_states.specs.declared.relations.Present.{Present}
use Rattle.gb_domain.specs.RelationRules.{is_known}
use Rattle.gb_states.specs.declared.relations.LinkForm.{LinkForm}
use Rattle.gb_states.specs.Links.{reads_register, reads_other, may_be_linked, are_linked}
use Rattle.gb_states.specs.RelationReading.{defaulted, pair_of, pair_at, to_bounds, address_at, bounds_at, other_of, is_wide_form, is_form, to_cell, other_if, other_at, to_form, form_at, to_factor, factor_at, factor_of, width_at, to_link, link_of, link_at, to_facts, facts_at, to_pairs, pairs_at}
use Rattle.gb_states.specs.Spelling as spelled
use Rattle.gb_states.specs.RelationSpelling as told
use Rattle.gb_states.proofs.Formats.{IsFormat, IsFormat-byte, IsFormat-nothing, IsFormat-both, IsFormat-followed, IsFormat-checked, IsFormat-onto, IsFormat-mapped, IsFormat-as, IsFormat-spelled}
use Rattle.gb_states.proofs.FieldLaws.{le_is, is_le, and_both, both_and, all_below, below, same, is_same, flag_small, one-flag, spelled_byte, IsFormat-word, IsFormat-byte_between, IsFormat-word_between}
use Rattle.gb_states.proofs.PlaceLaws.{IsFormat-option, IsFormat-address}

-- ---- what may be there

-- right where it is there, and else what stands for it
abbrev pub IsWhere : {X : Type 0} → X → (X → Type 0) → Bool → X → Type 0
IsWhere n g true x = g x
IsWhere n g false x = x ≡ n

pub IsFormat-defaulted : {X : Type 0} (n : X) (shows : X → Bool) (there : Bool) (r : Read X) (w : X → List ℕ) (g : X → Type 0) → shows n ≡ false → ((x : X) → g x → shows x ≡ true)
    → IsFormat r w g → IsFormat (defaulted n there r) (λ x. told.where_there (shows x) (w x)) (IsWhere n g there)
IsFormat-defaulted n shows true r w g hidden shown a = IsFormat-spelled r w (λ x. told.where_there (shows x) (w x)) g (λ x h. sym (ap (λ b. told.where_there b (w x)) (shown x h))) a
IsFormat-defaulted n shows false r w g hidden shown a = IsFormat-nothing n (λ x. told.where_there (shows x) (w x)) (ap (λ b. told.where_there b (w n)) hidden)

pub neither : (a b : Bool) → (a || b) ≡ false → (a ≡ false) × (b ≡ false)
neither true b h = cc
neither false b h = (refl, h)

pub none-is : {X : Type 0} (o : Option X) → is_some o ≡ false → o ≡ None
none-is None h = refl
none-is (Some x) h = absurd cc

pub some-pair : (o : Option WordPair) → IfSome o (λ z. Unit {0})
some-pair None = tt
some-pair (Some z) = tt

-- ---- pairs

number-pair : (n : ℕ) → (n < 256) × (is_between 0 2 n ≡ true) → told.pair_number (pair_of n) ≡ n
number-pair n h = grind (arith, nat_tests)

pair-number : (p : WordPair) → pair_of (told.pair_number p) ≡ p
pair-number Bc = refl
pair-number De = refl
pair-number Hl = refl

pair_fits : (p : WordPair) → (told.pair_number p < 256) × (is_between 0 2 (told.pair_number p) ≡ true)
pair_fits Bc = (omega arith, refl)
pair_fits De = (omega arith, refl)
pair_fits Hl = (omega arith, refl)

pub IsFormat-pair : IsFormat pair_at told.pair (λ p. Unit {0})
unfolding pair_at
IsFormat-pair =
    IsFormat-as pair_at told.pair (λ p. (told.pair_number p < 256) × (is_between 0 2 (told.pair_number p) ≡ true)) (λ p. Unit {0}) (λ p h. tt) (λ p h. pair_fits p)
    (IsFormat-mapped pair_of told.pair_number (byte_between 0 2) spelled_byte _ number-pair (λ p h. pair-number p) (IsFormat-byte_between 0 2))

from_bounds : Bounds → ℕ × ℕ
from_bounds b = (b.first, b.last)

-- words in order
abbrev pub AreBounds : Bounds → Type 0
AreBounds b = (b.first ≤ b.last) × (b.last < 65536)

are_bounds : (first last : ℕ) → first ≤ last → last < 65536 → ((first < 65536) × (last < 65536)) × (nat_le first last ≡ true)
are_bounds first last order small = ((omega arith, small), is_le first last order)

pub IsFormat-bounds : IsFormat bounds_at told.bounds AreBounds
unfolding bounds_at from_bounds
IsFormat-bounds =
    IsFormat-as bounds_at told.bounds (λ b. ((b.first < 65536) × (b.last < 65536)) × (nat_le b.first b.last ≡ true)) AreBounds (λ b h. (le_is b.first b.last h.1, h.0.1)) (λ b h. are_bounds b.first b.last h.0 h.1)
    (IsFormat-mapped to_bounds from_bounds _ _ _ (λ x h. refl) (λ y h. refl)
    (IsFormat-checked fault.Field is_ordered _ _ _ (IsFormat-both word word _ _ _ _ IsFormat-word IsFormat-word)))

-- ---- forms of links

abbrev option_number : Option Other → ℕ
option_number None = 0
option_number (Some o) = 1 + told.other_number o

-- the address after a form
abbrev option_argument : Option Other → List ℕ
option_argument None = []
option_argument (Some o) = told.argument o

-- what is read of memory stands at such an address
abbrev IsOptionReadAt : (ℕ → Bool) → Option Other → Type 0
IsOptionReadAt may_read o = IfSome o (IsReadAt may_read)

other-number : (o : Option Other) → (option_number o == 11) ≡ false → other_of (option_number o) ≡ o
other-number None h = refl
other-number (Some (Of A)) h = refl
other-number (Some (Of B)) h = refl
other-number (Some (Of C)) h = refl
other-number (Some (Of D)) h = refl
other-number (Some (Of E)) h = refl
other-number (Some (Of H)) h = refl
other-number (Some (Of L)) h = refl
other-number (Some (Pair Bc)) h = refl
other-number (Some (Pair De)) h = refl
other-number (Some (Pair Hl)) h = refl
other-number (Some (Cell a)) h = absurd cc
other-number (Some Nothing) h = refl

-- What has no address after its form has no argument, and reads no memory.
no-argument : (o : Option Other) → (option_number o == 11) ≡ false → option_argument o ≡ []
no-argument None h = refl
no-argument (Some (Of r)) h = refl
no-argument (Some (Pair p)) h = refl
no-argument (Some (Cell a)) h = absurd cc
no-argument (Some Nothing) h = refl

reads-none : (may_read : ℕ → Bool) (o : Option Other) → (option_number o == 11) ≡ false → IsOptionReadAt may_read o
reads-none may_read None h = tt
reads-none may_read (Some (Of r)) h = tt
reads-none may_read (Some (Pair p)) h = tt
reads-none may_read (Some (Cell a)) h = absurd cc
reads-none may_read (Some Nothing) h = tt

option-few : (o : Option Other) → option_number o ≤ 13
option-few None = omega arith
option-few (Some (Of A)) = omega arith
option-few (Some (Of B)) = omega arith
option-few (Some (Of C)) = omega arith
option-few (Some (Of D)) = omega arith
option-few (Some (Of E)) = omega arith
option-few (Some (Of H)) = omega arith
option-few (Some (Of L)) = omega arith
option-few (Some (Pair Bc)) = omega arith
option-few (Some (Pair De)) = omega arith
option-few (Some (Pair Hl)) = omega arith
option-few (Some (Cell a)) = omega arith
option-few (Some Nothing) = omega arith

-- the numbers that forms have below 64
abbrev is_number : ℕ → Bool
is_number m = is_between 0 11 m || m == 13

-- What is read of memory is written with its address.
abbrev cell_address : Option Other → ℕ
cell_address (Some (Cell a)) = a
cell_address _ = 0

-- what comes after the form with this number
abbrev IsOtherOf : Region → ℕ → Option Other → Type 0
IsOtherOf region m o = (option_number o ≡ m) × IsOptionReadAt (is_free_byte region) o

cell-again : (region : Region) (o : Option Other) → IsOtherOf region 11 o → (is_free_byte region (cell_address o) ≡ true) × (to_cell (cell_address o) ≡ o)
cell-again region None h = absurd (omega (arith, h.0))
cell-again region (Some (Of A)) h = absurd (omega (arith, h.0))
cell-again region (Some (Of B)) h = absurd (omega (arith, h.0))
cell-again region (Some (Of C)) h = absurd (omega (arith, h.0))
cell-again region (Some (Of D)) h = absurd (omega (arith, h.0))
cell-again region (Some (Of E)) h = absurd (omega (arith, h.0))
cell-again region (Some (Of H)) h = absurd (omega (arith, h.0))
cell-again region (Some (Of L)) h = absurd (omega (arith, h.0))
cell-again region (Some (Pair Bc)) h = absurd (omega (arith, h.0))
cell-again region (Some (Pair De)) h = absurd (omega (arith, h.0))
cell-again region (Some (Pair Hl)) h = absurd (omega (arith, h.0))
cell-again region (Some (Cell a)) h = (h.1, refl)
cell-again region (Some Nothing) h = absurd (omega (arith, h.0))

cell-told : (region : Region) (o : Option Other) → IsOtherOf region 11 o → spelled.word (cell_address o) ≡ option_argument o
cell-told region o h = ap option_argument (cell-again region o h).1

IsFormat-cell : (region : Region) → IsFormat (mapped to_cell (address_at region)) option_argument (IsOtherOf region 11)
IsFormat-cell region =
    IsFormat-spelled (mapped to_cell (address_at region)) (λ o. spelled.word (cell_address o)) option_argument (IsOtherOf region 11) (cell-told region)
    (IsFormat-onto to_cell cell_address (address_at region) spelled.word (λ a. is_free_byte region a ≡ true) (IsOtherOf region 11) (λ a h. (refl, (refl, h))) (cell-again region) (IsFormat-address region))

number-other : (m : ℕ) → m < 64 → is_number m ≡ true → (m == 11) ≡ false → option_number (other_of m) ≡ m
unfolding all_below
number-other m small fits other = same _ _ (by (is_number m) (m == 11) _ (below 64 (λ c. not (is_number c) || ((c == 11) || option_number (other_of c) == c)) refl m small) fits other)
  where
    by : (a b c : Bool) → (not a || (b || c)) ≡ true → a ≡ true → b ≡ false → c ≡ true
    by true true c h e f = cc
    by true false c h e f = h
    by false b c h e f = cc

IsFormat-told_other : (region : Region) (m : ℕ) → m < 64 → is_number m ≡ true → (m == 11) ≡ false → IsFormat (nothing (other_of m)) option_argument (IsOtherOf region m)
IsFormat-told_other region m small fits other =
    let number : option_number (other_of m) ≡ m = number-other m small fits other in
    let apart : (option_number (other_of m) == 11) ≡ false = ap (λ (n : ℕ). n == 11) number ∙ other in
    IsFormat-as (nothing (other_of m)) option_argument (λ o. o ≡ other_of m) (IsOtherOf region m)
    (λ o h. subst (IsOtherOf region m) (sym h) (number, reads-none (is_free_byte region) (other_of m) apart))
    (λ o h. sym (other-number o (ap (λ (n : ℕ). n == 11) h.0 ∙ other)) ∙ ap other_of h.0)
    (IsFormat-nothing (other_of m) option_argument (no-argument (other_of m) apart))

IsFormat-other : (region : Region) (m : ℕ) → m < 64 → is_number m ≡ true → IsFormat (other_at region m) option_argument (IsOtherOf region m)
IsFormat-other region m small fits = by (m == 11) refl
  where
    by : (cell : Bool) → (m == 11) ≡ cell → IsFormat (other_if region cell m) option_argument (IsOtherOf region m)
    by true e = subst (λ n. IsFormat (mapped to_cell (address_at region)) option_argument (IsOtherOf region n)) (sym (same m 11 e)) (IsFormat-cell region)
    by false e = IsFormat-told_other region m small fits e

abbrev form : Option Other → Bool → Bool → LinkForm
form o base width = record { other = o; has_base = base; has_width = width }

form-same : (o p : Option Other) (a b c d : Bool) → o ≡ p → a ≡ b → c ≡ d → form o a c ≡ form p b d
form-same o p a b c d e f g = rw (e, f, g) refl

abbrev number_of_form : LinkForm → ℕ
number_of_form f = 128 * spelled.flag f.has_width + (64 * spelled.flag f.has_base + option_number f.other)

-- There is such a form.
abbrev IsForm : Bool → LinkForm → Type 0
IsForm wide f = is_form wide (number_of_form f) ≡ true

-- And what it reads of memory stands outside the region.
abbrev IsFormIn : Bool → Region → LinkForm → Type 0
IsFormIn wide region f = IsForm wide f × IsOptionReadAt (is_free_byte region) f.other

implied : (a b : Bool) → (not a || b) ≡ true → a ≡ true → b ≡ true
implied true b h e = h
implied false b h e = cc

-- a form's number by its parts
abbrev number_by_parts : ℕ → ℕ
number_by_parts n = 128 * spelled.flag (nat_le 128 n) + (64 * spelled.flag (n / 64 % 2 == 1) + n % 64)

number-form : (n : ℕ) → n < 256 → number_by_parts n ≡ n
unfolding all_below
number-form n small = same _ _ (below 256 (λ c. number_by_parts c == c) refl n small)

number-fits : (wide : Bool) (n : ℕ) → n < 256 → is_form wide n ≡ true → is_number (n % 64) ≡ true
unfolding all_below
number-fits true n small h = implied (is_form true n) _ (below 256 (λ c. not (is_form true c) || is_number (c % 64)) refl n small) h
number-fits false n small h = implied (is_form false n) _ (below 256 (λ c. not (is_form false c) || is_number (c % 64)) refl n small) h

from_form : LinkForm → ℕ × Option Other
from_form f = (number_of_form f, f.other)

-- a form's number, and what it reads
abbrev AreFormParts : Bool → Region → ℕ × Option Other → Type 0
AreFormParts wide region p = ((p.0 < 256) × (is_form wide p.0 ≡ true)) × IsOtherOf region (p.0 % 64) p.1

form-there : (wide : Bool) (region : Region) (p : ℕ × Option Other) → AreFormParts wide region p → (from_form (to_form p) ≡ p) × IsFormIn wide region (to_form p)
unfolding from_form
form-there wide region p h =
    let e : number_of_form (to_form p) ≡ p.0 = ap (λ (m : ℕ). 128 * spelled.flag (nat_le 128 p.0) + (64 * spelled.flag (p.0 / 64 % 2 == 1) + m)) h.1.0 ∙ number-form p.0 h.0.0 in
    (ap (λ (n : ℕ). (let q : ℕ × Option Other = (n, p.1) in q)) e, (ap (is_form wide) e ∙ h.0.1, h.1.1))

-- a number below 64, 64 more or not, and 128 more or not
parts-number : (k b w n : ℕ) → k ≤ 63 → b ≤ 1 → w ≤ 1 → n ≡ 128 * w + (64 * b + k) → (n % 64 ≡ k) × (n / 64 % 2 ≡ b) × (n / 128 ≡ w) × (n < 256)
parts-number k b w n kf bf wf e = (omega arith, omega arith, omega arith, omega arith)

high-flag : (n : ℕ) (w : Bool) → n < 256 → n / 128 ≡ spelled.flag w → nat_le 128 n ≡ w
high-flag n true small e = is_le 128 n (omega (arith, e))
high-flag n false small e = less n (omega (arith, e))
  where
    less : (n : ℕ) → n ≤ 127 → nat_le 128 n ≡ false
    less n h = grind (arith, nat_tests)

form-parts : (f : LinkForm) (n : ℕ) → n ≡ number_of_form f → (n % 64 ≡ option_number f.other) × ((n / 64 % 2 == 1) ≡ f.has_base) × (nat_le 128 n ≡ f.has_width) × (n < 256)
form-parts f n e =
    let few : option_number f.other ≤ 63 = omega (arith, option-few f.other) in
    let k = parts-number (option_number f.other) (spelled.flag f.has_base) (spelled.flag f.has_width) n few (flag_small f.has_base) (flag_small f.has_width) e in
    (k.0, one-flag _ f.has_base k.1, high-flag n f.has_width k.3 k.2, k.3)

form-again : (wide : Bool) (region : Region) (f : LinkForm) → IsFormIn wide region f → AreFormParts wide region (from_form f) × (to_form (from_form f) ≡ f)
unfolding from_form
form-again wide region f h =
    let k = form-parts f (number_of_form f) refl in
    (((k.3, h.0), (sym k.0, h.1)), form-same f.other f.other _ f.has_base _ f.has_width refl k.1 k.2)

abbrev spelled_form : LinkForm → List ℕ
spelled_form f = told.byte (number_of_form f) ++ option_argument f.other

low-part : (n : ℕ) → n % 64 < 64
low-part n = omega arith

IsFormat-form : (wide : Bool) (region : Region) → IsFormat (form_at wide region) spelled_form (IsFormIn wide region)
unfolding form_at from_form
IsFormat-form wide region =
    IsFormat-onto to_form from_form _ (λ p. spelled_byte p.0 ++ option_argument p.1) (AreFormParts wide region) (IsFormIn wide region) (form-there wide region) (form-again wide region)
    (IsFormat-followed (checked fault.Field (is_form wide) byte) (λ n. other_at region (n % 64)) spelled_byte (λ n. option_argument) (λ n. (n < 256) × (is_form wide n ≡ true)) (λ n. IsOtherOf region (n % 64))
    (IsFormat-checked fault.Field (is_form wide) byte spelled_byte (λ n. n < 256) IsFormat-byte) (λ n h. IsFormat-other region (n % 64) (low-part n) (number-fits wide n h.0 h.1)))

-- ---- which links have which form

-- Links may have a base and a width, or each has one sum alone.
abbrev pub MayBeLinked : Bool → Option Link → Type 0
MayBeLinked wide l = may_be_linked wide l ≡ true

-- What reads nothing else has a factor of 1.
abbrev has_factor : Option Link → Bool
has_factor None = true
has_factor (Some l) = reads_other l.other || l.factor == 1

abbrev form_in : Option Link → LinkForm
form_in None = form None false false
form_in (Some l) = form (Some l.other) (is_some l.base) (told.has_width l.width)

or-right : (a b : Bool) → b ≡ true → (a || b) ≡ true
or-right true b h = refl
or-right false b h = h

-- of what reads another, or nothing else beside a base
wide-number : (o : Other) (base one : Bool) → (reads_other o || base && one) ≡ true → (is_between 1 11 (option_number (Some o)) || option_number (Some o) == 13 && base) ≡ true
wide-number (Of A) base one h = refl
wide-number (Of B) base one h = refl
wide-number (Of C) base one h = refl
wide-number (Of D) base one h = refl
wide-number (Of E) base one h = refl
wide-number (Of H) base one h = refl
wide-number (Of L) base one h = refl
wide-number (Pair Bc) base one h = refl
wide-number (Pair De) base one h = refl
wide-number (Pair Hl) base one h = refl
wide-number (Cell a) base one h = refl
wide-number Nothing base one h = (and_both base one h).0

wide-fits : (o : Other) (base width one : Bool) → (reads_other o || base && one) ≡ true → IsForm true (form (Some o) base width)
wide-fits o base width one h =
    let n : ℕ = number_of_form (form (Some o) base width) in
    let k = form-parts (form (Some o) base width) n refl in
    let wide : is_wide_form n ≡ true = ap (λ (m : ℕ). is_between 1 11 m || m == 13 && (n / 64 % 2 == 1)) k.0 ∙ (ap (λ b. is_between 1 11 (option_number (Some o)) || option_number (Some o) == 13 && b) k.1 ∙ wide-number o base one h) in
    or-right (is_between 0 10 n) (is_wide_form n) wide

other-few : (o : Other) → reads_register o ≡ true → option_number (Some o) ≤ 10
other-few (Of A) h = omega arith
other-few (Of B) h = omega arith
other-few (Of C) h = omega arith
other-few (Of D) h = omega arith
other-few (Of E) h = omega arith
other-few (Of H) h = omega arith
other-few (Of L) h = omega arith
other-few (Pair Bc) h = omega arith
other-few (Pair De) h = omega arith
other-few (Pair Hl) h = omega arith
other-few (Cell a) h = absurd cc
other-few Nothing h = absurd cc

plain-fits : (o : Other) (base : Option WordPair) (one : Bool) → (reads_register o && (is_none base && one)) ≡ true → IsForm false (form (Some o) (is_some base) (not one))
plain-fits o (Some p) one h = absurd (no_base (reads_register o) h)
  where
    no_base : (a : Bool) → (a && false) ≡ true → ⊥
    no_base true h = cc
    no_base false h = cc
plain-fits o None false h = absurd (no_width (reads_register o) h)
  where
    no_width : (a : Bool) → (a && false) ≡ true → ⊥
    no_width true h = cc
    no_width false h = cc
plain-fits o None true h = let k : option_number (Some o) ≤ 10 = other-few o (and_both (reads_register o) true h).0 in few (number_of_form (form (Some o) false false)) (omega (arith, k))
  where
    few : (n : ℕ) → n ≤ 10 → is_form false n ≡ true
    few n h = grind (arith, nat_tests)

form-fits : (wide : Bool) (l : Option Link) → MayBeLinked wide l → IsForm wide (form_in l)
form-fits wide None h = refl
form-fits true (Some l) h = wide-fits l.other (is_some l.base) (told.has_width l.width) (l.factor == 1) h
form-fits false (Some l) h = plain-fits l.other l.base (l.width == 0) h

based : (o : Other) (base width one : Bool) → IsForm true (form (Some o) base width) → (reads_other o || one) ≡ true → (reads_other o || base && one) ≡ true
based (Of r) base width one h e = refl
based (Pair p) base width one h e = refl
based (Cell a) base width one h e = refl
based Nothing true width one h e = e
based Nothing false true one h e = cc
based Nothing false false one h e = cc

few-other : (o : Other) → option_number (Some o) ≤ 10 → reads_register o ≡ true
few-other (Of r) h = refl
few-other (Pair p) h = refl
few-other (Cell a) h = absurd (omega (arith, h))
few-other Nothing h = absurd (omega (arith, h))

plain : (o : Other) (base : Option WordPair) (one : Bool) → IsForm false (form (Some o) (is_some base) (not one)) → (reads_register o && (is_none base && one)) ≡ true
plain o base one h = by base one (few (number_of_form (form (Some o) (is_some base) (not one))) h)
  where
    few : (n : ℕ) → is_form false n ≡ true → n ≤ 10
    few n h = grind (arith, nat_tests)

    by : (base : Option WordPair) (one : Bool) → number_of_form (form (Some o) (is_some base) (not one)) ≤ 10 → (reads_register o && (is_none base && one)) ≡ true
    by (Some p) true h = absurd (omega (arith, h))
    by (Some p) false h = absurd (omega (arith, h))
    by None false h = absurd (omega (arith, h))
    by None true h = both_and (reads_register o) true (few-other o (omega (arith, h))) refl

form-linked : (wide : Bool) (l : Option Link) → IsForm wide (form_in l) → has_factor l ≡ true → MayBeLinked wide l
form-linked wide None h e = refl
form-linked true (Some l) h e = based l.other (is_some l.base) (told.has_width l.width) (l.factor == 1) h e
form-linked false (Some l) h e = plain l.other l.base (l.width == 0) h

-- ---- what stands behind a form

abbrev low_byte : ℕ → ℕ
low_byte n = n % 256

factor-there : (n : ℕ) → (n < 256) × (is_between 1 255 n ≡ true) → (low_byte (to_factor n) ≡ n) × (is_factor (to_factor n) ≡ true)
factor-there n h = (back n h.0, small n h.1)
  where
    back : (n : ℕ) → n < 256 → low_byte (to_factor n) ≡ n
    back n h = grind (arith, nat_tests)

    small : (n : ℕ) → is_between 1 255 n ≡ true → is_factor (to_factor n) ≡ true
    small n h = grind (arith, nat_tests)

factor-again : (n : ℕ) → is_factor n ≡ true → ((low_byte n < 256) × (is_between 1 255 (low_byte n) ≡ true)) × (to_factor (low_byte n) ≡ n)
factor-again n h = ((omega arith, small n h), back n h)
  where
    small : (n : ℕ) → is_factor n ≡ true → is_between 1 255 (low_byte n) ≡ true
    small n h = grind (arith, nat_tests)

    back : (n : ℕ) → is_factor n ≡ true → to_factor (low_byte n) ≡ n
    back n h = grind (arith, nat_tests)

abbrev spelled_factor : ℕ → List ℕ
spelled_factor n = told.byte (low_byte n)

IsFormat-factor : IsFormat factor_at spelled_factor (λ n. is_factor n ≡ true)
unfolding factor_at
IsFormat-factor = IsFormat-onto to_factor low_byte (byte_between 1 255) spelled_byte (λ n. (n < 256) × (is_between 1 255 n ≡ true)) (λ n. is_factor n ≡ true) factor-there factor-again (IsFormat-byte_between 1 255)

-- The factor is there where something else is read, and else 1.
abbrev IsFactorOf : Bool → ℕ → Type 0
IsFactorOf there = IsWhere 1 (λ n. is_factor n ≡ true) there

IsFormat-factor_of : (other : Other) → IsFormat (factor_of other) (told.factor other) (IsFactorOf (reads_other other))
IsFormat-factor_of other = by (reads_other other)
  where
    by : (there : Bool) → IsFormat (defaulted 1 there factor_at) (λ n. told.where_there there (spelled_factor n)) (IsFactorOf there)
    by true = IsFormat-factor
    by false = IsFormat-nothing 1 (λ n. []) refl

factor-is : (there : Bool) (n : ℕ) → IsFactorOf there n → (is_factor n ≡ true) × ((there || n == 1) ≡ true)
factor-is true n h = (h, refl)
factor-is false n h = (ap is_factor h, is_same n 1 h)

is-factor : (there : Bool) (n : ℕ) → is_factor n ≡ true → (there || n == 1) ≡ true → IsFactorOf there n
is-factor true n h e = h
is-factor false n h e = same n 1 e

not-false : (b : Bool) → not b ≡ false → b ≡ true
not-false true h = refl
not-false false h = cc

-- a width that is spelled
abbrev IsWidth : ℕ → Type 0
IsWidth n = (n < 65536) × (is_between 1 65535 n ≡ true)

width-shown : (n : ℕ) → IsWidth n → told.has_width n ≡ true
width-shown n h = by n h.1
  where
    by : (n : ℕ) → is_between 1 65535 n ≡ true → told.has_width n ≡ true
    by n h = grind (arith, nat_tests)

IsFormat-width : (there : Bool) → IsFormat (defaulted 0 there width_at) told.width (IsWhere 0 IsWidth there)
unfolding width_at
IsFormat-width there = IsFormat-defaulted 0 told.has_width there (word_between 1 65535) spelled.word IsWidth refl width-shown (IsFormat-word_between 1 65535)

-- a width is a word, and there as this says
width-is : (there : Bool) (n : ℕ) → IsWhere 0 IsWidth there n → (told.has_width n ≡ there) × (n < 65536)
width-is true n h = (width-shown n h, h.0)
width-is false n h = (ap told.has_width h, omega (arith, h))

is-width : (there : Bool) (n : ℕ) → told.has_width n ≡ there → n < 65536 → IsWhere 0 IsWidth there n
is-width true n h small = (small, by n h small)
  where
    by : (n : ℕ) → told.has_width n ≡ true → n < 65536 → is_between 1 65535 n ≡ true
    by n h small = grind (arith, nat_tests)
is-width false n h small = same n 0 (not-false (n == 0) h)

-- ---- links

abbrev LinkParts : Type 0
LinkParts = ℕ × (Option WordPair × (ℕ × ℕ))

-- a link's factor, its base, its sum and its width
abbrev from_link : Option Link → LinkParts
from_link None = (0, (None, (0, 0)))
from_link (Some l) = (l.factor, (l.base, (l.sum, l.width)))

-- what comes after a form and its address
abbrev told_behind : Option Link → List ℕ
told_behind None = []
told_behind (Some l) = told.factor l.other l.factor ++ (told.optional told.pair l.base ++ (spelled.word l.sum ++ told.width l.width))

-- a link of this form, or none
abbrev IsLinkOf : Region → LinkForm → Option Link → Type 0
IsLinkOf region f l = (form_in l ≡ f) × (IfSome l (IsLink (is_free_byte region)) × (has_factor l ≡ true))

no-link : (region : Region) (b w : Bool) (l : Option Link) → IsLinkOf region (form None b w) l → l ≡ None
no-link region b w None h = refl
no-link region b w (Some l) h = absurd (apart l.other (ap (λ (f : LinkForm). f.other) h.0))
  where
    apart : (o : Other) → Some o ≡ None → ⊥
    apart o e = cc

some-is : (x y : Other) → Some x ≡ Some y → x ≡ y
some-is x y e = cc

abbrev AreLinkParts : Other → Bool → Bool → LinkParts → Type 0
AreLinkParts other base width p = IsFactorOf (reads_other other) p.0 × (((is_some p.1.0 ≡ base) × IfSome p.1.0 (λ z. Unit {0})) × ((p.1.1.0 < 65536) × IsWhere 0 IsWidth width p.1.1.1))

link-there : (region : Region) (other : Other) (base width : Bool) → IsReadAt (is_free_byte region) other → (p : LinkParts) → AreLinkParts other base width p → (from_link (to_link other p) ≡ p) × IsLinkOf region (form (Some other) base width) (to_link other p)
link-there region other base width read p h =
    let f = factor-is (reads_other other) p.0 h.0 in
    let w = width-is width p.1.1.1 h.1.1.1 in
    (refl, (form-same (Some other) (Some other) (is_some p.1.0) base (told.has_width p.1.1.1) width refl h.1.0.0 w.0, (record { other = read; factor = f.0; sum = h.1.1.0; width = w.1 }, f.1)))

link-again : (region : Region) (other : Other) (base width : Bool) (l : Option Link) → IsLinkOf region (form (Some other) base width) l → AreLinkParts other base width (from_link l) × (to_link other (from_link l) ≡ l)
link-again region other base width None h = absurd (apart other (ap (λ (f : LinkForm). f.other) h.0))
  where
    apart : (o : Other) → None ≡ Some o → ⊥
    apart o e = cc
link-again region other base width (Some l) h =
    let o : l.other ≡ other = some-is l.other other (ap (λ (f : LinkForm). f.other) h.0) in (
      (
        subst (λ o. IsFactorOf (reads_other o) l.factor) o (is-factor (reads_other l.other) l.factor h.1.0.factor h.1.1),
        ((ap (λ (f : LinkForm). f.has_base) h.0, some-pair l.base), (h.1.0.sum, is-width width l.width (ap (λ (f : LinkForm). f.has_width) h.0) h.1.0.width)),
      ),
      ap (λ o. to_link o (l.factor, (l.base, (l.sum, l.width)))) (sym o),
    )

abbrev spelled_parts : Other → LinkParts → List ℕ
spelled_parts other p = told.factor other p.0 ++ (told.optional told.pair p.1.0 ++ (spelled.word p.1.1.0 ++ told.width p.1.1.1))

parts-told : (region : Region) (other : Other) (base width : Bool) (l : Option Link) → IsLinkOf region (form (Some other) base width) l → spelled_parts other (from_link l) ≡ told_behind l
parts-told region other base width None h = absurd (apart other (ap (λ (f : LinkForm). f.other) h.0))
  where
    apart : (o : Other) → None ≡ Some o → ⊥
    apart o e = cc
parts-told region other base width (Some l) h = ap (λ o. spelled_parts o (l.factor, (l.base, (l.sum, l.width)))) (sym (some-is l.other other (ap (λ (f : LinkForm). f.other) h.0)))

-- Where there is no link there is nothing more.
form-alone : (wide base width : Bool) → IsForm wide (form None base width) → (base ≡ false) × (width ≡ false)
form-alone wide false false h = (refl, refl)
form-alone true true true h = cc
form-alone true true false h = cc
form-alone true false true h = cc
form-alone false true true h = cc
form-alone false true false h = cc
form-alone false false true h = cc

IsFormat-link_of : (wide : Bool) (region : Region) (o : Option Other) (base width : Bool) → IsFormIn wide region (form o base width) → IsFormat (link_of o base width) told_behind (IsLinkOf region (form o base width))
IsFormat-link_of wide region None base width h =
    let a = form-alone wide base width h.0 in
    IsFormat-as (nothing None) told_behind (λ l. l ≡ None) (IsLinkOf region (form None base width)) (λ l e. subst (IsLinkOf region (form None base width)) (sym e) (form-same None None false base false width refl (sym a.0) (sym a.1), (tt, refl))) (no-link region base width) (IsFormat-nothing None told_behind refl)
IsFormat-link_of wide region (Some other) base width h =
    IsFormat-spelled (link_of (Some other) base width) (λ l. spelled_parts other (from_link l)) told_behind (IsLinkOf region (form (Some other) base width)) (parts-told region other base width)
    (IsFormat-onto (to_link other) from_link (both (factor_of other) (both (optional base pair_at) (both word (defaulted 0 width width_at)))) (spelled_parts other) (AreLinkParts other base width) (IsLinkOf region (form (Some other) base width)) (link-there region other base width h.1) (link-again region other base width)
    (IsFormat-both (factor_of other) (both (optional base pair_at) (both word (defaulted 0 width width_at))) (told.factor other) (λ p. told.optional told.pair p.0 ++ (spelled.word p.1.0 ++ told.width p.1.1)) (IsFactorOf (reads_other other)) (λ p. ((is_some p.0 ≡ base) × IfSome p.0 (λ z. Unit {0})) × ((p.1.0 < 65536) × IsWhere 0 IsWidth width p.1.1)) (IsFormat-factor_of other)
    (IsFormat-both (optional base pair_at) (both word (defaulted 0 width width_at)) (told.optional told.pair) (λ p. spelled.word p.0 ++ told.width p.1) (λ z. (is_some z ≡ base) × IfSome z (λ z. Unit {0})) (λ p. (p.0 < 65536) × IsWhere 0 IsWidth width p.1) (IsFormat-option base pair_at told.pair (λ z. Unit {0}) IsFormat-pair)
    (IsFormat-both word (defaulted 0 width width_at) spelled.word told.width (λ n. n < 65536) (IsWhere 0 IsWidth width) IsFormat-word (IsFormat-width width)))))

link-told : (l : Option Link) → spelled_form (form_in l) ++ told_behind l ≡ told.link l
link-told None = refl
link-told (Some l) = refl

-- a link that may be, where links may have a base and a width or may not
abbrev pub IsLinkIn : Bool → Region → Option Link → Type 0
IsLinkIn wide region l = IfSome l (IsLink (is_free_byte region)) × MayBeLinked wide l

link-in : (wide : Bool) (region : Region) (p : LinkForm × Option Link) → IsFormIn wide region p.0 × IsLinkOf region p.0 p.1 → (let q : LinkForm × Option Link = (form_in p.1, p.1) in q ≡ p) × IsLinkIn wide region p.1
link-in wide region p h = (
  ap (λ (f : LinkForm). (let q : LinkForm × Option Link = (f, p.1) in q)) h.1.0,
  (h.1.1.0, form-linked wide p.1 (ap (λ (f : LinkForm). is_form wide (number_of_form f)) h.1.0 ∙ h.0.0) h.1.1.1),
)

-- A link that may be has a form, and reads what its form says.
in-link : (wide : Bool) (region : Region) (l : Option Link) → IsLinkIn wide region l → IsFormIn wide region (form_in l)
in-link wide region None h = (form-fits wide None h.1, tt)
in-link wide region (Some l) h = (form-fits wide (Some l) h.1, h.0.other)

linked-factor : (wide : Bool) (l : Option Link) → MayBeLinked wide l → has_factor l ≡ true
linked-factor wide None h = refl
linked-factor true (Some l) h = either (reads_other l.other) (is_some l.base) (l.factor == 1) h
  where
    either : (a b c : Bool) → (a || b && c) ≡ true → (a || c) ≡ true
    either true b c h = refl
    either false b c h = (and_both b c h).1
linked-factor false (Some l) h = ap (λ a. a || l.factor == 1) (register-read l.other (and_both (reads_register l.other) (is_none l.base && l.width == 0) h).0)
  where
    register-read : (o : Other) → reads_register o ≡ true → reads_other o ≡ true
    register-read (Of r) h = refl
    register-read (Pair p) h = refl
    register-read (Cell a) h = refl
    register-read Nothing h = absurd cc

IsFormat-link : (wide : Bool) (region : Region) → IsFormat (link_at wide region) told.link (IsLinkIn wide region)
unfolding link_at
IsFormat-link wide region =
    IsFormat-spelled (link_at wide region) (λ l. spelled_form (form_in l) ++ told_behind l) told.link (IsLinkIn wide region) (λ l h. link-told l)
    (IsFormat-onto (λ (p : LinkForm × Option Link). p.1) (λ l. (form_in l, l)) (followed (form_at wide region) (λ f. link_of f.other f.has_base f.has_width)) (λ p. spelled_form p.0 ++ told_behind p.1) (λ p. IsFormIn wide region p.0 × IsLinkOf region p.0 p.1) (IsLinkIn wide region)
    (link-in wide region)
    (λ l h. ((in-link wide region l h, (refl, (h.0, linked-factor wide l h.1))), refl))
    (IsFormat-followed (form_at wide region) (λ f. link_of f.other f.has_base f.has_width) spelled_form (λ f. told_behind) (IsFormIn wide region) (IsLinkOf region) (IsFormat-form wide region) (λ f h. IsFormat-link_of wide region f.other f.has_base f.has_width h)))

-- ---- what is known of a pair

from_facts : PairFacts → Bounds × Option Link
from_facts f = (f.bounds, f.link)

-- bounds in order, and a link that may be
abbrev pub AreFacts : Bool → Region → PairFacts → Type 0
AreFacts wide region f = AreBounds f.bounds × IsLinkIn wide region f.link

IsFormat-facts : (wide : Bool) (region : Region) → IsFormat (facts_at wide region) told.facts (λ f. AreFacts wide region f × (is_known f ≡ true))
unfolding facts_at from_facts told.facts
IsFormat-facts wide region =
    IsFormat-checked fault.Field is_known _ told.facts (AreFacts wide region)
    (IsFormat-mapped to_facts from_facts _ (λ p. told.bounds p.0 ++ told.link p.1) (λ p. AreBounds p.0 × IsLinkIn wide region p.1) (λ x h. refl) (λ y h. refl)
    (IsFormat-both bounds_at (link_at wide region) told.bounds told.link AreBounds (IsLinkIn wide region) IsFormat-bounds (IsFormat-link wide region)))

-- what may be known of a pair that is there or not
abbrev pub AreFactsFor : Bool → Region → Bool → PairFacts → Type 0
AreFactsFor wide region there f = AreFacts wide region f × (is_known f ≡ there)

facts-same : (a b c d : ℕ) (k l : Option Link) → a ≡ b → c ≡ d → k ≡ l → (let q : PairFacts = record { bounds = record { first = a; last = c }; link = k } in q) ≡ record { bounds = record { first = b; last = d }; link = l }
facts-same a b c d k l ea ec ek = rw (ea, ec, ek) refl

pub facts-absent : (f : PairFacts) → is_known f ≡ false → f ≡ nothing_known
facts-absent f h =
    let n = neither (is_some f.link) (not (f.bounds.first == 0 && f.bounds.last == 0xFFFF)) h in
    let b = and_both (f.bounds.first == 0) (f.bounds.last == 0xFFFF) (not-false (f.bounds.first == 0 && f.bounds.last == 0xFFFF) n.1) in
    facts-same f.bounds.first 0 f.bounds.last 0xFFFF f.link None (same f.bounds.first 0 b.0) (same f.bounds.last 0xFFFF b.1) (none-is f.link n.0)

absent-facts : (wide : Bool) (region : Region) → AreFactsFor wide region false nothing_known
absent-facts wide region = (((omega arith, omega arith), (tt, refl)), refl)

facts-are : (wide : Bool) (region : Region) (there : Bool) (f : PairFacts) → IsWhere nothing_known (AreFactsFor wide region true) there f → AreFactsFor wide region there f
facts-are wide region true f h = h
facts-are wide region false f h = subst (AreFactsFor wide region false) (sym h) (absent-facts wide region)

are-facts : (wide : Bool) (region : Region) (there : Bool) (f : PairFacts) → AreFactsFor wide region there f → IsWhere nothing_known (AreFactsFor wide region true) there f
are-facts wide region true f h = h
are-facts wide region false f h = facts-absent f h.1

IsFormat-known : (wide : Bool) (region : Region) (there : Bool) → IsFormat (defaulted nothing_known there (facts_at wide region)) told.known_facts (AreFactsFor wide region there)
IsFormat-known wide region there =
    IsFormat-as (defaulted nothing_known there (facts_at wide region)) told.known_facts (IsWhere nothing_known (AreFactsFor wide region true) there) (AreFactsFor wide region there) (facts-are wide region there) (are-facts wide region there)
    (IsFormat-defaulted nothing_known is_known there (facts_at wide region) told.facts (AreFactsFor wide region true) refl (λ f h. h.1) (IsFormat-facts wide region))

from_pairs : Pairs → PairFacts × (PairFacts × PairFacts)
from_pairs s = (s.bc, (s.de, s.hl))

abbrev pub ArePairsFor : Bool → Region → Present → Pairs → Type 0
ArePairsFor wide region p s = AreFactsFor wide region p.bc s.bc × (AreFactsFor wide region p.de s.de × AreFactsFor wide region p.hl s.hl)

pub IsFormat-pairs : (wide : Bool) (region : Region) (p : Present) → IsFormat (pairs_at wide region p) told.pairs (ArePairsFor wide region p)
unfolding pairs_at from_pairs told.pairs
IsFormat-pairs wide region p =
    IsFormat-mapped to_pairs from_pairs _ (λ s. told.known_facts s.0 ++ (told.known_facts s.1.0 ++ told.known_facts s.1.1)) (λ s. AreFactsFor wide region p.bc s.0 × (AreFactsFor wide region p.de s.1.0 × AreFactsFor wide region p.hl s.1.1)) (λ x h. refl) (λ y h. refl)
    (IsFormat-both (defaulted nothing_known p.bc (facts_at wide region)) _ _ _ _ _ (IsFormat-known wide region p.bc)
    (IsFormat-both (defaulted nothing_known p.de (facts_at wide region)) _ _ _ _ _ (IsFormat-known wide region p.de) (IsFormat-known wide region p.hl)))

-- Links may have a base and a width, or each has one sum alone.
abbrev pub AreLinked : Bool → Pairs → Type 0
AreLinked wide s = are_linked wide s ≡ true

pub pairs-linked : (wide : Bool) (region : Region) (p : Present) (s : Pairs) → ArePairsFor wide region p s → AreLinked wide s
pairs-linked wide region p s h = both_and (may_be_linked wide s.bc.link) _ h.0.0.1.1 (both_and (may_be_linked wide s.de.link) (may_be_linked wide s.hl.link) h.1.0.0.1.1 h.1.1.0.1.1)

pub each-linked : (wide : Bool) (s : Pairs) → AreLinked wide s → MayBeLinked wide s.bc.link × (MayBeLinked wide s.de.link × MayBeLinked wide s.hl.link)
each-linked wide s h =
    let b = and_both (may_be_linked wide s.bc.link) (may_be_linked wide s.de.link && may_be_linked wide s.hl.link) h in
    (b.0, and_both (may_be_linked wide s.de.link) (may_be_linked wide s.hl.link) b.1)
