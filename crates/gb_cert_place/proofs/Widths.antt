-- How many bytes a reader takes and needs at most.
use Rattle.std.proofs.Common.{◌≡◌, ℕ, ◌+◌, ◌/◌, ◌%◌, ◌≤◌, ◌==◌, nat_le, Bool, true, false, List, [], ◌∷◌, length, slice_index_or, Option, Some, None, Result, Ok, Err, refl, sym, ◌∙◌, ap, subst, arith}
use Rattle.std.proofs.lemmas.Bool.Decides.{nat_tests}
use Rattle.gb_ops.specs.declared.machine.Region.{Region}
use Rattle.gb_fields.specs.declared.fault.CertFault.{CertFault}
use Rattle.gb_fields.specs.declared.fault.CertFault.TheVariants as fault
use Rattle.gb_states.specs.declared.relations.InMemory.TheVariants.{Nowhere, Address, Item}
use Rattle.gb_states.specs.declared.relations.Present.{Present}
use Rattle.gb_states.specs.declared.relations.InMemory.{InMemory}
use Rattle.gb_states.specs.declared.role.Role.{Role}
use Rattle.gb_domain.specs.declared.places.StackBytes.{StackBytes}
use Rattle.gb_domain.specs.declared.rules.Rules.{Rules}
use Rattle.gb_domain.specs.declared.rules.Rules.TheVariants.{Extended}
use Rattle.gb_domain.specs.declared.pairs.Other.{Other}
use Rattle.gb_domain.specs.Pairs.{nothing_known}
use Rattle.gb_domain.specs.Places.{no_byte}
use Rattle.gb_fields.specs.Limits.{item_limit, need_limit, origin_limit, procedure_limit}
use Rattle.gb_fields.specs.Rules.{is_any_version_of, any_rules_of}
use Rattle.gb_fields.specs.Format.{Read, go_on, followed, both, mapped, if_passes, checked, optional, byte}
use Rattle.gb_fields.specs.Reading.{word, quad, node_number_by, node_number, byte_between, word_between, count_within, yes_no, returns_at, entry_at, nothing, base_at, need_at, region_at, node_count_at, Letters, is_magic, kind_of, magic_at, any_version_at, procedure_count_by, procedure_count_at, to_head, any_head_at}
use Rattle.gb_states.specs.Reading.{origin_at, val_at, may_at, ime_at, test_at, flg_at, ctl_at, vals_at, core_at, item_count_at, cell_at, range_at}
use Rattle.gb_states.specs.declared.relations.LinkForm.{LinkForm}
use Rattle.gb_states.specs.Links.{reads_other}
use Rattle.gb_states.specs.RelationReading.{defaulted, present_at, registers_at, address_at, item_at, place_by, memory_at, no_items, byte_at, pair_at, bounds_at, other_of, is_form, other_if, other_at, to_form, form_at, factor_at, factor_of, width_at, link_of, link_at, facts_at, pairs_at, parts_at, relations_at}
use Rattle.gb_states.proofs.Formats.{went_on, same_pair}
use Rattle.gb_cert_place.specs.Layout.{number_width, number_width_by, procedure_width, procedure_width_by}
use Rattle.gb_cert_place.proofs.Locality.{failed, same_fault}

-- A reader takes at most so many bytes, and where there are so many, it doesn't say that some are missing.
pub record IsWithin {X : Type 0} (r : Read X) (n : ℕ) : Type 0 where
  pub takes : (bytes : List ℕ) (x : X) (rest : List ℕ) → r bytes ≡ Ok (x, rest) → length bytes ≤ n + length rest
  pub decides : (bytes : List ℕ) → n ≤ length bytes → r bytes ≡ Err fault.CutShort → ⊥

pub IsWithin-byte : IsWithin byte 1
IsWithin-byte = record { takes = takes; decides = decides }
  where
    takes : (bytes : List ℕ) (x : ℕ) (rest : List ℕ) → byte bytes ≡ Ok (x, rest) → length bytes ≤ 1 + length rest
    takes [] x rest e = cc
    takes (b ∷ bs) x rest e = let l : length bs ≡ length rest = ap length (same_pair b x bs rest e).1 in omega arith

    decides : (bytes : List ℕ) → 1 ≤ length bytes → byte bytes ≡ Err fault.CutShort → ⊥
    decides [] le h = omega arith
    decides (b ∷ bs) le h = cc

-- what a test lets through
pub passes : {X : Type 0} (e : CertFault) (b : Bool) (x y : X) (rest end : List ℕ) → if_passes e b x rest ≡ Ok (y, end) → (x ≡ y) × (rest ≡ end)
passes e true x y rest end h = same_pair x y rest end h
passes e false x y rest end h = cc

-- Where bytes are missing in two fields, they are missing in the first, or in the second.
pub cut_then : {X Y : Type 0} (r : Read X) (t : X → Read Y) (n m : ℕ) → IsWithin r n → (bytes : List ℕ) → ((x : X) (rest : List ℕ) → r bytes ≡ Ok (x, rest) → m ≤ length rest → t x rest ≡ Err fault.CutShort → ⊥)
    → n + m ≤ length bytes → followed r t bytes ≡ Err fault.CutShort → ⊥
cut_then {X} {Y} r t n m a bytes b le h = first (r bytes) refl h
  where
    second : (x : X) (rest : List ℕ) → r bytes ≡ Ok (x, rest) → (read : Result (Y × List ℕ) CertFault) → t x rest ≡ read → go_on {Y = (X × Y) × List ℕ} read (λ y end. Ok ((x, y), end)) ≡ Err fault.CutShort → ⊥
    second x rest g (Ok q) k h = cc
    second x rest g (Err d) k h =
        let s : d ≡ fault.CutShort = same_fault {A = (X × Y) × List ℕ} d fault.CutShort h in
        let l : length bytes ≤ n + length rest = a.takes bytes x rest g in
        let few : m ≤ length rest = omega arith in
        b x rest g few (k ∙ ap (λ f. failed {A = Y × List ℕ} f) s)

    first : (read : Result (X × List ℕ) CertFault) → r bytes ≡ read → go_on {Y = (X × Y) × List ℕ} read (λ x rest. go_on (t x rest) (λ y end. Ok ((x, y), end))) ≡ Err fault.CutShort → ⊥
    first (Ok p) g h = second p.0 p.1 g (t p.0 p.1) refl h
    first (Err d) g h =
        let s : d ≡ fault.CutShort = same_fault {A = (X × Y) × List ℕ} d fault.CutShort h in
        let few : n ≤ length bytes = omega arith in
        a.decides bytes few (g ∙ ap (λ f. failed {A = X × List ℕ} f) s)

-- A second field's length may depend on what the first one can be.
pub IsWithin-followed_where : {X Y : Type 0} (r : Read X) (t : X → Read Y) (n m : ℕ) (good : X → Type 0) → ((bytes : List ℕ) (x : X) (rest : List ℕ) → r bytes ≡ Ok (x, rest) → good x)
    → IsWithin r n → ((x : X) → good x → IsWithin (t x) m) → IsWithin (followed r t) (n + m)
IsWithin-followed_where {X} {Y} r t n m good is_good a b = record {
  takes = λ bytes p rest e.
      let c = went_on (r bytes) (λ x rest. go_on (t x rest) (λ y end. Ok ((x, y), end))) (p, rest) e in
      let d = went_on (t c.0 c.1) (λ y end. Ok ((c.0, y), end)) (p, rest) c.3 in
      let l : length bytes ≤ n + length c.1 = a.takes bytes c.0 c.1 c.2 in
      let k : length c.1 ≤ m + length d.1 = (b c.0 (is_good bytes c.0 c.1 c.2)).takes c.1 d.0 d.1 d.2 in
      let s : length d.1 ≡ length rest = ap length (same_pair (c.0, d.0) p d.1 rest d.3).1 in
      omega arith;
  decides = λ bytes le h. cut_then r t n m a bytes (λ x rest g few k. (b x (is_good bytes x rest g)).decides rest few k) le h;
}

pub IsWithin-followed : {X Y : Type 0} (r : Read X) (t : X → Read Y) (n m : ℕ) → IsWithin r n → ((x : X) → IsWithin (t x) m) → IsWithin (followed r t) (n + m)
IsWithin-followed r t n m a b = IsWithin-followed_where r t n m (λ x. Unit {0}) (λ bytes x rest e. tt) a (λ x h. b x)

pub IsWithin-both : {X Y : Type 0} (r : Read X) (t : Read Y) (n m : ℕ) → IsWithin r n → IsWithin t m → IsWithin (both r t) (n + m)
IsWithin-both r t n m a b = IsWithin-followed r (λ x. t) n m a (λ x. b)

-- What a field stands for plays no part.
pub cut_mapped : {X Y : Type 0} (f : X → Y) (r : Read X) (bytes : List ℕ) → mapped f r bytes ≡ Err fault.CutShort → r bytes ≡ Err fault.CutShort
cut_mapped {X} {Y} f r bytes h = by (r bytes) refl h
  where
    by : (read : Result (X × List ℕ) CertFault) → r bytes ≡ read → go_on {Y = Y × List ℕ} read (λ x rest. Ok (f x, rest)) ≡ Err fault.CutShort → r bytes ≡ Err fault.CutShort
    by (Ok p) g h = cc
    by (Err d) g h = g ∙ ap (λ f. failed {A = X × List ℕ} f) (same_fault {A = Y × List ℕ} d fault.CutShort h)

pub IsWithin-mapped : {X Y : Type 0} (f : X → Y) (r : Read X) (n : ℕ) → IsWithin r n → IsWithin (mapped f r) n
IsWithin-mapped {X} {Y} f r n a = record {
  takes = λ bytes y rest e.
      let c = went_on (r bytes) (λ x rest. Ok (f x, rest)) (y, rest) e in
      let l : length bytes ≤ n + length c.1 = a.takes bytes c.0 c.1 c.2 in
      let s : length c.1 ≡ length rest = ap length (same_pair (f c.0) y c.1 rest c.3).1 in
      omega arith;
  decides = λ bytes le h. a.decides bytes le (cut_mapped f r bytes h);
}

-- a test's fault says that a field is wrong
pub IsWithin-checked : {X : Type 0} (e : CertFault) (p : X → Bool) (r : Read X) (n : ℕ) → (e ≡ fault.CutShort → ⊥) → IsWithin r n → IsWithin (checked e p r) n
IsWithin-checked {X} e p r n other a = record {
  takes = λ bytes x rest h.
      let c = went_on (r bytes) (λ x rest. if_passes e (p x) x rest) (x, rest) h in
      let l : length bytes ≤ n + length c.1 = a.takes bytes c.0 c.1 c.2 in
      let s : length c.1 ≡ length rest = ap length (passes e (p c.0) c.0 x c.1 rest c.3).1 in
      omega arith;
  decides = λ bytes le h. by bytes le (r bytes) refl h;
}
  where
    wrong : (b : Bool) (x : X) (rest : List ℕ) → if_passes e b x rest ≡ Err fault.CutShort → ⊥
    wrong true x rest h = cc
    wrong false x rest h = other (same_fault {A = X × List ℕ} e fault.CutShort h)

    by : (bytes : List ℕ) → n ≤ length bytes → (read : Result (X × List ℕ) CertFault) → r bytes ≡ read → go_on read (λ x rest. if_passes e (p x) x rest) ≡ Err fault.CutShort → ⊥
    by bytes le (Ok q) g h = wrong (p q.0) q.0 q.1 h
    by bytes le (Err d) g h = a.decides bytes le (g ∙ ap (λ f. failed {A = X × List ℕ} f) (same_fault {A = X × List ℕ} d fault.CutShort h))

-- ---- numbers

pub IsWithin-word : IsWithin word 2
unfolding word
IsWithin-word = IsWithin-mapped _ _ 2 (IsWithin-both byte byte 1 1 IsWithin-byte IsWithin-byte)

pub IsWithin-quad : IsWithin quad 4
unfolding quad
IsWithin-quad = IsWithin-mapped _ _ 4 (IsWithin-both word word 2 2 IsWithin-word IsWithin-word)

pub IsWithin-node_number : (version : ℕ) → IsWithin (node_number version) (number_width version)
unfolding node_number
IsWithin-node_number version = by (version == 1)
  where
    by : (b : Bool) → IsWithin (node_number_by b) (number_width_by b)
    by true = IsWithin-word
    by false = IsWithin-quad

pub IsWithin-byte_between : (low high : ℕ) → IsWithin (byte_between low high) 1
IsWithin-byte_between low high = IsWithin-checked _ _ byte 1 (λ h. cc) IsWithin-byte

pub IsWithin-word_between : (low high : ℕ) → IsWithin (word_between low high) 2
IsWithin-word_between low high = IsWithin-checked _ _ word 2 (λ h. cc) IsWithin-word

pub IsWithin-count_within : (limit : ℕ) → IsWithin (count_within limit) 1
IsWithin-count_within limit = IsWithin-checked _ _ byte 1 (λ h. cc) IsWithin-byte

pub IsWithin-yes_no : IsWithin yes_no 1
unfolding yes_no
IsWithin-yes_no = IsWithin-mapped _ _ 1 (IsWithin-byte_between 0 1)

-- ---- values

IsWithin-origin : (rules : Rules) → IsWithin (origin_at rules) 1
unfolding origin_at
IsWithin-origin rules = IsWithin-mapped _ _ 1 (IsWithin-byte_between 0 (origin_limit rules))

pub IsWithin-val : (rules : Rules) → IsWithin (val_at rules) 3
unfolding val_at
IsWithin-val rules = IsWithin-mapped _ _ 3 (IsWithin-both _ _ 2 1 (IsWithin-checked _ _ _ 2 (λ h. cc) (IsWithin-both _ _ 1 1 IsWithin-byte IsWithin-byte)) (IsWithin-origin rules))

pub IsWithin-may : IsWithin may_at 1
unfolding may_at
IsWithin-may = IsWithin-mapped _ _ 1 (IsWithin-byte_between 1 3)

pub IsWithin-ime : IsWithin ime_at 1
unfolding ime_at
IsWithin-ime = IsWithin-mapped _ _ 1 (IsWithin-byte_between 1 7)

pub IsWithin-test : IsWithin test_at 2
unfolding test_at
IsWithin-test = IsWithin-mapped _ _ 2 (IsWithin-checked _ _ _ 2 (λ h. cc) (IsWithin-both _ _ 1 1 IsWithin-yes_no IsWithin-byte))

pub IsWithin-flg : IsWithin flg_at 2
unfolding flg_at
IsWithin-flg =
    IsWithin-mapped _ _ 2 (IsWithin-both _ _ 1 1 (IsWithin-checked _ _ _ 1 (λ h. cc) (IsWithin-mapped _ _ 1 IsWithin-byte)) (IsWithin-mapped _ _ 1 (IsWithin-checked _ _ _ 1 (λ h. cc) IsWithin-byte)))

IsWithin-ctl : IsWithin ctl_at 9
unfolding ctl_at
IsWithin-ctl =
    IsWithin-mapped _ _ 9 (IsWithin-both _ _ 4 5 (IsWithin-checked _ _ _ 4 (λ h. cc) (IsWithin-both _ _ 2 2 (IsWithin-word_between 0 511) (IsWithin-word_between 0 511)))
    (IsWithin-both _ _ 2 3 (IsWithin-checked _ _ _ 2 (λ h. cc) (IsWithin-both _ _ 1 1 IsWithin-byte IsWithin-byte))
    (IsWithin-both _ _ 1 2 IsWithin-may (IsWithin-both _ _ 1 1 IsWithin-may IsWithin-yes_no))))

IsWithin-vals : (rules : Rules) → IsWithin (vals_at rules) 21
unfolding vals_at
IsWithin-vals rules =
    let v = IsWithin-val rules in
    IsWithin-mapped _ _ 21 (IsWithin-both _ _ 3 18 v (IsWithin-both _ _ 3 15 v (IsWithin-both _ _ 3 12 v (IsWithin-both _ _ 3 9 v (IsWithin-both _ _ 3 6 v (IsWithin-both _ _ 3 3 v v))))))

-- ---- what is known of several parts together

pub IsWithin-nothing : {X : Type 0} (x : X) (n : ℕ) → IsWithin (nothing x) n
IsWithin-nothing {X} x n = record {
  takes = λ bytes y rest e. let l : length bytes ≡ length rest = ap length (same_pair x y bytes rest e).1 in omega arith;
  decides = λ bytes le h. none bytes h;
}
  where
    none : (bytes : List ℕ) → nothing x bytes ≡ Err fault.CutShort → ⊥
    none bytes h = cc

pub IsWithin-defaulted : {X : Type 0} (x : X) (there : Bool) (r : Read X) (n : ℕ) → IsWithin r n → IsWithin (defaulted x there r) n
IsWithin-defaulted x true r n a = a
IsWithin-defaulted x false r n a = IsWithin-nothing x n

pub IsWithin-optional : {X : Type 0} (there : Bool) (r : Read X) (n : ℕ) → IsWithin r n → IsWithin (optional there r) n
IsWithin-optional true r n a = IsWithin-mapped Some r n a
IsWithin-optional false r n a = IsWithin-nothing None n

pub IsWithin-present : (test : Option ℕ) → IsWithin (present_at test) 1
unfolding present_at
IsWithin-present test = IsWithin-checked _ _ _ 1 (λ h. cc) (IsWithin-mapped _ _ 1 (IsWithin-byte_between 0 127))

pub IsWithin-more : {X : Type 0} (r : Read X) (n m : ℕ) → n ≤ m → IsWithin r n → IsWithin r m
IsWithin-more r n m le a = record {
  takes = λ bytes x rest e. let l : length bytes ≤ n + length rest = a.takes bytes x rest e in omega arith;
  decides = λ bytes few h. let l : n ≤ length bytes = omega arith in a.decides bytes l h;
}

IsWithin-memory : (k : StackBytes) (place : InMemory) → IsWithin (memory_at k place) 2
unfolding address_at item_at
IsWithin-memory k Nowhere = IsWithin-nothing None 2
IsWithin-memory k Address = IsWithin-mapped Some _ 2 (IsWithin-checked _ _ _ 2 (λ h. cc) IsWithin-word)
IsWithin-memory k Item = IsWithin-more _ 1 2 (omega arith) (IsWithin-mapped Some _ 1 (IsWithin-mapped _ _ 1 (IsWithin-checked _ _ _ 1 (λ h. cc) IsWithin-byte)))

pub IsWithin-one_byte : (k : StackBytes) (test : Option ℕ) (place : InMemory) (bits : Bool) → IsWithin (byte_at k test place bits) 4
unfolding byte_at registers_at
IsWithin-one_byte k test place bits =
    IsWithin-mapped _ _ 4 (IsWithin-both _ _ 1 3 (IsWithin-checked _ _ _ 1 (λ h. cc) (IsWithin-mapped _ _ 1 (IsWithin-byte_between 0 127)))
    (IsWithin-both _ _ 2 1 (IsWithin-memory k place) (IsWithin-optional bits _ 1 IsWithin-byte)))

-- the most bytes of a width behind a form that has one or not
abbrev width_room : Bool → ℕ
width_room true = 2
width_room false = 0

IsWithin-width : (there : Bool) → IsWithin (defaulted 0 there width_at) (width_room there)
unfolding width_at
IsWithin-width true = IsWithin-word_between 1 65535
IsWithin-width false = IsWithin-nothing 0 0

-- the most bytes of a base behind a form that has one or not
abbrev base_room : Bool → ℕ
base_room true = 1
base_room false = 0

IsWithin-pair : IsWithin pair_at 1
unfolding pair_at
IsWithin-pair = IsWithin-mapped _ _ 1 (IsWithin-byte_between 0 2)

IsWithin-link_base : (there : Bool) → IsWithin (optional there pair_at) (base_room there)
IsWithin-link_base true = IsWithin-optional true pair_at 1 IsWithin-pair
IsWithin-link_base false = IsWithin-nothing None 0

IsWithin-factor : (other : Other) → IsWithin (factor_of other) 1
unfolding factor_at
IsWithin-factor other = IsWithin-defaulted 1 (reads_other other) _ 1 (IsWithin-mapped _ _ 1 (IsWithin-byte_between 1 255))

-- the most bytes behind such a form
abbrev behind_form : Bool → Bool → ℕ
behind_form base width = 1 + (base_room base + (2 + width_room width))

IsWithin-link_of : (o : Option Other) (base width : Bool) → IsWithin (link_of o base width) (behind_form base width)
IsWithin-link_of None base width = IsWithin-nothing None (behind_form base width)
IsWithin-link_of (Some o) base width =
    IsWithin-mapped _ _ (behind_form base width) (IsWithin-both _ _ 1 (base_room base + (2 + width_room width)) (IsWithin-factor o)
    (IsWithin-both _ _ (base_room base) (2 + width_room width) (IsWithin-link_base base) (IsWithin-both _ _ 2 (width_room width) IsWithin-word (IsWithin-width width))))

-- the most bytes after a form of what else it reads
abbrev argument_room : Bool → ℕ
argument_room true = 2
argument_room false = 0

IsWithin-other_if : (region : Region) (cell : Bool) (n : ℕ) → IsWithin (other_if region cell n) (argument_room cell)
unfolding address_at
IsWithin-other_if region true n = IsWithin-mapped _ _ 2 (IsWithin-checked _ _ _ 2 (λ h. cc) IsWithin-word)
IsWithin-other_if region false n = IsWithin-nothing (other_of n) 0

-- Where links have no base and no width, and read no memory, no form says such.
abbrev IsOlderNumber : ℕ → Type 0
IsOlderNumber n = is_form false n ≡ true

older_number : (bytes : List ℕ) (n : ℕ) (rest : List ℕ) → checked fault.Field (is_form false) byte bytes ≡ Ok (n, rest) → IsOlderNumber n
older_number bytes n rest e =
    let d = went_on (byte bytes) (λ n end. if_passes fault.Field (is_form false n) n end) (n, rest) e in
    let same : d.0 ≡ n = (passes fault.Field (is_form false d.0) d.0 n d.1 rest d.3).0 in
    subst IsOlderNumber same (passed (is_form false d.0) d.0 n d.1 rest d.3)
  where
    passed : (b : Bool) (x y : ℕ) (rest end : List ℕ) → if_passes fault.Field b x rest ≡ Ok (y, end) → b ≡ true
    passed true x y rest end h = refl
    passed false x y rest end h = cc

-- the most bytes of a form, and of what else it reads
abbrev form_room : Bool → ℕ
form_room true = 3
form_room false = 1

IsWithin-form : (wide : Bool) (region : Region) → IsWithin (form_at wide region) (form_room wide)
unfolding form_at
IsWithin-form true region = IsWithin-mapped _ _ 3 (IsWithin-followed _ _ 1 2 (IsWithin-checked _ _ byte 1 (λ h. cc) IsWithin-byte) (λ n. by (n % 64 == 11) (n % 64)))
  where
    by : (cell : Bool) (n : ℕ) → IsWithin (other_if region cell n) 2
    by true n = IsWithin-other_if region true n
    by false n = IsWithin-nothing (other_of n) 2
IsWithin-form false region = IsWithin-mapped _ _ 1 (IsWithin-followed_where _ _ 1 0 IsOlderNumber older_number (IsWithin-checked _ _ byte 1 (λ h. cc) IsWithin-byte) (λ n h. subst (λ cell. IsWithin (other_if region cell (n % 64)) 0) (sym (no_cell n h)) (IsWithin-nothing (other_of (n % 64)) 0)))
  where
    no_cell : (n : ℕ) → is_form false n ≡ true → (n % 64 == 11) ≡ false
    no_cell n h = grind (arith, nat_tests)

-- Where links have no base and no width, no form has one.
abbrev IsOlderForm : LinkForm → Type 0
IsOlderForm f = (f.has_base ≡ false) × (f.has_width ≡ false)

older_form : (region : Region) (bytes : List ℕ) (f : LinkForm) (rest : List ℕ) → form_at false region bytes ≡ Ok (f, rest) → IsOlderForm f
unfolding form_at
older_form region bytes f rest e =
    let c = went_on (followed (checked fault.Field (is_form false) byte) (λ n. other_at region (n % 64)) bytes) (λ p end. Ok (to_form p, end)) (f, rest) e in
    let d = went_on (checked fault.Field (is_form false) byte bytes) (λ n first. go_on (other_at region (n % 64) first) (λ o end. Ok ((n, o), end))) (c.0, c.1) c.2 in
    let g = went_on (other_at region (d.0 % 64) d.1) (λ o end. Ok ((d.0, o), end)) (c.0, c.1) d.3 in
    let low = older_number bytes d.0 d.1 d.2 in
    let number : d.0 ≡ c.0.0 = ap (λ (p : ℕ × Option Other). p.0) (same_pair (d.0, g.0) c.0 g.1 c.1 g.3).0 in
    let older = subst IsOlderNumber number low in
    subst IsOlderForm (same_pair (to_form c.0) f c.1 rest c.3).0 (no_base c.0.0 older, no_width c.0.0 older)
  where
    no_base : (n : ℕ) → is_form false n ≡ true → (n / 64 % 2 == 1) ≡ false
    no_base n h = grind (arith, nat_tests)

    no_width : (n : ℕ) → is_form false n ≡ true → nat_le 128 n ≡ false
    no_width n h = grind (arith, nat_tests)

-- by whether links may have a base and a width: the most bytes of a link, of what is known of a pair, and of all that is known together
abbrev link_room : Bool → ℕ
link_room true = 9
link_room false = 4

abbrev facts_room : Bool → ℕ
facts_room true = 13
facts_room false = 8

abbrev pub parts_room : Bool → ℕ
parts_room true = 44
parts_room false = 29

IsWithin-link : (wide : Bool) (region : Region) → IsWithin (link_at wide region) (link_room wide)
unfolding link_at
IsWithin-link true region = IsWithin-mapped _ _ 9 (IsWithin-followed _ _ 3 6 (IsWithin-form true region) (λ f. by f.other f.has_base f.has_width))
  where
    by : (o : Option Other) (base width : Bool) → IsWithin (link_of o base width) 6
    by o true true = IsWithin-link_of o true true
    by o true false = IsWithin-more _ 4 6 (omega arith) (IsWithin-link_of o true false)
    by o false true = IsWithin-more _ 5 6 (omega arith) (IsWithin-link_of o false true)
    by o false false = IsWithin-more _ 3 6 (omega arith) (IsWithin-link_of o false false)
IsWithin-link false region = IsWithin-mapped _ _ 4 (IsWithin-followed_where _ _ 1 3 IsOlderForm (older_form region) (IsWithin-form false region) older)
  where
    older : (f : LinkForm) → IsOlderForm f → IsWithin (link_of f.other f.has_base f.has_width) 3
    older f h = subst (λ base. IsWithin (link_of f.other base f.has_width) 3) (sym h.0) (subst (λ width. IsWithin (link_of f.other false width) 3) (sym h.1) (IsWithin-link_of f.other false false))

facts_by : (wide : Bool) (region : Region) (n : ℕ) → IsWithin (link_at wide region) n → IsWithin (facts_at wide region) (4 + n)
unfolding facts_at bounds_at
facts_by wide region n a =
    IsWithin-checked _ _ _ (4 + n) (λ h. cc) (IsWithin-mapped _ _ (4 + n) (IsWithin-both _ _ 4 n (IsWithin-mapped _ _ 4 (IsWithin-checked _ _ _ 4 (λ h. cc) (IsWithin-both _ _ 2 2 IsWithin-word IsWithin-word))) a))

pub IsWithin-facts : (wide : Bool) (region : Region) → IsWithin (facts_at wide region) (facts_room wide)
IsWithin-facts true region = facts_by true region 9 (IsWithin-link true region)
IsWithin-facts false region = facts_by false region 4 (IsWithin-link false region)

parts_by : (wide : Bool) (k : StackBytes) (test : Option ℕ) (place : InMemory) (p : Present) (n : ℕ) → IsWithin (facts_at wide k.region) n → IsWithin (parts_at wide k test place p) (4 + (1 + (n + (n + n))))
unfolding pairs_at
parts_by wide k test place p n a =
    let known : (there : Bool) → IsWithin (defaulted nothing_known there (facts_at wide k.region)) n = λ there. IsWithin-defaulted nothing_known there (facts_at wide k.region) n a in
    IsWithin-both _ _ 4 (1 + (n + (n + n))) (IsWithin-defaulted no_byte p.byte _ 4 (IsWithin-one_byte k test place p.bits))
    (IsWithin-both _ _ 1 (n + (n + n)) (IsWithin-optional p.zero _ 1 IsWithin-pair)
    (IsWithin-mapped _ _ (n + (n + n)) (IsWithin-both _ _ n (n + n) (known p.bc) (IsWithin-both _ _ n n (known p.de) (known p.hl)))))

pub IsWithin-parts : (wide : Bool) (k : StackBytes) (test : Option ℕ) (place : InMemory) (p : Present) → IsWithin (parts_at wide k test place p) (parts_room wide)
IsWithin-parts true k test place p = parts_by true k test place p 13 (IsWithin-facts true k.region)
IsWithin-parts false k test place p = parts_by false k test place p 8 (IsWithin-facts false k.region)

pub IsWithin-relations : (region : Region) (test : Option ℕ) → IsWithin (relations_at region test) 30
unfolding relations_at
IsWithin-relations region test = IsWithin-mapped _ _ 30 (IsWithin-followed _ _ 1 29 (IsWithin-present test) (λ p. IsWithin-parts false (no_items region) test (place_by false p.address) p))

-- ---- blocks

pub IsWithin-core : (rules : Rules) (role : Role) → IsWithin (core_at rules role) 40
unfolding core_at
IsWithin-core rules role =
    IsWithin-mapped _ _ 40 (IsWithin-both _ _ 1 39 IsWithin-ime (IsWithin-both _ _ 1 38 (IsWithin-byte_between 0 161)
    (IsWithin-both _ _ 1 37 (IsWithin-checked _ _ _ 1 (λ h. cc) IsWithin-yes_no)
    (IsWithin-both _ _ 2 35 IsWithin-test (IsWithin-both _ _ 9 26 IsWithin-ctl (IsWithin-both _ _ 2 24 IsWithin-flg (IsWithin-both _ _ 3 21 (IsWithin-val rules) (IsWithin-vals rules))))))))

pub IsWithin-item_count : (rules : Rules) (role : Role) (stack_set : Bool) → IsWithin (item_count_at rules role stack_set) 1
unfolding item_count_at
IsWithin-item_count rules role stack_set = IsWithin-checked _ _ _ 1 (λ h. cc) (IsWithin-count_within (item_limit rules))

pub IsWithin-cell : (rules : Rules) (region : Region) (least : ℕ) → IsWithin (cell_at rules region least) 5
unfolding cell_at
IsWithin-cell rules region least = IsWithin-mapped _ _ 5 (IsWithin-both _ _ 2 3 (IsWithin-checked _ _ _ 2 (λ h. cc) (IsWithin-checked _ _ _ 2 (λ h. cc) IsWithin-word)) (IsWithin-val rules))

pub IsWithin-range : (region : Region) (least : ℕ) → IsWithin (range_at region least) 4
unfolding range_at
IsWithin-range region least = IsWithin-mapped _ _ 4 (IsWithin-checked _ _ _ 4 (λ h. cc) (IsWithin-both _ _ 2 2 (IsWithin-checked _ _ _ 2 (λ h. cc) IsWithin-word) IsWithin-word))

pub IsWithin-returns : (is_main : Bool) → IsWithin (returns_at is_main) 1
unfolding returns_at
IsWithin-returns is_main = IsWithin-checked _ _ _ 1 (λ h. cc) IsWithin-yes_no

pub IsWithin-entry : (version nodes : ℕ) → IsWithin (entry_at version nodes) (number_width version)
unfolding entry_at
IsWithin-entry version nodes = IsWithin-checked _ _ _ (number_width version) (λ h. cc) (IsWithin-node_number version)

pub IsWithin-base : (is_main : Bool) (region : Region) → IsWithin (base_at Extended is_main region) 2
unfolding base_at
IsWithin-base is_main region = IsWithin-checked _ _ _ 2 (λ h. cc) IsWithin-word

pub IsWithin-need : (rules : Rules) (is_main : Bool) (region : Region) → IsWithin (need_at rules is_main region) 2
unfolding need_at
IsWithin-need rules is_main region = IsWithin-checked _ _ _ 2 (λ h. cc) (IsWithin-mapped _ _ 2 (IsWithin-word_between 0 (need_limit rules)))

-- ---- the head, whose last two fields are as long as its version says

IsWithin-procedure_count : (version : ℕ) → IsWithin (procedure_count_at version) (procedure_width version)
unfolding procedure_count_at
IsWithin-procedure_count version = IsWithin-checked _ _ _ (procedure_width version) (λ h. cc) (by (version == 4))
  where
    by : (b : Bool) → IsWithin (procedure_count_by b) (procedure_width_by b)
    by true = IsWithin-word
    by false = IsWithin-count_within procedure_limit

-- what stands behind the version
abbrev counts_at : ℕ → Read (Region × (ℕ × ℕ))
counts_at version = both (region_at (any_rules_of version)) (both (procedure_count_at version) (node_count_at version))

IsWithin-counts : (version : ℕ) → IsWithin (counts_at version) (4 + (procedure_width version + number_width version))
unfolding region_at node_count_at
IsWithin-counts version =
    IsWithin-both _ _ 4 (procedure_width version + number_width version) (IsWithin-mapped _ _ 4 (IsWithin-checked _ _ _ 4 (λ h. cc) (IsWithin-both _ _ 2 2 IsWithin-word IsWithin-word)))
    (IsWithin-both _ _ (procedure_width version) (number_width version) (IsWithin-procedure_count version)
    (IsWithin-checked _ _ _ (number_width version) (λ h. cc) (IsWithin-checked _ _ _ (number_width version) (λ h. cc) (IsWithin-node_number version))))

abbrev letters_at : Read Letters
letters_at = both byte (both byte (both byte byte))

IsWithin-magic : IsWithin magic_at 4
unfolding magic_at
IsWithin-magic = IsWithin-mapped _ _ 4 (IsWithin-checked _ _ _ 4 (λ h. cc) (IsWithin-both _ _ 1 3 IsWithin-byte (IsWithin-both _ _ 1 2 IsWithin-byte (IsWithin-both _ _ 1 1 IsWithin-byte IsWithin-byte))))

IsWithin-version : IsWithin any_version_at 5
unfolding any_version_at
IsWithin-version = IsWithin-mapped _ _ 5 (IsWithin-followed _ _ 4 1 IsWithin-magic (λ rules. IsWithin-checked _ _ byte 1 (λ h. cc) IsWithin-byte))

abbrev checked_version : Rules → Read ℕ
checked_version rules = checked fault.Version (is_any_version_of rules) byte

-- The version that is read is the byte behind the letters.
version-read : (m a g i v : ℕ) (bs : List ℕ) (w : ℕ) (rest : List ℕ) → any_version_at (m ∷ a ∷ g ∷ i ∷ v ∷ bs) ≡ Ok (w, rest) → (v ≡ w) × (bs ≡ rest)
unfolding any_version_at magic_at
version-read m a g i v bs w rest e =
    let all : List ℕ = m ∷ a ∷ g ∷ i ∷ v ∷ bs in
    let letters : Letters = (m, (a, (g, i))) in
    let c = went_on (followed magic_at checked_version (m ∷ a ∷ g ∷ i ∷ v ∷ bs)) (λ p rest. Ok (p.1, rest)) (w, rest) e in
    let d = went_on (magic_at (m ∷ a ∷ g ∷ i ∷ v ∷ bs)) (λ rules rest. go_on (checked_version rules rest) (λ n end. Ok ((rules, n), end))) (c.0, c.1) c.2 in
    let k = went_on (go_on (letters_at (m ∷ a ∷ g ∷ i ∷ v ∷ bs)) (λ x rest. if_passes fault.Magic (is_magic x) x rest)) (λ x rest. Ok (kind_of x, rest)) (d.0, d.1) d.2 in
    let f = passes fault.Magic (is_magic (m, (a, (g, i)))) (m, (a, (g, i))) k.0 (v ∷ bs) k.1 k.2 in
    let left : v ∷ bs ≡ d.1 = f.1 ∙ (same_pair (kind_of k.0) d.0 k.1 d.1 k.3).1 in
    let n = went_on (checked_version d.0 d.1) (λ n end. Ok ((d.0, n), end)) (c.0, c.1) d.3 in
    let read : checked_version d.0 (v ∷ bs) ≡ Ok (n.0, n.1) = ap (checked_version d.0) left ∙ n.2 in
    let q = passes fault.Version (is_any_version_of d.0 v) v n.0 bs n.1 read in
    let r = same_pair (d.0, n.0) c.0 n.1 c.1 n.3 in
    let t = same_pair c.0.1 w c.1 rest c.3 in
    (q.0 ∙ ap (λ (p : Rules × ℕ). p.1) r.0 ∙ t.0, q.1 ∙ r.1 ∙ t.1)

head_decides : (m a g i v : ℕ) (bs : List ℕ) → 4 + (procedure_width v + number_width v) ≤ length bs → any_head_at (m ∷ a ∷ g ∷ i ∷ v ∷ bs) ≡ Err fault.CutShort → ⊥
unfolding any_head_at
head_decides m a g i v bs le h =
    cut_then any_version_at counts_at 5 (4 + (procedure_width v + number_width v)) IsWithin-version (m ∷ a ∷ g ∷ i ∷ v ∷ bs) (λ w rest e few k. behind w rest e k) (omega arith)
    (cut_mapped to_head (followed any_version_at counts_at) (m ∷ a ∷ g ∷ i ∷ v ∷ bs) h)
  where
    behind : (w : ℕ) (rest : List ℕ) → any_version_at (m ∷ a ∷ g ∷ i ∷ v ∷ bs) ≡ Ok (w, rest) → counts_at w rest ≡ Err fault.CutShort → ⊥
    behind w rest e k =
        let p = version-read m a g i v bs w rest e in
        (IsWithin-counts v).decides bs le (ap (λ n. counts_at n bs) p.0 ∙ ap (counts_at w) p.1 ∙ k)

-- the head's bytes, by the version that stands in it
pub head_within : (bytes : List ℕ) → 4 + (1 + (4 + (procedure_width (slice_index_or bytes 4 1) + number_width (slice_index_or bytes 4 1)))) ≤ length bytes → any_head_at bytes ≡ Err fault.CutShort → ⊥
head_within [] le h = absurd (omega arith)
head_within (m ∷ []) le h = absurd (omega arith)
head_within (m ∷ a ∷ []) le h = absurd (omega arith)
head_within (m ∷ a ∷ g ∷ []) le h = absurd (omega arith)
head_within (m ∷ a ∷ g ∷ i ∷ []) le h = absurd (omega arith)
head_within (m ∷ a ∷ g ∷ i ∷ v ∷ bs) le h =
    let few : 4 + (procedure_width v + number_width v) ≤ length bs = omega arith in
    head_decides m a g i v bs few h
