-- Each reader of a certificate's parts goes from left to right.
use Rattle.std.proofs.Common.{◌≡◌, ◌%◌, ℕ, Bool, true, false, ◌==◌, List, [], Option, Some, None, Ok, Err, ap}
use Rattle.gb_ops.specs.declared.machine.Region.{Region}
use Rattle.gb_domain.specs.declared.places.StackBytes.{StackBytes}
use Rattle.gb_domain.specs.declared.rules.Rules.{Rules}
use Rattle.gb_domain.specs.declared.rules.Rules.TheVariants.{Simple, Extended}
use Rattle.gb_domain.specs.declared.pairs.Other.{Other}
use Rattle.gb_domain.specs.Limits.{rules_of, cell_room}
use Rattle.gb_domain.specs.Pairs.{nothing_known}
use Rattle.gb_domain.specs.Places.{no_byte}
use Rattle.gb_domain.specs.RelationRules.{test_alone}
use Rattle.gb_fields.specs.declared.fault.CertFault.{CertFault}
use Rattle.gb_states.specs.declared.relations.InMemory.TheVariants.{Nowhere, Address, Item}
use Rattle.gb_states.specs.declared.relations.InMemory.{InMemory}
use Rattle.gb_states.specs.declared.role.Role.{Role}
use Rattle.gb_states.specs.declared.role.Role.TheVariants as role
use Rattle.gb_states.specs.declared.relations.Present.{Present}
use Rattle.gb_fields.specs.Limits.{range_room, unit, item_limit, need_limit, origin_limit}
use Rattle.gb_fields.specs.Rules.{usual_base}
use Rattle.gb_fields.specs.Format.{Read, byte}
use Rattle.gb_states.specs.Rules.{role_of}
use Rattle.gb_fields.specs.Reading.{word, quad, node_number_by, node_number, byte_between, word_between, count_within, yes_no, returns_at, entry_at, nothing, base_at, times, need_at, key_at, magic_at, region_at, node_count_at}
use Rattle.gb_states.specs.Links.{reads_other}
use Rattle.gb_states.specs.RelationReading.{defaulted, present_at, registers_at, address_at, item_at, is_somewhere, place_by, memory_at, no_items, byte_at, pair_at, bounds_at, other_of, other_if, other_at, form_at, factor_at, factor_of, width_at, link_of, link_at, facts_at, pairs_at, relations_at, relations_by}
use Rattle.gb_states.specs.Reading.{origin_at, val_at, may_at, ime_at, test_at, flg_at, ctl_at, vals_at, core_at, item_count_at, items_at, cell_at, cells_at, state_at, range_at, ranges_at, exit_at, needed_at, body_at, procedure_at, node_at}
use Rattle.gb_states.proofs.Formats.{same_pair}
use Rattle.gb_cert_place.proofs.Locality.{IsLocal, IsLocal-byte, IsLocal-both, IsLocal-followed, IsLocal-mapped, IsLocal-checked, IsLocal-optional, IsLocal-several, IsLocal-counted}

-- ---- numbers

pub IsLocal-word : IsLocal word
unfolding word
IsLocal-word = IsLocal-mapped _ _ (IsLocal-both byte byte IsLocal-byte IsLocal-byte)

IsLocal-quad : IsLocal quad
unfolding quad
IsLocal-quad = IsLocal-mapped _ _ (IsLocal-both word word IsLocal-word IsLocal-word)

IsLocal-node_number : (version : ℕ) → IsLocal (node_number version)
unfolding node_number
IsLocal-node_number version = by (version == 1)
  where
    by : (b : Bool) → IsLocal (node_number_by b)
    by true = IsLocal-word
    by false = IsLocal-quad

pub IsLocal-byte_between : (low high : ℕ) → IsLocal (byte_between low high)
IsLocal-byte_between low high = IsLocal-checked _ _ byte IsLocal-byte

pub IsLocal-word_between : (low high : ℕ) → IsLocal (word_between low high)
IsLocal-word_between low high = IsLocal-checked _ _ word IsLocal-word

pub IsLocal-count_within : (limit : ℕ) → IsLocal (count_within limit)
IsLocal-count_within limit = IsLocal-checked _ _ byte IsLocal-byte

pub IsLocal-yes_no : IsLocal yes_no
unfolding yes_no
IsLocal-yes_no = IsLocal-mapped _ _ (IsLocal-byte_between 0 1)

-- ---- values

IsLocal-origin : (rules : Rules) → IsLocal (origin_at rules)
unfolding origin_at
IsLocal-origin rules = IsLocal-mapped _ _ (IsLocal-byte_between 0 (origin_limit rules))

pub IsLocal-val : (rules : Rules) → IsLocal (val_at rules)
unfolding val_at
IsLocal-val rules = IsLocal-mapped _ _ (IsLocal-both _ _ (IsLocal-checked _ _ _ (IsLocal-both _ _ IsLocal-byte IsLocal-byte)) (IsLocal-origin rules))

pub IsLocal-may : IsLocal may_at
unfolding may_at
IsLocal-may = IsLocal-mapped _ _ (IsLocal-byte_between 1 3)

pub IsLocal-ime : IsLocal ime_at
unfolding ime_at
IsLocal-ime = IsLocal-mapped _ _ (IsLocal-byte_between 1 7)

pub IsLocal-test : IsLocal test_at
unfolding test_at
IsLocal-test = IsLocal-mapped _ _ (IsLocal-checked _ _ _ (IsLocal-both _ _ IsLocal-yes_no IsLocal-byte))

pub IsLocal-flg : IsLocal flg_at
unfolding flg_at
IsLocal-flg = IsLocal-mapped _ _ (IsLocal-both _ _ (IsLocal-checked _ _ _ (IsLocal-mapped _ _ IsLocal-byte)) (IsLocal-mapped _ _ (IsLocal-checked _ _ _ IsLocal-byte)))

IsLocal-ctl : IsLocal ctl_at
unfolding ctl_at
IsLocal-ctl =
    IsLocal-mapped _ _ (IsLocal-both _ _ (IsLocal-checked _ _ _ (IsLocal-both _ _ (IsLocal-word_between 0 511) (IsLocal-word_between 0 511)))
    (IsLocal-both _ _ (IsLocal-checked _ _ _ (IsLocal-both _ _ IsLocal-byte IsLocal-byte))
    (IsLocal-both _ _ IsLocal-may (IsLocal-both _ _ IsLocal-may IsLocal-yes_no))))

IsLocal-vals : (rules : Rules) → IsLocal (vals_at rules)
unfolding vals_at
IsLocal-vals rules =
    let v = IsLocal-val rules in
    IsLocal-mapped _ _ (IsLocal-both _ _ v (IsLocal-both _ _ v (IsLocal-both _ _ v (IsLocal-both _ _ v (IsLocal-both _ _ v (IsLocal-both _ _ v v))))))

-- ---- what is known of several parts together

pub IsLocal-nothing : {X : Type 0} (x : X) → IsLocal (nothing x)
IsLocal-nothing {X} x = record {
  taken = λ bytes y rest e. let s = same_pair x y bytes rest e in record { front = []; parts = s.1; again = λ more. ap (λ (z : X). Ok (z, more)) s.0 };
  refused = λ bytes more e h n. absurd (none bytes e h);
}
  where
    none : (bytes : List ℕ) (e : CertFault) → nothing x bytes ≡ Err e → ⊥
    none bytes e h = cc

pub IsLocal-defaulted : {X : Type 0} (x : X) (there : Bool) (r : Read X) → IsLocal r → IsLocal (defaulted x there r)
IsLocal-defaulted x true r a = a
IsLocal-defaulted x false r a = IsLocal-nothing x

pub IsLocal-present : (test : Option ℕ) → IsLocal (present_at test)
unfolding present_at
IsLocal-present test = IsLocal-checked _ _ _ (IsLocal-mapped _ _ (IsLocal-byte_between 0 127))

IsLocal-registers : (address : Bool) → IsLocal (registers_at address)
unfolding registers_at
IsLocal-registers address = IsLocal-checked _ _ _ (IsLocal-mapped _ _ (IsLocal-byte_between 0 127))

pub IsLocal-address : (region : Region) → IsLocal (address_at region)
unfolding address_at
IsLocal-address region = IsLocal-checked _ _ _ IsLocal-word

IsLocal-item : (k : StackBytes) → IsLocal (item_at k)
unfolding item_at
IsLocal-item k = IsLocal-mapped _ _ (IsLocal-checked _ _ _ IsLocal-byte)

IsLocal-memory : (k : StackBytes) (place : InMemory) → IsLocal (memory_at k place)
IsLocal-memory k Nowhere = IsLocal-nothing None
IsLocal-memory k Address = IsLocal-mapped Some _ (IsLocal-address k.region)
IsLocal-memory k Item = IsLocal-mapped Some _ (IsLocal-item k)

pub IsLocal-one_byte : (k : StackBytes) (test : Option ℕ) (place : InMemory) (bits : Bool) → IsLocal (byte_at k test place bits)
unfolding byte_at
IsLocal-one_byte k test place bits = IsLocal-mapped _ _ (IsLocal-both _ _ (IsLocal-registers (is_somewhere place)) (IsLocal-both _ _ (IsLocal-memory k place) (IsLocal-optional bits _ IsLocal-byte)))

pub IsLocal-pair : IsLocal pair_at
unfolding pair_at
IsLocal-pair = IsLocal-mapped _ _ (IsLocal-byte_between 0 2)

pub IsLocal-bounds : IsLocal bounds_at
unfolding bounds_at
IsLocal-bounds = IsLocal-mapped _ _ (IsLocal-checked _ _ _ (IsLocal-both _ _ IsLocal-word IsLocal-word))

IsLocal-other : (region : Region) (n : ℕ) → IsLocal (other_at region n)
IsLocal-other region n = by (n == 11)
  where
    by : (cell : Bool) → IsLocal (other_if region cell n)
    by true = IsLocal-mapped _ _ (IsLocal-address region)
    by false = IsLocal-nothing (other_of n)

IsLocal-form : (wide : Bool) (region : Region) → IsLocal (form_at wide region)
unfolding form_at
IsLocal-form wide region = IsLocal-mapped _ _ (IsLocal-followed _ _ (IsLocal-checked _ _ _ IsLocal-byte) (λ n. IsLocal-other region (n % 64)))

IsLocal-width : (there : Bool) → IsLocal (defaulted 0 there width_at)
unfolding width_at
IsLocal-width there = IsLocal-defaulted 0 there _ (IsLocal-word_between 1 65535)

IsLocal-factor_of : (other : Other) → IsLocal (factor_of other)
unfolding factor_at
IsLocal-factor_of other = IsLocal-defaulted 1 (reads_other other) _ (IsLocal-mapped _ _ (IsLocal-byte_between 1 255))

IsLocal-link_of : (o : Option Other) (base width : Bool) → IsLocal (link_of o base width)
IsLocal-link_of None base width = IsLocal-nothing None
IsLocal-link_of (Some o) base width = IsLocal-mapped _ _ (IsLocal-both _ _ (IsLocal-factor_of o) (IsLocal-both _ _ (IsLocal-optional base _ IsLocal-pair) (IsLocal-both _ _ IsLocal-word (IsLocal-width width))))

IsLocal-link : (wide : Bool) (region : Region) → IsLocal (link_at wide region)
unfolding link_at
IsLocal-link wide region = IsLocal-mapped _ _ (IsLocal-followed _ _ (IsLocal-form wide region) (λ f. IsLocal-link_of f.other f.has_base f.has_width))

IsLocal-facts : (wide : Bool) (region : Region) → IsLocal (facts_at wide region)
unfolding facts_at
IsLocal-facts wide region = IsLocal-checked _ _ _ (IsLocal-mapped _ _ (IsLocal-both _ _ IsLocal-bounds (IsLocal-link wide region)))

pub IsLocal-known : (wide : Bool) (region : Region) (there : Bool) → IsLocal (defaulted nothing_known there (facts_at wide region))
IsLocal-known wide region there = IsLocal-defaulted nothing_known there (facts_at wide region) (IsLocal-facts wide region)

pub IsLocal-pairs : (wide : Bool) (region : Region) (p : Present) → IsLocal (pairs_at wide region p)
unfolding pairs_at
IsLocal-pairs wide region p = IsLocal-mapped _ _ (IsLocal-both _ _ (IsLocal-known wide region p.bc) (IsLocal-both _ _ (IsLocal-known wide region p.de) (IsLocal-known wide region p.hl)))

pub IsLocal-relations : (region : Region) (test : Option ℕ) → IsLocal (relations_at region test)
unfolding relations_at
IsLocal-relations region test =
    IsLocal-mapped _ _ (IsLocal-followed _ _ (IsLocal-present test)
    (λ p. IsLocal-both _ _ (IsLocal-defaulted no_byte p.byte _ (IsLocal-one_byte (no_items region) test (place_by false p.address) p.bits)) (IsLocal-both _ _ (IsLocal-optional p.zero _ IsLocal-pair) (IsLocal-pairs false region p))))

pub IsLocal-relations_by : (rules : Rules) (region : Region) (test : Option ℕ) → IsLocal (relations_by rules region test)
IsLocal-relations_by Simple region test = IsLocal-nothing (test_alone test)
IsLocal-relations_by Extended region test = IsLocal-relations region test

-- ---- states

pub IsLocal-core : (rules : Rules) (role : Role) → IsLocal (core_at rules role)
unfolding core_at
IsLocal-core rules role =
    IsLocal-mapped _ _ (IsLocal-both _ _ IsLocal-ime (IsLocal-both _ _ (IsLocal-byte_between 0 161)
    (IsLocal-both _ _ (IsLocal-checked _ _ _ IsLocal-yes_no)
    (IsLocal-both _ _ IsLocal-test (IsLocal-both _ _ IsLocal-ctl (IsLocal-both _ _ IsLocal-flg (IsLocal-both _ _ (IsLocal-val rules) (IsLocal-vals rules))))))))

pub IsLocal-item_count : (rules : Rules) (role : Role) (stack_set : Bool) → IsLocal (item_count_at rules role stack_set)
unfolding item_count_at
IsLocal-item_count rules role stack_set = IsLocal-checked _ _ _ (IsLocal-count_within (item_limit rules))

pub IsLocal-items : (rules : Rules) (role : Role) (stack_set : Bool) → IsLocal (items_at rules role stack_set)
unfolding items_at
IsLocal-items rules role stack_set = IsLocal-mapped _ _ (IsLocal-followed _ _ (IsLocal-item_count rules role stack_set) (λ count. IsLocal-several (λ (s : Unit {0}). val_at rules) (λ v. tt) (λ s. IsLocal-val rules) (times (unit rules) count) tt))

pub IsLocal-cell : (rules : Rules) (region : Region) (least : ℕ) → IsLocal (cell_at rules region least)
unfolding cell_at
IsLocal-cell rules region least = IsLocal-mapped _ _ (IsLocal-both _ _ (IsLocal-checked _ _ _ (IsLocal-checked _ _ _ IsLocal-word)) (IsLocal-val rules))

pub IsLocal-cells : (rules : Rules) (region : Region) → IsLocal (cells_at rules region)
unfolding cells_at
IsLocal-cells rules region = IsLocal-counted _ _ _ _ (IsLocal-count_within (cell_room rules)) (IsLocal-cell rules region)

pub IsLocal-state : (rules : Rules) (role : Role) (region : Region) → IsLocal (state_at rules role region)
unfolding state_at
IsLocal-state rules role region =
    IsLocal-mapped _ _ (IsLocal-followed _ _ (IsLocal-core rules role) (λ k. IsLocal-both _ _ (IsLocal-items rules role k.0.stack_set) (IsLocal-both _ _ (IsLocal-relations_by rules region k.1) (IsLocal-cells rules region))))

-- ---- procedures

pub IsLocal-range : (region : Region) (least : ℕ) → IsLocal (range_at region least)
unfolding range_at
IsLocal-range region least = IsLocal-mapped _ _ (IsLocal-checked _ _ _ (IsLocal-both _ _ (IsLocal-checked _ _ _ IsLocal-word) IsLocal-word))

pub IsLocal-ranges : (rules : Rules) (is_main : Bool) (region : Region) → IsLocal (ranges_at rules is_main region)
unfolding ranges_at
IsLocal-ranges rules is_main region = IsLocal-counted _ _ _ _ (IsLocal-count_within (range_room rules is_main)) (IsLocal-range region)

pub IsLocal-returns : (is_main : Bool) → IsLocal (returns_at is_main)
unfolding returns_at
IsLocal-returns is_main = IsLocal-checked _ _ _ IsLocal-yes_no

pub IsLocal-exit : (rules : Rules) (is_main : Bool) (region : Region) → IsLocal (exit_at rules is_main region)
unfolding exit_at
IsLocal-exit rules is_main region = IsLocal-mapped _ _ (IsLocal-followed _ _ (IsLocal-returns is_main) (λ returns. IsLocal-optional returns _ (IsLocal-state rules role.Exit region)))

pub IsLocal-entry : (version nodes : ℕ) → IsLocal (entry_at version nodes)
unfolding entry_at
IsLocal-entry version nodes = IsLocal-checked _ _ _ (IsLocal-node_number version)

pub IsLocal-base : (rules : Rules) (is_main : Bool) (region : Region) → IsLocal (base_at rules is_main region)
unfolding base_at
IsLocal-base Simple is_main region = IsLocal-nothing (usual_base is_main region)
IsLocal-base Extended is_main region = IsLocal-checked _ _ _ IsLocal-word

pub IsLocal-need : (rules : Rules) (is_main : Bool) (region : Region) → IsLocal (need_at rules is_main region)
unfolding need_at
IsLocal-need rules is_main region = IsLocal-checked _ _ _ (IsLocal-mapped _ _ (IsLocal-word_between 0 (need_limit rules)))

pub IsLocal-needed : (rules : Rules) (is_main : Bool) (region : Region) → IsLocal (needed_at rules is_main region)
IsLocal-needed rules is_main region = IsLocal-both _ _ (IsLocal-need rules is_main region) (IsLocal-both _ _ (IsLocal-ranges rules is_main region) (IsLocal-exit rules is_main region))

pub IsLocal-body : (rules : Rules) (is_main : Bool) (region : Region) → IsLocal (body_at rules is_main region)
IsLocal-body rules is_main region = IsLocal-both _ _ (IsLocal-base rules is_main region) (IsLocal-needed rules is_main region)

pub IsLocal-procedure : (version : ℕ) (region : Region) (nodes : ℕ) (is_main : Bool) → IsLocal (procedure_at version region nodes is_main)
unfolding procedure_at
IsLocal-procedure version region nodes is_main = IsLocal-mapped _ _ (IsLocal-both _ _ (IsLocal-entry version nodes) (IsLocal-body (rules_of version) is_main region))

-- ---- nodes

pub IsLocal-key : (procedures : ℕ) (before : ℕ × ℕ) → IsLocal (key_at procedures before)
unfolding key_at
IsLocal-key procedures before = IsLocal-checked _ _ _ (IsLocal-both _ _ (IsLocal-checked _ _ _ (IsLocal-checked _ _ _ IsLocal-byte)) IsLocal-word)

pub IsLocal-node : (rules : Rules) (region : Region) (procedures : ℕ) (before : ℕ × ℕ) → IsLocal (node_at rules region procedures before)
unfolding node_at
IsLocal-node rules region procedures before = IsLocal-mapped _ _ (IsLocal-followed _ _ (IsLocal-key procedures before) (λ k. IsLocal-both _ _ (IsLocal-word_between 0 511) (IsLocal-state rules (role_of k.0) region)))

-- ---- heads

pub IsLocal-magic : IsLocal magic_at
unfolding magic_at
IsLocal-magic = IsLocal-mapped _ _ (IsLocal-checked _ _ _ (IsLocal-both _ _ IsLocal-byte (IsLocal-both _ _ IsLocal-byte (IsLocal-both _ _ IsLocal-byte IsLocal-byte))))

pub IsLocal-region : (rules : Rules) → IsLocal (region_at rules)
unfolding region_at
IsLocal-region rules = IsLocal-mapped _ _ (IsLocal-checked _ _ _ (IsLocal-both _ _ IsLocal-word IsLocal-word))

pub IsLocal-node_count : (version : ℕ) → IsLocal (node_count_at version)
unfolding node_count_at
IsLocal-node_count version = IsLocal-checked _ _ _ (IsLocal-checked _ _ _ (IsLocal-node_number version))
