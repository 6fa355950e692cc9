-- The readers of version 4, and those of any version, go from left to right.
use Rattle.std.proofs.Common.{ℕ, ◌==◌, Bool, true, false, List, [], length, Option, None}
use Rattle.gb_ops.specs.declared.machine.Region.{Region}
use Rattle.gb_domain.specs.declared.places.StackBytes.{StackBytes}
use Rattle.gb_domain.specs.declared.rules.Rules.TheVariants.{Extended}
use Rattle.gb_domain.specs.declared.summary.Shadows.{Shadows}
use Rattle.gb_domain.specs.Limits.{rules_of, cell_room}
use Rattle.gb_domain.specs.Places.{no_byte}
use Rattle.gb_domain.specs.Summaries.{no_bank_shadows}
use Rattle.gb_fields.specs.declared.head.Head.{Head}
use Rattle.gb_fields.specs.Limits.{fact_limit, fill_limit, kept_room}
use Rattle.gb_fields.specs.Rules.{any_rules_of}
use Rattle.gb_fields.specs.Format.{Read, byte}
use Rattle.gb_fields.specs.Reading.{word_count_within, offset_at, procedure_count_by, procedure_count_at, any_version_at, any_head_at}
use Rattle.gb_states.specs.declared.form.ProcedureForm.{ProcedureForm}
use Rattle.gb_states.specs.declared.relations.InMemory.{InMemory}
use Rattle.gb_states.specs.declared.form.Form.{Form}
use Rattle.gb_states.specs.declared.form.Form.TheVariants.{Older, Fourth}
use Rattle.gb_states.specs.declared.relations.Present.{Present}
use Rattle.gb_states.specs.declared.whole.Declared.{Declared}
use Rattle.gb_states.specs.declared.role.Role.{Role}
use Rattle.gb_states.specs.declared.role.Role.TheVariants as role
use Rattle.gb_states.specs.Forms.{val_by, cell_by, state_by}
use Rattle.gb_states.specs.RelationReading.{parts_at}
use Rattle.gb_states.specs.Rules.{role_of}
use Rattle.gb_states.specs.WholeRules.{form_in, procedure_forms, may_be_aside, stack_bytes}
use Rattle.gb_states.specs.WholeReading.{val_at, kept_at, stretch_at, said_at, interval_at, fact_at, end_by, end_of, end_at, fill_at, fill_count_at, fills_at, levels_at, no_levels, places_at, shadows_at, others_at, bank_shadows_at, declared_at, summary_at, free_address_at, kept_addresses_at, facts_at, ctl_at, vals_at, core_at, items_at, cell_at, cells_at, told_at, state_at, exit_at, named_at, procedure_at, key_at, node_at, facts_by, procedure_by, node_by, number_by, key_by, procedures_at, nodes_at, behind_head, may_be_item, place_of}
use Rattle.gb_cert_place.specs.Forms.{core_by, items_by, cells_by, told_by, ending_by}
use Rattle.gb_cert_place.specs.Stops.{parts_at as certificate_parts_at}
use Rattle.gb_cert_place.proofs.Locality.{IsLocal, IsLocal-byte, IsLocal-both, IsLocal-followed, IsLocal-mapped, IsLocal-checked, IsLocal-optional, IsLocal-several, IsLocal-counted}
use Rattle.gb_cert_place.proofs.FieldsAreLocal.{IsLocal-word, IsLocal-byte_between, IsLocal-word_between, IsLocal-count_within, IsLocal-yes_no, IsLocal-val, IsLocal-may, IsLocal-ime, IsLocal-test, IsLocal-flg, IsLocal-nothing, IsLocal-defaulted, IsLocal-present, IsLocal-address, IsLocal-one_byte, IsLocal-pair, IsLocal-bounds, IsLocal-pairs, IsLocal-relations_by, IsLocal-core, IsLocal-item_count, IsLocal-items, IsLocal-cell, IsLocal-cells, IsLocal-state, IsLocal-ranges, IsLocal-returns, IsLocal-exit, IsLocal-entry, IsLocal-base, IsLocal-need, IsLocal-procedure, IsLocal-node, IsLocal-magic, IsLocal-region, IsLocal-node_count}

-- ---- values

pub IsLocal-fourth_val : (kept : ℕ) → IsLocal (val_at kept)
unfolding val_at
IsLocal-fourth_val kept = IsLocal-checked _ _ _ (IsLocal-mapped _ _ (IsLocal-both _ _ (IsLocal-checked _ _ _ (IsLocal-both _ _ IsLocal-byte IsLocal-byte)) (IsLocal-checked _ _ _ IsLocal-byte)))

IsLocal-kept : IsLocal kept_at
unfolding kept_at
IsLocal-kept = IsLocal-mapped _ _ (IsLocal-byte_between 0 31)

-- ---- facts and fills

IsLocal-stretch : (region : Region) → IsLocal (stretch_at region)
unfolding stretch_at
IsLocal-stretch region = IsLocal-checked _ _ _ (IsLocal-both _ _ IsLocal-word IsLocal-word)

IsLocal-said : IsLocal said_at
unfolding said_at
IsLocal-said = IsLocal-checked _ _ _ (IsLocal-both _ _ IsLocal-byte IsLocal-byte)

IsLocal-interval : IsLocal interval_at
unfolding interval_at
IsLocal-interval = IsLocal-checked _ _ _ (IsLocal-mapped _ _ (IsLocal-both _ _ IsLocal-said IsLocal-byte))

pub IsLocal-fact : (region : Region) → IsLocal (fact_at region)
unfolding fact_at
IsLocal-fact region = IsLocal-mapped _ _ (IsLocal-both _ _ (IsLocal-checked _ _ _ (IsLocal-both _ _ (IsLocal-stretch region) IsLocal-byte)) IsLocal-interval)

IsLocal-offset : IsLocal offset_at
unfolding offset_at
IsLocal-offset = IsLocal-mapped _ _ IsLocal-word

IsLocal-end_of : (n : ℕ) → IsLocal (end_of n)
IsLocal-end_of n = by (n == 0)
  where
    by : (b : Bool) → IsLocal (end_by b n)
    by true = IsLocal-nothing None
    by false = IsLocal-mapped _ _ IsLocal-offset

IsLocal-end : IsLocal end_at
unfolding end_at
IsLocal-end = IsLocal-mapped _ _ (IsLocal-followed _ _ (IsLocal-byte_between 0 8) IsLocal-end_of)

IsLocal-fill : (region : Region) → IsLocal (fill_at region)
unfolding fill_at
IsLocal-fill region = IsLocal-mapped _ _ (IsLocal-both _ _ (IsLocal-stretch region) (IsLocal-both _ _ IsLocal-end IsLocal-said))

IsLocal-fill_count : (level : ℕ) → IsLocal (fill_count_at level)
unfolding fill_count_at
IsLocal-fill_count level = IsLocal-checked _ _ _ (IsLocal-count_within fill_limit)

IsLocal-fills : (region : Region) (level : ℕ) → IsLocal (fills_at region level)
unfolding fills_at
IsLocal-fills region level = IsLocal-counted {S = Unit {0}} (fill_count_at level) (λ s. fill_at region) (λ f. tt) tt (IsLocal-fill_count level) (λ s. IsLocal-fill region)

IsLocal-levels : (facts : ℕ) (region : Region) → IsLocal (levels_at facts region)
unfolding levels_at
IsLocal-levels facts region = IsLocal-followed _ _ (IsLocal-word_between 0 facts) (IsLocal-fills region)

-- ---- shadows

IsLocal-places : (region : Region) (number : Read ℕ) → IsLocal number → IsLocal (places_at region number)
IsLocal-places region number a = IsLocal-mapped _ _ (IsLocal-followed _ _ a (λ n. IsLocal-optional _ _ (IsLocal-address region)))

IsLocal-shadows : (region : Region) → IsLocal (shadows_at region)
unfolding shadows_at
IsLocal-shadows region = IsLocal-places region byte IsLocal-byte

IsLocal-others : (region : Region) (first : Shadows) → IsLocal (others_at region first)
unfolding others_at
IsLocal-others region first = IsLocal-places region _ (IsLocal-checked _ _ _ IsLocal-byte)

IsLocal-bank_shadows : (region : Region) → IsLocal (bank_shadows_at region)
unfolding bank_shadows_at
IsLocal-bank_shadows region = IsLocal-mapped _ _ (IsLocal-followed _ _ (IsLocal-shadows region) (IsLocal-others region))

-- ---- what a state says that is about the whole program

IsLocal-declared : (aside item : Bool) → IsLocal (declared_at aside item)
unfolding declared_at
IsLocal-declared aside item = IsLocal-checked _ _ _ (IsLocal-mapped _ _ (IsLocal-byte_between 0 15))

IsLocal-summary : (facts : ℕ) (region : Region) (d : Declared) → IsLocal (summary_at facts region d)
unfolding summary_at
IsLocal-summary facts region d =
    IsLocal-mapped _ _ (IsLocal-both _ _ (IsLocal-defaulted no_bank_shadows d.shadows _ (IsLocal-bank_shadows region))
    (IsLocal-both _ _ (IsLocal-defaulted no_levels d.levels _ (IsLocal-levels facts region)) (IsLocal-optional d.aside _ IsLocal-bounds)))

-- ---- what a procedure and a certificate say

pub IsLocal-free_address : (region : Region) (least : ℕ) → IsLocal (free_address_at region least)
unfolding free_address_at
IsLocal-free_address region least = IsLocal-checked _ _ _ (IsLocal-address region)

pub IsLocal-kept_addresses : (is_main : Bool) (region : Region) → IsLocal (kept_addresses_at is_main region)
unfolding kept_addresses_at
IsLocal-kept_addresses is_main region = IsLocal-counted _ _ _ _ (IsLocal-count_within (kept_room is_main)) (IsLocal-free_address region)

pub IsLocal-word_count_within : (limit : ℕ) → IsLocal (word_count_within limit)
IsLocal-word_count_within limit = IsLocal-checked _ _ _ IsLocal-word

IsLocal-certificate_facts : (region : Region) → IsLocal (facts_at region)
unfolding facts_at
IsLocal-certificate_facts region = IsLocal-counted {S = Unit {0}} (word_count_within fact_limit) (λ s. fact_at region) (λ f. tt) tt (IsLocal-word_count_within fact_limit) (λ s. IsLocal-fact region)

-- ---- states

IsLocal-fourth_ctl : IsLocal ctl_at
unfolding ctl_at
IsLocal-fourth_ctl =
    IsLocal-mapped _ _ (IsLocal-both _ _ (IsLocal-checked _ _ _ (IsLocal-both _ _ (IsLocal-word_between 0 511) (IsLocal-word_between 0 511)))
    (IsLocal-both _ _ (IsLocal-checked _ _ _ (IsLocal-both _ _ IsLocal-byte IsLocal-byte))
    (IsLocal-both _ _ IsLocal-may (IsLocal-both _ _ IsLocal-may IsLocal-kept))))

IsLocal-fourth_vals : (kept : ℕ) → IsLocal (vals_at kept)
unfolding vals_at
IsLocal-fourth_vals kept =
    let v = IsLocal-fourth_val kept in
    IsLocal-mapped _ _ (IsLocal-both _ _ v (IsLocal-both _ _ v (IsLocal-both _ _ v (IsLocal-both _ _ v (IsLocal-both _ _ v (IsLocal-both _ _ v v))))))

IsLocal-fourth_core : (kept : ℕ) (role : Role) → IsLocal (core_at kept role)
unfolding core_at
IsLocal-fourth_core kept role =
    IsLocal-mapped _ _ (IsLocal-both _ _ IsLocal-ime (IsLocal-both _ _ (IsLocal-byte_between 0 161)
    (IsLocal-both _ _ (IsLocal-checked _ _ _ IsLocal-yes_no)
    (IsLocal-both _ _ IsLocal-test (IsLocal-both _ _ IsLocal-fourth_ctl (IsLocal-both _ _ IsLocal-flg (IsLocal-both _ _ (IsLocal-fourth_val kept) (IsLocal-fourth_vals kept))))))))

IsLocal-fourth_items : (kept : ℕ) (role : Role) (stack_set : Bool) → IsLocal (items_at kept role stack_set)
unfolding items_at
IsLocal-fourth_items kept role stack_set = IsLocal-counted {S = Unit {0}} _ (λ s. val_at kept) (λ v. tt) tt (IsLocal-item_count Extended role stack_set) (λ s. IsLocal-fourth_val kept)

IsLocal-fourth_cell : (kept : ℕ) (region : Region) (least : ℕ) → IsLocal (cell_at kept region least)
unfolding cell_at
IsLocal-fourth_cell kept region least = IsLocal-mapped _ _ (IsLocal-both _ _ (IsLocal-free_address region least) (IsLocal-fourth_val kept))

IsLocal-fourth_cells : (kept : ℕ) (region : Region) → IsLocal (cells_at kept region)
unfolding cells_at
IsLocal-fourth_cells kept region = IsLocal-counted _ _ _ _ (IsLocal-count_within (cell_room Extended)) (IsLocal-fourth_cell kept region)

IsLocal-relation_parts : (k : StackBytes) (test : Option ℕ) (place : InMemory) (p : Present) → IsLocal (parts_at true k test place p)
IsLocal-relation_parts k test place p = IsLocal-both _ _ (IsLocal-defaulted no_byte p.byte _ (IsLocal-one_byte k test place p.bits)) (IsLocal-both _ _ (IsLocal-optional p.zero _ IsLocal-pair) (IsLocal-pairs true k.region p))

pub IsLocal-told : (facts : ℕ) (k : StackBytes) (may_be_aside : Bool) (test : Option ℕ) → IsLocal (told_at facts k may_be_aside test)
unfolding told_at
IsLocal-told facts k may_be_aside test =
    IsLocal-mapped _ _ (IsLocal-followed _ _ (IsLocal-followed _ _ (IsLocal-present test) (λ p. IsLocal-declared may_be_aside (may_be_item k p)))
    (λ d. IsLocal-both _ _ (IsLocal-relation_parts k test (place_of d) d.0) (IsLocal-summary facts k.region d.1)))

IsLocal-fourth_state : (facts : ℕ) (form : ProcedureForm) (role : Role) (region : Region) → IsLocal (state_at facts form role region)
unfolding state_at
IsLocal-fourth_state facts form role region =
    IsLocal-mapped _ _ (IsLocal-followed _ _ (IsLocal-fourth_core form.kept role)
    (λ k. IsLocal-followed _ _ (IsLocal-fourth_items form.kept role k.0.stack_set) (λ items. IsLocal-both _ _ (IsLocal-told facts (stack_bytes form role region (length items)) (may_be_aside role k.0) k.1) (IsLocal-fourth_cells form.kept region))))

-- ---- by the version

pub IsLocal-val_by : (form : Form) → IsLocal (val_by form)
IsLocal-val_by (Older rules) = IsLocal-val rules
IsLocal-val_by (Fourth facts form) = IsLocal-fourth_val form.kept

pub IsLocal-cell_by : (form : Form) (region : Region) (least : ℕ) → IsLocal (cell_by form region least)
IsLocal-cell_by (Older rules) region least = IsLocal-cell rules region least
IsLocal-cell_by (Fourth facts form) region least = IsLocal-fourth_cell form.kept region least

pub IsLocal-core_by : (form : Form) (role : Role) → IsLocal (core_by form role)
IsLocal-core_by (Older rules) role = IsLocal-core rules role
IsLocal-core_by (Fourth facts form) role = IsLocal-fourth_core form.kept role

pub IsLocal-items_by : (form : Form) (role : Role) (stack_set : Bool) → IsLocal (items_by form role stack_set)
IsLocal-items_by (Older rules) role stack_set = IsLocal-items rules role stack_set
IsLocal-items_by (Fourth facts form) role stack_set = IsLocal-fourth_items form.kept role stack_set

pub IsLocal-told_by : (form : Form) (k : StackBytes) (may_be_aside : Bool) (test : Option ℕ) → IsLocal (told_by form k may_be_aside test)
IsLocal-told_by (Older rules) k may_be_aside test = IsLocal-relations_by rules k.region test
IsLocal-told_by (Fourth facts form) k may_be_aside test = IsLocal-told facts k may_be_aside test

pub IsLocal-cells_by : (form : Form) (region : Region) → IsLocal (cells_by form region)
IsLocal-cells_by (Older rules) region = IsLocal-cells rules region
IsLocal-cells_by (Fourth facts form) region = IsLocal-fourth_cells form.kept region

pub IsLocal-state_by : (form : Form) (role : Role) (region : Region) → IsLocal (state_by form role region)
IsLocal-state_by (Older rules) role region = IsLocal-state rules role region
IsLocal-state_by (Fourth facts form) role region = IsLocal-fourth_state facts form role region

-- ---- procedures

IsLocal-fourth_exit : (facts : ℕ) (form : ProcedureForm) (is_main : Bool) (region : Region) → IsLocal (exit_at facts form is_main region)
unfolding exit_at
IsLocal-fourth_exit facts form is_main region = IsLocal-mapped _ _ (IsLocal-followed _ _ (IsLocal-returns is_main) (λ returns. IsLocal-optional returns _ (IsLocal-fourth_state facts form role.Exit region)))

IsLocal-named : (facts base : ℕ) (is_main : Bool) (region : Region) → IsLocal (named_at facts base is_main region)
unfolding named_at
IsLocal-named facts base is_main region = IsLocal-followed _ _ (IsLocal-both _ _ (IsLocal-kept_addresses is_main region) IsLocal-byte) (λ d. IsLocal-fourth_exit facts (record { kept = length d.0; base = base }) is_main region)

pub IsLocal-ending_by : (fourth : Bool) (version facts : ℕ) (is_main : Bool) (region : Region) (base : ℕ) → IsLocal (ending_by fourth version facts is_main region base)
IsLocal-ending_by true version facts is_main region base = IsLocal-named facts base is_main region
IsLocal-ending_by false version facts is_main region base = IsLocal-exit (rules_of version) is_main region

IsLocal-fourth_procedure : (facts : ℕ) (region : Region) (nodes : ℕ) (is_main : Bool) → IsLocal (procedure_at facts region nodes is_main)
unfolding procedure_at
IsLocal-fourth_procedure facts region nodes is_main =
    IsLocal-mapped _ _ (IsLocal-both _ _ (IsLocal-entry 4 nodes) (IsLocal-followed _ _ (IsLocal-base Extended is_main region) (λ base. IsLocal-both _ _ (IsLocal-need Extended is_main region) (IsLocal-both _ _ (IsLocal-ranges Extended is_main region) (IsLocal-named facts base is_main region)))))

pub IsLocal-procedure_by : (fourth : Bool) (version facts : ℕ) (region : Region) (nodes : ℕ) (is_main : Bool) → IsLocal (procedure_by fourth version facts region nodes is_main)
IsLocal-procedure_by true version facts region nodes is_main = IsLocal-fourth_procedure facts region nodes is_main
IsLocal-procedure_by false version facts region nodes is_main = IsLocal-procedure version region nodes is_main

-- ---- nodes

IsLocal-number_by : (fourth : Bool) → IsLocal (number_by fourth)
IsLocal-number_by true = IsLocal-word
IsLocal-number_by false = IsLocal-byte

pub IsLocal-key_by : (fourth : Bool) (procedures : ℕ) (before : ℕ × ℕ) → IsLocal (key_by fourth procedures before)
IsLocal-key_by fourth procedures before = IsLocal-checked _ _ _ (IsLocal-both _ _ (IsLocal-checked _ _ _ (IsLocal-checked _ _ _ (IsLocal-number_by fourth))) IsLocal-word)

IsLocal-fourth_node : (facts : ℕ) (form_of : ℕ → ProcedureForm) (region : Region) (procedures : ℕ) (before : ℕ × ℕ) → IsLocal (node_at facts form_of region procedures before)
unfolding node_at key_at
IsLocal-fourth_node facts form_of region procedures before =
    IsLocal-mapped _ _ (IsLocal-followed _ _ (IsLocal-key_by true procedures before) (λ k. IsLocal-both _ _ (IsLocal-word_between 0 511) (IsLocal-fourth_state facts (form_of k.0) (role_of k.0) region)))

pub IsLocal-node_by : (fourth : Bool) (version facts : ℕ) (form_of : ℕ → ProcedureForm) (region : Region) (procedures : ℕ) (before : ℕ × ℕ) → IsLocal (node_by fourth version facts form_of region procedures before)
IsLocal-node_by true version facts form_of region procedures before = IsLocal-fourth_node facts form_of region procedures before
IsLocal-node_by false version facts form_of region procedures before = IsLocal-node (rules_of version) region procedures before

-- ---- certificates

IsLocal-any_version : IsLocal any_version_at
unfolding any_version_at
IsLocal-any_version = IsLocal-mapped _ _ (IsLocal-followed _ _ IsLocal-magic (λ rules. IsLocal-checked _ _ byte IsLocal-byte))

IsLocal-procedure_count : (version : ℕ) → IsLocal (procedure_count_at version)
unfolding procedure_count_at
IsLocal-procedure_count version = IsLocal-checked _ _ _ (by (version == 4))
  where
    by : (b : Bool) → IsLocal (procedure_count_by b)
    by true = IsLocal-word
    by false = IsLocal-count_within _

pub IsLocal-any_head : IsLocal any_head_at
unfolding any_head_at
IsLocal-any_head =
    IsLocal-mapped _ _ (IsLocal-followed _ _ IsLocal-any_version
    (λ v. IsLocal-both _ _ (IsLocal-region (any_rules_of v)) (IsLocal-both _ _ (IsLocal-procedure_count v) (IsLocal-node_count v))))

pub IsLocal-facts_by : (fourth : Bool) (region : Region) → IsLocal (facts_by fourth region)
IsLocal-facts_by true region = IsLocal-certificate_facts region
IsLocal-facts_by false region = IsLocal-nothing []

pub IsLocal-procedures : (h : Head) (facts : ℕ) → IsLocal (procedures_at h facts)
unfolding procedures_at
IsLocal-procedures h facts = IsLocal-several _ _ (IsLocal-procedure_by (h.version == 4) h.version facts h.region h.nodes) h.procedures true

pub IsLocal-nodes : (h : Head) (facts : ℕ) (forms : List ProcedureForm) → IsLocal (nodes_at h facts forms)
unfolding nodes_at
IsLocal-nodes h facts forms = IsLocal-several _ _ (IsLocal-node_by (h.version == 4) h.version facts (form_in forms) h.region h.procedures) h.nodes (0, 0)

IsLocal-behind_head : (h : Head) → IsLocal (behind_head h)
IsLocal-behind_head h = IsLocal-followed _ _ (IsLocal-facts_by (h.version == 4) h.region) (λ fs. IsLocal-followed _ _ (IsLocal-procedures h (length fs)) (λ ps. IsLocal-nodes h (length fs) (procedure_forms ps)))

pub IsLocal-parts : IsLocal certificate_parts_at
unfolding certificate_parts_at
IsLocal-parts = IsLocal-followed any_head_at behind_head IsLocal-any_head IsLocal-behind_head
