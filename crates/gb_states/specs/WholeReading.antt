-- Reading the fields of version 4, which speaks of whole programs, and certificates of any version (own format). A test of two fields is made behind the later one.
use Rattle.std.specs.Prelude.{ℕ, ◌+◌, ◌-◌, ◌/◌, ◌%◌, Bool, true, false, not, ◌&&◌, ◌||◌, ◌==◌, nat_lt, nat_le, List, [], ◌∷◌, length, slice_get, Option, Some, None, Result, Ok, Err, if◌then◌else◌}
use Rattle.gb_ops.specs.declared.machine.Region.{Region}
use Rattle.gb_ops.specs.declared.registers.Registers.{Registers}
use Rattle.gb_ops.specs.declared.op.Pointer.{Pointer}
use Rattle.gb_ops.specs.declared.op.Pointer.TheVariants as pointer
use Rattle.gb_fields.specs.declared.fault.CertFault.{CertFault}
use Rattle.gb_fields.specs.declared.fault.CertFault.TheVariants as fault
use Rattle.gb_fields.specs.declared.head.Head.{Head}
use Rattle.gb_domain.specs.declared.types.Origin.{Origin}
use Rattle.gb_domain.specs.declared.types.Origin.TheVariants.{Kept, MarkHigh, MarkLow}
use Rattle.gb_domain.specs.declared.types.KeptBanks.{KeptBanks}
use Rattle.gb_domain.specs.declared.types.Val.{Val}
use Rattle.gb_domain.specs.declared.types.Ctl.{Ctl}
use Rattle.gb_domain.specs.declared.types.Cell.{Cell}
use Rattle.gb_domain.specs.declared.pairs.WordPair.{WordPair}
use Rattle.gb_domain.specs.declared.pairs.Pairs.{Pairs}
use Rattle.gb_domain.specs.declared.places.OneByte.{OneByte}
use Rattle.gb_domain.specs.declared.places.StackBytes.{StackBytes}
use Rattle.gb_domain.specs.declared.relations.Relations.{Relations}
use Rattle.gb_domain.specs.declared.rules.Rules.TheVariants.{Extended}
use Rattle.gb_domain.specs.Limits.{rules_of, cell_room}
use Rattle.gb_domain.specs.Certificate.{Certificate}
use Rattle.gb_domain.specs.Rules.{after_cell}
use Rattle.gb_domain.specs.declared.types.Range.{Range}
use Rattle.gb_domain.specs.Types.{AbsState, ProcedureParts, Node}
use Rattle.gb_domain.specs.declared.interval.StridedInterval.{StridedInterval}
use Rattle.gb_domain.specs.declared.pairs.Bounds.{Bounds}
use Rattle.gb_domain.specs.declared.summary.Fact.{Fact}
use Rattle.gb_domain.specs.declared.summary.Fill.{Fill}
use Rattle.gb_domain.specs.declared.summary.FillEnd.{FillEnd}
use Rattle.gb_domain.specs.declared.summary.Reach.{Reach}
use Rattle.gb_domain.specs.declared.summary.Reach.TheVariants.{Below, Above}
use Rattle.gb_domain.specs.declared.summary.Shadows.{Shadows}
use Rattle.gb_domain.specs.declared.summary.BankShadows.{BankShadows}
use Rattle.gb_domain.specs.Summaries.{SummaryParts, no_bank_shadows}
use Rattle.gb_domain.specs.Values.{is_strided}
use Rattle.gb_fields.specs.Format.{Read, followed, both, mapped, checked, faultless, optional, several, counted, whole, byte}
use Rattle.gb_fields.specs.Limits.{fact_limit, fill_limit, kept_room}
use Rattle.gb_fields.specs.Reading.{is_ordered, word, byte_between, word_between, count_within, word_count_within, offset_at, returns_at, entry_at, base_at, need_at, is_below, nothing, any_version_at, any_head_at}
use Rattle.gb_states.specs.declared.whole.Declared.{Declared}
use Rattle.gb_states.specs.declared.relations.Present.{Present}
use Rattle.gb_states.specs.declared.relations.InMemory.{InMemory}
use Rattle.gb_states.specs.declared.form.ProcedureForm.{ProcedureForm}
use Rattle.gb_states.specs.declared.role.Role.{Role}
use Rattle.gb_states.specs.Reading as simple
use Rattle.gb_states.specs.Reading.{Tested, item_count_at, is_free, to_cell, ranges_at, to_node}
use Rattle.gb_states.specs.declared.role.Role.TheVariants as role
use Rattle.gb_fields.specs.Rules.{is_from}
use Rattle.gb_states.specs.RelationReading.{defaulted, to_registers, address_at, bounds_at, present_at, place_by, parts_at, to_relations}
use Rattle.gb_states.specs.Rules.{is_unshadowed, role_of, is_after, key, is_of}
use Rattle.gb_states.specs.WholeRules.{value_of, says_something, is_stepped, is_said, after_address, may_be_aside, stack_bytes, procedure_forms, form_in, is_uncrowded, is_in_order}

-- ---- values

-- the origin with this number, 0 for none; kept bytes have those from 12 on, and the mark's two 28 and 29
abbrev pub origin_of : ℕ → Option Origin
origin_of n =
    if nat_lt n 12 then simple.origin_of n
    else if n == 28 then Some MarkHigh
    else if n == 29 then Some MarkLow
    else Some (Kept (n - 12))

-- where a procedure names so many addresses to be kept
abbrev pub is_origin_number : ℕ → ℕ → Bool
is_origin_number kept n = nat_lt n (12 + kept) || (n == 28 || n == 29)

-- bits 0 to 4: the origin
abbrev pub is_tag : ℕ → ℕ → Bool
is_tag kept n = is_origin_number kept (n % 32)

-- bits 5 to 7: how many low bits are known
abbrev pub to_val : (ℕ × ℕ) × ℕ → Val
to_val p = record { lo = p.0.0; hi = p.0.1; low_bits = p.1 / 32; origin = origin_of (p.1 % 32) }

-- of a procedure that names so many addresses to be kept
unfoldable pub val_at : ℕ → Read Val
val_at kept = checked fault.Field is_strided (mapped to_val (both (checked fault.Field is_ordered (both byte byte)) (checked fault.Field (is_tag kept) byte)))

abbrev pub to_kept : ℕ → KeptBanks
to_kept n = record { bank = n % 2 == 1; second = n / 2 % 2 == 1; gate = n / 4 % 2 == 1; mode = n / 8 % 2 == 1; high_bank = n / 16 % 2 == 1 }

-- which registers of the controller are kept
unfoldable pub kept_at : Read KeptBanks
kept_at = mapped to_kept (byte_between 0 31)

-- ---- facts and fills

-- the first and the last address of RAM outside the region
unfoldable pub stretch_at : Region → Read (ℕ × ℕ)
stretch_at region = checked fault.Field (is_free region) (both word word)

-- bytes in order that leave one out
abbrev pub are_said : ℕ × ℕ → Bool
are_said p = nat_le p.0 p.1 && says_something p.0 p.1

unfoldable pub said_at : Read (ℕ × ℕ)
said_at = checked fault.Field are_said (both byte byte)

abbrev pub is_step : (ℕ × ℕ) × ℕ → Bool
is_step p = is_stepped p.0.0 p.0.1 p.1

abbrev pub to_interval : (ℕ × ℕ) × ℕ → StridedInterval
to_interval p = record { lo = p.0.0; hi = p.0.1; count = p.1 }

abbrev pub is_strided_interval : StridedInterval → Bool
is_strided_interval s = is_strided (value_of s)

-- bounds, and how many low bits are known
unfoldable pub interval_at : Read StridedInterval
interval_at = checked fault.Field is_strided_interval (mapped to_interval (both said_at byte))

abbrev pub to_fact : ((ℕ × ℕ) × ℕ) × StridedInterval → Fact
to_fact p = record { first = p.0.0.0; last = p.0.0.1; step = p.0.1; value = p.1 }

unfoldable pub fact_at : Region → Read Fact
fact_at region = mapped to_fact (both (checked fault.Field is_step (both (stretch_at region) byte)) interval_at)

-- 1 to 4, or 5 to 8
abbrev pub pointer_of : ℕ → Pointer
pointer_of n =
    if n % 4 == 1 then pointer.Bc
    else if n % 4 == 2 then pointer.De
    else if n % 4 == 3 then pointer.Hl
    else pointer.HighC

abbrev pub reach_of : ℕ → Reach
reach_of n = if nat_lt n 5 then Below else Above

abbrev pub to_end : ℕ → ℕ → Option FillEnd
to_end n offset = Some (record { pointer = pointer_of n; reach = reach_of n; offset = offset })

-- no end, or its distance
abbrev pub end_by : Bool → ℕ → Read (Option FillEnd)
end_by true n = nothing None
end_by false n = mapped (to_end n) offset_at

abbrev pub end_of : ℕ → Read (Option FillEnd)
end_of n = end_by (n == 0) n

unfoldable pub end_at : Read (Option FillEnd)
end_at = mapped (λ p. p.1) (followed (byte_between 0 8) end_of)

abbrev pub to_fill : (ℕ × ℕ) × (Option FillEnd × (ℕ × ℕ)) → Fill
to_fill p = record { first = p.0.0; last = p.0.1; lo = p.1.1.0; hi = p.1.1.1; end = p.1.0 }

unfoldable pub fill_at : Region → Read Fill
fill_at region = mapped to_fill (both (stretch_at region) (both end_at said_at))

-- how many fills there are behind a level
unfoldable pub fill_count_at : ℕ → Read ℕ
fill_count_at level = checked fault.Field (is_said level) (count_within fill_limit)

unfoldable pub fills_at : Region → ℕ → Read (List Fill)
fills_at region level = counted {S = Unit {0}} (fill_count_at level) (λ s. fill_at region) (λ f. tt) tt

-- how many facts hold, of so many, and the fills
unfoldable pub levels_at : ℕ → Region → Read (ℕ × List Fill)
levels_at facts region = followed (word_between 0 facts) (fills_at region)

-- ---- shadows

-- bits 0 to 6: which registers are among the places
abbrev pub to_shadows : ℕ × Option ℕ → Shadows
to_shadows p = record { registers = to_registers (p.0 % 128); address = p.1 }

-- bit 7: an address follows
abbrev pub has_address : ℕ → Bool
has_address n = nat_le 128 n

-- behind the byte that says which there are
abbrev pub places_at : Region → Read ℕ → Read Shadows
places_at region number = mapped to_shadows (followed number (λ n. optional (has_address n) (address_at region)))

unfoldable pub shadows_at : Region → Read Shadows
shadows_at region = places_at region byte

-- There is a place of the first window or one of the second.
abbrev pub is_some_place : Shadows → ℕ → Bool
is_some_place first n = not (is_unshadowed first && n == 0)

-- the second window's, behind the first one's
unfoldable pub others_at : Region → Shadows → Read Shadows
others_at region first = places_at region (checked fault.Field (is_some_place first) byte)

abbrev pub to_bank_shadows : Shadows × Shadows → BankShadows
to_bank_shadows p = record { first = p.0; second = p.1 }

unfoldable pub bank_shadows_at : Region → Read BankShadows
bank_shadows_at region = mapped to_bank_shadows (followed (shadows_at region) (others_at region))

-- ---- what a state says that is about the whole program

-- bit 0: shadows; 1: the level and the fills; 2: where SP points while the stack is put aside; 3: the one byte's item
abbrev pub to_declared : ℕ → Declared
to_declared n = record { shadows = n % 2 == 1; levels = n / 2 % 2 == 1; aside = n / 4 % 2 == 1; item = n / 8 == 1 }

-- The stack is put aside only where it may be, and an item named only where there may be one.
abbrev pub may_be_declared : Bool → Bool → Declared → Bool
may_be_declared may_be_aside may_be_item d = (may_be_aside || not d.aside) && (may_be_item || not d.item)

-- The one byte may have an item for a place where it has no address, and there are items to be named.
abbrev pub may_be_item : StackBytes → Present → Bool
may_be_item k p = p.byte && (not p.address && not (k.count == 0))

unfoldable pub declared_at : Bool → Bool → Read Declared
declared_at may_be_aside may_be_item = checked fault.Field (may_be_declared may_be_aside may_be_item) (mapped to_declared (byte_between 0 15))

-- no fact, and no fill
abbrev pub no_levels : ℕ × List Fill
no_levels = (0, [])

abbrev pub to_summary : BankShadows × ((ℕ × List Fill) × Option Bounds) → SummaryParts
to_summary p = record { level = p.1.0.0; fills = p.1.0.1; shadows = p.0; aside = p.1.1 }

-- the parts that there are, where there are so many facts
unfoldable pub summary_at : ℕ → Region → Declared → Read SummaryParts
summary_at facts region d = mapped to_summary (both (defaulted no_bank_shadows d.shadows (bank_shadows_at region)) (both (defaulted no_levels d.levels (levels_at facts region)) (optional d.aside bounds_at)))

-- ---- what a procedure names

-- an address of RAM outside the region, from the least one on
unfoldable pub free_address_at : Region → ℕ → Read ℕ
free_address_at region least = checked fault.Order (nat_le least) (address_at region)

unfoldable pub kept_addresses_at : Bool → Region → Read (List ℕ)
kept_addresses_at is_main region = counted (count_within (kept_room is_main)) (free_address_at region) after_address 0

-- ---- what a certificate says

unfoldable pub facts_at : Region → Read (List Fact)
facts_at region = counted {S = Unit {0}} (word_count_within fact_limit) (λ s. fact_at region) (λ f. tt) tt

-- ---- states

unfoldable pub ctl_at : Read Ctl
ctl_at = simple.ctl_by (λ k. k) kept_at

-- of a procedure that names so many addresses to be kept
unfoldable pub vals_at : ℕ → Read (Registers Val)
vals_at kept = simple.vals_by (val_at kept)

unfoldable pub core_at : ℕ → Role → Read Tested
core_at kept role = simple.core_by role ctl_at (val_at kept) (vals_at kept)

unfoldable pub items_at : ℕ → Role → Bool → Read (List Val)
items_at kept role stack_set = counted {S = Unit {0}} (item_count_at Extended role stack_set) (λ s. val_at kept) (λ v. tt) tt

unfoldable pub cell_at : ℕ → Region → ℕ → Read Cell
cell_at kept region least = mapped to_cell (both (free_address_at region least) (val_at kept))

unfoldable pub cells_at : ℕ → Region → Read (List Cell)
cells_at kept region = counted (count_within (cell_room Extended)) (cell_at kept region) after_cell 0

abbrev pub to_told : (Present × Declared) × ((OneByte × (Option WordPair × Pairs)) × SummaryParts) → Relations × SummaryParts
to_told p = (to_relations (p.0.0, p.1.0), p.1.1)

-- which parts there are of what is known together and of what is said of the whole program
abbrev pub present_declared_at : StackBytes → Bool → Option ℕ → Read (Present × Declared)
present_declared_at k may_be_aside test = followed (present_at test) (λ p. declared_at may_be_aside (may_be_item k p))

-- the one byte's place in memory
abbrev pub place_of : Present × Declared → InMemory
place_of d = place_by d.1.item d.0.address

-- these two, and then the parts; the test is the state's
unfoldable pub told_at : ℕ → StackBytes → Bool → Option ℕ → Read (Relations × SummaryParts)
told_at facts k may_be_aside test = mapped to_told (followed (present_declared_at k may_be_aside test) (λ d. both (parts_at true k test (place_of d) d.0) (summary_at facts k.region d.1)))

abbrev pub to_state : Tested × (List Val × ((Relations × SummaryParts) × List Cell)) → AbsState
to_state p = record { core = p.0.0; items = p.1.0; cells = p.1.1.1; relations = p.1.1.0.0; summary = p.1.1.0.1 }

-- what is known and said, and the cells, behind a core and so many items
abbrev pub behind_items : ℕ → ProcedureForm → Role → Region → Tested → ℕ → Read ((Relations × SummaryParts) × List Cell)
behind_items facts form role region k count = both (told_at facts (stack_bytes form role region count) (may_be_aside role k.0) k.1) (cells_at form.kept region)

-- of a procedure of this form, in a certificate of so many facts
unfoldable pub state_at : ℕ → ProcedureForm → Role → Region → Read AbsState
state_at facts form role region = mapped to_state (followed (core_at form.kept role) (λ k. followed (items_at form.kept role k.0.stack_set) (λ items. behind_items facts form role region k (length items))))

-- ---- procedures and nodes

-- in what state it returns, if it does
unfoldable pub exit_at : ℕ → ProcedureForm → Bool → Region → Read (Option AbsState)
exit_at facts form is_main region = mapped (λ p. p.1) (followed (returns_at is_main) (λ returns. optional returns (state_at facts form role.Exit region)))

-- addresses to be kept and a mark, and an exit in whose state these are named; the base is known
unfoldable pub named_at : ℕ → ℕ → Bool → Region → Read ((List ℕ × ℕ) × Option AbsState)
named_at facts base is_main region = followed (both (kept_addresses_at is_main region) byte) (λ d. exit_at facts (record { kept = length d.0; base = base }) is_main region)

-- a need and ranges, and what is named
abbrev pub needed_at : ℕ → Bool → Region → ℕ → Read (ℕ × (List Range × ((List ℕ × ℕ) × Option AbsState)))
needed_at facts is_main region base = both (need_at Extended is_main region) (both (ranges_at Extended is_main region) (named_at facts base is_main region))

abbrev pub to_procedure : ℕ × (ℕ × (ℕ × (List Range × ((List ℕ × ℕ) × Option AbsState)))) → ProcedureParts
to_procedure p = record { entry = p.0; base = p.1.0; need = p.1.1.0; ranges = p.1.1.1.0; kept = p.1.1.1.1.0.0; mark = p.1.1.1.1.0.1; exit = p.1.1.1.1.1 }

-- a procedure that begins at one of so many nodes, in a certificate of so many facts
unfoldable pub procedure_at : ℕ → Region → ℕ → Bool → Read ProcedureParts
procedure_at facts region nodes is_main =
    mapped to_procedure (both (entry_at 4 nodes) (followed (base_at Extended is_main region) (needed_at facts is_main region)))

-- a procedure's number that exists and isn't smaller than the one before; then an address that isn't smaller in the same procedure
unfoldable pub key_at : ℕ → ℕ × ℕ → Read (ℕ × ℕ)
key_at procedures before = checked fault.Order (is_from before) (both (checked fault.Order (nat_le before.0) (checked fault.Field (is_below procedures) word)) word)

-- a node of one of so many procedures, of which each has such a form
unfoldable pub node_at : ℕ → (ℕ → ProcedureForm) → Region → ℕ → ℕ × ℕ → Read Node
node_at facts form_of region procedures before = mapped to_node (followed (key_at procedures before) (λ k. both (word_between 0 511) (state_at facts (form_of k.0) (role_of k.0) region)))

-- ---- certificates of any version

-- Versions 1 to 3 have no facts.
abbrev pub facts_by : Bool → Region → Read (List Fact)
facts_by true region = facts_at region
facts_by false region = nothing []

abbrev pub procedure_by : Bool → ℕ → ℕ → Region → ℕ → Bool → Read ProcedureParts
procedure_by true version facts region nodes is_main = procedure_at facts region nodes is_main
procedure_by false version facts region nodes is_main = simple.procedure_at version region nodes is_main

abbrev pub node_by : Bool → ℕ → ℕ → (ℕ → ProcedureForm) → Region → ℕ → ℕ × ℕ → Read Node
node_by true version facts form_of region procedures before = node_at facts form_of region procedures before
node_by false version facts form_of region procedures before = simple.node_at (rules_of version) region procedures before

-- the number of a procedure: two bytes, or one in versions 1 to 3
abbrev pub number_by : Bool → Read ℕ
number_by true = word
number_by false = byte

-- that number and an address, behind those of the node before
abbrev pub key_by : Bool → ℕ → ℕ × ℕ → Read (ℕ × ℕ)
key_by fourth procedures before = checked fault.Order (is_from before) (both (checked fault.Order (nat_le before.0) (checked fault.Field (is_below procedures) (number_by fourth))) word)

-- of a certificate with this head, and so many facts
unfoldable pub procedures_at : Head → ℕ → Read (List ProcedureParts)
procedures_at h facts = several (procedure_by (h.version == 4) h.version facts h.region h.nodes) is_after true h.procedures

-- behind procedures of these forms
unfoldable pub nodes_at : Head → ℕ → List ProcedureForm → Read (List Node)
nodes_at h facts forms = several (node_by (h.version == 4) h.version facts (form_in forms) h.region h.procedures) key (0, 0) h.nodes

-- Of an entry: whether too many begin at its address, whether it is its procedure's own, and whether it is in order. The lowest number of a fault decides.
abbrev pub fault_by : Bool → Bool → Bool → Option CertFault
fault_by false own ordered = Some fault.Count
fault_by true false ordered = Some fault.Field
fault_by true true false = Some fault.Order
fault_by true true true = None

-- of the procedure with this number, which is among them; versions 1 to 3 ask for no order
abbrev pub entry_fault : Bool → List ProcedureParts → List Node → ℕ → ProcedureParts → Option CertFault
entry_fault ordered procedures nodes number p =
    fault_by (not ordered || is_uncrowded procedures nodes number) (is_of number (slice_get nodes p.entry)) (not ordered || is_in_order procedures nodes number)

abbrev pub or_else : Option CertFault → Option CertFault → Option CertFault
or_else (Some e) o = Some e
or_else None o = o

-- what is wrong with the first entry that is wrong; the first of these procedures has this number
unfoldable pub entries_fault : Bool → List ProcedureParts → List Node → ℕ → List ProcedureParts → Option CertFault
entries_fault ordered procedures nodes number [] = None
entries_fault ordered procedures nodes number (p ∷ ps) = or_else (entry_fault ordered procedures nodes number p) (entries_fault ordered procedures nodes (number + 1) ps)

-- a head, facts, procedures and nodes
abbrev pub Parts : Type 0
Parts = Head × (List Fact × (List ProcedureParts × List Node))

abbrev pub entries_fault_in : Parts → Option CertFault
entries_fault_in p = entries_fault (p.0.version == 4) p.1.1.0 p.1.1.1 0 p.1.1.0

abbrev pub to_certificate : Parts → Certificate
to_certificate p = record { version = p.0.version; procedures = p.1.1.0; nodes = p.1.1.1; region = p.0.region; facts = p.1.0 }

abbrev pub behind_facts : Head → ℕ → Read (List ProcedureParts × List Node)
behind_facts h facts = followed (procedures_at h facts) (λ ps. nodes_at h facts (procedure_forms ps))

abbrev pub behind_head : Head → Read (List Fact × (List ProcedureParts × List Node))
behind_head h = followed (facts_by (h.version == 4) h.region) (λ fs. behind_facts h (length fs))

-- the head, the facts, the procedures and the nodes; then the entries must be right
unfoldable pub certificate_at : Read Certificate
certificate_at = mapped to_certificate (faultless entries_fault_in (followed any_head_at behind_head))

-- a certificate of version 1, 2, 3 or 4 that is all of the bytes
unfoldable pub read_certificate : List ℕ → Result Certificate CertFault
read_certificate = whole certificate_at

abbrev pub is_fourth : Result (ℕ × List ℕ) CertFault → Bool
is_fourth (Ok p) = p.0 == 4
is_fourth (Err e) = false

-- The bytes begin as those of a certificate of version 4 do.
abbrev pub begins_fourth : List ℕ → Bool
begins_fourth bytes = is_fourth (any_version_at bytes)
