-- Where a walk over a state or over an exit stops, by its parts.
use Rattle.std.proofs.Common.{◌≡◌, ℕ, zero, suc, ◌*◌, Bool, true, false, ◌==◌, List, [], ◌∷◌, length, Option, Some, Result, Ok, Err, refl, sym, ◌∙◌, ap, subst, arith}
use Rattle.gb_ops.specs.declared.machine.Region.{Region}
use Rattle.gb_domain.specs.declared.places.StackBytes.{StackBytes}
use Rattle.gb_domain.specs.declared.types.Val.{Val}
use Rattle.gb_domain.specs.declared.types.Cell.{Cell}
use Rattle.gb_domain.specs.declared.rules.Rules.{Rules}
use Rattle.gb_domain.specs.declared.rules.Rules.TheVariants.{Simple, Extended}
use Rattle.gb_domain.specs.declared.relations.Relations.{Relations}
use Rattle.gb_domain.specs.Summaries.{SummaryParts}
use Rattle.gb_domain.specs.Types.{AbsState}
use Rattle.gb_domain.specs.Limits.{cell_room}
use Rattle.gb_domain.specs.Rules.{after_cell}
use Rattle.gb_fields.specs.declared.fault.CertFault.{CertFault}
use Rattle.gb_fields.specs.Limits.{range_room, unit}
use Rattle.gb_fields.specs.Format.{Read, go_on, followed, both, mapped, optional, several}
use Rattle.gb_fields.specs.Reading.{count_within, returns_at, base_at, times}
use Rattle.gb_fields.specs.Rules.{any_rules_by, any_rules_of}
use Rattle.gb_states.specs.declared.form.ProcedureForm.{ProcedureForm}
use Rattle.gb_states.specs.declared.form.Form.{Form}
use Rattle.gb_states.specs.declared.form.Form.TheVariants.{Older, Fourth}
use Rattle.gb_states.specs.declared.role.Role.{Role}
use Rattle.gb_states.specs.declared.role.Role.TheVariants as role
use Rattle.gb_states.specs.Forms.{val_by, cell_by, vals_by, state_by}
use Rattle.gb_states.specs.Rules.{after_range}
use Rattle.gb_states.specs.RelationReading.{relations_at}
use Rattle.gb_states.specs.Reading as simple
use Rattle.gb_states.specs.Reading.{Tested, item_count_at, range_at, ranges_at}
use Rattle.gb_states.specs.WholeRules.{may_be_aside}
use Rattle.gb_states.specs.WholeReading as whole
use Rattle.gb_cert.specs.Skipping.{skipped, past, count_items}
use Rattle.gb_cert.specs.Borrowed.{exit_by}
use Rattle.gb_cert.proofs.Skipping.{skipped-mapped, skipped-both, skipped-followed}
use Rattle.gb_states.proofs.Formats.{went_on, same_pair}
use Rattle.gb_cert_place.specs.declared.block.Stop.{Stop}
use Rattle.gb_cert_place.specs.declared.block.Block.TheVariants as block
use Rattle.gb_cert_place.specs.Blocks.{read_block}
use Rattle.gb_cert_place.specs.Forms.{rules_in, core_by, items_by, cells_by, Told, told_by, stack_by, base_if}
use Rattle.gb_cert_place.specs.Stops.{Stopped}
use Rattle.gb_cert_place.proofs.FieldsAreLocal.{IsLocal-count_within, IsLocal-item_count, IsLocal-returns}
use Rattle.gb_cert_place.proofs.WholeFieldsAreLocal.{IsLocal-core_by, IsLocal-items_by, IsLocal-told_by}
use Rattle.gb_cert_place.proofs.BlockLaws.{no_item_count, no_cell_count, no_range_count, no_core, no_returns, no_base, no_told, no_told_whole}
use Rattle.gb_cert_place.proofs.WalkLaws.{Stopped-first, Stopped-mapped, Stopped-unmapped, Stopped-block, Stopped-then, Stopped-after, Stopped-as, was_read, was_mapped, is_mapped, is_followed}

-- ---- in other words

pub same_skipped : {X : Type 0} (r t : Read X) (bytes : List ℕ) → r bytes ≡ t bytes → skipped r bytes ≡ skipped t bytes
same_skipped {X} r t bytes e = ap (λ (read : Result (X × List ℕ) CertFault). go_on {Y = List ℕ} read (λ x rest. Ok rest)) e

-- ---- counted lists

-- items behind their count
abbrev listed_items : Form → Role → Bool → Read (List Val)
listed_items form role stack_set = mapped (λ p. p.1) (followed (item_count_at (rules_in form) role stack_set) (λ count. vals_by form (times (unit (rules_in form)) count)))

items_are : (form : Form) (role : Role) (stack_set : Bool) (bytes : List ℕ) → listed_items form role stack_set bytes ≡ items_by form role stack_set bytes
unfolding simple.items_at whole.items_at unit
items_are (Older rules) role stack_set bytes = refl
items_are (Fourth facts form) role stack_set bytes = by (item_count_at Extended role stack_set bytes)
  where
    by : (read : Result (ℕ × List ℕ) CertFault)
        → go_on {X = ℕ × List Val} {Y = List Val × List ℕ} (go_on read (λ x rest. go_on (vals_by (Fourth facts form) (1 * x) rest) (λ y end. Ok ((x, y), end)))) (λ p rest. Ok (p.1, rest))
        ≡ go_on {X = ℕ × List Val} {Y = List Val × List ℕ} (go_on read (λ x rest. go_on (vals_by (Fourth facts form) x rest) (λ y end. Ok ((x, y), end)))) (λ p rest. Ok (p.1, rest))
    by (Ok p) = let k : 1 * p.0 ≡ p.0 = omega arith in ap (λ n. go_on {X = ℕ × List Val} {Y = List Val × List ℕ} (go_on (vals_by (Fourth facts form) n p.1) (λ y end. Ok ((p.0, y), end))) (λ p rest. Ok (p.1, rest))) k
    by (Err e) = refl

pub stop_in_item_count : (form : Form) (role : Role) (stack_set : Bool) (bytes : List ℕ) (rules : Rules) (s : Stop) → rules ≡ rules_in form → Stopped (read_block (block.ItemCount rules role stack_set)) bytes s → Stopped (mapped count_items (items_by form role stack_set)) bytes s
unfolding read_block
stop_in_item_count form role stack_set bytes rules s same p =
    Stopped-mapped count_items (items_by form role stack_set) bytes s (Stopped-as (listed_items form role stack_set) (items_by form role stack_set) bytes s (items_are form role stack_set)
    (Stopped-mapped _ _ bytes s (Stopped-first (item_count_at (rules_in form) role stack_set) (λ count. vals_by form (times (unit (rules_in form)) count)) bytes s
    (Stopped-block (item_count_at (rules_in form) role stack_set) bytes s (subst (λ r. Stopped (read_block (block.ItemCount r role stack_set)) bytes s) same p)))))

pub in_items : (form : Form) (role : Role) (stack_set : Bool) (bytes : List ℕ) (rules : Rules) (count items : ℕ) (rest : List ℕ) (s : Stop) → rules ≡ rules_in form → item_count_at rules role stack_set bytes ≡ Ok (count, rest) → items ≡ times (unit rules) count → Stopped (vals_by form items) rest s
    → Stopped (mapped count_items (items_by form role stack_set)) bytes s
in_items form role stack_set bytes rules count items rest s same h size p =
    Stopped-mapped count_items (items_by form role stack_set) bytes s (Stopped-as (listed_items form role stack_set) (items_by form role stack_set) bytes s (items_are form role stack_set)
    (Stopped-mapped _ _ bytes s (Stopped-then (item_count_at (rules_in form) role stack_set) (λ count. vals_by form (times (unit (rules_in form)) count)) (IsLocal-item_count (rules_in form) role stack_set) bytes count rest s
    (subst (λ r. item_count_at r role stack_set bytes ≡ Ok (count, rest)) same h) (subst (λ n. Stopped (vals_by form n) rest s) (size ∙ ap (λ r. times (unit r) count) same) p))))

-- as many as were asked for
pub several-many : {S X : Type 0} (step : S → Read X) (next : X → S) (n : ℕ) (s : S) (bytes : List ℕ) (xs : List X) (rest : List ℕ) → several step next s n bytes ≡ Ok (xs, rest) → length xs ≡ n
unfolding several
several-many step next zero s bytes xs rest h = let p = same_pair [] xs bytes rest h in sym (ap length p.0)
several-many {S} {X} step next (suc n) s bytes xs rest h =
    let c = went_on (step s bytes) (λ x rest. go_on (several step next (next x) n rest) (λ xs end. Ok (x ∷ xs, end))) (xs, rest) h in
    let d = went_on (several step next (next c.0) n c.1) (λ ys end. Ok (c.0 ∷ ys, end)) (xs, rest) c.3 in
    let p = same_pair (c.0 ∷ d.0) xs d.1 rest d.3 in
    sym (ap length p.0) ∙ ap suc (several-many step next n (next c.0) c.1 d.0 d.1 d.2)

pub items_passed : (form : Form) (role : Role) (stack_set : Bool) (bytes : List ℕ) (rules : Rules) (count items : ℕ) (rest end : List ℕ) → rules ≡ rules_in form → item_count_at rules role stack_set bytes ≡ Ok (count, rest) → items ≡ times (unit rules) count → skipped (vals_by form items) rest ≡ Ok end
    → mapped count_items (items_by form role stack_set) bytes ≡ Ok (items, end)
items_passed form role stack_set bytes rules count items rest end same h size g =
    let many : items ≡ times (unit (rules_in form)) count = size ∙ ap (λ r. times (unit r) count) same in
    let w = was_read (vals_by form (times (unit (rules_in form)) count)) rest end (subst (λ n. skipped (vals_by form n) rest ≡ Ok end) many g) in
    let all : length w.0 ≡ items = several-many {S = Unit {0}} (λ s. val_by form) (λ v. tt) (times (unit (rules_in form)) count) tt rest w.0 end w.1 ∙ sym many in
    let e : listed_items form role stack_set bytes ≡ Ok (w.0, end) =
    is_mapped (λ p. p.1) (followed (item_count_at (rules_in form) role stack_set) (λ count. vals_by form (times (unit (rules_in form)) count))) bytes (count, w.0) w.0 end
    (is_followed (item_count_at (rules_in form) role stack_set) (λ count. vals_by form (times (unit (rules_in form)) count)) bytes count rest w.0 end (subst (λ r. item_count_at r role stack_set bytes ≡ Ok (count, rest)) same h) w.1) refl in
    is_mapped count_items (items_by form role stack_set) bytes w.0 items end (sym (items_are form role stack_set bytes) ∙ e) all

-- cells behind their count
abbrev listed_cells : Form → Region → Read (List Cell)
listed_cells form region = mapped (λ p. p.1) (followed (count_within (cell_room (rules_in form))) (several (cell_by form region) after_cell 0))

cells_are : (form : Form) (region : Region) (bytes : List ℕ) → listed_cells form region bytes ≡ cells_by form region bytes
unfolding simple.cells_at whole.cells_at
cells_are (Older rules) region bytes = refl
cells_are (Fourth facts form) region bytes = refl

pub stop_in_cell_count : (form : Form) (region : Region) (bytes : List ℕ) (rules : Rules) (s : Stop) → rules ≡ rules_in form → Stopped (read_block (block.CellCount rules)) bytes s → Stopped (cells_by form region) bytes s
unfolding read_block
stop_in_cell_count form region bytes rules s same p =
    Stopped-as (listed_cells form region) (cells_by form region) bytes s (cells_are form region)
    (Stopped-mapped _ _ bytes s (Stopped-first (count_within (cell_room (rules_in form))) (several (cell_by form region) after_cell 0) bytes s (Stopped-block (count_within (cell_room (rules_in form))) bytes s (subst (λ r. Stopped (read_block (block.CellCount r)) bytes s) same p))))

pub in_cells : (form : Form) (region : Region) (bytes : List ℕ) (limit count : ℕ) (rest : List ℕ) (s : Stop) → limit ≡ cell_room (rules_in form) → count_within limit bytes ≡ Ok (count, rest) → Stopped (several (cell_by form region) after_cell 0 count) rest s → Stopped (cells_by form region) bytes s
in_cells form region bytes limit count rest s same h p =
    Stopped-as (listed_cells form region) (cells_by form region) bytes s (cells_are form region)
    (Stopped-mapped _ _ bytes s (Stopped-then (count_within (cell_room (rules_in form))) (several (cell_by form region) after_cell 0) (IsLocal-count_within (cell_room (rules_in form))) bytes count rest s (subst (λ n. count_within n bytes ≡ Ok (count, rest)) same h) p))

pub cells_passed : (form : Form) (region : Region) (bytes : List ℕ) (limit count : ℕ) (rest end : List ℕ) → limit ≡ cell_room (rules_in form) → count_within limit bytes ≡ Ok (count, rest) → skipped (several (cell_by form region) after_cell 0 count) rest ≡ Ok end → skipped (cells_by form region) bytes ≡ Ok end
cells_passed form region bytes limit count rest end same h g =
    sym (same_skipped (listed_cells form region) (cells_by form region) bytes (cells_are form region bytes))
    ∙ skipped-mapped (λ p. p.1) (followed (count_within (cell_room (rules_in form))) (several (cell_by form region) after_cell 0)) bytes
    ∙ skipped-followed (count_within (cell_room (rules_in form))) (several (cell_by form region) after_cell 0) bytes count rest (subst (λ n. count_within n bytes ≡ Ok (count, rest)) same h) ∙ g

pub stop_in_range_count : (rules : Rules) (is_main : Bool) (region : Region) (bytes : List ℕ) (s : Stop) → Stopped (read_block (block.RangeCount rules is_main)) bytes s → Stopped (ranges_at rules is_main region) bytes s
unfolding read_block ranges_at
stop_in_range_count rules is_main region bytes s p = Stopped-mapped _ _ bytes s (Stopped-first _ _ bytes s (Stopped-block (count_within (range_room rules is_main)) bytes s p))

pub in_ranges : (rules : Rules) (is_main : Bool) (region : Region) (bytes : List ℕ) (count : ℕ) (rest : List ℕ) (s : Stop) → count_within (range_room rules is_main) bytes ≡ Ok (count, rest) → Stopped (several (range_at region) after_range 0 count) rest s
    → Stopped (ranges_at rules is_main region) bytes s
unfolding ranges_at
in_ranges rules is_main region bytes count rest s h p = Stopped-mapped _ _ bytes s (Stopped-then (count_within (range_room rules is_main)) (several (range_at region) after_range 0) (IsLocal-count_within (range_room rules is_main)) bytes count rest s h p)

pub ranges_passed : (rules : Rules) (is_main : Bool) (region : Region) (bytes : List ℕ) (count : ℕ) (rest end : List ℕ) → count_within (range_room rules is_main) bytes ≡ Ok (count, rest) → skipped (several (range_at region) after_range 0 count) rest ≡ Ok end
    → skipped (ranges_at rules is_main region) bytes ≡ Ok end
unfolding ranges_at
ranges_passed rules is_main region bytes count rest end h g =
    skipped-mapped (λ p. p.1) (followed (count_within (range_room rules is_main)) (several (range_at region) after_range 0)) bytes ∙ skipped-followed (count_within (range_room rules is_main)) (several (range_at region) after_range 0) bytes count rest h ∙ g

-- ---- what is there in versions 3 and 4 alone

pub told_absent : (form : Form) (k : StackBytes) (aside : Bool) (test : Option ℕ) (bytes : List ℕ) → form ≡ Older Simple → skipped (told_by form k aside test) bytes ≡ Ok bytes
told_absent form k aside test bytes e = subst (λ f. skipped (told_by f k aside test) bytes ≡ Ok bytes) (sym e) refl

pub told_passed : (form : Form) (k : StackBytes) (aside : Bool) (test : Option ℕ) (bytes : List ℕ) (r : Relations) (rest : List ℕ) → form ≡ Older Extended → relations_at k.region test bytes ≡ Ok (r, rest) → skipped (told_by form k aside test) bytes ≡ Ok rest
told_passed form k aside test bytes r rest e h = subst (λ f. skipped (told_by f k aside test) bytes ≡ Ok rest) (sym e) (rw h refl)

pub told_whole_passed : (form : Form) (facts : ℕ) (of : ProcedureForm) (k : StackBytes) (aside : Bool) (test : Option ℕ) (bytes : List ℕ) (r : Relations × SummaryParts) (rest : List ℕ) → form ≡ Fourth facts of → whole.told_at facts k aside test bytes ≡ Ok (r, rest) → skipped (told_by form k aside test) bytes ≡ Ok rest
told_whole_passed form facts of k aside test bytes r rest e h = subst (λ f. skipped (told_by f k aside test) bytes ≡ Ok rest) (sym e) (rw h refl)

pub stop_in_told : (form : Form) (k : StackBytes) (aside : Bool) (test : Option ℕ) (bytes : List ℕ) (s : Stop) → form ≡ Older Extended → Stopped (read_block (block.Told k.region test)) bytes s → Stopped (told_by form k aside test) bytes s
unfolding read_block
stop_in_told form k aside test bytes s e p = subst (λ f. Stopped (told_by f k aside test) bytes s) (sym e) (Stopped-block (relations_at k.region test) bytes s p)

pub stop_in_told_whole : (form : Form) (facts : ℕ) (of : ProcedureForm) (k : StackBytes) (aside : Bool) (test : Option ℕ) (bytes : List ℕ) (s : Stop) → form ≡ Fourth facts of → Stopped (read_block (block.ToldWhole facts k aside test)) bytes s → Stopped (told_by form k aside test) bytes s
unfolding read_block
stop_in_told_whole form facts of k aside test bytes s e p = subst (λ f. Stopped (told_by f k aside test) bytes s) (sym e) (Stopped-block (whole.told_at facts k aside test) bytes s p)

-- Versions 1 and 2 have no base.
pub base_absent : (version : ℕ) (is_main : Bool) (region : Region) (bytes : List ℕ) → any_rules_of version ≡ Simple → mapped (base_if (version == 4)) (base_at (any_rules_of version) is_main region) bytes ≡ Ok (0, bytes)
unfolding base_at
base_absent version is_main region bytes e = by (version == 4) e
  where
    by : (b : Bool) → any_rules_by b version ≡ Simple → mapped (base_if b) (base_at (any_rules_by b version) is_main region) bytes ≡ Ok (0, bytes)
    by true e = absurd cc
    by false e = subst (λ r. mapped (base_if false) (base_at r is_main region) bytes ≡ Ok (0, bytes)) (sym e) refl

pub base_passed : (version : ℕ) (is_main : Bool) (region : Region) (bytes : List ℕ) (b : ℕ) (rest : List ℕ) → any_rules_of version ≡ Extended → base_at Extended is_main region bytes ≡ Ok (b, rest) → mapped (base_if (version == 4)) (base_at (any_rules_of version) is_main region) bytes ≡ Ok (base_if (version == 4) b, rest)
base_passed version is_main region bytes b rest e h = subst (λ r. mapped (base_if (version == 4)) (base_at r is_main region) bytes ≡ Ok (base_if (version == 4) b, rest)) (sym e) (rw h refl)

pub stop_in_base : (version : ℕ) (is_main : Bool) (region : Region) (bytes : List ℕ) (s : Stop) → any_rules_of version ≡ Extended → Stopped (read_block (block.Base is_main region)) bytes s → Stopped (mapped (base_if (version == 4)) (base_at (any_rules_of version) is_main region)) bytes s
unfolding read_block
stop_in_base version is_main region bytes s e p = Stopped-mapped (base_if (version == 4)) (base_at (any_rules_of version) is_main region) bytes s (subst (λ r. Stopped (base_at r is_main region) bytes s) (sym e) (Stopped-block (base_at Extended is_main region) bytes s p))

-- ---- one part and another

pub stop_in_first : {X Y : Type 0} (r : Read X) (t : Read Y) (bytes : List ℕ) (s : Stop) → Stopped r bytes s → Stopped (both r t) bytes s
stop_in_first r t bytes s p = Stopped-first r (λ x. t) bytes s p

pub both_passed : {X Y : Type 0} (r : Read X) (t : Read Y) (bytes mid end : List ℕ) → skipped r bytes ≡ Ok mid → skipped t mid ≡ Ok end → skipped (both r t) bytes ≡ Ok end
both_passed r t bytes mid end g k = skipped-both r t bytes ∙ ap (λ r. past r (skipped t)) g ∙ k

pub stop_in_list_told : (form : Form) (k : StackBytes) (aside : Bool) (test : Option ℕ) (bytes : List ℕ) (s : Stop) → Stopped (told_by form k aside test) bytes s → Stopped (both (told_by form k aside test) (cells_by form k.region)) bytes s
stop_in_list_told form k aside test bytes s p = stop_in_first (told_by form k aside test) (cells_by form k.region) bytes s p

pub stop_in_list_cells : (form : Form) (k : StackBytes) (aside : Bool) (test : Option ℕ) (bytes rest : List ℕ) (s : Stop) → skipped (told_by form k aside test) bytes ≡ Ok rest → Stopped (cells_by form k.region) rest s → Stopped (both (told_by form k aside test) (cells_by form k.region)) bytes s
stop_in_list_cells form k aside test bytes rest s g p = Stopped-after (told_by form k aside test) (cells_by form k.region) (IsLocal-told_by form k aside test) bytes rest s g p

pub lists_passed : (form : Form) (k : StackBytes) (aside : Bool) (test : Option ℕ) (bytes mid end : List ℕ) → skipped (told_by form k aside test) bytes ≡ Ok mid → skipped (cells_by form k.region) mid ≡ Ok end → skipped (both (told_by form k aside test) (cells_by form k.region)) bytes ≡ Ok end
lists_passed form k aside test bytes mid end g c = both_passed (told_by form k aside test) (cells_by form k.region) bytes mid end g c

-- ---- states

abbrev Behind : Form → Type 0
Behind form = List Val × (Told form × List Cell)

abbrev to_state_by : (form : Form) → Tested × Behind form → AbsState
to_state_by (Older rules) p = simple.to_state p
to_state_by (Fourth facts form) p = whole.to_state p

-- what is known and said, and the cells, behind so many items
abbrev lists_by : (form : Form) → Role → Region → Tested → ℕ → Read (Told form × List Cell)
lists_by form role region k count = both (told_by form (stack_by form role region count) (may_be_aside role k.0) k.1) (cells_by form region)

abbrev behind_core : (form : Form) → Role → Region → Tested → Read (Behind form)
behind_core form role region k = followed (items_by form role k.0.stack_set) (λ items. lists_by form role region k (length items))

-- a state, by its parts
abbrev parted_state : Form → Role → Region → Read AbsState
parted_state form role region = mapped (to_state_by form) (followed (core_by form role) (behind_core form role region))

state_is : (form : Form) (role : Role) (region : Region) (bytes : List ℕ) → parted_state form role region bytes ≡ state_by form role region bytes
unfolding simple.state_at whole.state_at
state_is (Older rules) role region bytes = refl
state_is (Fourth facts form) role region bytes = refl

-- a stack's region is the one that is given
region_is : (form : Form) (role : Role) (region : Region) (count : ℕ) → (stack_by form role region count).region ≡ region
region_is (Older rules) role region count = refl
region_is (Fourth facts form) role region count = refl

of_state : (form : Form) (role : Role) (region : Region) (bytes : List ℕ) (s : Stop) → Stopped (followed (core_by form role) (behind_core form role region)) bytes s → Stopped (state_by form role region) bytes s
of_state form role region bytes s p = Stopped-as (parted_state form role region) (state_by form role region) bytes s (state_is form role region) (Stopped-mapped (to_state_by form) (followed (core_by form role) (behind_core form role region)) bytes s p)

pub stop_in_core : (form : Form) (role : Role) (region : Region) (bytes : List ℕ) (s : Stop) → Stopped (read_block (block.Core form role)) bytes s → Stopped (state_by form role region) bytes s
unfolding read_block
stop_in_core form role region bytes s p = of_state form role region bytes s (Stopped-first (core_by form role) (behind_core form role region) bytes s (Stopped-block (core_by form role) bytes s p))

pub stop_in_items : (form : Form) (role : Role) (region : Region) (bytes : List ℕ) (core : Tested) (rest : List ℕ) (s : Stop) → core_by form role bytes ≡ Ok (core, rest) → Stopped (mapped count_items (items_by form role core.0.stack_set)) rest s → Stopped (state_by form role region) bytes s
stop_in_items form role region bytes core rest s h p =
    of_state form role region bytes s (Stopped-then (core_by form role) (behind_core form role region) (IsLocal-core_by form role) bytes core rest s h
    (Stopped-first (items_by form role core.0.stack_set) (λ items. lists_by form role region core (length items)) rest s (Stopped-unmapped count_items (items_by form role core.0.stack_set) rest s p)))

-- behind so many items, whose stack was found
abbrev found_lists : (form : Form) → StackBytes → Bool → Option ℕ → Read (Told form × List Cell)
found_lists form k aside test = both (told_by form k aside test) (cells_by form k.region)

lists_are : (form : Form) (role : Role) (region : Region) (core : Tested) (count : ℕ) (k : StackBytes) (aside : Bool) → k ≡ stack_by form role region count → aside ≡ may_be_aside role core.0 → found_lists form k aside core.1 ≡ lists_by form role region core count
lists_are form role region core count k aside same b =
    ap (λ a. found_lists form k a core.1) b
    ∙ ap (λ (j : StackBytes). found_lists form j (may_be_aside role core.0) core.1) same
    ∙ ap (λ (r : Region). both (told_by form (stack_by form role region count) (may_be_aside role core.0) core.1) (cells_by form r)) (region_is form role region count)

pub stop_in_lists : (form : Form) (role : Role) (region : Region) (bytes : List ℕ) (core : Tested) (rest : List ℕ) (count : ℕ) (end : List ℕ) (k : StackBytes) (aside : Bool) (s : Stop) → core_by form role bytes ≡ Ok (core, rest) → mapped count_items (items_by form role core.0.stack_set) rest ≡ Ok (count, end) → k ≡ stack_by form role region count → aside ≡ may_be_aside role core.0
    → Stopped (found_lists form k aside core.1) end s → Stopped (state_by form role region) bytes s
stop_in_lists form role region bytes core rest count end k aside s h g same b p =
    let items = was_mapped count_items (items_by form role core.0.stack_set) rest count end g in
    let lists : ℕ → Read (Told form × List Cell) = λ n. lists_by form role region core n in
    let q = subst (λ (t : Read (Told form × List Cell)). Stopped t end s) (lists_are form role region core count k aside same b) p in
    of_state form role region bytes s (Stopped-then (core_by form role) (behind_core form role region) (IsLocal-core_by form role) bytes core rest s h
    (Stopped-then (items_by form role core.0.stack_set) (λ items. lists (length items)) (IsLocal-items_by form role core.0.stack_set) rest items.0 end s items.1
    (subst (λ n. Stopped (lists n) end s) (sym items.2) q)))

pub state_passed : (form : Form) (role : Role) (region : Region) (bytes : List ℕ) (core : Tested) (rest : List ℕ) (count : ℕ) (mid end : List ℕ) (k : StackBytes) (aside : Bool) → core_by form role bytes ≡ Ok (core, rest) → mapped count_items (items_by form role core.0.stack_set) rest ≡ Ok (count, mid) → k ≡ stack_by form role region count → aside ≡ may_be_aside role core.0
    → skipped (found_lists form k aside core.1) mid ≡ Ok end → skipped (state_by form role region) bytes ≡ Ok end
state_passed form role region bytes core rest count mid end k aside h g same b l =
    let items = was_mapped count_items (items_by form role core.0.stack_set) rest count mid g in
    let lists : ℕ → Read (Told form × List Cell) = λ n. lists_by form role region core n in
    let q = subst (λ (t : Read (Told form × List Cell)). skipped t mid ≡ Ok end) (lists_are form role region core count k aside same b) l in
    sym (same_skipped (parted_state form role region) (state_by form role region) bytes (state_is form role region bytes))
    ∙ skipped-mapped (to_state_by form) (followed (core_by form role) (behind_core form role region)) bytes
    ∙ skipped-followed (core_by form role) (behind_core form role region) bytes core rest h
    ∙ skipped-followed (items_by form role core.0.stack_set) (λ items. lists (length items)) rest items.0 mid items.1
    ∙ subst (λ n. skipped (lists n) mid ≡ Ok end) (sym items.2) q

-- ---- exits

pub stop_in_returns : (form : Form) (is_main : Bool) (region : Region) (bytes : List ℕ) (s : Stop) → Stopped (read_block (block.Returns is_main)) bytes s → Stopped (exit_by form is_main region) bytes s
unfolding read_block exit_by
stop_in_returns form is_main region bytes s p = Stopped-mapped _ _ bytes s (Stopped-first (returns_at is_main) (λ returns. optional returns (state_by form role.Exit region)) bytes s (Stopped-block (returns_at is_main) bytes s p))

pub stop_in_exit : (form : Form) (is_main : Bool) (region : Region) (bytes rest : List ℕ) (s : Stop) → returns_at is_main bytes ≡ Ok (true, rest) → Stopped (state_by form role.Exit region) rest s → Stopped (exit_by form is_main region) bytes s
unfolding exit_by
stop_in_exit form is_main region bytes rest s h p = Stopped-mapped _ _ bytes s (Stopped-then (returns_at is_main) (λ returns. optional returns (state_by form role.Exit region)) (IsLocal-returns is_main) bytes true rest s h (Stopped-mapped Some (state_by form role.Exit region) rest s p))

pub exit_passed : (form : Form) (is_main : Bool) (region : Region) (bytes rest end : List ℕ) → returns_at is_main bytes ≡ Ok (true, rest) → skipped (state_by form role.Exit region) rest ≡ Ok end → skipped (exit_by form is_main region) bytes ≡ Ok end
unfolding exit_by
exit_passed form is_main region bytes rest end h g =
    skipped-mapped (λ p. p.1) (followed (returns_at is_main) (λ returns. optional returns (state_by form role.Exit region))) bytes
    ∙ skipped-followed (returns_at is_main) (λ returns. optional returns (state_by form role.Exit region)) bytes true rest h
    ∙ skipped-mapped Some (state_by form role.Exit region) rest ∙ g

pub no_exit : (form : Form) (is_main : Bool) (region : Region) (bytes rest : List ℕ) → returns_at is_main bytes ≡ Ok (false, rest) → skipped (exit_by form is_main region) bytes ≡ Ok rest
unfolding exit_by
no_exit form is_main region bytes rest h = rw h refl

pub ruleset walk_items = (no_item_count, stop_in_item_count, in_items, items_passed)

pub ruleset walk_told = (no_told, no_told_whole, told_absent, told_passed, told_whole_passed, stop_in_told, stop_in_told_whole)

pub ruleset walk_cells = (no_cell_count, stop_in_cell_count, in_cells, cells_passed)

pub ruleset walk_lists = (stop_in_list_told, stop_in_list_cells, lists_passed)

pub ruleset walk_ranges = (no_range_count, stop_in_range_count, in_ranges, ranges_passed)

pub ruleset walk_state = (no_core, stop_in_core, stop_in_items, stop_in_lists, state_passed)

pub ruleset walk_exit = (no_returns, stop_in_returns, stop_in_exit, no_exit, exit_passed)

pub ruleset walk_base = (no_base, base_absent, base_passed, stop_in_base)
