-- The field on which a block's fault falls contains the byte.
use Rattle.std.proofs.Common.{◌≡◌, ℕ, ◌+◌, ◌-◌, ◌==◌, ◌⊎◌, inl, inr, ◌≤◌, ◌<◌, Bool, true, false, nat_lt, List, [], ◌∷◌, ◌++◌, length, take, slice_index_or, Option, Err, refl, sym, ◌∙◌, ap, subst, append_assoc, arith}
use Rattle.std.proofs.lemmas.List.{take_all, length-take-le, get_or-take}
use Rattle.std.proofs.lemmas.Bool.{cases_lt}
use Rattle.std.proofs.lemmas.Bool.Decides.{nat_tests}
use Rattle.gb_ops.specs.declared.machine.Region.{Region}
use Rattle.gb_fields.specs.declared.fault.CertFault.{CertFault}
use Rattle.gb_fields.specs.declared.fault.CertFault.TheVariants as fault
use Rattle.gb_states.specs.declared.form.ProcedureForm.{ProcedureForm}
use Rattle.gb_states.specs.declared.role.Role.{Role}
use Rattle.gb_fields.specs.declared.head.Head.{Head}
use Rattle.gb_domain.specs.declared.places.StackBytes.{StackBytes}
use Rattle.gb_domain.specs.declared.rules.Rules.{Rules}
use Rattle.gb_domain.specs.Limits.{cell_room}
use Rattle.gb_fields.specs.Limits.{range_room, fact_limit, kept_room}
use Rattle.gb_fields.specs.Format.{Read, mapped}
use Rattle.gb_fields.specs.Reading.{any_head_at}
use Rattle.gb_states.specs.declared.form.Form.{Form}
use Rattle.gb_cert_place.specs.declared.block.Block.{Block}
use Rattle.gb_cert_place.specs.declared.block.Block.TheVariants as block
use Rattle.gb_cert_place.specs.declared.block.Part.{Part}
use Rattle.gb_cert_place.specs.declared.block.Stop.{Stop}
use Rattle.gb_cert_place.specs.declared.field.Field.{Field}
use Rattle.gb_cert_place.specs.declared.field.Field.TheVariants as field
use Rattle.gb_cert_place.specs.Blocks.{read_block, forget}
use Rattle.gb_cert_place.specs.Layout.{Layout, number_width, number_width_by, procedure_width, layout, width_of, Contains, choose, lookup, field_at}
use Rattle.gb_cert_place.specs.Standing.{AmongItems, AtItem, InItems, AtItemCount, BehindItemCount, InTold, AtTold, AtToldWhole, AmongCells, AtCell, InCells, AtCellCount, BehindCellCount, InLists, FirstTold, BehindTold, InState, AtCore, BehindCore, BehindItems, AmongRanges, AtRange, InRanges, AtRangeCount, BehindRangeCount, AmongKept, AtKept, InKept, AtKeptCount, BehindKeptCount, InExit, AtReturns, BehindReturns, InNamed, FirstKept, AtMark, BehindMark, InEnding, EndsNamed, EndsOlder, InBase, AtBase, InNeeded, AtNeed, BehindNeed, BehindRanges, InBody, FirstBase, BehindBase, InProcedure, AtEntry, BehindEntry, InProcedures, AtProcedure, InNode, AtKey, AtBank, BehindBank, InNodes, AtNode, AmongFacts, AtFact, InFacts, AtFactCount, BehindFactCount, InCertificate, AtHead, BehindHead, BehindFacts, BehindProcedures}
use Rattle.gb_cert_place.specs.Stops.{StopsAt, StopsIn, is_missing}
use Rattle.gb_cert_place.specs.Places.{byte_by, fault_byte, FallsIn}
use Rattle.gb_cert_place.proofs.Locality.{failed}
use Rattle.gb_cert_place.proofs.Stopping.{is_cut_short}
use Rattle.gb_cert_place.proofs.Widths.{IsWithin, cut_mapped, IsWithin-byte, IsWithin-mapped, IsWithin-word_between, IsWithin-count_within, IsWithin-item_count, IsWithin-relations, IsWithin-base, IsWithin-range, IsWithin-returns, IsWithin-entry, IsWithin-need, head_within}
use Rattle.gb_cert_place.proofs.WholeWidths.{IsWithin-word_count_within, IsWithin-fact, IsWithin-free_address, IsWithin-core_by, IsWithin-val_by, IsWithin-told, IsWithin-cell_by, IsWithin-key_by}

-- ---- looking up

width-append : (front : Layout) (f : Field × ℕ) → width_of (front ++ f ∷ []) ≡ width_of front + f.1
width-append [] f = omega arith
width-append (g ∷ front) f = let h = width-append front f in omega arith

lookup_contains : (fields front : Layout) (found : Field × ℕ) (start : ℕ) (behind : Layout) (byte : ℕ) → fields ≡ front ++ behind → start ≡ width_of front → start ≤ byte → byte < start + width_of behind
    → (width : ℕ) × Contains fields byte (lookup found start behind byte).0 (lookup found start behind byte).1 width
unfolding lookup
lookup_contains fields front found start [] byte parts begins le lt = absurd (omega arith)
lookup_contains fields front found start (f ∷ fs) byte parts begins le lt = by (nat_lt byte (start + f.1)) refl (lookup_contains fields (front ++ f ∷ []) (f.0, start) (start + f.1) fs byte (parts ∙ sym (append_assoc front (f ∷ []) fs)))
  where
    by : (b : Bool) → nat_lt byte (start + f.1) ≡ b
        → (start + f.1 ≡ width_of (front ++ f ∷ []) → start + f.1 ≤ byte → byte < (start + f.1) + width_of fs → (width : ℕ) × Contains fields byte (lookup (f.0, start) (start + f.1) fs byte).0 (lookup (f.0, start) (start + f.1) fs byte).1 width)
        → (width : ℕ) × Contains fields byte (choose b (f.0, start) (lookup (f.0, start) (start + f.1) fs byte)).0 (choose b (f.0, start) (lookup (f.0, start) (start + f.1) fs byte)).1 width
    by true h on = (f.1, record { front = front; behind = fs; parts = parts; begins = begins; from = le; to = grind (arith, nat_tests) })
    by false h on =
        let w : width_of (front ++ f ∷ []) ≡ width_of front + f.1 = width-append front f in
        let at : start + f.1 ≡ width_of (front ++ f ∷ []) = omega arith in
        let high : start + f.1 ≤ byte = grind (arith, nat_tests) in
        let low : byte < (start + f.1) + width_of fs = omega arith in
        on at high low

-- ---- where a block's fault falls

-- Of so many of the bytes, or more, reading doesn't say that some are missing.
abbrev Decides : {X : Type 0} → Read X → List ℕ → ℕ → Type 0
Decides r bytes n = (j : ℕ) → n ≤ j → j ≤ length bytes → r (take j bytes) ≡ Err fault.CutShort → ⊥

within_decides : {X : Type 0} (r : Read X) (n : ℕ) → IsWithin r n → (bytes : List ℕ) → Decides r bytes n
within_decides r n a bytes j le few h = a.decides (take j bytes) (let l : length (take j bytes) ≡ j = length-take-le j bytes few in omega arith) h

falls_within : {X : Type 0} (r : Read X) (bytes : List ℕ) (e : CertFault) (stop n : ℕ) → 0 < n → Decides r bytes n → StopsAt r bytes e stop → fault_byte e stop < n
falls_within {X} r bytes e stop n some decides s = by (is_missing e) refl
  where
    cut : is_missing e ≡ true → (stop < n) ⊎ (n ≤ stop) → stop < n
    cut m (inl lt) = lt
    cut m (inr le) =
        let c : e ≡ fault.CutShort = is_cut_short e m in
        let w : stop ≡ length bytes = s.cut c in
        absurd (decides stop le (omega arith) (ap r (take_all stop bytes (omega arith)) ∙ s.meets ∙ ap (λ d. failed {A = X × List ℕ} d) c))

    other : (stop - 1 < n) ⊎ (n ≤ stop - 1) → stop - 1 < n
    other (inl lt) = lt
    other (inr le) =
        let w : stop ≤ length bytes = s.within in
        absurd (decides (stop - 1) le (omega arith) (s.before (stop - 1) (omega arith)))

    by : (b : Bool) → is_missing e ≡ b → byte_by b stop < n
    by true m = cut m (cases_lt stop n)
    by false m = other (cases_lt (stop - 1) n)

-- ---- blocks

-- the version of a head is the one in it
abbrev IsRight : Block → List ℕ → Type 0
IsRight (block.Head version) bytes = version ≡ slice_index_or bytes 4 1
IsRight b bytes = Unit {0}

head_decides : (version : ℕ) (bytes : List ℕ) → version ≡ slice_index_or bytes 4 1 → Decides (mapped forget any_head_at) bytes (width_of (layout (block.Head version)))
unfolding layout
head_decides version bytes right j le few h =
    let l : length (take j bytes) ≡ j = length-take-le j bytes few in
    let n : number_width version ≡ number_width (slice_index_or (take j bytes) 4 1) = ap number_width (right ∙ sym (get_or-take j bytes 4 1 (omega arith))) in
    let m : procedure_width version ≡ procedure_width (slice_index_or (take j bytes) 4 1) = ap procedure_width (right ∙ sym (get_or-take j bytes 4 1 (omega arith))) in
    head_within (take j bytes) (omega arith) (cut_mapped forget any_head_at (take j bytes) h)

block_decides : (b : Block) (bytes : List ℕ) → IsRight b bytes → Decides (read_block b) bytes (width_of (layout b))
unfolding read_block layout
block_decides (block.Head version) bytes right = λ j le few h. head_decides version bytes right j le few h
block_decides block.FactCount bytes right = within_decides _ 2 (IsWithin-mapped forget _ 2 (IsWithin-word_count_within fact_limit)) bytes
block_decides (block.Fact region) bytes right = within_decides _ 8 (IsWithin-mapped forget _ 8 (IsWithin-fact region)) bytes
block_decides (block.Entry version nodes) bytes right = within_decides _ (number_width version + 0) (subst (λ n. IsWithin (read_block (block.Entry version nodes)) n) (omega arith) (IsWithin-mapped forget _ _ (IsWithin-entry version nodes))) bytes
block_decides (block.Base is_main region) bytes right = within_decides _ 2 (IsWithin-mapped forget _ 2 (IsWithin-base is_main region)) bytes
block_decides (block.Need rules is_main region) bytes right = within_decides _ 2 (IsWithin-mapped forget _ 2 (IsWithin-need rules is_main region)) bytes
block_decides (block.RangeCount rules is_main) bytes right = within_decides _ 1 (IsWithin-mapped forget _ 1 (IsWithin-count_within (range_room rules is_main))) bytes
block_decides (block.Range index region least) bytes right = within_decides _ 4 (IsWithin-mapped forget _ 4 (IsWithin-range region least)) bytes
block_decides (block.KeptCount is_main) bytes right = within_decides _ 1 (IsWithin-mapped forget _ 1 (IsWithin-count_within (kept_room is_main))) bytes
block_decides (block.KeptAddress index region least) bytes right = within_decides _ 2 (IsWithin-mapped forget _ 2 (IsWithin-free_address region least)) bytes
block_decides block.Mark bytes right = within_decides _ 1 (IsWithin-mapped forget _ 1 IsWithin-byte) bytes
block_decides (block.Returns is_main) bytes right = within_decides _ 1 (IsWithin-mapped forget _ 1 (IsWithin-returns is_main)) bytes
block_decides (block.Core form role) bytes right = within_decides _ 40 (IsWithin-mapped forget _ 40 (IsWithin-core_by form role)) bytes
block_decides (block.ItemCount rules role stack_set) bytes right = within_decides _ 1 (IsWithin-mapped forget _ 1 (IsWithin-item_count rules role stack_set)) bytes
block_decides (block.Item form index) bytes right = within_decides _ 3 (IsWithin-mapped forget _ 3 (IsWithin-val_by form)) bytes
block_decides (block.Told region test) bytes right = within_decides _ 30 (IsWithin-mapped forget _ 30 (IsWithin-relations region test)) bytes
block_decides (block.ToldWhole facts k may_be_aside test) bytes right = within_decides _ 131 (IsWithin-mapped forget _ 131 (IsWithin-told facts k may_be_aside test)) bytes
block_decides (block.CellCount rules) bytes right = within_decides _ 1 (IsWithin-mapped forget _ 1 (IsWithin-count_within (cell_room rules))) bytes
block_decides (block.Cell form index region least) bytes right = within_decides _ 5 (IsWithin-mapped forget _ 5 (IsWithin-cell_by form region least)) bytes
block_decides (block.Key version procedures before) bytes right = within_decides _ (procedure_width version + 2) (IsWithin-mapped forget _ _ (IsWithin-key_by version procedures before)) bytes
block_decides block.Bank bytes right = within_decides _ 2 (IsWithin-mapped forget _ 2 (IsWithin-word_between 0 511)) bytes

some_width : (b : Block) → 0 < width_of (layout b)
unfolding layout
some_width (block.Head version) = omega arith
some_width (block.Entry version nodes) = by (version == 1)
  where
    by : (b : Bool) → 0 < number_width_by b + 0
    by true = omega arith
    by false = omega arith
some_width block.FactCount = omega arith
some_width (block.Fact region) = omega arith
some_width (block.Base is_main region) = omega arith
some_width (block.Need rules is_main region) = omega arith
some_width (block.RangeCount rules is_main) = omega arith
some_width (block.Range index region least) = omega arith
some_width (block.KeptCount is_main) = omega arith
some_width (block.KeptAddress index region least) = omega arith
some_width block.Mark = omega arith
some_width (block.Returns is_main) = omega arith
some_width (block.Core form role) = omega arith
some_width (block.ItemCount rules role stack_set) = omega arith
some_width (block.Item form index) = omega arith
some_width (block.Told region test) = omega arith
some_width (block.ToldWhole facts region may_be_aside test) = omega arith
some_width (block.CellCount rules) = omega arith
some_width (block.Cell form index region least) = omega arith
some_width (block.Key version procedures before) = omega arith
some_width block.Bank = omega arith

-- ---- a head stands at the front alone

among_items_right : {form : Form} {count : ℕ} {bytes rest : List ℕ} {b : Block} → AmongItems form count bytes b rest → IsRight b rest
among_items_right (AtItem lt p) = tt

in_items_right : {form : Form} {role : Role} {stack_set : Bool} {bytes rest : List ℕ} {b : Block} → InItems form role stack_set bytes b rest → IsRight b rest
in_items_right AtItemCount = tt
in_items_right (BehindItemCount e a) = among_items_right a

in_told_right : {form : Form} {k : StackBytes} {may_be_aside : Bool} {test : Option ℕ} {bytes rest : List ℕ} {b : Block} → InTold form k may_be_aside test bytes b rest → IsRight b rest
in_told_right (AtTold e) = tt
in_told_right (AtToldWhole e) = tt

among_cells_right : {form : Form} {region : Region} {count : ℕ} {bytes rest : List ℕ} {b : Block} → AmongCells form region count bytes b rest → IsRight b rest
among_cells_right (AtCell lt p) = tt

in_cells_right : {form : Form} {region : Region} {bytes rest : List ℕ} {b : Block} → InCells form region bytes b rest → IsRight b rest
in_cells_right AtCellCount = tt
in_cells_right (BehindCellCount e a) = among_cells_right a

in_lists_right : {form : Form} {k : StackBytes} {may_be_aside : Bool} {test : Option ℕ} {bytes rest : List ℕ} {b : Block} → InLists form k may_be_aside test bytes b rest → IsRight b rest
in_lists_right (FirstTold a) = in_told_right a
in_lists_right (BehindTold e a) = in_cells_right a

in_state_right : {form : Form} {role : Role} {region : Region} {bytes rest : List ℕ} {b : Block} → InState form role region bytes b rest → IsRight b rest
in_state_right AtCore = tt
in_state_right (BehindCore e a) = in_items_right a
in_state_right (BehindItems e f a) = in_lists_right a

among_ranges_right : {region : Region} {count : ℕ} {bytes rest : List ℕ} {b : Block} → AmongRanges region count bytes b rest → IsRight b rest
among_ranges_right (AtRange lt p) = tt

in_ranges_right : {rules : Rules} {is_main : Bool} {region : Region} {bytes rest : List ℕ} {b : Block} → InRanges rules is_main region bytes b rest → IsRight b rest
in_ranges_right AtRangeCount = tt
in_ranges_right (BehindRangeCount e a) = among_ranges_right a

among_kept_right : {region : Region} {count : ℕ} {bytes rest : List ℕ} {b : Block} → AmongKept region count bytes b rest → IsRight b rest
among_kept_right (AtKept lt p) = tt

in_kept_right : {is_main : Bool} {region : Region} {bytes rest : List ℕ} {b : Block} → InKept is_main region bytes b rest → IsRight b rest
in_kept_right AtKeptCount = tt
in_kept_right (BehindKeptCount e a) = among_kept_right a

in_exit_right : {number : ℕ} {form : Form} {is_main : Bool} {region : Region} {bytes rest : List ℕ} {p : Part} {b : Block} → InExit number form is_main region bytes p b rest → IsRight b rest
in_exit_right AtReturns = tt
in_exit_right (BehindReturns e a) = in_state_right a

in_named_right : {number facts base : ℕ} {is_main : Bool} {region : Region} {bytes rest : List ℕ} {p : Part} {b : Block} → InNamed number facts base is_main region bytes p b rest → IsRight b rest
in_named_right (FirstKept a) = in_kept_right a
in_named_right (AtMark e) = tt
in_named_right (BehindMark e f a) = in_exit_right a

in_ending_right : {number version facts base : ℕ} {is_main : Bool} {region : Region} {bytes rest : List ℕ} {p : Part} {b : Block} → InEnding number version facts base is_main region bytes p b rest → IsRight b rest
in_ending_right (EndsNamed e a) = in_named_right a
in_ending_right (EndsOlder e a) = in_exit_right a

in_base_right : {rules : Rules} {is_main : Bool} {region : Region} {bytes rest : List ℕ} {b : Block} → InBase rules is_main region bytes b rest → IsRight b rest
in_base_right (AtBase e) = tt

in_needed_right : {number version facts base : ℕ} {is_main : Bool} {region : Region} {bytes rest : List ℕ} {p : Part} {b : Block} → InNeeded number version facts base is_main region bytes p b rest → IsRight b rest
in_needed_right AtNeed = tt
in_needed_right (BehindNeed e a) = in_ranges_right a
in_needed_right (BehindRanges e f a) = in_ending_right a

in_body_right : {number version facts : ℕ} {is_main : Bool} {region : Region} {bytes rest : List ℕ} {p : Part} {b : Block} → InBody number version facts is_main region bytes p b rest → IsRight b rest
in_body_right (FirstBase a) = in_base_right a
in_body_right (BehindBase e a) = in_needed_right a

in_procedure_right : {number : ℕ} {h : Head} {facts : ℕ} {is_main : Bool} {bytes rest : List ℕ} {p : Part} {b : Block} → InProcedure number h facts is_main bytes p b rest → IsRight b rest
in_procedure_right AtEntry = tt
in_procedure_right (BehindEntry e a) = in_body_right a

in_procedures_right : {h : Head} {facts : ℕ} {bytes rest : List ℕ} {p : Part} {b : Block} → InProcedures h facts bytes p b rest → IsRight b rest
in_procedures_right (AtProcedure lt p a) = in_procedure_right a

in_node_right : {h : Head} {facts : ℕ} {forms : List ProcedureForm} {before : ℕ × ℕ} {bytes rest : List ℕ} {b : Block} → InNode h facts forms before bytes b rest → IsRight b rest
in_node_right AtKey = tt
in_node_right (AtBank e) = tt
in_node_right (BehindBank e f a) = in_state_right a

in_nodes_right : {h : Head} {facts : ℕ} {forms : List ProcedureForm} {bytes rest : List ℕ} {p : Part} {b : Block} → InNodes h facts forms bytes p b rest → IsRight b rest
in_nodes_right (AtNode lt p a) = in_node_right a

among_facts_right : {region : Region} {count : ℕ} {bytes rest : List ℕ} {p : Part} {b : Block} → AmongFacts region count bytes p b rest → IsRight b rest
among_facts_right (AtFact lt p) = tt

in_facts_right : {version : ℕ} {region : Region} {bytes rest : List ℕ} {p : Part} {b : Block} → InFacts version region bytes p b rest → IsRight b rest
in_facts_right (AtFactCount e) = tt
in_facts_right (BehindFactCount e f a) = among_facts_right a

in_certificate_right : {bytes rest : List ℕ} {p : Part} {b : Block} → InCertificate bytes p b rest → IsRight b rest
in_certificate_right AtHead = refl
in_certificate_right (BehindHead e a) = in_facts_right a
in_certificate_right (BehindFacts e f a) = in_procedures_right a
in_certificate_right (BehindProcedures e f g a) = in_nodes_right a

-- ---- places

behind_by_one : (b : Bool) (taken : ℕ) → taken ≤ byte_by b taken + 1
behind_by_one true taken = omega arith
behind_by_one false taken = omega arith

pub falls_in : (bytes : List ℕ) (s : Stop) → s.left ≤ s.before → s.before ≤ length bytes → StopsIn (InCertificate bytes) s → (width : ℕ) × FallsIn (length bytes) s width
falls_in bytes s order few p =
    let taken : ℕ = s.before - s.left in
    let byte : ℕ = fault_byte s.fault taken in
    let within : byte < width_of (layout s.block) =
    falls_within (read_block s.block) p.rest s.fault taken (width_of (layout s.block)) (some_width s.block) (block_decides s.block p.rest (in_certificate_right p.stands)) p.stops in
    let found = lookup_contains (layout s.block) [] (field.Magic, 0) 0 (layout s.block) byte refl refl (omega arith) (omega arith) in
    let to : byte < (field_at s.block byte).1 + found.0 = found.1.to in
    let one : taken ≤ byte + 1 = behind_by_one (is_missing s.fault) taken in
    (found.0, record { contains = found.1; ends = omega arith })
