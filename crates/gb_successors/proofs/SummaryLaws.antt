-- What the states behind an instruction say of the whole program holds there.
use Rattle.std.proofs.Common.{◌≡◌, ℕ, ◌+◌, ◌==◌, ◌≤◌, ◌<◌, Bool, true, false, cond, nat_lt, ◌⊎◌, inl, inr, List, [], ◌∷◌, map, length, Option, Some, None, refl, sym, ◌∙◌, ap, subst}
use Rattle.gb_ops.specs.declared.machine.Banks.{Banks}
use Rattle.gb_ops.specs.declared.machine.Kind.{Kind}
use Rattle.gb_ops.specs.declared.machine.Kind.TheVariants as kind
use Rattle.gb_ops.specs.declared.machine.Region.{Region}
use Rattle.gb_ops.specs.declared.op.Op.{Op}
use Rattle.gb_ops.specs.declared.registers.Processor.{Processor}
use Rattle.gb_ops.specs.declared.registers.Registers.{Registers}
use Rattle.gb_ops.specs.Cartridge.{kind_of}
use Rattle.gb_ops.specs.Machine.{advanced}
use Rattle.gb_ops.specs.Memory.{View, Storage, passed}
use Rattle.gb_domain.specs.declared.pairs.Bounds.{Bounds}
use Rattle.gb_domain.specs.declared.rules.Rules.{Rules}
use Rattle.gb_domain.specs.declared.rules.Rules.TheVariants.{Simple, Extended}
use Rattle.gb_domain.specs.declared.setting.Setting.{Setting}
use Rattle.gb_domain.specs.declared.summary.Shadows.{Shadows}
use Rattle.gb_domain.specs.declared.types.Cell.{Cell}
use Rattle.gb_domain.specs.declared.types.Val.{Val}
use Rattle.gb_domain.specs.Areas.{meets}
use Rattle.gb_domain.specs.Limits.{cell_room, item_room}
use Rattle.gb_domain.specs.Summaries.{SummaryParts, Program}
use Rattle.gb_domain.specs.Types.{AbsState}
use Rattle.gb_domain.specs.Values.{interval_of}
use Rattle.gb_product.specs.Below.gb_copies.declared.windows.BankWindow.{BankWindow}
use Rattle.gb_product.specs.Below.gb_copies.declared.windows.BankWindow.TheVariants.{First, Second}
use Rattle.gb_product.specs.Below.gb_copies.ShadowMeaning.{AreShadows}
use Rattle.gb_product.specs.Below.gb_summaries.Below.gb_ram_bounds.Cells.{cell_at, is_there, has_cell}
use Rattle.gb_product.specs.Below.gb_summaries.Below.gb_ram_bounds.Meaning.{HasCellsOf}
use Rattle.gb_product.specs.Below.gb_summaries.declared.instruction.InstructionStore.{InstructionStore}
use Rattle.gb_product.specs.Below.gb_summaries.Elsewhere.{IsFree, IsLeft}
use Rattle.gb_product.specs.Below.gb_summaries.Instruction.{summary_after, Begins, Stores, IsSoundInstruction}
use Rattle.gb_product.specs.Below.gb_summaries.Meaning.{HoldSummary, IsAside}
use Rattle.gb_product.proofs.Below.gb_summaries_laws.ElsewhereLaws.{stays_elsewhere}
use Rattle.gb_product.proofs.Below.gb_summaries_laws.InstructionLaws.{summary_after_sound}
use Rattle.gb_product.specs.Below.gb_abs.declared.span.Span.{Span}
use Rattle.gb_product.specs.Below.gb_abs.Bytes.{without_newest, with_any_bytes, resized}
use Rattle.gb_product.specs.Below.gb_abs.Cells.{with_cell, widened, widened_at, widened_cells}
use Rattle.gb_product.specs.Below.gb_abs.Located.{sp_bounds}
use Rattle.gb_product.specs.Below.gb_abs.Origins.{cell_without_origin}
use Rattle.gb_product.specs.Below.gb_abs.Span.{is_one, one, counts}
use Rattle.gb_product.specs.Below.gb_abs.Stack.{pushed}
use Rattle.gb_product.specs.Below.gb_abs.Storage.{peek}
use Rattle.gb_product.proofs.Below.gb_abs_laws.LocatedLaws.{bounds_sound}
use Rattle.gb_product.specs.Below.gb_abs_effects.declared.writes.AbsWrite.{AbsWrite}
use Rattle.gb_product.specs.Below.gb_abs_effects.declared.writes.AbsWrite.TheVariants as write
use Rattle.gb_product.proofs.Below.gb_relations_laws.AddressLaws.{free-ram}
use Rattle.gb_product.specs.Below.gb_relations.Transfer.{values_of}
use Rattle.gb_product.proofs.SummaryLaws.{has_cells_with_cell, HoldSummary-same}
use Rattle.gb_abs_memory.specs.Access.{area_of, stored_in, one_stored, several_stored, cells_stored, ram_stored, stored_state}
use Rattle.gb_abs_memory.specs.declared.store.Area.{Area}
use Rattle.gb_abs_memory.specs.declared.store.Area.TheVariants as area
use Rattle.gb_abs_memory.specs.Sound.{view}
use Rattle.gb_product.specs.Below.gb_relations.Sound.{IsBytePlaced}
use Rattle.gb_domain.specs.declared.places.OneByte.{OneByte}
use Rattle.gb_product.specs.Below.gb_relations.Items.{places_outside}
use Rattle.gb_product.proofs.Below.gb_relations_laws.ItemLaws.{places_outside_part}
use Rattle.gb_product.specs.Held.{stack_held}
use Rattle.gb_product.proofs.HeldLaws.{outside_free}
use Rattle.gb_product.specs.declared.parts.Product.{Product}
use Rattle.gb_product.specs.Meaning.{beside}
use Rattle.gb_successors.specs.declared.stacks.Stack.{Stack}
use Rattle.gb_successors.specs.declared.stacks.StackMove.{StackMove}
use Rattle.gb_successors.specs.declared.stacks.StackMove.TheVariants as move
use Rattle.gb_successors.specs.Behind.{behind, written, with_cell_if, moved_state}
use Rattle.gb_successors.specs.Refused.{is_unstorable}
use Rattle.gb_successors.specs.Stacks.{pushed_if_room, appended_if_room, set_if_room, begun_anew, with_aside as stack_aside, with_stack_moved}
use Rattle.gb_successors.specs.Successors.{taken_parts, summary_behind}
use Rattle.gb_successors.specs.Summaries.{aside_behind, with_aside, stored_by, summary_by}
use Rattle.gb_successors.proofs.MovedLaws.{moved_summary}
use Rattle.gb_successors.proofs.LandingLaws.{state_is, Leaves, LoadsAt, given_by, part_write, is_write_at, stored_at}
use Rattle.gb_successors.proofs.LedLaws.{DoneAt, IsAllowedAt}
use Rattle.gb_successors.proofs.RamLaws.{ram_at, ram_is, HoldRelations-ram}
use Rattle.gb_successors.proofs.SettledLaws.{HoldSummary-begun}
use Rattle.gb_successors.proofs.SituationLaws.{values_hold, bytes_begun, follows, sp_within}
use Rattle.gb_successors.proofs.Situations.{Situation, effect_at, move_at, parts_at, begun_at, given_at, acted_at, left_at, IsTakenIn, held_at}
use Rattle.gb_successors.proofs.StoredLaws.{banks_seen, stored_banks, stores_told}
use Rattle.gb_successors.proofs.SuccessorLaws.{begun_sp, passed_peek}

-- ---- cells stay

has_cells_same : (cells : List Cell) → HasCellsOf cells cells
has_cells_same cells = record { gives = λ a h. h }

has_cells_then : (before middle after : List Cell) → HasCellsOf before middle → HasCellsOf middle after → HasCellsOf before after
has_cells_then before middle after h g = record { gives = λ a none. h.gives a (g.gives a none) }

has_cell_mapped : (f : Cell → Cell) → ((c : Cell) → (f c).address ≡ c.address) → (cells : List Cell) (a : ℕ) → has_cell (map f cells) a ≡ has_cell cells a
unfolding has_cell
has_cell_mapped f same [] a = refl
has_cell_mapped f same (c ∷ cells) a =
    ap (λ n. is_there (cond (n == a) (Some (interval_of (f c).val)) (cell_at (map f cells) a))) (same c)
    ∙ by (c.address == a) (has_cell_mapped f same cells a)
  where
    by : (b : Bool) → is_there (cell_at (map f cells) a) ≡ is_there (cell_at cells a)
        → is_there (cond b (Some (interval_of (f c).val)) (cell_at (map f cells) a)) ≡ is_there (cond b (Some (interval_of c.val)) (cell_at cells a))
    by true rest = refl
    by false rest = rest

has_cells_mapped : (f : Cell → Cell) → ((c : Cell) → (f c).address ≡ c.address) → (cells : List Cell) → HasCellsOf cells (map f cells)
has_cells_mapped f same cells = record { gives = λ a h. sym (has_cell_mapped f same cells a) ∙ h }

has_cells_either : (b : Bool) (cells s t : List Cell) → HasCellsOf cells s → HasCellsOf cells t → HasCellsOf cells (cond b s t)
has_cells_either true cells s t h g = h
has_cells_either false cells s t h g = g

same_widened : (whole : Bool) (span : Span) (v : Val) (c : Cell) → (widened_at whole span v c).address ≡ c.address
same_widened whole span v c = by (counts span c.address)
  where
    by : (b : Bool) → (cond b (record { address = c.address; val = widened whole c.val v }) c).address ≡ c.address
    by true = refl
    by false = refl

stacked_cells : (z : Setting) (m : StackMove) (s : AbsState) → HasCellsOf s.cells (with_stack_moved z m s).cells
unfolding with_stack_moved pushed_if_room appended_if_room set_if_room pushed with_any_bytes without_newest resized
stacked_cells z m s = by m
  where
    either : (b : Bool) (t u : AbsState) → HasCellsOf s.cells t.cells → HasCellsOf s.cells u.cells → HasCellsOf s.cells (cond b t u).cells
    either true t u h g = h
    either false t u h g = g

    by : (n : StackMove) → HasCellsOf s.cells (with_stack_moved z n s).cells
    by move.Stay = has_cells_same s.cells
    by (move.Push w) = either (nat_lt (item_room z.rules) (length s.items + 2)) s (pushed w s) (has_cells_same s.cells) (has_cells_same s.cells)
    by (move.Take n) = has_cells_same s.cells
    by (move.Append n) = either (nat_lt (item_room z.rules) (length s.items + n)) s (with_any_bytes n s) (has_cells_same s.cells) (has_cells_same s.cells)
    by (move.Set n) = either (nat_lt (item_room z.rules) n) (stack_aside None s) (resized n (stack_aside None s)) (has_cells_same s.cells) (has_cells_same s.cells)
    by (move.Aside b) = has_cells_same s.cells
    by (move.Restart n) =
        either (nat_lt (item_room z.rules) n) (begun_anew (stack_aside None s)) (resized n (begun_anew (stack_aside None s)))
        (has_cells_mapped cell_without_origin (λ c. refl) s.cells) (has_cells_mapped cell_without_origin (λ c. refl) s.cells)
    by move.Lost = has_cells_same s.cells

-- by the rules of version 3 no store drops a cell
one_cells : (region : Region) (span : Span) (v : Val) (cells : List Cell) → HasCellsOf cells (one_stored Extended region span v cells)
one_cells region span v cells =
    has_cells_either (meets region span.first span.last) cells cells (with_cell (cell_room Extended) (record { address = span.first; val = v }) cells) (has_cells_same cells)
    (has_cells_with_cell (cell_room Extended) (record { address = span.first; val = v }) cells)

several_cells : (whole : Bool) (span : Span) (v : Val) (cells : List Cell) → HasCellsOf cells (several_stored whole Extended span v cells)
unfolding widened_cells
several_cells whole span v cells = has_cells_mapped (widened_at whole span v) (same_widened whole span v) cells

cells_kept : (whole : Bool) (rules : Rules) (region : Region) (span : Span) (v : Val) (cells : List Cell) → rules ≡ Extended → HasCellsOf cells (cells_stored whole rules region span v cells)
cells_kept whole rules region span v cells e =
    subst (λ r. HasCellsOf cells (cells_stored whole r region span v cells)) (sym e)
    (has_cells_either (is_one span) cells (one_stored Extended region span v cells) (several_stored whole Extended span v cells) (one_cells region span v cells) (several_cells whole span v cells))

stored_cells : (z : Setting) (region : Region) (k : Kind) (span : Span) (v : Val) (s : AbsState) → z.rules ≡ Extended → HasCellsOf s.cells (stored_state z region k span v s).cells
unfolding stored_state ram_stored
stored_cells z region k span v s e = by (area_of k span)
  where
    by : (a : Option Area) → HasCellsOf s.cells (stored_in z region a k span v s).cells
    by (Some (area.Controller (Some r))) = has_cells_same s.cells
    by (Some area.Ram) = cells_kept z.is_whole z.rules region span v s.cells e
    by (Some area.InterruptEnable) = has_cells_same s.cells
    by (Some _) = has_cells_same s.cells
    by None = has_cells_same s.cells

written_cells : (z : Setting) (region : Region) (k : Kind) (w : AbsWrite) (s : AbsState) → z.rules ≡ Extended → HasCellsOf s.cells (written z region k w s).cells
unfolding written
written_cells z region k (write.Byte span v) s e = stored_cells z region k span v s e
written_cells z region k (write.Word a low high) s e =
    has_cells_then s.cells (stored_state z region k (one a) low s).cells _ (stored_cells z region k (one a) low s e)
    (stored_cells z region k (one (behind a)) high (stored_state z region k (one a) low s) e)
written_cells z region k _ s e = has_cells_same s.cells

pub cells_behind : (c : Situation) → IsTakenIn c → HasCellsOf c.state.cells (parts_at c).state.cells
unfolding taken_parts moved_state with_cell_if
cells_behind c k =
    has_cells_then c.state.cells _ _ (stacked_cells c.stack.setting _ c.state)
    (written_cells c.stack.setting c.stack.region (kind_of c.rom) (effect_at c).write _ k.extended)

-- ---- another machine of which the same is said

-- time passes
pub HoldSummary-passed :
    (program : Program) (cells : List Cell) (s : SummaryParts) (p : Processor) (m : View) (n : ℕ)
    → HoldSummary program cells s p (peek m.storage) m.storage.banks → HoldSummary program cells s p (peek (passed m n).storage) (passed m n).storage.banks
unfolding passed
HoldSummary-passed program cells s p m n h =
    HoldSummary-same program cells s p p (peek m.storage) _ m.storage.banks _ refl refl refl refl (λ b. passed_peek m n b) h

-- SP is put aside, or isn't
HoldSummary-aside :
    (program : Program) (cells : List Cell) (s : SummaryParts) (o : Option Bounds) (p : Processor) (memory : ℕ → ℕ) (banks : Banks)
    → IsAside o p → HoldSummary program cells s p memory banks → HoldSummary program cells (with_aside o s) p memory banks
HoldSummary-aside program cells s o p memory banks a h = record { facts = h.facts; fills = h.fills; first = h.first; second = h.second; aside = a }

apart_aside : (region : Region) (o : Option Bounds) (s : SummaryParts) → IsFree region s → IsFree region (with_aside o s)
apart_aside region o s h = record { fills = h.fills; first = h.first; second = h.second }

-- what is said behind an instruction lies where what is said may lie
pub apart_by :
    (r : Rules) (k : Stack) (program : Program) (o : Op) (s : AbsState) (p : Product) (m : StackMove) (what : AbsWrite) (cells : List Cell)
    → IsBytePlaced (stack_held k.setting k.region (length s.items)) p.relations.byte.address → IsFree k.region s.summary
    → IsFree k.region (summary_by r k program o s p m what cells)
unfolding summary_by
apart_by Simple k program o s p m what cells place apart = record { fills = tt; first = tt; second = tt }
apart_by Extended k program o s p m what cells place apart =
    apart_aside k.region (aside_behind m s.summary.aside) _
    ((summary_after_sound program k.region cells o (sp_bounds k.setting s) (values_of p.core.registers p.relations.pairs) (places_outside k.region p.relations.byte) (stored_by o p.core.registers what) (with_aside None s.summary) _ refl).free
    (outside_free k.setting k.region (length s.items) p.relations.byte place) (apart_aside k.region None s.summary apart))

-- of no controller nothing is said
shadows_unseen : (which : BankWindow) (s : Shadows) (x : Registers ℕ) (memory : ℕ → ℕ) (before after : Banks) → AreShadows kind.Rom which s x memory before → AreShadows kind.Rom which s x memory after
shadows_unseen which s x memory before after h = record { registers = λ q e has. absurd (no_windows has); address = λ a e has. absurd (no_windows has) }
  where
    no_windows : false ≡ true → ⊥
    no_windows e = cc

HoldSummary-unseen :
    (program : Program) (cells : List Cell) (s : SummaryParts) (p : Processor) (memory : ℕ → ℕ) (before after : Banks) → program.kind ≡ kind.Rom
    → HoldSummary program cells s p memory before → HoldSummary program cells s p memory after
HoldSummary-unseen program cells s p memory before after none h =
    record { facts = h.facts; fills = h.fills; first = unseen First s.shadows.first h.first; second = unseen Second s.shadows.second h.second; aside = h.aside }
  where
    unseen : (which : BankWindow) (t : Shadows) → AreShadows program.kind which t p.registers memory before → AreShadows program.kind which t p.registers memory after
    unseen which t g =
        subst (λ k. AreShadows k which t p.registers memory after) (sym none)
        (shadows_unseen which t p.registers memory before after (subst (λ k. AreShadows k which t p.registers memory before) none g))

-- ---- an instruction that is taken

-- what is said behind it
abbrev pub said_at : Situation → SummaryParts
said_at c = summary_behind c.stack c.entry.program c.row.op c.state c.product (move_at c) (parts_at c)

-- the places outside the stack
abbrev byte_outside : Situation → OneByte
byte_outside c = places_outside c.stack.region c.product.relations.byte

-- what it stores
abbrev stored_in_turn : Situation → InstructionStore
stored_in_turn c = stored_by c.row.op c.product.core.registers (effect_at c).write

-- what was said before it, but for where SP is put aside
abbrev said_before : Situation → SummaryParts
said_before c = with_aside None c.state.summary

-- what is said behind it, but for that
abbrev said_inside : Situation → SummaryParts
said_inside c =
    summary_after c.entry.program c.stack.region (parts_at c).state.cells c.row.op (sp_bounds c.stack.setting c.state) (values_of c.product.core.registers c.product.relations.pairs) (byte_outside c)
    (stored_in_turn c) (said_before c)

abbrev said_after : Situation → SummaryParts
said_after c = with_aside (aside_behind (move_at c) c.state.summary.aside) (said_inside c)

said_extended : (r : Rules) (c : Situation) → r ≡ Extended
    → summary_by r c.stack c.entry.program c.row.op c.state c.product (move_at c) (effect_at c).write (parts_at c).state.cells ≡ said_after c
unfolding summary_by
said_extended Extended c e = refl
said_extended Simple c e = absurd (let bad : Simple ≡ Extended = e in cc)

said_is : (c : Situation) → IsTakenIn c → said_at c ≡ said_after c
unfolding summary_behind
said_is c k =
    ap (λ w. summary_by c.stack.setting.rules c.stack c.entry.program c.row.op c.state c.product (move_at c) w (parts_at c).state.cells) (part_write c)
    ∙ said_extended c.stack.setting.rules c k.extended

-- where SP is put aside is what the move leaves
pub said_aside : (c : Situation) → IsTakenIn c → (said_at c).aside ≡ (parts_at c).state.summary.aside
said_aside c k =
    ap (λ (m : SummaryParts). m.aside) (said_is c k)
    ∙ sym (ap (λ (s : AbsState). s.summary.aside) (state_is c)
    ∙ ap (λ (m : SummaryParts). m.aside) (moved_summary c.stack (kind_of c.rom) None (move_at c) (effect_at c).write c.state))

-- memory that is RAM, and all of it
left_ram : (region : Region) (s : Storage) → IsLeft region (peek s) (ram_at s)
left_ram region s b free = ram_is s b (free-ram region b free)

ram_left : (region : Region) (s : Storage) → IsLeft region (ram_at s) (peek s)
ram_left region s b free = sym (ram_is s b (free-ram region b free))

sound_at : (c : Situation)
    → IsSoundInstruction c.entry.program c.stack.region (parts_at c).state.cells c.row.op (sp_bounds c.stack.setting c.state) (values_of c.product.core.registers c.product.relations.pairs) (byte_outside c)
    (stored_in_turn c) (said_before c) (said_inside c)
sound_at c =
    summary_after_sound c.entry.program c.stack.region (parts_at c).state.cells c.row.op (sp_bounds c.stack.setting c.state) (values_of c.product.core.registers c.product.relations.pairs) (byte_outside c)
    (stored_in_turn c) (said_before c) (said_inside c) refl

begins_at :
    (c : Situation) → IsTakenIn c → LoadsAt c
    → Begins c.entry.program c.stack.region c.row.op (sp_bounds c.stack.setting c.state) (values_of c.product.core.registers c.product.relations.pairs) (byte_outside c) (said_before c)
    (advanced c.machine.processor c.row) (ram_at c.machine.storage) (given_at c).low (given_at c).high
begins_at c k l =
    let known = bounds_sound c.stack.setting c.state (sp_bounds c.stack.setting c.state) refl in
    let related =
    HoldRelations-ram (held_at c) c.stack.region c.product.relations _ _ (peek c.machine.storage) (ram_at c.machine.storage) _ k.place k.pairs (λ b ram. ram_is c.machine.storage b ram) k.related in
    record {
      was = beside c.entry (begun_at c);
      values = values_hold c k;
      bytes = bytes_begun c k;
      sp_first = subst (λ n. (sp_bounds c.stack.setting c.state).first ≤ n) (sym (begun_sp c.row c.machine)) (known.first c.entry c.base c.machine k.stands.based k.stands.means.parts (sp_within c k));
      sp_last = subst (λ n. n ≤ (sp_bounds c.stack.setting c.state).last) (sym (begun_sp c.row c.machine)) (known.last c.entry c.base c.machine k.stands.based k.stands.means.parts (sp_within c k));
      sp_small = subst (λ n. n < 65536) (sym (begun_sp c.row c.machine)) k.stands.means.parts.sp;
      byte = (places_outside_part c.stack.region c.product.relations.byte _ refl).gives _ _ _ related.byte;
      byte_free = outside_free c.stack.setting c.stack.region (length c.state.items) c.product.relations.byte k.place;
      facts = k.stands.program.facts;
      free = apart_aside c.stack.region None c.state.summary k.stands.apart;
      reads = (given_by c k l).reads;
    }

stores_at :
    (c : Situation) → IsTakenIn c → IsAllowedAt c → DoneAt c
    → Stores c.entry.program.kind c.stack.region (stored_in_turn c) (acted_at c).write (ram_at c.machine.storage) (ram_at (stored_at c).storage) c.machine.storage.banks
    (banks_seen c.entry.program.kind (acted_at c).write c.machine.storage.banks)
stores_at c k allowed d =
    stores_told c.entry.program.kind c.stack.setting c.rom c.stack.region c.ranges (length c.state.items) c.row.op c.product.core.registers (effect_at c).write c.entry (begun_at c).processor.sp (advanced c.machine.processor c.row)
    (given_at c).low (given_at c).high (acted_at c).write (ram_at c.machine.storage) (ram_at (stored_at c).storage) c.machine.storage.banks k.stands.program.controller refl
    (follows c (given_at c).low (given_at c).high k (given_by c k d.loads)).write (is_write_at c k)
    (subst (λ w. is_unstorable c.stack.setting (kind_of c.rom) c.stack.region c.ranges w ≡ false) (part_write c) allowed.stores)
    k.means.registers (bytes_begun c k) d.leaves.in_turn

before_at :
    (c : Situation) → IsTakenIn c
    → HoldSummary c.entry.program c.state.cells (said_before c) (advanced c.machine.processor c.row) (ram_at c.machine.storage) c.machine.storage.banks
before_at c k =
    stays_elsewhere c.entry.program c.stack.region c.state.cells (said_before c) (advanced c.machine.processor c.row) (peek c.machine.storage) (ram_at c.machine.storage) c.machine.storage.banks
    k.stands.program.facts (apart_aside c.stack.region None c.state.summary k.stands.apart) (left_ram c.stack.region c.machine.storage)
    (HoldSummary-aside c.entry.program c.state.cells c.state.summary None (advanced c.machine.processor c.row) (peek c.machine.storage) c.machine.storage.banks tt
    (HoldSummary-begun c.entry.program c.state.cells c.state.summary c.row c.machine k.stands.means.summary))

-- as the machine acted, of which RAM alone is seen
acted_summary :
    (c : Situation) → IsTakenIn c → IsAllowedAt c → DoneAt c
    → HoldSummary c.entry.program (parts_at c).state.cells (said_after c) (acted_at c).processor (ram_at (stored_at c).storage) (banks_seen c.entry.program.kind (acted_at c).write c.machine.storage.banks)
acted_summary c k allowed d =
    let before = before_at c k in
    HoldSummary-aside c.entry.program (parts_at c).state.cells (said_inside c) (aside_behind (move_at c) c.state.summary.aside) (acted_at c).processor (ram_at (stored_at c).storage)
    (banks_seen c.entry.program.kind (acted_at c).write c.machine.storage.banks) d.aside
    ((sound_at c).gives c.state.cells (advanced c.machine.processor c.row) (ram_at c.machine.storage) (ram_at (stored_at c).storage) c.machine.storage.banks
    (banks_seen c.entry.program.kind (acted_at c).write c.machine.storage.banks) (given_at c).low (given_at c).high (cells_behind c k) (begins_at c k d.loads) (stores_at c k allowed d) tt before)

-- with the machine's own registers of the controller
left_banks :
    (c : Situation) (q : Kind) → IsTakenIn c → Leaves c → q ≡ kind_of c.rom → banks_seen q (acted_at c).write c.machine.storage.banks ≡ (stored_at c).storage.banks
left_banks c q k left same =
    ap (λ r. banks_seen r (acted_at c).write c.machine.storage.banks) same
    ∙ sym (stored_banks c.stack.region (view c.rom c.machine false) (acted_at c).write k.stands.is_region left.store)

left_summary :
    (c : Situation) → IsTakenIn c → IsAllowedAt c → DoneAt c
    → HoldSummary c.entry.program (parts_at c).state.cells (said_after c) (acted_at c).processor (ram_at (stored_at c).storage) (stored_at c).storage.banks
left_summary c k allowed d = by k.stands.program.controller (acted_summary c k allowed d)
  where
    by :
        (c.entry.program.kind ≡ kind.Rom) ⊎ (c.entry.program.kind ≡ kind_of c.rom)
        → HoldSummary c.entry.program (parts_at c).state.cells (said_after c) (acted_at c).processor (ram_at (stored_at c).storage) (banks_seen c.entry.program.kind (acted_at c).write c.machine.storage.banks)
        → HoldSummary c.entry.program (parts_at c).state.cells (said_after c) (acted_at c).processor (ram_at (stored_at c).storage) (stored_at c).storage.banks
    by (inl none) h = HoldSummary-unseen c.entry.program (parts_at c).state.cells (said_after c) (acted_at c).processor (ram_at (stored_at c).storage) _ (stored_at c).storage.banks none h
    by (inr same) h =
        subst (λ r. HoldSummary c.entry.program (parts_at c).state.cells (said_after c) (acted_at c).processor (ram_at (stored_at c).storage) r) (left_banks c c.entry.program.kind k d.leaves same) h

-- what lies where what is said may lie
pub apart_at : (c : Situation) → IsTakenIn c → IsFree c.stack.region (said_at c)
apart_at c k =
    subst (IsFree c.stack.region) (sym (said_is c k))
    (apart_aside c.stack.region (aside_behind (move_at c) c.state.summary.aside) (said_inside c) ((sound_at c).free (outside_free c.stack.setting c.stack.region (length c.state.items) c.product.relations.byte k.place) (apart_aside c.stack.region None c.state.summary k.stands.apart)))

peek_left : (c : Situation) (region : Region) → IsLeft region (ram_at (stored_at c).storage) (peek (left_at c).storage)
peek_left c region b free = passed_peek (stored_at c) c.row.cycles b ∙ ram_left region (stored_at c).storage b free

passed_banks : (m : View) (n : ℕ) → (passed m n).storage.banks ≡ m.storage.banks
unfolding passed
passed_banks m n = refl

pub said_holds :
    (c : Situation) → IsTakenIn c → IsAllowedAt c → DoneAt c
    → HoldSummary c.entry.program (parts_at c).state.cells (said_at c) (left_at c).processor (peek (left_at c).storage) (left_at c).storage.banks
said_holds c k allowed d =
    subst (λ r. HoldSummary c.entry.program (parts_at c).state.cells (said_at c) (left_at c).processor (peek (left_at c).storage) r) (sym (passed_banks (stored_at c) c.row.cycles))
    (stays_elsewhere c.entry.program c.stack.region (parts_at c).state.cells (said_at c) (acted_at c).processor (ram_at (stored_at c).storage) (peek (left_at c).storage) (stored_at c).storage.banks
    k.stands.program.facts (apart_at c k) (peek_left c c.stack.region)
    (subst (λ m. HoldSummary c.entry.program (parts_at c).state.cells m (acted_at c).processor (ram_at (stored_at c).storage) (stored_at c).storage.banks) (sym (said_is c k)) (left_summary c k allowed d)))
