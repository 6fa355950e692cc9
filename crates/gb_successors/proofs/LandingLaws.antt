-- Where nothing refuses what an instruction reads and writes, and its stack is ready, the machine stands behind it, without a
-- fault, in a state that its successor stands for: by the rules of version 3.
use Rattle.std.proofs.Common.{◌≡◌, ℕ, ◌+◌, ◌-◌, ◌%◌, ◌≤◌, Bool, true, false, not, ◌&&◌, ◌||◌, cond, inl, inr, nat_le, nat_lt, List, [], ◌∷◌, ◌++◌, length, Option, Some, None, refl, sym, ◌∙◌, ap, subst, arith, length-append}
use Rattle.gb_ops.specs.declared.machine.Region.{Region}
use Rattle.gb_ops.specs.declared.machine.Write.TheVariants as machine_write
use Rattle.gb_ops.specs.Cartridge.{kind_of}
use Rattle.gb_ops.specs.Memory.{View, Storage, stored, passed}
use Rattle.gb_ops.specs.Effects as Effects
use Rattle.gb_ops.specs.Effects.{with_sp}
use Rattle.gb_ops.specs.Machine.{advanced}
use Rattle.gb_ops.specs.Faults.{no_faults, store_faults, row_faults}
use Rattle.gb_ops.specs.Play.{MState, within}
use Rattle.gb_domain.specs.declared.setting.Setting.{Setting}
use Rattle.std.proofs.lemmas.Bool.{and_parts}
use Rattle.std.proofs.lemmas.Bool.Decides.{nat_tests}
use Rattle.gb_domain.specs.Areas.{are_in_ram, meets, is_item, is_place_at, is_free_byte}
use Rattle.gb_domain.specs.Settings.{IsBase}
use Rattle.gb_product.specs.Held.{stack_held}
use Rattle.gb_product.proofs.HeldLaws.{IsAmongItems, item_among}
use Rattle.gb_domain.specs.declared.types.Val.{Val}
use Rattle.gb_domain.specs.declared.types.Core.{Core}
use Rattle.gb_domain.specs.declared.types.Halves.{Halves}
use Rattle.gb_domain.specs.Limits.{item_room}
use Rattle.gb_domain.specs.Types.{AbsState}
use Rattle.gb_product.specs.Below.gb_abs.Storage.{peek}
use Rattle.gb_product.specs.Below.gb_abs.Meaning.{Activation, MeansCore, MeansParts}
use Rattle.gb_product.specs.Below.gb_abs.Operations.{with_core}
use Rattle.gb_product.specs.Below.gb_abs.Stack.{AreInRegion, pushed, youngest}
use Rattle.gb_product.proofs.Below.gb_abs_laws.StackLaws.{IsRegionOpen-bound, MeansParts-pushed, MeansParts-with_core}
use Rattle.gb_product.specs.Below.gb_abs_effects.declared.writes.AbsWrite.{AbsWrite}
use Rattle.gb_product.specs.Below.gb_abs_effects.declared.writes.AbsWrite.TheVariants as write
use Rattle.gb_product.specs.Below.gb_abs_effects.Sound.{HoldsWrite, IsWrite}
use Rattle.gb_product.specs.Below.gb_abs_effects.Targets.{moves_sp}
use Rattle.gb_product.proofs.Below.gb_abs_effects_laws.TargetLaws.{sp-kept, sp-pushed}
use Rattle.gb_abs_memory.specs.Kept.{IsKept}
use Rattle.gb_abs_memory.specs.Sound.{view}
use Rattle.gb_product.specs.Below.gb_relations.Sound as relations
use Rattle.gb_product.specs.Below.gb_relations.Transfer.{values_of}
use Rattle.gb_product.specs.Meaning.{AreRelated}
use Rattle.gb_successors.specs.declared.stacks.StackMove.{StackMove}
use Rattle.gb_successors.specs.declared.stacks.StackMove.TheVariants as move
use Rattle.gb_successors.specs.Behind.{written, starts, ended, with_cell_if, moved_state, written_core, core_behind}
use Rattle.gb_successors.specs.Refused.{reads_closed_ram, writes_closed_ram, is_read_limited, is_write_limited, is_stack_limited, is_unstorable}
use Rattle.gb_successors.specs.Sound.{HasRoomFor, bytes_moved}
use Rattle.gb_successors.specs.Stacks.{with_stack_moved, moved_core}
use Rattle.gb_successors.specs.Successors.{taken_move, taken_parts, relations_behind}
use Rattle.gb_successors.proofs.AroundLaws.{located-same}
use Rattle.gb_successors.proofs.AccessLaws.{WritesInTurn, Loads, Loads-read, Stores, Stores-write, IsSameGate, AtWrite, closed_same, limited_same, writes_same, write_limited_same, clear_stack}
use Rattle.gb_successors.proofs.LoadedLaws.{Reads-loaded, Loads-by}
use Rattle.gb_successors.proofs.MovedLaws.{written_by}
use Rattle.gb_successors.proofs.PlainLaws.{Keeps, Keeps-both, Keeps-transfer, IsPlainRead, IsPlainWrite}
use Rattle.gb_successors.proofs.RamLaws.{ram_at, ram_same, ram_is, differs, HoldRelations-ram}
use Rattle.gb_successors.proofs.SuccessorLaws.{begun_sp, faults_are, MeansParts-ended, passed_peek}
use Rattle.gb_successors.proofs.StackWayLaws.{push_of, small_word, not_pushed, same_but_sp, nothing_stored, no_store_faults}
use Rattle.gb_successors.proofs.WordLaws.{pushed-if_room}
use Rattle.gb_successors.proofs.Situations.{Situation, next_at, pointer_at, read_at, bits_at, known_at, word_at, transferred, effect_at, carry_at, move_at, parts_at, begun_at, given_at, acted_at, left_at, held_at, IsTakenIn, means_begun, related_at}
use Rattle.gb_successors.proofs.SituationLaws.{AreGiven, values_hold, said_begun, follows, related_behind, read_holds, read_has, read_placed, transferred_is, write_is, core_is, IsWrite-cut, sp_below}
use Rattle.gb_successors.specs.Refined.{with_carry}
use Rattle.gb_successors.proofs.RelatedLaws.{has_operands}
use Rattle.gb_product.proofs.Below.gb_relations_laws.TransferLaws.{relations_after_sound, relations_after_kept}
use Rattle.gb_product.specs.Below.gb_abs.Located.{sp_bounds}
use Rattle.gb_domain.specs.declared.pairs.WordPair.TheVariants as pairs
use Rattle.gb_domain.specs.Pairs.{ArePairs}
use Rattle.gb_successors.specs.StackMark.{marked_core}
use Rattle.gb_successors.proofs.StackMarkLaws.{IsWrite-marked}
use Rattle.gb_successors.proofs.Situations.{marks_at}
use Rattle.gb_ops.specs.declared.op.Op.{Op}
use Rattle.gb_ops.specs.declared.op.Op.TheVariants as op

-- ---- what its reads give

abbrev pub LoadsAt : Situation → Type 0
LoadsAt c = Loads (word_at c) c.entry (view c.rom c.machine false) (Effects.read_of c.row.op (advanced c.machine.processor c.row)) c.reads

pub given_by : (c : Situation) → IsTakenIn c → LoadsAt c → AreGiven c (given_at c).low (given_at c).high
given_by c k l = record {
  low = l.low;
  high = l.high;
  reads = Reads-loaded (view c.rom c.machine false) (Effects.read_of c.row.op (advanced c.machine.processor c.row)) c.reads l.faults;
  taken = k.taken;
}

pub few_words : (s : AbsState) (core : Core) → nat_lt (length s.items) 2 ≡ true → youngest (with_core s core) ≡ None
unfolding youngest
few_words s core h = rw h refl

-- a word is held
pub set_by_items : (b : Bool) (items : List Val) → 2 ≤ length items → (b ≡ false → items ≡ []) → b ≡ true
set_by_items true items some unset = refl
set_by_items false items some unset =
    let none : length items ≡ 0 = ap length (unset refl) in
    absurd (omega arith)

-- what isn't the word on top of the stack
pub loads_plainly :
    (c : Situation) → IsTakenIn c → IsPlainRead (read_at c) → reads_closed_ram c.rom c.state.core (read_at c) ≡ false → is_read_limited c.stack.region c.state.core (read_at c) ≡ false → LoadsAt c
loads_plainly c k plain ram limited =
    Loads-by c.stack.setting.rules c.stack.setting c.stack.region c.rom (with_core c.state c.product.core) (values_of c.product.core.registers c.product.relations.pairs) (bits_at c) c.entry c.base
    (begun_at c) (begun_at c).processor.sp (read_at c) _ c.reads k.stands.cartridge (means_begun c k) (said_begun c k) (values_hold c k) k.core.ie k.byte plain (read_placed c k) (read_holds c k) (read_has c k)
    (Loads-read c.stack.setting c.rom c.stack.region (with_core c.state c.product.core) c.entry c.base (begun_at c) c.reads (begun_at c).processor.sp (read_at c) _
    k.stands.cartridge k.stands.based (means_begun c k) k.core.ie k.byte plain (read_holds c k)
    (closed_same c.rom c.state.core c.product.core (read_at c) k.keeps ∙ ram)
    (limited_same c.stack.region c.state.core c.product.core (read_at c) k.keeps ∙ limited))

-- ---- the parts of the successor

-- the states behind it, by its move, what it writes and its core
abbrev pub state_by : Situation → StackMove → AbsWrite → Core → AbsState
state_by c m w core = with_core (moved_state c.stack (kind_of c.rom) None m w c.state) (core_behind c.stack.setting.is_whole (kind_of c.rom) m c.row.cycles w core)

pub state_is : (c : Situation) → (parts_at c).state ≡ state_by c (move_at c) (effect_at c).write (effect_at c).core
unfolding taken_parts taken_move
state_is c = refl

pub part_read : (c : Situation) → (parts_at c).read ≡ read_at c
unfolding taken_parts
part_read c = refl

pub part_write : (c : Situation) → (parts_at c).write ≡ (effect_at c).write
unfolding taken_parts
part_write c = refl

pub part_next : (c : Situation) → (parts_at c).next ≡ next_at c
unfolding taken_parts
part_next c = refl

-- where items or cells move by the stack alone
abbrev pub moved_at : Situation → StackMove → Core → AbsState
moved_at c m core = with_core (with_stack_moved c.stack.setting m c.state) (moved_core m core)

pub quiet_state : (c : Situation) (m : StackMove) (core : Core) → state_by c m write.Nothing core ≡ ended false c.row.cycles (moved_at c m core)
unfolding moved_state core_behind with_cell_if written written_core starts ended
quiet_state c m core = refl

push_state : (c : Situation) (m : StackMove) (high low : Val) (core : Core) → state_by c m (write.Push high low) core ≡ ended false c.row.cycles (moved_at c m core)
unfolding moved_state core_behind with_cell_if written written_core starts ended
push_state c m high low core = refl

still_state : (c : Situation) (w : AbsWrite) (core : Core) → core.stack_set ≡ c.state.core.stack_set
    → state_by c move.Stay w core ≡ ended (starts w) c.row.cycles (written c.stack.setting c.stack.region (kind_of c.rom) w (with_core c.state core))
unfolding moved_state core_behind with_cell_if with_stack_moved moved_core ended
still_state c w core set = sym (ap (ended (starts w) c.row.cycles) (written_by c.stack.setting c.stack.region (kind_of c.rom) w c.state core (inr set)))

-- ---- its core

Keeps-carry : (carry : Option Bool) (s c : Core) → Keeps s c → Keeps s (with_carry carry c)
Keeps-carry None s c h = h
Keeps-carry (Some b) s c h = record { ctl = h.ctl; bound = h.bound; ie = h.ie; stack = h.stack }

Keeps-marked : (o : Op) (b : Bool) (s c : Core) → Keeps s c → Keeps s (marked_core o b c)
Keeps-marked (op.StoreSp w) b s c h = h
Keeps-marked o false s c h = h
Keeps-marked o true s c h = record { ctl = h.ctl; bound = h.bound; ie = h.ie; stack = h.stack }

pub keeps_effect : (c : Situation) → IsTakenIn c → Keeps c.state.core (effect_at c).core
keeps_effect c k =
    subst (λ d. Keeps c.state.core d) (sym (core_is c))
    (Keeps-marked c.row.op (marks_at c) c.state.core _
    (Keeps-carry (carry_at c) c.state.core (transferred c).core
    (Keeps-both c.state.core c.product.core _ k.keeps (Keeps-transfer c.stack.setting.is_whole c.row.op (next_at c) _ c.product.core (word_at c).low (word_at c).high))))

pub is_write_at : (c : Situation) → IsTakenIn c → IsWrite (effect_at c).write
is_write_at c k = subst IsWrite (sym (write_is c)) (IsWrite-marked _ (marks_at c) (IsWrite-cut (pointer_at c) (known_at c) (transferred c).write (transferred_is c k).write))

-- ---- the machine behind it

-- it stands in the same procedure, in a state that is meant
pub record Landed (c : Situation) : Type 0 where
  pub means : MeansParts (parts_at c).state c.entry c.base (left_at c)
  pub room : AreInRegion c.stack.region c.base (length (parts_at c).state.items)
  pub bytes : length (parts_at c).state.items ≡ bytes_moved (move_at c) (length c.state.items)

-- memory behind its writes
abbrev pub stored_at : Situation → View
stored_at c = stored (view c.rom c.machine false) (acted_at c).write

-- whatever its state
pub record Leaves (c : Situation) : Type 0 where
  pub kept : (b : ℕ) → IsKept c.stack.setting c.stack.region c.ranges c.base b → peek (left_at c).storage b ≡ peek c.machine.storage b
  pub faults : row_faults (Some c.row) c.stack.region (within c.rom c.machine) c.reads ≡ no_faults
  pub related : AreRelated (related_at c) c.entry (left_at c)
  pub store : store_faults c.stack.region (view c.rom c.machine false) (acted_at c).write ≡ no_faults
  pub in_turn : WritesInTurn (held_at c) (acted_at c).write (ram_at c.machine.storage) (ram_at (stored_at c).storage)

place_behind : (c : Situation) → IsTakenIn c → relations.IsBytePlaced (held_at c) (related_at c).byte.address
unfolding relations_behind
place_behind c k =
    (relations_after_sound c.stack.setting.rules c.stack.setting.is_whole (held_at c) c.row.op (sp_bounds c.stack.setting c.state) c.product.core.registers (word_at c).low c.product.relations _ refl
    (has_operands c.row.op k.operands) (sp_below c k) (k.pairs.each pairs.Bc).last (k.pairs.each pairs.De).last (k.pairs.each pairs.Hl).last).placed k.place

pub pairs_behind : (c : Situation) → IsTakenIn c → ArePairs (is_free_byte c.stack.region) (related_at c).pairs
unfolding relations_behind
pairs_behind c k =
    relations_after_kept (is_free_byte c.stack.region) c.stack.setting.rules c.stack.setting.is_whole (held_at c) c.row.op _ c.product.core.registers (word_at c).low c.product.relations _ refl k.pairs

related_left : (c : Situation) → IsTakenIn c → LoadsAt c → relations.Writes (held_at c) (acted_at c).write (ram_at c.machine.storage) (ram_at (stored_at c).storage)
    → AreRelated (related_at c) c.entry (left_at c)
related_left c k l w =
    HoldRelations-ram (held_at c) c.stack.region _ _ _ (ram_at (stored_at c).storage) (peek (left_at c).storage) _ (place_behind c k) (pairs_behind c k)
    (λ b ram. passed_peek (stored_at c) c.row.cycles b ∙ sym (ram_is (stored_at c).storage b ram))
    (related_behind c (given_at c).low (given_at c).high (ram_at (stored_at c).storage) k (given_by c k l) w)

-- ---- nothing is written

pub Leaves-quiet : (c : Situation) → IsTakenIn c → LoadsAt c → (acted_at c).write ≡ machine_write.Nothing → Leaves c
Leaves-quiet c k l quiet =
    let none : stored_at c ≡ view c.rom c.machine false = nothing_stored (view c.rom c.machine false) (acted_at c).write quiet in
    record {
      kept = λ b kept. passed_peek (stored_at c) c.row.cycles b ∙ ap (λ (m : View). peek m.storage b) none;
      faults = faults_are c.rom c.stack.region c.machine c.row c.reads l.faults (no_store_faults c.stack.region (view c.rom c.machine false) (acted_at c).write quiet);
      related = related_left c k l
          (subst (λ w. relations.Writes (held_at c) w (ram_at c.machine.storage) (ram_at (stored (view c.rom c.machine false) w).storage)) (sym quiet) (nothing_changed c));
      store = no_store_faults c.stack.region (view c.rom c.machine false) (acted_at c).write quiet;
      in_turn = subst (λ w. WritesInTurn (held_at c) w (ram_at c.machine.storage) (ram_at (stored (view c.rom c.machine false) w).storage)) (sym quiet) (nothing_changed c);
    }
  where
    nothing_changed : (c : Situation) (b : ℕ) → ram_at (stored (view c.rom c.machine false) machine_write.Nothing).storage b ≡ ram_at c.machine.storage b
    nothing_changed c b = ap (λ (m : View). ram_at m.storage b) (nothing_stored (view c.rom c.machine false) machine_write.Nothing refl)

-- a state that means the machine with its processor alone, behind the instruction
pub ended_quietly :
    (c : Situation) (t : AbsState) (entry : Activation) (base : ℕ) → (acted_at c).write ≡ machine_write.Nothing → MeansParts t entry base (record c.machine { processor = (acted_at c).processor })
    → MeansParts (ended false c.row.cycles t) entry base (left_at c)
ended_quietly c t entry base quiet m =
    let none : stored_at c ≡ view c.rom c.machine false = nothing_stored (view c.rom c.machine false) (acted_at c).write quiet in
    subst (λ (v : View). MeansParts (ended false c.row.cycles t) entry base (record { processor = (acted_at c).processor; storage = (passed v c.row.cycles).storage })) (sym none)
    (MeansParts-ended c.rom t entry base (acted_at c).processor (view c.rom c.machine false) false c.row.cycles refl m)

-- ---- SP stays

-- the machine with the effect's processor
abbrev pub acting : Situation → MState
acting c = record c.machine { processor = (acted_at c).processor }

AtWrite-still : (c : Situation) → IsTakenIn c → moves_sp c.row.op ≡ false → MeansCore (effect_at c).core c.entry (acting c) → AtWrite c.stack.setting c.stack.region (with_core c.state (effect_at c).core) c.entry c.base (acting c)
AtWrite-still c k still core =
    record {
      means = MeansParts-with_core c.state (effect_at c).core c.entry c.base c.machine (acting c) k.stands.means.parts core refl refl
          (sp-kept c.row.op (advanced c.machine.processor c.row) (given_at c).low (given_at c).high still ∙ begun_sp c.row c.machine) (λ set. sym (keeps_effect c k).stack ∙ set);
      placed = k.stands.placed;
      room = k.stands.room;
      is_region = k.stands.is_region;
      based = k.stands.based;
    }

-- what an instruction stores that leaves SP
pub stores_still :
    (c : Situation) → IsTakenIn c → LoadsAt c → moves_sp c.row.op ≡ false → IsPlainWrite (effect_at c).write
    → is_unstorable c.stack.setting (kind_of c.rom) c.stack.region c.ranges (effect_at c).write ≡ false
    → writes_closed_ram c.rom c.state.core (effect_at c).write ≡ false → is_write_limited c.stack.region c.state.core (effect_at c).write ≡ false
    → Stores c.stack.setting c.rom c.stack.region c.ranges (with_core c.state (effect_at c).core) (effect_at c).write c.entry c.base (acting c) (view c.rom c.machine false) (acted_at c).write
stores_still c k l still plain stores ram limited =
    let f = follows c (given_at c).low (given_at c).high k (given_by c k l) in
    let gate : IsSameGate c.state.core (effect_at c).core = record { ctl = (keeps_effect c k).ctl; bound = (keeps_effect c k).bound } in
    Stores-write c.stack.setting c.rom c.stack.region c.ranges (with_core c.state (effect_at c).core) c.entry c.base (acting c) (begun_at c).processor.sp (effect_at c).write (acted_at c).write
    (AtWrite-still c k still f.core) k.stands.controlled plain (is_write_at c k) f.write stores
    (writes_same c.rom c.state.core (effect_at c).core (effect_at c).write gate ∙ ram)
    (write_limited_same c.stack.region c.state.core (effect_at c).core (effect_at c).write gate ∙ limited)

ended_items : (b : Bool) (n : ℕ) (s : AbsState) → (ended b n s).items ≡ s.items
unfolding ended
ended_items b n s = refl

pub Landed-still : (c : Situation) → IsTakenIn c → move_at c ≡ move.Stay
    → Stores c.stack.setting c.rom c.stack.region c.ranges (with_core c.state (effect_at c).core) (effect_at c).write c.entry c.base (acting c) (view c.rom c.machine false) (acted_at c).write
    → Landed c
Landed-still c k stay st =
    let w : AbsWrite = (effect_at c).write in
    let after : AbsState = written c.stack.setting c.stack.region (kind_of c.rom) w (with_core c.state (effect_at c).core) in
    let state : (parts_at c).state ≡ ended (starts w) c.row.cycles after =
    state_is c ∙ (ap (λ m. state_by c m w (effect_at c).core) stay ∙ still_state c w (effect_at c).core (keeps_effect c k).stack) in
    let count : length (parts_at c).state.items ≡ length c.state.items = ap (λ (s : AbsState). length s.items) state ∙ (ap length (ended_items (starts w) c.row.cycles after) ∙ st.count) in
    record {
      means = subst (λ s. MeansParts s c.entry c.base (left_at c)) (sym state)
          (MeansParts-ended c.rom after c.entry c.base (acted_at c).processor (stored_at c) (starts w) c.row.cycles st.starting st.means);
      room = subst (AreInRegion c.stack.region c.base) (sym count) k.stands.room;
      bytes = subst (λ n. n ≡ bytes_moved (move_at c) (length c.state.items)) (sym count)
          (subst (λ m. length c.state.items ≡ bytes_moved m (length c.state.items)) (sym stay) refl);
    }

pub Leaves-stored : (c : Situation) → IsTakenIn c → LoadsAt c
    → Stores c.stack.setting c.rom c.stack.region c.ranges (with_core c.state (effect_at c).core) (effect_at c).write c.entry c.base (acting c) (view c.rom c.machine false) (acted_at c).write
    → Leaves c
Leaves-stored c k l st =
    record {
      kept = λ b kept. passed_peek (stored_at c) c.row.cycles b ∙ st.kept b kept;
      faults = faults_are c.rom c.stack.region c.machine c.row c.reads l.faults st.faults;
      related = related_left c k l st.writes;
      store = st.faults;
      in_turn = st.in_turn;
    }

-- ---- a word is put on

-- the machine's storage, its word put on, and what that leaves
pub record IsPut (c : Situation) (i : Halves) : Type 0 where
  means : MeansParts (pushed i (with_core c.state (effect_at c).core)) c.entry c.base (record { processor = (acted_at c).processor; storage = (stored_at c).storage })
  starting : (stored_at c).starting ≡ false
  faults : store_faults c.stack.region (view c.rom c.machine false) (acted_at c).write ≡ no_faults
  kept : (b : ℕ) → IsKept c.stack.setting c.stack.region c.ranges c.base b → peek (stored_at c).storage b ≡ peek c.machine.storage b
  writes : relations.Writes (held_at c) (acted_at c).write (ram_at c.machine.storage) (ram_at (stored_at c).storage)
  in_turn : WritesInTurn (held_at c) (acted_at c).write (ram_at c.machine.storage) (ram_at (stored_at c).storage)

-- an address outside the region isn't one of the word's
abbrev IsNoneOf : ℕ → ℕ → Type 0
IsNoneOf sp b = ((b ≡ sp - 1 → ⊥)) × (b ≡ sp - 2 → ⊥)

outside_push : (region : Region) (base sp bytes b : ℕ) → AreInRegion region base (bytes + 2) → sp + bytes ≡ base → (nat_le b region.last && nat_le region.first b) ≡ false → IsNoneOf sp b
outside_push region base sp bytes b room stack out =
    let first = room.first in
    let last = room.last in
    (λ e. inside (omega arith) (omega arith), λ e. inside (omega arith) (omega arith))
  where
    differ : true ≡ false → ⊥
    differ h = cc

    inside : region.first ≤ b → b ≤ region.last → ⊥
    inside low high = differ (grind (arith, nat_tests))

-- nor is that of an item
item_above_push : (base sp bytes b : ℕ) → sp + bytes ≡ base → 2 ≤ sp → IsAmongItems base bytes b → IsNoneOf sp b
item_above_push base sp bytes b stack low item =
    let above = item.above in
    (λ e. absurd (omega arith), λ e. absurd (omega arith))

-- so no place is
place_above_push :
    (z : Setting) (region : Region) (base sp bytes b : ℕ)
    → IsBase z base → AreInRegion region base (bytes + 2) → sp + bytes ≡ base → is_place_at (stack_held z region bytes) b ≡ true → IsNoneOf sp b
unfolding stack_held
place_above_push z region base sp bytes b right room stack placed =
    let first = room.first in
    let parts = and_parts (nat_le b b && are_in_ram b b) (not (meets region b b) || is_item (cond z.is_whole z.base 0) bytes b) placed in
    choose (meets region b b) refl parts.1
  where
    low : 2 ≤ sp
    low = let first = room.first in omega arith

    choose : (m : Bool) → meets region b b ≡ m → (not m || is_item (cond z.is_whole z.base 0) bytes b) ≡ true → IsNoneOf sp b
    choose false e h = outside_push region base sp bytes b room stack e
    choose true e h = item_above_push base sp bytes b stack low (item_among z region bytes b base right h)

pub puts : (c : Situation) (i : Halves) → IsTakenIn c → LoadsAt c → (effect_at c).write ≡ write.Push i.high i.low → HasRoomFor 2 c.stack.setting c.stack.region c.state c.base
    → is_stack_limited c.stack.region c.state.core ≡ false → IsPut c i
puts c i k l is has limited =
    let e = acted_at c in
    let x = c.machine in
    let m : View = view c.rom c.machine false in
    let region : Region = c.stack.region in
    let core : Core = (effect_at c).core in
    let keeps = keeps_effect c k in
    let f = follows c (given_at c).low (given_at c).high k (given_by c k l) in
    let held = push_of i.high i.low c.entry (begun_at c).processor.sp e.write (subst (λ v. HoldsWrite v c.entry (begun_at c).processor.sp e.write) is f.write) in
    let vals : IsWrite (write.Push i.high i.low) = subst IsWrite is (is_write_at c k) in
    let small = small_word i.high c.entry held.value vals.0 held.high_held in
    let writes : e.write ≡ machine_write.Push x.processor.sp held.value = held.is ∙ ap (λ n. machine_write.Push n held.value) (begun_sp c.row x) in
    let moved : e.processor.sp ≡ (x.processor.sp + 65534) % 65536 =
    sp-pushed c.row.op (advanced x.processor c.row) (given_at c).low (given_at c).high (begun_at c).processor.sp held.value held.is ∙ ap (λ n. (n + 65534) % 65536) (begun_sp c.row x) in
    let before : MState = record { processor = with_sp e.processor x.processor.sp; storage = x.storage } in
    let means : MeansParts (with_core c.state core) c.entry c.base before =
    MeansParts-with_core c.state core c.entry c.base x before k.stands.means.parts (same_but_sp core c.entry (acting c) before x.processor.sp f.core refl) refl refl refl (λ on. sym keeps.stack ∙ on) in
    let done =
    MeansParts-pushed region (with_core c.state core) c.entry c.base before m i held.value means refl (located-same c.state.summary.aside core.stack_set c.state.core.stack_set keeps.stack has.located) has.room k.stands.is_region k.stands.placed
    (IsRegionOpen-bound c.state.core c.entry x region k.stands.means.parts.core (clear_stack region c.state.core limited)) held.high_held held.low_held small in
    let top = k.stands.means.parts.stack has.located in
    let after : Storage = (stored m (machine_write.Push x.processor.sp held.value)).storage in
    let changed : (b : ℕ) → is_place_at (held_at c) b ≡ true → ram_at after b ≡ ram_at x.storage b =
    λ b out.
    let two = place_above_push c.stack.setting region c.base x.processor.sp (length c.state.items) b k.stands.based has.room top out in
    ram_same x.storage after b (λ ram. done.others b ram (differs b (x.processor.sp - 1) two.0) (differs b (x.processor.sp - 2) two.1)) in
    record {
      means = subst (λ w. MeansParts (pushed i (with_core c.state core)) c.entry c.base (record { processor = e.processor; storage = (stored m w).storage })) (sym writes)
          (subst (λ n. MeansParts (pushed i (with_core c.state core)) c.entry c.base (record { processor = with_sp e.processor n; storage = (stored m (machine_write.Push x.processor.sp held.value)).storage })) (sym moved) done.means);
      faults = ap (store_faults region m) writes ∙ done.faults;
      starting = ap (λ w. (stored m w).starting) writes ∙ done.starting;
      kept = λ b kept.
          ap (λ w. peek (stored m w).storage b) writes
          ∙ done.others b kept.ram (not_pushed region c.base x.processor.sp (length c.state.items) (x.processor.sp - 1) b has.room top (inl refl) kept.above)
          (not_pushed region c.base x.processor.sp (length c.state.items) (x.processor.sp - 2) b has.room top (inr refl) kept.above);
      writes = subst (λ w. relations.Writes (held_at c) w (ram_at x.storage) (ram_at (stored m w).storage)) (sym writes) changed;
      in_turn = subst (λ w. WritesInTurn (held_at c) w (ram_at x.storage) (ram_at (stored m w).storage)) (sym writes) changed;
    }

stack_pushed : (z : Setting) (i : Halves) (s : AbsState) (core : Core) → nat_lt (item_room z.rules) (length s.items + 2) ≡ false → with_core (with_stack_moved z (move.Push i) s) (moved_core (move.Push i) core) ≡ pushed i (with_core s core)
unfolding with_stack_moved moved_core pushed
stack_pushed z i s core room = ap (λ (t : AbsState). with_core t core) (pushed-if_room z i s room)

-- the states behind it
pub put_state : (c : Situation) (i : Halves) → (effect_at c).write ≡ write.Push i.high i.low → move_at c ≡ move.Push i → nat_lt (item_room c.stack.setting.rules) (length c.state.items + 2) ≡ false
    → (parts_at c).state ≡ ended false c.row.cycles (pushed i (with_core c.state (effect_at c).core))
put_state c i is move_is room =
    state_is c
    ∙ (ap (λ m. state_by c m (effect_at c).write (effect_at c).core) move_is
    ∙ (ap (λ w. state_by c (move.Push i) w (effect_at c).core) is
    ∙ (push_state c (move.Push i) i.high i.low (effect_at c).core
    ∙ ap (ended false c.row.cycles) (pushed_by c i room))))
  where
    pushed_by : (c : Situation) (i : Halves) → nat_lt (item_room c.stack.setting.rules) (length c.state.items + 2) ≡ false → moved_at c (move.Push i) (effect_at c).core ≡ pushed i (with_core c.state (effect_at c).core)
    pushed_by c i room = stack_pushed c.stack.setting i c.state (effect_at c).core room

length-more : (items : List Val) (i : Halves) → length (items ++ i.high ∷ i.low ∷ []) ≡ length items + 2
length-more items i = length-append items (i.high ∷ i.low ∷ [])

put_count : (n : ℕ) (i : Halves) (s : AbsState) → length (ended false n (pushed i s)).items ≡ length s.items + 2
unfolding ended pushed
put_count n i s = length-more s.items i

pub Landed-put : (c : Situation) (i : Halves) → IsTakenIn c → IsPut c i → (effect_at c).write ≡ write.Push i.high i.low → move_at c ≡ move.Push i → HasRoomFor 2 c.stack.setting c.stack.region c.state c.base → Landed c
Landed-put c i k put is move_is has =
    let state = put_state c i is move_is has.held in
    let count : length (parts_at c).state.items ≡ length c.state.items + 2 = ap (λ (s : AbsState). length s.items) state ∙ put_count c.row.cycles i (with_core c.state (effect_at c).core) in
    record {
      means = subst (λ s. MeansParts s c.entry c.base (left_at c)) (sym state)
          (MeansParts-ended c.rom (pushed i (with_core c.state (effect_at c).core)) c.entry c.base (acted_at c).processor (stored_at c) false c.row.cycles put.starting put.means);
      room = subst (AreInRegion c.stack.region c.base) (sym count) has.room;
      bytes = subst (λ n. n ≡ bytes_moved (move_at c) (length c.state.items)) (sym count)
          (subst (λ m. length c.state.items + 2 ≡ bytes_moved m (length c.state.items)) (sym move_is) refl);
    }

pub Leaves-put : (c : Situation) (i : Halves) → IsTakenIn c → LoadsAt c → IsPut c i → Leaves c
Leaves-put c i k l put =
    record {
      kept = λ b kept. passed_peek (stored_at c) c.row.cycles b ∙ put.kept b kept;
      faults = faults_are c.rom c.stack.region c.machine c.row c.reads l.faults put.faults;
      related = related_left c k l put.writes;
      store = put.faults;
      in_turn = put.in_turn;
    }
