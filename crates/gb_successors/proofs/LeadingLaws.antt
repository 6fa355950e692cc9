-- An instruction that is taken leads by its successor, by the rules of version 3.
use Rattle.std.proofs.Common.{◌≡◌, ℕ, ◌*◌, ◌+◌, ◌≤◌, Bool, true, false, nat_lt, ◌⊎◌, inl, inr, length, Option, Some, None, refl, sym, ◌∙◌, ap, subst, arith, ◌<◌}
use Rattle.std.proofs.lemmas.Bool.Decides.{nat_tests}
use Rattle.gb_ops.specs.declared.machine.Read.{Read}
use Rattle.gb_ops.specs.declared.machine.Read.TheVariants as machine_read
use Rattle.gb_ops.specs.declared.machine.Write.TheVariants as machine_write
use Rattle.gb_ops.specs.declared.op.Op.{Op}
use Rattle.gb_ops.specs.declared.op.Op.TheVariants as op
use Rattle.gb_ops.specs.Effects as Effects
use Rattle.gb_ops.specs.Machine.{advanced, loaded}
use Rattle.gb_ops.specs.Pairs.{pair_value}
use Rattle.gb_ops.specs.Faults.{load_faults}
use Rattle.gb_domain.specs.declared.pairs.Bounds.{Bounds}
use Rattle.gb_domain.specs.declared.pairs.WordPair.TheVariants as words
use Rattle.gb_domain.specs.declared.rules.Rules.{Rules}
use Rattle.gb_domain.specs.declared.rules.Rules.TheVariants.{Simple, Extended}
use Rattle.gb_domain.specs.declared.setting.Setting.{Setting}
use Rattle.gb_domain.specs.declared.types.Core.{Core}
use Rattle.gb_domain.specs.declared.types.Halves.{Halves}
use Rattle.gb_domain.specs.Types.{AbsState}
use Rattle.gb_product.specs.Below.gb_abs.Meaning.{Activation, Holds, MeansParts}
use Rattle.gb_product.specs.Below.gb_abs.Operations.{with_core}
use Rattle.gb_product.specs.Below.gb_abs.Stack.{AreInRegion}
use Rattle.gb_product.proofs.Below.gb_abs_laws.StackLaws.{IsRegionOpen-bound, Pops-popped}
use Rattle.gb_product.specs.Below.gb_abs_effects.declared.reads.AbsRead.{AbsRead}
use Rattle.gb_product.specs.Below.gb_abs_effects.declared.reads.AbsRead.TheVariants as read
use Rattle.gb_product.specs.Below.gb_abs_effects.declared.targets.Target.{Target}
use Rattle.gb_product.specs.Below.gb_abs_effects.declared.targets.Target.TheVariants as target
use Rattle.gb_product.specs.Below.gb_abs_effects.declared.writes.AbsWrite.TheVariants as write
use Rattle.gb_product.specs.Below.gb_abs_effects.Accesses.{read_of}
use Rattle.gb_product.specs.Below.gb_abs_effects.Pairs.{any_word}
use Rattle.gb_product.specs.Below.gb_abs_effects.Sound.{HoldsRead, IsReadAt}
use Rattle.gb_product.specs.Below.gb_abs_effects.Targets.{target_of, is_pop, is_return}
use Rattle.gb_abs_memory.specs.Sound.{view}
use Rattle.gb_product.specs.Below.gb_relations.Pointers.{WithinIf, PointsWithin, pointer_of}
use Rattle.gb_product.proofs.Below.gb_relations_laws.PointerLaws.{pointer_bounds_sound}
use Rattle.gb_product.specs.Below.gb_abs.declared.span.Span.{Span}
use Rattle.gb_product.specs.Below.gb_pairs.declared.values.Values.{Values}
use Rattle.gb_product.specs.Below.gb_relations.Transfer.{values_of}
use Rattle.gb_successors.proofs.LoadedLaws.{Loads-word, extended_word}
use Rattle.gb_successors.specs.declared.stacks.Around.{Around}
use Rattle.gb_successors.specs.declared.stacks.StackMove.{StackMove}
use Rattle.gb_successors.specs.declared.stacks.StackMove.TheVariants as move
use Rattle.gb_successors.specs.Behind.{ended}
use Rattle.gb_successors.specs.Refined.{cut_read, extended_target, refined_target, popped_target, read_around}
use Rattle.gb_successors.specs.Refused.{reads_closed_ram, is_read_limited, is_stack_limited}
use Rattle.gb_successors.specs.Sound.{IsFound, IsReady, HoldsBytes, bytes_moved}
use Rattle.gb_successors.specs.Stacks.{stack_move, around_of}
use Rattle.gb_successors.specs.Successors.{taken_move, taken_parts}
use Rattle.gb_successors.proofs.AroundLaws.{around_top, top_none, located-same}
use Rattle.gb_product.proofs.Below.gb_abs_laws.LocationLaws.{is_located-of}
use Rattle.gb_product.specs.Below.gb_abs.Located.{IsSpWithin}
use Rattle.gb_product.specs.Meaning.{beside}
use Rattle.gb_successors.proofs.AccessLaws.{clear_stack, closed_same, limited_same, Loads}
use Rattle.gb_successors.proofs.PlainLaws.{IsPlainRead}
use Rattle.gb_successors.proofs.SuccessorLaws.{begun_pc, begun_sp}
use Rattle.gb_successors.proofs.StackWayLaws.{is_word_read, word_top, top_held}
use Rattle.gb_successors.proofs.SpMoveLaws.{IsMovedTo, sp_moves}
use Rattle.gb_successors.proofs.StackMovedLaws.{IsMoved}
use Rattle.gb_successors.proofs.GoingLaws.{GoesTo, goes_to, top_reads, takes_two, return_target}
use Rattle.gb_successors.proofs.PossibleLaws.{ready_at}
use Rattle.gb_successors.proofs.LandingLaws.{few_words, set_by_items}
use Rattle.gb_successors.proofs.Situations.{Situation, next_at, pointer_at, read_at, word_at, effect_at, move_at, parts_at, begun_at, given_at, acted_at, left_at, IsTakenIn, means_begun, bits_at}
use Rattle.gb_successors.proofs.SituationLaws.{values_hold, read_holds, read_placed, sp_within, said_begun}
use Rattle.gb_successors.proofs.LandingLaws.{LoadsAt, loads_plainly, state_by, state_is, moved_at, quiet_state, Landed, ended_quietly, acting}
use Rattle.gb_ops.specs.declared.op.Register.TheVariants.{H, L}
use Rattle.gb_domain.specs.declared.types.Origin.TheVariants.{MarkHigh, MarkLow}
use Rattle.gb_successors.specs.Stacks.{address_below}
use Rattle.gb_successors.proofs.GoingLaws.{own_value}
use Rattle.gb_successors.proofs.StackMarkLaws.{back_of, back_below}

no_such : false ≡ true → ⊥
no_such h = cc

-- ---- where it goes on

refined_is :
    (r : Rules) (z : Setting) (o : Op) (next : ℕ) (w : Halves) (core : Core) (b : Option Bounds) (m : StackMove) (t : Target) → r ≡ Extended
    → refined_target r z o next w core b m t ≡ extended_target z o next w core b m t
unfolding refined_target
refined_is Extended z o next w core b m t h = refl
refined_is Simple z o next w core b m t h = absurd (let bad : Simple ≡ Extended = h in cc)

-- where the stack is put aside, and may be
abbrev pub around_at : Situation → Around
around_at c = around_of c.stack c.state c.product.core

aside_at : (c : Situation) → (around_at c).aside ≡ c.state.summary.aside
unfolding around_of
aside_at c = refl

abbrev pub extended_at : Situation → Target
extended_at c = extended_target c.stack.setting c.row.op (next_at c) (word_at c) c.product.core (pointer_at c) (stack_move c.stack (around_at c) c.row.op (effect_at c).write (pointer_at c)) (target_of c.row.op (next_at c) c.product.core)

pub target_is : (c : Situation) → IsTakenIn c → (parts_at c).target ≡ extended_at c
unfolding taken_parts
target_is c k = refined_is c.stack.setting.rules c.stack.setting c.row.op (next_at c) (word_at c) c.product.core (pointer_at c) _ _ k.extended

pub move_is : (c : Situation) → move_at c ≡ stack_move c.stack (around_at c) c.row.op (effect_at c).write (pointer_at c)
unfolding taken_move
move_is c = refl

-- HL lies within the bounds
hl_within : (c : Situation) → IsTakenIn c → pointer_of c.row.op ≡ Some words.Hl → WithinIf (pointer_at c) (Effects.hl (advanced c.machine.processor c.row))
unfolding pair_value
hl_within c k e =
    subst (λ p. PointsWithin (pointer_at c) p (begun_at c).processor.registers) e
    ((pointer_bounds_sound c.stack.setting.rules c.row.op c.product.core.registers c.product.relations.pairs _ refl).word (beside c.entry (begun_at c)) (begun_at c).processor.registers (values_hold c k))

pub goes_at : (c : Situation) → IsTakenIn c → LoadsAt c → GoesTo c.stack.setting.is_main (parts_at c).target c.entry (acted_at c).processor.pc
unfolding pointer_of
goes_at c k l =
    subst (λ t. GoesTo c.stack.setting.is_main t c.entry (acted_at c).processor.pc) (sym (target_is c k))
    (goes_to c.stack (around_at c) c.row.op (effect_at c).write (pointer_at c) (next_at c) (word_at c) c.product.core c.entry (begun_at c) (given_at c).low (given_at c).high l.low l.high k.means
    (begun_pc c.row c.machine c.address k.runs k.mark k.stands.at) k.taken (λ e. hl_within c k (ap pointer_of e)))

-- where HL is the mark's address, it lies so many bytes below the base
back_at : (c : Situation) → IsTakenIn c → (n : ℕ) → (around_at c).back ≡ Some n → IsMovedTo c.stack c.base (move.Set n) (advanced c.machine.processor c.row).sp (Effects.hl (advanced c.machine.processor c.row))
unfolding pair_value
back_at c k n e =
    let back = back_of c.stack c.state c.product.core n e in
    let high = own_value MarkHigh c.product.core.registers.h c.entry _ back.high (k.means.registers H) in
    let low = own_value MarkLow c.product.core.registers.l c.entry _ back.low (k.means.registers L) in
    let mark = k.marked in
    let count = back.count in
    let at : 256 * (begun_at c).processor.registers.h + (begun_at c).processor.registers.l ≡ address_below c.base n = omega arith in
    back_below c.stack.region c.base n _ at back.few

pub moves_at : (c : Situation) → IsTakenIn c → IsMovedTo c.stack c.base (move_at c) c.machine.processor.sp (acted_at c).processor.sp
unfolding pointer_of
moves_at c k =
    subst (λ m. IsMovedTo c.stack c.base m c.machine.processor.sp (acted_at c).processor.sp) (sym (move_is c))
    (subst (λ sp. IsMovedTo c.stack c.base (stack_move c.stack (around_at c) c.row.op (effect_at c).write (pointer_at c)) sp (acted_at c).processor.sp) (begun_sp c.row c.machine)
    (sp_moves c.stack c.base (around_at c) c.row.op (effect_at c).write (pointer_at c) (advanced c.machine.processor c.row) (given_at c).low (given_at c).high k.extended k.operands
    (subst (λ n. n < 65536) (sym (begun_sp c.row c.machine)) k.stands.means.parts.sp)
    (subst (IsSpWithin (around_at c).aside) (sym (begun_sp c.row c.machine)) (subst (λ a. IsSpWithin a c.machine.processor.sp) (sym (aside_at c)) (sp_within c k))) k.stands.based k.taken (λ e. hl_within c k (ap pointer_of e)) (back_at c k)))

-- ---- what its reads give

cut_top : (b : Option Bounds) (r : AbsRead) → cut_read b r ≡ read.Top → r ≡ read.Top
cut_top None (read.Byte span) e = cc
cut_top (Some b) (read.Byte span) e = cc
cut_top b read.Nothing e = cc
cut_top b read.Top e = refl
cut_top b (read.Word span) e = cc

no_return : (o : Op) → is_pop o ≡ true → is_return o ≡ false
no_return (op.Pop to) h = refl
no_return o h = absurd (no_such h)

lost_any : (b : Bool) → popped_target b any_word ≡ target.Lost
lost_any true = refl
lost_any false = refl

no_pop : {X : Type 0} (o : Op) → is_return o ≡ true → is_pop o ≡ true → X
no_pop (op.Pop to) h pop = cc
no_pop o h pop = cc

-- two bytes are taken off
ready_two :
    (c : Situation) → IsTakenIn c → (is_pop c.row.op ≡ true) ⊎ (is_return c.row.op ≡ true) → (is_pop c.row.op ≡ true → (around_at c).aside ≡ None)
    → (is_return c.row.op ≡ false → HoldsBytes 2 c.state) × (is_return c.row.op ≡ true → c.state.summary.aside ≡ None)
ready_two c k which none =
    subst (λ m. IsReady c.stack c.row.op m c.state c.base) (move_is c ∙ takes_two c.stack (around_at c) c.row.op (effect_at c).write (pointer_at c) k.extended none which) (ready_at c k)

holds_two : (c : Situation) → IsTakenIn c → IsFound (parts_at c).target → read_at c ≡ read.Top → HoldsBytes 2 c.state
holds_two c k found top =
    by (top_reads c.row.op c.product.core (cut_top (pointer_at c) (read_of c.row.op c.product.core) (around_top c.stack.setting.rules c.state.summary.aside c.row.op _ top)))
  where
    word_any : nat_lt (length c.state.items) 2 ≡ true → word_at c ≡ any_word
    word_any few = word_top c.stack.setting.rules c.stack.setting c.stack.region c.entry.program c.rom _ _ (with_core c.state c.product.core) (read_at c) None top (few_words c.state c.product.core few)

    by_length : (b : Bool) → nat_lt (length c.state.items) 2 ≡ b → is_return c.row.op ≡ true → HoldsBytes 2 c.state
    by_length false e h =
        let some : 2 ≤ length c.state.items = grind (arith, nat_tests) in
        let none : c.state.summary.aside ≡ None = (ready_two c k (inr h) (λ pop. no_pop c.row.op h pop)).1 h in
        record { located = is_located-of c.state.summary.aside c.state.core.stack_set none (set_by_items c.state.core.stack_set c.state.items some k.stands.unset); held = some }
    by_length true e h =
        absurd (subst IsFound (target_is c k ∙ (return_target c.stack.setting c.row.op (next_at c) (word_at c) c.product.core (pointer_at c) _ _ h
        ∙ (ap (popped_target c.stack.setting.is_main) (word_any e) ∙ lost_any c.stack.setting.is_main))) found)

    by : (is_pop c.row.op ≡ true) ⊎ (is_return c.row.op ≡ true) → HoldsBytes 2 c.state
    by (inl pop) =
        (ready_two c k (inl pop) (λ pops. aside_at c ∙ top_none c.stack.setting.rules c.state.summary.aside c.row.op _ k.extended pops top)).0 (no_return c.row.op pop)
    by (inr returns) = by_length (nat_lt (length c.state.items) 2) refl returns

loads_top : (c : Situation) → IsTakenIn c → read_at c ≡ read.Top → HoldsBytes 2 c.state → is_stack_limited c.stack.region c.state.core ≡ false → LoadsAt c
loads_top c k top two limited =
    let held = top_held c.state c.product.core two.held in
    let sp = (begun_at c).processor.sp in
    let r : Read = Effects.read_of c.row.op (advanced c.machine.processor c.row) in
    let reads : r ≡ machine_read.Word sp = is_word_read sp r (subst (λ v. HoldsRead v sp r) top (read_holds c k)) in
    let word : word_at c ≡ held.0 = word_top c.stack.setting.rules c.stack.setting c.stack.region c.entry.program c.rom _ _ (with_core c.state c.product.core) (read_at c) (Some held.0) top held.1 in
    let p =
    Pops-popped c.stack.region (with_core c.state c.product.core) c.entry c.base (begun_at c) (view c.rom c.machine false) held.0 c.reads (means_begun c k) refl (located-same c.state.summary.aside c.product.core.stack_set c.state.core.stack_set k.keeps.stack two.located) held.1 k.stands.room k.stands.is_region
    (IsRegionOpen-bound c.state.core c.entry c.machine c.stack.region k.stands.means.parts.core (clear_stack c.stack.region c.state.core limited)) in
    record {
      low = subst (λ (i : Halves). Holds i.low c.entry (loaded (view c.rom c.machine false) r c.reads).low) (sym word)
          (subst (λ q. Holds held.0.low c.entry (loaded (view c.rom c.machine false) q c.reads).low) (sym reads) p.low);
      high = subst (λ (i : Halves). Holds i.high c.entry (loaded (view c.rom c.machine false) r c.reads).high) (sym word)
          (subst (λ q. Holds held.0.high c.entry (loaded (view c.rom c.machine false) q c.reads).high) (sym reads) p.high);
      faults = ap (load_faults (view c.rom c.machine false)) reads ∙ p.faults;
    }

-- a word that isn't on the stack
loads_word :
    (c : Situation) → IsTakenIn c → (span : Span) → read_at c ≡ read.Word span → IsReadAt (read.Word span) → reads_closed_ram c.rom c.state.core (read.Word span) ≡ false
    → is_read_limited c.stack.region c.state.core (read.Word span) ≡ false → LoadsAt c
loads_word c k span e small ram limited = by (Effects.read_of c.row.op (advanced c.machine.processor c.row)) refl (subst (λ w. HoldsRead w (begun_at c).processor.sp (Effects.read_of c.row.op (advanced c.machine.processor c.row))) e (read_holds c k))
  where
    v : Values
    v = values_of c.product.core.registers c.product.relations.pairs

    by : (r : Read) → Effects.read_of c.row.op (advanced c.machine.processor c.row) ≡ r → HoldsRead (read.Word span) (begun_at c).processor.sp r → LoadsAt c
    by machine_read.Nothing is h = absurd h
    by (machine_read.Byte a) is h = absurd h
    by (machine_read.Word a) is h =
        subst (λ r. Loads (word_at c) c.entry (view c.rom c.machine false) r c.reads) (sym is)
        (subst (λ w. Loads w c.entry (view c.rom c.machine false) (machine_read.Word a) c.reads)
        (sym (extended_word c.stack.setting.rules c.stack.setting c.stack.region c.entry.program c.rom v (bits_at c) (with_core c.state c.product.core) (read_at c) (read.Word span) k.extended e))
        (Loads-word c.stack.setting c.stack.region c.rom (with_core c.state c.product.core) v (bits_at c) span c.entry c.base (begun_at c) a c.reads k.stands.cartridge k.stands.based (means_begun c k) (said_begun c k) (values_hold c k) k.core.ie
        k.byte k.second h small (closed_same c.rom c.state.core c.product.core (read.Word span) k.keeps ∙ ram) (limited_same c.stack.region c.state.core c.product.core (read.Word span) k.keeps ∙ limited)))

pub loads_at :
    (c : Situation) → IsTakenIn c → IsFound (parts_at c).target → reads_closed_ram c.rom c.state.core (read_at c) ≡ false → is_read_limited c.stack.region c.state.core (read_at c) ≡ false → LoadsAt c
unfolding is_read_limited
loads_at c k found ram limited = by (read_at c) refl (read_placed c k)
  where
    by : (r : AbsRead) → read_at c ≡ r → IsReadAt r → LoadsAt c
    by read.Nothing e at = loads_plainly c k (subst IsPlainRead (sym e) tt) ram limited
    by (read.Byte span) e at = loads_plainly c k (subst IsPlainRead (sym e) at) ram limited
    by (read.Word span) e at =
        loads_word c k span e at (subst (λ r. reads_closed_ram c.rom c.state.core r ≡ false) e ram) (subst (λ r. is_read_limited c.stack.region c.state.core r ≡ false) e limited)
    by read.Top e at = loads_top c k e (holds_two c k found e) (subst (λ r. is_read_limited c.stack.region c.state.core r ≡ false) e limited)

-- ---- what a move asks for

return_reads : (o : Op) (core : Core) → is_return o ≡ true → read_of o core ≡ read.Top
unfolding read_of
return_reads (op.ReturnIf condition) core h = refl
return_reads op.Return core h = refl
return_reads op.ReturnFromInterrupt core h = refl
return_reads o core h = absurd (no_such h)

around_return : (r : Rules) (a : Option Bounds) (o : Op) (w : AbsRead) → is_return o ≡ true → read_around r a o w ≡ w
around_return Simple a o w h = refl
around_return Extended None o w h = refl
around_return Extended (Some b) (op.Pop to) w h = absurd (no_such h)
around_return Extended (Some b) o w h = refl

reads_top : (c : Situation) → is_return c.row.op ≡ true → read_at c ≡ read.Top
reads_top c h =
    around_return c.stack.setting.rules c.state.summary.aside c.row.op _ h ∙ ap (cut_read (pointer_at c)) (return_reads c.row.op c.product.core h)

-- so many bytes are held as are taken off
pub holds_taken : (c : Situation) (n : ℕ) → IsTakenIn c → IsFound (parts_at c).target → move_at c ≡ move.Take n → HoldsBytes n c.state
holds_taken c n k found e = by (is_return c.row.op) refl
  where
    same : (i j : ℕ) → move.Take i ≡ move.Take j → i ≡ j
    same i j f = cc

    by : (b : Bool) → is_return c.row.op ≡ b → HoldsBytes n c.state
    by false h = (subst (λ m. IsReady c.stack c.row.op m c.state c.base) e (ready_at c k)).0 h
    by true h =
        subst (λ i. HoldsBytes i c.state) (same 2 n (sym (move_is c ∙ takes_two c.stack (around_at c) c.row.op (effect_at c).write (pointer_at c) k.extended (λ pop. no_pop c.row.op h pop) (inr h)) ∙ e))
        (holds_two c k found (reads_top c h))

ended_items : (b : Bool) (n : ℕ) (s : AbsState) → (ended b n s).items ≡ s.items
unfolding ended
ended_items b n s = refl

-- ---- the machine behind it

-- a move that writes nothing
quiet_is : (c : Situation) (m : StackMove) → move_at c ≡ m → (effect_at c).write ≡ write.Nothing → (parts_at c).state ≡ ended false c.row.cycles (moved_at c m (effect_at c).core)
quiet_is c m e quiet =
    state_is c ∙ (ap (λ n. state_by c n (effect_at c).write (effect_at c).core) e ∙ (ap (λ w. state_by c m w (effect_at c).core) quiet ∙ quiet_state c m (effect_at c).core))

pub Landed-moved :
    (c : Situation) (m : StackMove) → move_at c ≡ m → (effect_at c).write ≡ write.Nothing → (acted_at c).write ≡ machine_write.Nothing
    → IsMoved c.stack.region m c.state (moved_at c m (effect_at c).core) c.entry c.base (acting c) → Landed c
Landed-moved c m e quiet silent moved =
    let state = quiet_is c m e quiet in
    let count : length (parts_at c).state.items ≡ length (moved_at c m (effect_at c).core).items = ap (λ (s : AbsState). length s.items) state ∙ ap length (ended_items false c.row.cycles (moved_at c m (effect_at c).core)) in
    record {
      means = subst (λ s. MeansParts s c.entry c.base (left_at c)) (sym state) (ended_quietly c (moved_at c m (effect_at c).core) c.entry c.base silent moved.means);
      room = subst (AreInRegion c.stack.region c.base) (sym count) moved.room;
      bytes = subst (λ n. length (parts_at c).state.items ≡ bytes_moved n (length c.state.items)) (sym e)
          (subst (λ n. n ≡ bytes_moved m (length c.state.items)) (sym count) moved.bytes);
    }

-- in main, where that begins anew
pub record LandedAnew (c : Situation) : Type 0 where
  pub means : (entry : Activation) → entry.program ≡ c.entry.program → MeansParts (parts_at c).state entry (c.stack.region.last + 1) (left_at c)
  pub room : AreInRegion c.stack.region (c.stack.region.last + 1) (length (parts_at c).state.items)
  pub bytes : length (parts_at c).state.items ≡ bytes_moved (move_at c) (length c.state.items)

pub Landed-anew :
    (c : Situation) (n : ℕ) → move_at c ≡ move.Restart n → (effect_at c).write ≡ write.Nothing → (acted_at c).write ≡ machine_write.Nothing
    → ((entry : Activation) → entry.program ≡ c.entry.program → IsMoved c.stack.region (move.Restart n) c.state (moved_at c (move.Restart n) (effect_at c).core) entry (c.stack.region.last + 1) (acting c)) → LandedAnew c
Landed-anew c n e quiet silent moved =
    let m : StackMove = move.Restart n in
    let state = quiet_is c m e quiet in
    let count : length (parts_at c).state.items ≡ length (moved_at c m (effect_at c).core).items = ap (λ (s : AbsState). length s.items) state ∙ ap length (ended_items false c.row.cycles (moved_at c m (effect_at c).core)) in
    record {
      means = λ entry same. subst (λ s. MeansParts s entry (c.stack.region.last + 1) (left_at c)) (sym state) (ended_quietly c (moved_at c m (effect_at c).core) entry (c.stack.region.last + 1) silent (moved entry same).means);
      room = subst (AreInRegion c.stack.region (c.stack.region.last + 1)) (sym count) (moved c.entry refl).room;
      bytes = subst (λ n. length (parts_at c).state.items ≡ bytes_moved n (length c.state.items)) (sym e)
          (subst (λ n. n ≡ bytes_moved m (length c.state.items)) (sym count) (moved c.entry refl).bytes);
    }
