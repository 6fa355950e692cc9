-- Where an instruction leads by the rules of version 3: in the same procedure, into a call, back, or into main, anew.
use Rattle.std.proofs.Common.{◌≡◌, ℕ, ◌+◌, ◌-◌, ◌/◌, ◌%◌, ◌<◌, Bool, true, false, ◌⊎◌, inl, inr, List, [], ◌∷◌, ◌++◌, length, Option, Some, None, refl, sym, ◌∙◌, ap, subst, arith, length-append}
use Rattle.gb_ops.specs.declared.machine.Write.TheVariants as machine_write
use Rattle.std.specs.Prelude.{is_some}
use Rattle.gb_ops.specs.declared.registers.Registers.{Registers}
use Rattle.gb_domain.specs.declared.pairs.Pairs.{Pairs}
use Rattle.gb_domain.specs.declared.rules.Rules.{Rules}
use Rattle.gb_domain.specs.declared.rules.Rules.TheVariants.{Simple, Extended}
use Rattle.gb_product.specs.Below.gb_relations.Pointers.{pointer_of, bounds_if, pointer_bounds}
use Rattle.gb_product.specs.Below.gb_relations.Transfer.{values_of}
use Rattle.gb_ops.specs.declared.op.Op.{Op}
use Rattle.gb_ops.specs.declared.op.Op.TheVariants as op
use Rattle.gb_ops.specs.Cartridge.{kind_of}
use Rattle.gb_ops.specs.Memory.{Storage}
use Rattle.gb_ops.specs.Pairs.{word}
use Rattle.gb_domain.specs.declared.low_bits.LowBits.{LowBits}
use Rattle.gb_domain.specs.declared.pairs.Bounds.{Bounds}
use Rattle.gb_product.specs.Below.gb_abs.declared.span.Span.{Span}
use Rattle.gb_domain.specs.declared.types.Val.{Val}
use Rattle.gb_domain.specs.declared.types.Core.{Core}
use Rattle.gb_domain.specs.declared.types.Halves.{Halves}
use Rattle.gb_domain.specs.Types.{AbsState}
use Rattle.gb_domain.specs.Areas.{is_free_byte}
use Rattle.gb_product.specs.Below.gb_vals.Vals.{single}
use Rattle.gb_product.specs.Below.gb_abs.Cells.{ArePlaced}
use Rattle.gb_product.specs.Below.gb_abs.Located.{sp_halves}
use Rattle.gb_product.specs.Below.gb_abs.Meaning.{Activation, AreItems, Holds, MeansCore}
use Rattle.gb_product.specs.Below.gb_abs.Operations.{core_end, with_core}
use Rattle.gb_product.specs.Below.gb_abs.Stack.{pushed}
use Rattle.gb_product.specs.Below.gb_abs.Storage.{peek}
use Rattle.gb_product.specs.Below.gb_abs_effects.declared.targets.Target.{Target}
use Rattle.gb_product.specs.Below.gb_abs_effects.declared.targets.Target.TheVariants as target
use Rattle.gb_product.specs.Below.gb_abs_effects.declared.writes.AbsWrite.{AbsWrite}
use Rattle.gb_product.specs.Below.gb_abs_effects.declared.writes.AbsWrite.TheVariants as write
use Rattle.gb_product.specs.Below.gb_abs_effects.Sound.{HoldsWrite}
use Rattle.gb_product.specs.Below.gb_abs_effects.Targets.{moves_sp, is_call}
use Rattle.std.proofs.lemmas.Bool.{and_parts}
use Rattle.gb_ops.specs.Machine.{advanced}
use Rattle.gb_successors.specs.declared.stacks.StackMove.{StackMove}
use Rattle.gb_successors.specs.declared.stacks.StackMove.TheVariants as move
use Rattle.gb_successors.specs.Behind.{ended}
use Rattle.gb_successors.specs.Refined.{span_within, with_bits, cut_write}
use Rattle.gb_successors.specs.Refused.{reads_closed_ram, is_read_limited, writes_closed_ram, is_write_limited, is_unstorable}
use Rattle.gb_successors.specs.Sound.{IsAllowed, IsFound, IsReady, IsStackFit, HasRoomFor, bytes_moved, CalledAt, LeadsWidely}
use Rattle.gb_successors.specs.Stacks.{stack_move}
use Rattle.gb_ops.specs.declared.registers.Ime.TheVariants.{Off}
use Rattle.gb_product.specs.Below.gb_summaries.Meaning.{IsAside}
use Rattle.gb_product.proofs.Below.gb_abs_laws.LocationLaws.{located-none}
use Rattle.gb_successors.proofs.AsideLaws.{aside_holds, none_aside, off_left, off_alone, leaves_by, left_where}
use Rattle.gb_successors.proofs.SettledLaws.{HoldSummary-begun, off_begun}
use Rattle.gb_successors.specs.Stacks.{around_of}
use Rattle.gb_successors.specs.Summaries.{aside_behind}
use Rattle.gb_successors.proofs.AroundLaws.{located-same}
use Rattle.gb_product.specs.Below.gb_abs.Meaning.{is_located}
use Rattle.gb_successors.proofs.PlainLaws.{IsPlainWrite, IsPlainWrite-transfer}
use Rattle.gb_successors.proofs.SuccessorLaws.{allowed_read, allowed_write}
use Rattle.gb_successors.proofs.StackWayLaws.{no_write}
use Rattle.gb_successors.proofs.WordLaws.{IsCall-is_call}
use Rattle.gb_successors.proofs.SpMoveLaws.{IsNoStay, no_stay, Puts, IsNoPush, no_push, puts_or_nothing, still_stays, IsMovedTo}
use Rattle.gb_successors.proofs.StackMovedLaws.{put_aside, taken_off, put_on, set_own, set_anew}
use Rattle.gb_successors.proofs.GoingLaws.{GoesTo, main_restarts, restart_target, call_is}
use Rattle.gb_successors.proofs.PossibleLaws.{ready_at}
use Rattle.gb_successors.proofs.Situations.{Situation, next_at, pointer_at, word_at, transferred, effect_at, move_at, parts_at, begun_at, given_at, acted_at, left_at, IsTakenIn, next_small, known_at}
use Rattle.gb_successors.proofs.SituationLaws.{AreWordsIf, follows, sp_small, write_is, pointer_below}
use Rattle.gb_successors.proofs.LandingLaws.{LoadsAt, given_by, part_read, part_write, part_next, keeps_effect, Landed, Leaves, Leaves-quiet, acting, stores_still, Landed-still, Leaves-stored, IsPut, puts, put_state, Landed-put, Leaves-put}
use Rattle.gb_successors.proofs.LeadingLaws.{around_at, target_is, move_is, goes_at, moves_at, loads_at, holds_taken, Landed-moved, LandedAnew, Landed-anew}
use Rattle.gb_successors.specs.StackMark.{marked_write}
use Rattle.gb_successors.proofs.Situations.{marks_at}

no_such : false ≡ true → ⊥
no_such h = cc

-- ---- a plain write

IsPlainWrite-bits : (bits : Option LowBits) (span : Span) → span.last < 65536 → (with_bits bits span).last < 65536
IsPlainWrite-bits None span h = h
IsPlainWrite-bits (Some k) span h = h

IsPlainWrite-cut : (b : Option Bounds) (bits : Option LowBits) (w : AbsWrite) → AreWordsIf b → IsPlainWrite w → IsPlainWrite (cut_write b bits w)
IsPlainWrite-cut None bits (write.Byte span v) h k = IsPlainWrite-bits bits span k
IsPlainWrite-cut (Some b) bits (write.Byte span v) h k = IsPlainWrite-bits bits (span_within (Some b) span) h
IsPlainWrite-cut b bits write.Nothing h k = k
IsPlainWrite-cut b bits (write.Word a low high) h k = k
IsPlainWrite-cut b bits (write.Push high low) h k = k

IsPlainWrite-marked : (w : AbsWrite) (b : Bool) → IsPlainWrite w → IsPlainWrite (marked_write w b)
IsPlainWrite-marked (write.Word a low high) true k = k
IsPlainWrite-marked (write.Word a low high) false k = k
IsPlainWrite-marked (write.Byte span v) b k = k
IsPlainWrite-marked (write.Push high low) b k = k
IsPlainWrite-marked write.Nothing b k = k

plain_at : (c : Situation) → IsTakenIn c → moves_sp c.row.op ≡ false → IsPlainWrite (effect_at c).write
plain_at c k still =
    subst IsPlainWrite (sym (write_is c))
    (IsPlainWrite-marked _ (marks_at c)
    (IsPlainWrite-cut (pointer_at c) (known_at c) (transferred c).write (pointer_below (is_free_byte c.stack.region) c.stack.setting.rules c.row.op c.product.core.registers c.product.relations.pairs k.pairs)
    (IsPlainWrite-transfer c.stack.setting.is_whole c.row.op (next_at c) (sp_halves c.stack.setting c.state) c.product.core (word_at c).low (word_at c).high still k.operands k.core)))

-- ---- by what it does to the stack

-- where SP is put aside behind the move, it lies there
abbrev pub IsAsideAt : Situation → Type 0
IsAsideAt c = IsAside (aside_behind (move_at c) c.state.summary.aside) (acted_at c).processor

-- by what the move is
aside_by : (c : Situation) (m : StackMove) → move_at c ≡ m → IsAside (aside_behind m c.state.summary.aside) (acted_at c).processor → IsAsideAt c
aside_by c m e a = subst (λ n. IsAside (aside_behind n c.state.summary.aside) (acted_at c).processor) (sym e) a

not_aside : (c : Situation) → c.state.summary.aside ≡ None → IsAside c.state.summary.aside (acted_at c).processor
not_aside c e = none_aside c.state.summary.aside (acted_at c).processor e

located_none : (c : Situation) → is_located c.state ≡ true → c.state.summary.aside ≡ None
located_none c h = located-none c.state.summary.aside c.state.core.stack_set h

begun_aside : (c : Situation) → IsTakenIn c → IsAside c.state.summary.aside (advanced c.machine.processor c.row)
begun_aside c k = (HoldSummary-begun c.entry.program c.state.cells c.state.summary c.row c.machine k.stands.means.summary).aside

aside_still : (c : Situation) → IsTakenIn c → moves_sp c.row.op ≡ false → move_at c ≡ move.Stay → IsAside c.state.summary.aside (acted_at c).processor
aside_still c k still stays =
    aside_holds c.row.op c.state.summary.aside (advanced c.machine.processor c.row) (given_at c).low (given_at c).high still
    (subst (λ m. IsReady c.stack c.row.op m c.state c.base) stays (ready_at c k)) (begun_aside c k)

-- interrupts are off where it is put aside
off_where : (c : Situation) → IsTakenIn c → ((around_at c).may_leave ≡ true) ⊎ (is_some (around_at c).aside ≡ true) → (advanced c.machine.processor c.row).ime ≡ Off
unfolding around_of
off_where c k (inl may) =
    off_begun c.row c.machine.processor
    (off_alone c.state.core.ime c.machine.processor.ime (and_parts c.state.core.stack_set _ (and_parts c.stack.setting.is_whole _ may).1).1 k.stands.means.parts.core.ime)
off_where c k (inr some) = by c.state.summary.aside some (begun_aside c k)
  where
    by : (o : Option Bounds) → is_some o ≡ true → IsAside o (advanced c.machine.processor c.row) → (advanced c.machine.processor c.row).ime ≡ Off
    by None h a = cc
    by (Some b) h a = a.off

aside_left : (c : Situation) (b : Bounds) → IsTakenIn c → move_at c ≡ move.Aside b → IsAside (Some b) (acted_at c).processor
aside_left c b k e =
    let moved = sym (move_is c) ∙ e in
    let to : IsMovedTo c.stack c.base (move.Aside b) c.machine.processor.sp (acted_at c).processor.sp =
    subst (λ m. IsMovedTo c.stack c.base m c.machine.processor.sp (acted_at c).processor.sp) e (moves_at c k) in
    record {
      first = to.0;
      last = to.1;
      off = off_left c.row.op (advanced c.machine.processor c.row) (given_at c).low (given_at c).high (leaves_by c.stack (around_at c) c.row.op (effect_at c).write (pointer_at c) b moved)
          (off_where c k (left_where c.stack (around_at c) c.row.op (effect_at c).write (pointer_at c) b moved));
    }

abbrev pub IsNoRestart : StackMove → Type 0
IsNoRestart (move.Restart n) = ⊥
IsNoRestart _ = Unit {0}

-- in the same procedure, in a call of it, or behind it
pub record LandsHere (c : Situation) : Type 0 where
  pub landed : Landed c
  pub leaves : Leaves c
  pub keeps : IsNoRestart (move_at c)
  pub aside : IsAsideAt c

-- in main
pub record LandsAnew (c : Situation) : Type 0 where
  pub count : ℕ
  pub restarts : move_at c ≡ move.Restart count
  pub landed : LandedAnew c
  pub leaves : Leaves c
  pub aside : IsAsideAt c

-- a word that is put on
pub record PutsAt (c : Situation) (i : Halves) : Type 0 where
  pub write_is : (effect_at c).write ≡ write.Push i.high i.low
  pub move_is : move_at c ≡ move.Push i
  pub has : HasRoomFor 2 c.stack.setting c.stack.region c.state c.base

puts_at : (c : Situation) (i : Halves) → IsTakenIn c → (transferred c).write ≡ write.Push i.high i.low → ((b : Option Bounds) → stack_move c.stack (around_at c) c.row.op (write.Push i.high i.low) b ≡ move.Push i) → PutsAt c i
puts_at c i k is moves =
    let written : (effect_at c).write ≡ write.Push i.high i.low = write_is c ∙ ap (λ w. marked_write (cut_write (pointer_at c) (known_at c) w) (marks_at c)) is in
    let moved : move_at c ≡ move.Push i = move_is c ∙ (ap (λ w. stack_move c.stack (around_at c) c.row.op w (pointer_at c)) written ∙ moves (pointer_at c)) in
    record { write_is = written; move_is = moved; has = subst (λ m. IsReady c.stack c.row.op m c.state c.base) moved (ready_at c k) }

abbrev pub IsAllowedAt : Situation → Type 0
IsAllowedAt c = IsAllowed c.stack.setting c.rom c.stack.region c.ranges c.state c.base (parts_at c)

found_at : (c : Situation) → IsTakenIn c → IsAllowedAt c → IsFound (parts_at c).target
found_at c k allowed = subst (λ r. IsStackFit r c.stack.region (parts_at c).target c.state (parts_at c) c.base) k.extended allowed.stack

loads_allowed : (c : Situation) → IsTakenIn c → IsAllowedAt c → LoadsAt c
loads_allowed c k allowed =
    let may = allowed_read c.stack.setting c.rom c.stack.region c.ranges c.state c.base (parts_at c) allowed in
    loads_at c k (found_at c k allowed) (subst (λ r. reads_closed_ram c.rom c.state.core r ≡ false) (part_read c) may.0)
    (subst (λ r. is_read_limited c.stack.region c.state.core r ≡ false) (part_read c) may.1)

lands_still : (c : Situation) → IsTakenIn c → IsAllowedAt c → LoadsAt c → moves_sp c.row.op ≡ false → LandsHere c
lands_still c k allowed l still =
    let may = allowed_write c.stack.setting c.rom c.stack.region c.ranges c.state c.base (parts_at c) allowed in
    let stays : move_at c ≡ move.Stay = move_is c ∙ still_stays c.stack (around_at c) c.row.op (effect_at c).write (pointer_at c) still in
    let st = stores_still c k l still (plain_at c k still)
    (subst (λ w. is_unstorable c.stack.setting (kind_of c.rom) c.stack.region c.ranges w ≡ false) (part_write c) allowed.stores)
    (subst (λ w. writes_closed_ram c.rom c.state.core w ≡ false) (part_write c) may.0)
    (subst (λ w. is_write_limited c.stack.region c.state.core w ≡ false) (part_write c) may.1) in
    record { landed = Landed-still c k stays st; leaves = Leaves-stored c k l st; keeps = subst IsNoRestart (sym stays) tt; aside = aside_by c move.Stay stays (aside_still c k still stays) }

put_at : (c : Situation) (i : Halves) → IsTakenIn c → IsAllowedAt c → LoadsAt c → PutsAt c i → IsPut c i
unfolding is_write_limited
put_at c i k allowed l p =
    puts c i k l p.write_is p.has
    (subst (λ w. is_write_limited c.stack.region c.state.core w ≡ false) (part_write c ∙ p.write_is) (allowed_write c.stack.setting c.rom c.stack.region c.ranges c.state c.base (parts_at c) allowed).1)

lands_put : (c : Situation) (i : Halves) → IsTakenIn c → IsAllowedAt c → LoadsAt c → PutsAt c i → LandsHere c
lands_put c i k allowed l p =
    let put = put_at c i k allowed l p in
    record { landed = Landed-put c i k put p.write_is p.move_is p.has; leaves = Leaves-put c i k l put; keeps = subst IsNoRestart (sym p.move_is) tt; aside = aside_by c (move.Push i) p.move_is (not_aside c (located_none c p.has.located)) }

-- nothing is written
silent : (c : Situation) → IsTakenIn c → LoadsAt c → (effect_at c).write ≡ write.Nothing → (acted_at c).write ≡ machine_write.Nothing
silent c k l quiet =
    no_write c.entry (begun_at c).processor.sp (acted_at c).write
    (subst (λ w. HoldsWrite w c.entry (begun_at c).processor.sp (acted_at c).write) quiet (follows c (given_at c).low (given_at c).high k (given_by c k l)).write)

acting_core : (c : Situation) → IsTakenIn c → LoadsAt c → MeansCore (effect_at c).core c.entry (acting c)
acting_core c k l = (follows c (given_at c).low (given_at c).high k (given_by c k l)).core

append_ready : (c : Situation) (n : ℕ) → IsTakenIn c → move_at c ≡ move.Append n → HasRoomFor n c.stack.setting c.stack.region c.state c.base
append_ready c n k e = subst (λ m. IsReady c.stack c.row.op m c.state c.base) e (ready_at c k)

lands_moved : (c : Situation) (m : StackMove) → IsTakenIn c → IsFound (parts_at c).target → LoadsAt c → moves_sp c.row.op ≡ true → (effect_at c).write ≡ write.Nothing → move_at c ≡ m → IsNoPush m × IsNoStay m
    → LandsHere c ⊎ LandsAnew c
lands_moved c move.Stay k found l moves quiet e none = absurd none.1
lands_moved c (move.Push w) k found l moves quiet e none = absurd none.0
lands_moved c (move.Take n) k found l moves quiet e none =
    let s = silent c k l quiet in
    inl (record {
      landed = Landed-moved c (move.Take n) e quiet s
          (taken_off c.stack.setting c.stack.region n c.state (effect_at c).core c.entry c.base c.machine (acted_at c).processor k.stands.means.parts (acting_core c k l) (keeps_effect c k).stack
          (holds_taken c n k found e) k.stands.room k.stands.is_region (subst (λ m. IsMovedTo c.stack c.base m c.machine.processor.sp (acted_at c).processor.sp) e (moves_at c k)));
      leaves = Leaves-quiet c k l s;
      keeps = subst IsNoRestart (sym e) tt;
      aside = aside_by c (move.Take n) e (not_aside c (located_none c (holds_taken c n k found e).located));
    })
lands_moved c (move.Append n) k found l moves quiet e none =
    let s = silent c k l quiet in
    inl (record {
      landed = Landed-moved c (move.Append n) e quiet s
          (put_on c.stack.setting c.stack.region n c.state (effect_at c).core c.entry c.base c.machine (acted_at c).processor k.stands.means.parts (acting_core c k l)
          (subst (λ m. IsReady c.stack c.row.op m c.state c.base) e (ready_at c k)) k.stands.is_region (subst (λ m. IsMovedTo c.stack c.base m c.machine.processor.sp (acted_at c).processor.sp) e (moves_at c k)));
      leaves = Leaves-quiet c k l s;
      keeps = subst IsNoRestart (sym e) tt;
      aside = aside_by c (move.Append n) e (not_aside c (located_none c (append_ready c n k e).located));
    })
lands_moved c (move.Set n) k found l moves quiet e none =
    let s = silent c k l quiet in
    inl (record {
      landed = Landed-moved c (move.Set n) e quiet s
          (set_own c.stack n c.state (effect_at c).core c.entry c.base c.machine (acted_at c).processor k.extended k.stands.means.parts (acting_core c k l)
          (subst (λ m. IsReady c.stack c.row.op m c.state c.base) e (ready_at c k)) k.stands.is_region (subst (λ m. IsMovedTo c.stack c.base m c.machine.processor.sp (acted_at c).processor.sp) e (moves_at c k)));
      leaves = Leaves-quiet c k l s;
      keeps = subst IsNoRestart (sym e) tt;
      aside = aside_by c (move.Set n) e tt;
    })
lands_moved c (move.Restart n) k found l moves quiet e none =
    let s = silent c k l quiet in
    inr (record {
      count = n;
      restarts = e;
      landed = Landed-anew c n e quiet s
          (λ other same.
          set_anew c.stack n c.state (effect_at c).core c.entry other c.base c.machine (acted_at c).processor same k.extended k.stands.means.parts (acting_core c k l)
          (subst (λ m. IsReady c.stack c.row.op m c.state c.base) e (ready_at c k)) k.stands.is_region (subst (λ m. IsMovedTo c.stack c.base m c.machine.processor.sp (acted_at c).processor.sp) e (moves_at c k)));
      leaves = Leaves-quiet c k l s;
      aside = aside_by c (move.Restart n) e tt;
    })
lands_moved c (move.Aside b) k found l moves quiet e none =
    let s = silent c k l quiet in
    inl (record {
      landed = Landed-moved c (move.Aside b) e quiet s
          (put_aside c.stack b c.state (effect_at c).core c.entry c.base c.machine (acted_at c).processor k.stands.means.parts (acting_core c k l) k.stands.room
          (sp_small c (given_at c).low (given_at c).high k (given_by c k l)));
      leaves = Leaves-quiet c k l s;
      keeps = subst IsNoRestart (sym e) tt;
      aside = aside_by c (move.Aside b) e (aside_left c b k e);
    })
lands_moved c move.Lost k found l moves quiet e none = absurd (subst (λ m. IsReady c.stack c.row.op m c.state c.base) e (ready_at c k))

-- HL's bounds are known
points_by : (r : Rules) (o : Op) (vals : Registers Val) (s : Pairs) → r ≡ Extended → o ≡ op.LoadSpHl → is_some (pointer_bounds r o vals s) ≡ true
unfolding pointer_bounds pointer_of
points_by Extended o vals s h e = ap (λ q. is_some (bounds_if (pointer_of q) (values_of vals s))) e
points_by Simple o vals s h e = absurd (let bad : Simple ≡ Extended = h in cc)

points_at : (c : Situation) → IsTakenIn c → c.row.op ≡ op.LoadSpHl → is_some (pointer_at c) ≡ true
points_at c k e = points_by c.stack.setting.rules c.row.op c.product.core.registers c.product.relations.pairs k.extended e

lands : (c : Situation) → IsTakenIn c → IsAllowedAt c → LoadsAt c → LandsHere c ⊎ LandsAnew c
lands c k allowed l = by_sp (moves_sp c.row.op) refl
  where
    by_write : moves_sp c.row.op ≡ true → Puts c.stack (around_at c) c.row.op (next_at c) (sp_halves c.stack.setting c.state) c.product.core (word_at c).low (word_at c).high ⊎ ((transferred c).write ≡ write.Nothing)
        → LandsHere c ⊎ LandsAnew c
    by_write moves (inl p) = inl (lands_put c p.value k allowed l (puts_at c p.value k p.write_is p.move_is))
    by_write moves (inr nothing) =
        let quiet : (effect_at c).write ≡ write.Nothing = write_is c ∙ ap (λ w. marked_write (cut_write (pointer_at c) (known_at c) w) (marks_at c)) nothing in
        lands_moved c (move_at c) k (found_at c k allowed) l moves quiet refl
        (subst (λ m. IsNoPush m × IsNoStay m) (sym (move_is c ∙ ap (λ w. stack_move c.stack (around_at c) c.row.op w (pointer_at c)) quiet)) (
          no_push c.stack (around_at c) c.row.op (pointer_at c),
          no_stay c.stack (around_at c) c.row.op (next_at c) (sp_halves c.stack.setting c.state) c.product.core (word_at c).low (word_at c).high (pointer_at c) k.extended moves nothing (λ hl. points_at c k hl),
        ))

    by_sp : (b : Bool) → moves_sp c.row.op ≡ b → LandsHere c ⊎ LandsAnew c
    by_sp false e = inl (lands_still c k allowed l e)
    by_sp true e = by_write e (puts_or_nothing c.stack (around_at c) c.row.op (next_at c) (sp_halves c.stack.setting c.state) c.product.core (word_at c).low (word_at c).high k.extended e)

-- ---- a call

-- the two newest items
record AreNewest (i : Halves) (entry : Activation) (sp : ℕ) (s : Storage) : Type 0 where
  high : Holds i.high entry (peek s (sp + 1))
  low : Holds i.low entry (peek s sp)

newest : (items : List Val) (i : Halves) (entry : Activation) (top sp : ℕ) (s : Storage) → AreItems (items ++ i.high ∷ i.low ∷ []) entry top s → sp + (length items + 2) ≡ top → AreNewest i entry sp s
newest [] i entry top sp s h e =
    let one : top - 1 ≡ sp + 1 = omega arith in
    let two : top - 1 - 1 ≡ sp = omega arith in
    record { high = subst (λ n. Holds i.high entry (peek s n)) one h.0; low = subst (λ n. Holds i.low entry (peek s n)) two h.1.0 }
newest (v ∷ items) i entry top sp s h e = newest items i entry (top - 1) sp s h.1 (omega arith)

single_is : (n v : ℕ) (entry : Activation) → Holds (single n) entry v → v ≡ n
single_is n v entry h =
    let least = h.least in
    let most = h.most in
    omega arith

whole_word : (n high low : ℕ) → high ≡ n / 256 → low ≡ n % 256 → word high low ≡ n
whole_word n high low h l = omega arith

put_items : (n : ℕ) (i : Halves) (s : AbsState) → (ended false n (pushed i s)).items ≡ s.items ++ i.high ∷ i.low ∷ []
unfolding ended pushed
put_items n i s = refl

put_set : (n : ℕ) (i : Halves) (s : AbsState) → is_located (ended false n (pushed i s)) ≡ is_located s
unfolding ended pushed core_end
put_set n i s = refl

put_cells : (n : ℕ) (i : Halves) (s : AbsState) → (ended false n (pushed i s)).cells ≡ s.cells
unfolding ended pushed
put_cells n i s = refl

same_high : (a b c d : Val) → write.Push a b ≡ write.Push c d → a ≡ c
same_high a b c d e = cc

same_low : (a b c d : Val) → write.Push a b ≡ write.Push c d → b ≡ d
same_low a b c d e = cc

call_moves : (o : Op) → is_call o ≡ true → moves_sp o ≡ true
call_moves (op.CallIf condition a) h = refl
call_moves (op.Call a) h = refl
call_moves (op.Restart a) h = refl
call_moves o h = absurd (no_such h)

calls : (c : Situation) (a : ℕ) → IsTakenIn c → LandsHere c → (parts_at c).target ≡ target.Call a → (left_at c).processor.pc ≡ a → CalledAt c.stack.region a (parts_at c) c.entry c.base (left_at c)
calls c a k here to goes =
    let is = call_is c.stack.setting c.row.op (next_at c) (word_at c) c.product.core (pointer_at c) _ a (sym (target_is c k) ∙ to) in
    by (IsCall-is_call c.stack.setting c.row.op (next_at c) (sp_halves c.stack.setting c.state) c.product.core (word_at c).low (word_at c).high is).write_is
    (puts_or_nothing c.stack (around_at c) c.row.op (next_at c) (sp_halves c.stack.setting c.state) c.product.core (word_at c).low (word_at c).high k.extended (call_moves c.row.op is))
  where
    by : (transferred c).write ≡ write.Push (single (next_at c / 256)) (single (next_at c % 256))
        → Puts c.stack (around_at c) c.row.op (next_at c) (sp_halves c.stack.setting c.state) c.product.core (word_at c).low (word_at c).high ⊎ ((transferred c).write ≡ write.Nothing)
        → CalledAt c.stack.region a (parts_at c) c.entry c.base (left_at c)
    by written (inr nothing) = absurd (let bad : write.Push (single (next_at c / 256)) (single (next_at c % 256)) ≡ write.Nothing = sym written ∙ nothing in cc)
    by written (inl p) =
        let i : Halves = p.value in
        let put = puts_at c i k p.write_is p.move_is in
        let same = sym p.write_is ∙ written in
        let state = put_state c i put.write_is put.move_is put.has.held in
        let core : Core = (effect_at c).core in
        let items : (parts_at c).state.items ≡ c.state.items ++ i.high ∷ i.low ∷ [] = ap (λ (s : AbsState). s.items) state ∙ put_items c.row.cycles i (with_core c.state core) in
        let set : is_located (parts_at c).state ≡ true =
        ap is_located state
        ∙ (put_set c.row.cycles i (with_core c.state core) ∙ located-same c.state.summary.aside core.stack_set c.state.core.stack_set (keeps_effect c k).stack put.has.located) in
        let stack : (left_at c).processor.sp + (length c.state.items + 2) ≡ c.base =
        subst (λ n. (left_at c).processor.sp + n ≡ c.base) (ap length items ∙ length-append c.state.items (i.high ∷ i.low ∷ [])) (here.landed.means.stack set) in
        let two = newest c.state.items i c.entry c.base (left_at c).processor.sp (left_at c).storage (subst (λ xs. AreItems xs c.entry c.base (left_at c).storage) items here.landed.means.items) stack in
        let high = single_is (next_at c / 256) _ c.entry (subst (λ v. Holds v c.entry (peek (left_at c).storage ((left_at c).processor.sp + 1))) (same_high _ _ _ _ same) two.high) in
        let low = single_is (next_at c % 256) _ c.entry (subst (λ v. Holds v c.entry (peek (left_at c).storage (left_at c).processor.sp)) (same_low _ _ _ _ same) two.low) in
        record {
          means = here.landed.means;
          goes = goes;
          room = here.landed.room;
          located = set;
          next = subst (λ n. n < 65536) (sym (part_next c)) (next_small c);
          top = whole_word (next_at c) _ _ high low ∙ sym (part_next c);
          placed = subst (λ cells. ArePlaced c.stack.region cells) (sym (ap (λ (s : AbsState). s.cells) state ∙ put_cells c.row.cycles i (with_core c.state core))) k.stands.placed;
        }

-- ---- all of it

-- the parts of the states behind lead where it is said; whatever they are, it leaves memory so, without a fault
pub record DoneAt (c : Situation) : Type 0 where
  pub to : LeadsWidely c.stack.setting c.stack.region (parts_at c).target (parts_at c) c.entry c.base (left_at c)
  pub leaves : Leaves c
  pub bytes : length (parts_at c).state.items ≡ bytes_moved (move_at c) (length c.state.items)
  pub loads : LoadsAt c
  pub aside : IsAsideAt c

leads_here : (c : Situation) (w : Target) → IsTakenIn c → LandsHere c → (parts_at c).target ≡ w → GoesTo c.stack.setting.is_main w c.entry (left_at c).processor.pc
    → LeadsWidely c.stack.setting c.stack.region w (parts_at c) c.entry c.base (left_at c)
leads_here c (target.At a) k here e goes = record { means = here.landed.means; goes = goes; room = here.landed.room }
leads_here c (target.Call a) k here e goes = calls c a k here e goes
leads_here c target.Return k here e goes = record { means = here.landed.means; goes = goes.0; room = here.landed.room; procedure = goes.1 }
leads_here c (target.Main a) k here e goes =
    absurd (main_restarts c.stack.setting c.row.op (next_at c) (word_at c) c.product.core (pointer_at c) _ a
    (λ n f. subst IsNoRestart (move_is c ∙ f) here.keeps) (sym (target_is c k) ∙ e))
leads_here c target.Unknown k here e goes = tt
leads_here c target.Lost k here e goes = tt

leads_anew : (c : Situation) → IsTakenIn c → LandsAnew c → GoesTo c.stack.setting.is_main (parts_at c).target c.entry (left_at c).processor.pc
    → LeadsWidely c.stack.setting c.stack.region (parts_at c).target (parts_at c) c.entry c.base (left_at c)
leads_anew c k anew goes =
    let main : (parts_at c).target ≡ target.Main (next_at c) =
    target_is c k ∙ restart_target c.stack (around_at c) c.row.op (effect_at c).write (pointer_at c) (next_at c) (word_at c) c.product.core anew.count (sym (move_is c) ∙ anew.restarts) in
    subst (λ w. LeadsWidely c.stack.setting c.stack.region w (parts_at c) c.entry c.base (left_at c)) (sym main)
    (record { means = anew.landed.means; goes = subst (λ w. GoesTo c.stack.setting.is_main w c.entry (left_at c).processor.pc) main goes; room = anew.landed.room })

pub done_at : (c : Situation) → IsTakenIn c → IsAllowedAt c → DoneAt c
done_at c k allowed =
    let l = loads_allowed c k allowed in
    by l (goes_at c k l) (lands c k allowed l)
  where
    by : LoadsAt c → GoesTo c.stack.setting.is_main (parts_at c).target c.entry (left_at c).processor.pc → LandsHere c ⊎ LandsAnew c → DoneAt c
    by l goes (inl here) = record { to = leads_here c _ k here refl goes; leaves = here.leaves; bytes = here.landed.bytes; loads = l; aside = here.aside }
    by l goes (inr anew) = record { to = leads_anew c k anew goes; leaves = anew.leaves; bytes = anew.landed.bytes; loads = l; aside = anew.aside }
