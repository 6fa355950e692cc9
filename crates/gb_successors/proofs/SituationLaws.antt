-- What an instruction does is followed by the rules of version 3: what is known of what it reads, what its registers and pairs
-- say of its effect, and what is known together behind it.
use Rattle.std.proofs.Common.{◌≡◌, ℕ, ◌+◌, ◌/◌, ◌%◌, ◌≤◌, ◌<◌, Bool, true, false, length, Option, Some, None, refl, sym, ◌∙◌, ap, subst, arith}
use Rattle.std.specs.Prelude.{IfSome}
use Rattle.gb_ops.specs.declared.machine.Read.{Read}
use Rattle.gb_ops.specs.declared.machine.Read.TheVariants as machine_read
use Rattle.gb_ops.specs.declared.machine.Write.{Write}
use Rattle.gb_ops.specs.declared.machine.Write.TheVariants as machine_write
use Rattle.gb_ops.specs.declared.op.Register.{Register}
use Rattle.gb_ops.specs.declared.registers.Registers.{Registers}
use Rattle.gb_ops.specs.declared.op.Op.{Op}
use Rattle.gb_ops.specs.Effects as Effects
use Rattle.gb_ops.specs.Machine.{advanced}
use Rattle.gb_ops.specs.Play.{MState}
use Rattle.gb_domain.specs.declared.low_bits.LowBits.{LowBits}
use Rattle.gb_product.specs.Below.gb_abs.declared.span.Span.{Span}
use Rattle.gb_domain.specs.declared.pairs.Bounds.{Bounds}
use Rattle.gb_domain.specs.declared.pairs.Pairs.{Pairs}
use Rattle.gb_domain.specs.declared.pairs.WordPair.{WordPair}
use Rattle.gb_domain.specs.declared.pairs.WordPair.TheVariants as pairs
use Rattle.gb_domain.specs.declared.rules.Rules.{Rules}
use Rattle.gb_domain.specs.declared.rules.Rules.TheVariants.{Simple, Extended}
use Rattle.gb_domain.specs.declared.types.Val.{Val}
use Rattle.gb_domain.specs.declared.types.Core.{Core}
use Rattle.gb_domain.specs.Pairs.{ArePairs}
use Rattle.gb_domain.specs.Rules.{IsVal, IsWord}
use Rattle.gb_domain.specs.Areas.{is_free_byte}
use Rattle.gb_product.specs.Below.gb_vals.Flags.{known}
use Rattle.gb_product.specs.Below.gb_vals.Meaning.{may_be}
use Rattle.gb_product.specs.Below.gb_abs.Storage.{peek}
use Rattle.gb_product.specs.Below.gb_abs.Located.{sp_halves, sp_bounds, bounds_by, sp_bounds_by, stack_base, IsSpWithin}
use Rattle.gb_product.specs.Below.gb_abs.Meaning.{Activation, Holds, MeansCore}
use Rattle.gb_product.proofs.Below.gb_abs_laws.LocatedLaws.{halves_sound, bounds_sound}
use Rattle.gb_product.specs.Below.gb_abs_effects.declared.reads.AbsRead.{AbsRead}
use Rattle.gb_product.specs.Below.gb_abs_effects.declared.reads.AbsRead.TheVariants as read
use Rattle.gb_product.specs.Below.gb_abs_effects.declared.writes.AbsWrite.{AbsWrite}
use Rattle.gb_product.specs.Below.gb_abs_effects.declared.writes.AbsWrite.TheVariants as write
use Rattle.gb_product.specs.Below.gb_abs_effects.declared.writes.AbsEffect.{AbsEffect}
use Rattle.gb_product.specs.Below.gb_abs_effects.Accesses.{read_of}
use Rattle.gb_product.specs.Below.gb_abs_effects.Sound as effects
use Rattle.gb_product.specs.Below.gb_abs_effects.Sound.{HoldsRead, HoldsWrite, IsReadAt, IsWrite, IsWrittenAt, IsAbsEffect, Follows, Begins}
use Rattle.gb_ops.specs.Registers.{get}
use Rattle.gb_product.specs.Below.gb_abs.Span.{IsIn}
use Rattle.gb_product.specs.Below.gb_vals.Meaning.{In}
use Rattle.gb_product.proofs.Below.gb_abs_effects_laws.CoreLaws.{In-from, byte-of}
use Rattle.gb_product.proofs.Below.gb_abs_effects_laws.ReadLaws.{read_of_sound, read_of_at}
use Rattle.gb_product.proofs.Below.gb_abs_effects_laws.RangeLaws.{transfer_inhabited}
use Rattle.gb_product.proofs.Below.gb_abs_effects_laws.TransferLaws.{transfer_sound}
use Rattle.gb_product.specs.Below.gb_pairs.Meaning.{AreBytes}
use Rattle.gb_product.specs.Below.gb_pairs.Meaning as pair_meaning
use Rattle.gb_product.specs.Below.gb_relations.Meaning.{HoldRelations}
use Rattle.gb_product.specs.Below.gb_relations.Pointers.{pointer_of as pair_of, bounds_if, pointer_bounds, WithinIf, ReadsWithin, WritesWithin, IsIfKnown}
use Rattle.gb_product.specs.Below.gb_relations.PointedBits.{HasIf, WritesHas}
use Rattle.gb_product.proofs.Below.gb_relations_laws.PointedBitsLaws.{known_bits_sound}
use Rattle.gb_product.specs.Below.gb_relations.Sound as relations
use Rattle.gb_product.specs.Below.gb_relations.Transfer.{values_of}
use Rattle.gb_product.proofs.Below.gb_relations_laws.PointerLaws.{pointer_bounds_sound, known_carry_sound}
use Rattle.gb_product.proofs.Below.gb_relations_laws.TransferLaws.{relations_after_sound}
use Rattle.gb_product.proofs.Below.gb_relations_laws.Below.gb_pairs_laws.KeptLaws.{bounds_of_below}
use Rattle.gb_product.specs.Below.gb_abs.Operations.{with_core}
use Rattle.gb_product.specs.Meaning.{entered_with, beside, IsSummarized}
use Rattle.gb_product.proofs.MeaningLaws.{AreBytes-core}
use Rattle.gb_product.proofs.ReducedLaws.{Holds-values}
use Rattle.gb_successors.specs.Refined.{span_within, with_bits, cut_read, cut_write, with_carry, refined}
use Rattle.gb_successors.specs.Successors.{effect_in, relations_behind}
use Rattle.gb_ops.specs.Pointers.{pointer_of}
use Rattle.gb_ops.proofs.PointerLaws.{follows as follows_pointers}
use Rattle.gb_successors.proofs.AroundLaws.{IsSpWithin-aside, HoldsRead-around, IsReadAt-around}
use Rattle.gb_successors.proofs.LoadedLaws.{HasRead, HasRead-pointed, is_word_by}
use Rattle.gb_successors.proofs.RamLaws.{ram_at, ram_is, HoldRelations-ram}
use Rattle.gb_successors.proofs.SettledLaws.{HoldSummary-begun}
use Rattle.gb_successors.proofs.RelatedLaws.{has_operands}
use Rattle.gb_successors.proofs.SuccessorLaws.{begun_pc, begun_sp, IsWord-sp}
use Rattle.gb_successors.proofs.Situations.{Situation, next_at, pointer_at, read_at, bits_at, known_at, word_at, transferred, effect_at, carry_at, begun_at, given_at, effect_by, IsTakenIn, next_small, related_at, held_at}
use Rattle.std.proofs.lemmas.Bool.{and_parts}
use Rattle.gb_ops.specs.declared.op.Register.TheVariants.{H, L}
use Rattle.gb_product.specs.Below.gb_abs.Meaning.{is_located}
use Rattle.gb_product.specs.Held.{stack_held}
use Rattle.gb_successors.specs.StackMark.{takes_mark, is_whole_by, is_known, marks, marked_write, marked_core, marked}
use Rattle.gb_successors.proofs.StackMarkLaws.{Takes, takes, few_held, MeansCore-marked, HoldsWrite-marked}
use Rattle.gb_successors.proofs.Situations.{marks_at}

-- ---- addresses within a pair's bounds

HoldsRead-cut : (b : Option Bounds) (r : AbsRead) (sp : ℕ) (m : Read) → HoldsRead r sp m → ReadsWithin b m → HoldsRead (cut_read b r) sp m
HoldsRead-cut None (read.Byte span) sp m h w = h
HoldsRead-cut (Some b) (read.Byte span) sp (machine_read.Byte a) h w = record { first = w.least; last = w.most; low = h.low }
HoldsRead-cut (Some b) (read.Byte span) sp machine_read.Nothing h w = h
HoldsRead-cut (Some b) (read.Byte span) sp (machine_read.Word a) h w = h
HoldsRead-cut b read.Nothing sp m h w = h
HoldsRead-cut b read.Top sp m h w = h
HoldsRead-cut b (read.Word span) sp m h w = h

IsIn-within : (b : Option Bounds) (span : Span) (a : ℕ) → IsIn span a → WithinIf b a → IsIn (span_within b span) a
IsIn-within None span a i w = i
IsIn-within (Some b) span a i w = record { first = w.least; last = w.most; low = i.low }

IsIn-bits : (k : Option LowBits) (span : Span) (a : ℕ) → IsIn span a → HasIf k a → IsIn (with_bits k span) a
IsIn-bits None span a i h = i
IsIn-bits (Some k) span a i h = record { first = i.first; last = i.last; low = h }

HoldsWrite-cut :
    (b : Option Bounds) (k : Option LowBits) (w : AbsWrite) (entry : Activation) (sp : ℕ) (m : Write)
    → HoldsWrite w entry sp m → WritesWithin b m → WritesHas k m → HoldsWrite (cut_write b k w) entry sp m
HoldsWrite-cut b k (write.Byte span v) entry sp (machine_write.Byte a n) h w has = (IsIn-bits k (span_within b span) a (IsIn-within b span a h.0 w) has, h.1, h.2)
HoldsWrite-cut b k (write.Byte span v) entry sp machine_write.Nothing h w has = absurd h
HoldsWrite-cut b k (write.Byte span v) entry sp (machine_write.Word a n) h w has = absurd h
HoldsWrite-cut b k (write.Byte span v) entry sp (machine_write.Push a n) h w has = absurd h
HoldsWrite-cut b k write.Nothing entry sp m h w has = h
HoldsWrite-cut b k (write.Word a low high) entry sp m h w has = h
HoldsWrite-cut b k (write.Push high low) entry sp m h w has = h

-- the bounds are words
abbrev pub AreWordsIf : Option Bounds → Type 0
AreWordsIf b = IfSome b (λ (c : Bounds). c.last < 65536)

pub pointer_below : (may_be : ℕ → Bool) (rules : Rules) (o : Op) (vals : Registers Val) (s : Pairs) → ArePairs may_be s → AreWordsIf (pointer_bounds rules o vals s)
unfolding pointer_bounds
pointer_below may_be Simple o vals s h = tt
pointer_below may_be Extended o vals s h = by (pair_of o)
  where
    by : (p : Option WordPair) → AreWordsIf (bounds_if p (values_of vals s))
    by None = tt
    by (Some p) = bounds_of_below may_be p (values_of vals s) h

IsReadAt-cut : (b : Option Bounds) (r : AbsRead) → AreWordsIf b → IsReadAt r → IsReadAt (cut_read b r)
IsReadAt-cut None (read.Byte span) h k = k
IsReadAt-cut (Some b) (read.Byte span) h k = h
IsReadAt-cut b read.Nothing h k = k
IsReadAt-cut b read.Top h k = k
IsReadAt-cut b (read.Word span) h k = k

pub IsWrite-cut : (b : Option Bounds) (bits : Option LowBits) (w : AbsWrite) → IsWrite w → IsWrite (cut_write b bits w)
IsWrite-cut b bits (write.Byte span v) k = k
IsWrite-cut b bits write.Nothing k = k
IsWrite-cut b bits (write.Word a low high) k = k
IsWrite-cut b bits (write.Push high low) k = k

-- ---- as it begins

-- registers and pairs hold
pub values_hold : (c : Situation) → IsTakenIn c → pair_meaning.Holds (values_of c.product.core.registers c.product.relations.pairs) (beside c.entry (begun_at c)) (begun_at c).processor.registers
values_hold c k = Holds-values c.product.core c.product.relations c.entry (begun_at c) k.means k.related

pub bytes_begun : (c : Situation) → IsTakenIn c → AreBytes (begun_at c).processor.registers
bytes_begun c k = AreBytes-core c.product.core c.entry (begun_at c) k.core k.means

-- so does what is said of the whole program
pub said_begun : (c : Situation) → IsTakenIn c → IsSummarized (with_core c.state c.product.core) c.entry (begun_at c)
said_begun c k = HoldSummary-begun c.entry.program c.state.cells c.state.summary c.row c.machine k.stands.means.summary

-- SP lies within its bounds, where it is put aside
pub sp_within : (c : Situation) → IsTakenIn c → IsSpWithin c.state.summary.aside c.machine.processor.sp
sp_within c k = IsSpWithin-aside c.state.summary.aside c.machine.processor k.stands.means.summary.aside

-- what the machine reads
pub read_holds : (c : Situation) → IsTakenIn c → HoldsRead (read_at c) (begun_at c).processor.sp (Effects.read_of c.row.op (advanced c.machine.processor c.row))
read_holds c k =
    HoldsRead-around c.stack.setting.rules c.state.summary.aside c.row.op (pointer_at c) c.product.core (begun_at c).processor.sp _
    (subst (IsSpWithin c.state.summary.aside) (sym (begun_sp c.row c.machine)) (sp_within c k))
    (HoldsRead-cut (pointer_at c) (read_of c.row.op c.product.core) (begun_at c).processor.sp _
    ((read_of_sound c.row.op c.product.core _ refl).gives c.entry (begun_at c) (given_at c).low (given_at c).high k.means k.taken)
    ((pointer_bounds_sound c.stack.setting.rules c.row.op c.product.core.registers c.product.relations.pairs _ refl).reads (beside c.entry (begun_at c)) (advanced c.machine.processor c.row) (values_hold c k)))

-- it has the low bits of its pointer
pub read_has : (c : Situation) → IsTakenIn c → HasRead (bits_at c) (Effects.read_of c.row.op (advanced c.machine.processor c.row))
read_has c k =
    HasRead-pointed (pointer_of c.row.op) c.product.core.registers c.entry (advanced c.machine.processor c.row) (Effects.read_of c.row.op (advanced c.machine.processor c.row))
    (effect_by c (given_at c).low (given_at c).high).write k.means.registers (bytes_begun c k) (follows_pointers c.row.op (advanced c.machine.processor c.row) (given_at c).low (given_at c).high)

pub read_placed : (c : Situation) → IsTakenIn c → IsReadAt (read_at c)
read_placed c k =
    IsReadAt-around c.stack.setting.rules c.state.summary.aside c.row.op _ k.stands.aside
    (IsReadAt-cut (pointer_at c) (read_of c.row.op c.product.core) (pointer_below (is_free_byte c.stack.region) c.stack.setting.rules c.row.op c.product.core.registers c.product.relations.pairs k.pairs)
    (read_of_at c.row.op c.product.core _ refl k.operands k.core))

pub is_word_at : (c : Situation) → IsTakenIn c → IsWord (word_at c)
is_word_at c k =
    is_word_by c.stack.setting.rules c.stack.setting c.stack.region c.entry.program c.rom (values_of c.product.core.registers c.product.relations.pairs) (bits_at c) c.state c.product.core (read_at c)
    k.core.ie k.stands.vals k.stands.items k.stands.cartridge.bytes

pub transferred_is : (c : Situation) → IsTakenIn c → IsAbsEffect (transferred c)
transferred_is c k =
    let word = is_word_at c k in
    transfer_inhabited c.stack.setting.is_whole c.row.op (next_at c) (sp_halves c.stack.setting c.state) c.product.core (word_at c).low (word_at c).high (transferred c) refl k.operands (next_small c) k.core word.low word.high
    (IsWord-sp c.stack.setting c.state c.entry c.base c.machine k.stands.based k.stands.means.parts (sp_within c k))

-- ---- the effect, by pairs too

pub effect_is : (c : Situation) → effect_at c ≡ marked (marks_at c) c.row.op (refined (pointer_at c) (known_at c) (carry_at c) (transferred c))
unfolding effect_in
effect_is c = refl

marked_parts : (b : Bool) (o : Op) (t : AbsEffect) → ((marked b o t).core ≡ marked_core o b t.core) × ((marked b o t).write ≡ marked_write t.write b)
unfolding marked
marked_parts b o t = (refl, refl)

pub refined_core : (b : Option Bounds) (k : Option LowBits) (carry : Option Bool) (t : AbsEffect) → (refined b k carry t).core ≡ with_carry carry t.core
unfolding refined
refined_core b k carry t = refl

pub refined_write : (b : Option Bounds) (k : Option LowBits) (carry : Option Bool) (t : AbsEffect) → (refined b k carry t).write ≡ cut_write b k t.write
unfolding refined
refined_write b k carry t = refl

pub write_is : (c : Situation) → (effect_at c).write ≡ marked_write (cut_write (pointer_at c) (known_at c) (transferred c).write) (marks_at c)
write_is c =
    ap (λ (t : AbsEffect). t.write) (effect_is c) ∙ ((marked_parts (marks_at c) c.row.op _).1 ∙ ap (λ w. marked_write w (marks_at c)) (refined_write (pointer_at c) (known_at c) (carry_at c) (transferred c)))

pub core_is : (c : Situation) → (effect_at c).core ≡ marked_core c.row.op (marks_at c) (with_carry (carry_at c) (transferred c).core)
core_is c =
    ap (λ (t : AbsEffect). t.core) (effect_is c) ∙ ((marked_parts (marks_at c) c.row.op _).0 ∙ ap (marked_core c.row.op (marks_at c)) (refined_core (pointer_at c) (known_at c) (carry_at c) (transferred c)))

carry_known : (b : Bool) → may_be (known b) b ≡ true
carry_known true = refl
carry_known false = refl

MeansCore-carry : (carry : Option Bool) (core : Core) (entry : Activation) (x : MState) → IsIfKnown carry x.processor.flags.carry → MeansCore core entry x → MeansCore (with_carry carry core) entry x
MeansCore-carry None core entry x h m = m
MeansCore-carry (Some b) core entry x h m =
    record {
      registers = m.registers;
      flags = record {
        zero = m.flags.zero;
        subtract = m.flags.subtract;
        half_carry = m.flags.half_carry;
        carry = subst (λ n. may_be (known b) n ≡ true) (sym h) (carry_known b);
        own = m.flags.own;
      };
      ie = m.ie;
      ime = m.ime;
      controller = m.controller;
      count = m.count;
      locked = m.locked;
      stopped = m.stopped;
    }

-- SP's bounds are words
pub sp_below : (c : Situation) → IsTakenIn c → (sp_bounds c.stack.setting c.state).last < 65536
unfolding sp_bounds
sp_below c k =
    let known = bounds_sound c.stack.setting c.state (sp_bounds c.stack.setting c.state) refl in
    by_aside c.state.summary.aside k.stands.aside (known.first c.entry c.base c.machine k.stands.based k.stands.means.parts (sp_within c k))
  where
    by : (o : Option ℕ) → (bounds_by o (length c.state.items)).first ≤ c.machine.processor.sp → (bounds_by o (length c.state.items)).last < 65536
    by None h = omega arith
    by (Some b) h = let small = k.stands.means.parts.sp in omega arith

    by_aside :
        (a : Option Bounds) → IfSome a (λ b. b.last < 65536) → (sp_bounds_by a (stack_base c.stack.setting c.state.core) (length c.state.items)).first ≤ c.machine.processor.sp
        → (sp_bounds_by a (stack_base c.stack.setting c.state.core) (length c.state.items)).last < 65536
    by_aside None e h = by (stack_base c.stack.setting c.state.core) h
    by_aside (Some b) e h = e

-- bytes that what is known of its reads stands for
pub record AreGiven (c : Situation) (l h : ℕ) : Type 0 where
  pub low : Holds (word_at c).low c.entry l
  pub high : Holds (word_at c).high c.entry h
  pub reads : relations.Reads (Effects.read_of c.row.op (advanced c.machine.processor c.row)) (ram_at c.machine.storage) l
  pub taken : (effect_by c l h).is_taken ≡ true

begins : (c : Situation) (l h : ℕ) → IsTakenIn c → AreGiven c l h → Begins c.row.op (next_at c) (sp_halves c.stack.setting c.state) c.product.core (word_at c).low (word_at c).high c.entry (begun_at c) l h
begins c l h k g =
    let sp_known = halves_sound c.stack.setting c.state (sp_halves c.stack.setting c.state) refl in
    record {
      core = k.means;
      low_read = g.low;
      high_read = g.high;
      pc = begun_pc c.row c.machine c.address k.runs k.mark k.stands.at;
      sp = subst (λ n. n < 65536) (sym (begun_sp c.row c.machine)) k.stands.means.parts.sp;
      sp_high = subst (λ n. Holds (sp_halves c.stack.setting c.state).high c.entry (n / 256)) (sym (begun_sp c.row c.machine)) (sp_known.high c.entry c.base c.machine k.stands.based k.stands.means.parts (sp_within c k));
      sp_low = subst (λ n. Holds (sp_halves c.stack.setting c.state).low c.entry (n % 256)) (sym (begun_sp c.row c.machine)) (sp_known.low c.entry c.base c.machine k.stands.based k.stands.means.parts (sp_within c k));
      taken = g.taken;
    }

sound_at : (c : Situation) → IsTakenIn c → effects.IsSoundTransfer c.row.op (next_at c) (sp_halves c.stack.setting c.state) c.product.core (word_at c).low (word_at c).high (transferred c)
sound_at c k =
    transfer_sound c.stack.setting.is_whole c.row.op (next_at c) (sp_halves c.stack.setting c.state) c.product.core (word_at c).low (word_at c).high (transferred c) refl k.operands k.core (is_word_at c k).low

-- SP stays an address
pub sp_small : (c : Situation) (l h : ℕ) → IsTakenIn c → AreGiven c l h → (effect_by c l h).processor.sp < 65536
sp_small c l h k g = (sound_at c k).sp c.entry (begun_at c) l h (begins c l h k g)

carry_given : (c : Situation) (l h : ℕ) → IsTakenIn c → IsIfKnown (carry_at c) (effect_by c l h).processor.flags.carry
carry_given c l h k =
    let known = bounds_sound c.stack.setting c.state (sp_bounds c.stack.setting c.state) refl in
    (known_carry_sound c.stack.setting.rules c.row.op (sp_bounds c.stack.setting c.state) c.product.core.registers c.product.relations.pairs (carry_at c) refl (sp_below c k)
    (k.pairs.each pairs.Bc).last (k.pairs.each pairs.De).last (k.pairs.each pairs.Hl).last).gives (beside c.entry (begun_at c))
    (advanced c.machine.processor c.row) l h (bytes_begun c k) (values_hold c k)
    (subst (λ n. (sp_bounds c.stack.setting c.state).first ≤ n) (sym (begun_sp c.row c.machine)) (known.first c.entry c.base c.machine k.stands.based k.stands.means.parts (sp_within c k)))
    (subst (λ n. n ≤ (sp_bounds c.stack.setting c.state).last) (sym (begun_sp c.row c.machine)) (known.last c.entry c.base c.machine k.stands.based k.stands.means.parts (sp_within c k)))

registers_in : (c : Situation) → IsTakenIn c → (r : Register) → In (get r c.product.core.registers) (get r (advanced c.machine.processor c.row).registers)
registers_in c k r = In-from (get r c.product.core.registers) c.entry (get r (begun_at c).processor.registers) (k.means.registers r)

-- it gives the address of the mark, where it takes that
takes_at : (c : Situation) (l h : ℕ) → IsTakenIn c → marks_at c ≡ true → Takes c.row.op (effect_by c l h) c.entry.mark
unfolding marks
takes_at c l h k e =
    let parts = and_parts (takes_mark c.row.op c.product.core.registers (length c.state.items) c.stack.mark) (is_known c.stack c.state) e in
    let located = (and_parts (is_whole_by c.stack.setting.rules c.stack.setting.is_whole) (is_located c.state) parts.1).1 in
    takes c.row.op (advanced c.machine.processor c.row) l h c.product.core.registers (length c.state.items) c.stack.mark c.base c.entry.mark parts.0 k.operands
    (subst (λ n. n < 65536) (sym (begun_sp c.row c.machine)) k.stands.means.parts.sp) (ap (λ n. n + length c.state.items) (begun_sp c.row c.machine) ∙ k.stands.means.parts.stack located)
    (few_held c.stack.region c.base (length c.state.items) k.stands.is_region k.stands.room) k.marked (k.means.registers H).most (k.means.registers L).most

-- its effect is followed, whatever of that its reads give
pub follows : (c : Situation) (l h : ℕ) → IsTakenIn c → AreGiven c l h → Follows (effect_at c) c.entry (begun_at c) (effect_by c l h)
follows c l h k g =
    let f = (sound_at c k).gives c.entry (begun_at c) l h k.runs (begins c l h k g) in
    record {
      core = subst (λ (s : Core). MeansCore s c.entry (record (begun_at c) { processor = (effect_by c l h).processor })) (sym (core_is c))
          (MeansCore-marked c.row.op (marks_at c) _ c.entry (record (begun_at c) { processor = (effect_by c l h).processor }) (effect_by c l h) refl (λ e. (takes_at c l h k e).held)
          (MeansCore-carry (carry_at c) (transferred c).core c.entry (record (begun_at c) { processor = (effect_by c l h).processor }) (carry_given c l h k) f.core));
      write = subst (λ w. HoldsWrite w c.entry (begun_at c).processor.sp (effect_by c l h).write) (sym (write_is c))
          (HoldsWrite-marked _ (marks_at c) c.entry (begun_at c).processor.sp (effect_by c l h).write (λ e. (takes_at c l h k e).stored)
          (HoldsWrite-cut (pointer_at c) (known_at c) (transferred c).write c.entry (begun_at c).processor.sp (effect_by c l h).write f.write
          ((pointer_bounds_sound c.stack.setting.rules c.row.op c.product.core.registers c.product.relations.pairs _ refl).writes (beside c.entry (begun_at c)) (advanced c.machine.processor c.row) l h (values_hold c k))
          ((known_bits_sound c.stack.setting.rules c.stack.setting.is_whole c.row.op c.product.core.registers _ refl).writes (advanced c.machine.processor c.row) l h (bytes_begun c k) (registers_in c k))));
    }

-- links read RAM outside the stack region
cells_at : (c : Situation) → IsTakenIn c → ArePairs (is_free_byte (held_at c).region) c.product.relations.pairs
unfolding stack_held
cells_at c k = k.pairs

-- what is known together holds behind it, as far as memory is RAM
pub related_behind : (c : Situation) (l h : ℕ) (written : ℕ → ℕ) → IsTakenIn c → AreGiven c l h → relations.Writes (held_at c) (effect_by c l h).write (ram_at c.machine.storage) written
    → HoldRelations (related_at c) (entered_with c.entry) (effect_by c l h).processor.registers written (effect_by c l h).processor.flags
unfolding relations_behind
related_behind c l h written k g w =
    let known = bounds_sound c.stack.setting c.state (sp_bounds c.stack.setting c.state) refl in
    let word = is_word_at c k in
    (relations_after_sound c.stack.setting.rules c.stack.setting.is_whole (held_at c) c.row.op (sp_bounds c.stack.setting c.state) c.product.core.registers (word_at c).low c.product.relations _ refl
    (has_operands c.row.op k.operands) (sp_below c k) (k.pairs.each pairs.Bc).last (k.pairs.each pairs.De).last (k.pairs.each pairs.Hl).last).gives (entered_with c.entry)
    (advanced c.machine.processor c.row) (ram_at c.machine.storage) written l h
    (record {
      registers = (values_hold c k).registers;
      bytes = bytes_begun c k;
      sp_first = subst (λ n. (sp_bounds c.stack.setting c.state).first ≤ n) (sym (begun_sp c.row c.machine)) (known.first c.entry c.base c.machine k.stands.based k.stands.means.parts (sp_within c k));
      sp_last = subst (λ n. n ≤ (sp_bounds c.stack.setting c.state).last) (sym (begun_sp c.row c.machine)) (known.last c.entry c.base c.machine k.stands.based k.stands.means.parts (sp_within c k));
      low_read = In-from (word_at c).low c.entry l g.low;
      low_small = small (word_at c).low l word.low g.low;
      high_small = small (word_at c).high h word.high g.high;
      placed = k.place;
      cells = cells_at c k;
      relations = HoldRelations-ram (held_at c) c.stack.region c.product.relations _ _ (peek c.machine.storage) (ram_at c.machine.storage) _ k.place k.pairs (λ b ram. ram_is c.machine.storage b ram) k.related;
      reads = g.reads;
    })
    w
  where
    small : (v : Val) (n : ℕ) → IsVal v → Holds v c.entry n → n < 256
    small v n is h = let le : n ≤ 255 = byte-of v c.entry n is h in omega arith
