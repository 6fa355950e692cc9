-- Reducing loses no successor of the machine's own side, whether its accesses are refused or not: there are bytes that its reads
-- might have given, by which the states behind hold registers.
use Rattle.std.proofs.Common.{◌≡◌, ℕ, ◌≤◌, Bool, true, false, cond, not, ◌&&◌, ◌==◌, nat_lt, List, length, Option, Some, None, refl, sym, ◌∙◌, ap, subst, arith, ◌<◌, ◌+◌, ◌-◌, ◌%◌, slice_get}
use Rattle.std.proofs.lemmas.Bool.{eq-eqb, and_parts}
use Rattle.std.proofs.lemmas.Bool.Decides.{nat_tests}
use Rattle.gb_ops.specs.declared.machine.Kind.{Kind}
use Rattle.gb_ops.specs.declared.machine.Region.{Region}
use Rattle.gb_ops.specs.declared.machine.Effect.{Effect}
use Rattle.gb_ops.specs.declared.machine.Read.{Read}
use Rattle.gb_ops.specs.declared.machine.Read.TheVariants as machine_read
use Rattle.gb_ops.specs.declared.machine.Write.{Write}
use Rattle.gb_ops.specs.declared.machine.Write.TheVariants as machine_write
use Rattle.gb_ops.specs.declared.op.Condition.{Condition}
use Rattle.gb_ops.specs.declared.op.Register.{Register}
use Rattle.gb_ops.specs.declared.op.Register.TheVariants.{A, B, C, D, E, H, L}
use Rattle.gb_ops.specs.declared.op.Op.{Op}
use Rattle.gb_ops.specs.declared.registers.Registers.{Registers}
use Rattle.gb_ops.specs.declared.registers.Processor.{Processor}
use Rattle.gb_ops.specs.Cartridge.{kind_of}
use Rattle.gb_ops.specs.Effects as Effects
use Rattle.gb_ops.specs.Machine.{advanced, loaded}
use Rattle.gb_ops.specs.Memory.{Storage}
use Rattle.gb_ops.specs.Play.{MState}
use Rattle.gb_ops.specs.Registers.{get}
use Rattle.gb_domain.specs.declared.relations.Relations.{Relations}
use Rattle.gb_domain.specs.declared.pairs.PairBounds.{PairBounds}
use Rattle.gb_domain.specs.declared.low_bits.LowBits.{LowBits}
use Rattle.gb_domain.specs.declared.rules.Rules.{Rules}
use Rattle.gb_domain.specs.declared.rules.Rules.TheVariants.{Simple, Extended}
use Rattle.gb_domain.specs.declared.setting.Setting.{Setting}
use Rattle.gb_domain.specs.declared.types.Val.{Val}
use Rattle.gb_domain.specs.declared.types.Core.{Core}
use Rattle.gb_domain.specs.declared.types.Halves.{Halves}
use Rattle.gb_domain.specs.Pairs.{ArePairs, any_pairs}
use Rattle.gb_domain.specs.Summaries.{Program}
use Rattle.gb_domain.specs.Types.{AbsState}
use Rattle.gb_product.specs.Below.gb_vals.Meaning.{In}
use Rattle.gb_product.specs.Below.gb_vals.Vals.{any_val}
use Rattle.gb_product.specs.Below.gb_abs.declared.span.Span.{Span}
use Rattle.gb_product.specs.Below.gb_abs.Span.{is_one, is_inside, may_meet}
use Rattle.gb_product.specs.Below.gb_abs.Located.{item_at, stack_base}
use Rattle.gb_product.specs.Below.gb_abs.Meaning.{Activation, Holds, MeansCore, MeansParts}
use Rattle.gb_product.specs.Below.gb_abs.Operations.{core_end, with_core}
use Rattle.gb_product.specs.Below.gb_abs.Origins.{registers_without_origins, core_without_origins}
use Rattle.gb_product.specs.Below.gb_abs.Stack.{youngest}
use Rattle.gb_product.specs.Below.gb_abs.Storage.{is_ram, peek}
use Rattle.gb_product.proofs.Below.gb_abs_laws.StackLaws.{MeansParts-with_core}
use Rattle.gb_product.specs.Below.gb_abs_effects.declared.reads.AbsRead.{AbsRead}
use Rattle.gb_product.specs.Below.gb_abs_effects.declared.reads.AbsRead.TheVariants as read
use Rattle.gb_product.specs.Below.gb_abs_effects.declared.writes.AbsWrite.{AbsWrite}
use Rattle.gb_product.specs.Below.gb_abs_effects.declared.writes.AbsWrite.TheVariants as write
use Rattle.gb_product.specs.Below.gb_abs_effects.Sides as Flags
use Rattle.gb_product.specs.Below.gb_abs_effects.Sound.{HoldsRead, IsReadAt, HoldsWrite}
use Rattle.gb_product.proofs.Below.gb_abs_effects_laws.CoreLaws.{In-from, byte-of}
use Rattle.gb_product.proofs.Below.gb_abs_effects_laws.SideLaws.{is_taken-without, is_taken-with}
use Rattle.gb_abs_memory.specs.declared.store.Area.{Area}
use Rattle.gb_abs_memory.specs.declared.store.Area.TheVariants as area
use Rattle.gb_abs_memory.specs.Access.{meets_closed_ram, may_be_closed, is_limited, home_of, val_at, item_or, val_or_item, is_table, table_by, several_by, loaded_val, area_of, stored_core_in, stored_core}
use Rattle.gb_abs_memory.specs.Shown.{known_bank}
use Rattle.gb_abs_memory.specs.Sound.{view}
use Rattle.gb_product.specs.declared.parts.Product.{Product}
use Rattle.gb_product.specs.Below.gb_pairs.Meaning.{AreBytes, Beside}
use Rattle.gb_product.specs.Below.gb_pairs.Meaning as pair_meaning
use Rattle.gb_product.specs.Below.gb_pairs.declared.values.Values.{Values}
use Rattle.gb_product.specs.Below.gb_pairs.Reduced as Pairs
use Rattle.gb_product.specs.Below.gb_pairs.Sound.{HoldsIn, AreWithin}
use Rattle.gb_product.specs.Below.gb_relations.Places.{behind_echo}
use Rattle.gb_product.specs.Below.gb_relations.Sound as relations
use Rattle.gb_product.specs.Below.gb_relations.Transfer.{values_of}
use Rattle.gb_product.specs.Meaning.{entered_with, IsSummarized, beside}
use Rattle.gb_product.specs.Reduced.{product_of, with_values_if, reduced}
use Rattle.gb_product.proofs.Below.gb_relations_laws.MachineLaws.{effect_of-bytes}
use Rattle.gb_product.proofs.Below.gb_relations_laws.Below.gb_pairs_laws.ReducedLaws as pair_laws
use Rattle.std.proofs.lemmas.Option.{same_Some}
use Rattle.gb_ops.specs.Memory.{Storage}
use Rattle.gb_domain.specs.LowBits.{no_low_bits}
use Rattle.gb_product.specs.Below.gb_abs.Meaning.{AreItems}
use Rattle.gb_product.specs.Below.gb_abs.Span.{IsIn}
use Rattle.gb_product.specs.Below.gb_abs.Stack.{word_of, last_word}
use Rattle.gb_product.proofs.Below.gb_abs_laws.LocatedLaws.{AreItems-at}
use Rattle.gb_successors.specs.Loads.{span_behind}
use Rattle.gb_successors.proofs.LoadedLaws.{behind_in, extended_word, less_is}
use Rattle.gb_product.proofs.Below.gb_abs_laws.SpanLaws.{Has-none}
use Rattle.gb_successors.specs.declared.stacks.StackMove.{StackMove}
use Rattle.gb_successors.specs.declared.stacks.StackMove.TheVariants as move
use Rattle.gb_successors.specs.Behind.{starts, written_core, core_behind}
use Rattle.gb_successors.specs.Loads.{read_word, is_plain_ram, told_at, is_stretch, joined_in, loaded_whole, loaded_in, word_by}
use Rattle.gb_successors.specs.Refused.{reads_closed_ram, is_read_limited}
use Rattle.std.specs.Prelude.{is_some}
use Rattle.gb_successors.specs.Sound.{IsReady}
use Rattle.gb_successors.specs.Stacks.{moved_core}
use Rattle.gb_successors.proofs.AccessLaws.{Loads-read}
use Rattle.gb_successors.proofs.LoadedLaws.{Reads-loaded, HasRead, Loads-by}
use Rattle.gb_successors.proofs.RamLaws.{ram_at, ram_small, any_read, differs}
use Rattle.gb_successors.proofs.RelatedLaws.{has_operands}
use Rattle.gb_successors.proofs.StackWayLaws.{is_word_read, word_top, top_held}
use Rattle.gb_successors.proofs.Situations.{Situation, read_at, bits_at, word_at, effect_at, move_at, parts_at, begun_at, given_at, effect_by, IsTakenIn, means_begun, related_at, held_at}
use Rattle.gb_domain.specs.declared.places.StackBytes.{StackBytes}
use Rattle.gb_domain.specs.Areas.{is_free_byte}
use Rattle.gb_successors.proofs.SituationLaws.{AreGiven, values_hold, said_begun, read_has, follows, related_behind, read_holds, read_placed, is_word_at, bytes_begun}
use Rattle.gb_successors.proofs.LandingLaws.{few_words, state_is, pairs_behind}

-- ---- bytes that its reads might have given

-- some bytes are such
record IsGiven (c : Situation) : Type 0 where
  low : ℕ
  high : ℕ
  given : AreGiven c low high

-- whether it is taken hangs on flags alone
taken_by : (o : Op) (p : Processor) (l h i j : ℕ) → (Effects.effect_of o p l h).is_taken ≡ true → (Effects.effect_of o p i j).is_taken ≡ true
taken_by o p l h i j taken = by (Flags.condition_of o) refl
  where
    by : (k : Option Condition) → Flags.condition_of o ≡ k → (Effects.effect_of o p i j).is_taken ≡ true
    by None e = is_taken-without o p i j e
    by (Some k) e = is_taken-with o k p i j e ∙ (sym (is_taken-with o k p l h e) ∙ taken)

holds_any : (entry : Activation) (n : ℕ) → n ≤ 255 → Holds any_val entry n
holds_any entry n h = record { least = omega arith; most = h; low = refl; origin = λ o e. cc }

-- no OAM transfer runs
abbrev at_rest : MState → MState
at_rest x = record x { storage = record x.storage { count = 0 } }

abbrev core_at_rest : Core → Core
core_at_rest core = record core { bound = 0 }

MeansCore-rest : (core : Core) (entry : Activation) (x : MState) → MeansCore core entry x → MeansCore (core_at_rest core) entry (at_rest x)
MeansCore-rest core entry x m =
    record {
      registers = m.registers;
      flags = m.flags;
      ie = m.ie;
      ime = m.ime;
      controller = m.controller;
      count = omega arith;
      locked = m.locked;
      stopped = m.stopped;
    }

means_rest : (c : Situation) → IsTakenIn c → MeansParts (with_core c.state (core_at_rest c.product.core)) c.entry c.base (at_rest (begun_at c))
means_rest c k =
    MeansParts-with_core (with_core c.state c.product.core) (core_at_rest c.product.core) c.entry c.base (begun_at c) (at_rest (begun_at c)) (means_begun c k)
    (MeansCore-rest c.product.core c.entry (begun_at c) k.means) refl refl refl (λ on. on)

said_rest : (c : Situation) → IsTakenIn c → IsSummarized (with_core c.state (core_at_rest c.product.core)) c.entry (at_rest (begun_at c))
unfolding peek
said_rest c k = said_begun c k

-- so registers and pairs hold
values_rest :
    (c : Situation) → IsTakenIn c
    → pair_meaning.Holds (values_of c.product.core.registers c.product.relations.pairs) (beside c.entry (at_rest (begun_at c))) (begun_at c).processor.registers
unfolding peek
values_rest c k = values_hold c k

-- RAM is the same
ram_rest : (x : MState) (r : Read) (l : ℕ) → relations.Reads r (ram_at (at_rest x).storage) l → relations.Reads r (ram_at x.storage) l
unfolding peek
ram_rest x r l h = h

-- what is known of what is read is the same
several_rest : (r : Rules) (rom : List ℕ) (core : Core) (span : Span) → several_by r rom (core_at_rest core) span ≡ several_by r rom core span
several_rest Simple rom core span = refl
several_rest Extended rom core span = refl

loaded_rest : (z : Setting) (rom : List ℕ) (s : AbsState) (core : Core) (span : Span) → loaded_val z rom (with_core s (core_at_rest core)) span ≡ loaded_val z rom (with_core s core) span
unfolding loaded_val val_or_item val_at item_at stack_base
loaded_rest z rom s core span = ap (cond (is_one span) (val_or_item z rom (with_core s core) span.first)) (several_rest z.rules rom core span)

-- values and what is said stay too
told_rest :
    (z : Setting) (region : Region) (program : Program) (rom : List ℕ) (v : Values) (low : LowBits) (s : AbsState) (core : Core) (span : Span)
    → loaded_in z region program rom v low (with_core s (core_at_rest core)) span ≡ loaded_in z region program rom v low (with_core s core) span
unfolding loaded_whole joined_in is_plain_ram item_at stack_base
told_rest z region program rom v low s core span =
    let t : AbsState = with_core s core in
    ap (λ w. cond z.is_whole (cond (not (is_one span)) (joined_in region program rom v low t span) (cond (is_plain_ram z t span.first) (told_at program v t span.first) w)) w)
    (loaded_rest z rom s core span)

not_limited : (region : Region) (core : Core) (span : Span) → is_read_limited region (core_at_rest core) (read.Byte span) ≡ false
unfolding is_read_limited is_limited
not_limited region core span = refl

-- closed cartridge RAM may give any byte
any_if_none : (b : Bool) (o : Option Val) (v : Val) → b ≡ false → item_or (cond b o None) v ≡ v
any_if_none false o v h = refl
any_if_none true o v h = cc

hardware_any : (rom : List ℕ) (s : AbsState) (a : ℕ) → 0xA000 ≤ a → a ≤ 0xBFFF → val_at rom s a ≡ any_val
unfolding val_at
hardware_any rom s a low high =
    let rom_below : nat_lt a 0x8000 ≡ false = grind (arith, nat_tests) in
    let home : is_ram (home_of a) ≡ false = grind (arith, nat_tests) in
    let last : (a == 0xFFFF) ≡ false = grind (arith, nat_tests) in
    rw (rom_below, home, last) refl

closed_one : (z : Setting) (rom : List ℕ) (s : AbsState) (a : ℕ) → 0xA000 ≤ a → a ≤ 0xBFFF → val_or_item z rom s a ≡ any_val
unfolding val_or_item
closed_one z rom s a low high =
    let apart : is_ram a ≡ false = grind (arith, nat_tests) in
    any_if_none (is_ram a) (item_at z s a) (val_at rom s a) apart ∙ hardware_any rom s a low high

no_table : (span : Span) → may_meet 0xA000 0xBFFF span ≡ true → is_table span ≡ false
unfolding is_table
no_table span h = grind (arith, nat_tests)

closed_several : (r : Rules) (rom : List ℕ) (core : Core) (span : Span) → may_meet 0xA000 0xBFFF span ≡ true → several_by r rom core span ≡ any_val
closed_several Simple rom core span h = refl
closed_several Extended rom core span h = ap (λ b. cond b (table_by (known_bank rom core.ctl span.first) rom span) any_val) (no_table span h)

first_of : (b c : Bool) → (b && c) ≡ true → b ≡ true
first_of true c h = refl
first_of false c h = cc

closed_any : (z : Setting) (rom : List ℕ) (s : AbsState) (core : Core) (span : Span) → reads_closed_ram rom core (read.Byte span) ≡ true → loaded_val z rom s span ≡ any_val
unfolding reads_closed_ram meets_closed_ram loaded_val
closed_any z rom s core span h = choose (is_one span) refl
  where
    meets : may_meet 0xA000 0xBFFF span ≡ true
    meets = first_of _ _ h

    choose : (b : Bool) → is_one span ≡ b → cond b (val_or_item z rom s span.first) (several_by z.rules rom s.core span) ≡ any_val
    choose true e =
        let low : 0xA000 ≤ span.first = grind (arith, nat_tests) in
        let high : span.first ≤ 0xBFFF = grind (arith, nat_tests) in
        closed_one z rom s span.first low high
    choose false e = closed_several z.rules rom s.core span meets

-- so it isn't RAM
no_ram : (z : Setting) (s : AbsState) (a : ℕ) → 0xA000 ≤ a → a ≤ 0xBFFF → is_plain_ram z s a ≡ false
unfolding is_plain_ram
no_ram z s a low high =
    let home : is_ram (home_of a) ≡ false = grind (arith, nat_tests) in
    ap (λ b. b && not (is_ram a && is_some (item_at z s a))) home

-- nor a stretch of it
no_stretch : (region : Region) (span : Span) → may_meet 0xA000 0xBFFF span ≡ true → is_stretch region span ≡ false
unfolding is_stretch
no_stretch region span h =
    let work : is_inside 0xC000 0xDFFF span ≡ false = grind (arith, nat_tests) in
    let high : is_inside 0xFF80 0xFFFE span ≡ false = grind (arith, nat_tests) in
    let echo : is_inside 0xE000 0xFDFF span ≡ false = grind (arith, nat_tests) in
    rw (work, high, echo) refl

closed_told :
    (z : Setting) (region : Region) (program : Program) (rom : List ℕ) (v : Values) (low : LowBits) (s : AbsState) (core : Core) (span : Span)
    → reads_closed_ram rom core (read.Byte span) ≡ true → loaded_in z region program rom v low s span ≡ any_val
unfolding reads_closed_ram meets_closed_ram loaded_whole joined_in
closed_told z region program rom v low s core span h = by_version z.is_whole
  where
    meets : may_meet 0xA000 0xBFFF span ≡ true
    meets = first_of _ _ h

    one : is_one span ≡ true → (b : Bool) → is_plain_ram z s span.first ≡ b → cond b (told_at program v s span.first) (loaded_val z rom s span) ≡ any_val
    one alone true e =
        let least : 0xA000 ≤ span.first = grind (arith, nat_tests) in
        let most : span.first ≤ 0xBFFF = grind (arith, nat_tests) in
        let bad : true ≡ false = sym e ∙ no_ram z s span.first least most in
        cc
    one alone false e = closed_any z rom s core span h

    several : joined_in region program rom v low s span ≡ any_val
    several = rw (no_stretch region span meets, no_table span meets) refl

    by_count : (b : Bool) → is_one span ≡ b
        → cond (not b) (joined_in region program rom v low s span) (cond (is_plain_ram z s span.first) (told_at program v s span.first) (loaded_val z rom s span)) ≡ any_val
    by_count true e = one e (is_plain_ram z s span.first) refl
    by_count false e = several

    by_version : (b : Bool) → cond b (loaded_whole z region program rom v low s span) (loaded_val z rom s span) ≡ any_val
    by_version true = by_count (is_one span) refl
    by_version false = closed_any z rom s core span h

ram_byte : (s : Storage) (b : ℕ) → ((a : ℕ) → peek s a ≤ 255) → ram_at s b ≤ 255
ram_byte s b bytes = by (is_ram b)
  where
    by : (r : Bool) → cond r (peek s b) 0 ≤ 255
    by true = bytes b
    by false = omega arith

nothing_read :
    (r : Rules) (z : Setting) (region : Region) (program : Program) (rom : List ℕ) (v : Values) (low : LowBits) (s : AbsState) (what : AbsRead)
    → what ≡ read.Nothing → word_by r z region program rom v low s what ≡ record { high = any_val; low = any_val }
unfolding read_word
nothing_read Simple z region program rom v low s what e = ap (read_word z rom s) e
nothing_read Extended z region program rom v low s what e = ap (word_by Extended z region program rom v low s) e

byte_read :
    (r : Rules) (z : Setting) (region : Region) (program : Program) (rom : List ℕ) (v : Values) (low : LowBits) (s : AbsState) (what : AbsRead) (span : Span)
    → r ≡ Extended → what ≡ read.Byte span → word_by r z region program rom v low s what ≡ record { high = any_val; low = loaded_in z region program rom v low s span }
byte_read r z region program rom v low s what span extended e =
    ap (λ q. word_by q z region program rom v low s what) extended ∙ ap (word_by Extended z region program rom v low s) e

closed_rest : (rom : List ℕ) (core : Core) (span : Span) → reads_closed_ram rom (core_at_rest core) (read.Byte span) ≡ reads_closed_ram rom core (read.Byte span)
unfolding reads_closed_ram meets_closed_ram may_be_closed
closed_rest rom core span = refl

same_youngest : (s : AbsState) (c d : Core) → youngest (with_core s c) ≡ youngest (with_core s d)
unfolding youngest
same_youngest s c d = refl

-- each by what it reads
given_nothing : (c : Situation) → IsTakenIn c → read_at c ≡ read.Nothing → IsGiven c
given_nothing c k e =
    record {
      low = 0;
      high = 0;
      given = record {
        low = subst (λ (w : Halves). Holds w.low c.entry 0) (sym (none c e)) (holds_any c.entry 0 (omega arith));
        high = subst (λ (w : Halves). Holds w.high c.entry 0) (sym (none c e)) (holds_any c.entry 0 (omega arith));
        reads = quiet (Effects.read_of c.row.op (advanced c.machine.processor c.row)) (subst (λ r. HoldsRead r (begun_at c).processor.sp (Effects.read_of c.row.op (advanced c.machine.processor c.row))) e (read_holds c k));
        taken = taken_by c.row.op (advanced c.machine.processor c.row) (given_at c).low (given_at c).high 0 0 k.taken;
      };
    }
  where
    none : (c : Situation) → read_at c ≡ read.Nothing → word_at c ≡ record { high = any_val; low = any_val }
    none c e = nothing_read c.stack.setting.rules c.stack.setting c.stack.region c.entry.program c.rom _ _ (with_core c.state c.product.core) (read_at c) e

    quiet : (r : Read) → HoldsRead read.Nothing (begun_at c).processor.sp r → relations.Reads r (ram_at c.machine.storage) 0
    quiet machine_read.Nothing h = tt
    quiet (machine_read.Byte a) h = absurd h
    quiet (machine_read.Word a) h = absurd h

given_byte : (c : Situation) (span : Span) → IsTakenIn c → read_at c ≡ read.Byte span → IsGiven c
given_byte c span k e =
    by (Effects.read_of c.row.op (advanced c.machine.processor c.row)) refl (subst (λ r. HoldsRead r (begun_at c).processor.sp (Effects.read_of c.row.op (advanced c.machine.processor c.row))) e (read_holds c k))
    (reads_closed_ram c.rom c.product.core (read.Byte span)) refl
  where
    v : Values
    v = values_of c.product.core.registers c.product.relations.pairs

    known : Val
    known = loaded_in c.stack.setting c.stack.region c.entry.program c.rom v (bits_at c) (with_core c.state c.product.core) span

    word : word_at c ≡ record { high = any_val; low = known }
    word = byte_read c.stack.setting.rules c.stack.setting c.stack.region c.entry.program c.rom v (bits_at c) (with_core c.state c.product.core) (read_at c) span k.extended e

    of_byte : (a l : ℕ) → Effects.read_of c.row.op (advanced c.machine.processor c.row) ≡ machine_read.Byte a → Holds known c.entry l
        → relations.Reads (machine_read.Byte a) (ram_at c.machine.storage) l → IsGiven c
    of_byte a l is holds reads =
        record {
          low = l;
          high = 0;
          given = record {
            low = subst (λ (w : Halves). Holds w.low c.entry l) (sym word) holds;
            high = subst (λ (w : Halves). Holds w.high c.entry 0) (sym word) (holds_any c.entry 0 (omega arith));
            reads = subst (λ r. relations.Reads r (ram_at c.machine.storage) l) (sym is) reads;
            taken = taken_by c.row.op (advanced c.machine.processor c.row) (given_at c).low (given_at c).high l 0 k.taken;
          };
        }

    by : (r : Read) → Effects.read_of c.row.op (advanced c.machine.processor c.row) ≡ r → HoldsRead (read.Byte span) (begun_at c).processor.sp r → (b : Bool) → reads_closed_ram c.rom c.product.core (read.Byte span) ≡ b → IsGiven c
    by machine_read.Nothing is h b closed = absurd h
    by (machine_read.Word a) is h b closed = absurd h
    by (machine_read.Byte a) is h true closed =
        of_byte a (ram_at c.machine.storage (behind_echo a)) is
        (subst (λ v. Holds v c.entry (ram_at c.machine.storage (behind_echo a))) (sym (closed_told c.stack.setting c.stack.region c.entry.program c.rom v (bits_at c) (with_core c.state c.product.core) c.product.core span closed))
        (holds_any c.entry _ (ram_byte c.machine.storage (behind_echo a) k.stands.means.parts.memory.bytes)))
        (λ ram. refl)
    by (machine_read.Byte a) is h false closed =
        let x : MState = at_rest (begun_at c) in
        let core : Core = core_at_rest c.product.core in
        let l =
        Loads-by Extended c.stack.setting c.stack.region c.rom (with_core c.state core) v (bits_at c) c.entry c.base x (begun_at c).processor.sp (read.Byte span) (machine_read.Byte a) c.reads
        k.stands.cartridge (means_rest c k) (said_rest c k) (values_rest c k) k.core.ie k.byte (subst IsReadAt e (read_placed c k)) (subst IsReadAt e (read_placed c k)) h (subst (HasRead (bits_at c)) is (read_has c k))
        (Loads-read c.stack.setting c.rom c.stack.region (with_core c.state core) c.entry c.base x c.reads (begun_at c).processor.sp (read.Byte span) (machine_read.Byte a)
        k.stands.cartridge k.stands.based (means_rest c k) k.core.ie k.byte (subst IsReadAt e (read_placed c k)) h (closed_rest c.rom c.product.core span ∙ closed) (not_limited c.stack.region c.product.core span)) in
        of_byte a (loaded (view c.rom x false) (machine_read.Byte a) c.reads).low is
        (subst (λ v. Holds v c.entry (loaded (view c.rom x false) (machine_read.Byte a) c.reads).low)
        (told_rest c.stack.setting c.stack.region c.entry.program c.rom v (bits_at c) c.state c.product.core span) l.low)
        (ram_rest c.machine (machine_read.Byte a) _ (Reads-loaded (view c.rom x false) (machine_read.Byte a) c.reads l.faults))

-- a byte of a word that isn't on the stack
byte_given :
    (c : Situation) (span : Span) (a : ℕ) → IsTakenIn c → IsIn span a → span.last < 65536
    → (n : ℕ) × Holds (loaded_in c.stack.setting c.stack.region c.entry.program c.rom (values_of c.product.core.registers c.product.relations.pairs) no_low_bits (with_core c.state c.product.core) span) c.entry n
byte_given c span a k i small = by (reads_closed_ram c.rom c.product.core (read.Byte span)) refl
  where
    v : Values
    v = values_of c.product.core.registers c.product.relations.pairs

    by : (b : Bool) → reads_closed_ram c.rom c.product.core (read.Byte span) ≡ b → (n : ℕ) × Holds (loaded_in c.stack.setting c.stack.region c.entry.program c.rom v no_low_bits (with_core c.state c.product.core) span) c.entry n
    by true closed =
        (0, subst (λ u. Holds u c.entry 0) (sym (closed_told c.stack.setting c.stack.region c.entry.program c.rom v no_low_bits (with_core c.state c.product.core) c.product.core span closed)) (holds_any c.entry 0 (omega arith)))
    by false closed =
        let x : MState = at_rest (begun_at c) in
        let core : Core = core_at_rest c.product.core in
        let l =
        Loads-by Extended c.stack.setting c.stack.region c.rom (with_core c.state core) v no_low_bits c.entry c.base x (begun_at c).processor.sp (read.Byte span) (machine_read.Byte a) c.reads
        k.stands.cartridge (means_rest c k) (said_rest c k) (values_rest c k) k.core.ie k.byte small small i (Has-none a)
        (Loads-read c.stack.setting c.rom c.stack.region (with_core c.state core) c.entry c.base x c.reads (begun_at c).processor.sp (read.Byte span) (machine_read.Byte a)
        k.stands.cartridge k.stands.based (means_rest c k) k.core.ie k.byte small i (closed_rest c.rom c.product.core span ∙ closed) (not_limited c.stack.region c.product.core span)) in (
          (loaded (view c.rom x false) (machine_read.Byte a) c.reads).low,
          subst (λ u. Holds u c.entry (loaded (view c.rom x false) (machine_read.Byte a) c.reads).low) (told_rest c.stack.setting c.stack.region c.entry.program c.rom v no_low_bits c.state c.product.core span) l.low,
        )

behind_small : (span : Span) → (span_behind span).last < 65536
behind_small span = by (nat_lt span.first 0xFFFF && nat_lt span.last 0xFFFF) refl
  where
    by : (t : Bool) → (nat_lt span.first 0xFFFF && nat_lt span.last 0xFFFF) ≡ t → (cond {A = Span} t (record { first = span.first + 1; last = span.last + 1; low = no_low_bits }) (record { first = 0; last = 0xFFFF; low = no_low_bits })).last < 65536
    by true e = let near : span.last < 65535 = less_is span.last 65535 (and_parts (nat_lt span.first 0xFFFF) (nat_lt span.last 0xFFFF) e).1 in omega arith
    by false e = omega arith

given_word : (c : Situation) (span : Span) → IsTakenIn c → read_at c ≡ read.Word span → IsGiven c
given_word c span k e =
    by (Effects.read_of c.row.op (advanced c.machine.processor c.row)) refl (subst (λ r. HoldsRead r (begun_at c).processor.sp (Effects.read_of c.row.op (advanced c.machine.processor c.row))) e (read_holds c k))
  where
    small : span.last < 65536
    small = subst IsReadAt e (read_placed c k)

    word : word_at c ≡ word_by Extended c.stack.setting c.stack.region c.entry.program c.rom (values_of c.product.core.registers c.product.relations.pairs) (bits_at c) (with_core c.state c.product.core) (read.Word span)
    word = extended_word c.stack.setting.rules c.stack.setting c.stack.region c.entry.program c.rom _ (bits_at c) (with_core c.state c.product.core) (read_at c) (read.Word span) k.extended e

    by : (r : Read) → Effects.read_of c.row.op (advanced c.machine.processor c.row) ≡ r → HoldsRead (read.Word span) (begun_at c).processor.sp r → IsGiven c
    by machine_read.Nothing is h = absurd h
    by (machine_read.Byte a) is h = absurd h
    by (machine_read.Word a) is h =
        let near = byte_given c span a k h small in
        let far = byte_given c (span_behind span) ((a + 1) % 65536) k (behind_in span a h small) (behind_small span) in
        record {
          low = near.0;
          high = far.0;
          given = record {
            low = subst (λ (w : Halves). Holds w.low c.entry near.0) (sym word) near.1;
            high = subst (λ (w : Halves). Holds w.high c.entry far.0) (sym word) far.1;
            reads = subst (λ r. relations.Reads r (ram_at c.machine.storage) near.0) (sym is) tt;
            taken = taken_by c.row.op (advanced c.machine.processor c.row) (given_at c).low (given_at c).high near.0 far.0 k.taken;
          };
        }

parts_of_word : (a b : Option Val) (i : Halves) → word_of a b ≡ Some i → (a ≡ Some i.high) × (b ≡ Some i.low)
parts_of_word None b i e = cc
parts_of_word (Some high) None i e = cc
parts_of_word (Some high) (Some low) i e =
    let same = same_Some _ _ e in
    (ap (λ (w : Halves). Some w.high) same, ap (λ (w : Halves). Some w.low) same)

-- the items' own bytes are such
newest_held :
    (items : List Val) (i : Halves) (entry : Activation) (top : ℕ) (s : Storage) → last_word items ≡ Some i → AreItems items entry top s
    → (l : ℕ) × ((h : ℕ) × (Holds i.low entry l × Holds i.high entry h))
newest_held items i entry top s e are = by (nat_lt (length items) 2) e
  where
    by :
        (b : Bool) → cond b None (word_of (slice_get items (length items - 2)) (slice_get items (length items - 1))) ≡ Some i
        → (l : ℕ) × ((h : ℕ) × (Holds i.low entry l × Holds i.high entry h))
    by true e = cc
    by false e =
        let p = parts_of_word _ _ i e in
        (_, (_, (AreItems-at items entry top (length items - 1) s i.low p.1 are, AreItems-at items entry top (length items - 2) s i.high p.0 are)))

given_top : (c : Situation) → IsTakenIn c → read_at c ≡ read.Top → IsGiven c
unfolding youngest
given_top c k e = by (nat_lt (length c.state.items) 2) refl
  where
    sp : ℕ
    sp = (begun_at c).processor.sp

    is : Effects.read_of c.row.op (advanced c.machine.processor c.row) ≡ machine_read.Word sp
    is = is_word_read sp _ (subst (λ r. HoldsRead r sp (Effects.read_of c.row.op (advanced c.machine.processor c.row))) e (read_holds c k))

    of_word : (w : Halves) (l h : ℕ) → word_at c ≡ w → Holds w.low c.entry l → Holds w.high c.entry h → IsGiven c
    of_word w l h word low high =
        record {
          low = l;
          high = h;
          given = record {
            low = subst (λ (v : Halves). Holds v.low c.entry l) (sym word) low;
            high = subst (λ (v : Halves). Holds v.high c.entry h) (sym word) high;
            reads = subst (λ r. relations.Reads r (ram_at c.machine.storage) l) (sym is) tt;
            taken = taken_by c.row.op (advanced c.machine.processor c.row) (given_at c).low (given_at c).high l h k.taken;
          };
        }

    by : (b : Bool) → nat_lt (length c.state.items) 2 ≡ b → IsGiven c
    by true few =
        of_word (record { high = any_val; low = any_val }) 0 0 (word_top c.stack.setting.rules c.stack.setting c.stack.region c.entry.program c.rom _ _ (with_core c.state c.product.core) (read_at c) None e (few_words c.state c.product.core few))
        (holds_any c.entry 0 (omega arith)) (holds_any c.entry 0 (omega arith))
    by false few =
        let some : 2 ≤ length c.state.items = grind (arith, nat_tests) in
        let held = top_held c.state (core_at_rest c.product.core) some in
        let two = newest_held c.state.items held.0 c.entry c.base c.machine.storage held.1 k.stands.means.parts.items in
        of_word held.0 two.0 two.1.0 (word_top c.stack.setting.rules c.stack.setting c.stack.region c.entry.program c.rom _ _ (with_core c.state c.product.core) (read_at c) (Some held.0) e (same_youngest c.state c.product.core (core_at_rest c.product.core) ∙ held.1)) two.1.1.0 two.1.1.1

is_given : (c : Situation) → IsTakenIn c → IsGiven c
is_given c k = by (read_at c) refl
  where
    by : (r : AbsRead) → read_at c ≡ r → IsGiven c
    by read.Nothing e = given_nothing c k e
    by (read.Byte span) e = given_byte c span k e
    by (read.Word span) e = given_word c span k e
    by read.Top e = given_top c k e

-- ---- registers that the states behind hold

-- memory behind a write, as far as it is known
abbrev after_write : Write → (ℕ → ℕ) → ℕ → ℕ
after_write machine_write.Nothing memory b = memory b
after_write (machine_write.Byte a n) memory b = cond (b == a) n (memory b)
after_write (machine_write.Word a w) memory b = memory b
after_write (machine_write.Push sp w) memory b = memory b

Writes-after : (held : StackBytes) (w : Write) (memory : ℕ → ℕ) → relations.Writes held w memory (after_write w memory)
Writes-after held machine_write.Nothing memory = λ b. refl
Writes-after held (machine_write.Byte a n) memory =
    (λ ram. ap (λ t. cond t n (memory a)) (eq-eqb a a refl), λ b ne. ap (λ t. cond t n (memory b)) (differs b a ne))
Writes-after held (machine_write.Word a w) memory = λ b ne more. refl
Writes-after held (machine_write.Push sp w) memory = λ b out. refl

-- what it writes are bytes
after_small :
    (w : AbsWrite) (entry : Activation) (sp : ℕ) (m : Write) (memory : ℕ → ℕ)
    → HoldsWrite w entry sp m → ((a : ℕ) → memory a < 256) → (a : ℕ) → after_write m memory a < 256
after_small w entry sp machine_write.Nothing memory h small b = small b
after_small w entry sp (machine_write.Word a n) memory h small b = small b
after_small w entry sp (machine_write.Push a n) memory h small b = small b
after_small (write.Byte span v) entry sp (machine_write.Byte a n) memory h small b = by (b == a)
  where
    by : (c : Bool) → cond c n (memory b) < 256
    by true = let byte : n ≤ 255 = h.2 in omega arith
    by false = small b
after_small write.Nothing entry sp (machine_write.Byte a n) memory h small b = absurd h
after_small (write.Word c low high) entry sp (machine_write.Byte a n) memory h small b = absurd h
after_small (write.Push high low) entry sp (machine_write.Byte a n) memory h small b = absurd h

-- the core behind the instruction has the registers of its effect, without origins at most
In-stored : (whole : Bool) (a : Option Area) (k : Kind) (span : Span) (v : Val) (core : Core) → (stored_core_in whole a k span v core).registers ≡ core.registers
In-stored whole (Some (area.Controller (Some r))) k span v core = refl
In-stored whole (Some area.InterruptEnable) k span v core = refl
In-stored whole _ k span v core = refl

stored_registers : (whole : Bool) (k : Kind) (span : Span) (v : Val) (core : Core) → (stored_core whole k span v core).registers ≡ core.registers
unfolding stored_core
stored_registers whole k span v core = In-stored whole (area_of k span) k span v core

written_registers : (whole : Bool) (k : Kind) (w : AbsWrite) (core : Core) → (written_core whole k w core).registers ≡ core.registers
unfolding written_core
written_registers whole k (write.Byte span v) core = stored_registers whole k span v core
written_registers whole k (write.Word a low high) core = stored_registers whole k _ high _ ∙ stored_registers whole k _ low core
written_registers whole k write.Nothing core = refl
written_registers whole k (write.Push high low) core = refl

ended_registers : (b : Bool) (n : ℕ) (core : Core) → (core_end b n core).registers ≡ core.registers
unfolding core_end
ended_registers true n core = refl
ended_registers false n core = refl

bare : (r : Register) (s : Registers Val) (n : ℕ) → In (get r s) n → In (get r (registers_without_origins s)) n
bare A s n h = record { least = h.least; most = h.most; low = h.low }
bare B s n h = record { least = h.least; most = h.most; low = h.low }
bare C s n h = record { least = h.least; most = h.most; low = h.low }
bare D s n h = record { least = h.least; most = h.most; low = h.low }
bare E s n h = record { least = h.least; most = h.most; low = h.low }
bare H s n h = record { least = h.least; most = h.most; low = h.low }
bare L s n h = record { least = h.least; most = h.most; low = h.low }

moved_registers : (m : StackMove) (r : Register) (core : Core) (n : ℕ) → In (get r core.registers) n → In (get r (moved_core m core).registers) n
unfolding moved_core core_without_origins
moved_registers (move.Restart k) r core n h = bare r core.registers n h
moved_registers (move.Set k) r core n h = h
moved_registers move.Stay r core n h = h
moved_registers (move.Push w) r core n h = h
moved_registers (move.Take k) r core n h = h
moved_registers (move.Append k) r core n h = h
moved_registers (move.Aside b) r core n h = h
moved_registers move.Lost r core n h = h

In-behind : (whole : Bool) (k : Kind) (m : StackMove) (cycles : ℕ) (w : AbsWrite) (core : Core) (r : Register) (n : ℕ) → In (get r core.registers) n → In (get r (core_behind whole k m cycles w core).registers) n
unfolding core_behind
In-behind whole k m cycles w core r n h =
    subst (λ (s : Registers Val). In (get r s) n) (sym (ended_registers (starts w) cycles _ ∙ written_registers whole k w (moved_core m core))) (moved_registers m r core n h)

-- ---- reducing

-- reducing leaves something
pub record IsSome (rules : Rules) (entered : PairBounds) (core : Core) (r : Relations) : Type 0 where
  pub product : Product
  pub is : reduced rules entered any_pairs core r ≡ Some product

pub some_reduced :
    (may_be : ℕ → Bool) (rules : Rules) (entered : PairBounds) (core : Core) (r : Relations) (was : Beside) (x : Registers ℕ)
    → ArePairs may_be r.pairs → AreWithin entered was.entered → ((a : ℕ) → was.memory a < 256) → AreBytes x → pair_meaning.Holds (values_of core.registers r.pairs) was x → IsSome rules entered core r
unfolding reduced
some_reduced may_be Simple entered core r was x are within small bytes h = record { product = product_of core r; is = refl }
some_reduced may_be Extended entered core r was x are within small bytes h =
    by (Pairs.reduced entered any_pairs (values_of core.registers r.pairs)) refl
    ((pair_laws.reduced_sound may_be entered any_pairs (values_of core.registers r.pairs) _ refl are).gives was x within (any_read r.pairs was.memory small) bytes h)
  where
    by : (o : Option Values) → Pairs.reduced entered any_pairs (values_of core.registers r.pairs) ≡ o → HoldsIn o was x → IsSome Extended entered core r
    by None e h = absurd h
    by (Some v) e h = record { product = _; is = ap (with_values_if core r) e }

pub bytes_behind_it : (c : Situation) (l h : ℕ) → IsTakenIn c → AreGiven c l h → AreBytes (effect_by c l h).processor.registers
bytes_behind_it c l h k g =
    let word = is_word_at c k in
    let low : l ≤ 255 = byte-of (word_at c).low c.entry l word.low g.low in
    let high : h ≤ 255 = byte-of (word_at c).high c.entry h word.high g.high in
    effect_of-bytes c.row.op (advanced c.machine.processor c.row) l h (has_operands c.row.op k.operands) (omega arith) (omega arith) (bytes_begun c k)

-- the side's successor isn't lost
pub possible : (c : Situation) → IsTakenIn c → IsSome c.stack.setting.rules c.stack.setting.entered (parts_at c).state.core (related_at c)
possible c k =
    let g = is_given c k in
    let e : Effect = effect_by c g.low g.high in
    let f = follows c g.low g.high k g.given in
    let behind_it = related_behind c g.low g.high (after_write e.write (ram_at c.machine.storage)) k g.given (Writes-after (held_at c) e.write (ram_at c.machine.storage)) in
    some_reduced (is_free_byte c.stack.region) c.stack.setting.rules c.stack.setting.entered (parts_at c).state.core _
    (record { entered = entered_with c.entry; memory = after_write e.write (ram_at c.machine.storage) }) e.processor.registers (pairs_behind c k) k.stands.within
    (after_small (effect_at c).write c.entry (begun_at c).processor.sp e.write (ram_at c.machine.storage) f.write (ram_small c.machine.storage k.stands.means.parts.memory))
    (bytes_behind_it c g.low g.high k g.given)
    (record {
      registers = λ r.
          subst (λ (s : AbsState). In (get r s.core.registers) (get r e.processor.registers)) (sym (state_is c))
          (In-behind c.stack.setting.is_whole (kind_of c.rom) (move_at c) c.row.cycles (effect_at c).write (effect_at c).core r (get r e.processor.registers)
          (In-from (get r (effect_at c).core.registers) c.entry (get r e.processor.registers) (f.core.registers r)));
      pairs = behind_it.pairs;
    })

-- so its stack is ready
pub ready_at : (c : Situation) → IsTakenIn c → IsReady c.stack c.row.op (move_at c) c.state c.base
ready_at c k = k.ready (ap is_some (possible c k).is)
