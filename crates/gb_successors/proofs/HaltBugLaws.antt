-- The halt bug leads by the successor of HALT, by the rules of version 3: but for the HALT mark the machine stands as if HALT had
-- been executed.
use Rattle.std.proofs.Common.{◌≡◌, ℕ, ◌+◌, ◌-◌, ◌%◌, ◌≤◌, true, false, List, [], length, Option, Some, None, refl, sym, ◌∙◌, ap, subst, arith}
use Rattle.gb_ops.specs.declared.machine.Region.{Region}
use Rattle.gb_ops.specs.declared.machine.Effect.{Effect}
use Rattle.gb_ops.specs.declared.machine.Write.TheVariants as machine_write
use Rattle.gb_ops.specs.Cartridge.{kind_of}
use Rattle.gb_ops.specs.declared.registers.Ime.{Ime}
use Rattle.gb_ops.specs.declared.registers.Ime.TheVariants as ime
use Rattle.gb_ops.specs.declared.registers.Processor.{Processor}
use Rattle.gb_ops.specs.declared.op.Op.{Op}
use Rattle.gb_ops.specs.declared.op.Op.TheVariants as op
use Rattle.gb_ops.specs.declared.op.Row.{Row}
use Rattle.gb_ops.specs.Effects as Effects
use Rattle.gb_ops.specs.Machine.{advanced, mark_of, way_of, ime_after, halt_bug}
use Rattle.gb_ops.specs.Memory.{stored, passed}
use Rattle.gb_ops.specs.Play.{MState, within, outside}
use Rattle.gb_domain.specs.declared.pairs.Bounds.{Bounds}
use Rattle.gb_domain.specs.declared.relations.Relations.{Relations}
use Rattle.gb_domain.specs.declared.setting.Setting.{Setting}
use Rattle.gb_domain.specs.declared.types.Core.{Core}
use Rattle.gb_domain.specs.declared.types.Halves.{Halves}
use Rattle.gb_domain.specs.declared.types.Range.{Range}
use Rattle.gb_domain.specs.Summaries.{SummaryParts, Program}
use Rattle.gb_domain.specs.Types.{AbsState}
use Rattle.gb_product.specs.Below.gb_abs.Storage.{peek}
use Rattle.gb_product.specs.Below.gb_abs.Located.{sp_halves}
use Rattle.gb_product.specs.Below.gb_abs.Meaning.{Activation, MeansParts}
use Rattle.gb_product.specs.Below.gb_abs.Operations.{core_settle}
use Rattle.gb_product.proofs.Below.gb_abs_laws.OperationLaws.{IsCore-settle}
use Rattle.gb_product.specs.Below.gb_abs_effects.declared.reads.AbsRead.TheVariants as read
use Rattle.gb_product.specs.Below.gb_abs_effects.declared.targets.Target.TheVariants as target
use Rattle.gb_product.specs.Below.gb_abs_effects.declared.writes.AbsWrite.TheVariants as write
use Rattle.gb_product.specs.Below.gb_abs_effects.Accesses.{read_of}
use Rattle.gb_product.specs.Below.gb_abs_effects.Sides as Flags
use Rattle.gb_product.specs.Below.gb_abs_effects.Sound.{HasBytes}
use Rattle.gb_product.specs.Below.gb_abs_effects.Targets.{moves_sp, target_of}
use Rattle.gb_product.specs.Below.gb_abs_effects.Transfer.{transfer}
use Rattle.gb_product.proofs.Below.gb_abs_effects_laws.SideLaws.{is_taken-without}
use Rattle.gb_product.proofs.CoveringLaws.{AreReadIn-means}
use Rattle.gb_abs_memory.specs.Sound.{view}
use Rattle.gb_product.specs.declared.parts.Product.{Product}
use Rattle.gb_product.specs.Below.gb_relations.Sound.{IsBytePlaced}
use Rattle.gb_product.specs.Held.{stack_held}
use Rattle.gb_successors.specs.Settled.{told_successor, held_successor}
use Rattle.gb_successors.proofs.HoldingLaws.{LeadsWidely-related, Leads-settled, settled_is, settled_count}
use Rattle.gb_product.specs.Sides.{side_where, taken_side}
use Rattle.gb_domain.specs.declared.places.OneByte.{OneByte}
use Rattle.gb_domain.specs.declared.rules.Rules.{Rules}
use Rattle.gb_domain.specs.declared.rules.Rules.TheVariants.{Simple, Extended}
use Rattle.gb_product.specs.Below.gb_abs_effects.declared.reads.AbsRead.{AbsRead}
use Rattle.gb_successors.specs.declared.stacks.Stack.{Stack}
use Rattle.gb_successors.specs.declared.stacks.StackMove.{StackMove}
use Rattle.gb_successors.specs.declared.stacks.StackMove.TheVariants as move
use Rattle.gb_successors.specs.Refined.{cut_read, cut_write, moved_target, extended_target, read_around}
use Rattle.gb_successors.specs.Behind.{with_cell_if}
use Rattle.gb_successors.specs.Refused.{is_unstorable, reads_closed_ram, writes_closed_ram, is_read_limited, is_write_limited, meets_closed, meets_oam_transfer}
use Rattle.gb_successors.specs.Summaries.{enables_interrupts}
use Rattle.gb_successors.specs.Way.{Successor}
use Rattle.gb_successors.specs.Successors.{related_successor, relations_behind, said_successor, summary_behind, taken_successor, with_product, successors_of, memory_before}
use Rattle.gb_successors.specs.Sound.{IsReady, IsFound, IsStackFit, bytes_moved, IsHalt, Leads, LeadsBy, LeadsWidely, StaysAt, Stands}
use Rattle.gb_successors.proofs.PlainLaws.{Keeps-both, Keeps-settle, Keeps-cut}
use Rattle.gb_successors.proofs.SaidLaws.{Leads-said}
use Rattle.gb_successors.proofs.SettledLaws.{HoldSummary-settled}
use Rattle.gb_successors.proofs.SummaryLaws.{said_aside, said_at, said_holds}
use Rattle.gb_successors.proofs.RelatedLaws.{related_begun}
use Rattle.gb_successors.proofs.SuccessorLaws.{begun, begun_core, given, effect, left_by}
use Rattle.gb_successors.proofs.SpMoveLaws.{still_stays}
use Rattle.gb_successors.proofs.Situations.{Situation, next_at, pointer_at, known_at, word_at, transferred, effect_at, move_at, parts_at, given_at, left_at, IsTakenIn}
use Rattle.gb_successors.proofs.SituationLaws.{write_is}
use Rattle.gb_successors.proofs.LandingLaws.{part_read, part_write, given_by, pairs_behind}
use Rattle.gb_successors.proofs.LeadingLaws.{target_is, move_is, around_at}
use Rattle.gb_successors.proofs.SimpleLaws.{behind_row}
use Rattle.gb_successors.proofs.LedLaws.{IsAllowedAt, done_at}
use Rattle.gb_successors.proofs.PossibleLaws.{possible, bytes_behind_it}
use Rattle.gb_successors.proofs.ExtendedWayLaws.{before_of, Leads-narrowed, taken_way, reduced_way}
use Rattle.gb_domain.specs.declared.types.Val.{Val}
use Rattle.gb_domain.specs.Areas.{is_free_byte}
use Rattle.gb_successors.specs.StackMark.{marked_write}
use Rattle.gb_successors.specs.Stacks.{address_below}
use Rattle.gb_successors.proofs.Situations.{marks_at}

-- ---- HALT

halt_still : (o : Op) → o ≡ op.Halt → moves_sp o ≡ false
halt_still o e = ap moves_sp e

halt_bytes : (o : Op) → o ≡ op.Halt → HasBytes o
halt_bytes o e = subst HasBytes (sym e) tt

halt_runs : (o : Op) → o ≡ op.Halt → o ≡ op.Stop → ⊥
halt_runs o e f = absurd (let bad : op.Halt ≡ op.Stop = sym e ∙ f in cc)

halt_reads : (o : Op) (core : Core) → o ≡ op.Halt → read_of o core ≡ read.Nothing
unfolding read_of
halt_reads o core e = ap (λ q. read_of q core) e

halt_writes : (c : Situation) → c.row.op ≡ op.Halt → (transferred c).write ≡ write.Nothing
unfolding transfer
halt_writes c e = ap (λ q. (transfer c.stack.setting.is_whole q (next_at c) (sp_halves c.stack.setting c.state) c.product.core (word_at c).low (word_at c).high).write) e

halt_target : (z : Setting) (o : Op) (next : ℕ) (w : Halves) (core : Core) (b : Option Bounds) (m : StackMove) → o ≡ op.Halt → m ≡ move.Stay → extended_target z o next w core b m (target_of o next core) ≡ target.At next
unfolding target_of
halt_target z o next w core b m e f = ap (λ q. extended_target z q next w core b m (target_of q next core)) e ∙ ap (λ n. moved_target n next (target.At next)) f

halt_side : (o : Op) (memory : Val) (p : Product) → o ≡ op.Halt → taken_side o memory p.core p.relations ≡ Some (record { core = p.core; relations = p.relations; cell = None })
unfolding taken_side Flags.sides_of
halt_side o memory p e = ap (λ (q : Op). side_where (Flags.condition_of q) memory p.relations (Flags.sides_by (Flags.condition_of q) p.core).taken) e

halt_stays_put : (c : Situation) → c.row.op ≡ op.Halt → move_at c ≡ move.Stay
halt_stays_put c e = move_is c ∙ still_stays c.stack (around_at c) c.row.op (effect_at c).write (pointer_at c) (halt_still c.row.op e)

-- nothing is against it
quiet_closed : (rom : List ℕ) (core : Core) (t : Successor) → t.read ≡ read.Nothing → t.write ≡ write.Nothing → meets_closed rom core t ≡ false
unfolding meets_closed reads_closed_ram writes_closed_ram
quiet_closed rom core t r w = rw (r, w) refl

quiet_transfer : (region : Region) (core : Core) (t : Successor) → t.read ≡ read.Nothing → t.write ≡ write.Nothing → meets_oam_transfer region core t ≡ false
unfolding meets_oam_transfer is_read_limited is_write_limited
quiet_transfer region core t r w = rw (r, w) refl

quiet_store : (c : Situation) → (parts_at c).write ≡ write.Nothing → is_unstorable c.stack.setting (kind_of c.rom) c.stack.region c.ranges (parts_at c).write ≡ false
unfolding is_unstorable
quiet_store c w = ap (is_unstorable c.stack.setting (kind_of c.rom) c.stack.region c.ranges) w

halt_goes : (c : Situation) → IsTakenIn c → c.row.op ≡ op.Halt → (parts_at c).target ≡ target.At (next_at c)
halt_goes c k e = target_is c k ∙ halt_target c.stack.setting c.row.op (next_at c) (word_at c) c.product.core (pointer_at c) _ e (sym (move_is c) ∙ halt_stays_put c e)

around_halt : (r : Rules) (a : Option Bounds) (o : Op) (w : AbsRead) → o ≡ op.Halt → read_around r a o w ≡ w
around_halt Simple a o w e = refl
around_halt Extended None o w e = refl
around_halt Extended (Some b) o w e = subst (λ (q : Op). read_around Extended (Some b) q w ≡ w) (sym e) refl

halt_quiet : {X : Type 0} (o : Op) → o ≡ op.Halt → enables_interrupts o ≡ true → X
halt_quiet o e h = absurd (let bad : false ≡ true = sym (ap enables_interrupts e) ∙ h in cc)

halt_allowed : (c : Situation) → IsTakenIn c → c.row.op ≡ op.Halt → IsAllowedAt c
halt_allowed c k e =
    let r : (parts_at c).read ≡ read.Nothing =
    part_read c ∙ (around_halt c.stack.setting.rules c.state.summary.aside c.row.op _ e ∙ ap (cut_read (pointer_at c)) (halt_reads c.row.op c.product.core e)) in
    let w : (parts_at c).write ≡ write.Nothing = part_write c ∙ (write_is c ∙ ap (λ w. marked_write (cut_write (pointer_at c) (known_at c) w) (marks_at c)) (halt_writes c e)) in
    record {
      stores = quiet_store c w;
      ram = quiet_closed c.rom c.state.core (parts_at c) r w;
      oam_transfer = quiet_transfer c.stack.region c.state.core (parts_at c) r w;
      stack = subst (λ q. IsStackFit q c.stack.region (parts_at c).target c.state (parts_at c) c.base) (sym k.extended) (subst IsFound (sym (halt_goes c k e)) tt);
    }

-- ---- the machine

-- with the HALT mark
abbrev marked : MState → MState
marked y = record y { processor = record y.processor { halt_mark = true } }

MeansParts-marked : (s : AbsState) (entry : Activation) (base : ℕ) (y : MState) → MeansParts s entry base y → MeansParts s entry base (marked y)
MeansParts-marked s entry base y m =
    record {
      core = record {
        registers = m.core.registers;
        flags = m.core.flags;
        ie = m.core.ie;
        ime = m.core.ime;
        controller = m.core.controller;
        count = m.core.count;
        locked = m.core.locked;
        stopped = m.core.stopped;
      };
      memory = m.memory;
      sp = m.sp;
      stack = m.stack;
      items = m.items;
      cells = m.cells;
    }

halt_way : (o : Op) (n m : ℕ) → o ≡ op.Halt → n ≡ 1 → way_of o n m ≡ 1 - m
unfolding way_of
halt_way o n m e f = ap (λ q. way_of q n m) e ∙ ap (λ i. i - m) f

off_after : (i : Ime) → i ≡ ime.Off → ime_after i ≡ i
unfolding ime_after
off_after i e = ap ime_after e ∙ sym e

halt_effect : (o : Op) (p : Processor) (l h : ℕ) → o ≡ op.Halt → Effects.effect_of o p l h ≡ record { processor = p; write = machine_write.Nothing; is_taken = true }
unfolding Effects.effect_of
halt_effect o p l h e = ap (λ q. Effects.effect_of q p l h) e

-- executed it leaves the processor as it begins
halt_processor : (row : Row) (x : MState) → IsHalt row → x.processor.ime ≡ ime.Off → x.processor.halt_mark ≡ false
    → record (advanced x.processor row) { halt_mark = true } ≡ record x.processor { pc = (x.processor.pc + (1 - mark_of x.processor)) % 65536; halt_mark = true }
unfolding advanced
halt_processor row x halt off mark =
    ap (λ n. record x.processor { pc = (x.processor.pc + n) % 65536; ime = ime_after x.processor.ime; halt_mark = true }) (halt_way row.op row.length (mark_of x.processor) halt.op_is halt.length_is)
    ∙ ap (λ i. record x.processor { pc = (x.processor.pc + (1 - mark_of x.processor)) % 65536; ime = i; halt_mark = true }) (off_after x.processor.ime off)

left_is : (rom : List ℕ) (row : Row) (x : MState) (reads : List ℕ) → IsHalt row → x.processor.ime ≡ ime.Off → x.processor.halt_mark ≡ false
    → outside (halt_bug (within rom x)) ≡ marked (left_by rom x (effect rom row x reads) row.cycles)
unfolding halt_bug within outside Effects.effect_of stored
left_is rom row x reads halt off mark =
    let same = sym (halt_processor row x halt off mark) in
    ap (λ p. record { processor = p; storage = (passed (view rom x false) 1).storage }) same
    ∙ (ap (λ n. record { processor = record (advanced x.processor row) { halt_mark = true }; storage = (passed (view rom x false) n).storage }) (sym halt.cycles_are)
    ∙ ap (λ (e : Effect). marked (left_by rom x e row.cycles)) (sym (halt_effect row.op (advanced x.processor row) (given rom row x reads).low (given rom row x reads).high halt.op_is)))

as_many : {n m : ℕ} → n ≡ m → n ≤ m
as_many e = omega arith

repeats_widely :
    (k : Stack) (rom : List ℕ) (row : Row) (a : ℕ) (s : AbsState) (ranges : List Range) (entry : Activation) (base : ℕ) (x : MState)
    → k.setting.rules ≡ Extended → entry.mark ≡ address_below base k.mark → Stands k.setting rom k.region row a s entry base x → IsHalt row → x.processor.ime ≡ ime.Off → x.processor.halt_mark ≡ false
    → LeadsBy k.setting k.region ranges (length s.items) (successors_of k entry.program rom row a s).taken entry base x (outside (halt_bug (within rom x)))
unfolding taken_successor with_cell_if
repeats_widely k rom row a s ranges entry base x extended below stands halt off mark =
    let before = before_of k entry.program s entry (begun row x) stands.core stands.pairs stands.within (AreReadIn-means s entry base x stands.means) (begun_core row x s.core entry stands.means.parts.core) (related_begun row x s.relations entry stands.means.related) in
    let p : Product = before.product in
    let c : Situation = record {
      stack = k;
      rom = rom;
      ranges = ranges;
      row = row;
      address = a;
      state = s;
      product = p;
      entry = entry;
      base = base;
      machine = x;
      reads = [];
    } in
    let t : IsTakenIn c = record {
      stands = stands;
      extended = extended;
      operands = halt_bytes row.op halt.op_is;
      runs = halt_runs row.op halt.op_is;
      marked = below;
      ready = λ meant. subst (λ m. IsReady k row.op m s base) (sym (halt_stays_put c halt.op_is)) (λ enables. halt_quiet row.op halt.op_is enables);
      mark = mark;
      byte = omega arith;
      second = omega arith;
      keeps = Keeps-both s.core (core_settle s.core) p.core (Keeps-settle s.core) (Keeps-cut (core_settle s.core) p.core before.cut.core);
      means = before.means.core;
      related = before.means.related;
      core = before.cut.inhabited (IsCore-settle s.core stands.core);
      pairs = before.cut.relations.pairs (is_free_byte k.region) stands.pairs;
      place = subst (λ (o : OneByte). IsBytePlaced (stack_held k.setting k.region (length s.items)) o.address) (sym before.cut.relations.byte) stands.place;
      taken = is_taken-without row.op (advanced x.processor row) (given_at c).low (given_at c).high (ap Flags.condition_of halt.op_is);
    } in
    let done = done_at c t (halt_allowed c t halt.op_is) in
    let some = possible c t in
    let r : Relations = relations_behind k entry.program rom row.op s p in
    let related : Successor = related_successor r (parts_at c) in
    let m : SummaryParts = summary_behind k entry.program row.op s p (move_at c) (parts_at c) in
    let parts : Successor = said_successor m related in
    let goes : (parts_at c).target ≡ target.At (next_at c) = halt_goes c t halt.op_is in
    let led : StaysAt k.region (next_at c) (parts_at c) entry base (left_at c) = subst (λ w. LeadsWidely k.setting k.region w (parts_at c) entry base (left_at c)) goes done.to in
    let bytes = bytes_behind_it c (given_at c).low (given_at c).high t (given_by c t done.loads) in
    let to : LeadsWidely k.setting k.region (parts_at c).target (parts_at c) entry base (marked (left_at c)) =
    subst (λ w. LeadsWidely k.setting k.region w (parts_at c) entry base (marked (left_at c))) (sym goes)
    (record { means = MeansParts-marked (parts_at c).state entry base (left_at c) led.means; goes = led.goes; room = led.room }) in
    let inner : Successor = with_product parts some.product in
    let settled : Successor = held_successor k (told_successor None s.core inner) in
    record {
      successor = settled;
      is_way = taken_way k entry.program rom row a s p (record { core = p.core; relations = p.relations; cell = None }) settled before.is (halt_side row.op (memory_before k entry.program s p) p halt.op_is)
          (settled_is k None s.core (taken_successor k entry.program rom row (behind_row a row) s (record { core = p.core; relations = p.relations; cell = None })) inner extended
          (reduced_way k.setting.rules k.setting.entered parts some.product some.is) refl);
      held = as_many (settled_count k None s.core inner ∙ subst (λ m. length (parts_at c).state.items ≡ bytes_moved m (length s.items)) (halt_stays_put c halt.op_is) done.bytes);
      leads = subst (λ y. Leads k.setting k.region ranges settled entry base x y) (sym (left_is rom row x [] halt off mark))
          (Leads-settled k ranges None s.core inner entry base x (marked (left_at c)) (record { extended = extended; based = stands.based; is_region = stands.is_region }) tt
          (Leads-said k.setting k.region ranges m (with_product related some.product) entry base x (marked (left_at c)) (said_aside c t)
          (Leads-narrowed k.setting k.region ranges related some.product entry base x (marked (left_at c)) extended some.is (pairs_behind c t) stands.within bytes done.leaves.related
          (LeadsWidely-related k.setting k.region (parts_at c).target r (parts_at c) entry base (marked (left_at c)) to) done.leaves.kept)
          (HoldSummary-settled entry.program (parts_at c).state.cells (said_at c) (left_at c).processor (marked (left_at c)).processor (peek (left_at c).storage) (left_at c).storage.banks refl refl (λ e. e)
          (said_holds c t (halt_allowed c t halt.op_is) done))));
    }

pub halt_repeats_widely :
    (k : Stack) (program : Program) (rom : List ℕ) (row : Row) (a : ℕ) (s : AbsState) (ranges : List Range) (entry : Activation) (base : ℕ) (x : MState)
    → k.setting.rules ≡ Extended → entry.program ≡ program → entry.mark ≡ address_below base k.mark → Stands k.setting rom k.region row a s entry base x → IsHalt row → x.processor.ime ≡ ime.Off → x.processor.halt_mark ≡ false
    → LeadsBy k.setting k.region ranges (length s.items) (successors_of k program rom row a s).taken entry base x (outside (halt_bug (within rom x)))
halt_repeats_widely k program rom row a s ranges entry base x extended of below stands halt off mark =
    subst (λ q. LeadsBy k.setting k.region ranges (length s.items) (successors_of k q rom row a s).taken entry base x (outside (halt_bug (within rom x)))) of
    (repeats_widely k rom row a s ranges entry base x extended below stands halt off mark)
