-- Where an instruction isn't taken it goes on behind it, by any rules.
use Rattle.std.proofs.Common.{◌≡◌, ℕ, ◌≤◌, Bool, false, cond, List, length, Option, Some, refl, sym, ◌∙◌, ap, subst, arith}
use Rattle.std.specs.Option.{IfSome}
use Rattle.gb_ops.specs.declared.machine.Region.{Region}
use Rattle.gb_ops.specs.declared.machine.Read.{Read}
use Rattle.gb_ops.specs.declared.machine.Read.TheVariants as machine_read
use Rattle.gb_ops.specs.declared.machine.Write.TheVariants as machine_write
use Rattle.gb_ops.specs.declared.op.Op.TheVariants as op
use Rattle.gb_ops.specs.declared.op.Row.{Row}
use Rattle.gb_ops.specs.Memory.{View, stored, passed}
use Rattle.gb_ops.specs.Machine.{executed, advanced, cycles_of}
use Rattle.gb_ops.specs.Faults.{no_faults, row_faults, load_faults}
use Rattle.gb_ops.specs.Play.{MState, within, outside}
use Rattle.gb_domain.specs.declared.relations.Relations.{Relations}
use Rattle.gb_domain.specs.declared.rules.Rules.{Rules}
use Rattle.gb_domain.specs.declared.rules.Rules.TheVariants.{Simple, Extended}
use Rattle.gb_domain.specs.declared.setting.Setting.{Setting}
use Rattle.gb_domain.specs.declared.types.Core.{Core}
use Rattle.gb_domain.specs.declared.types.Range.{Range}
use Rattle.gb_domain.specs.Types.{AbsState}
use Rattle.gb_product.specs.Below.gb_abs.Operations.{with_core}
use Rattle.gb_product.specs.Below.gb_abs.Meaning.{Activation, MeansCore}
use Rattle.gb_product.specs.Below.gb_abs.Stack.{AreInRegion}
use Rattle.gb_product.specs.Below.gb_abs.Storage.{peek}
use Rattle.gb_product.proofs.Below.gb_abs_laws.StackLaws.{MeansParts-with_core}
use Rattle.gb_product.specs.Below.gb_abs_effects.declared.targets.Target.TheVariants as target
use Rattle.gb_product.specs.Below.gb_abs_effects.declared.reads.AbsRead.TheVariants as read
use Rattle.gb_product.specs.Below.gb_abs_effects.declared.writes.AbsWrite.TheVariants as write
use Rattle.gb_product.specs.Below.gb_abs_effects.Transfer.{untaken}
use Rattle.gb_product.proofs.Below.gb_abs_effects_laws.TransferLaws.{untaken_sound}
use Rattle.gb_abs_memory.specs.Sound.{view}
use Rattle.gb_product.specs.Meaning.{AreRelated, IsSummarized}
use Rattle.gb_product.specs.declared.parts.Branch.{Branch}
use Rattle.gb_product.specs.Sound.{IsSideOf}
use Rattle.gb_successors.specs.declared.stacks.Stack.{Stack}
use Rattle.gb_successors.specs.Behind.{with_cell_if, with_relations, ended}
use Rattle.gb_successors.specs.Way.{Successor}
use Rattle.gb_successors.specs.Successors.{untaken_successor}
use Rattle.gb_successors.specs.Sound.{bytes_behind, StaysAt, LeadsTo, Stands}
use Rattle.gb_successors.proofs.SaidLaws.{LeadsRelated}
use Rattle.gb_successors.proofs.SimpleLaws.{behind_row}
use Rattle.gb_successors.proofs.SettledLaws.{HoldSummary-begun}
use Rattle.gb_successors.proofs.SummaryLaws.{HoldSummary-passed}
use Rattle.gb_successors.proofs.ToldLaws.{told_with_core}
use Rattle.gb_successors.proofs.PlainLaws.{Keeps, Keeps-both, Keeps-cut}
use Rattle.gb_successors.proofs.RelatedLaws.{MeansParts-related, HoldRelations-same}
use Rattle.gb_successors.proofs.SuccessorLaws.{begun, given, effect, begun_pc, begun_sp, left_by, executed_is, faults_are, MeansParts-ended, passed_peek, bytes-least}
use Rattle.gb_successors.proofs.StackWayLaws.{no_write, nothing_stored, no_store_faults}
use Rattle.gb_domain.specs.declared.types.Val.{Val}

-- ---- not taken

no_load_faults : (m : View) (r : Read) → r ≡ machine_read.Nothing → load_faults m r ≡ no_faults
unfolding load_faults
no_load_faults m r e = ap (load_faults m) e

pub ended_room : (region : Region) (base : ℕ) (is_started : Bool) (n : ℕ) (s : AbsState) → AreInRegion region base (length s.items) → AreInRegion region base (length (ended is_started n s).items)
unfolding ended
ended_room region base is_started n s h = h

pub bytes_ended : (n : ℕ) (s : AbsState) → length (ended false n s).items ≤ length s.items
unfolding ended
bytes_ended n s = omega arith

-- where it goes on in the same procedure, by any rules
pub leads_at : (z : Setting) (region : Region) (a : ℕ) (t : Successor) (entry : Activation) (base : ℕ) (x y : MState) → StaysAt region a t entry base y → LeadsTo z.rules z region (target.At a) t entry base x y
leads_at z region a t entry base x y h = by z.rules
  where
    by : (r : Rules) → LeadsTo r z region (target.At a) t entry base x y
    by Simple = h
    by Extended = h

-- nothing happens but that time passes
abbrev pub simple_untaken : Row → ℕ → AbsState → Core → Relations → Successor
simple_untaken row next s c r =
    record {
      read = read.Nothing;
      write = write.Nothing;
      target = target.At next;
      next = next;
      state = with_relations r (ended false row.cycles_not_taken (with_core s c));
    }

pub untaken_simply :
    (k : Stack) (row : Row) (next : ℕ) (s : AbsState) (b : Branch)
    → untaken_successor k row next s b ≡ simple_untaken row next (with_cell_if k.setting b.cell s) b.core b.relations
unfolding untaken_successor
untaken_simply k row next s b =
    ap (λ t. record {
      read = read.Nothing;
      write = write.Nothing;
      target = target.At next;
      next = next;
      state = with_relations b.relations (ended false row.cycles_not_taken t);
    }) (told_with_core k.setting b.cell s b.core)

pub bytes_untaken : (row : Row) (next : ℕ) (s : AbsState) (c : Core) (r : Relations) → length (simple_untaken row next s c r).state.items ≤ bytes_behind row.op (length s.items)
unfolding ended
bytes_untaken row next s c r = bytes-least row.op (length s.items)

pub untaken_executes :
    (z : Setting) (rom : List ℕ) (region : Region) (ranges : List Range) (row : Row) (a : ℕ) (s : AbsState) (entry : Activation) (base : ℕ) (x : MState) (reads : List ℕ) (c : Core) (r : Relations)
    → Stands z rom region row a s entry base x → (row.op ≡ op.Stop → ⊥) → x.processor.halt_mark ≡ false
    → Keeps s.core c → MeansCore c entry (begun row x) → AreRelated r entry (begun row x) → (effect rom row x reads).is_taken ≡ false
    → LeadsRelated z region ranges (simple_untaken row (behind_row a row) s c r) entry base x (outside (executed (within rom x) row reads))
    × IsSummarized (simple_untaken row (behind_row a row) s c r).state entry (outside (executed (within rom x) row reads)) × (row_faults (Some row) region (within rom x) reads ≡ no_faults)
    × ((b : ℕ) → peek (outside (executed (within rom x) row reads)).storage b ≡ peek x.storage b)
unfolding untaken ended
untaken_executes z rom region ranges row a s entry base x reads c r stands runs mark keeps means related not_taken =
    let e = effect rom row x reads in
    let v = given rom row x reads in
    let sound = untaken_sound c (untaken c) refl in
    let nothing : e.write ≡ machine_write.Nothing = no_write entry (begun row x).processor.sp e.write ((sound.gives row.op entry (begun row x) v.low v.high means not_taken).write) in
    let same : e.processor ≡ advanced x.processor row = sound.stays row.op (advanced x.processor row) v.low v.high not_taken in
    let cycles : cycles_of row e.is_taken ≡ row.cycles_not_taken = ap (λ b. cond b row.cycles row.cycles_not_taken) not_taken in
    let is : outside (executed (within rom x) row reads) ≡ record { processor = advanced x.processor row; storage = (passed (view rom x false) row.cycles_not_taken).storage } =
    executed_is rom x row reads
    ∙ (ap (left_by rom x e) cycles
    ∙ (ap (λ p. record { processor = p; storage = (passed (stored (view rom x false) e.write) row.cycles_not_taken).storage }) same
    ∙ ap (λ (m : View). record { processor = advanced x.processor row; storage = (passed m row.cycles_not_taken).storage }) (nothing_stored (view rom x false) e.write nothing))) in (
      subst (λ y. LeadsRelated z region ranges (simple_untaken row (behind_row a row) s c r) entry base x y) (sym is)
          (record {
            to = leads_at z region (behind_row a row) (simple_untaken row (behind_row a row) s c r) entry base x _ (record {
              means = MeansParts-related r _ entry base _
                  (MeansParts-ended rom (with_core s c) entry base (advanced x.processor row) (view rom x false) false row.cycles_not_taken refl
                  (MeansParts-with_core s c entry base x (begun row x) stands.means.parts means refl refl (begun_sp row x) (λ set. sym keeps.stack ∙ set)));
              goes = begun_pc row x a runs mark stands.at;
              room = ended_room region base false row.cycles_not_taken (with_core s c) stands.room;
            });
            kept = λ b kept. passed_peek (view rom x false) row.cycles_not_taken b;
            related = λ known. HoldRelations-same r _ _ (peek x.storage) _ _ (λ b. passed_peek (view rom x false) row.cycles_not_taken b) related;
          }),
      subst (λ y. IsSummarized (simple_untaken row (behind_row a row) s c r).state entry y) (sym is)
          (HoldSummary-passed entry.program s.cells s.summary (advanced x.processor row) (view rom x false) row.cycles_not_taken (HoldSummary-begun entry.program s.cells s.summary row x stands.means.summary)),
      faults_are rom region x row reads
          (no_load_faults (view rom x false) _ (sound.reads row.op (advanced x.processor row) v.low v.high not_taken))
          (no_store_faults region (view rom x false) e.write nothing),
      subst (λ (y : MState). (b : ℕ) → peek y.storage b ≡ peek x.storage b) (sym is) (λ b. passed_peek (view rom x false) row.cycles_not_taken b),
    )

-- ---- sides

-- a side keeps what its own core keeps
pub keeps_side : (s settled : Core) (memory : Val) (r : Relations) (b : Branch) → Keeps s settled → IsSideOf memory settled r b → Keeps s b.core
keeps_side s settled memory r b h is = Keeps-both s settled b.core h (Keeps-cut settled b.core is.core)

pub side_facts : (o : Option Branch) (b : Branch) (memory : Val) (c : Core) (r : Relations) → o ≡ Some b → IfSome o (IsSideOf memory c r) → IsSideOf memory c r b
side_facts o b memory c r e h = subst (λ (p : Option Branch). IfSome p (IsSideOf memory c r)) e h
