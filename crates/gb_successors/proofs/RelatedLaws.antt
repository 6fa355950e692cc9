-- What is known together of the states behind an instruction holds, by the rules of versions 1 and 2.
use Rattle.std.proofs.Common.{◌≡◌, ℕ, ◌+◌, Bool, true, false, if◌then◌else◌, List, Option, Some, None, refl, sym, ◌∙◌, subst, arith}
use Rattle.gb_ops.specs.declared.machine.Kind.{Kind}
use Rattle.gb_ops.specs.declared.machine.Region.{Region}
use Rattle.gb_ops.specs.declared.op.Pair.TheVariants as pair
use Rattle.gb_ops.specs.declared.op.Op.{Op}
use Rattle.gb_ops.specs.declared.op.Op.TheVariants as op
use Rattle.gb_ops.specs.declared.op.Row.{Row}
use Rattle.gb_ops.specs.declared.registers.Registers.{Registers}
use Rattle.gb_ops.specs.declared.registers.Flags.{Flags}
use Rattle.gb_ops.specs.Machine.{executed, advanced}
use Rattle.gb_ops.specs.Play.{MState, within, outside}
use Rattle.gb_domain.specs.declared.pairs.Bounds.{Bounds}
use Rattle.gb_domain.specs.declared.pairs.Link.{Link}
use Rattle.gb_domain.specs.declared.pairs.Other.{Other}
use Rattle.gb_domain.specs.declared.pairs.Other.TheVariants as other
use Rattle.gb_domain.specs.declared.pairs.Pairs.{Pairs}
use Rattle.gb_domain.specs.declared.pairs.WordPair.{WordPair}
use Rattle.gb_domain.specs.declared.places.StackBytes.{StackBytes}
use Rattle.gb_domain.specs.declared.relations.Relations.{Relations}
use Rattle.gb_domain.specs.declared.rules.Rules.{Rules}
use Rattle.gb_domain.specs.declared.rules.Rules.TheVariants.{Simple, Extended}
use Rattle.gb_domain.specs.declared.setting.Setting.{Setting}
use Rattle.gb_domain.specs.declared.types.Val.{Val}
use Rattle.gb_domain.specs.declared.types.Core.{Core}
use Rattle.gb_domain.specs.declared.types.Range.{Range}
use Rattle.gb_domain.specs.Types.{AbsState}
use Rattle.gb_domain.specs.Rules.{IsCore}
use Rattle.gb_domain.specs.Pairs.{facts_of}
use Rattle.gb_product.specs.Below.gb_abs.Located.{sp_halves}
use Rattle.gb_product.specs.Below.gb_abs.Operations.{core_end}
use Rattle.gb_product.specs.Below.gb_abs.Span.{one}
use Rattle.gb_product.specs.Below.gb_abs.Stack.{pushed, popped}
use Rattle.gb_product.specs.Below.gb_abs.Storage.{peek}
use Rattle.gb_product.specs.Below.gb_abs.Meaning.{Activation, MeansCore, MeansParts}
use Rattle.gb_product.specs.Below.gb_abs_effects.declared.targets.Target.{Target}
use Rattle.gb_product.specs.Below.gb_abs_effects.declared.targets.Target.TheVariants as target
use Rattle.gb_product.specs.Below.gb_abs_effects.declared.writes.AbsWrite.{AbsWrite}
use Rattle.gb_product.specs.Below.gb_abs_effects.declared.writes.AbsWrite.TheVariants as write
use Rattle.gb_product.specs.Below.gb_abs_effects.Sound as effects
use Rattle.gb_product.specs.Below.gb_abs_effects.Sound.{IsWrite}
use Rattle.gb_product.proofs.Below.gb_abs_effects_laws.RangeLaws.{transfer_inhabited}
use Rattle.gb_abs_memory.specs.Access.{stored_state}
use Rattle.gb_abs_memory.proofs.AfterStoreLaws.{IsCore-stored_state}
use Rattle.gb_product.specs.Below.gb_pairs.Meaning.{AreBytes, Beside, word_of, base_of, AreLinked, IsLinked, HoldPairs, Holds as HoldValues}
use Rattle.gb_product.specs.Below.gb_copies.Meaning.{HoldOneByte}
use Rattle.gb_product.specs.Below.gb_relations.Meaning.{HoldRelations}
use Rattle.gb_product.specs.Below.gb_relations.Compared.{compared_after}
use Rattle.gb_product.specs.Below.gb_relations.Transfer.{relations_after}
use Rattle.gb_product.specs.Below.gb_relations.Sound as relations
use Rattle.gb_product.specs.Below.gb_relations.Returned.{IsOtherSame}
use Rattle.gb_product.proofs.Below.gb_relations_laws.ComparedLaws.{HoldOneByte-compared_after}
use Rattle.gb_product.proofs.Below.gb_relations_laws.TransferLaws.{HoldPairs-nothing}
use Rattle.gb_product.proofs.Below.gb_relations_laws.CellLinkLaws.{other-same}
use Rattle.gb_product.specs.Meaning.{AreRelated}
use Rattle.gb_product.proofs.MeaningLaws.{AreBytes-core}
use Rattle.gb_successors.specs.Behind.{behind, written, starts, ended, with_relations}
use Rattle.gb_successors.specs.Stacks.{pushed_if_room}
use Rattle.gb_successors.specs.Refused.{meets_closed, meets_oam_transfer}
use Rattle.gb_successors.specs.Successors.{related_successor}
use Rattle.gb_successors.specs.Way.{Successor}
use Rattle.gb_successors.specs.Sound.{is_followed, IsAllowed, IsStackFit, LeadsSimply, LeadsTo, LeadsParts}
use Rattle.gb_successors.proofs.AroundLaws.{IsSpWithin-aside}
use Rattle.gb_successors.proofs.SaidLaws.{LeadsRelated}
use Rattle.gb_successors.proofs.SimpleLaws.{behind_row, low_of, high_of, abs_effect, with_stack_of, simple_parts}
use Rattle.gb_successors.proofs.SuccessorLaws.{begun, given, effect, left_by, is_word, IsWord-sp, state_is, executed_taken, IsTaken, is_write, leads_simply}
use Rattle.gb_product.specs.Below.gb_pairs.declared.values.Values.{Values}

-- ---- other things known together

pub MeansParts-related : (r : Relations) (s : AbsState) (entry : Activation) (base : ℕ) (x : MState) → MeansParts s entry base x → MeansParts (with_relations r s) entry base x
MeansParts-related r s entry base x m =
    record { core = m.core; memory = m.memory; sp = m.sp; stack = m.stack; items = m.items; cells = m.cells }

pub IsAllowed-parts :
    (z : Setting) (rom : List ℕ) (region : Region) (ranges : List Range) (s : AbsState) (base : ℕ) (r : Relations) (t : Successor)
    → IsAllowed z rom region ranges s base (related_successor r t) → IsAllowed z rom region ranges s base t
unfolding meets_closed meets_oam_transfer
IsAllowed-parts z rom region ranges s base r t h =
    record { stores = h.stores; ram = h.ram; oam_transfer = h.oam_transfer; stack = fit z.rules t.target h.stack }
  where
    fit : (q : Rules) (w : Target) → IsStackFit q region w s (related_successor r t) base → IsStackFit q region w s t base
    fit Extended w k = k
    fit Simple (target.At a) k = k
    fit Simple (target.Call a) k = k
    fit Simple target.Return k = record { located = k.located; held = k.held; return_word = k.return_word }
    fit Simple (target.Main a) k = k
    fit Simple target.Unknown k = k
    fit Simple target.Lost k = k

pub LeadsSimply-related :
    (region : Region) (w : Target) (r : Relations) (t : Successor) (entry : Activation) (base : ℕ) (x y : MState)
    → LeadsSimply region w t entry base x y → LeadsSimply region w (related_successor r t) entry base x y
unfolding pushed
LeadsSimply-related region (target.At a) r t entry base x y h = record { means = MeansParts-related r t.state entry base y h.means; goes = h.goes; room = h.room }
LeadsSimply-related region (target.Call a) r t entry base x y h =
    record { means = MeansParts-related r _ entry base y h.means; next = h.next; goes = h.goes; located = h.located; placed = h.placed }
LeadsSimply-related region target.Return r t entry base x y h = record { means = MeansParts-related r t.state entry (base + 2) y h.means; goes = h.goes }
LeadsSimply-related region (target.Main a) r t entry base x y h = tt
LeadsSimply-related region target.Unknown r t entry base x y h = tt
LeadsSimply-related region target.Lost r t entry base x y h = tt

-- where it is said that it leads
pub led_simply : (z : Setting) (region : Region) (w : Target) (t : Successor) (entry : Activation) (base : ℕ) (x y : MState) → z.rules ≡ Simple → LeadsTo z.rules z region w t entry base x y → LeadsSimply region w t entry base x y
led_simply z region w t entry base x y e h = subst (λ r. LeadsTo r z region w t entry base x y) e h

followed_simply : (z : Setting) (w : Target) → z.rules ≡ Simple → is_followed z.rules w ≡ true → is_followed Simple w ≡ true
followed_simply z w e h = subst (λ r. is_followed r w ≡ true) e h

-- ---- the core behind it

core_led : (region : Region) (w : Target) (t : Successor) (entry : Activation) (base : ℕ) (x y : MState) → is_followed Simple w ≡ true → LeadsSimply region w t entry base x y → MeansCore t.state.core entry y
unfolding pushed
core_led region (target.At a) t entry base x y known h = h.means.core
core_led region (target.Call a) t entry base x y known h = h.means.core
core_led region target.Return t entry base x y known h = h.means.core
core_led region (target.Main a) t entry base x y known h = cc
core_led region target.Unknown t entry base x y known h = cc
core_led region target.Lost t entry base x y known h = cc

IsCore-set : (c : Core) → IsCore c → IsCore (record c { stack_set = true })
IsCore-set c h = record { ime = h.ime; bound = h.bound; ctl = h.ctl; flags = h.flags; ie = h.ie; registers = h.registers }

IsCore-pushed : (z : Setting) (high low : Val) (s : AbsState) → IsCore s.core → IsCore (pushed_if_room z (record { high = high; low = low }) s).core
unfolding pushed_if_room pushed
IsCore-pushed z high low s h = by _
  where
    by : (b : Bool) → IsCore (if b then s else pushed (record { high = high; low = low }) s).core
    by true = h
    by false = h

IsCore-stacked : (z : Setting) (o : Op) (w : AbsWrite) (s : AbsState) → IsCore s.core → IsCore (with_stack_of z o w s).core
unfolding with_stack_of popped
IsCore-stacked z (op.LoadPair pair.Sp n) w s h = IsCore-set s.core h
IsCore-stacked z (op.Push from) (write.Push high low) s h = IsCore-pushed z high low s h
IsCore-stacked z (op.Pop to) w s h = h
IsCore-stacked z o w s h = h

IsCore-written : (z : Setting) (region : Region) (k : Kind) (w : AbsWrite) (s : AbsState) → IsWrite w → IsCore s.core → IsCore (written z region k w s).core
unfolding written
IsCore-written z region k write.Nothing s is h = h
IsCore-written z region k (write.Byte span v) s is h = IsCore-stored_state z region k span v s is h
IsCore-written z region k (write.Word a low high) s is h =
    IsCore-stored_state z region k (one (behind a)) high (stored_state z region k (one a) low s) is.1 (IsCore-stored_state z region k (one a) low s is.0 h)
IsCore-written z region k (write.Push high low) s is h = h

pub IsCore-ended : (b : Bool) (n : ℕ) (c : Core) → IsCore c → IsCore (core_end b n c)
unfolding core_end
IsCore-ended true n c h = record { ime = h.ime; bound = omega arith; ctl = h.ctl; flags = h.flags; ie = h.ie; registers = h.registers }
IsCore-ended false n c h = record { ime = h.ime; bound = let b = h.bound in omega arith; ctl = h.ctl; flags = h.flags; ie = h.ie; registers = h.registers }

IsCore-taken :
    (z : Setting) (rom : List ℕ) (region : Region) (ranges : List Range) (row : Row) (a : ℕ) (s : AbsState) (entry : Activation) (base : ℕ) (x : MState) (reads : List ℕ) (c : Core)
    → IsTaken z rom region ranges row a s entry base x reads c → IsCore (simple_parts z rom region row (behind_row a row) s c).state.core
unfolding ended
IsCore-taken z rom region ranges row a s entry base x reads c k =
    let w : AbsWrite = (abs_effect z rom row a s c).write in
    subst (λ (t : AbsState). IsCore t.core) (sym (state_is z rom region row a s c))
    (IsCore-ended (starts w) row.cycles _
    (IsCore-written z region _ w _ (is_write z rom region ranges row a s entry base x reads c k)
    (IsCore-stacked z row.op w _ (core_of k))))
  where
    core_of : IsTaken z rom region ranges row a s entry base x reads c → IsCore (abs_effect z rom row a s c).core
    core_of k =
        let word = is_word z rom s c _ k.core.ie k.stands.vals k.stands.items k.stands.cartridge.bytes in
        (transfer_inhabited z.is_whole row.op (behind_row a row) (sp_halves z s) c (low_of z rom row s c) (high_of z rom row s c) (abs_effect z rom row a s c) refl k.operands (omega arith) k.core word.low word.high (IsWord-sp z s entry base x k.stands.based k.stands.means.parts (IsSpWithin-aside s.summary.aside x.processor k.stands.means.summary.aside))).core

-- ---- taken

pub has_operands : (o : Op) → effects.HasBytes o → relations.HasBytes o
has_operands (op.LoadPair to w) h = h
has_operands (op.LoadImmediate to v) h = h
has_operands (op.AluImmediate how v) h = h
has_operands o h = tt

simply :
    (is_whole : Bool) (held : StackBytes) (o : Op) (sp : Bounds) (vals : Registers Val) (low : Val) (r : Relations) (was x : Registers ℕ) (memory : ℕ → ℕ) (f : Flags)
    → HoldOneByte (compared_after o r.byte) x memory f → AreBytes x → HoldRelations (relations_after Simple is_whole held o sp vals low r) was x memory f
unfolding relations_after
simply is_whole held o sp vals low r was x memory f byte bytes =
    record { byte = byte; zero = tt; pairs = HoldPairs-nothing (record { entered = was; memory = memory }) x bytes }

pub by_rules :
    (rules : Rules) (is_whole : Bool) (held : StackBytes) (o : Op) (sp : Bounds) (vals : Registers Val) (low : Val) (r : Relations) (was x : Registers ℕ) (memory : ℕ → ℕ) (f : Flags)
    → rules ≡ Simple → HoldOneByte (compared_after o r.byte) x memory f → AreBytes x → HoldRelations (relations_after rules is_whole held o sp vals low r) was x memory f
by_rules rules is_whole held o sp vals low r was x memory f simple byte bytes =
    subst (λ q. HoldRelations (relations_after q is_whole held o sp vals low r) was x memory f) (sym simple) (simply is_whole held o sp vals low r was x memory f byte bytes)

pub related_begun : (row : Row) (x : MState) (r : Relations) (entry : Activation) → AreRelated r entry x → AreRelated r entry (begun row x)
unfolding advanced
related_begun row x r entry h = h

-- so do the values of registers and pairs hold
pub values_begun : (row : Row) (x : MState) (v : Values) (was : Beside) → HoldValues v was (begun row x).processor.registers → HoldValues v was x.processor.registers
unfolding advanced
values_begun row x v was h = h

pub related_taken :
    (z : Setting) (rom : List ℕ) (region : Region) (ranges : List Range) (row : Row) (a : ℕ) (s : AbsState) (entry : Activation) (base : ℕ) (x : MState) (reads : List ℕ) (c : Core) (w : Target)
    → IsTaken z rom region ranges row a s entry base x reads c → is_followed Simple w ≡ true
    → LeadsSimply region w (simple_parts z rom region row (behind_row a row) s c) entry base x (outside (executed (within rom x) row reads))
    → (held : StackBytes) (sp : Bounds) (low : Val) (r : Relations) → AreRelated r entry (begun row x)
    → AreRelated (relations_after z.rules z.is_whole held row.op sp c.registers low r) entry (outside (executed (within rom x) row reads))
related_taken z rom region ranges row a s entry base x reads c w k known led held sp low r before =
    let t = simple_parts z rom region row (behind_row a row) s c in
    let e = effect rom row x reads in
    let y = outside (executed (within rom x) row reads) in
    let bytes : AreBytes y.processor.registers = AreBytes-core t.state.core entry y (IsCore-taken z rom region ranges row a s entry base x reads c k) (core_led region w t entry base x y known led) in
    let is : y ≡ left_by rom x e row.cycles = executed_taken z rom region ranges row a s entry base x reads c k in
    let byte : HoldOneByte (compared_after row.op r.byte) e.processor.registers (peek (left_by rom x e row.cycles).storage) e.processor.flags =
    HoldOneByte-compared_after row.op r.byte (begun row x).processor (peek x.storage) (peek (left_by rom x e row.cycles).storage)
    (given rom row x reads).low (given rom row x reads).high (has_operands row.op k.operands) (AreBytes-core c entry (begun row x) k.core k.means) before.byte in
    subst (λ (v : MState). AreRelated (relations_after z.rules z.is_whole held row.op sp c.registers low r) entry v) (sym is)
    (by_rules z.rules z.is_whole held row.op sp c.registers low r _ _ _ _ k.rules byte (subst (λ (v : MState). AreBytes v.processor.registers) is bytes))

pub Leads-taken :
    (z : Setting) (rom : List ℕ) (region : Region) (ranges : List Range) (row : Row) (a : ℕ) (s : AbsState) (entry : Activation) (base : ℕ) (x : MState) (reads : List ℕ) (c : Core)
    → IsTaken z rom region ranges row a s entry base x reads c
    → LeadsParts z region ranges (simple_parts z rom region row (behind_row a row) s c) entry base x (outside (executed (within rom x) row reads))
    → (held : StackBytes) (sp : Bounds) (low : Val) (r : Relations) → AreRelated r entry (begun row x)
    → LeadsRelated z region ranges (related_successor (relations_after z.rules z.is_whole held row.op sp c.registers low r) (simple_parts z rom region row (behind_row a row) s c)) entry base x
    (outside (executed (within rom x) row reads))
Leads-taken z rom region ranges row a s entry base x reads c k led held sp low r before =
    let t = simple_parts z rom region row (behind_row a row) s c in
    record {
      to = leads_simply z region t.target _ entry base x _ k.rules
          (LeadsSimply-related region t.target (relations_after z.rules z.is_whole held row.op sp c.registers low r) t entry base x _ (led_simply z region t.target t entry base x _ k.rules led.to));
      kept = led.kept;
      related = λ known. related_taken z rom region ranges row a s entry base x reads c t.target k (followed_simply z t.target k.rules known) (led_simply z region t.target t entry base x _ k.rules led.to) held sp low r before;
    }

-- ---- memory that stays

-- a link holds where memory stays
linked_same :
    (l : Option Link) (p : WordPair) (was x : Registers ℕ) (memory after : ℕ → ℕ) → ((b : ℕ) → after b ≡ memory b)
    → IsLinked l p (record { entered = was; memory = memory }) x → IsLinked l p (record { entered = was; memory = after }) x
linked_same None p was x memory after same h = tt
linked_same (Some l) p was x memory after same h =
    subst (λ n. AreLinked l (base_of l.base was) (word_of p x) n) (sym (other-same l.other was x memory after (read_same l.other))) h
  where
    read_same : (o : Other) → IsOtherSame o memory after
    read_same (other.Register r) = tt
    read_same (other.Pair q) = tt
    read_same (other.Cell a) = same a
    read_same other.Nothing = tt

-- so do links hold
HoldPairs-same :
    (s : Pairs) (was x : Registers ℕ) (memory after : ℕ → ℕ) → ((b : ℕ) → after b ≡ memory b)
    → HoldPairs s (record { entered = was; memory = memory }) x → HoldPairs s (record { entered = was; memory = after }) x
HoldPairs-same s was x memory after same h =
    record {
      each = λ p.
          let own = h.each p in
          record { first = own.first; last = own.last; link = linked_same (facts_of p s).link p was x memory after same own.link };
    }

pub HoldRelations-same : (r : Relations) (was x : Registers ℕ) (memory after : ℕ → ℕ) (f : Flags) → ((b : ℕ) → after b ≡ memory b) → HoldRelations r was x memory f → HoldRelations r was x after f
HoldRelations-same r was x memory after f same h =
    record {
      byte = record {
        byte = h.byte.byte;
        small = h.byte.small;
        registers = h.byte.registers;
        address = λ a e. same a ∙ h.byte.address a e;
        test = h.byte.test;
      };
      zero = h.zero;
      pairs = HoldPairs-same r.pairs was x memory after same h.pairs;
    }
