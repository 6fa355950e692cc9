-- The states behind an instruction are such as states may be: each register has a value, the address among the places is free,
-- pairs have words, and what is said of the whole program lies in RAM outside the stack region.
use Rattle.std.proofs.Common.{◌≡◌, ℕ, ◌+◌, ◌%◌, ◌≤◌, ◌<◌, Bool, true, false, cond, inl, inr, List, length, Option, Some, None, refl, sym, ◌∙◌, subst, arith}
use Rattle.std.proofs.lemmas.Option.{same_Some}
use Rattle.std.specs.Prelude.{IfSome, option_and_then}
use Rattle.gb_ops.specs.declared.machine.Kind.{Kind}
use Rattle.gb_ops.specs.declared.machine.Region.{Region}
use Rattle.gb_ops.specs.declared.op.Register.{Register}
use Rattle.gb_ops.specs.declared.op.Register.TheVariants.{A, B, C, D, E, H, L}
use Rattle.gb_ops.specs.declared.op.Row.{Row}
use Rattle.gb_ops.specs.declared.registers.Registers.{Registers}
use Rattle.gb_ops.specs.Cartridge.{kind_of}
use Rattle.gb_ops.specs.Play.{MState}
use Rattle.gb_ops.specs.Registers.{get}
use Rattle.gb_domain.specs.declared.low_bits.LowBits.{LowBits}
use Rattle.gb_domain.specs.declared.pairs.Bounds.{Bounds}
use Rattle.gb_domain.specs.declared.pairs.PairBounds.{PairBounds}
use Rattle.gb_domain.specs.declared.pairs.WordPair.TheVariants as pairs
use Rattle.gb_domain.specs.declared.places.OneByte.{OneByte}
use Rattle.gb_domain.specs.declared.rules.Rules.{Rules}
use Rattle.gb_domain.specs.declared.rules.Rules.TheVariants.{Simple, Extended}
use Rattle.gb_domain.specs.declared.types.Cell.{Cell}
use Rattle.gb_domain.specs.declared.types.Core.{Core}
use Rattle.gb_domain.specs.declared.types.Val.{Val}
use Rattle.gb_domain.specs.Pairs.{any_pairs, ArePairs}
use Rattle.gb_domain.specs.Rules.{IsVal, IsCore}
use Rattle.gb_domain.specs.Settings.{IsBase}
use Rattle.gb_domain.specs.Summaries.{Program}
use Rattle.gb_domain.specs.Types.{AbsState}
use Rattle.gb_product.specs.Below.gb_summaries.Elsewhere.{IsFree}
use Rattle.gb_product.specs.Below.gb_abs.declared.span.Span.{Span}
use Rattle.gb_product.specs.Below.gb_abs.Located.{sp_halves, sp_bounds, bounds_by, sp_bounds_by, stack_base, IsSpWithin}
use Rattle.gb_product.specs.Below.gb_abs.Meaning.{Activation, MeansParts}
use Rattle.gb_product.specs.Below.gb_abs.Operations.{core_settle}
use Rattle.gb_product.specs.Below.gb_abs.Origins.{registers_without_origins, core_without_origins}
use Rattle.gb_product.proofs.Below.gb_abs_laws.LocatedLaws.{bounds_sound}
use Rattle.gb_product.proofs.Below.gb_abs_laws.OperationLaws.{IsCore-settle}
use Rattle.gb_product.specs.Below.gb_abs_effects.declared.writes.AbsEffect.{AbsEffect}
use Rattle.gb_product.specs.Below.gb_abs_effects.declared.writes.AbsWrite.{AbsWrite}
use Rattle.gb_product.specs.Below.gb_abs_effects.declared.writes.AbsWrite.TheVariants as write
use Rattle.gb_product.specs.Below.gb_abs_effects.Sound.{HasBytes, IsWrite, IsAbsEffect}
use Rattle.gb_product.specs.Below.gb_abs_effects.Transfer.{transfer}
use Rattle.gb_product.proofs.Below.gb_abs_effects_laws.RangeLaws.{transfer_inhabited}
use Rattle.gb_abs_memory.specs.declared.store.Area.{Area}
use Rattle.gb_abs_memory.specs.declared.store.Area.TheVariants as area
use Rattle.gb_abs_memory.specs.Access.{area_of, stored_core_in, stored_core}
use Rattle.gb_abs_memory.proofs.WindowLaws.{ctl_written-valid}
use Rattle.gb_product.specs.declared.parts.Branch.{Branch}
use Rattle.gb_product.specs.declared.parts.Product.{Product}
use Rattle.gb_product.specs.Below.gb_relations.Sound.{IsBytePlaced}
use Rattle.gb_product.specs.Held.{stack_held}
use Rattle.gb_product.specs.Below.gb_abs_effects.declared.targets.Target.{Target}
use Rattle.gb_product.specs.Below.gb_abs_effects.declared.targets.Target.TheVariants as target
use Rattle.gb_domain.specs.declared.setting.Setting.{Setting}
use Rattle.gb_domain.specs.Areas.{is_free_byte}
use Rattle.gb_successors.specs.declared.way.Told.{Told}
use Rattle.gb_successors.specs.Behind.{told_behind}
use Rattle.gb_successors.specs.Settled.{branch_outside, told_by, told_at_target, told_successor, relations_left, held_successor}
use Rattle.gb_successors.proofs.HoldingLaws.{IsPlacedBehind, placed_behind, settled_cases}
use Rattle.gb_product.specs.Reduced.{product_of, reduced}
use Rattle.gb_product.specs.Sides.{taken_side, not_taken_side}
use Rattle.gb_product.specs.Sound.{IsReduced, IsSideOf}
use Rattle.gb_product.proofs.Below.gb_relations_laws.TransferLaws.{relations_after_sound, relations_after_kept}
use Rattle.gb_product.proofs.Below.gb_relations_laws.Below.gb_pairs_laws.KeptLaws.{without_bases_kept}
use Rattle.gb_product.proofs.ReducedLaws.{reduced_cuts}
use Rattle.gb_product.proofs.SideLaws.{taken_side_cuts, not_taken_side_cuts}
use Rattle.gb_successors.specs.declared.stacks.Stack.{Stack}
use Rattle.gb_successors.specs.declared.stacks.StackMove.{StackMove}
use Rattle.gb_successors.specs.declared.stacks.StackMove.TheVariants as move
use Rattle.gb_product.specs.Below.gb_relations.Transfer.{values_of}
use Rattle.gb_product.specs.Covering.{read_in as bytes_read}
use Rattle.gb_successors.specs.Behind.{starts, written_core, core_behind, ended}
use Rattle.gb_successors.specs.Refined.{cut_write, with_carry, refined}
use Rattle.gb_successors.specs.Sound.{IsOneOf, Stands}
use Rattle.gb_successors.specs.Stacks.{moved_core}
use Rattle.gb_successors.specs.Successors.{pointer_in, bits_in, word_in, effect_in, taken_parts, relations_behind, taken_successor, untaken_successor, with_product, woken, staying_successor, may_stay, stays, product_before, settled_way, taken_by_side, not_taken_by_side, taken_from, not_taken_from, successors_of, summary_behind, memory_before}
use Rattle.gb_successors.specs.Way.{Successor}
use Rattle.gb_successors.proofs.AroundLaws.{IsSpWithin-aside}
use Rattle.gb_successors.proofs.RelatedLaws.{IsCore-ended, has_operands}
use Rattle.gb_successors.proofs.SimpleLaws.{behind_row}
use Rattle.gb_successors.proofs.SituationLaws.{IsWrite-cut}
use Rattle.gb_ops.specs.Pointers.{pointer_of}
use Rattle.gb_successors.specs.Summaries.{pointed_bits}
use Rattle.gb_successors.proofs.LoadedLaws.{is_word_by}
use Rattle.gb_successors.proofs.SuccessorLaws.{IsWord-sp}
use Rattle.gb_successors.proofs.MovedLaws.{told_summary}
use Rattle.gb_successors.proofs.SummaryLaws.{apart_by}
use Rattle.gb_successors.proofs.UntakenLaws.{untaken_simply}
use Rattle.gb_successors.specs.StackMark.{marks, marked}
use Rattle.gb_successors.proofs.StackMarkLaws.{IsCore-marked, IsWrite-marked}

-- What a certificate too asks of the states of a successor. By the rules of version 3 their place is one of the procedure's, or none of an
-- item's where main begins anew.
pub record IsFormed (z : Setting) (region : Region) (t : Successor) : Type 0 where
  pub core : IsCore t.state.core
  pub place : z.rules ≡ Extended → IsPlacedBehind z region t.target t.state
  pub pairs : ArePairs (is_free_byte region) t.state.relations.pairs
  pub apart : IsFree region t.state.summary

-- so far, places may be among so many items
record IsFormedAmong (z : Setting) (region : Region) (n : ℕ) (s : AbsState) : Type 0 where
  core : IsCore s.core
  place : IsBytePlaced (stack_held z region n) s.relations.byte.address
  pairs : ArePairs (is_free_byte region) s.relations.pairs
  apart : IsFree region s.summary

-- ---- the core

IsCore-carry : (carry : Option Bool) (c : Core) → IsCore c → IsCore (with_carry carry c)
IsCore-carry None c h = h
IsCore-carry (Some true) c h =
    record {
      ime = h.ime;
      bound = h.bound;
      ctl = h.ctl;
      flags = record { zero = h.flags.zero; subtract = h.flags.subtract; half_carry = h.flags.half_carry; carry = refl };
      ie = h.ie;
      registers = h.registers;
    }
IsCore-carry (Some false) c h =
    record {
      ime = h.ime;
      bound = h.bound;
      ctl = h.ctl;
      flags = record { zero = h.flags.zero; subtract = h.flags.subtract; half_carry = h.flags.half_carry; carry = refl };
      ie = h.ie;
      registers = h.registers;
    }

IsVal-bare : (r : Register) (s : Registers Val) → IsVal (get r s) → IsVal (get r (registers_without_origins s))
IsVal-bare A s h = record { order = h.order; hi = h.hi; strided = h.strided }
IsVal-bare B s h = record { order = h.order; hi = h.hi; strided = h.strided }
IsVal-bare C s h = record { order = h.order; hi = h.hi; strided = h.strided }
IsVal-bare D s h = record { order = h.order; hi = h.hi; strided = h.strided }
IsVal-bare E s h = record { order = h.order; hi = h.hi; strided = h.strided }
IsVal-bare H s h = record { order = h.order; hi = h.hi; strided = h.strided }
IsVal-bare L s h = record { order = h.order; hi = h.hi; strided = h.strided }

IsCore-bare : (c : Core) → IsCore c → IsCore (core_without_origins c)
unfolding core_without_origins
IsCore-bare c h =
    record {
      ime = h.ime;
      bound = h.bound;
      ctl = record { bank = h.ctl.bank; bank_hi = h.ctl.bank_hi; second = h.ctl.second; second_hi = h.ctl.second_hi; gate = h.ctl.gate; mode = h.ctl.mode };
      flags = record { zero = h.flags.zero; subtract = h.flags.subtract; half_carry = h.flags.half_carry; carry = h.flags.carry };
      ie = record { order = h.ie.order; hi = h.ie.hi; strided = h.ie.strided };
      registers = λ r. IsVal-bare r c.registers (h.registers r);
    }

IsCore-set : (c : Core) → IsCore c → IsCore (record c { stack_set = true })
IsCore-set c h = record { ime = h.ime; bound = h.bound; ctl = h.ctl; flags = h.flags; ie = h.ie; registers = h.registers }

IsCore-moved : (m : StackMove) (c : Core) → IsCore c → IsCore (moved_core m c)
unfolding moved_core
IsCore-moved (move.Set n) c h = IsCore-set c h
IsCore-moved (move.Restart n) c h = IsCore-set (core_without_origins c) (IsCore-bare c h)
IsCore-moved m c h = h

IsCore-stored_in : (whole : Bool) (o : Option Area) (k : Kind) (span : Span) (v : Val) (c : Core) → IsVal v → IsCore c → IsCore (stored_core_in whole o k span v c)
IsCore-stored_in whole (Some (area.Controller (Some r))) k span v c is h =
    record { ime = h.ime; bound = h.bound; ctl = ctl_written-valid whole k r v c.ctl is h.ctl; flags = h.flags; ie = h.ie; registers = h.registers }
IsCore-stored_in whole (Some area.InterruptEnable) k span v c is h = record { ime = h.ime; bound = h.bound; ctl = h.ctl; flags = h.flags; ie = is; registers = h.registers }
IsCore-stored_in whole o k span v c is h = h

IsCore-stored : (whole : Bool) (k : Kind) (span : Span) (v : Val) (c : Core) → IsVal v → IsCore c → IsCore (stored_core whole k span v c)
unfolding stored_core
IsCore-stored whole k span v c is h = IsCore-stored_in whole (area_of k span) k span v c is h

IsCore-written : (whole : Bool) (k : Kind) (w : AbsWrite) (c : Core) → IsWrite w → IsCore c → IsCore (written_core whole k w c)
unfolding written_core
IsCore-written whole k write.Nothing c is h = h
IsCore-written whole k (write.Byte span v) c is h = IsCore-stored whole k span v c is h
IsCore-written whole k (write.Word a low high) c is h = IsCore-stored whole k _ high _ is.1 (IsCore-stored whole k _ low c is.0 h)
IsCore-written whole k (write.Push high low) c is h = h

IsCore-behind : (whole : Bool) (k : Kind) (m : StackMove) (n : ℕ) (w : AbsWrite) (c : Core) → IsWrite w → IsCore c → IsCore (core_behind whole k m n w c)
unfolding core_behind
IsCore-behind whole k m n w c is h = IsCore-ended (starts w) n _ (IsCore-written whole k w (moved_core m c) is (IsCore-moved m c h))

-- ---- reduced

formed_product :
    (rules : Rules) (entered : PairBounds) (z : Setting) (region : Region) (n : ℕ) (t : Successor) (p : Product) → reduced rules entered any_pairs t.state.core t.state.relations ≡ Some p
    → IsFormedAmong z region n t.state → IsFormedAmong z region n (with_product t p).state
formed_product rules entered z region n t p e h =
    let cut : IsReduced t.state.core t.state.relations p = reduced_cuts rules entered any_pairs t.state.core t.state.relations (Some p) (sym e) in
    record {
      core = cut.inhabited h.core;
      place = subst (λ (o : OneByte). IsBytePlaced (stack_held z region n) o.address) (sym cut.relations.byte) h.place;
      pairs = cut.relations.pairs (is_free_byte region) h.pairs;
      apart = h.apart;
    }

-- ---- settled

pairs_left : (k : Stack) (w : Target) (s : AbsState) → ArePairs (is_free_byte k.region) s.relations.pairs → ArePairs (is_free_byte k.region) (relations_left k w s).pairs
pairs_left k (target.Main a) s h = without_bases_kept (is_free_byte k.region) s.relations.pairs _ refl h
pairs_left k (target.At a) s h = h
pairs_left k (target.Call a) s h = h
pairs_left k target.Return s h = h
pairs_left k target.Unknown s h = h
pairs_left k target.Lost s h = h

formed_told : (z : Setting) (region : Region) (n : ℕ) (o : Option Told) (core : Core) (s : AbsState) → IsFormedAmong z region n s → IsFormedAmong z region n (told_behind o core s)
formed_told z region n None core s h = h
formed_told z region n (Some t) core s h = record { core = h.core; place = h.place; pairs = h.pairs; apart = h.apart }

formed_held : (k : Stack) (n : ℕ) (o : Option Told) (core : Core) (t : Successor) → IsFormedAmong k.setting k.region n t.state → IsFormed k.setting k.region (held_successor k (told_successor o core t))
formed_held k n o core t h =
    let s = told_behind (told_at_target t.target o) core t.state in
    let told = formed_told k.setting k.region n (told_at_target t.target o) core t.state h in
    record {
      core = told.core;
      place = λ e. placed_behind k t.target s n told.place;
      pairs = pairs_left k t.target s told.pairs;
      apart = told.apart;
    }

not_both : Simple ≡ Extended → ⊥
not_both e = cc

formed_settled :
    (k : Stack) (n : ℕ) (cell : Option Cell) (core : Core) (t u : Successor) → settled_way k cell core t ≡ Some u → IsFormedAmong k.setting k.region n t.state → IsFormed k.setting k.region u
formed_settled k n cell core t u is h =
    settled_cases (λ (w : Successor). IsFormed k.setting k.region w) k cell core t u is
    (λ p e extended. formed_held k n (told_by Extended k cell) core (with_product t p) (formed_product k.setting.rules k.setting.entered k.setting k.region n t p e h))
    (λ p e simple.
    let f = formed_product k.setting.rules k.setting.entered k.setting k.region n t p e h in
    record { core = f.core; place = λ extended. absurd (not_both (sym simple ∙ extended)); pairs = f.pairs; apart = f.apart })

-- ---- the sides

-- what is known on a side, before the instruction's work
record IsFormedBranch (z : Setting) (region : Region) (n : ℕ) (b : Branch) : Type 0 where
  core : IsCore b.core
  place : IsBytePlaced (stack_held z region n) b.relations.byte.address
  pairs : ArePairs (is_free_byte region) b.relations.pairs

-- of states that are formed, with a place by any rules
branch_formed :
    (z : Setting) (region : Region) (n : ℕ) (memory : Val) (s : AbsState) (p : Product) (b : Branch) → IsFormedAmong z region n s → IsReduced (core_settle s.core) s.relations p → IsSideOf memory p.core p.relations b
    → IsFormedBranch z region n (branch_outside region b)
branch_formed z region n memory s p b h cut is =
    record {
      core = is.inhabited (cut.inhabited (IsCore-settle s.core h.core));
      place = subst (λ (o : OneByte). IsBytePlaced (stack_held z region n) o.address) (sym (is.relations.byte ∙ cut.relations.byte)) h.place;
      pairs = is.relations.pairs (is_free_byte region) (cut.relations.pairs (is_free_byte region) h.pairs);
    }

sp_below :
    (z : Setting) (s : AbsState) (entry : Activation) (base : ℕ) (x : MState) → IsBase z base → MeansParts s entry base x → IsSpWithin s.summary.aside x.processor.sp
    → IfSome s.summary.aside (λ b. b.last < 65536) → (sp_bounds z s).last < 65536
unfolding sp_bounds
sp_below z s entry base x right m within small =
    let known = bounds_sound z s (sp_bounds z s) refl in
    by_aside s.summary.aside small (known.first entry base x right m within)
  where
    by : (o : Option ℕ) → (bounds_by o (length s.items)).first ≤ x.processor.sp → (bounds_by o (length s.items)).last < 65536
    by None h = omega arith
    by (Some b) h = let small = m.sp in omega arith

    by_aside : (a : Option Bounds) → IfSome a (λ b. b.last < 65536) → (sp_bounds_by a (stack_base z s.core) (length s.items)).first ≤ x.processor.sp → (sp_bounds_by a (stack_base z s.core) (length s.items)).last < 65536
    by_aside None e h = by (stack_base z s.core) h
    by_aside (Some b) e h = e

refined_parts : (b : Option Bounds) (k : Option LowBits) (carry : Option Bool) (t : AbsEffect) → ((refined b k carry t).core ≡ with_carry carry t.core) × ((refined b k carry t).write ≡ cut_write b k t.write)
unfolding refined
refined_parts b k carry t = (refl, refl)

-- its effect is one
record IsFormedEffect (e : AbsEffect) : Type 0 where
  core : IsCore e.core
  write : IsWrite e.write

next_small : (n : ℕ) → n % 65536 < 65536
next_small n = omega arith

effect_formed :
    (k : Stack) (program : Program) (rom : List ℕ) (row : Row) (a : ℕ) (s : AbsState) (p : Product) (entry : Activation) (base : ℕ) (x : MState) → Stands k.setting rom k.region row a s entry base x → HasBytes row.op → IsCore p.core
    → IsFormedEffect (effect_in k program rom row.op (behind_row a row) s p)
unfolding effect_in marked
effect_formed k program rom row a s p entry base x stands operands core =
    let word = is_word_by k.setting.rules k.setting k.region program rom (values_of p.core.registers p.relations.pairs) (pointed_bits (pointer_of row.op) p.core.registers) s p.core _ core.ie stands.vals stands.items stands.cartridge.bytes in
    let t = transfer k.setting.is_whole row.op (behind_row a row) (sp_halves k.setting s) p.core (word_in k program rom row.op s p).low (word_in k program rom row.op s p).high in
    let is : IsAbsEffect t =
    transfer_inhabited k.setting.is_whole row.op (behind_row a row) (sp_halves k.setting s) p.core (word_in k program rom row.op s p).low (word_in k program rom row.op s p).high t refl operands (next_small (a + row.length)) core word.low word.high
    (IsWord-sp k.setting s entry base x stands.based stands.means.parts (IsSpWithin-aside s.summary.aside x.processor stands.means.summary.aside)) in
    record { core = IsCore-marked row.op (marks k row.op s p.core) _ (subst IsCore (sym (refined_parts (pointer_in k row.op p) (bits_in k row.op p) _ t).0) (IsCore-carry _ t.core is.core)); write = IsWrite-marked _ (marks k row.op s p.core) (subst IsWrite (sym (refined_parts (pointer_in k row.op p) (bits_in k row.op p) _ t).1) (IsWrite-cut (pointer_in k row.op p) (bits_in k row.op p) t.write is.write)) }

parts_core : (k : Stack) (program : Program) (rom : List ℕ) (row : Row) (next : ℕ) (s : AbsState) (p : Product) (cell : Option Cell) → IsFormedEffect (effect_in k program rom row.op next s p) → IsCore (taken_parts k program rom row next s p cell).state.core
unfolding taken_parts
parts_core k program rom row next s p cell h = IsCore-behind k.setting.is_whole (kind_of rom) _ row.cycles (effect_in k program rom row.op next s p).write _ h.write h.core

relations_formed :
    (k : Stack) (program : Program) (rom : List ℕ) (row : Row) (a : ℕ) (s : AbsState) (p : Product) (entry : Activation) (base : ℕ) (x : MState) → Stands k.setting rom k.region row a s entry base x → HasBytes row.op
    → ArePairs (is_free_byte k.region) p.relations.pairs → IsBytePlaced (stack_held k.setting k.region (length s.items)) p.relations.byte.address
    → IsBytePlaced (stack_held k.setting k.region (length s.items)) (relations_behind k program rom row.op s p).byte.address × ArePairs (is_free_byte k.region) (relations_behind k program rom row.op s p).pairs
unfolding relations_behind
relations_formed k program rom row a s p entry base x stands operands are place = (
  (relations_after_sound k.setting.rules k.setting.is_whole (stack_held k.setting k.region (length s.items)) row.op (sp_bounds k.setting s) p.core.registers (word_in k program rom row.op s p).low p.relations _ refl
      (has_operands row.op operands) (sp_below k.setting s entry base x stands.based stands.means.parts (IsSpWithin-aside s.summary.aside x.processor stands.means.summary.aside) stands.aside) (are.each pairs.Bc).last (are.each pairs.De).last (are.each pairs.Hl).last).placed place,
  relations_after_kept (is_free_byte k.region) k.setting.rules k.setting.is_whole (stack_held k.setting k.region (length s.items)) row.op _ p.core.registers (word_in k program rom row.op s p).low p.relations _ refl are,
)

taken_formed :
    (k : Stack) (program : Program) (rom : List ℕ) (row : Row) (a : ℕ) (s : AbsState) (b : Branch) (entry : Activation) (base : ℕ) (x : MState) → Stands k.setting rom k.region row a s entry base x → HasBytes row.op
    → IsFormedBranch k.setting k.region (length s.items) b → IsFormedAmong k.setting k.region (length s.items) (taken_successor k program rom row (behind_row a row) s b).state
unfolding taken_successor summary_behind
taken_formed k program rom row a s b entry base x stands operands h =
    let p = product_of b.core b.relations in
    let r = relations_formed k program rom row a s p entry base x stands operands h.pairs h.place in
    record { core = parts_core k program rom row (behind_row a row) s p b.cell (effect_formed k program rom row a s p entry base x stands operands h.core); place = r.0; pairs = r.1; apart = apart_by k.setting.rules k program row.op s p _ _ _ h.place stands.apart }

untaken_formed :
    (k : Stack) (row : Row) (next : ℕ) (s : AbsState) (b : Branch) → IsFormedBranch k.setting k.region (length s.items) b → IsFree k.region s.summary
    → IsFormedAmong k.setting k.region (length s.items) (untaken_successor k row next s b).state
unfolding ended
untaken_formed k row next s b h apart =
    subst (λ (t : Successor). IsFormedAmong k.setting k.region (length s.items) t.state) (sym (untaken_simply k row next s b))
    (record {
      core = IsCore-ended false row.cycles_not_taken b.core h.core;
      place = h.place;
      pairs = h.pairs;
      apart = subst (IsFree k.region) (sym (told_summary k.setting b.cell s)) apart;
    })

staying_formed : (z : Setting) (region : Region) (a : ℕ) (s : AbsState) → IsFormedAmong z region (length s.items) s → IsFormed z region (staying_successor a s)
unfolding staying_successor ended
staying_formed z region a s h =
    record {
      core = IsCore-ended false 1 (woken s.core) (record { ime = refl; bound = h.core.bound; ctl = h.core.ctl; flags = h.core.flags; ie = h.core.ie; registers = h.core.registers });
      place = λ e. h.place;
      pairs = h.pairs;
      apart = h.apart;
    }

-- ---- each successor

stands_formed :
    (z : Setting) (rom : List ℕ) (region : Region) (row : Row) (a : ℕ) (s : AbsState) (entry : Activation) (base : ℕ) (x : MState) → Stands z rom region row a s entry base x → IsFormedAmong z region (length s.items) s
stands_formed z rom region row a s entry base x h = record { core = h.core; place = h.place; pairs = h.pairs; apart = h.apart }

formed_taken :
    (k : Stack) (program : Program) (rom : List ℕ) (row : Row) (a : ℕ) (s : AbsState) (t : Successor) (entry : Activation) (base : ℕ) (x : MState) → Stands k.setting rom k.region row a s entry base x → HasBytes row.op
    → (successors_of k program rom row a s).taken ≡ Some t → IsFormed k.setting k.region t
unfolding successors_of product_before
formed_taken k program rom row a s t entry base x stands operands h =
    from (reduced k.setting.rules k.setting.entered (bytes_read program s) (core_settle s.core) s.relations) (reduced_cuts k.setting.rules k.setting.entered (bytes_read program s) (core_settle s.core) s.relations _ refl) h
  where
    at_side : (p : Product) → IsReduced (core_settle s.core) s.relations p → (o : Option Branch) → IfSome o (IsSideOf (memory_before k program s p) p.core p.relations)
        → option_and_then (taken_by_side k program rom row (behind_row a row) s) o ≡ Some t → IsFormed k.setting k.region t
    at_side p cut None is e = cc
    at_side p cut (Some b) is e =
        formed_settled k (length s.items) b.cell s.core (taken_successor k program rom row (behind_row a row) s (branch_outside k.region b)) t e
        (taken_formed k program rom row a s (branch_outside k.region b) entry base x stands operands
        (branch_formed k.setting k.region (length s.items) (memory_before k program s p) s p b (stands_formed k.setting rom k.region row a s entry base x stands) cut is))

    from : (o : Option Product) → IfSome o (IsReduced (core_settle s.core) s.relations) → option_and_then (taken_from k program rom row (behind_row a row) s) o ≡ Some t → IsFormed k.setting k.region t
    from None cut e = cc
    from (Some p) cut e = at_side p cut (taken_side row.op (memory_before k program s p) p.core p.relations) (taken_side_cuts row.op (memory_before k program s p) p.core p.relations _ refl) e

formed_untaken :
    (k : Stack) (program : Program) (rom : List ℕ) (row : Row) (a : ℕ) (s : AbsState) (t : Successor) → IsFormedAmong k.setting k.region (length s.items) s → (successors_of k program rom row a s).not_taken ≡ Some t
    → IsFormed k.setting k.region t
unfolding successors_of product_before
formed_untaken k program rom row a s t formed h = from (reduced k.setting.rules k.setting.entered (bytes_read program s) (core_settle s.core) s.relations) (reduced_cuts k.setting.rules k.setting.entered (bytes_read program s) (core_settle s.core) s.relations _ refl) h
  where
    at_side : (p : Product) → IsReduced (core_settle s.core) s.relations p → (o : Option Branch) → IfSome o (IsSideOf (memory_before k program s p) p.core p.relations)
        → option_and_then (not_taken_by_side k row (behind_row a row) s) o ≡ Some t → IsFormed k.setting k.region t
    at_side p cut None is e = cc
    at_side p cut (Some b) is e =
        formed_settled k (length s.items) b.cell s.core (untaken_successor k row (behind_row a row) s (branch_outside k.region b)) t e
        (untaken_formed k row (behind_row a row) s (branch_outside k.region b) (branch_formed k.setting k.region (length s.items) (memory_before k program s p) s p b formed cut is) formed.apart)

    from : (o : Option Product) → IfSome o (IsReduced (core_settle s.core) s.relations) → option_and_then (not_taken_from k program row (behind_row a row) s) o ≡ Some t → IsFormed k.setting k.region t
    from None cut e = cc
    from (Some p) cut e = at_side p cut (not_taken_side row.op (memory_before k program s p) p.core p.relations) (not_taken_side_cuts row.op (memory_before k program s p) p.core p.relations _ refl) e

formed_staying : (k : Stack) (program : Program) (rom : List ℕ) (row : Row) (a : ℕ) (s : AbsState) (t : Successor) → IsFormedAmong k.setting k.region (length s.items) s → (successors_of k program rom row a s).stays ≡ Some t → IsFormed k.setting k.region t
unfolding successors_of stays
formed_staying k program rom row a s t formed h = from (product_before program k.setting.rules k.setting.entered s) h
  where
    by : (b : Bool) → cond b (Some (staying_successor a s)) None ≡ Some t → IsFormed k.setting k.region t
    by true e = subst (λ (w : Successor). IsFormed k.setting k.region w) (same_Some _ _ e) (staying_formed k.setting k.region a s formed)
    by false e = cc

    from : (o : Option Product) → option_and_then (λ (p : Product). stays row a s) o ≡ Some t → IsFormed k.setting k.region t
    from None e = cc
    from (Some p) e = by (may_stay row.op s.core) e

-- the states of each successor are such as states may be
pub IsFormed-successor :
    (k : Stack) (program : Program) (rom : List ℕ) (row : Row) (a : ℕ) (s : AbsState) (t : Successor) (entry : Activation) (base : ℕ) (x : MState) → Stands k.setting rom k.region row a s entry base x → HasBytes row.op
    → IsOneOf (successors_of k program rom row a s) t → IsFormed k.setting k.region t
IsFormed-successor k program rom row a s t entry base x stands operands (inl e) = formed_taken k program rom row a s t entry base x stands operands e
IsFormed-successor k program rom row a s t entry base x stands operands (inr (inl e)) = formed_untaken k program rom row a s t (stands_formed k.setting rom k.region row a s entry base x stands) e
IsFormed-successor k program rom row a s t entry base x stands operands (inr (inr e)) = formed_staying k program rom row a s t (stands_formed k.setting rom k.region row a s entry base x stands) e
