-- Whatever the machine executes from a state that is meant leads by one of the successors.
use Rattle.std.proofs.Common.{◌≡◌, ℕ, zero, suc, ◌+◌, ◌-◌, ◌/◌, ◌%◌, ◌≤◌, ◌<◌, Bool, true, false, if◌then◌else◌, cond, ◌||◌, ◌⊎◌, inl, inr, List, [], ◌∷◌, length, slice_index, slice_get, nat_lt, Option, Some, None, refl, sym, ◌∙◌, ap, subst, arith, ◌==◌}
use Rattle.std.specs.Prelude.{IfSome}
use Rattle.std.specs.List.{AllByRecursion}
use Rattle.gb_ops.specs.declared.machine.Region.{Region}
use Rattle.gb_ops.specs.declared.machine.Effect.{Effect}
use Rattle.gb_ops.specs.declared.machine.Loaded.{Loaded}
use Rattle.gb_ops.specs.declared.registers.Processor.{Processor}
use Rattle.gb_ops.specs.declared.op.Pair.{Pair}
use Rattle.gb_ops.specs.declared.op.Pair.TheVariants as pair
use Rattle.gb_ops.specs.declared.op.Op.{Op}
use Rattle.gb_ops.specs.declared.op.Op.TheVariants as op
use Rattle.gb_ops.specs.declared.op.Row.{Row}
use Rattle.gb_ops.specs.Cartridge.{kind_of}
use Rattle.gb_ops.specs.Memory.{View, stored, passed}
use Rattle.gb_ops.specs.Effects as Effects
use Rattle.gb_ops.specs.Machine.{executed, advanced, way_of, mark_of, loaded, cycles_of}
use Rattle.gb_ops.specs.Faults.{no_faults, either_faults, row_faults, load_faults, store_faults}
use Rattle.gb_ops.specs.Play.{MState, within, outside}
use Rattle.gb_domain.specs.declared.rules.Rules.TheVariants.{Simple}
use Rattle.gb_domain.specs.declared.setting.Setting.{Setting}
use Rattle.gb_domain.specs.declared.types.Val.{Val}
use Rattle.gb_domain.specs.declared.types.Core.{Core}
use Rattle.gb_domain.specs.declared.types.Range.{Range}
use Rattle.gb_domain.specs.Types.{AbsState}
use Rattle.gb_domain.specs.Areas.{IsRegion}
use Rattle.gb_domain.specs.Settings.{IsBase}
use Rattle.gb_domain.specs.Rules.{IsVal, IsCore, IsWord}
use Rattle.gb_product.specs.Below.gb_vals.Vals.{any_val, single}
use Rattle.gb_domain.specs.declared.types.Halves.{Halves}
use Rattle.gb_product.specs.Below.gb_abs.Storage.{peek}
use Rattle.gb_product.specs.Below.gb_abs.Located.{sp_halves, halves_by, sp_halves_by, stack_base, IsSpWithin}
use Rattle.gb_product.specs.Below.gb_abs.Operations.{core_settle, core_end, with_core}
use Rattle.gb_product.specs.Below.gb_abs.Cells.{ArePlaced}
use Rattle.gb_product.specs.Below.gb_abs.Stack.{AreInRegion, word_of, last_word, youngest}
use Rattle.gb_product.specs.Below.gb_abs.Meaning.{Activation, Holds, MeansCore, MeansParts, IsMemory}
use Rattle.gb_product.proofs.Below.gb_abs_laws.LocatedLaws.{halves_sound}
use Rattle.gb_product.proofs.Below.gb_abs_laws.OperationLaws.{MeansCore-settle, end_sound}
use Rattle.gb_product.proofs.Below.gb_abs_laws.StackLaws.{MeansParts-with_core}
use Rattle.gb_product.specs.Below.gb_abs_effects.declared.reads.AbsRead.{AbsRead}
use Rattle.gb_product.specs.Below.gb_abs_effects.declared.reads.AbsRead.TheVariants as read
use Rattle.gb_product.specs.Below.gb_abs_effects.declared.writes.AbsWrite.{AbsWrite}
use Rattle.gb_product.specs.Below.gb_abs_effects.declared.targets.Target.{Target}
use Rattle.gb_product.specs.Below.gb_abs_effects.declared.targets.Target.TheVariants as target
use Rattle.gb_product.specs.Below.gb_abs_effects.Pairs.{any_word, word_or_any}
use Rattle.gb_product.specs.Below.gb_abs_effects.Accesses.{read_of}
use Rattle.gb_product.specs.Below.gb_abs_effects.Targets.{target_of, moves_sp, is_sp, is_push}
use Rattle.gb_product.specs.Below.gb_abs_effects.Transfer.{transfer}
use Rattle.gb_product.specs.Below.gb_abs_effects.Sound.{HasBytes, HoldsTarget, IsWrite, Follows, Begins}
use Rattle.gb_product.proofs.Below.gb_abs_effects_laws.ReadLaws.{read_of_sound}
use Rattle.gb_product.proofs.Below.gb_abs_effects_laws.RangeLaws.{transfer_inhabited}
use Rattle.gb_product.proofs.Below.gb_abs_effects_laws.TargetLaws.{target_of_sound, sp-kept, sp-loaded}
use Rattle.gb_product.proofs.Below.gb_abs_effects_laws.TransferLaws.{transfer_sound}
use Rattle.gb_abs_memory.specs.Sound.{view, AreVals}
use Rattle.gb_abs_memory.proofs.LoadLaws.{IsVal-loaded_val}
use Rattle.gb_domain.specs.declared.pairs.Bounds.{Bounds}
use Rattle.gb_successors.specs.Way.{Successor}
use Rattle.gb_successors.specs.Behind.{written, starts, ended}
use Rattle.gb_successors.specs.Loads.{read_word}
use Rattle.gb_successors.specs.Refused.{is_unstorable, meets_closed, meets_oam_transfer, reads_closed_ram, writes_closed_ram, is_read_limited, is_write_limited}
use Rattle.gb_successors.specs.Sound.{bytes_behind, IsAllowed, LeadsParts, LeadsSimply, LeadsTo, IsStackKnown, Stands}
use Rattle.gb_successors.proofs.AroundLaws.{IsSpWithin-aside}
use Rattle.gb_successors.proofs.SimpleLaws.{behind_row, known_read, low_of, high_of, abs_effect, with_stack_of, simple_parts}
use Rattle.gb_successors.proofs.PlainLaws.{Keeps, Keeps-both, Keeps-transfer, IsPlainRead, IsPlainWrite, IsPlainTarget, IsPlainRead-read_of, IsPlainWrite-transfer, plain_target}
use Rattle.gb_successors.proofs.AccessLaws.{IsSameGate, closed_same, limited_same, writes_same, write_limited_same, Loads, Loads-read, Stores, AtWrite, Stores-write}

-- ---- the machine as an instruction begins its work

-- the machine with the instruction's bytes fetched
abbrev pub begun : Row → MState → MState
begun row x = record x { processor = advanced x.processor row }

-- what its reads give
abbrev pub given : List ℕ → Row → MState → List ℕ → Loaded
given rom row x reads = loaded (view rom x false) (Effects.read_of row.op (advanced x.processor row)) reads

abbrev pub effect : List ℕ → Row → MState → List ℕ → Effect
effect rom row x reads = Effects.effect_of row.op (advanced x.processor row) (given rom row x reads).low (given rom row x reads).high

way_runs : (o : Op) (n m : ℕ) → (o ≡ op.Stop → ⊥) → way_of o n m ≡ n - m
unfolding way_of
way_runs op.Stop n m h = absurd (h refl)
way_runs o n m h = refl

no_mark : (p : Processor) → p.halt_mark ≡ false → mark_of p ≡ 0
no_mark p h = ap (λ b. cond b 1 0) h

pub begun_pc : (row : Row) (x : MState) (a : ℕ) → (row.op ≡ op.Stop → ⊥) → x.processor.halt_mark ≡ false → x.processor.pc ≡ a → (begun row x).processor.pc ≡ behind_row a row
unfolding advanced
begun_pc row x a runs mark at =
    let none : row.length - 0 ≡ row.length = omega arith in
    rw (way_runs row.op row.length (mark_of x.processor) runs, no_mark x.processor mark, none, at) refl

pub begun_sp : (row : Row) (x : MState) → (begun row x).processor.sp ≡ x.processor.sp
unfolding advanced
begun_sp row x = refl

pub begun_core : (row : Row) (x : MState) (s : Core) (entry : Activation) → MeansCore s entry x → MeansCore (core_settle s) entry (begun row x)
unfolding advanced
begun_core row x s entry m = MeansCore-settle s entry x _ m

-- ---- what an instruction leaves, by its effect

-- the machine behind an instruction, by its effect and its M-cycles
abbrev pub left_by : List ℕ → MState → Effect → ℕ → MState
left_by rom x e n = record { processor = e.processor; storage = (passed (stored (view rom x false) e.write) n).storage }

pub executed_is : (rom : List ℕ) (x : MState) (row : Row) (reads : List ℕ) → outside (executed (within rom x) row reads) ≡ left_by rom x (effect rom row x reads) (cycles_of row (effect rom row x reads).is_taken)
unfolding executed within outside
executed_is rom x row reads = refl

pub faults_are : (rom : List ℕ) (region : Region) (x : MState) (row : Row) (reads : List ℕ) → load_faults (view rom x false) (Effects.read_of row.op (advanced x.processor row)) ≡ no_faults
    → store_faults region (view rom x false) (effect rom row x reads).write ≡ no_faults → row_faults (Some row) region (within rom x) reads ≡ no_faults
unfolding within either_faults
faults_are rom region x row reads l s = rw (l, s) refl

ended_stack : (b : Bool) (n : ℕ) (s : Core) → (core_end b n s).stack_set ≡ true → s.stack_set ≡ true
unfolding core_end
ended_stack true n s set = set
ended_stack false n s set = set

-- time passes, and an OAM transfer may start
pub MeansParts-ended :
    (rom : List ℕ) (s : AbsState) (entry : Activation) (base : ℕ) (p : Processor) (m : View) (is_started : Bool) (n : ℕ) → m.starting ≡ is_started
    → MeansParts s entry base (record { processor = p; storage = m.storage }) → MeansParts (ended is_started n s) entry base (record { processor = p; storage = (passed m n).storage })
unfolding ended passed
MeansParts-ended rom s entry base p m is_started n e h =
    let x : MState = record { processor = p; storage = m.storage } in
    let core = (end_sound is_started n s.core (core_end is_started n s.core) refl).gives rom entry x h.core in
    let y : MState = record { processor = p; storage = record m.storage { count = if m.starting then 161 else m.storage.count - n } } in
    let same : MeansCore (core_end is_started n s.core) entry y = subst (λ b. MeansCore (core_end is_started n s.core) entry (record { processor = p; storage = record m.storage { count = if b then 161 else m.storage.count - n } })) (sym e) core in
    MeansParts-with_core s (core_end is_started n s.core) entry base x y h same refl refl refl (ended_stack is_started n s.core)

ended_items : (is_started : Bool) (n : ℕ) (s : AbsState) → (ended is_started n s).items ≡ s.items
unfolding ended
ended_items is_started n s = refl

pub passed_peek : (m : View) (n b : ℕ) → peek (passed m n).storage b ≡ peek m.storage b
unfolding passed peek
passed_peek m n b = refl

-- ---- taken

-- the instruction is taken, from the side's core
pub record IsTaken (z : Setting) (rom : List ℕ) (region : Region) (ranges : List Range) (row : Row) (a : ℕ) (s : AbsState) (entry : Activation) (base : ℕ) (x : MState) (reads : List ℕ) (c : Core) : Type 0 where
  pub stands : Stands z rom region row a s entry base x
  pub rules : z.rules ≡ Simple
  pub operands : HasBytes row.op
  pub runs : row.op ≡ op.Stop → ⊥
  pub stack : IsStackKnown z region row.op s base
  pub mark : x.processor.halt_mark ≡ false
  pub byte : slice_index reads 0 ≤ 255
  pub keeps : Keeps s.core c
  pub means : MeansCore c entry (begun row x)
  pub core : IsCore c
  pub taken : (effect rom row x reads).is_taken ≡ true

-- SP stays, or LD SP,n16 sets it to the base
abbrev IsPlain : Op → ℕ → Type 0
IsPlain o base = (moves_sp o ≡ false) ⊎ (o ≡ op.LoadPair pair.Sp base)

plain_read : (o : Op) (base : ℕ) (c : Core) → IsPlain o base → HasBytes o → IsCore c → IsPlainRead (read_of o c)
unfolding read_of
plain_read o base c (inl still) bytes is = IsPlainRead-read_of o c still bytes is
plain_read o base c (inr e) bytes is = subst (λ q. IsPlainRead (read_of q c)) (sym e) tt

plain_write : (whole : Bool) (o : Op) (base next : ℕ) (sp : Halves) (c : Core) (low high : Val) → IsPlain o base → HasBytes o → IsCore c → IsPlainWrite (transfer whole o next sp c low high).write
unfolding transfer
plain_write whole o base next sp c low high (inl still) bytes is = IsPlainWrite-transfer whole o next sp c low high still bytes is
plain_write whole o base next sp c low high (inr e) bytes is = subst (λ q. IsPlainWrite (transfer whole q next sp c low high).write) (sym e) tt

-- the state before its reads
pub means_begun : (rom : List ℕ) (row : Row) (s : AbsState) (entry : Activation) (base : ℕ) (x : MState) (c : Core) → Keeps s.core c → MeansParts s entry base x → MeansCore c entry (begun row x)
    → MeansParts (with_core s c) entry base (begun row x)
means_begun rom row s entry base x c k m h = MeansParts-with_core s c entry base x (begun row x) m h refl refl (begun_sp row x) (λ set. sym k.stack ∙ set)

-- what its reads give is known, and has no fault
pub loads : (z : Setting) (rom : List ℕ) (region : Region) (ranges : List Range) (row : Row) (a : ℕ) (s : AbsState) (entry : Activation) (base : ℕ) (x : MState) (reads : List ℕ) (c : Core)
    → IsTaken z rom region ranges row a s entry base x reads c → IsPlainRead (read_of row.op c) → reads_closed_ram rom s.core (read_of row.op c) ≡ false → is_read_limited region s.core (read_of row.op c) ≡ false
    → Loads (known_read z rom row s c) entry (view rom x false) (Effects.read_of row.op (advanced x.processor row)) reads
loads z rom region ranges row a s entry base x reads c k plain ram limited =
    Loads-read z rom region (with_core s c) entry base (begun row x) reads (begun row x).processor.sp (read_of row.op c) (Effects.read_of row.op (advanced x.processor row))
    k.stands.cartridge k.stands.based (means_begun rom row s entry base x c k.keeps k.stands.means.parts k.means) k.core.ie k.byte
    plain
    ((read_of_sound row.op c (read_of row.op c) refl).gives entry (begun row x) (given rom row x reads).low (given rom row x reads).high k.means k.taken)
    (closed_same rom s.core c (read_of row.op c) k.keeps ∙ ram)
    (limited_same region s.core c (read_of row.op c) k.keeps ∙ limited)

pub IsVal-any : IsVal any_val
IsVal-any = record { order = omega arith; hi = omega arith; strided = refl }

-- SP as a pair, whose halves are bytes
pub IsWord-sp :
    (z : Setting) (s : AbsState) (entry : Activation) (base : ℕ) (x : MState) → IsBase z base → MeansParts s entry base x → IsSpWithin s.summary.aside x.processor.sp
    → IsWord (sp_halves z s)
unfolding sp_halves
IsWord-sp z s entry base x right m within =
    let known = halves_sound z s (sp_halves z s) refl in
    by_aside s.summary.aside within (known.high entry base x right m within) (known.low entry base x right m within)
  where
    by : (o : Option ℕ) → Holds (halves_by o (length s.items)).high entry (x.processor.sp / 256) → Holds (halves_by o (length s.items)).low entry (x.processor.sp % 256)
        → IsWord (halves_by o (length s.items))
    by None h l = record { high = IsVal-any; low = IsVal-any }
    by (Some b) h l =
        let small = m.sp in
        let least = h.least in
        let less = l.least in
        record { high = record { order = omega arith; hi = omega arith; strided = refl }; low = record { order = omega arith; hi = omega arith; strided = refl } }

    by_aside :
        (a : Option Bounds) → IsSpWithin a x.processor.sp → Holds (sp_halves_by a (stack_base z s.core) (length s.items)).high entry (x.processor.sp / 256)
        → Holds (sp_halves_by a (stack_base z s.core) (length s.items)).low entry (x.processor.sp % 256) → IsWord (sp_halves_by a (stack_base z s.core) (length s.items))
    by_aside None w h l = by (stack_base z s.core) h l
    by_aside (Some b) w h l = by_bounds b w (b.first == b.last)
      where
        by_bounds : (b : Bounds) → (b.first ≤ x.processor.sp) × (x.processor.sp ≤ b.last) → (t : Bool)
            → IsWord (cond {A = Halves} t (record { high = single (b.first / 256); low = single (b.first % 256) }) (record { high = any_val; low = any_val }))
        by_bounds b w true =
            let small = m.sp in
            let least = w.0 in
            record { high = record { order = omega arith; hi = omega arith; strided = refl }; low = record { order = omega arith; hi = omega arith; strided = refl } }
        by_bounds b w false = record { high = IsVal-any; low = IsVal-any }

IsWord-any : IsWord any_word
IsWord-any = record { high = IsVal-any; low = IsVal-any }

IsVal-at : (items : List Val) (n : ℕ) → AllByRecursion IsVal items → IfSome (slice_get items n) IsVal
IsVal-at [] n h = tt
IsVal-at (v ∷ items) zero h = h.0
IsVal-at (v ∷ items) (suc n) h = IsVal-at items n h.1

IsWord-of : (high low : Option Val) → IfSome high IsVal → IfSome low IsVal → IsWord (word_or_any (word_of high low))
IsWord-of None low h l = IsWord-any
IsWord-of (Some v) None h l = IsWord-any
IsWord-of (Some v) (Some w) h l = record { high = h; low = l }

-- the word that was pushed last is one
IsWord-last : (items : List Val) → AllByRecursion IsVal items → IsWord (word_or_any (last_word items))
IsWord-last items h = choose (nat_lt (length items) 2)
  where
    choose : (b : Bool) → IsWord (word_or_any (cond b None (word_of (slice_get items (length items - 2)) (slice_get items (length items - 1)))))
    choose true = IsWord-any
    choose false = IsWord-of _ _ (IsVal-at items (length items - 2) h) (IsVal-at items (length items - 1) h)

pub is_word : (z : Setting) (rom : List ℕ) (s : AbsState) (c : Core) (what : AbsRead) → IsVal c.ie → AreVals s.cells → AllByRecursion IsVal s.items → ((i : ℕ) → slice_index rom i ≤ 255) → IsWord (read_word z rom (with_core s c) what)
unfolding read_word youngest
is_word z rom s c read.Nothing ie cells items bytes = IsWord-any
is_word z rom s c (read.Word span) ie cells items bytes = IsWord-any
is_word z rom s c (read.Byte span) ie cells items bytes = record { high = IsVal-any; low = IsVal-loaded_val z rom (with_core s c) span ie cells items bytes }
is_word z rom s c read.Top ie cells items bytes = IsWord-last s.items items

pub follows : (z : Setting) (rom : List ℕ) (region : Region) (ranges : List Range) (row : Row) (a : ℕ) (s : AbsState) (entry : Activation) (base : ℕ) (x : MState) (reads : List ℕ) (c : Core)
    → IsTaken z rom region ranges row a s entry base x reads c
    → Loads (known_read z rom row s c) entry (view rom x false) (Effects.read_of row.op (advanced x.processor row)) reads
    → Follows (abs_effect z rom row a s c) entry (begun row x) (effect rom row x reads) × ((effect rom row x reads).processor.sp < 65536)
follows z rom region ranges row a s entry base x reads c k l =
    let sound = transfer_sound z.is_whole row.op (behind_row a row) (sp_halves z s) c (low_of z rom row s c) (high_of z rom row s c) (abs_effect z rom row a s c) refl k.operands k.core
    (is_word z rom s c (read_of row.op c) k.core.ie k.stands.vals k.stands.items k.stands.cartridge.bytes).low in
    let sp_known = halves_sound z s (sp_halves z s) refl in
    let begins : Begins row.op (behind_row a row) (sp_halves z s) c (low_of z rom row s c) (high_of z rom row s c) entry (begun row x) (given rom row x reads).low (given rom row x reads).high = record {
      core = k.means;
      low_read = l.low;
      high_read = l.high;
      pc = begun_pc row x a k.runs k.mark k.stands.at;
      sp = subst (λ n. n < 65536) (sym (begun_sp row x)) k.stands.means.parts.sp;
      sp_high = subst (λ n. Holds (sp_halves z s).high entry (n / 256)) (sym (begun_sp row x)) (sp_known.high entry base x k.stands.based k.stands.means.parts (IsSpWithin-aside s.summary.aside x.processor k.stands.means.summary.aside));
      sp_low = subst (λ n. Holds (sp_halves z s).low entry (n % 256)) (sym (begun_sp row x)) (sp_known.low entry base x k.stands.based k.stands.means.parts (IsSpWithin-aside s.summary.aside x.processor k.stands.means.summary.aside));
      taken = k.taken;
    } in (
      sound.gives entry (begun row x) (given rom row x reads).low (given rom row x reads).high k.runs begins,
      sound.sp entry (begun row x) (given rom row x reads).low (given rom row x reads).high begins,
    )

-- ---- the state behind its effect, before its write

abbrev effect_state : Setting → List ℕ → Row → ℕ → AbsState → Core → AbsState
effect_state z rom row a s c = with_stack_of z row.op (abs_effect z rom row a s c).write (with_core s (abs_effect z rom row a s c).core)

-- the machine with the effect's processor
abbrev pub acted : List ℕ → Row → MState → List ℕ → MState
acted rom row x reads = record x { processor = (effect rom row x reads).processor }

stack_still : (z : Setting) (o : Op) (w : AbsWrite) (s : AbsState) → moves_sp o ≡ false → with_stack_of z o w s ≡ s
unfolding with_stack_of
stack_still z (op.LoadPair which a) w s h = other which a h
  where
    other : (which : Pair) (a : ℕ) → is_sp which ≡ false → with_stack_of z (op.LoadPair which a) w s ≡ s
    other pair.Bc a h = refl
    other pair.De a h = refl
    other pair.Hl a h = refl
    other pair.Sp a h = cc
stack_still z (op.Push from) w s h = cc
stack_still z (op.Pop to) w s h = cc
stack_still z o w s h = refl

stack_loaded : (z : Setting) (o : Op) (a : ℕ) (w : AbsWrite) (t : AbsState) → o ≡ op.LoadPair pair.Sp a → with_stack_of z o w t ≡ record t { core = record t.core { stack_set = true }; summary = record t.summary { aside = None }; items = [] }
unfolding with_stack_of
stack_loaded z o a w t e = ap (λ q. with_stack_of z q w t) e

-- what a write may rely on
record IsActed (z : Setting) (region : Region) (s t : AbsState) (entry : Activation) (base : ℕ) (y : MState) : Type 0 where
  pub at : AtWrite z region t entry base y
  pub gate : IsSameGate s.core t.core

acted_still : (z : Setting) (region : Region) (s : AbsState) (core : Core) (entry : Activation) (base : ℕ) (x y : MState) → MeansParts s entry base x → Keeps s.core core → MeansCore core entry y
    → y.storage ≡ x.storage → y.processor.sp ≡ x.processor.sp → ArePlaced region s.cells → AreInRegion region base (length s.items) → IsRegion region → IsBase z base
    → IsActed z region s (with_core s core) entry base y
acted_still z region s core entry base x y m k h storage sp placed room is based = record {
  at = record {
    means = MeansParts-with_core s core entry base x y m h (ap (λ t. t.work) storage) (ap (λ t. t.high) storage) sp (λ set. sym k.stack ∙ set);
    placed = placed;
    room = room;
    is_region = is;
    based = based;
  };
  gate = record { ctl = k.ctl; bound = k.bound };
}

-- LD SP,n16: the stack is set, with nothing on it
acted_set : (z : Setting) (region : Region) (s : AbsState) (core : Core) (entry : Activation) (base : ℕ) (x y : MState) → MeansParts s entry base x → Keeps s.core core → MeansCore core entry y
    → y.storage ≡ x.storage → y.processor.sp ≡ base → y.processor.sp < 65536 → ArePlaced region s.cells → AreInRegion region base (length s.items) → IsRegion region → IsBase z base
    → IsActed z region s (record (with_core s core) { core = record core { stack_set = true }; summary = record s.summary { aside = None }; items = [] }) entry base y
acted_set z region s core entry base x y m k h storage sp small placed room is based = record {
  at = record {
    means = record {
      core = record {
        registers = h.registers;
        flags = h.flags;
        ie = h.ie;
        ime = h.ime;
        controller = h.controller;
        count = h.count;
        locked = h.locked;
        stopped = h.stopped;
      };
      memory = same_memory (sym storage) m.memory;
      sp = small;
      stack = λ set. let at : y.processor.sp ≡ base = sp in omega arith;
      items = tt;
      cells = same_cells (sym storage) m.cells;
    };
    placed = placed;
    room = record { first = let first = room.first in omega arith; last = room.last };
    is_region = is;
    based = based;
  };
  gate = record { ctl = k.ctl; bound = k.bound };
}
  where
    same_memory : x.storage ≡ y.storage → IsMemory x.storage → IsMemory y.storage
    same_memory e i = subst IsMemory e i

    same_cells : x.storage ≡ y.storage → AllByRecursion (λ c. Holds c.val entry (peek x.storage c.address)) s.cells → AllByRecursion (λ c. Holds c.val entry (peek y.storage c.address)) s.cells
    same_cells e i = subst (λ t. AllByRecursion (λ c. Holds c.val entry (peek t c.address)) s.cells) e i

pub keeps_effect : (z : Setting) (rom : List ℕ) (region : Region) (ranges : List Range) (row : Row) (a : ℕ) (s : AbsState) (entry : Activation) (base : ℕ) (x : MState) (reads : List ℕ) (c : Core)
    → IsTaken z rom region ranges row a s entry base x reads c → Keeps s.core (abs_effect z rom row a s c).core
keeps_effect z rom region ranges row a s entry base x reads c k =
    Keeps-both s.core c _ k.keeps (Keeps-transfer z.is_whole row.op (behind_row a row) (sp_halves z s) c (low_of z rom row s c) (high_of z rom row s c))

acts : (z : Setting) (rom : List ℕ) (region : Region) (ranges : List Range) (row : Row) (a : ℕ) (s : AbsState) (entry : Activation) (base : ℕ) (x : MState) (reads : List ℕ) (c : Core)
    → IsTaken z rom region ranges row a s entry base x reads c → IsPlain row.op base → Follows (abs_effect z rom row a s c) entry (begun row x) (effect rom row x reads) → (effect rom row x reads).processor.sp < 65536
    → IsActed z region s (effect_state z rom row a s c) entry base (acted rom row x reads)
acts z rom region ranges row a s entry base x reads c k plain f small = choose plain
  where
    keeps : Keeps s.core (abs_effect z rom row a s c).core
    keeps = keeps_effect z rom region ranges row a s entry base x reads c k

    choose : IsPlain row.op base → IsActed z region s (effect_state z rom row a s c) entry base (acted rom row x reads)
    choose (inl still) =
        subst (λ t. IsActed z region s t entry base (acted rom row x reads)) (sym (stack_still z row.op (abs_effect z rom row a s c).write (with_core s (abs_effect z rom row a s c).core) still))
        (acted_still z region s (abs_effect z rom row a s c).core entry base x (acted rom row x reads) k.stands.means.parts keeps f.core refl
        (sp-kept row.op (advanced x.processor row) (given rom row x reads).low (given rom row x reads).high still ∙ begun_sp row x) k.stands.placed k.stands.room k.stands.is_region k.stands.based)
    choose (inr e) =
        let sp : (effect rom row x reads).processor.sp ≡ base =
        ap (λ o. (Effects.effect_of o (advanced x.processor row) (given rom row x reads).low (given rom row x reads).high).processor.sp) e
        ∙ sp-loaded base (advanced x.processor row) (given rom row x reads).low (given rom row x reads).high in
        subst (λ t. IsActed z region s t entry base (acted rom row x reads)) (sym (stack_loaded z row.op base (abs_effect z rom row a s c).write (with_core s (abs_effect z rom row a s c).core) e))
        (acted_set z region s (abs_effect z rom row a s c).core entry base x (acted rom row x reads) k.stands.means.parts keeps f.core refl sp small k.stands.placed k.stands.room k.stands.is_region k.stands.based)

-- ---- the way on

or_parts_of : (b c : Bool) → (b || c) ≡ false → (b ≡ false) × (c ≡ false)
or_parts_of true c h = cc
or_parts_of false c h = (refl, h)

pub allowed_read : (z : Setting) (rom : List ℕ) (region : Region) (ranges : List Range) (s : AbsState) (base : ℕ) (t : Successor) → IsAllowed z rom region ranges s base t
    → (reads_closed_ram rom s.core t.read ≡ false) × (is_read_limited region s.core t.read ≡ false)
unfolding meets_closed meets_oam_transfer
allowed_read z rom region ranges s base t h = ((or_parts_of _ _ h.ram).0, (or_parts_of _ _ h.oam_transfer).0)

pub allowed_write : (z : Setting) (rom : List ℕ) (region : Region) (ranges : List Range) (s : AbsState) (base : ℕ) (t : Successor) → IsAllowed z rom region ranges s base t
    → (writes_closed_ram rom s.core t.write ≡ false) × (is_write_limited region s.core t.write ≡ false)
unfolding meets_closed meets_oam_transfer
allowed_write z rom region ranges s base t h = ((or_parts_of _ _ h.ram).1, (or_parts_of _ _ h.oam_transfer).1)

-- the parts of the successor
pub read_is : (z : Setting) (rom : List ℕ) (region : Region) (row : Row) (a : ℕ) (s : AbsState) (c : Core) → (simple_parts z rom region row (behind_row a row) s c).read ≡ read_of row.op c
unfolding simple_parts
read_is z rom region row a s c = refl

pub write_is : (z : Setting) (rom : List ℕ) (region : Region) (row : Row) (a : ℕ) (s : AbsState) (c : Core) → (simple_parts z rom region row (behind_row a row) s c).write ≡ (abs_effect z rom row a s c).write
unfolding simple_parts
write_is z rom region row a s c = refl

pub target_is : (z : Setting) (rom : List ℕ) (region : Region) (row : Row) (a : ℕ) (s : AbsState) (c : Core) → (simple_parts z rom region row (behind_row a row) s c).target ≡ target_of row.op (behind_row a row) c
unfolding simple_parts
target_is z rom region row a s c = refl

pub state_is : (z : Setting) (rom : List ℕ) (region : Region) (row : Row) (a : ℕ) (s : AbsState) (c : Core) → (simple_parts z rom region row (behind_row a row) s c).state
    ≡ ended (starts (abs_effect z rom row a s c).write) row.cycles (written z region (kind_of rom) (abs_effect z rom row a s c).write (effect_state z rom row a s c))
unfolding simple_parts
state_is z rom region row a s c = refl

-- what it writes are bytes
pub is_write : (z : Setting) (rom : List ℕ) (region : Region) (ranges : List Range) (row : Row) (a : ℕ) (s : AbsState) (entry : Activation) (base : ℕ) (x : MState) (reads : List ℕ) (c : Core)
    → IsTaken z rom region ranges row a s entry base x reads c → IsWrite (abs_effect z rom row a s c).write
is_write z rom region ranges row a s entry base x reads c k =
    let word = is_word z rom s c (read_of row.op c) k.core.ie k.stands.vals k.stands.items k.stands.cartridge.bytes in
    (transfer_inhabited z.is_whole row.op (behind_row a row) (sp_halves z s) c (low_of z rom row s c) (high_of z rom row s c) (abs_effect z rom row a s c) refl k.operands (omega arith) k.core word.low word.high (IsWord-sp z s entry base x k.stands.based k.stands.means.parts (IsSpWithin-aside s.summary.aside x.processor k.stands.means.summary.aside))).write

-- its write
stores : (z : Setting) (rom : List ℕ) (region : Region) (ranges : List Range) (row : Row) (a : ℕ) (s : AbsState) (entry : Activation) (base : ℕ) (x : MState) (reads : List ℕ) (c : Core)
    → IsTaken z rom region ranges row a s entry base x reads c → IsPlain row.op base → IsAllowed z rom region ranges s base (simple_parts z rom region row (behind_row a row) s c)
    → Follows (abs_effect z rom row a s c) entry (begun row x) (effect rom row x reads) → (effect rom row x reads).processor.sp < 65536
    → Stores z rom region ranges (effect_state z rom row a s c) (abs_effect z rom row a s c).write entry base (acted rom row x reads) (view rom x false) (effect rom row x reads).write
stores z rom region ranges row a s entry base x reads c k plain allowed f small =
    let acted_at = acts z rom region ranges row a s entry base x reads c k plain f small in
    let w : AbsWrite = (abs_effect z rom row a s c).write in
    let may = allowed_write z rom region ranges s base _ allowed in
    Stores-write z rom region ranges (effect_state z rom row a s c) entry base (acted rom row x reads) (begun row x).processor.sp w (effect rom row x reads).write acted_at.at k.stands.controlled
    (plain_write z.is_whole row.op base (behind_row a row) (sp_halves z s) c (low_of z rom row s c) (high_of z rom row s c) plain k.operands k.core)
    (is_write z rom region ranges row a s entry base x reads c k) f.write
    (subst (λ v. is_unstorable z (kind_of rom) region ranges v ≡ false) (write_is z rom region row a s c) allowed.stores)
    (writes_same rom s.core (effect_state z rom row a s c).core w acted_at.gate ∙ subst (λ v. writes_closed_ram rom s.core v ≡ false) (write_is z rom region row a s c) may.0)
    (write_limited_same region s.core (effect_state z rom row a s c).core w acted_at.gate ∙ subst (λ v. is_write_limited region s.core v ≡ false) (write_is z rom region row a s c) may.1)

pub leads_simply : (z : Setting) (region : Region) (w : Target) (t : Successor) (entry : Activation) (base : ℕ) (x y : MState) → z.rules ≡ Simple → LeadsSimply region w t entry base x y → LeadsTo z.rules z region w t entry base x y
leads_simply z region w t entry base x y e h = subst (λ r. LeadsTo r z region w t entry base x y) (sym e) h

-- where the machine goes on in the same procedure, it stays; of a jump to somewhere nothing is said
leads_plain : (region : Region) (w : Target) (t : Successor) (entry : Activation) (base : ℕ) (x y : MState) → IsPlainTarget w → MeansParts t.state entry base y → HoldsTarget w y.processor.pc
    → AreInRegion region base (length t.state.items) → LeadsSimply region w t entry base x y
leads_plain region (target.At a) t entry base x y plain means goes room = record { means = means; goes = goes; room = room }
leads_plain region (target.Call a) t entry base x y plain means goes room = absurd plain
leads_plain region target.Return t entry base x y plain means goes room = absurd plain
leads_plain region _ t entry base x y plain means goes room = tt

-- the machine behind it
pub executed_taken : (z : Setting) (rom : List ℕ) (region : Region) (ranges : List Range) (row : Row) (a : ℕ) (s : AbsState) (entry : Activation) (base : ℕ) (x : MState) (reads : List ℕ) (c : Core)
    → IsTaken z rom region ranges row a s entry base x reads c → outside (executed (within rom x) row reads) ≡ left_by rom x (effect rom row x reads) row.cycles
executed_taken z rom region ranges row a s entry base x reads c k =
    executed_is rom x row reads ∙ ap (left_by rom x (effect rom row x reads)) (ap (λ b. cond b row.cycles row.cycles_not_taken) k.taken)

-- where it goes on
pub goes_to : (z : Setting) (rom : List ℕ) (region : Region) (ranges : List Range) (row : Row) (a : ℕ) (s : AbsState) (entry : Activation) (base : ℕ) (x : MState) (reads : List ℕ) (c : Core)
    → IsTaken z rom region ranges row a s entry base x reads c → HoldsTarget (target_of row.op (behind_row a row) c) (effect rom row x reads).processor.pc
goes_to z rom region ranges row a s entry base x reads c k =
    (target_of_sound row.op (behind_row a row) c (target_of row.op (behind_row a row) c) refl).gives entry (begun row x) (given rom row x reads).low (given rom row x reads).high
    k.means (begun_pc row x a k.runs k.mark k.stands.at) k.taken

-- an instruction leads by a successor, and has no fault
pub record Done (z : Setting) (rom : List ℕ) (region : Region) (ranges : List Range) (row : Row) (s : AbsState) (t : Successor) (entry : Activation) (base : ℕ) (x : MState) (reads : List ℕ) : Type 0 where
  pub held : length t.state.items ≤ bytes_behind row.op (length s.items)
  pub leads : LeadsParts z region ranges t entry base x (outside (executed (within rom x) row reads))
  pub faults : row_faults (Some row) region (within rom x) reads ≡ no_faults

pub bytes-least : (o : Op) (n : ℕ) → n ≤ bytes_behind o n
unfolding bytes_behind
bytes-least o n = by (is_push o)
  where
    by : (b : Bool) → n ≤ cond b (n + 2) n
    by true = omega arith
    by false = omega arith

-- no more bytes than before
bytes_plain : (z : Setting) (rom : List ℕ) (row : Row) (a : ℕ) (s : AbsState) (c : Core) (base : ℕ) → IsPlain row.op base → length (effect_state z rom row a s c).items ≤ bytes_behind row.op (length s.items)
bytes_plain z rom row a s c base (inl still) =
    subst (λ (t : AbsState). length t.items ≤ bytes_behind row.op (length s.items)) (sym (stack_still z row.op (abs_effect z rom row a s c).write (with_core s (abs_effect z rom row a s c).core) still)) (bytes-least row.op (length s.items))
bytes_plain z rom row a s c base (inr e) =
    subst (λ (t : AbsState). length t.items ≤ bytes_behind row.op (length s.items)) (sym (stack_loaded z row.op base (abs_effect z rom row a s c).write (with_core s (abs_effect z rom row a s c).core) e)) (omega arith)

-- one that leaves SP, or sets it
pub Done-plain :
    (z : Setting) (rom : List ℕ) (region : Region) (ranges : List Range) (row : Row) (a : ℕ) (s : AbsState) (entry : Activation) (base : ℕ) (x : MState) (reads : List ℕ) (c : Core)
    → IsTaken z rom region ranges row a s entry base x reads c → IsPlain row.op base → IsAllowed z rom region ranges s base (simple_parts z rom region row (behind_row a row) s c)
    → Done z rom region ranges row s (simple_parts z rom region row (behind_row a row) s c) entry base x reads
Done-plain z rom region ranges row a s entry base x reads c k plain allowed =
    let may = allowed_read z rom region ranges s base _ allowed in
    let l = loads z rom region ranges row a s entry base x reads c k (plain_read row.op base c plain k.operands k.core)
    (subst (λ v. reads_closed_ram rom s.core v ≡ false) (read_is z rom region row a s c) may.0) (subst (λ v. is_read_limited region s.core v ≡ false) (read_is z rom region row a s c) may.1) in
    let f = follows z rom region ranges row a s entry base x reads c k l in
    let st = stores z rom region ranges row a s entry base x reads c k plain allowed f.0 f.1 in
    let e = effect rom row x reads in
    let w : AbsWrite = (abs_effect z rom row a s c).write in
    let after : AbsState = written z region (kind_of rom) w (effect_state z rom row a s c) in
    let means : MeansParts (ended (starts w) row.cycles after) entry base (left_by rom x e row.cycles) =
    MeansParts-ended rom after entry base e.processor (stored (view rom x false) e.write) (starts w) row.cycles st.starting st.means in
    let items : (simple_parts z rom region row (behind_row a row) s c).state.items ≡ (effect_state z rom row a s c).items =
    ap (λ (t : AbsState). t.items) (state_is z rom region row a s c) ∙ (ended_items (starts w) row.cycles after ∙ st.items k.rules) in
    record {
      held = subst (λ xs. length xs ≤ bytes_behind row.op (length s.items)) (sym items) (bytes_plain z rom row a s c base plain);
      leads = subst (λ y. LeadsParts z region ranges (simple_parts z rom region row (behind_row a row) s c) entry base x y) (sym (executed_taken z rom region ranges row a s entry base x reads c k))
          (record {
            to = leads_simply z region _ (simple_parts z rom region row (behind_row a row) s c) entry base x (left_by rom x e row.cycles) k.rules
                (subst (λ v. LeadsSimply region v (simple_parts z rom region row (behind_row a row) s c) entry base x (left_by rom x e row.cycles)) (sym (target_is z rom region row a s c))
                (leads_plain region (target_of row.op (behind_row a row) c) (simple_parts z rom region row (behind_row a row) s c) entry base x (left_by rom x e row.cycles)
                (plain_target row.op base (behind_row a row) c plain)
                (subst (λ t. MeansParts t entry base (left_by rom x e row.cycles)) (sym (state_is z rom region row a s c)) means)
                (goes_to z rom region ranges row a s entry base x reads c k)
                (subst (λ t. AreInRegion region base (length t)) (sym items) (acts z rom region ranges row a s entry base x reads c k plain f.0 f.1).at.room)));
            kept = λ b kept. passed_peek (stored (view rom x false) e.write) row.cycles b ∙ st.kept b kept;
          });
      faults = faults_are rom region x row reads l.faults st.faults;
    }
