-- What covers a whole state means each of its machine states.
use Rattle.std.proofs.Common.{◌≡◌, ℕ, ◌==◌, Bool, true, false, ◌&&◌, cond, List, [], ◌∷◌, take, Option, Some, None, refl, sym, ◌∙◌, ap, subst, arith}
use Rattle.std.proofs.lemmas.Bool.{and_parts, eqb-true}
use Rattle.std.proofs.lemmas.Option.{same_Some}
use Rattle.std.specs.List.{AllByRecursion, list_all}
use Rattle.gb_ops.specs.declared.op.Register.{Register}
use Rattle.gb_ops.specs.declared.registers.Registers.{Registers}
use Rattle.gb_ops.specs.declared.registers.Flags.{Flags}
use Rattle.gb_ops.specs.Registers.{get}
use Rattle.gb_ops.specs.Play.{MState}
use Rattle.gb_domain.specs.declared.interval.StridedInterval.{StridedInterval}
use Rattle.gb_domain.specs.declared.pairs.WordPair.{WordPair}
use Rattle.gb_domain.specs.declared.relations.Relations.{Relations}
use Rattle.gb_domain.specs.declared.pairs.Bounds.{Bounds}
use Rattle.gb_domain.specs.declared.types.Cell.{Cell}
use Rattle.gb_domain.specs.declared.types.Ctl.{Ctl}
use Rattle.gb_domain.specs.declared.types.Origin.{Origin}
use Rattle.gb_domain.specs.declared.types.Val.{Val}
use Rattle.gb_ops.specs.declared.machine.Kind.{Kind}
use Rattle.gb_domain.specs.Meaning.{In as InStrided}
use Rattle.gb_domain.specs.Summaries.{SummaryParts, Program}
use Rattle.gb_domain.specs.Types.{AbsState}
use Rattle.gb_domain.specs.Values.{interval_of}
use Rattle.gb_domain.proofs.ValueLaws.{Has-same, same-Has}
use Rattle.gb_abs_effects.specs.Below.gb_vals.Meaning.{In}
use Rattle.gb_abs_effects.specs.Below.gb_abs.Covering.{cell_at, covers_val, covers_core, covers_items, covers_parts, covers_cells as covers_cells_alone}
use Rattle.gb_abs_effects.specs.Below.gb_abs.Meaning.{Activation, Holds, MeansCore, MeansParts, IsMemory}
use Rattle.gb_abs_effects.specs.Below.gb_abs.Storage.{peek}
use Rattle.gb_abs_effects.proofs.Below.gb_abs_laws.CoveringLaws.{Holds-covered, Holds-cell, MeansParts-covered}
use Rattle.gb_domain.specs.declared.types.Core.{Core}
use Rattle.gb_domain.specs.Types.{origin_of_register}
use Rattle.gb_abs_effects.proofs.Below.gb_abs_laws.OriginLaws.{origin_value-of_register}
use Rattle.gb_abs_effects.proofs.CoreLaws.{In-from}
use Rattle.gb_summaries.proofs.Below.gb_pairs_laws.RegisterLaws.{same_pair}
use Rattle.gb_summaries.specs.Below.gb_copies.Meaning.{HoldOneByte}
use Rattle.gb_summaries.specs.Below.gb_pairs.Covering.{is_some_address, is_byte}
use Rattle.gb_summaries.specs.Below.gb_pairs.Sound.{AreOneByte, AreCopies}
use Rattle.gb_summaries.proofs.Below.gb_pairs_laws.CoveringLaws.{covers_pairs_sound}
use Rattle.gb_summaries.proofs.Below.gb_copies_laws.CoveringLaws.{covers_byte_sound}
use Rattle.gb_summaries.proofs.Below.gb_ram_bounds_laws.CoveringLaws.{byte_at_sound}
use Rattle.gb_summaries.proofs.CoveringLaws.{HoldsState-known, covers_summary_sound}
use Rattle.gb_summaries.proofs.KnownLaws.{PointersIn-known}
use Rattle.gb_summaries.specs.Below.gb_pairs.declared.values.Values.{Values}
use Rattle.gb_summaries.specs.Below.gb_pairs.Meaning.{Beside, other_of, AreReadIn, Holds as HoldValues}
use Rattle.gb_summaries.specs.Below.gb_ram_bounds.declared.pointers.Pointers.{Pointers}
use Rattle.gb_domain.specs.declared.places.OneByte.{OneByte}
use Rattle.gb_domain.specs.declared.pairs.Other.{Other}
use Rattle.gb_domain.specs.declared.pairs.Other.TheVariants as other
use Rattle.gb_summaries.specs.Below.gb_ram_bounds.Cells.{cell_at as strided_at, has_cell}
use Rattle.gb_summaries.specs.Below.gb_ram_bounds.Covering.{byte_at}
use Rattle.gb_summaries.specs.Below.gb_ram_bounds.Meaning.{HoldCells, HoldsState}
use Rattle.gb_summaries.specs.Below.gb_relations.Meaning.{IsZero, HoldRelations}
use Rattle.gb_summaries.specs.Below.gb_relations.Transfer.{values_of}
use Rattle.gb_summaries.specs.Covering.{covers_aside, covers_summary}
use Rattle.gb_summaries.specs.Known.{pointer_bounds, HoldsKnown}
use Rattle.gb_summaries.specs.Meaning.{pointers_of}
use Rattle.gb_product.specs.Covering.{covers_zero, read_by, places_by, covers_relations, uncopied, byte_in, covers_cells, values_in, read_in, covers}
use Rattle.gb_product.specs.Meaning.{entered_with, beside, IsSummarized, Means}
use Rattle.gb_product.specs.Sound.{IsPartOf}
use Rattle.gb_product.proofs.ControllerLaws.{windows_hold}
use Rattle.gb_product.proofs.ReadLaws.{AreReadIn-read_by}

zero_covered : (s t : Option WordPair) (x : Registers ℕ) (f : Flags) → covers_zero s t ≡ true → IsZero s x f → IsZero t x f
zero_covered s None x f h z = tt
zero_covered None (Some t) x f h z = cc
zero_covered (Some s) (Some t) x f h z = subst (λ p. IsZero (Some p) x f) (same_pair s t h) z

its_address : (a : ℕ) (o : Option ℕ) → is_some_address a o ≡ true → o ≡ Some a
its_address a None h = cc
its_address a (Some b) h = ap Some (sym (eqb-true a b h))

-- what links read that is the one byte is that byte
byte_read :
    (b : OneByte) (o : Other) (was : Beside) (x : Registers ℕ) (f : Flags) (h : HoldOneByte b x was.memory f)
    → is_byte b o ≡ true → other_of o was x ≡ h.byte
byte_read b (other.Register r) was x f h e = h.registers r e
byte_read b (other.Pair p) was x f h e = cc
byte_read b (other.Cell a) was x f h e = h.address a (its_address a b.address e)
byte_read b other.Nothing was x f h e = cc

one_byte :
    (whole : Bool) (s : Relations) (was : Beside) (x : Registers ℕ) (f : Flags)
    → HoldOneByte s.byte x was.memory f → AreOneByte (places_by whole s) was x
one_byte false s was x f h = tt
one_byte true s was x f h = λ o p e g. byte_read s.byte o was x f h e ∙ sym (byte_read s.byte p was x f h g)

-- a register's copy is what the register held as the procedure was entered
pub AreCopies-core : (core : Core) (entry : Activation) (x : MState) → MeansCore core entry x → AreCopies core.registers (entered_with entry) x.processor.registers
AreCopies-core core entry x m = record { each = λ r s e. (m.registers r).origin (origin_of_register s) e ∙ origin_value-of_register s entry }

pub HoldRelations-covered :
    (program : Program) (registers : Registers Val) (cells : List Cell) (n : SummaryParts) (s t : Relations) (was x : Registers ℕ) (memory : ℕ → ℕ)
    (y : Pointers ℕ) (f : Flags)
    → covers_relations program registers cells n s t ≡ true → ((r : Register) → In (get r registers) (get r x)) → AreCopies registers was x
    → HoldsState (take n.level program.facts) cells n.fills (pointer_bounds (values_of registers s.pairs)) memory y
    → HoldRelations s was x memory f → HoldRelations t was x memory f
unfolding covers_relations
HoldRelations-covered program registers cells n s t was x memory y f h in_registers copies state m =
    let v = values_of registers s.pairs in
    let pairs = and_parts _ _ h in
    let zero = and_parts _ _ pairs.0 in
    record {
      byte = (covers_byte_sound s.byte t.byte _ refl zero.0).gives x memory f m.byte;
      zero = zero_covered s.zero t.zero x f zero.1 m.zero;
      pairs =
          (covers_pairs_sound (places_by program.is_whole s) v (read_by program v cells n s.pairs) (read_by program v cells n t.pairs) t.pairs _ refl pairs.1).gives
          (record { entered = was; memory = memory }) x
          (one_byte program.is_whole s (record { entered = was; memory = memory }) x f m.byte) copies
          (AreReadIn-read_by program v cells n s.pairs memory y state) (AreReadIn-read_by program v cells n t.pairs memory y state)
          (record { registers = in_registers; pairs = m.pairs });
    }

-- ---- bytes in RAM

-- what states mean of their cells alone
abbrev AreCells : List Cell → Activation → MState → Type 0
AreCells cells entry x = AllByRecursion (λ c. Holds c.val entry (peek x.storage c.address)) cells

-- what cells mean, their origins apart
byte_of_cell :
    (c : Cell) (a : ℕ) (v : StridedInterval) (entry : Activation) (x : MState)
    → Holds c.val entry (peek x.storage c.address) → c.address ≡ a → Some (interval_of c.val) ≡ Some v → InStrided v (peek x.storage a)
byte_of_cell c a v entry x m e f =
    subst (λ n. InStrided v (peek x.storage n)) e
    (subst (λ w. InStrided w (peek x.storage c.address)) (same_Some (interval_of c.val) v f)
    (record { least = m.least; most = m.most; low = Has-same c.val.low_bits (peek x.storage c.address) c.val.lo m.low }))

byte_of_one :
    (cells : List Cell) (a : ℕ) (v : StridedInterval) (entry : Activation) (x : MState)
    → AreCells cells entry x → strided_at cells a ≡ Some v → InStrided v (peek x.storage a)
byte_of_one [] a v entry x h e = cc
byte_of_one (c ∷ cells) a v entry x h e = choose (c.address == a) refl e (byte_of_one cells a v entry x h.1)
  where
    choose :
        (b : Bool) → (c.address == a) ≡ b → cond b (Some (interval_of c.val)) (strided_at cells a) ≡ Some v
        → (strided_at cells a ≡ Some v → InStrided v (peek x.storage a)) → InStrided v (peek x.storage a)
    choose true same f rest = byte_of_cell c a v entry x h.0 (eqb-true c.address a same) f
    choose false other f rest = rest f

HoldCells-means : (cells : List Cell) (entry : Activation) (x : MState) → AreCells cells entry x → HoldCells cells (peek x.storage)
HoldCells-means cells entry x h = record { gives = λ a v. byte_of_one cells a v entry x h }

no_origin : {X : Type 0} {o : Origin} → None ≡ Some o → X
no_origin h = cc

pub Holds-uncopied : (v : StridedInterval) (entry : Activation) (x : ℕ) → InStrided v x → Holds (uncopied v) entry x
Holds-uncopied v entry x m = record { least = m.least; most = m.most; low = same-Has v.count x v.lo m.low; origin = λ o e. no_origin e }

-- what is known of a byte holds of it
Holds-byte_in :
    (v : Values) (cells : List Cell) (s : SummaryParts) (a : ℕ) (entry : Activation) (x : MState)
    → IsMemory x.storage → AreCells cells entry x
    → HoldsState (take s.level entry.program.facts) cells s.fills (pointer_bounds v) (peek x.storage) (pointers_of x.processor)
    → Holds (byte_in entry.program v cells s a) entry (peek x.storage a)
unfolding byte_in
Holds-byte_in v cells s a entry x memory h state = choose (has_cell cells a)
  where
    choose :
        (b : Bool)
        → Holds (cond b (cell_at a cells) (uncopied (byte_at (take s.level entry.program.facts) cells s.fills (pointer_bounds v) a))) entry (peek x.storage a)
    choose true = Holds-cell cells a entry x.storage memory h
    choose false =
        Holds-uncopied _ entry (peek x.storage a)
        ((byte_at_sound (take s.level entry.program.facts) cells s.fills (pointer_bounds v) a _ refl).gives (peek x.storage) (pointers_of x.processor) state)

AreCells-covered :
    (v : Values) (cells : List Cell) (s : SummaryParts) (kept : List Cell) (entry : Activation) (x : MState)
    → list_all (λ c. covers_val (byte_in entry.program v cells s c.address) c.val) kept ≡ true → IsMemory x.storage → AreCells cells entry x
    → HoldsState (take s.level entry.program.facts) cells s.fills (pointer_bounds v) (peek x.storage) (pointers_of x.processor)
    → AreCells kept entry x
AreCells-covered v cells s [] entry x e memory h state = tt
AreCells-covered v cells s (c ∷ kept) entry x e memory h state =
    let both = and_parts _ _ e in (
      Holds-covered _ _ entry _ both.0 (Holds-byte_in v cells s c.address entry x memory h state),
      AreCells-covered v cells s kept entry x both.1 memory h state,
    )

-- ---- all of it

pub HoldValues-means : (s : AbsState) (entry : Activation) (base : ℕ) (x : MState) → Means s entry base x → HoldValues (values_in s) (beside entry x) x.processor.registers
HoldValues-means s entry base x m =
    record {
      registers = λ r. In-from (get r s.core.registers) entry (get r x.processor.registers) (m.parts.core.registers r);
      pairs = m.related.pairs;
    }

pub HoldsKnown-means :
    (s : AbsState) (entry : Activation) (base : ℕ) (x : MState) → Means s entry base x
    → HoldsKnown entry.program (values_in s) s.core.ctl s.cells s.summary x.processor (peek x.storage) x.storage.banks
HoldsKnown-means s entry base x m =
    record {
      was = beside entry x;
      values = HoldValues-means s entry base x m;
      windows = windows_hold s.core.ctl entry x.storage.banks m.parts.core.controller;
      bytes = λ a. let small = m.parts.memory.bytes a in omega arith;
      cells_hold = HoldCells-means s.cells entry x m.parts.cells;
      summary = m.summary;
    }

-- the bytes that its links read lie within the bounds that are known of them
pub AreReadIn-means :
    (s : AbsState) (entry : Activation) (base : ℕ) (x : MState) → Means s entry base x → AreReadIn s.relations.pairs (read_in entry.program s) (peek x.storage)
AreReadIn-means s entry base x m =
    AreReadIn-read_by entry.program (values_in s) s.cells s.summary s.relations.pairs (peek x.storage) (pointers_of x.processor)
    (HoldsState-known entry.program (values_in s) s.core.ctl s.cells s.summary x.processor (peek x.storage) x.storage.banks (HoldsKnown-means s entry base x m))

-- what a state knows of a byte holds of it, with values that its registers and pairs have
pub Holds-byte_in_state :
    (v : Values) (s : AbsState) (a : ℕ) (entry : Activation) (base : ℕ) (x : MState)
    → MeansParts s entry base x → IsSummarized s entry x → HoldValues v (beside entry x) x.processor.registers
    → Holds (byte_in entry.program v s.cells s.summary a) entry (peek x.storage a)
Holds-byte_in_state v s a entry base x m said values =
    Holds-byte_in v s.cells s.summary a entry x m.memory m.cells
    (record {
      bytes = λ b. let small = m.memory.bytes b in omega arith;
      cells_hold = HoldCells-means s.cells entry x m.cells;
      facts_hold = said.facts;
      fills_hold = said.fills;
      pointers = PointersIn-known v (beside entry x) x.processor values;
    })

-- what a state knows of a byte holds of each machine state that it means
pub Holds-byte :
    (s : AbsState) (a : ℕ) (entry : Activation) (base : ℕ) (x : MState) → Means s entry base x
    → Holds (byte_in entry.program (values_in s) s.cells s.summary a) entry (peek x.storage a)
Holds-byte s a entry base x m =
    Holds-byte_in_state (values_in s) s a entry base x m.parts m.summary (HoldValues-means s entry base x m)

and_true : (b : Bool) → b ≡ true → (b && true) ≡ true
and_true true h = refl
and_true false h = h

-- core and items, as the parts have them without cells
abbrev without_cells : AbsState → AbsState
without_cells s = record s { cells = [] }

MeansParts-without_cells : (s : AbsState) (entry : Activation) (base : ℕ) (x : MState) → MeansParts s entry base x → MeansParts (without_cells s) entry base x
MeansParts-without_cells s entry base x m =
    record { core = m.core; memory = m.memory; sp = m.sp; stack = m.stack; items = m.items; cells = tt }

without_cells-covered : (k : Kind) (s t : AbsState) → (covers_core k s.core t.core && covers_items s.items t.items) ≡ true → covers_parts k (without_cells s) (without_cells t) ≡ true
unfolding covers_parts covers_cells_alone
without_cells-covered k s t h = and_true _ h

record AreCovered (program : Program) (s t : AbsState) : Type 0 where
  parts : (covers_core program.kind s.core t.core && covers_items s.items t.items) ≡ true
  cells : covers_cells program (values_in s) s.cells s.summary t.cells ≡ true
  relations : covers_relations program s.core.registers s.cells s.summary s.relations t.relations ≡ true
  said : covers_summary program (values_in s) s.core.ctl s.cells s.summary t.cells t.summary ≡ true

AreCovered-all : (program : Program) (s t : AbsState) → covers program s t ≡ true → AreCovered program s t
unfolding covers
AreCovered-all program s t h =
    let said = and_parts _ _ h in
    let relations = and_parts _ _ said.0 in
    let cells = and_parts _ _ relations.0 in
    record { parts = cells.0; cells = cells.1; relations = relations.1; said = said.1 }

-- where t isn't put aside, s isn't
none_aside : (o w : Option Bounds) → covers_aside o w ≡ true → w ≡ None → o ≡ None
none_aside None w h e = refl
none_aside (Some b) None h e = cc
none_aside (Some b) (Some d) h e = absurd (let bad : Some d ≡ None = e in cc)

aside_covered :
    (program : Program) (v : Values) (c : Ctl) (cells : List Cell) (s : SummaryParts) (kept : List Cell) (t : SummaryParts)
    → covers_summary program v c cells s kept t ≡ true → t.aside ≡ None → s.aside ≡ None
unfolding covers_summary
aside_covered program v c cells s kept t h e = none_aside s.aside t.aside (and_parts _ _ h).1 e

pub Means-covered :
    (s t : AbsState) (entry : Activation) (base : ℕ) (x : MState)
    → covers entry.program s t ≡ true → Means s entry base x → Means t entry base x
unfolding covers_cells
Means-covered s t entry base x h m =
    let all = AreCovered-all entry.program s t h in
    let known = HoldsKnown-means s entry base x m in
    let state = HoldsState-known entry.program (values_in s) s.core.ctl s.cells s.summary x.processor (peek x.storage) x.storage.banks known in
    let parts =
    MeansParts-covered entry.program.kind (without_cells s) (without_cells t) entry base x refl (without_cells-covered entry.program.kind s t all.parts)
    (aside_covered entry.program (values_in s) s.core.ctl s.cells s.summary t.cells t.summary all.said)
    (MeansParts-without_cells s entry base x m.parts) in
    record {
      parts = record {
        core = parts.core;
        memory = parts.memory;
        sp = parts.sp;
        stack = parts.stack;
        items = parts.items;
        cells = AreCells-covered (values_in s) s.cells s.summary t.cells entry x all.cells m.parts.memory m.parts.cells state;
      };
      related = HoldRelations-covered entry.program s.core.registers s.cells s.summary s.relations t.relations _ _ _ _ _ all.relations known.values.registers
          (AreCopies-core s.core entry x m.parts.core) state m.related;
      summary = (covers_summary_sound entry.program (values_in s) s.core.ctl s.cells s.summary t.cells t.summary _ refl all.said).gives
          x.processor (peek x.storage) x.storage.banks known;
    }

pub covers_sound : (program : Program) (s t : AbsState) (o : Bool)
    → o ≡ covers program s t → o ≡ true → IsPartOf program s t
covers_sound program s t o e h =
    record { gives = λ entry base x is. Means-covered s t entry base x (subst (λ p. covers p s t ≡ true) (sym is) (sym e ∙ h)) }
