-- What is said of the whole program holds behind each effect of an instruction.
use Rattle.std.proofs.Common.{◌≡◌, ℕ, ◌+◌, ◌/◌, ◌%◌, ◌<◌, Bool, true, false, cond, nat_lt, List, [], ◌∷◌, take, Option, Some, None, IfSome, refl, sym, ◌∙◌, ap, subst, arith}
use Rattle.std.proofs.lemmas.Bool.Decides.{nat_tests}
use Rattle.gb_ops.specs.declared.machine.Banks.{Banks}
use Rattle.gb_ops.specs.declared.machine.Kind.{Kind}
use Rattle.gb_ops.specs.declared.machine.Read.{Read}
use Rattle.gb_ops.specs.declared.machine.Read.TheVariants as read
use Rattle.gb_ops.specs.declared.machine.Region.{Region}
use Rattle.gb_ops.specs.declared.machine.Write.{Write}
use Rattle.gb_ops.specs.declared.machine.Write.TheVariants as write
use Rattle.gb_ops.specs.declared.op.Op.{Op}
use Rattle.gb_ops.specs.declared.op.Pointer.{Pointer}
use Rattle.gb_ops.specs.declared.op.Pointer.TheVariants.{Bc, De, Hl, HighC}
use Rattle.gb_ops.specs.declared.op.Register.{Register}
use Rattle.gb_ops.specs.declared.op.Register.TheVariants.{A, B, C, D, E, H, L}
use Rattle.gb_ops.specs.declared.registers.Processor.{Processor}
use Rattle.gb_ops.specs.Cartridge.{kind_after}
use Rattle.gb_ops.specs.Effects.{effect_of, read_of}
use Rattle.gb_ops.specs.Pointers.{pointed, pointer_of, stored_of, ReadsAt, WritesAt, WritesByte}
use Rattle.gb_ops.specs.Registers.{get}
use Rattle.gb_ops.proofs.PointerLaws.{follows, stores}
use Rattle.gb_domain.specs.declared.interval.StridedInterval.{StridedInterval}
use Rattle.gb_domain.specs.declared.pairs.Bounds.{Bounds}
use Rattle.gb_domain.specs.declared.places.OneByte.{OneByte}
use Rattle.gb_domain.specs.declared.summary.Fact.{Fact}
use Rattle.gb_domain.specs.declared.summary.Fill.{Fill}
use Rattle.gb_domain.specs.declared.types.Cell.{Cell}
use Rattle.gb_domain.specs.Meaning.{In}
use Rattle.gb_domain.specs.Places.{no_byte, no_place}
use Rattle.gb_domain.specs.Summaries.{SummaryParts, Program}
use Rattle.gb_relations.specs.Below.gb_pairs.declared.values.Values.{Values}
use Rattle.gb_relations.specs.Below.gb_copies.Meaning.{HoldOneByte}
use Rattle.gb_relations.specs.Places.{is_ram, behind_echo}
use Rattle.gb_relations.specs.Sound.{IsByteFree, Reads}
use Rattle.gb_relations.proofs.AddressLaws.{free-ram}
use Rattle.gb_ram_bounds.specs.declared.addresses.AddressSet.{AddressSet}
use Rattle.gb_ram_bounds.specs.declared.pointers.Pointers.{Pointers}
use Rattle.gb_ram_bounds.specs.Fills.{at_pointer}
use Rattle.gb_ram_bounds.specs.Meaning.{HoldFacts, HoldFills, GoesThrough, HasCellsOf}
use Rattle.gb_summaries.specs.declared.instruction.InstructionStore.{InstructionStore}
use Rattle.gb_summaries.specs.declared.instruction.InstructionStore.TheVariants.{Nothing, Byte, Word}
use Rattle.gb_summaries.specs.declared.stores.Store.{Store}
use Rattle.gb_summaries.specs.Elsewhere.{AreFreeFacts, IsFree, IsLeft}
use Rattle.gb_summaries.specs.Meaning.{HoldSummary, IsAside, pointers_of}
use Rattle.gb_summaries.specs.Stores.{IsFrom, stored_in_ram, switched}
use Rattle.gb_summaries.specs.Transfer.{after_registers}
use Rattle.gb_summaries.specs.Instruction.{one, StoresWord, byte_stored, after_write, summary_after, banks_after, StoresByte, Stores, Begins, IsSoundInstruction}
use Rattle.gb_summaries.proofs.ElsewhereLaws.{stays_elsewhere, stored_in_ram_free, switched_free, after_registers_free}
use Rattle.gb_summaries.proofs.StoreLaws.{stored_in_ram_sound, switched_sound}
use Rattle.gb_summaries.proofs.TransferLaws.{after_registers_sound}

-- ---- more cells

HoldFacts-more :
    (facts : List Fact) (before cells : List Cell) (memory : ℕ → ℕ) → HasCellsOf before cells → HoldFacts facts before memory → HoldFacts facts cells memory
HoldFacts-more [] before cells memory c h = tt
HoldFacts-more (f ∷ facts) before cells memory c h =
    (record { gives = λ a has none. h.0.gives a has (c.gives a none) }, HoldFacts-more facts before cells memory c h.1)

HoldFills-more :
    (fills : List Fill) (before cells : List Cell) (memory : ℕ → ℕ) (x : Pointers ℕ)
    → HasCellsOf before cells → HoldFills fills before memory x → HoldFills fills cells memory x
HoldFills-more [] before cells memory x c h = tt
HoldFills-more (f ∷ fills) before cells memory x c h =
    (record { gives = λ a between reached none. h.0.gives a between reached (c.gives a none) }, HoldFills-more fills before cells memory x c h.1)

HoldSummary-more :
    (program : Program) (before cells : List Cell) (s : SummaryParts) (p : Processor) (memory : ℕ → ℕ) (banks : Banks)
    → HasCellsOf before cells → HoldSummary program before s p memory banks → HoldSummary program cells s p memory banks
HoldSummary-more program before cells s p memory banks c h =
    record {
      facts = HoldFacts-more (take s.level program.facts) before cells memory c h.facts;
      fills = HoldFills-more s.fills before cells memory (pointers_of p) c h.fills;
      first = h.first;
      second = h.second;
      aside = h.aside;
    }

-- ---- the store

same_pointer : (q : Pointer) (p : Processor) → at_pointer q (pointers_of p) ≡ pointed p q
same_pointer Bc p = refl
same_pointer De p = refl
same_pointer Hl p = refl
same_pointer HighC p = refl

GoesThrough-written :
    (t : Option Pointer) (p : Processor) (r : Read) (m : Write) (a n : ℕ)
    → IfSome t (λ q. ReadsAt (pointed p q) r × WritesAt (pointed p q) m) → m ≡ write.Byte a n → GoesThrough t (pointers_of p) a
unfolding WritesAt
GoesThrough-written None p r m a n h e = tt
GoesThrough-written (Some q) p r m a n h e = subst (λ w. WritesAt (pointed p q) w) e h.1 ∙ sym (same_pointer q p)

IsFrom-written :
    (t : Option Register) (p : Processor) (m : Write) (a n : ℕ)
    → IfSome t (λ q. WritesByte (get q p.registers) m) → m ≡ write.Byte a n → IsFrom t p.registers n
unfolding WritesByte
IsFrom-written None p m a n h e = tt
IsFrom-written (Some q) p m a n h e = subst (λ w. WritesByte (get q p.registers) w) e h

not_ram : (a : ℕ) → nat_lt a 0x8000 ≡ true → is_ram a ≡ true → true ≡ false
not_ram a e f = grind (arith, nat_tests)

low_address : (a : ℕ) → nat_lt a 0x8000 ≡ true → a < 0x8000
low_address a e = grind (arith, nat_tests)

-- where the address isn't in RAM, RAM stays
IsLeft-others :
    (region : Region) (a : ℕ) (memory after : ℕ → ℕ)
    → (is_ram a ≡ true → true ≡ false) → ((c : ℕ) → (c ≡ a → ⊥) → after c ≡ memory c) → IsLeft region memory after
IsLeft-others region a memory after out others c free = others c (λ e. differ (out (subst (λ n. is_ram n ≡ true) e (free-ram region c free))))
  where
    differ : true ≡ false → ⊥
    differ h = cc

record Moment (program : Program) (region : Region) (b : OneByte) (s : SummaryParts) (before cells : List Cell) (p : Processor) (memory : ℕ → ℕ) (banks : Banks) : Type 0 where
  byte : HoldOneByte b p.registers memory p.flags
  byte_free : IsByteFree region b.address
  facts : AreFreeFacts region program.facts
  free : IsFree region s
  more : HasCellsOf before cells
  summary : HoldSummary program before s p memory banks

HoldSummary-elsewhere :
    (program : Program) (region : Region) (b : OneByte) (s : SummaryParts) (before cells : List Cell) (p : Processor) (memory after : ℕ → ℕ) (banks : Banks)
    → Moment program region b s before cells p memory banks → IsLeft region memory after → HoldSummary program cells s p after banks
HoldSummary-elsewhere program region b s before cells p memory after banks m left =
    HoldSummary-more program before cells s p after banks m.more (stays_elsewhere program region before s p memory after banks m.facts m.free left m.summary)

HoldSummary-in_controller :
    (program : Program) (region : Region) (b : OneByte) (s : SummaryParts) (before cells : List Cell) (p : Processor) (memory after : ℕ → ℕ) (banks r : Banks) (x : AddressSet) (v : StridedInterval) (from : Option Register) (a n : ℕ)
    → Moment program region b s before cells p memory banks → StoresByte program.kind x v a n memory after banks r → IsFrom from p.registers n
    → nat_lt x.first 0x8000 ≡ true → HoldSummary program cells (switched program.kind x.first from b s) p after r
HoldSummary-in_controller program region b s before cells p memory after banks r x v from a n m i f e =
    subst (λ t. HoldSummary program cells (switched program.kind x.first from b s) p after t) (sym now)
    (HoldSummary-more program before cells _ p after _ m.more
    (stays_elsewhere program region before _ p memory after _ m.facts ((switched_free region program.kind x.first from b s _ refl m.byte_free).gives m.free)
    (IsLeft-others region a memory after (not_ram a low) i.others)
    ((switched_sound program x.first from b s _ refl).gives before p memory banks a n i.windows (low_address a low) i.small f m.byte m.summary)))
  where
    low : nat_lt a 0x8000 ≡ true
    low = i.in_controller ∙ e

    now : r ≡ kind_after program.kind banks a n
    now = i.switches ∙ ap (λ t. cond t (kind_after program.kind banks a n) banks) low

same_banks : (k : Kind) (a n : ℕ) (banks r : Banks) → r ≡ banks_after k a n banks → nat_lt a 0x8000 ≡ false → r ≡ banks
same_banks k a n banks r e f = e ∙ ap (λ t. cond t (kind_after k banks a n) banks) f

HoldSummary-byte :
    (program : Program) (region : Region) (o : Op) (b : OneByte) (s : SummaryParts) (before cells : List Cell) (p : Processor) (memory after : ℕ → ℕ) (banks r : Banks) (x : AddressSet) (v : StridedInterval) (a n : ℕ)
    → Moment program region b s before cells p memory banks → StoresByte program.kind x v a n memory after banks r
    → GoesThrough (pointer_of o) (pointers_of p) a → IsFrom (stored_of o) p.registers n
    → HoldSummary program cells (byte_stored program region cells o b x v s) p after r
unfolding byte_stored
HoldSummary-byte program region o b s before cells p memory after banks r x v a n m i g f =
    choose (nat_lt x.first 0x8000) refl (is_ram x.first) refl
  where
    store : Store
    store = record { addresses = x; through = pointer_of o; from = stored_of o; value = v }

    choose :
        (c : Bool) → nat_lt x.first 0x8000 ≡ c → (d : Bool) → is_ram x.first ≡ d
        → HoldSummary program cells
        (cond c (switched program.kind x.first (stored_of o) b s) (cond d (stored_in_ram region program.facts cells (record { addresses = x; through = pointer_of o; from = stored_of o; value = v }) s) s))
        p after r
    choose true e d k = HoldSummary-in_controller program region b s before cells p memory after banks r x v (stored_of o) a n m i f e
    choose false e true k =
        let is : after a ≡ n = i.stored (i.in_ram ∙ k) in
        subst (λ t. HoldSummary program cells (stored_in_ram region program.facts cells (record { addresses = x; through = pointer_of o; from = stored_of o; value = v }) s) p after t) (sym (same_banks program.kind a n banks r i.switches (i.in_controller ∙ e)))
        ((stored_in_ram_sound program region cells (record { addresses = x; through = pointer_of o; from = stored_of o; value = v }) s _ refl).gives before p memory after banks m.more
        (record {
          store = record { address = a; among = i.among; value = subst (λ t. In v t) (sym is) i.value; others = i.others };
          through = g;
          from = subst (λ t. IsFrom (stored_of o) p.registers t) (sym is) f;
        }) m.summary)
    choose false e false k =
        subst (λ t. HoldSummary program cells s p after t) (sym (same_banks program.kind a n banks r i.switches (i.in_controller ∙ e)))
        (HoldSummary-elsewhere program region b s before cells p memory after banks m (IsLeft-others region a memory after (λ t. sym t ∙ (i.in_ram ∙ k)) i.others))

-- ---- what stays

same_aside-byte : (program : Program) (region : Region) (cells : List Cell) (o : Op) (b : OneByte) (x : AddressSet) (v : StridedInterval) (s : SummaryParts) → (byte_stored program region cells o b x v s).aside ≡ s.aside
unfolding byte_stored switched stored_in_ram
same_aside-byte program region cells o b x v s = choose (nat_lt x.first 0x8000) (is_ram x.first)
  where
    choose :
        (c d : Bool)
        → (cond {A = SummaryParts} c (switched program.kind x.first (stored_of o) b s) (cond d (stored_in_ram region program.facts cells (record { addresses = x; through = pointer_of o; from = stored_of o; value = v }) s) s)).aside
        ≡ s.aside
    choose true d = refl
    choose false true = refl
    choose false false = refl

free-byte :
    (program : Program) (region : Region) (cells : List Cell) (o : Op) (b : OneByte) (x : AddressSet) (v : StridedInterval) (s : SummaryParts)
    → IsByteFree region b.address → IsFree region s → IsFree region (byte_stored program region cells o b x v s)
unfolding byte_stored
free-byte program region cells o b x v s f h = choose (nat_lt x.first 0x8000) (is_ram x.first)
  where
    choose :
        (c d : Bool)
        → IsFree region
        (cond c (switched program.kind x.first (stored_of o) b s) (cond d (stored_in_ram region program.facts cells (record { addresses = x; through = pointer_of o; from = stored_of o; value = v }) s) s))
    choose true d = (switched_free region program.kind x.first (stored_of o) b s _ refl f).gives h
    choose false true = (stored_in_ram_free region program.facts cells (record { addresses = x; through = pointer_of o; from = stored_of o; value = v }) s _ refl).gives h
    choose false false = h

-- ---- two stores

GoesThrough-word :
    (t : Option Pointer) (p : Processor) (r : Read) (m : Write) (a n c : ℕ)
    → IfSome t (λ q. ReadsAt (pointed p q) r × WritesAt (pointed p q) m) → m ≡ write.Word a n → GoesThrough t (pointers_of p) c
unfolding WritesAt
GoesThrough-word None p r m a n c h e = tt
GoesThrough-word (Some q) p r m a n c h e = absurd (subst (λ w. WritesAt (pointed p q) w) e h.1)

IsFrom-word :
    (t : Option Register) (p : Processor) (m : Write) (a n c : ℕ)
    → IfSome t (λ q. WritesByte (get q p.registers) m) → m ≡ write.Word a n → IsFrom t p.registers c
unfolding WritesByte
IsFrom-word None p m a n c h e = tt
IsFrom-word (Some q) p m a n c h e = absurd (subst (λ w. WritesByte (get q p.registers) w) e h)

no_register : {X : Type 0} (q : Register) → get q no_place ≡ true → X
no_register A h = cc
no_register B h = cc
no_register C h = cc
no_register D h = cc
no_register E h = cc
no_register H h = cc
no_register L h = cc

HoldOneByte-none : (p : Processor) (memory : ℕ → ℕ) → HoldOneByte no_byte p.registers memory p.flags
HoldOneByte-none p memory =
    record { byte = 0; small = omega arith; registers = λ q h. no_register q h; address = λ a h. cc; test = tt }

HoldSummary-word :
    (program : Program) (region : Region) (o : Op) (b : OneByte) (s : SummaryParts) (before cells : List Cell) (p : Processor) (memory after : ℕ → ℕ) (banks r : Banks) (a : ℕ) (low high : StridedInterval) (c n : ℕ)
    → Moment program region b s before cells p memory banks → StoresWord program.kind a low high c n memory after banks r
    → ((z : ℕ) → GoesThrough (pointer_of o) (pointers_of p) z) → ((z : ℕ) → IsFrom (stored_of o) p.registers z)
    → HoldSummary program cells (after_write program region cells o b (Word a low high) s) p after r
HoldSummary-word program region o b s before cells p memory after banks r a low high c n m i g f =
    HoldSummary-byte program region o no_byte (byte_stored program region cells o no_byte (one a) low s) cells cells p i.middle after i.between r (one ((a + 1) % 65536)) high ((c + 1) % 65536) (n / 256)
    (record {
      byte = HoldOneByte-none p i.middle;
      byte_free = tt;
      facts = m.facts;
      free = free-byte program region cells o no_byte (one a) low s tt m.free;
      more = record { gives = λ z none. none };
      summary =
          HoldSummary-byte program region o no_byte s before cells p memory i.middle banks i.between (one a) low c (n % 256)
          (record { byte = HoldOneByte-none p memory; byte_free = tt; facts = m.facts; free = m.free; more = m.more; summary = m.summary })
          i.first (g c) (f (n % 256));
    })
    i.second (g ((c + 1) % 65536)) (f (n / 256))

HoldSummary-write :
    (program : Program) (region : Region) (o : Op) (b : OneByte) (s : SummaryParts) (before cells : List Cell) (p : Processor) (memory after : ℕ → ℕ) (banks r : Banks) (l h : ℕ) (w : InstructionStore) (t : Write)
    → Moment program region b s before cells p memory banks → (effect_of o p l h).write ≡ t → Stores program.kind region w t memory after banks r
    → HoldSummary program cells (after_write program region cells o b w s) p after r
HoldSummary-write program region o b s before cells p memory after banks r l h Nothing write.Nothing m e i =
    subst (λ u. HoldSummary program cells s p after u) (sym i.1) (HoldSummary-elsewhere program region b s before cells p memory after banks m (λ a free. i.0 a))
HoldSummary-write program region o b s before cells p memory after banks r l h Nothing (write.Push sp n) m e i =
    subst (λ u. HoldSummary program cells s p after u) (sym i.1) (HoldSummary-elsewhere program region b s before cells p memory after banks m i.0)
HoldSummary-write program region o b s before cells p memory after banks r l h Nothing (write.Byte a n) m e i = absurd i
HoldSummary-write program region o b s before cells p memory after banks r l h Nothing (write.Word a n) m e i = absurd i
HoldSummary-write program region o b s before cells p memory after banks r l h (Byte x v) (write.Byte a n) m e i =
    HoldSummary-byte program region o b s before cells p memory after banks r x v a n m i
    (GoesThrough-written (pointer_of o) p (read_of o p) (effect_of o p l h).write a n (follows o p l h) e)
    (IsFrom-written (stored_of o) p (effect_of o p l h).write a n (stores o p l h) e)
HoldSummary-write program region o b s before cells p memory after banks r l h (Byte x v) write.Nothing m e i = absurd i
HoldSummary-write program region o b s before cells p memory after banks r l h (Byte x v) (write.Word a n) m e i = absurd i
HoldSummary-write program region o b s before cells p memory after banks r l h (Byte x v) (write.Push a n) m e i = absurd i
HoldSummary-write program region o b s before cells p memory after banks r l h (Word a low high) (write.Word c n) m e i =
    HoldSummary-word program region o b s before cells p memory after banks r a low high c n m i
    (λ z. GoesThrough-word (pointer_of o) p (read_of o p) (effect_of o p l h).write c n z (follows o p l h) e)
    (λ z. IsFrom-word (stored_of o) p (effect_of o p l h).write c n z (stores o p l h) e)
HoldSummary-write program region o b s before cells p memory after banks r l h (Word a low high) write.Nothing m e i = absurd i
HoldSummary-write program region o b s before cells p memory after banks r l h (Word a low high) (write.Byte c n) m e i = absurd i
HoldSummary-write program region o b s before cells p memory after banks r l h (Word a low high) (write.Push c n) m e i = absurd i

same_aside : (program : Program) (region : Region) (cells : List Cell) (o : Op) (b : OneByte) (w : InstructionStore) (s : SummaryParts) → (after_write program region cells o b w s).aside ≡ s.aside
same_aside program region cells o b Nothing s = refl
same_aside program region cells o b (Byte x v) s = same_aside-byte program region cells o b x v s
same_aside program region cells o b (Word a low high) s =
    same_aside-byte program region cells o no_byte (one ((a + 1) % 65536)) high (byte_stored program region cells o no_byte (one a) low s)
    ∙ same_aside-byte program region cells o no_byte (one a) low s

free-write :
    (program : Program) (region : Region) (cells : List Cell) (o : Op) (b : OneByte) (w : InstructionStore) (s : SummaryParts)
    → IsByteFree region b.address → IsFree region s → IsFree region (after_write program region cells o b w s)
free-write program region cells o b Nothing s f h = h
free-write program region cells o b (Byte x v) s f h = free-byte program region cells o b x v s f h
free-write program region cells o b (Word a low high) s f h =
    free-byte program region cells o no_byte (one ((a + 1) % 65536)) high (byte_stored program region cells o no_byte (one a) low s) tt
    (free-byte program region cells o no_byte (one a) low s tt h)

same_memory :
    (k : Kind) (region : Region) (w : InstructionStore) (t : Write) (memory after : ℕ → ℕ) (banks r : Banks)
    → t ≡ write.Nothing → Stores k region w t memory after banks r → (a : ℕ) → after a ≡ memory a
same_memory k region w t memory after banks r e i = nothing w (subst (λ u. Stores k region w u memory after banks r) e i)
  where
    nothing : (u : InstructionStore) → Stores k region u write.Nothing memory after banks r → (a : ℕ) → after a ≡ memory a
    nothing Nothing j a = j.0 a
    nothing (Byte x v) j a = absurd j
    nothing (Word c low high) j a = absurd j

Reads-same : (t : Read) (memory after : ℕ → ℕ) (l : ℕ) → ((a : ℕ) → after a ≡ memory a) → Reads t memory l → Reads t after l
Reads-same (read.Byte a) memory after l same h = λ ram. same (behind_echo a) ∙ h ram
Reads-same read.Nothing memory after l same h = tt
Reads-same (read.Word a) memory after l same h = tt

-- ---- all of it

HoldSummary-instruction :
    (program : Program) (region : Region) (cells : List Cell) (o : Op) (sp : Bounds) (v : Values) (b : OneByte) (w : InstructionStore) (s : SummaryParts) (before : List Cell) (p : Processor) (memory after : ℕ → ℕ) (banks r : Banks) (l h : ℕ)
    → HasCellsOf before cells → Begins program region o sp v b s p memory l h
    → Stores program.kind region w (effect_of o p l h).write memory after banks r → IsAside s.aside (effect_of o p l h).processor
    → HoldSummary program before s p memory banks
    → HoldSummary program cells (after_registers region o sp v (after_write program region cells o b w s)) (effect_of o p l h).processor after r
HoldSummary-instruction program region cells o sp v b w s before p memory after banks r l h c g i aside m =
    (after_registers_sound program region o sp v (after_write program region cells o b w s) _ refl).gives cells p after r l h
    (record {
      was = g.was;
      values = g.values;
      bytes = g.bytes;
      sp_first = g.sp_first;
      sp_last = g.sp_last;
      sp_small = g.sp_small;
      reads = λ e. Reads-same (read_of o p) memory after l (same_memory program.kind region w (effect_of o p l h).write memory after banks r e i) g.reads;
    })
    (subst (λ t. IsAside t (effect_of o p l h).processor) (sym (same_aside program region cells o b w s)) aside)
    (HoldSummary-write program region o b s before cells p memory after banks r l h w (effect_of o p l h).write
    (record { byte = g.byte; byte_free = g.byte_free; facts = g.facts; free = g.free; more = c; summary = m }) refl i)

IsSoundInstruction-after :
    (program : Program) (region : Region) (cells : List Cell) (o : Op) (sp : Bounds) (v : Values) (b : OneByte) (w : InstructionStore) (s : SummaryParts)
    → IsSoundInstruction program region cells o sp v b w s (summary_after program region cells o sp v b w s)
unfolding summary_after
IsSoundInstruction-after program region cells o sp v b w s =
    record {
      gives = λ before p memory after banks r l h. HoldSummary-instruction program region cells o sp v b w s before p memory after banks r l h;
      free = λ f h. (after_registers_free region o sp v (after_write program region cells o b w s) _ refl).gives (free-write program region cells o b w s f h);
    }

pub summary_after_sound :
    (program : Program) (region : Region) (cells : List Cell) (o : Op) (sp : Bounds) (v : Values) (b : OneByte) (w : InstructionStore) (s t : SummaryParts)
    → t ≡ summary_after program region cells o sp v b w s → IsSoundInstruction program region cells o sp v b w s t
summary_after_sound program region cells o sp v b w s t e =
    subst (λ u. IsSoundInstruction program region cells o sp v b w s u) (sym e) (IsSoundInstruction-after program region cells o sp v b w s)
