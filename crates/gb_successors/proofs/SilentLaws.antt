-- Where nothing was said of the whole program, and no store tells of the controller, nothing is said behind an instruction.
use Rattle.std.proofs.Common.{◌≡◌, ℕ, ◌==◌, Bool, true, false, not, ◌&&◌, ◌||◌, cond, nat_lt, List, [], ◌∷◌, length, Option, Some, None, is_none, refl, sym, ◌∙◌, ap, arith}
use Rattle.std.proofs.lemmas.Bool.{eqb-true}
use Rattle.gb_ops.specs.declared.machine.Kind.{Kind}
use Rattle.gb_ops.specs.declared.machine.Kind.TheVariants as kind
use Rattle.gb_ops.specs.declared.machine.Region.{Region}
use Rattle.gb_ops.specs.declared.op.Op.{Op}
use Rattle.gb_ops.specs.declared.op.Op.TheVariants as op
use Rattle.gb_ops.specs.declared.op.Operand.{Operand}
use Rattle.gb_ops.specs.declared.op.Operand.TheVariants as operand
use Rattle.gb_ops.specs.declared.op.Register.{Register}
use Rattle.gb_ops.specs.declared.op.Register.TheVariants.{A, B, C, D, E, H, L}
use Rattle.gb_ops.specs.Pointers as Pointers
use Rattle.gb_ops.specs.Registers.{get, set}
use Rattle.gb_domain.specs.declared.interval.StridedInterval.{StridedInterval}
use Rattle.gb_domain.specs.declared.pairs.Bounds.{Bounds}
use Rattle.gb_domain.specs.declared.places.OneByte.{OneByte}
use Rattle.gb_domain.specs.declared.places.Place.{Place}
use Rattle.gb_domain.specs.declared.places.Place.TheVariants as place
use Rattle.gb_domain.specs.declared.rules.Rules.{Rules}
use Rattle.gb_domain.specs.declared.rules.Rules.TheVariants.{Simple, Extended}
use Rattle.gb_domain.specs.declared.summary.Fact.{Fact}
use Rattle.gb_domain.specs.declared.summary.Shadows.{Shadows}
use Rattle.gb_domain.specs.declared.types.Cell.{Cell}
use Rattle.gb_domain.specs.declared.types.Val.{Val}
use Rattle.gb_ops.specs.declared.registers.Registers.{Registers}
use Rattle.gb_domain.specs.Places.{no_place, no_byte}
use Rattle.gb_domain.specs.RelationRules.{is_some_register}
use Rattle.gb_domain.specs.Silent.{is_unshadowed, is_silent, is_level_alone, level_alone}
use Rattle.gb_domain.specs.Summaries.{SummaryParts, Program, no_shadows, no_bank_shadows, no_summary}
use Rattle.gb_domain.specs.Types.{AbsState}
use Rattle.gb_product.specs.Below.gb_copies.Shadows.{is_shadow, without_register, without_addresses, copied_to_register, copied_to_address}
use Rattle.gb_product.specs.Below.gb_copies.Windows.{is_in_window}
use Rattle.gb_product.specs.Below.gb_pairs.declared.values.Values.{Values}
use Rattle.gb_product.specs.Below.gb_summaries.Below.gb_ram_bounds.Facts.{level_after}
use Rattle.gb_product.specs.Below.gb_summaries.Below.gb_ram_bounds.declared.addresses.AddressSet.{AddressSet}
use Rattle.gb_product.specs.Below.gb_relations.Bytes.{at_indirect}
use Rattle.gb_product.specs.Below.gb_relations.Items.{places_outside}
use Rattle.gb_product.specs.Below.gb_relations.Places.{is_ram, stored_place, loaded_place}
use Rattle.gb_product.specs.Below.gb_relations.Written.{counted, written}
use Rattle.gb_product.specs.Below.gb_summaries.declared.instruction.InstructionStore.{InstructionStore}
use Rattle.gb_product.specs.Below.gb_summaries.declared.instruction.InstructionStore.TheVariants as stored
use Rattle.gb_product.specs.Below.gb_summaries.declared.stores.Store.{Store}
use Rattle.gb_product.specs.Below.gb_summaries.Instruction.{one, byte_stored, after_write, summary_after}
use Rattle.gb_product.specs.Below.gb_summaries.Moves.{fills_moved}
use Rattle.gb_product.specs.Below.gb_summaries.Stores.{without_stored, shadows_by, shadows_stored, stored_in_ram, switched_window, switched}
use Rattle.gb_product.specs.Below.gb_summaries.Transfer.{without_registers, loaded, moved_byte, shadows_after, after_registers}
use Rattle.gb_product.specs.Below.gb_abs_effects.declared.writes.AbsWrite.{AbsWrite}
use Rattle.gb_product.specs.Below.gb_abs_effects.declared.writes.AbsWrite.TheVariants as write
use Rattle.gb_product.specs.Below.gb_abs.Located.{sp_bounds}
use Rattle.gb_product.specs.Below.gb_relations.Transfer.{values_of}
use Rattle.gb_product.specs.declared.parts.Product.{Product}
use Rattle.gb_successors.specs.declared.stacks.StackMove.{StackMove}
use Rattle.gb_successors.specs.declared.stacks.StackMove.TheVariants as move
use Rattle.gb_successors.specs.declared.stacks.Stack.{Stack}
use Rattle.gb_successors.specs.Summaries.{aside_behind, with_aside, puts_aside, stored_by, tells_nothing, stays_silent, stores_nothing, keeps_level, summary_by}

-- ---- what is silent

both_of : (b c : Bool) → (b && c) ≡ true → (b ≡ true) × (c ≡ true)
both_of true c h = (refl, h)
both_of false c h = cc

not_of : (b : Bool) → not b ≡ true → b ≡ false
not_of false h = refl
not_of true h = cc

either_of : (b c : Bool) → (b || c) ≡ false → (b ≡ false) × (c ≡ false)
either_of true c h = cc
either_of false c h = (refl, h)

none_is : {X : Type 0} (o : Option X) → is_none o ≡ true → o ≡ None
none_is None h = refl
none_is (Some x) h = cc

no_length : {X : Type 0} (xs : List X) → length xs ≡ 0 → xs ≡ []
no_length [] h = refl
no_length (x ∷ xs) h = absurd (omega arith)

no_registers : (a b c d e h l : Bool) → (a || b || c || d || e || h || l) ≡ false → record { a = a; b = b; c = c; d = d; e = e; h = h; l = l } ≡ no_place
no_registers false false false false false false false k = refl
no_registers true b c d e h l k = cc
no_registers false true c d e h l k = cc
no_registers false false true d e h l k = cc
no_registers false false false true e h l k = cc
no_registers false false false false true h l k = cc
no_registers false false false false false true l k = cc
no_registers false false false false false false true k = cc

unshadowed_is : (s : Shadows) → is_unshadowed s ≡ true → s ≡ no_shadows
unshadowed_is s h =
    let both = both_of (is_none s.address) (not (is_some_register s.registers)) h in
    ap (λ o. record s { address = o }) (none_is s.address both.0)
    ∙ ap (λ r. record { registers = r; address = None }) (no_registers s.registers.a s.registers.b s.registers.c s.registers.d s.registers.e s.registers.h s.registers.l (not_of (is_some_register s.registers) both.1))

silent_is : (m : SummaryParts) → is_silent m ≡ true → m ≡ no_summary
silent_is m h =
    let level = both_of (m.level == 0) _ h in
    let fills = both_of (length m.fills == 0) _ level.1 in
    let first = both_of (is_unshadowed m.shadows.first) _ fills.1 in
    let second = both_of (is_unshadowed m.shadows.second) _ first.1 in
    ap (λ n. record m { level = n }) (eqb-true m.level 0 level.0)
    ∙ (ap (λ fs. record m { level = 0; fills = fs }) (no_length m.fills (eqb-true (length m.fills) 0 fills.0))
    ∙ (ap (λ s. record { level = 0; fills = []; shadows = record m.shadows { first = s }; aside = m.aside }) (unshadowed_is m.shadows.first first.0)
    ∙ (ap (λ s. record { level = 0; fills = []; shadows = record { first = no_shadows; second = s }; aside = m.aside }) (unshadowed_is m.shadows.second second.0)
    ∙ ap (λ o. record { level = 0; fills = []; shadows = no_bank_shadows; aside = o }) (none_is m.aside second.1))))

-- ---- shadows

none_set : (q : Register) → set q false no_place ≡ no_place
none_set A = refl
none_set B = refl
none_set C = refl
none_set D = refl
none_set E = refl
none_set H = refl
none_set L = refl

none_got : (q : Register) → get q no_place ≡ false
none_got A = refl
none_got B = refl
none_got C = refl
none_got D = refl
none_got E = refl
none_got H = refl
none_got L = refl

not_shadow : (p : Place) → is_shadow p no_shadows ≡ false
unfolding is_shadow
not_shadow (place.Register q) = none_got q
not_shadow (place.Address a) = refl

none_without : (q : Register) → without_register q no_shadows ≡ no_shadows
unfolding without_register
none_without q = ap (λ r. record { registers = r; address = None }) (none_set q)

none_copied : (q : Register) (p : Place) → copied_to_register q p no_shadows ≡ no_shadows
unfolding copied_to_register
none_copied q p = ap (λ b. record { registers = set q b no_place; address = None }) (not_shadow p) ∙ ap (λ r. record { registers = r; address = None }) (none_set q)

none_stored : (a : ℕ) (p : Place) → copied_to_address a p no_shadows ≡ no_shadows
unfolding copied_to_address without_addresses
none_stored a p = ap (λ b. cond b (record no_shadows { address = Some a }) no_shadows) (not_shadow p)

none_left : (qs : List Register) → without_registers qs no_shadows ≡ no_shadows
none_left [] = refl
none_left (q ∷ qs) = ap (without_registers qs) (none_without q) ∙ none_left qs

none_loaded : (q : Register) (p : Option Place) → loaded q p no_shadows ≡ no_shadows
none_loaded q None = none_without q
none_loaded q (Some p) = none_copied q p

none_moved : (region : Region) (to from : Operand) (v : Values) → moved_byte region to from v no_shadows ≡ no_shadows
none_moved region (operand.Register to) (operand.Register from) v = none_copied to (place.Register from)
none_moved region (operand.Register to) operand.AtHl v = none_loaded to _
none_moved region operand.AtHl from v = refl

none_after : (region : Region) (o : Op) (v : Values) → shadows_after region o v no_shadows ≡ no_shadows
unfolding shadows_after
none_after region (op.LoadA from) v = ap (without_registers (counted from)) (none_loaded A (loaded_place region (at_indirect from v))) ∙ none_left (counted from)
none_after region (op.Load to from) v = none_moved region to from v
none_after region (op.LoadHigh n) v = none_loaded A _
none_after region op.LoadHighC v = none_loaded A _
none_after region (op.LoadAbsolute w) v = none_loaded A _
none_after region o v = none_left (written o)

none_by : (p : Option Place) (q : Option Register) (x : AddressSet) → shadows_by p q x no_shadows ≡ no_shadows
unfolding without_stored
none_by (Some (place.Address a)) (Some q) x = none_stored a (place.Register q)
none_by (Some (place.Address a)) None x = refl
none_by (Some (place.Register r)) q x = refl
none_by None q x = refl

none_put : (region : Region) (w : Store) → shadows_stored region w no_shadows ≡ no_shadows
unfolding shadows_stored
none_put region w = none_by (stored_place region (record { first = w.addresses.first; last = w.addresses.last })) w.from w.addresses

-- ---- all of it

none_level : (cells : List Cell) (x : AddressSet) (v : StridedInterval) → level_after [] cells x v ≡ 0
unfolding level_after
none_level cells x v = by _
  where
    by : (b : Bool) → cond b (length {A = Fact} []) 0 ≡ 0
    by true = refl
    by false = refl

silent_in_ram : (region : Region) (facts : List Fact) (cells : List Cell) (w : Store) → stored_in_ram region facts cells w no_summary ≡ no_summary
unfolding stored_in_ram
silent_in_ram region facts cells w =
    ap (λ n. record { level = n; fills = []; shadows = record { first = shadows_stored region w no_shadows; second = shadows_stored region w no_shadows }; aside = None }) (none_level cells w.addresses w.value)
    ∙ ap (λ s. record { level = 0; fills = []; shadows = record { first = s; second = s }; aside = None }) (none_put region w)

silent_switched : (a : ℕ) (from : Option Register) (b : OneByte) → switched kind.Rom a from b no_summary ≡ no_summary
unfolding switched switched_window is_in_window
silent_switched a from b = refl

silent_byte :
    (program : Program) (region : Region) (cells : List Cell) (o : Op) (b : OneByte) (x : AddressSet) (v : StridedInterval)
    → program.kind ≡ kind.Rom → byte_stored program region cells o b x v no_summary ≡ no_summary
unfolding byte_stored
silent_byte program region cells o b x v e =
    choose (nat_lt x.first 0x8000) (is_ram x.first)
    (ap (λ k. switched k x.first (Pointers.stored_of o) b no_summary) e ∙ silent_switched x.first (Pointers.stored_of o) b)
    (silent_in_ram region program.facts cells _)
  where
    choose : (c d : Bool) {s t : SummaryParts} → s ≡ no_summary → t ≡ no_summary → cond c s (cond d t no_summary) ≡ no_summary
    choose true d f g = f
    choose false true f g = g
    choose false false f g = refl

silent_write :
    (program : Program) (region : Region) (cells : List Cell) (o : Op) (b : OneByte) (w : InstructionStore)
    → program.kind ≡ kind.Rom → after_write program region cells o b w no_summary ≡ no_summary
silent_write program region cells o b stored.Nothing e = refl
silent_write program region cells o b (stored.Byte x v) e = silent_byte program region cells o b x v e
silent_write program region cells o b (stored.Word a low high) e =
    ap (byte_stored program region cells o no_byte _ high) (silent_byte program region cells o no_byte (one a) low e)
    ∙ silent_byte program region cells o no_byte _ high e

silent_registers : (region : Region) (o : Op) (sp : Bounds) (v : Values) → after_registers region o sp v no_summary ≡ no_summary
unfolding after_registers fills_moved
silent_registers region o sp v = ap (λ s. record { level = 0; fills = []; shadows = record { first = s; second = s }; aside = None }) (none_after region o v)

silent_after :
    (program : Program) (region : Region) (cells : List Cell) (o : Op) (sp : Bounds) (v : Values) (b : OneByte) (w : InstructionStore)
    → program.kind ≡ kind.Rom → summary_after program region cells o sp v b w no_summary ≡ no_summary
unfolding summary_after
silent_after program region cells o sp v b w e =
    ap (after_registers region o sp v) (silent_write program region cells o b w e) ∙ silent_registers region o sp v

silent_aside : (m : StackMove) → puts_aside m ≡ false → aside_behind m None ≡ None
silent_aside (move.Aside b) h = cc
silent_aside m h = refl

-- by any rules
pub silent_by :
    (rules : Rules) (k : Stack) (program : Program) (o : Op) (s : AbsState) (p : Product) (m : StackMove) (what : AbsWrite) (cells : List Cell)
    → program.kind ≡ kind.Rom → puts_aside m ≡ false → s.summary ≡ no_summary → summary_by rules k program o s p m what cells ≡ no_summary
unfolding summary_by
silent_by Simple k program o s p m what cells e none quiet = refl
silent_by Extended k program o s p m what cells e none quiet =
    let sp = sp_bounds k.setting s in
    let values = values_of p.core.registers p.relations.pairs in
    let byte = places_outside k.region p.relations.byte in
    let stores = stored_by o p.core.registers what in
    ap (λ (t : SummaryParts). with_aside (aside_behind m t.aside) (summary_after program k.region cells o sp values byte stores (with_aside None t))) quiet
    ∙ (ap (λ a. with_aside a (summary_after program k.region cells o sp values byte stores no_summary)) (silent_aside m none)
    ∙ ap (with_aside None) (silent_after program k.region cells o sp values byte stores e))

silent_simply : (k : Stack) (program : Program) (o : Op) (s : AbsState) (p : Product) (m : StackMove) (what : AbsWrite) (cells : List Cell) → summary_by Simple k program o s p m what cells ≡ no_summary
unfolding summary_by
silent_simply k program o s p m what cells = refl

pub silent_behind :
    (rules : Rules) (k : Stack) (program : Program) (o : Op) (s : AbsState) (p : Product) (m : StackMove) (what : AbsWrite) (cells : List Cell)
    → stays_silent rules program m s.summary ≡ true → summary_by rules k program o s p m what cells ≡ s.summary
unfolding stays_silent
silent_behind rules k program o s p m what cells h =
    let both = both_of (tells_nothing rules program.kind) (not (puts_aside m) && is_silent s.summary) h in
    let more = both_of (not (puts_aside m)) (is_silent s.summary) both.1 in
    by rules both.0 (not_of (puts_aside m) more.0) (silent_is s.summary more.1)
  where
    rom : (q : Kind) → tells_nothing Extended q ≡ true → q ≡ kind.Rom
    rom kind.Rom e = refl
    rom kind.Mbc1 e = cc
    rom kind.Mbc3 e = cc
    rom kind.Mbc5 e = cc

    by : (r : Rules) → tells_nothing r program.kind ≡ true → puts_aside m ≡ false → s.summary ≡ no_summary → summary_by r k program o s p m what cells ≡ s.summary
    by Simple e none quiet = silent_simply k program o s p m what cells ∙ sym quiet
    by Extended e none quiet = silent_by Extended k program o s p m what cells (rom program.kind e) none quiet ∙ sym quiet

-- ---- where it is said alone how many facts hold

level_is : (m : SummaryParts) → is_level_alone m ≡ true → m ≡ level_alone m.level
level_is m h =
    let fills = both_of (length m.fills == 0) _ h in
    let first = both_of (is_unshadowed m.shadows.first) _ fills.1 in
    let second = both_of (is_unshadowed m.shadows.second) _ first.1 in
    ap (λ fs. record m { fills = fs }) (no_length m.fills (eqb-true (length m.fills) 0 fills.0))
    ∙ (ap (λ s. record { level = m.level; fills = []; shadows = record m.shadows { first = s }; aside = m.aside }) (unshadowed_is m.shadows.first first.0)
    ∙ (ap (λ s. record { level = m.level; fills = []; shadows = record { first = no_shadows; second = s }; aside = m.aside }) (unshadowed_is m.shadows.second second.0)
    ∙ ap (λ o. record { level = m.level; fills = []; shadows = no_bank_shadows; aside = o }) (none_is m.aside second.1)))

level_registers : (region : Region) (o : Op) (sp : Bounds) (v : Values) (n : ℕ) → after_registers region o sp v (level_alone n) ≡ level_alone n
unfolding after_registers fills_moved
level_registers region o sp v n = ap (λ s. record { level = n; fills = []; shadows = record { first = s; second = s }; aside = None }) (none_after region o v)

level_after_none :
    (program : Program) (region : Region) (cells : List Cell) (o : Op) (sp : Bounds) (v : Values) (b : OneByte) (w : InstructionStore) (n : ℕ)
    → w ≡ stored.Nothing → summary_after program region cells o sp v b w (level_alone n) ≡ level_alone n
unfolding summary_after
level_after_none program region cells o sp v b w n e =
    ap (λ w. after_registers region o sp v (after_write program region cells o b w (level_alone n))) e ∙ level_registers region o sp v n

nothing_stored : (o : Op) (r : Registers Val) (what : AbsWrite) → stores_nothing what ≡ true → stored_by o r what ≡ stored.Nothing
unfolding stored_by
nothing_stored o r (write.Byte span v) h = cc
nothing_stored o r (write.Word a low high) h = cc
nothing_stored o r what h = refl

level_by :
    (k : Stack) (program : Program) (o : Op) (s : AbsState) (p : Product) (m : StackMove) (what : AbsWrite) (cells : List Cell) (n : ℕ)
    → stores_nothing what ≡ true → puts_aside m ≡ false → s.summary ≡ level_alone n → summary_by Extended k program o s p m what cells ≡ level_alone n
unfolding summary_by
level_by k program o s p m what cells n nothing none is =
    let sp = sp_bounds k.setting s in
    let values = values_of p.core.registers p.relations.pairs in
    let byte = places_outside k.region p.relations.byte in
    let stores = stored_by o p.core.registers what in
    ap (λ (t : SummaryParts). with_aside (aside_behind m t.aside) (summary_after program k.region cells o sp values byte stores (with_aside None t))) is
    ∙ (ap (λ a. with_aside a (summary_after program k.region cells o sp values byte stores (level_alone n))) (silent_aside m none)
    ∙ ap (with_aside None) (level_after_none program k.region cells o sp values byte stores n (nothing_stored o p.core.registers what nothing)))

pub level_behind :
    (rules : Rules) (k : Stack) (program : Program) (o : Op) (s : AbsState) (p : Product) (m : StackMove) (what : AbsWrite) (cells : List Cell)
    → keeps_level rules m what s.summary ≡ true → summary_by rules k program o s p m what cells ≡ s.summary
unfolding keeps_level
level_behind Simple k program o s p m what cells h = cc
level_behind Extended k program o s p m what cells h =
    let stores = both_of (stores_nothing what) (not (puts_aside m) && is_level_alone s.summary) h in
    let more = both_of (not (puts_aside m)) (is_level_alone s.summary) stores.1 in
    let is = level_is s.summary more.1 in
    level_by k program o s p m what cells s.summary.level stores.0 (not_of (puts_aside m) more.0) is ∙ sym is
