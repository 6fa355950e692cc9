-- What a caller goes on with holds of the machine, whatever its callee did.
use Rattle.std.proofs.Common.{◌≡◌, ℕ, ◌+◌, ◌-◌, ◌≤◌, ◌<◌, Bool, true, false, nat_le, ◌&&◌, ◌||◌, not, cond, List, [], ◌∷◌, length, map, Option, Some, None, inl, inr, refl, sym, ◌∙◌, ap, subst, arith}
use Rattle.std.proofs.lemmas.Bool.{and_parts, or_cases, or_from}
use Rattle.std.proofs.lemmas.List.{length-map}
use Rattle.std.proofs.lemmas.Option.{same_Some}
use Rattle.std.specs.Prelude.{IfSome, option_map, option_and_then}
use Rattle.std.proofs.lemmas.Bool.Decides.{nat_tests}
use Rattle.std.specs.List.{AllByRecursion, filter, list_all, list_any}
use Rattle.gb_ops.specs.declared.machine.Region.{Region}
use Rattle.gb_ops.specs.declared.op.Register.{Register}
use Rattle.gb_ops.specs.declared.op.Register.TheVariants.{A, B, C, D, E, H, L}
use Rattle.gb_ops.specs.declared.registers.Registers.{Registers}
use Rattle.gb_ops.specs.Registers.{get}
use Rattle.gb_ops.specs.Memory.{Storage}
use Rattle.gb_ops.specs.Play.{MState}
use Rattle.gb_domain.specs.declared.types.Origin.TheVariants as origin
use Rattle.gb_domain.specs.declared.types.Val.{Val}
use Rattle.gb_domain.specs.declared.types.Ctl.{Ctl}
use Rattle.gb_domain.specs.declared.types.Cell.{Cell}
use Rattle.gb_domain.specs.declared.types.Core.{Core}
use Rattle.gb_domain.specs.declared.setting.Setting.{Setting}
use Rattle.gb_domain.specs.declared.places.StackBytes.{StackBytes}
use Rattle.gb_domain.specs.Settings.{IsBase}
use Rattle.gb_product.specs.Held.{stack_held, held_relations}
use Rattle.gb_product.proofs.HeldLaws.{item_among, free_byte_at, related_held, held_placed}
use Rattle.gb_product.proofs.Below.gb_relations_laws.AddressLaws.{placed-ram}
use Rattle.gb_domain.specs.declared.types.Range.{Range}
use Rattle.gb_domain.specs.declared.rules.Rules.{Rules}
use Rattle.gb_domain.specs.declared.rules.Rules.TheVariants.{Simple, Extended}
use Rattle.gb_domain.specs.declared.relations.Relations.{Relations}
use Rattle.gb_domain.specs.declared.pairs.Link.{Link}
use Rattle.gb_domain.specs.declared.pairs.Other.{Other}
use Rattle.gb_domain.specs.declared.pairs.Other.TheVariants as other
use Rattle.gb_domain.specs.declared.pairs.WordPair.{WordPair}
use Rattle.gb_domain.specs.declared.pairs.WordPair.TheVariants as pair
use Rattle.gb_domain.specs.Pairs.{facts_of, IsReadAt, IsLink, ArePairs}
use Rattle.gb_domain.specs.Types.{AbsState, origin_of_register}
use Rattle.gb_domain.specs.Limits.{cell_room, item_room}
use Rattle.gb_domain.specs.Places.{no_byte}
use Rattle.gb_domain.specs.Rules.{IsCore}
use Rattle.gb_domain.specs.Summaries.{Program, SummaryParts}
use Rattle.gb_ops.specs.declared.machine.Kind.{Kind}
use Rattle.gb_product.specs.Below.gb_pairs.declared.values.Values.{Values}
use Rattle.gb_product.specs.Below.gb_pairs.Meaning.{AreBytes, Holds as HoldsValues}
use Rattle.gb_product.specs.Below.gb_pairs.Reduced.{reduced}
use Rattle.gb_product.specs.Below.gb_pairs.Sound.{AreWithin, HoldsIn, IsCut}
use Rattle.gb_product.proofs.Below.gb_pairs_laws.CutLaws.{reduced_cuts}
use Rattle.gb_product.proofs.Below.gb_pairs_laws.ReducedLaws.{reduced_sound}
use Rattle.gb_product.specs.Below.gb_relations.Places.{is_free}
use Rattle.gb_product.specs.Below.gb_summaries.Below.gb_ram_bounds.Returned.{is_in_ranges as lies_in_ranges}
use Rattle.gb_product.specs.Below.gb_summaries.Returning.{is_given, is_byte_kept, GivesBack}
use Rattle.gb_calls.specs.Resuming.{given_by, with_controller, with_banks_cut, summary_back}
use Rattle.gb_calls.proofs.CellsBackLaws.{same_ranges}
use Rattle.gb_calls.proofs.SummaryBackLaws.{same_window, HoldSummary-back}
use Rattle.gb_product.specs.Below.gb_relations.declared.returned.Kept.{Kept}
use Rattle.gb_product.specs.Below.gb_relations.Returned as Returned
use Rattle.gb_product.specs.Below.gb_relations.Returned.{returned}
use Rattle.gb_product.specs.Below.gb_relations.Sound.{IsBytePlaced}
use Rattle.gb_product.specs.Below.gb_relations.Transfer.{values_of}
use Rattle.gb_product.proofs.Below.gb_relations_laws.ReturnLaws.{returned_sound}
use Rattle.gb_product.specs.Below.gb_copies.Meaning.{HoldOneByte}
use Rattle.gb_product.specs.Below.gb_relations.Compared.{only_of_a}
use Rattle.gb_product.proofs.Below.gb_relations_laws.ComparedLaws.{HoldOneByte-nothing, HoldOneByte-only_of_a}
use Rattle.gb_product.proofs.Below.gb_relations_laws.TransferLaws.{HoldPairs-nothing}
use Rattle.gb_domain.specs.Areas.{IsRegion, is_free_byte, meets, is_item, is_place_at, are_in_ram}
use Rattle.gb_product.specs.Below.gb_abs.Span.{one}
use Rattle.gb_product.specs.Below.gb_abs.Cells.{IsPlaced, ArePlaced}
use Rattle.gb_product.specs.Below.gb_abs.Meaning.{Activation, Holds, KeepsBanks, HoldsController, MeansCore, AreItems, IsMemory}
use Rattle.gb_product.proofs.Below.gb_summaries_laws.MeaningLaws.{nothing_holds}
use Rattle.gb_domain.specs.declared.pairs.PairBounds.{PairBounds}
use Rattle.gb_product.specs.Covering.{read_in, read_by}
use Rattle.gb_product.specs.Meaning.{entered_with, beside, Means}
use Rattle.gb_product.specs.Below.gb_abs.Storage.{peek, is_ram}
use Rattle.gb_product.proofs.Below.gb_abs_laws.CellLaws.{AllByRecursion-where}
use Rattle.gb_product.proofs.Below.gb_abs_laws.CoveringLaws.{AreCells}
use Rattle.gb_product.proofs.Below.gb_abs_effects_laws.CoreLaws.{byte-of, In-from}
use Rattle.gb_product.proofs.Below.gb_abs_laws.StorageLaws.{region_in_ram, placed_in_ram, AreItems-same}
use Rattle.gb_abs_memory.specs.Access.{is_range}
use Rattle.gb_abs_memory.specs.Kept.{keeps, IsKept}
use Rattle.gb_product.specs.Below.gb_abs.Origins.{is_own}
use Rattle.gb_product.proofs.Below.gb_abs_laws.OriginLaws.{origin_value-of_register}
use Rattle.gb_calls.specs.declared.resuming.Resumed.{Resumed}
use Rattle.gb_calls.specs.declared.resuming.Resumed.TheVariants.{Nothing, States, TooDeep}
use Rattle.gb_calls.specs.Resuming.{cell_of, is_read_kept, core_back, is_address_in, is_in_ranges, is_out_of_ranges, merged, given_addresses, byte_back, cells_back, unknown_program, resumed_alone, own_by_register, kept_by, rejoined, with_values, with_values_if, reduced_state, are_registers_left, is_cell_left, are_all_left, is_something, waiting_stack, resumed_by, IsTooDeep, IsResumed}
use Rattle.gb_calls.specs.Told.{is_left, val_back, cell_back}
use Rattle.gb_calls.specs.Sound.{ComesBack, HandsBack, ComesBackBy, MeansIf, MeansResumed, ReducesSoundly, IsSoundResuming}
use Rattle.gb_calls.specs.TakenOver.{base_below, given_back_items}
use Rattle.gb_calls.proofs.ReturnedLaws.{ArePairs-returned}
use Rattle.gb_calls.proofs.EnteringLaws.{MeansCore-with_word}
use Rattle.gb_calls.proofs.TakenOverLaws.{given_back-items, given_back-pointer, given_back-count}
use Rattle.gb_calls.proofs.ToldLaws.{IsCaller, IsTold-exit, Tells, own-value, AreItems-back, AreCells-back, IsGiven-back}
use Rattle.gb_calls.proofs.CellLaws.{AllByRecursion-merged, AllByRecursion-take}
use Rattle.gb_product.specs.Covering.{values_in}
use Rattle.gb_product.specs.Reduced.{reduced_controller}
use Rattle.gb_product.specs.Sound.{HoldsControllerIf}
use Rattle.gb_product.proofs.ControllerLaws.{reduced_controller_sound}
use Rattle.gb_product.proofs.CoveringLaws.{HoldsKnown-means, AreReadIn-means, AreCopies-core}
use Rattle.gb_calls.proofs.CoreBackLaws.{both, MeansCore-resumed}

-- ---- what is kept

not_in_ranges : (b : Bool) → cond b false true ≡ true → b ≡ false
not_in_ranges true h = cc
not_in_ranges false h = refl

IsKept-cell :
    (z : Setting) (region : Region) (ranges : List Range) (base : ℕ) (c : Cell)
    → keeps z ≡ true → is_out_of_ranges ranges c ≡ true → IsPlaced region c → IsKept z region ranges base c.address
IsKept-cell z region ranges base c does out p =
    record {
      procedure = does;
      ram = placed_in_ram region c p;
      outside = not_in_ranges (is_in_ranges ranges c) out;
      above = λ m. let apart = p.apart in absurd (cc);
    }

apart-range : (region : Region) (r : Range) (b : ℕ) → region.first ≤ b → b ≤ region.last → meets region r.first r.last ≡ false → is_range (one b) r ≡ false
apart-range region r b low high h = grind (arith, nat_tests)

apart-ranges :
    (region : Region) (ranges : List Range) (b : ℕ) → region.first ≤ b → b ≤ region.last
    → AllByRecursion (λ r. meets region r.first r.last ≡ false) ranges → list_any (is_range (one b)) ranges ≡ false
apart-ranges region [] b low high h = refl
apart-ranges region (r ∷ ranges) b low high h =
    or_from (is_range (one b) r) (list_any (is_range (one b)) ranges) (apart-range region r b low high h.0) (apart-ranges region ranges b low high h.1)

-- a byte of the stack is kept that isn't below the base
IsKept-stack :
    (z : Setting) (region : Region) (ranges : List Range) (base b : ℕ)
    → keeps z ≡ true → IsRegion region → AllByRecursion (λ r. meets region r.first r.last ≡ false) ranges
    → region.first ≤ b → b ≤ region.last → base ≤ b → IsKept z region ranges base b
IsKept-stack z region ranges base b does is apart low high above =
    record { procedure = does; ram = region_in_ram region b is low high; outside = apart-ranges region ranges b low high apart; above = λ m. above }

-- ---- cells

AreCells-where : (test : Cell → Bool) (cells : List Cell) (entry : Activation) (m : Storage) → AreCells cells entry m → AreCells (filter test cells) entry m
AreCells-where test cells entry m h =
    AllByRecursion-where (λ c. Holds c.val entry (peek m c.address)) (λ c. Holds c.val entry (peek m c.address)) (λ c. Holds c.val entry (peek m c.address))
    test (λ c e p q. p) cells h h

AreCells-kept :
    (z : Setting) (region : Region) (ranges : List Range) (base : ℕ) (cells : List Cell) (entry : Activation) (m t : Storage)
    → keeps z ≡ true → ((b : ℕ) → IsKept z region ranges base b → peek t b ≡ peek m b) → ArePlaced region cells → AreCells cells entry m
    → AreCells (filter (is_out_of_ranges ranges) cells) entry t
AreCells-kept z region ranges base cells entry m t does kept placed h =
    AllByRecursion-where (IsPlaced region) (λ c. Holds c.val entry (peek m c.address)) (λ c. Holds c.val entry (peek t c.address)) (is_out_of_ranges ranges)
    (λ c out p k. subst (λ n. Holds c.val entry n) (sym (kept c.address (IsKept-cell z region ranges base c does out p))) k)
    cells placed h

AreCells-joined :
    (room : ℕ) (program : Program) (whole : Bool) (names : List ℕ) (s : AbsState) (z : Setting) (region : Region) (ranges : List Range) (base : ℕ)
    (exit : List Cell) (entry called : Activation) (m t : Storage)
    → Tells program whole names s entry called → IsMemory t → keeps z ≡ true → ((b : ℕ) → IsKept z region ranges base b → peek t b ≡ peek m b)
    → ArePlaced region s.cells → AreCells s.cells entry m → AreCells exit called t
    → AreCells (cells_back room (cell_back program whole names s) ranges s.cells exit) entry t
unfolding cells_back
AreCells-joined room program whole names s z region ranges base exit entry called m t tells is does kept placed h k =
    let inside = map (cell_back program whole names s) (filter (is_in_ranges ranges) exit) in
    let out = filter (is_out_of_ranges ranges) s.cells in
    AllByRecursion-take (λ c. Holds c.val entry (peek t c.address)) room (merged inside out)
    (AllByRecursion-merged (λ c. Holds c.val entry (peek t c.address)) inside out
    (AreCells-back program whole names s (filter (is_in_ranges ranges) exit) entry called t tells is (AreCells-where (is_in_ranges ranges) exit called t k))
    (AreCells-kept z region ranges base s.cells entry m t does kept placed h))

-- ---- what is known together

registers_are_bytes : (c : Core) (entry : Activation) (x : MState) → IsCore c → MeansCore c entry x → AreBytes x.processor.registers
registers_are_bytes c entry x is m =
    record { each = λ r. let k : Holds (get r c.registers) entry (get r x.processor.registers) = m.registers r in let v = is.registers r in let most = k.most in let hi = v.hi in omega arith }

HoldOneByte-back :
    (s exit : AbsState) (called : Activation) (x : MState) → HoldOneByte s.relations.byte called.entered.processor.registers (peek called.entered.storage) called.entered.processor.flags
    → MeansCore exit.core called x → HoldOneByte (byte_back s exit) x.processor.registers (peek x.storage) x.processor.flags
HoldOneByte-back s exit called x holds h = choose (is_own origin.A exit.core.registers.a) exit.core.flags.is_own refl refl
  where
    choose : (p q : Bool) → is_own origin.A exit.core.registers.a ≡ p → exit.core.flags.is_own ≡ q
        → HoldOneByte (cond (p && q) (only_of_a s.relations.byte) no_byte) x.processor.registers (peek x.storage) x.processor.flags
    choose true true is own =
        HoldOneByte-only_of_a s.relations.byte called.entered.processor.registers x.processor.registers (peek called.entered.storage) (peek x.storage) called.entered.processor.flags x.processor.flags
        (own-value origin.A exit.core.registers.a called x.processor.registers.a is (h.registers A)) (h.flags.own own) holds
    choose true false is own = HoldOneByte-nothing _ _ _
    choose false q is own = HoldOneByte-nothing _ _ _

-- what the exit gives back is kept
register_own : (s : Registers Val) (r : Register) → get r (own_by_register s) ≡ is_own (origin_of_register r) (get r s)
register_own s A = refl
register_own s B = refl
register_own s C = refl
register_own s D = refl
register_own s E = refl
register_own s H = refl
register_own s L = refl

IsKept-address :
    (z : Setting) (region : Region) (ranges : List Range) (base a : ℕ)
    → keeps z ≡ true → is_address_in ranges a ≡ false → is_free region a ≡ true → IsKept z region ranges base a
IsKept-address z region ranges base a does out free =
    let parts = and_parts (is_ram a) (not (meets region a a)) free in
    record { procedure = does; ram = parts.0; outside = out; above = λ m. absurd (apart (meets region a a) parts.1 m) }
  where
    apart : (b : Bool) → not b ≡ true → b ≡ true → ⊥
    apart true h k = cc
    apart false h k = cc

none_of : (b : Bool) → not b ≡ true → b ≡ false
none_of true h = cc
none_of false h = refl

-- an item that waits isn't below the callee's base
above_callee : (z : Setting) (region : Region) (w a base : ℕ) → IsBase z base → (not (meets region a a) || is_item (stack_held z region w).base w a) ≡ true → meets region a a ≡ true → base - w ≤ a
above_callee z region w a base right h m = choose (meets region a a) h m
  where
    choose : (b : Bool) → (not b || is_item (stack_held z region w).base w a) ≡ true → b ≡ true → base - w ≤ a
    choose true h m =
        let above = (item_among z region w a base right h).above in
        omega arith
    choose false h m = cc

placed_parts : (z : Setting) (region : Region) (w a : ℕ) → is_place_at (stack_held z region w) a ≡ true → (not (meets region a a) || is_item (stack_held z region w).base w a) ≡ true
unfolding stack_held
placed_parts z region w a h = (and_parts (nat_le a a && are_in_ram a a) (not (meets region a a) || is_item (cond z.is_whole z.base 0) w a) h).1

-- a place in the stack isn't below the items
pub place_above : (z : Setting) (region : Region) (w a base : ℕ) → IsBase z base → is_place_at (stack_held z region w) a ≡ true → meets region a a ≡ true → base - w ≤ a
place_above z region w a base right place m = above_callee z region w a base right (placed_parts z region w a place) m

-- it stands where the caller's base is right, so many of its items wait, and the callee keeps what isn't its own
record IsKeptBy (z callee : Setting) (region : Region) (base w under : ℕ) : Type 0 where
  based : IsBase z base
  under_is : under ≡ base - w
  does : keeps callee ≡ true

IsKept-place :
    (z callee : Setting) (region : Region) (ranges : List Range) (base w under a : ℕ)
    → IsKeptBy z callee region base w under → is_address_in ranges a ≡ false → is_place_at (stack_held z region w) a ≡ true → IsKept callee region ranges under a
IsKept-place z callee region ranges base w under a k out place =
    record {
      procedure = k.does;
      ram = placed-ram (stack_held z region w) a place;
      outside = out;
      above = λ m. subst (λ n. n ≤ a) (sym k.under_is) (place_above z region w a base k.based place m);
    }

address_kept :
    (z callee : Setting) (region : Region) (ranges : List Range) (base w under : ℕ) (addresses : List ℕ) (address : Option ℕ) (m t : Storage)
    → IsKeptBy z callee region base w under → ((b : ℕ) → IsKept callee region ranges under b → peek t b ≡ peek m b) → ((b : ℕ) → is_given addresses b ≡ true → peek t b ≡ peek m b)
    → IsBytePlaced (stack_held z region w) address → is_byte_kept ranges addresses address ≡ true → (a : ℕ) → address ≡ Some a → peek t a ≡ peek m a
address_kept z callee region ranges base w under addresses None m t k kept given place e a is = absurd (cc)
address_kept z callee region ranges base w under addresses (Some b) m t k kept given place e a is =
    subst (λ n. peek t n ≡ peek m n) (same_Some b a is)
    (elim (or_cases (not (lies_in_ranges ranges b)) (is_given addresses b) e) [
      | inl out ↦ kept b (IsKept-place z callee region ranges base w under b k (same_ranges ranges b ∙ none_of (lies_in_ranges ranges b) out) place)
      | inr back ↦ given b back
    ])

-- a byte that a link reads is as it was, where it is kept
read_kept :
    (z callee : Setting) (region : Region) (ranges : List Range) (base w under : ℕ) (addresses : List ℕ) (l : Option Link) (m t : Storage)
    → IsKeptBy z callee region base w under → ((b : ℕ) → IsKept callee region ranges under b → peek t b ≡ peek m b) → ((b : ℕ) → is_given addresses b ≡ true → peek t b ≡ peek m b)
    → IfSome l (IsLink (is_free_byte region)) → is_read_kept ranges addresses l ≡ true → Returned.IsReadSame l (peek m) (peek t)
read_kept z callee region ranges base w under addresses None m t k kept given link e = tt
read_kept z callee region ranges base w under addresses (Some l) m t k kept given link e = by l.other link.other e
  where
    by : (o : Other) → IsReadAt (is_free_byte region) o → is_byte_kept ranges addresses (cell_of o) ≡ true → Returned.IsOtherSame o (peek m) (peek t)
    by (other.Register r) free is = tt
    by (other.Pair p) free is = tt
    by (other.Cell a) free is =
        address_kept z callee region ranges base w under addresses (Some a) m t k kept given (free_byte_at z region w a free) is a refl
    by other.Nothing free is = tt

Returned-kept :
    (z callee : Setting) (region : Region) (ranges : List Range) (base w under : ℕ) (addresses : List ℕ) (known : Relations) (exit : AbsState) (called : Activation) (x : MState)
    → IsKeptBy z callee region base w under → ((b : ℕ) → IsKept callee region ranges under b → peek x.storage b ≡ peek called.entered.storage b)
    → ((b : ℕ) → is_given addresses b ≡ true → peek x.storage b ≡ peek called.entered.storage b) → IsBytePlaced (stack_held z region w) known.byte.address → ArePairs (is_free_byte region) known.pairs
    → MeansCore exit.core called x
    → Returned.IsKept (kept_by ranges addresses known exit.core) known called.entered.processor.registers x.processor.registers
    (peek called.entered.storage) (peek x.storage) called.entered.processor.flags x.processor.flags
Returned-kept z callee region ranges base w under addresses known exit called x k kept given place pairs h =
    record {
      registers = λ r is. own-value (origin_of_register r) (get r exit.core.registers) called (get r x.processor.registers)
          (sym (register_own exit.core.registers r) ∙ is) (h.registers r)
          ∙ origin_value-of_register r called;
      memory = λ out a is. address_kept z callee region ranges base w under addresses known.byte.address called.entered.storage x.storage k kept given place out a is;
      read = λ p is. read_kept z callee region ranges base w under addresses (facts_of p known.pairs).link called.entered.storage x.storage k kept given (pairs.each p).link
          (is_kept_of p is);
      flags = λ is. h.flags.own is;
    }
  where
    is_kept_of : (p : WordPair) → Returned.is_read_kept p (kept_by ranges addresses known exit.core) ≡ true → is_read_kept ranges addresses (facts_of p known.pairs).link ≡ true
    is_kept_of pair.Bc is = is
    is_kept_of pair.De is = is
    is_kept_of pair.Hl is = is

-- ---- by the rules of versions 1 and 2

-- the callee has come back: what its caller goes on with holds
pub Means-resumed_alone :
    (region : Region) (ranges : List Range) (s exit : AbsState) (entry : Activation) (base : ℕ) (called : Activation) (x : MState)
    → ComesBack region ranges s exit entry base called x → Means (resumed_alone ranges s exit) entry base x
unfolding resumed_alone
Means-resumed_alone region ranges s exit entry base called x h =
    let stack : called.entered.processor.sp + 2 + length s.items ≡ base = h.caller.parts.stack h.located in
    let none : length exit.items ≡ 0 = ap length h.exit_items in
    let back : x.processor.sp + length exit.items ≡ called.entered.processor.sp + 2 = h.exits.parts.stack h.exit_located in
    let first = h.room.first in
    let last = h.room.last in
    record {
      parts = record {
        core = MeansCore-resumed unknown_program false [] s exit.core entry called x h.caller_unknown h.callee_unknown h.exit_core (λ e. absurd (cc))
            (MeansCore-with_word s.core entry called.entered h.caller.parts.core) h.exits.parts.core;
        memory = h.exits.parts.memory;
        sp = h.exits.parts.sp;
        stack = λ e. omega arith;
        items = AreItems-same s.items entry (called.entered.processor.sp + 2) base called.entered.storage x.storage (omega arith)
            (λ b low high. h.kept b (IsKept-stack h.callee region ranges called.entered.processor.sp b h.keeps h.is_region h.apart (omega arith) (omega arith) (omega arith)))
            h.caller.parts.items;
        cells = AreCells-joined (cell_room Simple) unknown_program false [] s h.callee region ranges called.entered.processor.sp exit.cells entry called called.entered.storage x.storage
            (λ e. absurd (cc)) h.exits.parts.memory h.keeps h.kept h.placed h.caller.parts.cells h.exits.parts.cells;
      };
      related = record {
        byte = HoldOneByte-back s exit called x h.caller.related.byte h.exits.parts.core;
        zero = tt;
        pairs = HoldPairs-nothing (beside entry x) x.processor.registers (registers_are_bytes exit.core called x h.exit_core h.exits.parts.core);
      };
      summary = nothing_holds entry.program _ x.processor (peek x.storage) x.storage.banks;
    }

-- ---- by the rules of version 3

HoldsValues-caller : (s : AbsState) (entry : Activation) (base : ℕ) (x : MState) → Means s entry base x → HoldsValues (values_of s.core.registers s.relations.pairs) (beside entry x) x.processor.registers
HoldsValues-caller s entry base x m =
    record {
      registers = λ r. record { least = (m.parts.core.registers r).least; most = (m.parts.core.registers r).most; low = (m.parts.core.registers r).low };
      pairs = m.related.pairs;
    }

-- what the exit gives back of what is said of the whole program is what it was
GivesBack-exit :
    (k : Kind) (z : Setting) (region : Region) (ranges : List Range) (base : ℕ) (addresses : List ℕ) (exit : AbsState) (called : Activation) (x : MState)
    → called.program.kind ≡ k → keeps z ≡ true → ((b : ℕ) → IsKept z region ranges base b → peek x.storage b ≡ peek called.entered.storage b)
    → ((b : ℕ) → is_given addresses b ≡ true → peek x.storage b ≡ peek called.entered.storage b) → MeansCore exit.core called x
    → GivesBack k region ranges (given_by exit.core) addresses called.entered.processor x.processor (peek called.entered.storage) (peek x.storage) called.entered.storage.banks x.storage.banks
GivesBack-exit k z region ranges base addresses exit called x of does kept given h =
    record {
      registers = λ r is. own-value (origin_of_register r) (get r exit.core.registers) called (get r x.processor.registers)
          (sym (register_own exit.core.registers r) ∙ is) (h.registers r)
          ∙ origin_value-of_register r called;
      windows = λ which is. same_window k which exit.core.ctl.kept called.entered.storage.banks x.storage.banks
          (subst (λ q. KeepsBanks q exit.core.ctl.kept called.entered.storage.banks x.storage.banks) of h.controller.kept) is;
      outside = λ a free out. kept a (IsKept-address z region ranges base a does (same_ranges ranges a ∙ out) free);
      given = given;
    }

IsCaller-handed :
    (program : Program) (z : Setting) (k : ℕ) (region : Region) (ranges : List Range) (names : List ℕ) (s exit : AbsState) (entry : Activation) (base : ℕ) (called : Activation) (x : MState)
    → HandsBack program z k region ranges names s exit entry base called x → IsCaller program names s entry base called
IsCaller-handed program z k region ranges names s exit entry base called x h =
    record { means = h.begins.caller; located = h.begins.located; program_is = h.caller_program; names = h.names }

-- the waiting items stand, the exit's behind them
pub Means-rejoined :
    (program : Program) (z : Setting) (k : ℕ) (region : Region) (ranges : List Range) (names : List ℕ) (s exit : AbsState) (entry : Activation) (base : ℕ) (called : Activation) (x : MState)
    → HandsBack program z k region ranges names s exit entry base called x → Means (rejoined program z.is_whole (waiting_stack z region k s) k ranges names s exit) entry base x
unfolding rejoined
Means-rejoined program z k region ranges names s exit entry base called x h =
    let whole = z.is_whole in
    let waits = length s.items - k in
    let waiting = waiting_stack z region k s in
    let known = held_relations waiting s.relations in
    let first = h.room.first in
    let last = h.room.last in
    let caller = h.begins.caller in
    let under : ℕ = base_below k s.items base in
    let back = map (val_back program whole names s) exit.items in
    let count : length back ≡ length exit.items = length-map exit.items (val_back program whole names s) in
    let left : x.processor.sp + length exit.items ≡ under = h.exits.parts.stack h.exit_located in
    let tells : Tells program whole names s entry called =
    λ e. IsTold-exit program names s entry base called (IsCaller-handed program z k region ranges names s exit entry base called x h) in
    let given = IsGiven-back names exit.cells called x.storage h.exits.parts.memory h.exits.parts.cells h.names in
    record {
      parts = record {
        core = MeansCore-resumed program whole names s exit.core entry called x (ap (λ p. p.kind) h.caller_program) (ap (λ p. p.kind) h.callee_program) h.exit_core tells caller.parts.core h.exits.parts.core;
        memory = h.exits.parts.memory;
        sp = h.exits.parts.sp;
        stack = λ e. given_back-pointer k s.items back base x.processor.sp h.begins.few (omega arith) (omega arith);
        items = given_back-items k s.items back entry base called.entered.storage x.storage h.begins.few (omega arith) caller.parts.items
            (λ b low high. h.kept b (IsKept-stack h.callee region ranges under b h.keeps h.is_region h.apart (omega arith) (omega arith) low))
            (AreItems-back program whole names s exit.items entry called under x.storage tells h.exits.parts.memory h.exits.parts.items);
        cells = AreCells-joined (cell_room Extended) program whole names s h.callee region ranges under exit.cells entry called called.entered.storage x.storage
            tells h.exits.parts.memory h.keeps h.kept h.placed.cells caller.parts.cells h.exits.parts.cells;
      };
      related = (returned_sound (kept_by ranges (given_addresses names exit.cells) known exit.core) s.core.registers known exit.relations _ refl).gives
          (entered_with entry) called.entered.processor.registers x.processor.registers (peek called.entered.storage) (peek x.storage) called.entered.processor.flags x.processor.flags
          (Returned-kept z h.callee region ranges base waits under (given_addresses names exit.cells) known exit called x
          (record { based = h.based; under_is = refl; does = h.keeps }) h.kept given (held_placed z region (length s.items) waits s.relations.byte h.placed.byte) h.placed.links h.exits.parts.core)
          (registers_are_bytes exit.core called x h.exit_core h.exits.parts.core)
          (record { within = λ q. In-from (get q s.core.registers) entry (get q called.entered.processor.registers) (caller.parts.core.registers q); copies = AreCopies-core s.core entry called.entered caller.parts.core })
          (related_held waiting s.relations entry called.entered caller.related) h.exits.related;
      summary = HoldSummary-back program whole region ranges names s exit entry called (beside entry called.entered) x h.caller_program h.callee_program h.facts h.placed.summary h.exit_free
          (HoldsValues-caller s entry base called.entered caller)
          (GivesBack-exit program.kind h.callee region ranges under (given_addresses names exit.cells) exit called x (ap (λ p. p.kind) h.callee_program) h.keeps h.kept given h.exits.parts.core)
          caller.summary h.exits.summary;
    }

-- ---- something is left of each value

are_left : (program : Program) (names : List ℕ) (s : AbsState) (items : List Val) (entry called : Activation) (top : ℕ) (m : Storage)
    → ((v : Val) (n : ℕ) → n ≤ 255 → Holds v called n → is_left program names s v ≡ true) → IsMemory m → AreItems items called top m
    → list_all (is_left program names s) items ≡ true
are_left program names s [] entry called top m t is h = refl
are_left program names s (v ∷ items) entry called top m t is h =
    both (is_left program names s v) (list_all (is_left program names s) items) (t v (peek m (top - 1)) (is.bytes (top - 1)) h.0)
    (are_left program names s items entry called (top - 1) m t is h.1)

are_cells_left : (program : Program) (names : List ℕ) (ranges : List Range) (s : AbsState) (cells : List Cell) (called : Activation) (m : Storage)
    → ((v : Val) (n : ℕ) → n ≤ 255 → Holds v called n → is_left program names s v ≡ true) → IsMemory m → AreCells cells called m
    → list_all (is_cell_left program names ranges s) cells ≡ true
are_cells_left program names ranges s [] called m t is h = refl
are_cells_left program names ranges s (c ∷ cells) called m t is h =
    both (is_cell_left program names ranges s c) (list_all (is_cell_left program names ranges s) cells)
    (or_second (not (is_in_ranges ranges c)) (is_left program names s c.val) (t c.val (peek m c.address) (is.bytes c.address) h.0))
    (are_cells_left program names ranges s cells called m t is h.1)
  where
    or_second : (a b : Bool) → b ≡ true → (a || b) ≡ true
    or_second true b e = refl
    or_second false b e = e

-- where the callee comes back something is meant
something_left :
    (program : Program) (whole : Bool) (z : Setting) (k : ℕ) (region : Region) (ranges : List Range) (names : List ℕ) (s exit : AbsState) (entry : Activation) (base : ℕ) (called : Activation) (x : MState)
    → HandsBack program z k region ranges names s exit entry base called x → is_something program whole names ranges s exit ≡ true
unfolding are_all_left
something_left program false z k region ranges names s exit entry base called x h = refl
something_left program true z k region ranges names s exit entry base called x h =
    both _ _ (both _ _ (both _ _ registers (t exit.core.ie x.storage.ie (byte-of exit.core.ie called x.storage.ie core.ie m.ie) m.ie))
    (are_left program names s exit.items entry called (base_below k s.items base) x.storage t h.exits.parts.memory h.exits.parts.items))
    (are_cells_left program names ranges s exit.cells called x.storage t h.exits.parts.memory h.exits.parts.cells)
  where
    core : IsCore exit.core
    core = h.exit_core

    m : MeansCore exit.core called x
    m = h.exits.parts.core

    t : (v : Val) (n : ℕ) → n ≤ 255 → Holds v called n → is_left program names s v ≡ true
    t v n byte holds = (IsTold-exit program names s entry base called (IsCaller-handed program z k region ranges names s exit entry base called x h) v n byte holds).left

    one : (r : Register) → is_left program names s (get r exit.core.registers) ≡ true
    one r = t (get r exit.core.registers) (get r x.processor.registers) (byte-of (get r exit.core.registers) called (get r x.processor.registers) (core.registers r) (m.registers r)) (m.registers r)

    registers : are_registers_left program names s exit.core.registers ≡ true
    registers = both _ _ (both _ _ (both _ _ (both _ _ (both _ _ (both _ _ (one A) (one B)) (one C)) (one D)) (one E)) (one H)) (one L)

-- what registers and pairs leave each other
pub Means-with_values :
    (s : AbsState) (v : Values) (entry : Activation) (base : ℕ) (x : MState)
    → IsCut (values_of s.core.registers s.relations.pairs) v → HoldsValues v (beside entry x) x.processor.registers → Means s entry base x → Means (with_values s v) entry base x
Means-with_values s v entry base x cuts holds m =
    record {
      parts = record {
        core = record {
          registers = λ r. record {
            least = (holds.registers r).least;
            most = (holds.registers r).most;
            low = (holds.registers r).low;
            origin = λ o is. (m.parts.core.registers r).origin o (sym (cuts.origin r) ∙ is);
          };
          flags = m.parts.core.flags;
          ie = m.parts.core.ie;
          ime = m.parts.core.ime;
          controller = m.parts.core.controller;
          count = m.parts.core.count;
          locked = m.parts.core.locked;
          stopped = m.parts.core.stopped;
        };
        memory = m.parts.memory;
        sp = m.parts.sp;
        stack = m.parts.stack;
        items = m.parts.items;
        cells = m.parts.cells;
      };
      related = record { byte = m.related.byte; zero = m.related.zero; pairs = holds.pairs };
      summary = m.summary;
    }

-- so do its banks
Means-with_controller : (s : AbsState) (c : Ctl) (entry : Activation) (base : ℕ) (x : MState) → HoldsController c entry x.storage.banks → Means s entry base x → Means (with_controller s c) entry base x
Means-with_controller s c entry base x h m =
    let core : MeansCore (record s.core { ctl = c }) entry x = record {
      registers = m.parts.core.registers;
      flags = m.parts.core.flags;
      ie = m.parts.core.ie;
      ime = m.parts.core.ime;
      controller = h;
      count = m.parts.core.count;
      locked = m.parts.core.locked;
      stopped = m.parts.core.stopped;
    } in
    record {
      parts = record { core = core; memory = m.parts.memory; sp = m.parts.sp; stack = m.parts.stack; items = m.parts.items; cells = m.parts.cells };
      related = m.related;
      summary = m.summary;
    }

Means-with_banks_cut : (s : AbsState) (entry : Activation) (base : ℕ) (x : MState) → AreBytes x.processor.registers → Means s entry base x → MeansIf (with_banks_cut entry.program s) entry base x
unfolding with_banks_cut
Means-with_banks_cut s entry base x bytes m =
    let known = HoldsKnown-means s entry base x m in
    choose (reduced_controller entry.program (values_in s) s.cells s.summary s.core.ctl)
    ((reduced_controller_sound entry.program (values_in s) s.cells s.summary s.core.ctl _ refl).gives entry known.was x.processor (peek x.storage) x.storage.banks refl bytes known.values known.bytes known.cells_hold
    known.summary m.parts.core.controller)
  where
    choose : (o : Option Ctl) → HoldsControllerIf o entry x.storage.banks → MeansIf (option_map (with_controller s) o) entry base x
    choose None h = h
    choose (Some c) h = Means-with_controller s c entry base x h m

-- cut, they mean the same; where nothing is left, none is meant
pub Means-reduced :
    (entered : PairBounds) (s : AbsState) (entry : Activation) (base : ℕ) (x : MState)
    → ReducesSoundly entry.program entered s → AreWithin entered (entered_with entry) → AreBytes x.processor.registers → Means s entry base x
    → MeansIf (reduced_state entry.program entered s) entry base x
unfolding reduced_state
Means-reduced entered s entry base x sound within bytes m =
    choose (reduced entered read v) (reduced_cuts entered read v (reduced entered read v) refl)
    (sound.gives (beside entry x) x.processor.registers within (AreReadIn-means s entry base x m) bytes holds)
  where
    read : PairBounds
    read = read_in entry.program s

    v : Values
    v = values_of s.core.registers s.relations.pairs

    holds : HoldsValues v (beside entry x) x.processor.registers
    holds = record {
      registers = λ r. record { least = (m.parts.core.registers r).least; most = (m.parts.core.registers r).most; low = (m.parts.core.registers r).low };
      pairs = m.related.pairs;
    }

    choose : (o : Option Values) → IfSome o (IsCut v) → HoldsIn o (beside entry x) x.processor.registers → MeansIf (option_and_then (with_banks_cut entry.program) (with_values_if s o)) entry base x
    choose None cuts h = h
    choose (Some w) cuts h = Means-with_banks_cut (with_values s w) entry base x bytes (Means-with_values s w entry base x cuts h m)

Means-rejoined_reduced :
    (program : Program) (z : Setting) (k : ℕ) (region : Region) (ranges : List Range) (names : List ℕ) (s exit : AbsState) (entry : Activation) (base : ℕ) (called : Activation) (x : MState)
    → ReducesSoundly program z.entered (rejoined program z.is_whole (waiting_stack z region k s) k ranges names s exit) → HandsBack program z k region ranges names s exit entry base called x
    → MeansIf (reduced_state program z.entered (rejoined program z.is_whole (waiting_stack z region k s) k ranges names s exit)) entry base x
Means-rejoined_reduced program z k region ranges names s exit entry base called x sound h =
    let back = rejoined program z.is_whole (waiting_stack z region k s) k ranges names s exit in
    subst (λ q. MeansIf (reduced_state q z.entered back) entry base x) h.caller_program
    (Means-reduced z.entered back entry base x (subst (λ q. ReducesSoundly q z.entered back) (sym h.caller_program) sound) h.within
    (registers_are_bytes exit.core called x h.exit_core h.exits.parts.core)
    (Means-rejoined program z k region ranges names s exit entry base called x h))

-- where the callee comes back something is meant, and that holds
Means-something :
    (program : Program) (z : Setting) (k : ℕ) (region : Region) (ranges : List Range) (names : List ℕ) (s exit : AbsState) (entry : Activation) (base : ℕ) (called : Activation) (x : MState)
    → (is_something program z.is_whole names ranges s exit ≡ true → ReducesSoundly program z.entered (rejoined program z.is_whole (waiting_stack z region k s) k ranges names s exit))
    → HandsBack program z k region ranges names s exit entry base called x
    → MeansIf (resumed_by Extended program z region k ranges names s exit) entry base x
unfolding resumed_by
Means-something program z k region ranges names s exit entry base called x sound h =
    let some = something_left program z.is_whole z k region ranges names s exit entry base called x h in
    subst (λ b. MeansIf (cond b (reduced_state program z.entered (rejoined program z.is_whole (waiting_stack z region k s) k ranges names s exit)) None) entry base x) (sym some)
    (Means-rejoined_reduced program z k region ranges names s exit entry base called x (sound some) h)

-- ---- what was computed

-- with more items than a state holds
pub too_deep :
    (program : Program) (entered read : PairBounds) (whole : Bool) (waiting : StackBytes) (k : ℕ) (ranges : List Range) (names addresses : List ℕ) (s exit : AbsState) (kept : Kept) (core : Core) (relations : Relations) (v : Values) (cells : List Cell) (said : SummaryParts) (c : Ctl)
    → addresses ≡ given_addresses names exit.cells → kept ≡ kept_by ranges addresses (held_relations waiting s.relations) exit.core → core ≡ core_back program whole names s exit.core
    → relations ≡ returned kept s.core.registers (held_relations waiting s.relations) exit.relations
    → cells ≡ cells_back (cell_room Extended) (cell_back program whole names s) ranges s.cells exit.cells → said ≡ summary_back program whole ranges names s exit
    → read ≡ read_by program (values_of core.registers relations.pairs) cells said relations.pairs
    → Some v ≡ reduced entered read (values_of core.registers relations.pairs)
    → Some c ≡ reduced_controller program v cells said core.ctl
    → 255 < length (given_back_items k s.items exit.items) → IsTooDeep (reduced_state program entered (rejoined program whole waiting k ranges names s exit))
unfolding rejoined reduced_state with_banks_cut item_room
too_deep program entered read whole waiting k ranges names addresses s exit kept core relations v cells said c given is is_core are is_cells is_said reads e cuts many =
    let known = held_relations waiting s.relations in
    let by = kept_by ranges (given_addresses names exit.cells) known exit.core in
    let same : relations ≡ returned by s.core.registers known exit.relations =
    are ∙ ap (λ (o : Kept). returned o s.core.registers known exit.relations) (is ∙ ap (λ (xs : List ℕ). kept_by ranges xs known exit.core) given) in
    let back : AbsState = rejoined program whole waiting k ranges names s exit in
    let all : read ≡ read_in program back =
    reads
    ∙ (ap (λ (d : Core). read_by program (values_of d.registers relations.pairs) cells said relations.pairs) is_core
    ∙ (ap (λ (r : Relations). read_by program (values_of (core_back program whole names s exit.core).registers r.pairs) cells said r.pairs) same
    ∙ (ap (λ (xs : List Cell). read_by program (values_in back) xs said back.relations.pairs) is_cells
    ∙ ap (λ (m : SummaryParts). read_by program (values_in back) back.cells m back.relations.pairs) is_said))) in
    let cut : Some v ≡ reduced entered (read_in program back) (values_of (core_back program whole names s exit.core).registers (returned by s.core.registers known exit.relations).pairs) =
    e ∙ (ap (λ (d : Core). reduced entered read (values_of d.registers relations.pairs)) is_core
    ∙ (ap (λ (r : Relations). reduced entered read (values_of (core_back program whole names s exit.core).registers r.pairs)) same
    ∙ ap (λ (b : PairBounds). reduced entered b (values_of back.core.registers back.relations.pairs)) all)) in
    let t : AbsState = with_values (rejoined program whole waiting k ranges names s exit) v in
    let banks : Some c ≡ reduced_controller program v t.cells t.summary t.core.ctl =
    cuts ∙ (ap (λ (xs : List Cell). reduced_controller program v xs said core.ctl) is_cells
    ∙ (ap (λ (m : SummaryParts). reduced_controller program v t.cells m core.ctl) is_said
    ∙ ap (λ (d : Core). reduced_controller program v t.cells t.summary d.ctl) is_core)) in
    record {
      state = with_controller t c;
      is = ap (λ o. option_and_then (with_banks_cut program) (with_values_if (rejoined program whole waiting k ranges names s exit) o)) (sym cut)
          ∙ ap (option_map (with_controller t)) (sym banks);
      deep = subst (λ n. 255 < n) (sym (given_back-count k s.items exit.items (val_back program whole names s))) many;
    }

computed : (r : Resumed) (s : Option AbsState) (entry : Activation) (base : ℕ) (x : MState) → IsResumed r s → MeansIf s entry base x → MeansResumed r entry base x
computed Nothing s entry base x e m = subst (λ (o : Option AbsState). MeansIf o entry base x) e m
computed (States t) s entry base x e m = subst (λ (o : Option AbsState). MeansIf o entry base x) e m
computed TooDeep s entry base x e m = tt

pub resumed_alone_sound :
    (program : Program) (z : Setting) (region : Region) (k : ℕ) (ranges : List Range) (names : List ℕ) (s exit o : AbsState) → z.rules ≡ Simple → o ≡ resumed_alone ranges s exit
    → IsSoundResuming program z region k ranges names s exit (States o)
resumed_alone_sound program z region k ranges names s exit o simple e =
    record {
      gives = λ entry base called x h. subst (λ (w : AbsState). Means w entry base x) (sym e)
          (Means-resumed_alone region ranges s exit entry base called x
          (subst (λ (r : Rules). ComesBackBy program r z k region ranges names s exit entry base called x) simple h));
    }

pub rejoined_sound :
    (program : Program) (z : Setting) (region : Region) (k : ℕ) (ranges : List Range) (names : List ℕ) (s exit : AbsState) (r : Resumed) → z.rules ≡ Extended
    → IsResumed r (resumed_by Extended program z region k ranges names s exit)
    → (is_something program z.is_whole names ranges s exit ≡ true → ReducesSoundly program z.entered (rejoined program z.is_whole (waiting_stack z region k s) k ranges names s exit))
    → IsSoundResuming program z region k ranges names s exit r
rejoined_sound program z region k ranges names s exit r extended e sound =
    record {
      gives = λ entry base called x h. computed r (resumed_by Extended program z region k ranges names s exit) entry base x e
          (Means-something program z k region ranges names s exit entry base called x sound
          (subst (λ (q : Rules). ComesBackBy program q z k region ranges names s exit entry base called x) extended h));
    }

-- ---- by either rules, of states that a certificate may have

ReducesSoundly-rejoined :
    (may_be : ℕ → Bool) (program : Program) (entered : PairBounds) (whole : Bool) (waiting : StackBytes) (k : ℕ) (ranges : List Range) (names : List ℕ) (s exit : AbsState)
    → ArePairs may_be s.relations.pairs → ArePairs may_be exit.relations.pairs
    → ReducesSoundly program entered (rejoined program whole waiting k ranges names s exit)
unfolding rejoined
ReducesSoundly-rejoined may_be program entered whole waiting k ranges names s exit h i =
    let known = held_relations waiting s.relations in
    let back = rejoined program whole waiting k ranges names s exit in
    reduced_sound may_be entered (read_in program back) (values_of back.core.registers back.relations.pairs) _ refl
    (ArePairs-returned may_be (kept_by ranges (given_addresses names exit.cells) known exit.core) s.core.registers known exit.relations h i)

-- the callee has come back: there is something that its caller goes on with, and it holds
pub Means-resumed :
    (program : Program) (rules : Rules) (z : Setting) (k : ℕ) (region : Region) (ranges : List Range) (names : List ℕ) (s exit : AbsState) (entry : Activation) (base : ℕ) (called : Activation) (x : MState) (may_be : ℕ → Bool)
    → ArePairs may_be s.relations.pairs → ArePairs may_be exit.relations.pairs → ComesBackBy program rules z k region ranges names s exit entry base called x
    → MeansIf (resumed_by rules program z region k ranges names s exit) entry base x
unfolding resumed_by
Means-resumed program Simple z k region ranges names s exit entry base called x may_be p q h = Means-resumed_alone region ranges s exit entry base called x h
Means-resumed program Extended z k region ranges names s exit entry base called x may_be p q h =
    Means-something program z k region ranges names s exit entry base called x
    (λ e. ReducesSoundly-rejoined may_be program z.entered z.is_whole (waiting_stack z region k s) k ranges names s exit p q) h
