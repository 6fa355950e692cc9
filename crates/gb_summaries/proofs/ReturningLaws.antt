-- What is said where a routine returns holds.
use Rattle.std.proofs.Common.{◌≡◌, ℕ, zero, suc, ◌+◌, ◌-◌, ◌≤◌, ◌<◌, Bool, true, false, not, ◌&&◌, cond, List, [], ◌∷◌, ◌++◌, take, drop, length, Option, Some, None, inl, inr, refl, sym, ◌∙◌, subst, ap, arith}
use Rattle.std.proofs.lemmas.Bool.{and_parts, or_cases}
use Rattle.std.proofs.lemmas.List.{append-nil, length-take}
use Rattle.std.proofs.Math.ListN.{drop_of_length-le}
use Rattle.std.proofs.Math.Seq.{take-append-add}
use Rattle.std.specs.List.{filter, filter_map, cons_option, AllByRecursion}
use Rattle.gb_ops.specs.declared.machine.Banks.{Banks}
use Rattle.gb_ops.specs.declared.machine.Kind.{Kind}
use Rattle.gb_ops.specs.declared.machine.Region.{Region}
use Rattle.gb_ops.specs.declared.op.Pointer.{Pointer}
use Rattle.gb_ops.specs.declared.op.Pointer.TheVariants.{Bc, De, Hl, HighC}
use Rattle.gb_ops.specs.declared.op.Register.{Register}
use Rattle.gb_ops.specs.declared.op.Register.TheVariants.{B, C, D, E, H, L}
use Rattle.gb_ops.specs.Registers.{get}
use Rattle.gb_ops.specs.declared.registers.Processor.{Processor}
use Rattle.gb_ops.specs.declared.registers.Registers.{Registers}
use Rattle.gb_ops.specs.Pointers.{pointed, byte_or_page, high_register, low_register}
use Rattle.gb_domain.specs.declared.pairs.Bounds.{Bounds}
use Rattle.gb_domain.specs.declared.summary.Fact.{Fact}
use Rattle.gb_domain.specs.declared.summary.Fill.{Fill}
use Rattle.gb_domain.specs.declared.summary.FillEnd.{FillEnd}
use Rattle.gb_domain.specs.declared.summary.Shadows.{Shadows}
use Rattle.gb_domain.specs.declared.types.Cell.{Cell}
use Rattle.gb_domain.specs.declared.types.Range.{Range}
use Rattle.gb_domain.specs.Summaries.{SummaryParts, Program, no_shadows, no_summary}
use Rattle.gb_relations.specs.Below.gb_pairs.declared.values.Values.{Values}
use Rattle.gb_relations.specs.Below.gb_pairs.Meaning.{Beside, Holds}
use Rattle.gb_relations.specs.Below.gb_copies.declared.windows.BankWindow.{BankWindow}
use Rattle.gb_relations.specs.Below.gb_copies.declared.windows.BankWindow.TheVariants.{First, Second}
use Rattle.gb_relations.specs.Places.{is_free}
use Rattle.gb_relations.specs.Sound.{IsByteFree}
use Rattle.gb_relations.specs.Below.gb_copies.BankReturned.{registers_if, address_returned, returned}
use Rattle.gb_relations.specs.Below.gb_copies.Shadows.{either_registers, both_registers}
use Rattle.gb_domain.specs.Places.{no_place}
use Rattle.gb_relations.specs.Below.gb_copies.ShadowMeaning.{AreShadows}
use Rattle.gb_relations.proofs.Below.gb_copies_laws.BankReturnedLaws.{returned_sound}
use Rattle.gb_ram_bounds.specs.declared.pointers.Pointers.{Pointers}
use Rattle.gb_ram_bounds.specs.Fills.{at_pointer, fixed_at}
use Rattle.gb_ram_bounds.specs.Meaning.{HoldFacts, HoldFills, HoldsSome, PointersIn}
use Rattle.gb_ram_bounds.specs.Returned.{is_in_ranges, lies_in_one, misses_all, kept_or_fixed, left_of_caller, stays, staying, IsReturn, KeepsPointers}
use Rattle.gb_ram_bounds.proofs.ReturnedLaws.{staying_sound, exit_fill_sound, caller_fill_sound}
use Rattle.gb_summaries.specs.declared.returning.GivenBack.{GivenBack}
use Rattle.gb_summaries.specs.Elsewhere.{IsFreeFill, AreFreeFacts, IsFree}
use Rattle.gb_summaries.specs.Known.{pointer_bounds}
use Rattle.gb_summaries.specs.Meaning.{HoldSummary, pointers_of}
use Rattle.gb_summaries.specs.Returning.{is_window_kept, is_given, is_byte_kept, preserved, kept_pointers, shadows_returned, fills_returned, if_room, summary_returned, GivesBack, AreCellsBack, IsSoundReturn}
use Rattle.gb_summaries.proofs.ElsewhereLaws.{FreeSome, FreeSome-cond, FreeSome-fixed, stays_elsewhere}
use Rattle.gb_summaries.proofs.KnownLaws.{PointersIn-known}

-- ---- the first of some

pub joined_first : (n : ℕ) (xs ys : List Fill) → length xs ≤ n → take n (xs ++ ys) ≡ xs ++ take (n - length xs) ys
joined_first n xs ys le =
    let e : length xs + (n - length xs) ≡ n = omega arith in
    subst (λ m. take m (xs ++ ys) ≡ xs ++ take (n - length xs) ys) e (take-append-add xs ys (n - length xs))

pub few_first : (n : ℕ) (xs : List Fill) → length (take n xs) ≤ n
few_first n xs = subst (λ m. m ≤ n) (sym (length-take n xs)) (omega arith)

pub all_appended :
    (n i : ℕ) (old ys items xs : List Fill) → length old ≤ n → items ≡ take (n - length old) ys → length items ≤ i
    → xs ++ drop i items ≡ old ++ take (n - length old) ys → xs ≡ take n (old ++ ys)
all_appended n i old ys items xs le e past h =
    sym (append-nil xs) ∙ (ap (λ r. xs ++ r) (sym (drop_of_length-le items past)) ∙ (h ∙ sym (joined_first n old ys le)))

-- ---- facts

one_more : (c : Bool) (n bound : ℕ) → 0 < bound → n ≤ bound - 1 → cond c (suc n) 0 ≤ bound
one_more true n bound some h = omega arith
one_more false n bound some h = omega arith

pub staying_few : (ranges : List Range) (exit cells : List Cell) (facts : List Fact) (n m bound : ℕ) → n ≤ bound → m ≤ bound → staying ranges exit cells facts n m ≤ bound
unfolding stays
staying_few ranges exit cells [] n m bound a b = omega arith
staying_few ranges exit cells (f ∷ facts) zero zero bound a b = omega arith
staying_few ranges exit cells (f ∷ facts) zero (suc m) bound a b = one_more _ _ bound (omega arith) (staying_few ranges exit cells facts (zero - 1) (suc m - 1) (bound - 1) (omega arith) (omega arith))
staying_few ranges exit cells (f ∷ facts) (suc n) m bound a b = one_more _ _ bound (omega arith) (staying_few ranges exit cells facts (suc n - 1) (m - 1) (bound - 1) (omega arith) (omega arith))

-- no fact
HoldFacts-none : (facts : List Fact) (cells : List Cell) (memory : ℕ → ℕ) → HoldFacts (take 0 facts) cells memory
HoldFacts-none [] cells memory = tt
HoldFacts-none (f ∷ facts) cells memory = tt

-- ---- fills

HoldFills-joined :
    (xs ys : List Fill) (cells : List Cell) (memory : ℕ → ℕ) (x : Pointers ℕ)
    → HoldFills xs cells memory x → HoldFills ys cells memory x → HoldFills (xs ++ ys) cells memory x
HoldFills-joined [] ys cells memory x g h = h
HoldFills-joined (f ∷ xs) ys cells memory x g h = (g.0, HoldFills-joined xs ys cells memory x g.1 h)

HoldFills-first : (n : ℕ) (xs : List Fill) (cells : List Cell) (memory : ℕ → ℕ) (x : Pointers ℕ) → HoldFills xs cells memory x → HoldFills (take n xs) cells memory x
HoldFills-first zero [] cells memory x h = tt
HoldFills-first (suc n) [] cells memory x h = tt
HoldFills-first zero (f ∷ xs) cells memory x h = tt
HoldFills-first (suc n) (f ∷ xs) cells memory x h = (h.0, HoldFills-first n xs cells memory x h.1)

HoldFills-exit :
    (ranges : List Range) (last before cells : List Cell) (memory stored : ℕ → ℕ) (y : Pointers ℕ) (fills : List Fill)
    → IsReturn ranges last before cells memory stored → HoldFills fills last stored y → HoldFills (filter (lies_in_one ranges) fills) cells stored y
HoldFills-exit ranges last before cells memory stored y [] r h = tt
HoldFills-exit ranges last before cells memory stored y (f ∷ fills) r h =
    choose (lies_in_one ranges f) refl (HoldFills-exit ranges last before cells memory stored y fills r h.1)
  where
    choose :
        (c : Bool) → lies_in_one ranges f ≡ c → HoldFills (filter (lies_in_one ranges) fills) cells stored y
        → HoldFills (cond c (f ∷ filter (lies_in_one ranges) fills) (filter (lies_in_one ranges) fills)) cells stored y
    choose true e rest = ((exit_fill_sound ranges f _ refl e).gives last before cells memory stored y r h.0, rest)
    choose false e rest = rest

HoldFills-caller :
    (ranges : List Range) (kept : Pointers Bool) (p : Pointers Bounds) (last before cells : List Cell) (memory stored : ℕ → ℕ) (x y : Pointers ℕ) (fills : List Fill)
    → IsReturn ranges last before cells memory stored → PointersIn p x → KeepsPointers kept x y
    → HoldFills fills before memory x → HoldFills (filter_map (left_of_caller ranges kept p) fills) cells stored y
HoldFills-caller ranges kept p last before cells memory stored x y [] r i k h = tt
HoldFills-caller ranges kept p last before cells memory stored x y (f ∷ fills) r i k h =
    one (left_of_caller ranges kept p f)
    ((caller_fill_sound ranges kept p f _ refl).gives last before cells memory stored x y r i k h.0)
    (HoldFills-caller ranges kept p last before cells memory stored x y fills r i k h.1)
  where
    one :
        (o : Option Fill) → HoldsSome o cells stored y → HoldFills (filter_map (left_of_caller ranges kept p) fills) cells stored y
        → HoldFills (cons_option o (filter_map (left_of_caller ranges kept p) fills)) cells stored y
    one None here rest = rest
    one (Some g) here rest = (here, rest)

-- ---- what is given back

keeps :
    (g : Registers Bool) (x y : Processor) → ((q : Register) → get q g ≡ true → get q y.registers ≡ get q x.registers)
    → (q : Pointer) → at_pointer q (kept_pointers g) ≡ true → at_pointer q (pointers_of y) ≡ at_pointer q (pointers_of x)
unfolding pointed byte_or_page high_register low_register
keeps g x y h Bc e = let p = and_parts g.b g.c e in let high = h B p.0 in let low = h C p.1 in omega arith
keeps g x y h De e = let p = and_parts g.d g.e e in let high = h D p.0 in let low = h E p.1 in omega arith
keeps g x y h Hl e = let p = and_parts g.h g.l e in let high = h H p.0 in let low = h L p.1 in omega arith
keeps g x y h HighC e = let low = h C e in omega arith

-- memory where only RAM outside the stack region counts
abbrev of_free : Region → (ℕ → ℕ) → (ℕ → ℕ) → ℕ → ℕ
of_free region stored memory a = cond (is_free region a) (stored a) (memory a)

of_free-free : (region : Region) (stored memory : ℕ → ℕ) (a : ℕ) → is_free region a ≡ true → of_free region stored memory a ≡ stored a
of_free-free region stored memory a e = ap (λ b. cond b (stored a) (memory a)) e

of_free-same : (region : Region) (stored memory : ℕ → ℕ) (a : ℕ) → (is_free region a ≡ true → stored a ≡ memory a) → of_free region stored memory a ≡ memory a
of_free-same region stored memory a h = choose (is_free region a) refl
  where
    choose : (b : Bool) → is_free region a ≡ b → cond b (stored a) (memory a) ≡ memory a
    choose true e = h e
    choose false e = refl

byte_kept :
    (k : Kind) (region : Region) (ranges : List Range) (g : GivenBack) (addresses : List ℕ) (x y : Processor) (memory stored : ℕ → ℕ) (r s : Banks) (o : Option ℕ) (a : ℕ)
    → GivesBack k region ranges g addresses x y memory stored r s → is_byte_kept ranges addresses o ≡ true → o ≡ Some a → of_free region stored memory a ≡ memory a
byte_kept k region ranges g addresses x y memory stored r s o a b h e =
    elim (or_cases (not (is_in_ranges ranges a)) (is_given addresses a) (subst (λ p. is_byte_kept ranges addresses p ≡ true) e h)) [
      | inl out ↦ of_free-same region stored memory a (λ free. b.outside a free (none_of (is_in_ranges ranges a) out))
      | inr given ↦ of_free-same region stored memory a (λ free. b.given a given)
    ]
  where
    none_of : (c : Bool) → not c ≡ true → c ≡ false
    none_of true i = cc
    none_of false i = refl

AreShadows-returned :
    (k : Kind) (which : BankWindow) (region : Region) (ranges : List Range) (g : GivenBack) (addresses : List ℕ) (caller exit : Shadows) (x y : Processor) (memory stored : ℕ → ℕ) (r s : Banks)
    → GivesBack k region ranges g addresses x y memory stored r s → AreShadows k which caller x.registers memory r
    → AreShadows k which exit y.registers (of_free region stored memory) s
    → AreShadows k which (shadows_returned k which ranges g addresses caller exit) y.registers (of_free region stored memory) s
unfolding shadows_returned
AreShadows-returned k which region ranges g addresses caller exit x y memory stored r s b c h =
    (returned_sound (preserved k which ranges g addresses caller) exit caller _ refl).gives k which x.registers y.registers memory (of_free region stored memory) r s
    (record {
      window = b.windows which;
      registers = b.registers;
      address = λ e a at. byte_kept k region ranges g addresses x y memory stored r s caller.address a b e at;
    })
    c h

-- ---- where nothing is said

staying_none : (ranges : List Range) (exit cells : List Cell) (facts : List Fact) → staying ranges exit cells facts 0 0 ≡ 0
unfolding stays
staying_none ranges exit cells [] = refl
staying_none ranges exit cells (f ∷ facts) = refl

and_false : (b : Bool) → (b && false) ≡ false
and_false true = refl
and_false false = refl

no_registers : (w : Bool) (s : Registers Bool) → either_registers no_place (registers_if w (both_registers s no_place)) ≡ no_place
no_registers false s = refl
no_registers true s = rw (and_false s.a, and_false s.b, and_false s.c, and_false s.d, and_false s.e, and_false s.h, and_false s.l) refl

no_address : (stays : Bool) → address_returned stays None None ≡ None
no_address true = refl
no_address false = refl

shadows_of : Registers Bool → Option ℕ → Shadows
shadows_of r o = record { registers = r; address = o }

no_shadows_returned : (k : Kind) (which : BankWindow) (ranges : List Range) (g : GivenBack) (addresses : List ℕ) → shadows_returned k which ranges g addresses no_shadows no_shadows ≡ no_shadows
unfolding shadows_returned returned shadows_of
no_shadows_returned k which ranges g addresses =
    ap (λ r. shadows_of r (address_returned (is_window_kept k which g.banks && true) None None)) (no_registers (is_window_kept k which g.banks) g.registers)
    ∙ ap (λ o. shadows_of no_place o) (no_address (is_window_kept k which g.banks && true))

of_bank_shadows : Shadows → Shadows → SummaryParts
of_bank_shadows first second = record { level = 0; fills = []; shadows = record { first = first; second = second }; aside = None }

pub quiet_returned :
    (program : Program) (ranges : List Range) (g : GivenBack) (addresses : List ℕ) (v : Values) (before last : List Cell) (has_room : Bool) (cells : List Cell)
    → summary_returned program ranges g addresses v before no_summary last no_summary has_room cells ≡ no_summary
unfolding summary_returned fills_returned of_bank_shadows
quiet_returned program ranges g addresses v before last true cells =
    ap (λ n. record (of_bank_shadows (shadows_returned program.kind First ranges g addresses no_shadows no_shadows) (shadows_returned program.kind Second ranges g addresses no_shadows no_shadows)) { level = n }) (staying_none ranges last cells program.facts)
    ∙ (ap (λ t. of_bank_shadows t (shadows_returned program.kind Second ranges g addresses no_shadows no_shadows)) (no_shadows_returned program.kind First ranges g addresses)
    ∙ ap (λ t. of_bank_shadows no_shadows t) (no_shadows_returned program.kind Second ranges g addresses))
quiet_returned program ranges g addresses v before last false cells =
    ap (λ t. of_bank_shadows t (shadows_returned program.kind Second ranges g addresses no_shadows no_shadows)) (no_shadows_returned program.kind First ranges g addresses)
    ∙ ap (λ t. of_bank_shadows no_shadows t) (no_shadows_returned program.kind Second ranges g addresses)

-- ---- where it lies

free-some : (region : Region) (o : Option Fill) (fills : List Fill) → FreeSome region o → AllByRecursion (IsFreeFill region) fills → AllByRecursion (IsFreeFill region) (cons_option o fills)
free-some region None fills here rest = rest
free-some region (Some f) fills here rest = (here, rest)

FreeSome-caller : (region : Region) (ranges : List Range) (kept : Pointers Bool) (p : Pointers Bounds) (f : Fill) → IsFreeFill region f → FreeSome region (left_of_caller ranges kept p f)
unfolding left_of_caller
FreeSome-caller region ranges kept p f h = FreeSome-cond region (misses_all ranges f) (kept_or_fixed f.end kept p f) None (by_end f.end) tt
  where
    by_end : (o : Option FillEnd) → FreeSome region (kept_or_fixed o kept p f)
    by_end None = h
    by_end (Some e) = FreeSome-cond region (at_pointer e.pointer kept) (Some f) (fixed_at e p f) h (FreeSome-fixed region e p f h)

free-caller :
    (region : Region) (ranges : List Range) (kept : Pointers Bool) (p : Pointers Bounds) (fills : List Fill)
    → AllByRecursion (IsFreeFill region) fills → AllByRecursion (IsFreeFill region) (filter_map (left_of_caller ranges kept p) fills)
free-caller region ranges kept p [] h = tt
free-caller region ranges kept p (f ∷ fills) h =
    free-some region (left_of_caller ranges kept p f) (filter_map (left_of_caller ranges kept p) fills) (FreeSome-caller region ranges kept p f h.0) (free-caller region ranges kept p fills h.1)

free-exit : (region : Region) (ranges : List Range) (fills : List Fill) → AllByRecursion (IsFreeFill region) fills → AllByRecursion (IsFreeFill region) (filter (lies_in_one ranges) fills)
free-exit region ranges [] h = tt
free-exit region ranges (f ∷ fills) h = choose (lies_in_one ranges f) (free-exit region ranges fills h.1)
  where
    choose :
        (c : Bool) → AllByRecursion (IsFreeFill region) (filter (lies_in_one ranges) fills)
        → AllByRecursion (IsFreeFill region) (cond c (f ∷ filter (lies_in_one ranges) fills) (filter (lies_in_one ranges) fills))
    choose true rest = (h.0, rest)
    choose false rest = rest

free-joined : (region : Region) (xs ys : List Fill) → AllByRecursion (IsFreeFill region) xs → AllByRecursion (IsFreeFill region) ys → AllByRecursion (IsFreeFill region) (xs ++ ys)
free-joined region [] ys g h = h
free-joined region (f ∷ xs) ys g h = (g.0, free-joined region xs ys g.1 h)

free-first : (region : Region) (n : ℕ) (xs : List Fill) → AllByRecursion (IsFreeFill region) xs → AllByRecursion (IsFreeFill region) (take n xs)
free-first region zero [] h = tt
free-first region (suc n) [] h = tt
free-first region zero (f ∷ xs) h = tt
free-first region (suc n) (f ∷ xs) h = (h.0, free-first region n xs h.1)

free-fills :
    (region : Region) (has_room : Bool) (ranges : List Range) (g : GivenBack) (p : Pointers Bounds) (caller exit : List Fill)
    → AllByRecursion (IsFreeFill region) caller → AllByRecursion (IsFreeFill region) exit
    → AllByRecursion (IsFreeFill region) (if_room has_room (fills_returned ranges g p caller exit) [])
unfolding fills_returned
free-fills region true ranges g p caller exit c h =
    free-first region 8 (filter (lies_in_one ranges) exit ++ filter_map (left_of_caller ranges (kept_pointers g.registers) p) caller)
    (free-joined region (filter (lies_in_one ranges) exit) (filter_map (left_of_caller ranges (kept_pointers g.registers) p) caller) (free-exit region ranges exit h) (free-caller region ranges (kept_pointers g.registers) p caller c))
free-fills region false ranges g p caller exit c h = tt

free-address : (region : Region) (stays : Bool) (exit caller : Option ℕ) → IsByteFree region exit → IsByteFree region caller → IsByteFree region (address_returned stays exit caller)
free-address region stays (Some a) caller h c = h
free-address region true None caller h c = c
free-address region false None caller h c = tt

free-shadows :
    (region : Region) (k : Kind) (which : BankWindow) (ranges : List Range) (g : GivenBack) (addresses : List ℕ) (caller exit : Shadows)
    → IsByteFree region caller.address → IsByteFree region exit.address → IsByteFree region (shadows_returned k which ranges g addresses caller exit).address
unfolding shadows_returned returned
free-shadows region k which ranges g addresses caller exit c h = free-address region _ exit.address caller.address h c

IsFree-returned :
    (program : Program) (ranges : List Range) (g : GivenBack) (addresses : List ℕ) (v : Values) (before : List Cell) (caller : SummaryParts) (last : List Cell) (exit : SummaryParts) (has_room : Bool) (cells : List Cell) (region : Region)
    → IsFree region caller → IsFree region exit → IsFree region (summary_returned program ranges g addresses v before caller last exit has_room cells)
unfolding summary_returned
IsFree-returned program ranges g addresses v before caller last exit has_room cells region c h =
    record {
      fills = free-fills region has_room ranges g (pointer_bounds v) caller.fills exit.fills c.fills h.fills;
      first = free-shadows region program.kind First ranges g addresses caller.shadows.first exit.shadows.first c.first h.first;
      second = free-shadows region program.kind Second ranges g addresses caller.shadows.second exit.shadows.second c.second h.second;
    }

-- ---- all of it

-- the same, with memory where only RAM outside the stack region counts
HoldSummary-of_free :
    (program : Program) (ranges : List Range) (g : GivenBack) (addresses : List ℕ) (v : Values) (before : List Cell) (caller : SummaryParts) (last : List Cell) (exit : SummaryParts) (has_room : Bool) (cells : List Cell)
    (region : Region) (was : Beside) (x y : Processor) (memory stored : ℕ → ℕ) (r s : Banks)
    → Holds v was x.registers → GivesBack program.kind region ranges g addresses x y memory stored r s
    → (has_room ≡ true → IsReturn ranges last before cells memory (of_free region stored memory))
    → HoldSummary program before caller x memory r → HoldSummary program last exit y (of_free region stored memory) s
    → HoldSummary program cells (summary_returned program ranges g addresses v before caller last exit has_room cells) y (of_free region stored memory) s
unfolding summary_returned fills_returned
HoldSummary-of_free program ranges g addresses v before caller last exit has_room cells region was x y memory stored r s i b back c h =
    record {
      facts = facts has_room refl;
      fills = fills has_room refl;
      first = AreShadows-returned program.kind First region ranges g addresses caller.shadows.first exit.shadows.first x y memory stored r s b c.first h.first;
      second = AreShadows-returned program.kind Second region ranges g addresses caller.shadows.second exit.shadows.second x y memory stored r s b c.second h.second;
      aside = tt;
    }
  where
    facts : (room : Bool) → has_room ≡ room → HoldFacts (take (if_room room (staying ranges last cells program.facts exit.level caller.level) 0) program.facts) cells (of_free region stored memory)
    facts true e = (staying_sound ranges last cells program.facts exit.level caller.level _ refl).gives before memory (of_free region stored memory) (back e) h.facts c.facts
    facts false e = HoldFacts-none program.facts cells (of_free region stored memory)

    fills : (room : Bool) → has_room ≡ room → HoldFills (if_room room (fills_returned ranges g (pointer_bounds v) caller.fills exit.fills) []) cells (of_free region stored memory) (pointers_of y)
    fills true e =
        HoldFills-first 8 (filter (lies_in_one ranges) exit.fills ++ filter_map (left_of_caller ranges (kept_pointers g.registers) (pointer_bounds v)) caller.fills) cells (of_free region stored memory) (pointers_of y)
        (HoldFills-joined (filter (lies_in_one ranges) exit.fills) (filter_map (left_of_caller ranges (kept_pointers g.registers) (pointer_bounds v)) caller.fills) cells (of_free region stored memory) (pointers_of y)
        (HoldFills-exit ranges last before cells memory (of_free region stored memory) (pointers_of y) exit.fills (back e) h.fills)
        (HoldFills-caller ranges (kept_pointers g.registers) (pointer_bounds v) last before cells memory (of_free region stored memory) (pointers_of x) (pointers_of y) caller.fills (back e)
        (PointersIn-known v was x i) (record { same = keeps g.registers x y b.registers }) c.fills))
    fills false e = tt

HoldSummary-returned :
    (program : Program) (ranges : List Range) (g : GivenBack) (addresses : List ℕ) (v : Values) (before : List Cell) (caller : SummaryParts) (last : List Cell) (exit : SummaryParts) (has_room : Bool) (cells : List Cell)
    (region : Region) (was : Beside) (x y : Processor) (memory stored : ℕ → ℕ) (r s : Banks)
    → AreFreeFacts region program.facts → IsFree region caller → IsFree region exit
    → Holds v was x.registers → GivesBack program.kind region ranges g addresses x y memory stored r s
    → (has_room ≡ true → AreCellsBack ranges last before cells)
    → HoldSummary program before caller x memory r → HoldSummary program last exit y stored s
    → HoldSummary program cells (summary_returned program ranges g addresses v before caller last exit has_room cells) y stored s
HoldSummary-returned program ranges g addresses v before caller last exit has_room cells region was x y memory stored r s facts free_caller free_exit i b back c h =
    stays_elsewhere program region cells (summary_returned program ranges g addresses v before caller last exit has_room cells) y (of_free region stored memory) stored s facts
    (IsFree-returned program ranges g addresses v before caller last exit has_room cells region free_caller free_exit) (λ a free. sym (of_free-free region stored memory a free))
    (HoldSummary-of_free program ranges g addresses v before caller last exit has_room cells region was x y memory stored r s i b returns c
    (stays_elsewhere program region last exit y stored (of_free region stored memory) s facts free_exit (of_free-free region stored memory) h))
  where
    returns : has_room ≡ true → IsReturn ranges last before cells memory (of_free region stored memory)
    returns e =
        let both = back e in
        record {
          inside = both.inside;
          outside = both.outside;
          memory = λ a out. of_free-same region stored memory a (λ free. b.outside a free out);
        }

pub summary_returned_sound :
    (program : Program) (ranges : List Range) (g : GivenBack) (addresses : List ℕ) (v : Values) (before : List Cell) (caller : SummaryParts) (last : List Cell) (exit : SummaryParts) (has_room : Bool) (cells : List Cell) (after : SummaryParts)
    → after ≡ summary_returned program ranges g addresses v before caller last exit has_room cells
    → IsSoundReturn program ranges g addresses v before caller last exit has_room cells after
summary_returned_sound program ranges g addresses v before caller last exit has_room cells after e =
    subst (λ t. IsSoundReturn program ranges g addresses v before caller last exit has_room cells t) (sym e)
    (record {
      gives = HoldSummary-returned program ranges g addresses v before caller last exit has_room cells;
      free = IsFree-returned program ranges g addresses v before caller last exit has_room cells;
    })
