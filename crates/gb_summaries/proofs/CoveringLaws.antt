-- What covers a summary holds wherever it does.
use Rattle.std.proofs.Common.{◌≡◌, ℕ, zero, suc, ◌≤◌, Bool, true, ◌&&◌, nat_le, List, [], ◌∷◌, take, drop, Option, Some, None, refl, sym, ◌∙◌, subst, arith}
use Rattle.std.proofs.lemmas.Bool.{and_parts}
use Rattle.std.proofs.lemmas.Bool.Decides.{nat_tests}
use Rattle.gb_ops.specs.declared.machine.Banks.{Banks}
use Rattle.gb_ops.specs.declared.op.Register.{Register}
use Rattle.gb_ops.specs.declared.op.Register.TheVariants.{A, B, C, D, E, H, L}
use Rattle.gb_ops.specs.declared.registers.Processor.{Processor}
use Rattle.gb_ops.specs.declared.registers.Registers.{Registers}
use Rattle.gb_ops.specs.Registers.{get}
use Rattle.gb_domain.specs.declared.pairs.Bounds.{Bounds}
use Rattle.gb_domain.specs.declared.summary.Fact.{Fact}
use Rattle.gb_domain.specs.declared.summary.Shadows.{Shadows}
use Rattle.gb_domain.specs.declared.types.Cell.{Cell}
use Rattle.gb_domain.specs.declared.types.Ctl.{Ctl}
use Rattle.gb_domain.specs.declared.types.Val.{Val}
use Rattle.gb_domain.specs.Meaning.{In}
use Rattle.gb_domain.specs.Summaries.{SummaryParts, Program}
use Rattle.gb_domain.specs.Values.{interval_of}
use Rattle.gb_relations.specs.Below.gb_pairs.declared.values.Values.{Values}
use Rattle.gb_relations.specs.Below.gb_copies.declared.windows.BankWindow.{BankWindow}
use Rattle.gb_relations.specs.Below.gb_copies.declared.windows.BankWindow.TheVariants.{First, Second}
use Rattle.gb_relations.specs.Below.gb_copies.ShadowMeaning.{AreShadows}
use Rattle.gb_relations.specs.Below.gb_copies.BankCovering.{covers, IsKnown}
use Rattle.gb_relations.proofs.Below.gb_copies_laws.BankCoveringLaws.{covers_sound}
use Rattle.gb_ram_bounds.specs.Covering.{gives_facts}
use Rattle.gb_ram_bounds.specs.Facts.{keeps_facts}
use Rattle.gb_ram_bounds.specs.Meaning.{HoldFacts, HoldsState}
use Rattle.gb_ram_bounds.proofs.CoveringLaws.{byte_at_sound, gives_facts_sound, gives_fills_sound}
use Rattle.gb_ram_bounds.proofs.FactLaws.{keeps_facts_sound}
use Rattle.gb_summaries.specs.Meaning.{HoldSummary, IsAside, pointers_of}
use Rattle.gb_summaries.specs.Known.{pointer_bounds, HoldsKnown, IsPartOf}
use Rattle.gb_summaries.specs.Covering.{covers_facts, covers_fills, intervals_of, byte_at_some, known_of, covers_aside, covers_summary}
use Rattle.gb_summaries.proofs.KnownLaws.{In-interval, PointersIn-known}

-- ---- facts

-- the first n of the first m hold, and of the first n those behind m
HoldFacts-joined :
    (facts : List Fact) (n m : ℕ) (cells : List Cell) (memory : ℕ → ℕ)
    → HoldFacts (take n (take m facts)) cells memory → HoldFacts (drop m (take n facts)) cells memory → HoldFacts (take n facts) cells memory
HoldFacts-joined [] zero m cells memory g h = tt
HoldFacts-joined [] (suc n) m cells memory g h = tt
HoldFacts-joined (f ∷ facts) zero m cells memory g h = tt
HoldFacts-joined (f ∷ facts) (suc n) zero cells memory g h = h
HoldFacts-joined (f ∷ facts) (suc n) (suc m) cells memory g h = (g.0, HoldFacts-joined facts n m cells memory g.1 h)

-- fewer of them hold too
pub HoldFacts-fewer : (facts : List Fact) (n : ℕ) (cells : List Cell) (memory : ℕ → ℕ) → HoldFacts facts cells memory → HoldFacts (take n facts) cells memory
HoldFacts-fewer [] zero cells memory h = tt
HoldFacts-fewer [] (suc n) cells memory h = tt
HoldFacts-fewer (f ∷ facts) zero cells memory h = tt
HoldFacts-fewer (f ∷ facts) (suc n) cells memory h = (h.0, HoldFacts-fewer facts n cells memory h.1)

pub HoldsState-known :
    (program : Program) (v : Values) (c : Ctl) (cells : List Cell) (s : SummaryParts) (p : Processor) (memory : ℕ → ℕ) (banks : Banks)
    → HoldsKnown program v c cells s p memory banks
    → HoldsState (take s.level program.facts) cells s.fills (pointer_bounds v) memory (pointers_of p)
HoldsState-known program v c cells s p memory banks h =
    record {
      bytes = h.bytes;
      cells_hold = h.cells_hold;
      facts_hold = h.summary.facts;
      fills_hold = h.summary.fills;
      pointers = PointersIn-known v h.was p h.values;
    }

HoldFacts-covered :
    (program : Program) (v : Values) (c : Ctl) (cells : List Cell) (s : SummaryParts) (kept : List Cell) (level : ℕ) (p : Processor) (memory : ℕ → ℕ) (banks : Banks)
    → covers_facts program.facts v cells s kept level ≡ true → HoldsKnown program v c cells s p memory banks
    → HoldFacts (take level program.facts) kept memory
unfolding covers_facts
HoldFacts-covered program v c cells s kept level p memory banks e h =
    let parts = and_parts (keeps_facts (take level (take s.level program.facts)) cells kept) (gives_facts (take s.level program.facts) cells s.fills (pointer_bounds v) kept (drop s.level (take level program.facts))) e in
    HoldFacts-joined program.facts level s.level kept memory
    ((keeps_facts_sound (take level (take s.level program.facts)) cells kept _ refl parts.0).gives memory h.cells_hold (HoldFacts-fewer (take s.level program.facts) level cells memory h.summary.facts))
    ((gives_facts_sound (take s.level program.facts) cells s.fills (pointer_bounds v) kept (drop s.level (take level program.facts)) _ refl parts.1).gives memory (pointers_of p) (HoldsState-known program v c cells s p memory banks h))

-- ---- shadows

In-intervals : (x : Registers Val) (y : Registers ℕ) (q : Register) → In (interval_of (get q x)) (get q y) → In (get q (intervals_of x)) (get q y)
In-intervals x y A m = m
In-intervals x y B m = m
In-intervals x y C m = m
In-intervals x y D m = m
In-intervals x y E m = m
In-intervals x y H m = m
In-intervals x y L m = m

In-byte_at_some :
    (program : Program) (v : Values) (c : Ctl) (cells : List Cell) (s : SummaryParts) (p : Processor) (memory : ℕ → ℕ) (banks : Banks) (o : Option ℕ) (a : ℕ)
    → HoldsKnown program v c cells s p memory banks → o ≡ Some a → In (byte_at_some program.facts v cells s o) (memory a)
In-byte_at_some program v c cells s p memory banks o a h e =
    subst (λ w. In (byte_at_some program.facts v cells s w) (memory a)) (sym e)
    ((byte_at_sound (take s.level program.facts) cells s.fills (pointer_bounds v) a _ refl).gives memory (pointers_of p) (HoldsState-known program v c cells s p memory banks h))

pub IsKnown-known :
    (program : Program) (which : BankWindow) (v : Values) (c : Ctl) (cells : List Cell) (s : SummaryParts) (t : Shadows) (p : Processor) (memory : ℕ → ℕ) (banks : Banks)
    → HoldsKnown program v c cells s p memory banks
    → IsKnown program.kind which (known_of program which v c cells s t) t p.registers memory banks
unfolding known_of
IsKnown-known program which v c cells s t p memory banks h =
    record {
      registers = λ q. In-intervals v.registers p.registers q (In-interval (get q v.registers) (get q p.registers) (h.values.registers q));
      byte = λ a. In-byte_at_some program v c cells s p memory banks t.address a h;
      least = h.windows.least which;
      greatest = h.windows.most which;
    }

AreShadows-covered :
    (program : Program) (which : BankWindow) (v : Values) (c : Ctl) (cells : List Cell) (s : SummaryParts) (t u : Shadows) (p : Processor) (memory : ℕ → ℕ) (banks : Banks)
    → covers program.kind which (known_of program which v c cells s t) u t ≡ true → HoldsKnown program v c cells s p memory banks
    → AreShadows program.kind which u p.registers memory banks → AreShadows program.kind which t p.registers memory banks
AreShadows-covered program which v c cells s t u p memory banks e h shadows =
    (covers_sound program.kind which (known_of program which v c cells s t) u t _ refl e).gives p.registers memory banks (IsKnown-known program which v c cells s t p memory banks h) shadows

-- ---- a stack put aside

aside-least : (x y n : ℕ) → nat_le y x ≡ true → x ≤ n → y ≤ n
aside-least x y n e h = grind (arith, nat_tests)

aside-most : (x y n : ℕ) → nat_le x y ≡ true → n ≤ x → n ≤ y
aside-most x y n e h = grind (arith, nat_tests)

IsAside-covered : (o w : Option Bounds) (p : Processor) → covers_aside o w ≡ true → IsAside o p → IsAside w p
IsAside-covered None None p e h = tt
IsAside-covered None (Some d) p e h = cc
IsAside-covered (Some b) None p e h = tt
IsAside-covered (Some b) (Some d) p e h =
    let parts = and_parts (nat_le d.first b.first) (nat_le b.last d.last) e in
    record { first = aside-least b.first d.first p.sp parts.0 h.first; last = aside-most b.last d.last p.sp parts.1 h.last; off = h.off }

-- ---- all of it

record AreCovered (program : Program) (v : Values) (c : Ctl) (cells : List Cell) (s : SummaryParts) (kept : List Cell) (t : SummaryParts) : Type 0 where
  facts : covers_facts program.facts v cells s kept t.level ≡ true
  fills : covers_fills program.facts v cells s kept t.fills ≡ true
  first : covers program.kind First (known_of program First v c cells s t.shadows.first) s.shadows.first t.shadows.first ≡ true
  second : covers program.kind Second (known_of program Second v c cells s t.shadows.second) s.shadows.second t.shadows.second ≡ true
  aside : covers_aside s.aside t.aside ≡ true

are_covered : (a b c d e : Bool) → (a && b && c && d && e) ≡ true → (a ≡ true) × ((b ≡ true) × ((c ≡ true) × ((d ≡ true) × (e ≡ true))))
are_covered a b c d e h =
    let last = and_parts (a && b && c && d) e h in
    let fourth = and_parts (a && b && c) d last.0 in
    let third = and_parts (a && b) c fourth.0 in
    let second = and_parts a b third.0 in
    (second.0, (second.1, (third.1, (fourth.1, last.1))))

AreCovered-all :
    (program : Program) (v : Values) (c : Ctl) (cells : List Cell) (s : SummaryParts) (kept : List Cell) (t : SummaryParts)
    → covers_summary program v c cells s kept t ≡ true → AreCovered program v c cells s kept t
unfolding covers_summary
AreCovered-all program v c cells s kept t e =
    let p = are_covered _ _ _ _ _ e in
    record { facts = p.0; fills = p.1.0; first = p.1.1.0; second = p.1.1.1.0; aside = p.1.1.1.1 }

HoldSummary-covered :
    (program : Program) (v : Values) (c : Ctl) (cells : List Cell) (s : SummaryParts) (kept : List Cell) (t : SummaryParts) (p : Processor) (memory : ℕ → ℕ) (banks : Banks)
    → AreCovered program v c cells s kept t → HoldsKnown program v c cells s p memory banks → HoldSummary program kept t p memory banks
unfolding covers_fills
HoldSummary-covered program v c cells s kept t p memory banks e h =
    record {
      facts = HoldFacts-covered program v c cells s kept t.level p memory banks e.facts h;
      fills = (gives_fills_sound (take s.level program.facts) cells s.fills (pointer_bounds v) kept t.fills _ refl e.fills).gives memory (pointers_of p) (HoldsState-known program v c cells s p memory banks h);
      first = AreShadows-covered program First v c cells s t.shadows.first s.shadows.first p memory banks e.first h h.summary.first;
      second = AreShadows-covered program Second v c cells s t.shadows.second s.shadows.second p memory banks e.second h h.summary.second;
      aside = IsAside-covered s.aside t.aside p e.aside h.summary.aside;
    }

pub covers_summary_sound :
    (program : Program) (v : Values) (c : Ctl) (cells : List Cell) (s : SummaryParts) (kept : List Cell) (t : SummaryParts) (o : Bool)
    → o ≡ covers_summary program v c cells s kept t → o ≡ true → IsPartOf program v c cells s kept t
covers_summary_sound program v c cells s kept t o e is =
    record { gives = λ p memory banks. HoldSummary-covered program v c cells s kept t p memory banks (AreCovered-all program v c cells s kept t (sym e ∙ is)) }
