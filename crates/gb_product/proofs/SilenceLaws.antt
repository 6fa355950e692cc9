-- What covering asks where nothing is said: of bytes cells alone, and of the stack that it isn't put aside.
use Rattle.std.proofs.Common.{◌≡◌, ℕ, zero, suc, ◌==◌, Bool, true, false, not, ◌&&◌, ◌||◌, cond, nat_le, List, [], ◌∷◌, length, take, drop, Option, Some, None, is_none, refl, sym, ◌∙◌, ap, arith}
use Rattle.std.proofs.Math.Nat.{suc-ne-zero}
use Rattle.std.proofs.lemmas.Bool.{and_parts, not-true, eqb-true}
use Rattle.std.proofs.lemmas.Bool.Decides.{nat_tests}
use Rattle.std.specs.List.{list_all}
use Rattle.gb_ops.specs.declared.machine.Kind.{Kind}
use Rattle.gb_ops.specs.declared.registers.Registers.{Registers}
use Rattle.gb_domain.specs.declared.interval.StridedInterval.{StridedInterval}
use Rattle.gb_domain.specs.declared.pairs.Bounds.{Bounds}
use Rattle.gb_domain.specs.declared.summary.Fact.{Fact}
use Rattle.gb_domain.specs.declared.summary.Fill.{Fill}
use Rattle.gb_domain.specs.declared.summary.Shadows.{Shadows}
use Rattle.gb_domain.specs.declared.types.Cell.{Cell}
use Rattle.gb_domain.specs.declared.types.Ctl.{Ctl}
use Rattle.gb_domain.specs.Interval.{any_byte}
use Rattle.gb_domain.specs.RelationRules.{is_some_register}
use Rattle.gb_domain.specs.Silent.{is_unshadowed, is_silent}
use Rattle.gb_domain.specs.Summaries.{SummaryParts, Program}
use Rattle.gb_domain.specs.Values.{interval_of}
use Rattle.gb_abs_effects.specs.Below.gb_abs.Covering.{cell_at, covers_val, covers_cells as covers_cells_of}
use Rattle.gb_abs_effects.specs.Below.gb_vals.Vals.{any_val}
use Rattle.gb_summaries.specs.Below.gb_copies.BankCovering.{covers_register, covers as covers_shadows}
use Rattle.gb_summaries.specs.Below.gb_copies.declared.bank_covering.Known.{Known}
use Rattle.gb_summaries.specs.Below.gb_copies.declared.windows.BankWindow.{BankWindow}
use Rattle.gb_summaries.specs.Below.gb_copies.declared.windows.BankWindow.TheVariants.{First, Second}
use Rattle.gb_summaries.specs.Below.gb_pairs.declared.values.Values.{Values}
use Rattle.gb_summaries.specs.Below.gb_ram_bounds.declared.pointers.Pointers.{Pointers}
use Rattle.gb_summaries.specs.Below.gb_ram_bounds.Cells.{cell_at as strided_at, is_there, has_cell}
use Rattle.gb_summaries.specs.Below.gb_ram_bounds.Covering.{cell_or, byte_at, gives_facts, gives_fills}
use Rattle.gb_summaries.specs.Below.gb_ram_bounds.Facts.{is_given_back, keeps_facts}
use Rattle.gb_summaries.specs.Covering.{covers_facts, covers_fills, known_of, covers_aside, covers_summary}
use Rattle.gb_summaries.specs.Known.{pointer_bounds}
use Rattle.gb_product.specs.Covering.{has_cells_alone, uncopied, byte_in, covers_cells, are_kept, says_less}

both : (a b : Bool) → a ≡ true → b ≡ true → (a && b) ≡ true
both true b h k = k
both false b h k = h

or_true : (b : Bool) → (b || true) ≡ true
or_true true = refl
or_true false = refl

not_so : {X : Type 0} → true ≡ false → X
not_so h = cc

-- ---- bytes

-- where there is no cell, nothing is known
any_without_cell : (cells : List Cell) (a : ℕ) → has_cell cells a ≡ false → cell_at a cells ≡ any_val
unfolding has_cell
any_without_cell [] a h = refl
any_without_cell (c ∷ cells) a h = choose (c.address == a) refl h (any_without_cell cells a)
  where
    choose :
        (b : Bool) → (c.address == a) ≡ b → is_there (cond b (Some (interval_of c.val)) (strided_at cells a)) ≡ false
        → (is_there (strided_at cells a) ≡ false → cell_at a cells ≡ any_val) → cond b c.val (cell_at a cells) ≡ any_val
    choose true e g rest = not_so g
    choose false e g rest = rest g

-- nothing cuts any byte
byte_of_none :
    (n : ℕ) (facts : List Fact) (cells : List Cell) (fills : List Fill) (p : Pointers Bounds) (a : ℕ)
    → n == 0 ≡ true → length fills == 0 ≡ true → has_cell cells a ≡ false → byte_at (take n facts) cells fills p a ≡ any_byte
unfolding byte_at has_cell
byte_of_none (suc n) facts cells fills p a k h e = absurd (suc-ne-zero n (eqb-true _ _ k))
byte_of_none zero facts cells (f ∷ fills) p a k h e = absurd (suc-ne-zero (length fills) (eqb-true _ _ h))
byte_of_none zero facts cells [] p a k h e = choose (strided_at cells a) e
  where
    choose : (o : Option StridedInterval) → is_there o ≡ false → cell_or o any_byte ≡ any_byte
    choose None e = refl
    choose (Some v) e = not_so e

byte_alone :
    (program : Program) (v : Values) (cells : List Cell) (s : SummaryParts) (a : ℕ)
    → has_cells_alone s ≡ true → byte_in program v cells s a ≡ cell_at a cells
unfolding byte_in
byte_alone program v cells s a h = choose (has_cell cells a) refl
  where
    choose :
        (b : Bool) → has_cell cells a ≡ b
        → cond b (cell_at a cells) (uncopied (byte_at (take s.level program.facts) cells s.fills (pointer_bounds v) a)) ≡ cell_at a cells
    choose true e = refl
    choose false e =
        let parts = and_parts _ _ h in
        ap uncopied (byte_of_none s.level program.facts cells s.fills (pointer_bounds v) a parts.0 parts.1 e) ∙ sym (any_without_cell cells a e)

cells_alone :
    (program : Program) (v : Values) (cells : List Cell) (s : SummaryParts) (kept : List Cell)
    → has_cells_alone s ≡ true
    → list_all (λ c. covers_val (byte_in program v cells s c.address) c.val) kept ≡ list_all (λ c. covers_val (cell_at c.address cells) c.val) kept
cells_alone program v cells s [] h = refl
cells_alone program v cells s (c ∷ kept) h =
    ap (λ w. covers_val w c.val && list_all (λ c. covers_val (byte_in program v cells s c.address) c.val) kept) (byte_alone program v cells s c.address h)
    ∙ ap (λ b. covers_val (cell_at c.address cells) c.val && b) (cells_alone program v cells s kept h)

pub covers_cells_alone :
    (program : Program) (v : Values) (cells : List Cell) (s : SummaryParts) (kept : List Cell)
    → has_cells_alone s ≡ true → covers_cells_of cells kept ≡ covers_cells program v cells s kept
unfolding covers_cells covers_cells_of
covers_cells_alone program v cells s kept h = sym (cells_alone program v cells s kept h)

-- ---- what is said of the whole program

given_back : (kept cells : List Cell) → list_all (is_given_back [] kept) cells ≡ true
unfolding is_given_back
given_back kept [] = refl
given_back kept (c ∷ cells) = both _ _ (or_true (has_cell kept c.address)) (given_back kept cells)

drop_none : (n : ℕ) → drop {A = Fact} n [] ≡ []
drop_none zero = refl
drop_none (suc n) = refl

take_none : (m n : ℕ) (facts : List Fact) → n == 0 ≡ true → take n (take m facts) ≡ []
take_none m zero facts h = refl
take_none m (suc n) facts h = absurd (suc-ne-zero n (eqb-true _ _ h))

behind_none : (m n : ℕ) (facts : List Fact) → n == 0 ≡ true → drop m (take n facts) ≡ []
behind_none m zero facts h = drop_none m
behind_none m (suc n) facts h = absurd (suc-ne-zero n (eqb-true _ _ h))

facts_given :
    (known : List Fact) (cells : List Cell) (fills : List Fill) (p : Pointers Bounds) (kept : List Cell) (wanted : List Fact)
    → wanted ≡ [] → gives_facts known cells fills p kept wanted ≡ true
unfolding gives_facts
facts_given known cells fills p kept [] e = refl
facts_given known cells fills p kept (f ∷ wanted) e = cc

facts_kept : (known : List Fact) (cells kept : List Cell) → known ≡ [] → keeps_facts known cells kept ≡ true
unfolding keeps_facts
facts_kept [] cells kept e = given_back kept cells
facts_kept (f ∷ known) cells kept e = cc

facts_covered :
    (facts : List Fact) (v : Values) (cells : List Cell) (s : SummaryParts) (kept : List Cell) (level : ℕ)
    → level == 0 ≡ true → covers_facts facts v cells s kept level ≡ true
unfolding covers_facts
facts_covered facts v cells s kept level h =
    both _ _
    (facts_kept (take level (take s.level facts)) cells kept (take_none s.level level facts h))
    (facts_given (take s.level facts) cells s.fills (pointer_bounds v) kept (drop s.level (take level facts)) (behind_none s.level level facts h))

fills_covered :
    (facts : List Fact) (v : Values) (cells : List Cell) (s : SummaryParts) (kept : List Cell) (fills : List Fill)
    → length fills == 0 ≡ true → covers_fills facts v cells s kept fills ≡ true
unfolding covers_fills gives_fills
fills_covered facts v cells s kept [] h = refl
fills_covered facts v cells s kept (f ∷ fills) h = absurd (suc-ne-zero (length fills) (eqb-true _ _ h))

no_register_covered :
    (k : Kind) (which : BankWindow) (known : Known) (s : Shadows) (a b c d e h l : Bool) → (a || b || c || d || e || h || l) ≡ false
    → covers_shadows k which known s (record { registers = record { a = a; b = b; c = c; d = d; e = e; h = h; l = l }; address = None }) ≡ true
unfolding covers_shadows covers_register
no_register_covered k which known s false false false false false false false n = refl
no_register_covered k which known s true b c d e h l n = cc
no_register_covered k which known s false true c d e h l n = cc
no_register_covered k which known s false false true d e h l n = cc
no_register_covered k which known s false false false true e h l n = cc
no_register_covered k which known s false false false false true h l n = cc
no_register_covered k which known s false false false false false true l n = cc
no_register_covered k which known s false false false false false false true n = cc

no_place_covered :
    (k : Kind) (which : BankWindow) (known : Known) (s : Shadows) (r : Registers Bool) (o : Option ℕ)
    → (is_none o && not (is_some_register r)) ≡ true → covers_shadows k which known s (record { registers = r; address = o }) ≡ true
no_place_covered k which known s r (Some a) n = not_so (sym n)
no_place_covered k which known s r None n = no_register_covered k which known s r.a r.b r.c r.d r.e r.h r.l (not-true _ n)

shadows_covered : (k : Kind) (which : BankWindow) (known : Known) (s t : Shadows) → is_unshadowed t ≡ true → covers_shadows k which known s t ≡ true
shadows_covered k which known s t n = no_place_covered k which known s t.registers t.address n

aside_covered : (o w : Option Bounds) → is_none w ≡ true → covers_aside o w ≡ is_none o
aside_covered None None n = refl
aside_covered (Some b) None n = refl
aside_covered o (Some d) n = not_so (sym n)

all_but_last : (a b c d e : Bool) → a ≡ true → b ≡ true → c ≡ true → d ≡ true → (a && b && c && d && e) ≡ e
all_but_last true true true true e i j k l = refl
all_but_last false b c d e i j k l = cc
all_but_last true false c d e i j k l = cc
all_but_last true true false d e i j k l = cc
all_but_last true true true false e i j k l = cc

-- of what says nothing it is asked alone that the stack isn't put aside
pub covers_silence :
    (program : Program) (v : Values) (c : Ctl) (cells : List Cell) (s : SummaryParts) (kept : List Cell) (t : SummaryParts)
    → is_silent t ≡ true → is_none s.aside ≡ covers_summary program v c cells s kept t
unfolding covers_summary
covers_silence program v c cells s kept t h =
    let level = and_parts _ _ h in
    let fills = and_parts _ _ level.1 in
    let first = and_parts _ _ fills.1 in
    let second = and_parts _ _ first.1 in
    sym
    (all_but_last _ _ _ _ (covers_aside s.aside t.aside)
    (facts_covered program.facts v cells s kept t.level level.0)
    (fills_covered program.facts v cells s kept t.fills fills.0)
    (shadows_covered program.kind First (known_of program First v c cells s t.shadows.first) s.shadows.first t.shadows.first first.0)
    (shadows_covered program.kind Second (known_of program Second v c cells s t.shadows.second) s.shadows.second t.shadows.second second.0)
    ∙ aside_covered s.aside t.aside second.1)

-- ---- facts that hold already

least_first : (m n : ℕ) → nat_le (suc m) (suc n) ≡ true → nat_le m n ≡ true
least_first m n h = grind (arith, nat_tests)

none_least : (n : ℕ) → nat_le (suc n) 0 ≡ true → true ≡ false
none_least n h = grind (arith, nat_tests)

behind_more : (m n : ℕ) (facts : List Fact) → nat_le n m ≡ true → drop m (take n facts) ≡ []
behind_more m zero facts h = drop_none m
behind_more m (suc n) [] h = drop_none m
behind_more zero (suc n) (f ∷ facts) h = not_so (none_least n h)
behind_more (suc m) (suc n) (f ∷ facts) h = behind_more m n facts (least_first n m h)

or_first : (a b : Bool) → a ≡ true → (a || b) ≡ true
or_first true b h = refl
or_first false b h = cc

all_given_back : (known : List Fact) (kept cells : List Cell) → list_all (λ c. has_cell kept c.address) cells ≡ true → list_all (is_given_back known kept) cells ≡ true
unfolding is_given_back
all_given_back known kept [] h = refl
all_given_back known kept (c ∷ cells) h =
    let parts = and_parts _ _ h in both _ _ (or_first _ _ parts.0) (all_given_back known kept cells parts.1)

none_goes : (known : List Fact) (cells kept : List Cell) → are_kept cells kept ≡ true → keeps_facts known cells kept ≡ true
unfolding keeps_facts
none_goes known cells kept h = all_given_back known kept cells h

level_covered :
    (facts : List Fact) (v : Values) (cells : List Cell) (s : SummaryParts) (kept : List Cell) (level : ℕ)
    → are_kept cells kept ≡ true → nat_le level s.level ≡ true → covers_facts facts v cells s kept level ≡ true
unfolding covers_facts
level_covered facts v cells s kept level kept_all h =
    both _ _
    (none_goes (take level (take s.level facts)) cells kept kept_all)
    (facts_given (take s.level facts) cells s.fills (pointer_bounds v) kept (drop s.level (take level facts)) (behind_more s.level level facts h))

-- where no cell goes they hold still
pub covers_level :
    (program : Program) (v : Values) (c : Ctl) (cells : List Cell) (s : SummaryParts) (kept : List Cell) (t : SummaryParts)
    → says_less s t ≡ true → are_kept cells kept ≡ true → true ≡ covers_summary program v c cells s kept t
unfolding covers_summary
covers_level program v c cells s kept t h kept_all =
    let aside = and_parts _ _ h in
    let level = and_parts _ _ aside.1 in
    let fills = and_parts _ _ level.1 in
    let first = and_parts _ _ fills.1 in
    let second = and_parts _ _ first.1 in
    sym
    (all_but_last _ _ _ _ (covers_aside s.aside t.aside)
    (level_covered program.facts v cells s kept t.level kept_all level.0)
    (fills_covered program.facts v cells s kept t.fills fills.0)
    (shadows_covered program.kind First (known_of program First v c cells s t.shadows.first) s.shadows.first t.shadows.first first.0)
    (shadows_covered program.kind Second (known_of program Second v c cells s t.shadows.second) s.shadows.second t.shadows.second second.0)
    ∙ (aside_covered s.aside t.aside second.1 ∙ aside.0))
