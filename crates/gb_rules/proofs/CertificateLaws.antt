-- What certificates of any version have in common: the parts of their states, nodes and procedures.
use Rattle.std.proofs.Common.{◌≡◌, ℕ, ◌-◌, ◌%◌, ◌<◌, ◌==◌, ◌⊎◌, inl, inr, Bool, true, false, not, ◌&&◌, ◌||◌, nat_le, nat_lt, List, [], ◌∷◌, length, Option, Some, None, refl, sym, ◌∙◌, subst, arith, ap}
use Rattle.std.proofs.lemmas.Bool.{and_parts, not-true, eqb-true}
use Rattle.std.proofs.lemmas.Bool.Decides.{nat_tests}
use Rattle.std.specs.Prelude.{IfSome, is_some}
use Rattle.std.specs.List.{AllByRecursion, list_all}
use Rattle.gb_ops.specs.declared.machine.Region.{Region}
use Rattle.gb_successors.specs.Below.gb_domain.declared.rules.Rules.{Rules}
use Rattle.gb_successors.specs.Below.gb_domain.declared.rules.Rules.TheVariants.{Simple, Extended}
use Rattle.gb_successors.specs.Below.gb_domain.declared.summary.Fact.{Fact}
use Rattle.gb_successors.specs.Below.gb_domain.declared.summary.Fill.{Fill}
use Rattle.gb_successors.specs.Below.gb_domain.declared.types.Cell.{Cell}
use Rattle.gb_successors.specs.Below.gb_domain.declared.types.Core.{Core}
use Rattle.gb_successors.specs.Below.gb_domain.declared.types.Val.{Val}
use Rattle.gb_successors.specs.Below.gb_domain.Areas.{are_in_ram, is_area, is_free_byte, is_item, is_place_at, meets}
use Rattle.gb_successors.specs.Below.gb_domain.Certificate.{Certificate}
use Rattle.gb_successors.specs.Below.gb_domain.Limits.{rules_of}
use Rattle.gb_successors.specs.Below.gb_domain.Rules.{IsVal, IsCell, IsChain, IsCore, after_cell}
use Rattle.gb_successors.specs.Below.gb_domain.declared.pairs.Bounds.{Bounds}
use Rattle.gb_successors.specs.Below.gb_domain.Summaries.{SummaryParts, no_summary}
use Rattle.gb_successors.specs.Below.gb_domain.Types.{AbsState, ProcedureParts, Node}
use Rattle.gb_calls.specs.Below.gb_states.declared.role.Role.{Role}
use Rattle.gb_calls.specs.Below.gb_states.declared.role.Role.TheVariants as role
use Rattle.gb_calls.specs.Below.gb_states.Rules.{fits, is_base_of, is_silent, is_sayable, is_core_sayable, is_cell_sayable, is_state_sayable, needs_stack, may_be_pushed, role_of, IsRange, after_range, is_after, IsState}
use Rattle.gb_calls.specs.Below.gb_states.WholeRules.{IsValIn, IsStretch, IsFact, IsFill, IsSummary, AreFactsBy, IsCoreIn, IsCellIn, IsStateIn, IsProcedureBy, IsNodeBy, IsCertificate, IsWithin, may_be_aside, procedure_form, item_base, stack_bytes}
use Rattle.gb_calls.proofs.Below.gb_states_laws.SummaryLaws.{silent-is}
use Rattle.gb_successors.specs.Below.gb_abs.Cells.{ArePlaced}
use Rattle.gb_successors.specs.Below.gb_abs_memory.Sound.{AreVals}
use Rattle.gb_successors.specs.Below.gb_product.Below.gb_summaries.Below.gb_ram_bounds.Facts.{has_address}
use Rattle.gb_successors.specs.Below.gb_product.Below.gb_summaries.Elsewhere.{IsFreeFact, IsFreeFill, AreFreeFacts, IsFree}
use Rattle.gb_successors.specs.Below.gb_relations.Places.{is_free}
use Rattle.gb_successors.specs.Below.gb_relations.Sound.{IsByteFree}
use Rattle.gb_calls.specs.Below.gb_states.declared.form.ProcedureForm.{ProcedureForm}
use Rattle.gb_successors.specs.Below.gb_domain.Pairs.{ArePairs}

-- ---- versions

unlike : {X : Type 0} → Extended ≡ Simple → X
unlike h = cc

-- version 4 has the rules of version 3
fourth_rules : (v : ℕ) → (v == 4) ≡ true → rules_of v ≡ Extended
unfolding rules_of
fourth_rules v h = let is : v ≡ 4 = eqb-true v 4 h in subst (λ n. rules_of n ≡ Extended) (sym is) refl

-- by the rules of versions 1 and 2 the version isn't 4
pub not_fourth : (v : ℕ) → rules_of v ≡ Simple → (v == 4) ≡ false
not_fourth v simple = by (v == 4) refl
  where
    by : (b : Bool) → (v == 4) ≡ b → b ≡ false
    by true e = unlike (sym (fourth_rules v e) ∙ simple)
    by false e = refl

-- ---- what lies outside the stack region

-- an address among others of RAM
ram_between : (first last a : ℕ) → is_area first last ≡ true → (nat_le first a && nat_le a last) ≡ true → are_in_ram a a ≡ true
ram_between first last a area h = grind (arith, nat_tests)

apart_between : (region : Region) (first last a : ℕ) → meets region first last ≡ false → (nat_le first a && nat_le a last) ≡ true → meets region a a ≡ false
apart_between region first last a apart h = grind (arith, nat_tests)

both_free : (ram meeting : Bool) → ram ≡ true → meeting ≡ false → (ram && not meeting) ≡ true
both_free true false e f = refl
both_free false meeting e f = cc
both_free true true e f = cc

free_between : (region : Region) (first last a : ℕ) → IsStretch region first last → (nat_le first a && nat_le a last) ≡ true → is_free region a ≡ true
free_between region first last a s h = both_free _ _ (ram_between first last a s.area h) (apart_between region first last a s.apart h)

first_two : (a b c d : Bool) → (a && b && c && d) ≡ true → (a && b) ≡ true
first_two true true c d h = refl
first_two true false c d h = h
first_two false b c d h = h

free_fact : (region : Region) (f : Fact) → IsFact region f → IsFreeFact region f
unfolding has_address
free_fact region f h = record { gives = λ a has. free_between region f.first f.last a h.stretch (first_two (nat_le f.first a) (nat_le a f.last) (nat_lt 0 f.step) ((a - f.first) % f.step == 0) has) }

free_facts : (region : Region) (facts : List Fact) → AllByRecursion (IsFact region) facts → AreFreeFacts region facts
free_facts region [] h = tt
free_facts region (f ∷ facts) h = (free_fact region f h.0, free_facts region facts h.1)

pub facts_free : (fourth : Bool) (region : Region) (facts : List Fact) → AreFactsBy fourth region facts → AreFreeFacts region facts
facts_free true region facts h = free_facts region facts h.each
facts_free false region facts h = subst (AreFreeFacts region) (sym h) tt

free_fills : (region : Region) (fills : List Fill) → AllByRecursion (IsFill region) fills → AllByRecursion (IsFreeFill region) fills
free_fills region [] h = tt
free_fills region (f ∷ fills) h = (record { gives = λ a between. free_between region f.first f.last a h.0.stretch between }, free_fills region fills h.1)

-- an address among the places lies in RAM, outside the region
pub free_from : (region : Region) (o : Option ℕ) → IfSome o (λ a. is_free_byte region a ≡ true) → IsByteFree region o
free_from region None h = tt
free_from region (Some a) h = without_order (nat_le a a) (are_in_ram a a) (not (meets region a a)) h
  where
    without_order : (order ram apart : Bool) → ((order && ram) && apart) ≡ true → (ram && apart) ≡ true
    without_order true ram apart h = h
    without_order false ram apart h = cc

free_summary : (facts : ℕ) (region : Region) (may_be_aside : Bool) (s : SummaryParts) → IsSummary facts region may_be_aside s → IsFree region s
free_summary facts region may_be_aside s h = record {
  fills = free_fills region s.fills h.fills;
  first = free_from region s.shadows.first.address h.first;
  second = free_from region s.shadows.second.address h.second;
}

-- ---- states

last_of : (a b c d : Bool) → (a && (b && (c && d))) ≡ true → d ≡ true
last_of a b c d h = (and_parts c d (and_parts b (c && d) (and_parts a (b && (c && d)) h).1).1).1

-- those of versions 1 to 3 say nothing of the whole program
nothing_said : (rules : Rules) (s : AbsState) → is_state_sayable rules s ≡ true → s.summary ≡ no_summary
nothing_said rules s h =
    silent-is s.summary (last_of (is_core_sayable rules s.core) (list_all (is_sayable rules) s.items) (list_all (is_cell_sayable rules) s.cells) (is_silent s.summary) h)

-- of what says nothing nothing lies anywhere
free_quiet : (region : Region) (s : SummaryParts) → s ≡ no_summary → IsFree region s
free_quiet region s e = subst (IsFree region) (sym e) (record { fills = tt; first = tt; second = tt })

-- what a state has, by the rules that it is taken on by
pub record HasStateParts (rules : Rules) (of : Role) (region : Region) (s : AbsState) : Type 0 where
  pub core : IsCore s.core
  pub stack : (s.core.stack_set || not (needs_stack of)) ≡ true
  pub pushed : may_be_pushed rules of s.core.stack_set (length s.items) ≡ true
  pub items : AllByRecursion IsVal s.items
  pub placed : ArePlaced region s.cells
  pub vals : AreVals s.cells
  pub pairs : ArePairs (is_free_byte region) s.relations.pairs
  pub quiet : rules ≡ Simple → s.summary ≡ no_summary
  pub apart : IsFree region s.summary
  pub aside : IfSome s.summary.aside (λ b. b.last < 65536)
  pub left : of ≡ role.Exit → s.summary.aside ≡ None
  pub place : (rules ≡ Simple) ⊎ (of ≡ role.Exit) → IsByteFree region s.relations.byte.address

not_aside : (s : SummaryParts) → s ≡ no_summary → s.aside ≡ None
not_aside s e = ap (λ (m : SummaryParts). m.aside) e

small_none : (o : Option Bounds) → o ≡ None → IfSome o (λ b. b.last < 65536)
small_none o e = subst (λ (q : Option Bounds). IfSome q (λ b. b.last < 65536)) (sym e) tt

small_within : (o : Option Bounds) → IfSome o IsWithin → IfSome o (λ b. b.last < 65536)
small_within None h = tt
small_within (Some b) h = h.last

none_left : (r : Role) (core : Core) (o : Option Bounds) → r ≡ role.Exit → (may_be_aside r core || not (is_some o)) ≡ true → o ≡ None
none_left role.Exit core None e h = refl
none_left role.Exit core (Some b) e h = cc
none_left role.Main core o e h = absurd (let bad : role.Main ≡ role.Exit = e in cc)
none_left role.Other core o e h = absurd (let bad : role.Other ≡ role.Exit = e in cc)

-- an exit names no item as a place
free_exit : (form : ProcedureForm) (r : Role) (region : Region) (count : ℕ) (o : Option ℕ) → r ≡ role.Exit → IfSome o (λ a. is_place_at (stack_bytes form r region count) a ≡ true) → IsByteFree region o
free_exit form r region count None e h = tt
free_exit form role.Exit region count (Some a) e h = by (item_base form.base region) a (meets region a a) h
  where
    no_item : (base a : ℕ) → is_item base 0 a ≡ false
    no_item base a = grind (arith, nat_tests)

    of_place : (order ram apart item : Bool) → item ≡ false → ((order && ram) && (apart || item)) ≡ true → (ram && apart) ≡ true
    of_place true true true item e h = refl
    of_place true true false item e h = sym e ∙ h
    of_place true false apart item e h = cc
    of_place false ram apart item e h = cc

    by : (base a : ℕ) (met : Bool) → ((nat_le a a && are_in_ram a a) && (not met || is_item base 0 a)) ≡ true → (are_in_ram a a && not met) ≡ true
    by base a met h = of_place (nat_le a a) (are_in_ram a a) (not met) (is_item base 0 a) (no_item base a) h
free_exit form role.Main region count (Some a) e h = absurd (let bad : role.Main ≡ role.Exit = e in cc)
free_exit form role.Other region count (Some a) e h = absurd (let bad : role.Other ≡ role.Exit = e in cc)

placed_from : (region : Region) (least : ℕ) (cells : List Cell) → IsChain (IsCell region) after_cell least cells → ArePlaced region cells
placed_from region least [] h = tt
placed_from region least (c ∷ rest) h = (record { area = h.0.area; apart = h.0.apart }, placed_from region (after_cell c) rest h.1)

vals_from : (region : Region) (least : ℕ) (cells : List Cell) → IsChain (IsCell region) after_cell least cells → AreVals cells
vals_from region least [] h = tt
vals_from region least (c ∷ rest) h = (h.0.val, vals_from region (after_cell c) rest h.1)

-- one of versions 1 to 3
has_parts : (rules : Rules) (role : Role) (region : Region) (s : AbsState) → IsState rules role region s → HasStateParts rules role region s
has_parts rules role region s h = record {
  core = h.core;
  stack = h.stack;
  pushed = h.pushed;
  items = h.items;
  placed = placed_from region 0 s.cells h.cells;
  vals = vals_from region 0 s.cells h.cells;
  pairs = h.relations.pairs;
  quiet = λ simple. nothing_said rules s h.sayable;
  apart = free_quiet region s.summary (nothing_said rules s h.sayable);
  aside = small_none s.summary.aside (not_aside s.summary (nothing_said rules s h.sayable));
  left = λ exit. not_aside s.summary (nothing_said rules s h.sayable);
  place = λ plain. free_from region s.relations.byte.address h.relations.byte.address;
}

core_in : (kept : ℕ) (c : Core) → IsCoreIn kept c → IsCore c
core_in kept c h = record { ime = h.ime; bound = h.bound; ctl = h.ctl; flags = h.flags; ie = h.ie.val; registers = λ r. (h.registers r).val }

items_in : (kept : ℕ) (items : List Val) → AllByRecursion (IsValIn kept) items → AllByRecursion IsVal items
items_in kept [] h = tt
items_in kept (v ∷ items) h = (h.0.val, items_in kept items h.1)

placed_in : (kept : ℕ) (region : Region) (least : ℕ) (cells : List Cell) → IsChain (IsCellIn kept region) after_cell least cells → ArePlaced region cells
placed_in kept region least [] h = tt
placed_in kept region least (c ∷ rest) h =
    let p = and_parts (is_area c.address c.address) (not (meets region c.address c.address)) h.0.address.free in
    (record { area = p.0; apart = not-true _ p.1 }, placed_in kept region (after_cell c) rest h.1)

vals_in : (kept : ℕ) (region : Region) (least : ℕ) (cells : List Cell) → IsChain (IsCellIn kept region) after_cell least cells → AreVals cells
vals_in kept region least [] h = tt
vals_in kept region least (c ∷ rest) h = (h.0.val.val, vals_in kept region (after_cell c) rest h.1)

free_in : (form : ProcedureForm) (r : Role) (region : Region) (count : ℕ) (o : Option ℕ) → IfSome o (λ a. is_place_at (stack_bytes form r region count) a ≡ true) → (Extended ≡ Simple) ⊎ (r ≡ role.Exit) → IsByteFree region o
free_in form r region count o h (inl e) = unlike e
free_in form r region count o h (inr e) = free_exit form r region count o e h

-- one of version 4
has_parts_in : (facts : ℕ) (form : ProcedureForm) (role : Role) (region : Region) (s : AbsState) → IsStateIn facts form role region s → HasStateParts Extended role region s
has_parts_in facts form role region s h = record {
  core = core_in form.kept s.core h.core;
  stack = h.stack;
  pushed = h.pushed;
  items = items_in form.kept s.items h.items;
  placed = placed_in form.kept region 0 s.cells h.cells;
  vals = vals_in form.kept region 0 s.cells h.cells;
  pairs = h.relations.pairs;
  quiet = λ simple. unlike simple;
  apart = free_summary facts region _ s.summary h.summary;
  aside = small_within s.summary.aside h.summary.aside;
  left = λ exit. none_left role s.core s.summary.aside exit h.summary.may;
  place = free_in form role region (length s.items) s.relations.byte.address h.relations.byte.address;
}

-- ---- nodes

pub record HasNodeParts (rules : Rules) (region : Region) (n : Node) : Type 0 where
  pub address : n.address < 65536
  pub state : HasStateParts rules (role_of n.procedure) region n.state

pub node_parts : (fourth : Bool) (version facts : ℕ) (form_of : ℕ → ProcedureForm) (region : Region) (procedures : ℕ) (before : ℕ × ℕ) (n : Node) → (version == 4) ≡ fourth
    → IsNodeBy fourth version facts form_of region procedures before n → HasNodeParts (rules_of version) region n
node_parts true version facts form_of region procedures before n e h =
    subst (λ r. HasNodeParts r region n) (sym (fourth_rules version e))
    (record {
      address = h.address;
      state = has_parts_in facts (form_of n.procedure) (role_of n.procedure) region n.state h.state;
    })
node_parts false version facts form_of region procedures before n e h =
    record {
      address = h.address;
      state = has_parts (rules_of version) (role_of n.procedure) region n.state h.state;
    }

-- ---- procedures

pub record HasProcedureParts (rules : Rules) (region : Region) (is_main : Bool) (p : ProcedureParts) : Type 0 where
  pub base : is_base_of rules is_main region p.base ≡ true
  pub room : fits is_main region p.need ≡ true
  pub ranges : IsChain (IsRange region) after_range 0 p.ranges
  pub exit : IfSome p.exit (HasStateParts rules role.Exit region)

exit_parts : (rules : Rules) (region : Region) (o : Option AbsState) → IfSome o (IsState rules role.Exit region) → IfSome o (HasStateParts rules role.Exit region)
exit_parts rules region None h = tt
exit_parts rules region (Some s) h = has_parts rules role.Exit region s h

exit_parts_in : (facts : ℕ) (form : ProcedureForm) (region : Region) (o : Option AbsState) → IfSome o (IsStateIn facts form role.Exit region) → IfSome o (HasStateParts Extended role.Exit region)
exit_parts_in facts form region None h = tt
exit_parts_in facts form region (Some s) h = has_parts_in facts form role.Exit region s h

procedure_parts : (fourth : Bool) (version facts : ℕ) (region : Region) (nodes : ℕ) (is_main : Bool) (p : ProcedureParts) → (version == 4) ≡ fourth
    → IsProcedureBy fourth version facts region nodes is_main p → HasProcedureParts (rules_of version) region is_main p
procedure_parts true version facts region nodes is_main p e h =
    subst (λ r. HasProcedureParts r region is_main p) (sym (fourth_rules version e))
    (record { base = h.base; room = h.room; ranges = h.ranges; exit = exit_parts_in facts (procedure_form p) region p.exit h.exit })
procedure_parts false version facts region nodes is_main p e h =
    record { base = h.base; room = h.room; ranges = h.ranges; exit = exit_parts (rules_of version) region p.exit h.exit }

procedures_from : (c : Certificate) (is_main : Bool) (ps : List ProcedureParts) → IsChain (IsProcedureBy (c.version == 4) c.version (length c.facts) c.region (length c.nodes)) is_after is_main ps
    → IsChain (HasProcedureParts (rules_of c.version) c.region) is_after is_main ps
procedures_from c is_main [] h = tt
procedures_from c is_main (p ∷ ps) h =
    (procedure_parts (c.version == 4) c.version (length c.facts) c.region (length c.nodes) is_main p refl h.0, procedures_from c (is_after p) ps h.1)

-- those of a certificate
pub procedures_have : (c : Certificate) → IsCertificate c → IsChain (HasProcedureParts (rules_of c.version) c.region) is_after true c.procedures
procedures_have c h = procedures_from c true c.procedures h.procedures
