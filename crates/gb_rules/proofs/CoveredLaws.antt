-- Value by value: what a loop over values keeps; and states that are covered, by their parts.
use Rattle.std.proofs.Common.{◌≡◌, ℕ, zero, suc, ◌+◌, ◌-◌, ◌≤◌, ◌<◌, ◌⊎◌, inl, inr, Bool, true, false, ◌&&◌, refl, sym, ◌∙◌, ap, subst, arith}
use Rattle.std.specs.Prelude.{List, Option, option_map}
use Rattle.gb_ops.specs.declared.op.Register.{Register}
use Rattle.gb_successors.specs.Below.gb_domain.declared.pairs.PairBounds.{PairBounds}
use Rattle.gb_successors.specs.Below.gb_domain.declared.relations.Relations.{Relations}
use Rattle.gb_successors.specs.Below.gb_domain.declared.rules.Rules.{Rules}
use Rattle.gb_successors.specs.Below.gb_domain.declared.rules.Rules.TheVariants.{Extended}
use Rattle.gb_successors.specs.Below.gb_domain.declared.types.Val.{Val}
use Rattle.gb_successors.specs.Below.gb_domain.Limits.{cell_room}
use Rattle.gb_successors.specs.Below.gb_abs.Cells.{with_cell}
use Rattle.gb_successors.specs.Below.gb_domain.declared.types.Core.{Core}
use Rattle.gb_successors.specs.Below.gb_domain.Certificate.{Certificate}
use Rattle.gb_successors.specs.Below.gb_domain.Types.{AbsState, Node}
use Rattle.gb_successors.specs.Below.gb_abs.Operations.{core_with_value}
use Rattle.gb_successors.specs.Below.gb_product.declared.parts.Product.{Product}
use Rattle.gb_successors.specs.Below.gb_product.Reduced.{reduced_wholly}
use Rattle.gb_successors.specs.Below.gb_abs.Operations.{with_core}
use Rattle.gb_successors.specs.Below.gb_domain.Summaries.{SummaryParts, Program}
use Rattle.gb_successors.specs.Behind.{with_relations, with_summary}
use Rattle.gb_rules.specs.Covered.{all_from, covered_at, is_covered_if, reduced_state, with_byte, with_parts, with_product, with_value}

-- one more value passes
pub all_from-more : (test : ℕ → Bool) (first v : ℕ) → first ≤ v → all_from test first (v - first) ≡ true → test v ≡ true → all_from test first (v + 1 - first) ≡ true
all_from-more test first v le before now =
    let count : v + 1 - first ≡ suc (v - first) = omega arith in
    let at : first + (v - first) ≡ v = omega arith in
    ap (all_from test first) count ∙ rw (before, at, now) refl

last_fails : (b c : Bool) → c ≡ false → (b && c) ≡ false
last_fails true c h = h
last_fails false c h = refl

-- a value that doesn't pass is the end of it
pub all_from-stopped : (test : ℕ → Bool) (first n v : ℕ) → first ≤ v → v < first + n → test v ≡ false → all_from test first n ≡ false
all_from-stopped test first zero v le lt apart = absurd (omega arith)
all_from-stopped test first (suc n) v le lt apart = elim (split first n v lt) [
  | inl less ↦ rw (all_from-stopped test first n v le less apart) refl
  | inr same ↦ last_fails (all_from test first n) (test (first + n)) (subst (λ k. test k ≡ false) same apart)
]
  where
    split : (first n v : ℕ) → v < first + suc n → (v < first + n) ⊎ (v ≡ first + n)
    split first n v h = grind arith

-- ---- one value

-- what is left of the states with a value in a register, and whether a node stands for it
pub register_left :
    (program : Program) (rules : Rules) (entered : PairBounds) (nodes : List Node) (procedure a : ℕ) (core : Core) (relations : Relations) (m : SummaryParts) (lists : AbsState)
    (r : Register) (v : ℕ) (left : Option Product) (b : Bool)
    → left ≡ reduced_wholly program rules entered (core_with_value r v core) relations lists.cells m
    → b ≡ is_covered_if program nodes procedure a (option_map (with_product (with_parts core relations m lists)) left)
    → b ≡ is_covered_if program nodes procedure a (reduced_state program rules entered (with_value r (with_parts core relations m lists) v))
unfolding reduced_state with_value
register_left program rules entered nodes procedure a core relations m lists r v left b e h =
    h ∙ ap (λ o. is_covered_if program nodes procedure a (option_map (with_product (with_parts core relations m lists)) o)) e

-- the same of a byte of RAM
pub byte_left :
    (program : Program) (rules : Rules) (entered : PairBounds) (nodes : List Node) (procedure a : ℕ) (core : Core) (relations : Relations) (m : SummaryParts) (lists other : AbsState)
    (at : ℕ) (known : Val) (v : ℕ) (left : Option Product) (b : Bool)
    → other ≡ record lists { cells = with_cell (cell_room Extended) (record { address = at; val = record { lo = v; hi = v; low_bits = 0; origin = known.origin } }) lists.cells }
    → left ≡ reduced_wholly program rules entered core relations other.cells m
    → b ≡ is_covered_if program nodes procedure a (option_map (with_product (with_parts core relations m other)) left)
    → b ≡ is_covered_if program nodes procedure a (reduced_state program rules entered (with_byte at known (with_parts core relations m lists) v))
unfolding reduced_state with_byte
byte_left program rules entered nodes procedure a core relations m lists other at known v left b is e h =
    h ∙ ap (λ o. is_covered_if program nodes procedure a (option_map (with_product (with_parts core relations m other)) o)) e
    ∙ ap (λ s. is_covered_if program nodes procedure a (option_map (with_product (with_parts core relations m s)) (reduced_wholly program rules entered core relations s.cells m))) is

-- ---- states by their parts

-- where another state has the parts
pub covered_alike :
    (program : Program) (rules : Rules) (cert : Certificate) (procedure a : ℕ) (core : Core) (relations : Relations) (m : SummaryParts) (lists state : AbsState) (b : Bool)
    → state ≡ with_summary m (with_relations relations (with_core lists core)) → b ≡ covered_at program rules cert procedure a (with_parts core relations m lists)
    → b ≡ covered_at program rules cert procedure a state
covered_alike program rules cert procedure a core relations m lists state b e h = h ∙ ap (covered_at program rules cert procedure a) (sym e)
