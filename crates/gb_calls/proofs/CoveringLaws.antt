-- What covering asks where little is claimed.
use Rattle.std.proofs.Common.{◌≡◌, ℕ, suc, ◌≤◌, ◌==◌, Bool, true, false, ◌&&◌, nat_le, List, [], ◌∷◌, length, is_none, refl, sym, ◌∙◌, ap, arith}
use Rattle.std.proofs.lemmas.Bool.{eqb-true}
use Rattle.std.proofs.lemmas.Bool.Decides.{nat_tests}
use Rattle.gb_domain.specs.declared.types.Cell.{Cell}
use Rattle.gb_domain.specs.declared.types.Ctl.{Ctl}
use Rattle.gb_domain.specs.declared.types.Val.{Val}
use Rattle.gb_domain.specs.Silent.{level_alone}
use Rattle.gb_domain.specs.Summaries.{SummaryParts, Program, no_summary}
use Rattle.gb_cert.specs.Below.gb_states.Checked.{listed_cells}
use Rattle.gb_product.specs.Below.gb_abs.Covering.{covers_items}
use Rattle.gb_product.specs.Below.gb_pairs.declared.values.Values.{Values}
use Rattle.gb_product.specs.Below.gb_summaries.Covering.{covers_summary}
use Rattle.gb_product.specs.Covering.{covers_cells, says_less}
use Rattle.gb_product.proofs.SilenceLaws as Silence

and_true : (b : Bool) → b ≡ (b && true)
and_true true = refl
and_true false = refl

-- where there are no cells either
pub covers_bare :
    (program : Program) (v : Values) (c : Ctl) (cells : List Cell) (s : SummaryParts) (items wanted : List Val) (related : Bool) (kept : List Cell) (t : SummaryParts)
    → wanted ≡ [] → kept ≡ [] → t ≡ no_summary
    → ((covers_items items [] && related) && is_none s.aside)
    ≡ (((covers_items items wanted && covers_cells program v cells s kept) && related) && covers_summary program v c cells s kept t)
unfolding covers_cells
covers_bare program v c cells s items wanted related kept t none without silent =
    rw (none, without, silent)
    (ap (λ (b : Bool). (b && related) && is_none s.aside) (and_true (covers_items items []))
    ∙ ap (λ (b : Bool). ((covers_items items [] && true) && related) && b) (Silence.covers_silence program v c cells s [] no_summary refl))

-- no bytes are no cells
none_listed : (bytes : List ℕ) (cells : List Cell) → listed_cells bytes ≡ cells → (length bytes == 0) ≡ true → cells ≡ []
unfolding listed_cells
none_listed [] cells is none = sym is
none_listed (n ∷ rest) cells is none =
    let zero : suc (length rest) ≡ 0 = eqb-true (suc (length rest)) 0 none in
    absurd (omega arith)

-- where no cells are claimed
pub covers_uncelled :
    (program : Program) (v : Values) (c : Ctl) (cells : List Cell) (s : SummaryParts) (items wanted : List Val) (related : Bool) (kept : List Cell) (t : SummaryParts) (bytes : List ℕ)
    → listed_cells bytes ≡ kept → (length bytes == 0) ≡ true
    → ((covers_items items wanted && related) && covers_summary program v c cells s [] t)
    ≡ (((covers_items items wanted && covers_cells program v cells s kept) && related) && covers_summary program v c cells s kept t)
unfolding covers_cells
covers_uncelled program v c cells s items wanted related kept t bytes is none =
    let without : kept ≡ [] = none_listed bytes kept is none in
    rw (without) (ap (λ (b : Bool). (b && related) && covers_summary program v c cells s [] t) (and_true (covers_items items wanted)))

at_most : (n m : ℕ) → n ≤ m → nat_le n m ≡ true
at_most n m h = grind (arith, nat_tests)

-- where nothing is claimed but that facts hold which hold already
pub covers_less :
    (program : Program) (v : Values) (c : Ctl) (cells : List Cell) (s : SummaryParts) (items wanted : List Val) (related : Bool) (kept : List Cell) (t : SummaryParts) (n : ℕ)
    → wanted ≡ [] → kept ≡ [] → t ≡ level_alone n → covers_items items [] ≡ true → related ≡ true → length cells ≡ 0 → is_none s.aside ≡ true → n ≤ s.level
    → (((covers_items items wanted && covers_cells program v cells s kept) && related) && covers_summary program v c cells s kept t) ≡ true
unfolding covers_cells
covers_less program v c (d ∷ cells) s items wanted related kept t n none without is no_items knows empty aside level = absurd (omega arith)
covers_less program v c [] s items wanted related kept t n none without is no_items knows empty aside level =
    rw (none, without, is) (all_of (covers_items items []) related _ no_items knows (sym (Silence.covers_level program v c [] s [] (level_alone n) (less aside (at_most n s.level level)) refl)))
  where
    all_of : (a b e : Bool) → a ≡ true → b ≡ true → e ≡ true → (((a && true) && b) && e) ≡ true
    all_of true true true f g h = refl
    all_of false b e f g h = cc
    all_of true false e f g h = cc
    all_of true true false f g h = cc

    both_of : (a b : Bool) → a ≡ true → b ≡ true → (a && (b && true)) ≡ true
    both_of true true f g = refl
    both_of false b f g = cc
    both_of true false f g = cc

    less : is_none s.aside ≡ true → nat_le n s.level ≡ true → says_less s (level_alone n) ≡ true
    less f g = both_of (is_none s.aside) (nat_le n s.level) f g
