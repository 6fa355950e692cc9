-- What is silent says nothing of the whole program.
use Rattle.std.proofs.Common.{◌≡◌, ℕ, Bool, true, ◌&&◌, ◌==◌, List, [], ◌∷◌, length, Option, None, refl, arith}
use Rattle.std.specs.Prelude.{not, is_none}
use Rattle.gb_ops.specs.declared.registers.Registers.{Registers}
use Rattle.gb_domain.specs.declared.pairs.Bounds.{Bounds}
use Rattle.gb_domain.specs.declared.summary.Fill.{Fill}
use Rattle.gb_domain.specs.declared.summary.Shadows.{Shadows}
use Rattle.gb_domain.specs.Places.{no_place}
use Rattle.gb_domain.specs.RelationRules.{is_some_register}
use Rattle.gb_domain.specs.Summaries.{SummaryParts, no_shadows, no_summary}
use Rattle.gb_states.specs.Rules.{is_unshadowed, is_silent}
use Rattle.gb_states.proofs.FieldLaws.{and_both, same}
use Rattle.gb_states.proofs.RelationLaws.{not-true, no-registers, none_is}

pub unshadowed-is : (s : Shadows) → is_unshadowed s ≡ true → s ≡ no_shadows
unshadowed-is s h = let k = and_both (is_none s.address) (not (is_some_register s.registers)) h in same-shadows s.registers no_place s.address None (no-registers s.registers (not-true (is_some_register s.registers) k.1)) (none_is s.address k.0)
  where
    same-shadows : (r q : Registers Bool) (a b : Option ℕ) → r ≡ q → a ≡ b → (let x : Shadows = record { registers = r; address = a } in x) ≡ record { registers = q; address = b }
    same-shadows r q a b e f = rw (e, f) refl

pub no-fills : (fills : List Fill) → (length fills == 0) ≡ true → fills ≡ []
no-fills [] h = refl
no-fills (f ∷ fs) h = absurd (omega (arith, same (length (f ∷ fs)) 0 h))

-- What is silent says nothing.
pub silent-is : (s : SummaryParts) → is_silent s ≡ true → s ≡ no_summary
silent-is s h =
    let a = and_both (s.level == 0) (length s.fills == 0 && (is_unshadowed s.shadows.first && (is_unshadowed s.shadows.second && is_none s.aside))) h in
    let b = and_both (length s.fills == 0) (is_unshadowed s.shadows.first && (is_unshadowed s.shadows.second && is_none s.aside)) a.1 in
    let c = and_both (is_unshadowed s.shadows.first) (is_unshadowed s.shadows.second && is_none s.aside) b.1 in
    let d = and_both (is_unshadowed s.shadows.second) (is_none s.aside) c.1 in
    same-parts s.level 0 s.fills [] s.shadows.first no_shadows s.shadows.second no_shadows s.aside None (same s.level 0 a.0) (no-fills s.fills b.0) (unshadowed-is s.shadows.first c.0) (unshadowed-is s.shadows.second d.0) (none_is s.aside d.1)
  where
    same-parts : (n m : ℕ) (f g : List Fill) (a b c d : Shadows) (o p : Option Bounds) → n ≡ m → f ≡ g → a ≡ b → c ≡ d → o ≡ p
        → (let x : SummaryParts = record { level = n; fills = f; shadows = record { first = a; second = c }; aside = o } in x) ≡ record { level = m; fills = g; shadows = record { first = b; second = d }; aside = p }
    same-parts n m f g a b c d o p e i j k l = rw (e, i, j, k, l) refl
