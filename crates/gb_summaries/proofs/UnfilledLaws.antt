-- What is known of a byte where nothing is filled doesn't rest on pointers.
use Rattle.std.proofs.Common.{◌≡◌, ℕ, suc, ◌==◌, true, List, [], ◌∷◌, length, refl, arith}
use Rattle.std.proofs.lemmas.Bool.{eqb-true}
use Rattle.gb_domain.specs.declared.pairs.Bounds.{Bounds}
use Rattle.gb_domain.specs.declared.summary.Fact.{Fact}
use Rattle.gb_domain.specs.declared.summary.Fill.{Fill}
use Rattle.gb_domain.specs.declared.types.Cell.{Cell}
use Rattle.gb_ram_bounds.specs.declared.pointers.Pointers.{Pointers}
use Rattle.gb_ram_bounds.specs.Covering.{byte_at}

pub byte_unfilled :
    (facts : List Fact) (cells : List Cell) (fills : List Fill) (p q : Pointers Bounds) (a : ℕ)
    → (length fills == 0) ≡ true → byte_at facts cells fills p a ≡ byte_at facts cells fills q a
unfolding byte_at
byte_unfilled facts cells [] p q a h = refl
byte_unfilled facts cells (f ∷ fills) p q a h =
    let none : suc (length fills) ≡ 0 = eqb-true (suc (length fills)) 0 h in
    absurd (omega arith)
