-- Registers by their numbers.
use Rattle.std.proofs.Common.{◌≡◌, ℕ, true, ◌==◌, if◌then◌else◌, refl, sym, ◌∙◌, ap}
use Rattle.std.proofs.lemmas.Bool.{eqb-true}
use Rattle.gb_ops.specs.declared.op.Register.{Register}
use Rattle.gb_ops.specs.declared.op.Register.TheVariants.{A, B, C, D, E, H, L}
use Rattle.gb_ops.specs.declared.registers.Registers.{Registers}
use Rattle.gb_ops.specs.Registers.{get, set}
use Rattle.gb_domain.specs.Places.{register_number, is_same_register}

register_at : ℕ → Register
register_at n =
    if n == 0 then A
    else if n == 1 then B
    else if n == 2 then C
    else if n == 3 then D
    else if n == 4 then E
    else if n == 5 then H
    else L

register_at-number : (r : Register) → register_at (register_number r) ≡ r
unfolding register_at
register_at-number A = refl
register_at-number B = refl
register_at-number C = refl
register_at-number D = refl
register_at-number E = refl
register_at-number H = refl
register_at-number L = refl

pub same_register : (r s : Register) → is_same_register r s ≡ true → r ≡ s
same_register r s h = sym (register_at-number r) ∙ ap register_at (eqb-true _ _ h) ∙ register_at-number s

-- a register set to what it holds
pub set_same : {X : Type 0} (r : Register) (s : Registers X) → set r (get r s) s ≡ s
set_same A s = refl
set_same B s = refl
set_same C s = refl
set_same D s = refl
set_same E s = refl
set_same H s = refl
set_same L s = refl
