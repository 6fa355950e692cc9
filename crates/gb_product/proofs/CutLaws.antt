-- Cores whose registers are cut, one after another.
use Rattle.std.proofs.Common.{◌≡◌, ◌≤◌, true, refl, ◌∙◌, arith, ℕ, Bool}
use Rattle.gb_ops.specs.declared.op.Register.{Register}
use Rattle.gb_ops.specs.declared.registers.Registers.{Registers}
use Rattle.gb_ops.specs.Registers.{get}
use Rattle.gb_domain.specs.declared.pairs.Pairs.{Pairs}
use Rattle.gb_domain.specs.declared.relations.Relations.{Relations}
use Rattle.gb_domain.specs.declared.types.Val.{Val}
use Rattle.gb_domain.specs.declared.types.Flg.{Flg}
use Rattle.gb_domain.specs.declared.types.Core.{Core}
use Rattle.gb_domain.specs.Pairs.{ArePairs}
use Rattle.gb_domain.specs.Rules.{IsVal, IsCore}
use Rattle.gb_domain.specs.Values.{is_strided}
use Rattle.gb_abs_effects.proofs.CoreLaws.{IsCore-changed}
use Rattle.gb_product.specs.Sound.{IsCutCore, IsCutTogether}

-- values are cut
pub record AreCut (s t : Registers Val) : Type 0 where
  pub least : (r : Register) → (get r s).lo ≤ (get r t).lo
  pub most : (r : Register) → (get r t).hi ≤ (get r s).hi
  pub order : (r : Register) → (get r s).lo ≤ (get r s).hi → (get r t).lo ≤ (get r t).hi
  pub strided : (r : Register) → is_strided (get r s) ≡ true → is_strided (get r t) ≡ true
  pub origin : (r : Register) → (get r t).origin ≡ (get r s).origin

pub AreCut-trans : (s t u : Registers Val) → AreCut s t → AreCut t u → AreCut s u
AreCut-trans s t u h k =
    record {
      least = λ r. let a = h.least r in let b = k.least r in omega arith;
      most = λ r. let a = h.most r in let b = k.most r in omega arith;
      order = λ r e. k.order r (h.order r e);
      strided = λ r e. k.strided r (h.strided r e);
      origin = λ r. k.origin r ∙ h.origin r;
    }

pub IsCutCore-registers : (s : Core) (vals : Registers Val) → AreCut s.registers vals → IsCutCore s (record s { registers = vals })
IsCutCore-registers s vals h =
    record {
      least = h.least;
      most = h.most;
      order = h.order;
      strided = h.strided;
      origin = h.origin;
      own = refl;
      ime = refl;
      bound = refl;
      stack_set = refl;
      ctl = refl;
      ie = refl;
    }

pub IsCutCore-flags : (s : Core) (f : Flg) → f.is_own ≡ s.flags.is_own → IsCutCore s (record s { flags = f })
IsCutCore-flags s f own =
    record {
      least = λ r. omega arith;
      most = λ r. omega arith;
      order = λ r e. e;
      strided = λ r e. e;
      origin = λ r. refl;
      own = own;
      ime = refl;
      bound = refl;
      stack_set = refl;
      ctl = refl;
      ie = refl;
    }

pub IsCutCore-itself : (s : Core) → IsCutCore s s
IsCutCore-itself s = IsCutCore-flags s s.flags refl

pub IsCutCore-trans : (s t u : Core) → IsCutCore s t → IsCutCore t u → IsCutCore s u
IsCutCore-trans s t u h k =
    record {
      least = λ r. let a = h.least r in let b = k.least r in omega arith;
      most = λ r. let a = h.most r in let b = k.most r in omega arith;
      order = λ r e. k.order r (h.order r e);
      strided = λ r e. k.strided r (h.strided r e);
      origin = λ r. k.origin r ∙ h.origin r;
      own = k.own ∙ h.own;
      ime = k.ime ∙ h.ime;
      bound = k.bound ∙ h.bound;
      stack_set = k.stack_set ∙ h.stack_set;
      ctl = k.ctl ∙ h.ctl;
      ie = k.ie ∙ h.ie;
    }

pub IsCore-cut : (s : Core) (vals : Registers Val) → AreCut s.registers vals → IsCore s → IsCore (record s { registers = vals })
IsCore-cut s vals h is = IsCore-changed s vals s.flags s.ime (λ r. val r) is.flags is.ime is
  where
    val : (r : Register) → IsVal (get r vals)
    val r =
        let old = is.registers r in
        let most = h.most r in
        let hi = old.hi in
        record { order = h.order r old.order; hi = omega arith; strided = h.strided r old.strided }

pub IsCutTogether-pairs : (r : Relations) (s : Pairs) → ((may_be : ℕ → Bool) → ArePairs may_be r.pairs → ArePairs may_be s) → IsCutTogether r (record r { pairs = s })
IsCutTogether-pairs r s h = record { byte = refl; zero = refl; pairs = h }
