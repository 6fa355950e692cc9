-- Reducing a core and what is known together loses no machine state, and cuts nothing but bounds.
use Rattle.std.proofs.Common.{◌≡◌, ℕ, Bool, true, false, Option, Some, None, refl, sym, subst}
use Rattle.std.specs.Prelude.{IfSome}
use Rattle.gb_ops.specs.declared.registers.Registers.{Registers}
use Rattle.gb_ops.specs.Registers.{get}
use Rattle.gb_ops.specs.Play.{MState}
use Rattle.gb_domain.specs.declared.relations.Relations.{Relations}
use Rattle.gb_domain.specs.declared.rules.Rules.{Rules}
use Rattle.gb_domain.specs.declared.rules.Rules.TheVariants.{Simple, Extended}
use Rattle.gb_domain.specs.declared.types.Core.{Core}
use Rattle.gb_domain.specs.declared.types.Val.{Val}
use Rattle.gb_domain.specs.declared.pairs.Pairs.{Pairs}
use Rattle.gb_domain.specs.Pairs.{ArePairs}
use Rattle.gb_abs_effects.specs.Below.gb_abs.Meaning.{Activation, MeansCore}
use Rattle.gb_abs_effects.proofs.CoreLaws.{In-from}
use Rattle.gb_summaries.specs.Below.gb_pairs.declared.values.Values.{Values}
use Rattle.gb_summaries.specs.Below.gb_pairs.Meaning.{Holds}
use Rattle.gb_summaries.specs.Below.gb_pairs.Reduced as Pairwise
use Rattle.gb_summaries.specs.Below.gb_pairs.Reduced.{values_if}
use Rattle.gb_summaries.specs.Below.gb_pairs.Sound.{HoldsIn, IsCut}
use Rattle.gb_summaries.specs.Below.gb_pairs.Sound as pairs
use Rattle.gb_summaries.proofs.Below.gb_pairs_laws.CutLaws as pair_cuts
use Rattle.gb_summaries.proofs.Below.gb_pairs_laws.KeptLaws.{ArePairs-cut}
use Rattle.gb_summaries.proofs.Below.gb_pairs_laws.ReducedLaws as pair_laws
use Rattle.gb_summaries.specs.Below.gb_relations.Transfer.{values_of}
use Rattle.gb_product.specs.declared.parts.Product.{Product}
use Rattle.gb_domain.specs.declared.pairs.PairBounds.{PairBounds}
use Rattle.gb_product.specs.Meaning.{beside, AreRelated}
use Rattle.gb_product.specs.Reduced.{product_of, product_if, with_values_if, reduced_together, reduced}
use Rattle.gb_product.specs.Sound.{IsReduced, IsMeantProduct, IsSoundReducing}
use Rattle.gb_product.proofs.CutLaws.{AreCut, IsCutCore-registers, IsCutCore-itself, IsCore-cut, IsCutTogether-pairs}
use Rattle.gb_product.proofs.MeaningLaws.{MeansCore-cut, AreRelated-cut}

-- ---- what is meant

pub Holds-values : (core : Core) (r : Relations) (entry : Activation) (x : MState) → MeansCore core entry x → AreRelated r entry x → Holds (values_of core.registers r.pairs) (beside entry x) x.processor.registers
Holds-values core r entry x m n =
    record { registers = λ q. In-from (get q core.registers) entry (get q x.processor.registers) (m.registers q); pairs = n.pairs }

IsMeantProduct-with_values :
    (core : Core) (r : Relations) (o : Option Values) (entry : Activation) (x : MState)
    → HoldsIn o (beside entry x) x.processor.registers → IfSome o (IsCut (values_of core.registers r.pairs)) → MeansCore core entry x → AreRelated r entry x
    → IsMeantProduct (with_values_if core r o) entry x
IsMeantProduct-with_values core r None entry x holds cut m n = holds
IsMeantProduct-with_values core r (Some v) entry x holds cut m n =
    record {
      core = MeansCore-cut core v.registers entry x holds.registers cut.origin m;
      related = AreRelated-cut r v.pairs entry x holds.pairs n;
    }

pub same_sound : (entered read : PairBounds) (core : Core) (r : Relations) → IsSoundReducing entered read core r (Some (product_of core r))
same_sound entered read core r = record { gives = λ entry x within reads bytes m n. record { core = m; related = n } }

-- by what the reduced values are
pub with_values_sound :
    (entered read : PairBounds) (core : Core) (r : Relations) (o : Option Values) (p : Option Product)
    → p ≡ with_values_if core r o → o ≡ Pairwise.reduced entered read (values_of core.registers r.pairs)
    → pairs.IsSoundReducing entered read (values_of core.registers r.pairs) o → IsSoundReducing entered read core r p
with_values_sound entered read core r o p e f h =
    subst (λ q. IsSoundReducing entered read core r q) (sym e)
    (record {
      gives = λ entry x within reads bytes m n.
          IsMeantProduct-with_values core r o entry x (h.gives (beside entry x) x.processor.registers within reads bytes (Holds-values core r entry x m n))
          (pair_cuts.reduced_cuts entered read _ o f) m n;
    })

-- in place
product-values :
    (core : Core) (r : Relations) (b : Bool) (x : Registers Val) (s : Pairs)
    → product_if b (record core { registers = x }) (record r { pairs = s }) ≡ with_values_if core r (values_if b (values_of x s))
product-values core r false x s = refl
product-values core r true x s = refl

pub reduced_in_place :
    (entered read : PairBounds) (core : Core) (r : Relations) (b : Bool) (x : Registers Val) (s : Pairs)
    → Pairwise.reduced entered read (values_of core.registers r.pairs) ≡ values_if b (values_of x s)
    → reduced_together entered read core r ≡ product_if b (record core { registers = x }) (record r { pairs = s })
reduced_in_place entered read core r b x s e =
    subst (λ o. with_values_if core r o ≡ product_if b (record core { registers = x }) (record r { pairs = s })) (sym e)
    (sym (product-values core r b x s))

pub reduced_in_place_sound :
    (entered read : PairBounds) (core : Core) (r : Relations) (b : Bool) (x : Registers Val) (s : Pairs)
    → Pairwise.reduced entered read (values_of core.registers r.pairs) ≡ values_if b (values_of x s)
    → pairs.IsSoundReducing entered read (values_of core.registers r.pairs) (values_if b (values_of x s))
    → IsSoundReducing entered read core r (product_if b (record core { registers = x }) (record r { pairs = s }))
reduced_in_place_sound entered read core r b x s e h = with_values_sound entered read core r _ _ (product-values core r b x s) (sym e) h

pub reduced_sound :
    (may_be : ℕ → Bool) (rules : Rules) (entered read : PairBounds) (core : Core) (r : Relations) (o : Option Product)
    → o ≡ reduced rules entered read core r → ArePairs may_be r.pairs → IsSoundReducing entered read core r o
unfolding reduced
reduced_sound may_be Simple entered read core r o e are = subst (λ p. IsSoundReducing entered read core r p) (sym e) (same_sound entered read core r)
reduced_sound may_be Extended entered read core r o e are =
    with_values_sound entered read core r _ o e refl (pair_laws.reduced_sound may_be entered read (values_of core.registers r.pairs) _ refl are)

-- ---- what is cut

pub AreCut-values : (v w : Values) → IsCut v w → AreCut v.registers w.registers
AreCut-values v w h = record { least = h.least; most = h.most; order = h.order; strided = h.strided; origin = h.origin }

IsReduced-with_values :
    (core : Core) (r : Relations) (o : Option Values) → IfSome o (IsCut (values_of core.registers r.pairs)) → IfSome (with_values_if core r o) (IsReduced core r)
IsReduced-with_values core r None cut = tt
IsReduced-with_values core r (Some v) cut =
    let registers = AreCut-values (values_of core.registers r.pairs) v cut in
    record {
      core = IsCutCore-registers core v.registers registers;
      flags = refl;
      relations = IsCutTogether-pairs r v.pairs (λ may_be. ArePairs-cut may_be _ v cut);
      inhabited = IsCore-cut core v.registers registers;
    }

IsReduced-itself : (core : Core) (r : Relations) → IsReduced core r (product_of core r)
IsReduced-itself core r =
    record { core = IsCutCore-itself core; flags = refl; relations = IsCutTogether-pairs r r.pairs (λ may_be h. h); inhabited = λ h. h }

IfSome-reduced : (rules : Rules) (entered read : PairBounds) (core : Core) (r : Relations) → IfSome (reduced rules entered read core r) (IsReduced core r)
unfolding reduced
IfSome-reduced Simple entered read core r = IsReduced-itself core r
IfSome-reduced Extended entered read core r = IsReduced-with_values core r _ (pair_cuts.reduced_cuts entered read (values_of core.registers r.pairs) _ refl)

pub reduced_cuts :
    (rules : Rules) (entered read : PairBounds) (core : Core) (r : Relations) (o : Option Product)
    → o ≡ reduced rules entered read core r → IfSome o (IsReduced core r)
reduced_cuts rules entered read core r o e = subst (λ p. IfSome p (IsReduced core r)) (sym e) (IfSome-reduced rules entered read core r)

pub reduced_to_cuts :
    (rules : Rules) (entered read : PairBounds) (core : Core) (r : Relations) (p : Product) → reduced rules entered read core r ≡ Some p → IsReduced core r p
reduced_to_cuts rules entered read core r p e = reduced_cuts rules entered read core r (Some p) (sym e)
