-- Within which bounds the pairs lay as a procedure was entered.
use Rattle.std.proofs.Common.{◌≡◌, ℕ, Bool, true, false, cond, List, [], ◌∷◌, slice_get, Some, sym, ◌∙◌, ap, subst, arith}
use Rattle.gb_ops.specs.declared.registers.Registers.{Registers}
use Rattle.gb_ops.specs.Play.{MState}
use Rattle.gb_successors.specs.Below.gb_domain.declared.pairs.WordPair.{WordPair}
use Rattle.gb_successors.specs.Below.gb_domain.declared.pairs.WordPair.TheVariants as pair
use Rattle.gb_successors.specs.Below.gb_domain.declared.rules.Rules.{Rules}
use Rattle.gb_successors.specs.Below.gb_domain.declared.rules.Rules.TheVariants.{Simple, Extended}
use Rattle.gb_successors.specs.Below.gb_domain.Certificate.{Certificate}
use Rattle.gb_successors.specs.Below.gb_domain.Pairs.{any_pairs, bounds_in}
use Rattle.gb_successors.specs.Below.gb_domain.Rules.{IsCore}
use Rattle.gb_successors.specs.Below.gb_domain.Types.{ProcedureParts, Node}
use Rattle.gb_successors.specs.Below.gb_pairs.Meaning.{Beside, word_of, AreBytes, Holds}
use Rattle.gb_successors.specs.Below.gb_pairs.Sound.{Within, AreWithin}
use Rattle.gb_successors.specs.Below.gb_abs.Meaning.{Activation}
use Rattle.gb_successors.specs.Below.gb_product.Covering.{values_in}
use Rattle.gb_successors.specs.Below.gb_product.Meaning.{entered_with, beside, Means}
use Rattle.gb_successors.proofs.Below.gb_product_laws.CoveringLaws.{HoldValues-means}
use Rattle.gb_successors.proofs.Below.gb_product_laws.MeaningLaws.{AreBytes-core}
use Rattle.gb_successors.proofs.Below.gb_pairs_laws.BoundsLaws.{Within-bounds_of, word_below}
use Rattle.gb_rules.specs.Frames.{Frame, AreWaiting}
use Rattle.gb_rules.specs.Procedures.{is_fourth, pairs_at, pairs_in, entered_of}

-- a procedure's entry node is the one that a call found
pub entry_pairs : (cert : Certificate) (m q : ℕ) (p : ProcedureParts) (n : Node) → m ≡ q → slice_get cert.procedures q ≡ Some p → slice_get cert.nodes p.entry ≡ Some n
    → pairs_in cert (slice_get cert.procedures m) ≡ pairs_at (Some n)
entry_pairs cert m q p n same at is = ap (λ i. pairs_in cert (slice_get cert.procedures i)) same ∙ ap (pairs_in cert) at ∙ ap pairs_at is

-- any words
AreWithin-any : (x : Registers ℕ) → AreBytes x → AreWithin any_pairs x
AreWithin-any x bytes = record { each = each }
  where
    each : (p : WordPair) → Within (bounds_in p any_pairs) (word_of p x)
    each pair.Bc = let small = word_below pair.Bc x bytes in record { least = omega arith; most = omega arith }
    each pair.De = let small = word_below pair.De x bytes in record { least = omega arith; most = omega arith }
    each pair.Hl = let small = word_below pair.Hl x bytes in record { least = omega arith; most = omega arith }

AreWithin-node : (n : Node) (was : Beside) (x : Registers ℕ) → Holds (values_in n.state) was x → AreWithin (pairs_at (Some n)) x
AreWithin-node n was x h = record { each = each }
  where
    each : (p : WordPair) → Within (bounds_in p (pairs_at (Some n))) (word_of p x)
    each pair.Bc = Within-bounds_of pair.Bc (values_in n.state) was x h
    each pair.De = Within-bounds_of pair.De (values_in n.state) was x h
    each pair.Hl = Within-bounds_of pair.Hl (values_in n.state) was x h

-- as it is entered, in a state that its entry node means
pub AreWithin-entered : (cert : Certificate) (n : Node) (entry : Activation) (base : ℕ) (x : MState) → pairs_in cert (slice_get cert.procedures n.procedure) ≡ pairs_at (Some n) → IsCore n.state.core
    → Means n.state entry base x → AreWithin (entered_of cert n.procedure) x.processor.registers
unfolding entered_of
AreWithin-entered cert n entry base x enters core m = by (is_fourth cert)
  where
    by : (b : Bool) → AreWithin (cond b (pairs_in cert (slice_get cert.procedures n.procedure)) any_pairs) x.processor.registers
    by true =
        subst (λ b. AreWithin b x.processor.registers) (sym enters)
        (AreWithin-node n (beside entry x) x.processor.registers (HoldValues-means n.state entry base x m))
    by false = AreWithin-any x.processor.registers (AreBytes-core n.state.core entry x core m.parts.core)

-- ---- main waits for all others

-- the registers with which main was entered
pub record WasEntered (cert : Certificate) : Type 0 where
  pub was : Registers ℕ
  pub within : AreWithin (entered_of cert 0) was

pub main_entered : (rules : Rules) (cert : Certificate) (frames : List Frame) (procedure : ℕ) (entry : Activation) (base : ℕ)
    → AreWithin (entered_of cert procedure) (entered_with entry) → AreWaiting rules cert frames procedure entry base → WasEntered cert
main_entered rules cert [] procedure entry base within none = record { was = entered_with entry; within = subst (λ n. AreWithin (entered_of cert n) (entered_with entry)) none within }
main_entered Simple cert (f ∷ rest) procedure entry base within w = main_entered Simple cert rest f.procedure f.entry f.base w.0.within w.1
main_entered Extended cert (f ∷ rest) procedure entry base within w = main_entered Extended cert rest f.procedure f.entry f.base w.0.within w.1
