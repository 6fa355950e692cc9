-- What nothing known together means, and what holds where registers and pairs are cut.
use Rattle.std.proofs.Common.{◌≡◌, ℕ, ◌<◌, Bool, sym, ◌∙◌, arith}
use Rattle.gb_ops.specs.declared.op.Register.{Register}
use Rattle.gb_ops.specs.declared.registers.Registers.{Registers}
use Rattle.gb_ops.specs.declared.registers.Flags.{Flags}
use Rattle.gb_ops.specs.Registers.{get}
use Rattle.gb_ops.specs.Play.{MState}
use Rattle.gb_domain.specs.declared.pairs.WordPair.{WordPair}
use Rattle.gb_domain.specs.declared.pairs.WordPair.TheVariants as pair
use Rattle.gb_domain.specs.declared.pairs.Pairs.{Pairs}
use Rattle.gb_domain.specs.declared.relations.Relations.{Relations}
use Rattle.gb_domain.specs.declared.types.Val.{Val}
use Rattle.gb_domain.specs.declared.types.Core.{Core}
use Rattle.gb_domain.specs.Pairs.{facts_of, ArePairs}
use Rattle.gb_domain.specs.Relations.{no_relations}
use Rattle.gb_domain.specs.Rules.{IsCore}
use Rattle.gb_abs_effects.specs.Below.gb_vals.Meaning.{In}
use Rattle.gb_abs_effects.specs.Below.gb_abs.Meaning.{Activation, Holds, MeansCore}
use Rattle.gb_abs_effects.proofs.CoreLaws.{MeansCore-changed}
use Rattle.gb_summaries.specs.Below.gb_pairs.Meaning.{AreBytes, HoldPairs}
use Rattle.gb_summaries.specs.Below.gb_relations.Meaning.{HoldRelations}
use Rattle.gb_summaries.proofs.Below.gb_relations_laws.ComparedLaws.{HoldOneByte-nothing}
use Rattle.gb_summaries.proofs.Below.gb_relations_laws.TransferLaws.{HoldPairs-nothing}
use Rattle.gb_product.specs.Meaning.{beside, AreRelated}

-- nothing is known together of any machine state
pub HoldRelations-nothing : (was x : Registers ℕ) (memory : ℕ → ℕ) (f : Flags) → AreBytes x → HoldRelations no_relations was x memory f
HoldRelations-nothing was x memory f bytes = record { byte = HoldOneByte-nothing x memory f; zero = tt; pairs = HoldPairs-nothing (record { entered = was; memory = memory }) x bytes }

-- the registers of a machine state that a core means are bytes
pub AreBytes-core : (c : Core) (entry : Activation) (x : MState) → IsCore c → MeansCore c entry x → AreBytes x.processor.registers
AreBytes-core c entry x is m =
    record {
      each = λ r.
          let k : Holds (get r c.registers) entry (get r x.processor.registers) = m.registers r in
          let v = is.registers r in
          let most = k.most in
          let hi = v.hi in
          omega arith;
    }

-- values that hold still, and are copies of the same
pub MeansCore-cut :
    (core : Core) (vals : Registers Val) (entry : Activation) (x : MState)
    → ((r : Register) → In (get r vals) (get r x.processor.registers))
    → ((r : Register) → (get r vals).origin ≡ (get r core.registers).origin)
    → MeansCore core entry x → MeansCore (record core { registers = vals }) entry x
MeansCore-cut core vals entry x in_vals origin m =
    MeansCore-changed core entry x vals core.flags core.ime x.processor (λ r. held r) m.flags m.ime m.locked m.stopped m
  where
    held : (r : Register) → Holds (get r vals) entry (get r x.processor.registers)
    held r =
        let old : Holds (get r core.registers) entry (get r x.processor.registers) = m.registers r in
        let bounds = in_vals r in
        record { least = bounds.least; most = bounds.most; low = bounds.low; origin = λ o e. old.origin o (sym (origin r) ∙ e) }

pub AreRelated-cut :
    (r : Relations) (s : Pairs) (entry : Activation) (x : MState)
    → HoldPairs s (beside entry x) x.processor.registers → AreRelated r entry x → AreRelated (record r { pairs = s }) entry x
AreRelated-cut r s entry x pairs m = record { byte = m.byte; zero = m.zero; pairs = pairs }

-- pairs whose bounds are words, whatever their links are
pub record AreWords (s : Pairs) : Type 0 where
  pub each : (p : WordPair) → (facts_of p s).bounds.last < 65536

pub AreWords-pairs : (may_be : ℕ → Bool) (s : Pairs) → ArePairs may_be s → AreWords s
AreWords-pairs may_be s h = record { each = λ p. (h.each p).last }

pub are_words : (s : Pairs) → s.bc.bounds.last < 65536 → s.de.bounds.last < 65536 → s.hl.bounds.last < 65536 → AreWords s
are_words s b d h = record { each = each }
  where
    each : (p : WordPair) → (facts_of p s).bounds.last < 65536
    each pair.Bc = b
    each pair.De = d
    each pair.Hl = h
