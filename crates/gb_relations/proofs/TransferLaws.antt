-- What an instruction leaves holds behind each of its effects.
use Rattle.std.proofs.Common.{◌≡◌, Bool, ℕ, ◌<◌, refl, sym, subst, arith}
use Rattle.gb_ops.specs.declared.op.Register.TheVariants.{B, C, D, E, H, L}
use Rattle.gb_ops.specs.declared.op.Op.{Op}
use Rattle.gb_domain.specs.declared.places.StackBytes.{StackBytes}
use Rattle.gb_ops.specs.declared.registers.Registers.{Registers}
use Rattle.gb_ops.specs.declared.registers.Processor.{Processor}
use Rattle.gb_ops.specs.Effects.{effect_of}
use Rattle.gb_domain.specs.declared.types.Val.{Val}
use Rattle.gb_domain.specs.declared.pairs.WordPair.{WordPair}
use Rattle.gb_domain.specs.declared.pairs.WordPair.TheVariants as words
use Rattle.gb_domain.specs.declared.pairs.Bounds.{Bounds}
use Rattle.gb_domain.specs.declared.pairs.Pairs.{Pairs}
use Rattle.gb_domain.specs.declared.relations.Relations.{Relations}
use Rattle.gb_domain.specs.declared.rules.Rules.{Rules}
use Rattle.gb_domain.specs.declared.rules.Rules.TheVariants.{Simple, Extended}
use Rattle.gb_domain.specs.Areas.{is_free_byte}
use Rattle.gb_domain.specs.Pairs.{no_pairs, facts_of, IsPairFacts, ArePairs}
use Rattle.gb_pairs.specs.Meaning.{Beside, AreBytes, HoldsPair, HoldPairs}
use Rattle.gb_relations.specs.PointedBits.{known_bits}
use Rattle.gb_relations.proofs.PointedBitsLaws.{known_bits_sound}
use Rattle.gb_relations.specs.Meaning.{HoldRelations}
use Rattle.gb_relations.specs.Transfer.{values_of, relations_after}
use Rattle.gb_relations.specs.Sound.{HasBytes, Writes, IsBytePlaced, Begins, IsSoundTransfer}
use Rattle.gb_relations.proofs.ByteAfterLaws.{Holds-begun, HoldOneByte-byte_after}
use Rattle.gb_relations.proofs.PlacedLaws.{byte_after-placed}
use Rattle.gb_relations.proofs.MachineLaws.{effect_of-bytes}
use Rattle.gb_relations.proofs.ComparedLaws.{HoldOneByte-compared_after, compared_after-placed}
use Rattle.gb_relations.proofs.ZeroLaws.{IsZero-zero_after}
use Rattle.gb_relations.proofs.PairLaws.{AreWords, HoldPairs-pairs_after, pairs_after-kept}
use Rattle.gb_relations.proofs.PairCopyLaws.{HoldPairs-with_pair_copied, with_pair_copied-kept}
use Rattle.gb_relations.proofs.CellLinkLaws.{HoldPairs-cells_after, cells_after-kept}

pub are_words : (s : Pairs) → s.bc.bounds.last < 65536 → s.de.bounds.last < 65536 → s.hl.bounds.last < 65536 → AreWords s
are_words s b d h = record { each = each }
  where
    each : (p : WordPair) → (facts_of p s).bounds.last < 65536
    each words.Bc = b
    each words.De = d
    each words.Hl = h

-- of pairs of which nothing is known
pub HoldPairs-nothing : (was : Beside) (x : Registers ℕ) → AreBytes x → HoldPairs no_pairs was x
HoldPairs-nothing was x bytes = record { each = each }
  where
    each : (p : WordPair) → HoldsPair (facts_of p no_pairs) p was x
    each words.Bc = let h = bytes.each B in let l = bytes.each C in record { first = omega arith; last = omega arith; link = tt }
    each words.De = let h = bytes.each D in let l = bytes.each E in record { first = omega arith; last = omega arith; link = tt }
    each words.Hl = let h = bytes.each H in let l = bytes.each L in record { first = omega arith; last = omega arith; link = tt }

ArePairs-nothing : (may_be : ℕ → Bool) → ArePairs may_be no_pairs
ArePairs-nothing may_be = record { each = each }
  where
    each : (p : WordPair) → IsPairFacts may_be (facts_of p no_pairs)
    each words.Bc = record { last = omega arith; link = tt }
    each words.De = record { last = omega arith; link = tt }
    each words.Hl = record { last = omega arith; link = tt }

relations_after-placed : (rules : Rules) (is_whole : Bool) (stack : StackBytes) (o : Op) (sp : Bounds) (vals : Registers Val) (low : Val) (r : Relations)
    → IsBytePlaced stack r.byte.address → IsBytePlaced stack (relations_after rules is_whole stack o sp vals low r).byte.address
unfolding relations_after
relations_after-placed Simple is_whole stack o sp vals low r h = compared_after-placed stack o r.byte
relations_after-placed Extended is_whole stack o sp vals low r h = byte_after-placed stack (known_bits Extended is_whole o vals) o (values_of vals r.pairs) low r.byte h

HoldRelations-relations_after :
    (rules : Rules) (is_whole : Bool) (stack : StackBytes) (o : Op) (sp : Bounds) (vals : Registers Val) (low : Val) (r : Relations) (was : Registers ℕ) (p : Processor) (memory after : ℕ → ℕ) (l h : ℕ)
    → HasBytes o → sp.last < 65536 → AreWords r.pairs
    → Begins stack o sp vals low r was p memory l h → Writes stack (effect_of o p l h).write memory after
    → HoldRelations (relations_after rules is_whole stack o sp vals low r) was (effect_of o p l h).processor.registers after (effect_of o p l h).processor.flags
unfolding relations_after
HoldRelations-relations_after Simple is_whole stack o sp vals low r was p memory after l h has small are b w =
    record {
      byte = HoldOneByte-compared_after o r.byte p memory after l h has b.bytes b.relations.byte;
      zero = tt;
      pairs = HoldPairs-nothing _ _ (effect_of-bytes o p l h has b.low_small b.high_small b.bytes);
    }
HoldRelations-relations_after Extended is_whole stack o sp vals low r was p memory after l h has small are b w =
    record {
      byte = HoldOneByte-byte_after (known_bits Extended is_whole o vals) stack o sp vals low r was p memory after l h
          ((known_bits_sound Extended is_whole o vals _ refl).writes p l h b.bytes b.registers) has b w;
      zero = IsZero-zero_after o r.byte r.zero p memory l h b.relations.byte b.relations.zero;
      pairs =
          HoldPairs-cells_after (known_bits Extended is_whole o vals) stack o sp vals low r was p memory after l h _ _
          ((known_bits_sound Extended is_whole o vals _ refl).writes p l h b.bytes b.registers) b w
          (with_pair_copied-kept (is_free_byte stack.region) is_whole o r.byte (values_of vals r.pairs) _ b.cells
          (pairs_after-kept (is_free_byte stack.region) is_whole o sp (values_of vals r.pairs) b.cells))
          (HoldPairs-with_pair_copied is_whole o r.byte (values_of vals r.pairs) _ _ p memory l h b.relations.byte (Holds-begun b)
          (HoldPairs-pairs_after is_whole o sp (values_of vals r.pairs) _ p l h has b.sp_first b.sp_last small are b.low_small b.high_small b.bytes (Holds-begun b)));
    }

pub relations_after_sound :
    (rules : Rules) (is_whole : Bool) (stack : StackBytes) (o : Op) (sp : Bounds) (vals : Registers Val) (low : Val) (r after : Relations)
    → after ≡ relations_after rules is_whole stack o sp vals low r → HasBytes o → sp.last < 65536
    → r.pairs.bc.bounds.last < 65536 → r.pairs.de.bounds.last < 65536 → r.pairs.hl.bounds.last < 65536
    → IsSoundTransfer stack o sp vals low r after
unfolding relations_after
relations_after_sound rules is_whole stack o sp vals low r after e has small bc de hl =
    let are = are_words r.pairs bc de hl in
    subst (λ k. IsSoundTransfer stack o sp vals low r k) (sym e)
    (record {
      gives = λ was p memory written l h b w. HoldRelations-relations_after rules is_whole stack o sp vals low r was p memory written l h has small are b w;
      placed = λ h. relations_after-placed rules is_whole stack o sp vals low r h;
    })

pub relations_after_kept :
    (may_be : ℕ → Bool) (rules : Rules) (is_whole : Bool) (stack : StackBytes) (o : Op) (sp : Bounds) (vals : Registers Val) (low : Val) (r after : Relations)
    → after ≡ relations_after rules is_whole stack o sp vals low r → ArePairs may_be r.pairs → ArePairs may_be after.pairs
unfolding relations_after
relations_after_kept may_be rules is_whole stack o sp vals low r after e are =
    subst (λ (k : Relations). ArePairs may_be k.pairs) (sym e) (kept rules)
  where
    kept : (z : Rules) → ArePairs may_be (relations_after z is_whole stack o sp vals low r).pairs
    kept Simple = ArePairs-nothing may_be
    kept Extended =
        cells_after-kept may_be (known_bits Extended is_whole o vals) o (values_of vals r.pairs) low _
        (with_pair_copied-kept may_be is_whole o r.byte (values_of vals r.pairs) _ are (pairs_after-kept may_be is_whole o sp (values_of vals r.pairs) are))
