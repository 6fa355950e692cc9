-- Forgetting leaves what holds, whatever was written.
use Rattle.std.proofs.Common.{◌≡◌, ℕ, ◌<◌, ◌≤◌, Bool, true, false, cond, Option, Some, None, refl, sym, subst, arith}
use Rattle.std.specs.Prelude.{is_none}
use Rattle.gb_ops.specs.declared.op.Register.{Register}
use Rattle.gb_ops.specs.declared.registers.Registers.{Registers}
use Rattle.gb_ops.specs.Registers.{set}
use Rattle.gb_domain.specs.declared.pairs.WordPair.{WordPair}
use Rattle.gb_domain.specs.declared.pairs.WordPair.TheVariants as pair
use Rattle.gb_domain.specs.declared.pairs.Other.{Other}
use Rattle.gb_domain.specs.declared.pairs.Other.TheVariants as other
use Rattle.gb_domain.specs.declared.pairs.Link.{Link}
use Rattle.gb_domain.specs.declared.pairs.PairFacts.{PairFacts}
use Rattle.gb_domain.specs.declared.pairs.Pairs.{Pairs}
use Rattle.gb_domain.specs.Pairs.{nothing_known, facts_of}
use Rattle.gb_pairs.specs.Meaning.{Beside, word_of, other_of, base_of, AreLinked, IsLinked, HoldsPair, HoldPairs, AreBytes}
use Rattle.gb_pairs.specs.Written.{is_half, reads, link_without, facts_without, without_register, link_without_base, facts_without_base, without_bases}
use Rattle.gb_pairs.specs.Sound.{IsSoundWithoutBases, IsSoundForgetting}
use Rattle.gb_pairs.proofs.RegisterLaws.{get_other, word_other, AreBytes-set}
use Rattle.gb_pairs.proofs.BoundsLaws.{word_below}

-- what isn't read from the register stays
other_stays : (r : Register) (o : Other) (n : ℕ) (was : Beside) (x : Registers ℕ) → reads r o ≡ false → other_of o was (set r n x) ≡ other_of o was x
other_stays r (other.Register s) n was x h = get_other r s n x h
other_stays r (other.Pair p) n was x h = word_other r p n x h
other_stays r (other.Cell a) n was x h = refl
other_stays r other.Nothing n was x h = refl

-- a link goes on where the pair and what it reads stay
IsLinked-stays :
    (l : Option Link) (p : WordPair) (was : Beside) (x y : Registers ℕ)
    → word_of p y ≡ word_of p x → ((k : Link) → l ≡ Some k → other_of k.other was y ≡ other_of k.other was x)
    → IsLinked l p was x → IsLinked l p was y
IsLinked-stays None p was x y e f h = tt
IsLinked-stays (Some l) p was x y e f h =
    let g : other_of l.other was y ≡ other_of l.other was x = f l refl in
    subst (λ w. AreLinked l (base_of l.base was.entered) w (other_of l.other was y)) (sym e) (subst (λ o. AreLinked l (base_of l.base was.entered) (word_of p x) o) (sym g) h)

IsLinked-without :
    (r : Register) (l : Option Link) (p : WordPair) (n : ℕ) (was : Beside) (x : Registers ℕ)
    → is_half r p ≡ false → IsLinked l p was x → IsLinked (link_without r l) p was (set r n x)
IsLinked-without r None p n was x e h = tt
IsLinked-without r (Some l) p n was x e h = choose (reads r l.other) refl
  where
    choose : (b : Bool) → reads r l.other ≡ b → IsLinked (cond b None (Some l)) p was (set r n x)
    choose true f = tt
    choose false f =
        subst (λ w. AreLinked l (base_of l.base was.entered) w (other_of l.other was (set r n x))) (sym (word_other r p n x e))
        (subst (λ o. AreLinked l (base_of l.base was.entered) (word_of p x) o) (sym (other_stays r l.other n was x f)) h)

HoldsPair-without :
    (r : Register) (p : WordPair) (f : PairFacts) (n : ℕ) (was : Beside) (x : Registers ℕ)
    → n ≤ 255 → AreBytes x → HoldsPair f p was x → HoldsPair (facts_without r p f) p was (set r n x)
HoldsPair-without r p f n was x byte bytes h = choose (is_half r p) refl
  where
    choose : (b : Bool) → is_half r p ≡ b → HoldsPair (cond b nothing_known (record f { link = link_without r f.link })) p was (set r n x)
    choose true e =
        let less : word_of p (set r n x) < 65536 = word_below p (set r n x) (AreBytes-set r n x (omega arith) bytes) in
        record { first = omega arith; last = omega arith; link = tt }
    choose false e =
        let same : word_of p (set r n x) ≡ word_of p x = word_other r p n x e in
        let least = h.first in
        let most = h.last in
        record { first = omega arith; last = omega arith; link = IsLinked-without r f.link p n was x e h.link }

pub HoldPairs-without :
    (r : Register) (s : Pairs) (n : ℕ) (was : Beside) (x : Registers ℕ)
    → n ≤ 255 → AreBytes x → HoldPairs s was x → HoldPairs (without_register r s) was (set r n x)
unfolding without_register
HoldPairs-without r s n was x byte bytes h = record { each = each }
  where
    each : (p : WordPair) → HoldsPair (facts_of p (without_register r s)) p was (set r n x)
    each pair.Bc = HoldsPair-without r pair.Bc s.bc n was x byte bytes (h.each pair.Bc)
    each pair.De = HoldsPair-without r pair.De s.de n was x byte bytes (h.each pair.De)
    each pair.Hl = HoldsPair-without r pair.Hl s.hl n was x byte bytes (h.each pair.Hl)

pub without_register_sound : (r : Register) (s o : Pairs) → o ≡ without_register r s → IsSoundForgetting r s o
without_register_sound r s o e =
    subst (λ t. IsSoundForgetting r s t) (sym e) (record { gives = λ was x n. HoldPairs-without r s n was x })

-- ---- a procedure is left

unentered : (o : Other) (was : Beside) (entered x : Registers ℕ) → other_of o was x ≡ other_of o (record was { entered = entered }) x
unentered (other.Register r) was entered x = refl
unentered (other.Pair p) was entered x = refl
unentered (other.Cell a) was entered x = refl
unentered other.Nothing was entered x = refl

IsLinked-without_bases :
    (l : Option Link) (p : WordPair) (was : Beside) (entered x : Registers ℕ)
    → IsLinked l p was x → IsLinked (link_without_base l) p (record was { entered = entered }) x
IsLinked-without_bases None p was entered x h = tt
IsLinked-without_bases (Some l) p was entered x h = choose l.base refl
  where
    choose : (b : Option WordPair) → l.base ≡ b → IsLinked (cond (is_none b) (Some l) None) p (record was { entered = entered }) x
    choose (Some q) e = tt
    choose None e =
        subst (λ c. AreLinked l (base_of c entered) (word_of p x) (other_of l.other (record was { entered = entered }) x)) (sym e)
        (subst (λ c. AreLinked l (base_of c was.entered) (word_of p x) (other_of l.other (record was { entered = entered }) x)) e
        (subst (λ n. AreLinked l (base_of l.base was.entered) (word_of p x) n) (unentered l.other was entered x) h))

HoldsPair-without_bases :
    (f : PairFacts) (p : WordPair) (was : Beside) (entered x : Registers ℕ)
    → HoldsPair f p was x → HoldsPair (facts_without_base f) p (record was { entered = entered }) x
HoldsPair-without_bases f p was entered x h = record { first = h.first; last = h.last; link = IsLinked-without_bases f.link p was entered x h.link }

pub without_bases_sound : (s o : Pairs) → o ≡ without_bases s → IsSoundWithoutBases s o
unfolding without_bases
without_bases_sound s o e = subst (λ t. IsSoundWithoutBases s t) (sym e) (record { gives = λ was entered x h. record { each = each was entered x h } })
  where
    each :
        (was : Beside) (entered x : Registers ℕ)
        → HoldPairs s was x → (p : WordPair) → HoldsPair (facts_of p (without_bases s)) p (record was { entered = entered }) x
    each was entered x h pair.Bc = HoldsPair-without_bases s.bc pair.Bc was entered x (h.each pair.Bc)
    each was entered x h pair.De = HoldsPair-without_bases s.de pair.De was entered x (h.each pair.De)
    each was entered x h pair.Hl = HoldsPair-without_bases s.hl pair.Hl was entered x (h.each pair.Hl)
