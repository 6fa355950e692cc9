-- What covers pairs holds of all that the values stand for.
use Rattle.gb_ops.specs.Registers.{get}
use Rattle.std.proofs.Common.{◌≡◌, ℕ, ◌+◌, ◌*◌, ◌%◌, ◌≤◌, Bool, true, false, cond, ◌||◌, Option, Some, None, inl, inr, refl, sym, ◌∙◌, ap, subst, arith}
use Rattle.std.specs.Prelude.{is_none}
use Rattle.std.proofs.lemmas.Bool.{and_parts, or_cases, eqb-true, leb-true}
use Rattle.gb_ops.specs.declared.op.Register.{Register}
use Rattle.gb_ops.specs.declared.op.Register.TheVariants as register
use Rattle.gb_ops.specs.declared.registers.Registers.{Registers}
use Rattle.gb_ops.specs.Pairs.{word}
use Rattle.gb_domain.specs.declared.pairs.WordPair.{WordPair}
use Rattle.gb_domain.specs.declared.pairs.WordPair.TheVariants as pair
use Rattle.gb_domain.specs.declared.pairs.Bounds.{Bounds}
use Rattle.gb_domain.specs.declared.pairs.Other.{Other}
use Rattle.gb_domain.specs.declared.pairs.Other.TheVariants as other
use Rattle.gb_domain.specs.declared.pairs.PairBounds.{PairBounds}
use Rattle.gb_domain.specs.declared.places.OneByte.{OneByte}
use Rattle.gb_domain.specs.declared.pairs.Link.{Link}
use Rattle.gb_domain.specs.declared.pairs.PairFacts.{PairFacts}
use Rattle.gb_domain.specs.declared.pairs.Pairs.{Pairs}
use Rattle.gb_domain.specs.declared.types.Origin.{Origin}
use Rattle.gb_domain.specs.declared.types.Origin.TheVariants as origin
use Rattle.gb_domain.specs.Types.{origin_of_register}
use Rattle.gb_domain.specs.Pairs.{facts_of}
use Rattle.gb_pairs.specs.declared.values.Values.{Values}
use Rattle.gb_pairs.specs.Bounds.{is_one, high_of, low_of, bounds_of, bounds_of_other}
use Rattle.gb_pairs.specs.Meaning.{Beside, word_of, other_of, base_of, AreLinked, IsLinked, IsOtherIn, IsReadIn, AreReadIn, HoldsPair, HoldPairs, Holds}
use Rattle.gb_pairs.specs.Covering.{is_same_other, is_same_base, is_same_link, meets_link, holds_link_plainly, arc, arc_of_bounds, arc_of_link, arc_of_sums, are_one_byte, follows, arc_by_link, is_copy_of, is_as_entered, arc_by_itself, holds_link, covers_link, covers_pair, covers_pairs}
use Rattle.gb_pairs.specs.Sound.{Within, AreOneByte, AreCopies, ArePartOf}
use Rattle.gb_pairs.proofs.BaseLaws.{AreMet, less, AreMet-less, AreLinked-alone, AreLinked-more}
use Rattle.gb_pairs.proofs.ArcLaws.{IsOn, IsOnIf, IsOn-in, IsOn-bounds, IsOn-link, IsOn-sums, AreMet-on, AreMet-follows}
use Rattle.gb_domain.proofs.RegisterLaws.{same_register}
use Rattle.gb_pairs.proofs.RegisterLaws.{same_pair}
use Rattle.gb_pairs.proofs.BoundsLaws.{Within-bounds_of, Within-bounds_of_other, word_of-is}

same_other : (o p : Other) → is_same_other o p ≡ true → o ≡ p
same_other (other.Register r) (other.Register s) h = ap (λ q. other.Register q) (same_register r s h)
same_other (other.Pair p) (other.Pair q) h = ap (λ r. other.Pair r) (same_pair p q h)
same_other (other.Cell a) (other.Cell b) h = ap (λ c. other.Cell c) (eqb-true _ _ h)
same_other (other.Cell a) (other.Register s) h = cc
same_other (other.Cell a) (other.Pair q) h = cc
same_other (other.Cell a) other.Nothing h = cc
same_other (other.Register r) (other.Cell b) h = cc
same_other (other.Pair p) (other.Cell b) h = cc
same_other other.Nothing (other.Cell b) h = cc
same_other (other.Register r) (other.Pair q) h = cc
same_other (other.Pair p) (other.Register s) h = cc
same_other other.Nothing other.Nothing h = refl
same_other other.Nothing (other.Register s) h = cc
same_other other.Nothing (other.Pair q) h = cc
same_other (other.Register r) other.Nothing h = cc
same_other (other.Pair p) other.Nothing h = cc

-- ---- links

-- a link by its parts
linked_by :
    (p : WordPair) (o : Other) (f s m : ℕ) (base : Option WordPair) (l : Link) (was : Beside) (x : Registers ℕ)
    → o ≡ l.other → f ≡ l.factor → s ≡ l.sum → m ≡ l.width → base_of base was.entered ≡ base_of l.base was.entered
    → AreLinked (record { other = o; factor = f; base = base; sum = s; width = m }) (base_of base was.entered) (word_of p x) (other_of o was x)
    → AreLinked l (base_of l.base was.entered) (word_of p x) (other_of l.other was x)
linked_by p o f s m base l was x a b c d e h =
    record {
      more = h.more;
      most = subst (λ n. h.more ≤ n) d h.most;
      sum =
          subst (λ i. (word_of p x + l.factor * other_of l.other was x) % 65536 ≡ (i + l.sum + h.more) % 65536) e
          (subst (λ t. (word_of p x + l.factor * other_of l.other was x) % 65536 ≡ (base_of base was.entered + t + h.more) % 65536) c
          (subst (λ g. (word_of p x + g * other_of l.other was x) % 65536 ≡ (base_of base was.entered + s + h.more) % 65536) b
          (subst (λ q. (word_of p x + f * other_of q was x) % 65536 ≡ (base_of base was.entered + s + h.more) % 65536) a h.sum)));
    }

same_base : (b c : Option WordPair) (was : Registers ℕ) → is_same_base b c ≡ true → base_of b was ≡ base_of c was
same_base None None was h = refl
same_base (Some p) (Some q) was h = ap (λ r. word_of r was) (same_pair p q h)
same_base None (Some q) was h = cc
same_base (Some p) None was h = cc

same_linked :
    (k : Option Link) (l : Link) (p : WordPair) (was : Beside) (x : Registers ℕ) → is_same_link k l ≡ true → IsLinked k p was x → IsLinked (Some l) p was x
same_linked None l p was x h m = cc
same_linked (Some k) l p was x h m =
    let widths = and_parts _ _ h in
    let sums = and_parts _ _ widths.0 in
    let bases = and_parts _ _ sums.0 in
    let parts = and_parts _ _ bases.0 in
    linked_by p k.other k.factor k.sum k.width k.base l was x (same_other k.other l.other parts.0) (eqb-true _ _ parts.1) (eqb-true _ _ sums.1)
    (eqb-true _ _ widths.1) (same_base k.base l.base was.entered bases.1) (record { more = m.more; most = m.most; sum = m.sum })

one_is : (b : Bounds) (w : ℕ) → is_one b ≡ true → Within b w → b.first ≡ w
one_is b w h k =
    let e : b.first ≡ b.last = eqb-true _ _ h in
    let least = k.least in
    let most = k.most in
    omega arith

met : (l : Link) (w n : ℕ) → (w + l.factor * n) % 65536 ≡ l.sum → AreLinked l 0 w n
met l w n h = AreLinked-alone l w n (record { more = 0; most = omega arith; sum = omega arith })

no_base : (b : Option WordPair) (was : Registers ℕ) → is_none b ≡ true → 0 ≡ base_of b was
no_base None was h = refl
no_base (Some p) was h = cc

met_linked :
    (b o : Bounds) (l : Link) (p : WordPair) (was : Beside) (x : Registers ℕ)
    → meets_link b o l ≡ true → Within b (word_of p x) → Within o (other_of l.other was x) → IsLinked (Some l) p was x
met_linked b o l p was x h m n =
    let sums = and_parts _ _ h in
    let ones = and_parts _ _ sums.0 in
    let one = and_parts _ _ ones.0 in
    let e : (b.first + l.factor * o.first) % 65536 ≡ l.sum = eqb-true _ _ sums.1 in
    subst (λ i. AreLinked l i (word_of p x) (other_of l.other was x)) (no_base l.base was.entered one.0)
    (subst (λ q. AreLinked l 0 (word_of p x) q) (one_is o _ ones.1 n)
    (subst (λ w. AreLinked l 0 w o.first) (one_is b _ one.1 m) (met l b.first o.first e)))

linked_plainly :
    (p : WordPair) (v : Values) (n : Bounds) (l : Link) (was : Beside) (x : Registers ℕ)
    → holds_link_plainly p v n l ≡ true → IsOtherIn l.other n was.memory → Holds v was x → IsLinked (Some l) p was x
unfolding holds_link_plainly
linked_plainly p v n l was x h i m =
    elim (or_cases _ _ h) [
      | inl same ↦ same_linked (facts_of p v.pairs).link l p was x same (m.pairs.each p).link
      | inr met ↦
          met_linked (bounds_of p v) (bounds_of_other n l.other v) l p was x met (Within-bounds_of p v was x m) (Within-bounds_of_other n l.other v was x i m)
    ]

-- ---- by the rules of version 4

alike :
    (byte : OneByte) (o p : Other) (was : Beside) (x : Registers ℕ)
    → (is_same_other o p || are_one_byte byte o p) ≡ true → AreOneByte (Some byte) was x → other_of o was x ≡ other_of p was x
alike byte o p was x h one =
    elim (or_cases _ _ h) [
      | inl same ↦ ap (λ q. other_of q was x) (same_other o p same)
      | inr both ↦ one o p (and_parts _ _ both).0 (and_parts _ _ both).1
    ]

linked_follows :
    (byte : OneByte) (k : Option Link) (l : Link) (p : WordPair) (was : Beside) (x : Registers ℕ)
    → follows byte k l ≡ true → AreOneByte (Some byte) was x → IsLinked k p was x → IsLinked (Some l) p was x
linked_follows byte None l p was x h one m = cc
linked_follows byte (Some k) l p was x h one m =
    let sums = and_parts _ _ h in
    let factor = and_parts _ _ sums.0 in
    let parts = and_parts _ _ factor.0 in
    let factors : k.factor ≡ l.factor = eqb-true _ _ factor.1 in
    let w : ℕ = less (word_of p x) (base_of l.base was.entered) in
    let alone : AreMet k w (other_of k.other was x) =
    AreMet-less k (base_of l.base was.entered) (word_of p x) (other_of k.other was x)
    (subst (λ b. AreLinked k b (word_of p x) (other_of k.other was x)) (same_base k.base l.base was.entered parts.0) m) in
    let on : IsOn (arc_of_sums l) (w + k.factor * other_of k.other was x) = IsOn-in (arc_of_sums k) (arc_of_sums l) _ sums.1 (IsOn-sums k _ _ alone) in
    AreLinked-more l (base_of l.base was.entered) (word_of p x) (other_of l.other was x)
    (AreMet-on l _ _
    (subst (λ f. IsOn (arc_of_sums l) (w + f * other_of l.other was x)) factors
    (subst (λ n. IsOn (arc_of_sums l) (w + k.factor * n)) (alike byte k.other l.other was x parts.1 one) on)))

-- by a link that has the base
below :
    (k : Option Link) (base : Option WordPair) (v : Values) (b : Bounds) (p : WordPair) (was : Beside) (x : Registers ℕ)
    → IsReadIn k b was.memory → Holds v was x → IsLinked k p was x → IsOnIf (arc_by_link v b base k) (less (word_of p x) (base_of base was.entered))
below None base v b p was x i h m = tt
below (Some k) base v b p was x i h m = choose (is_same_base k.base base) refl
  where
    choose :
        (c : Bool) → is_same_base k.base base ≡ c
        → IsOnIf (cond c (arc_of_link k (bounds_of_other b k.other v)) None) (less (word_of p x) (base_of base was.entered))
    choose true e =
        IsOn-link k (bounds_of_other b k.other v) _ _ (Within-bounds_of_other b k.other v was x i h)
        (AreMet-less k (base_of base was.entered) (word_of p x) (other_of k.other was x)
        (subst (λ c. AreLinked k c (word_of p x) (other_of k.other was x)) (same_base k.base base was.entered e) m))
    choose false e = tt

copied : (r : Register) (o : Option Origin) → is_copy_of r o ≡ true → o ≡ Some (origin_of_register r)
copied register.A (Some origin.A) h = refl
copied register.B (Some origin.B) h = refl
copied register.C (Some origin.C) h = refl
copied register.D (Some origin.D) h = refl
copied register.E (Some origin.E) h = refl
copied register.H (Some origin.H) h = refl
copied register.L (Some origin.L) h = refl
copied _ _ h = cc

-- a pair whose bytes are those that one held holds its word
pub word_entered :
    (p q : WordPair) (v : Values) (was x : Registers ℕ)
    → is_as_entered p q v ≡ true → AreCopies v.registers was x → word_of p x ≡ word_of q was
word_entered p q v was x h copies =
    let halves = and_parts _ _ h in
    let high : get (high_of p) x ≡ get (high_of q) was = copies.each (high_of p) (high_of q) (copied (high_of q) _ halves.0) in
    let low : get (low_of p) x ≡ get (low_of q) was = copies.each (low_of p) (low_of q) (copied (low_of q) _ halves.1) in
    sym (word_of-is p x) ∙ ap (λ h. word h (get (low_of p) x)) high ∙ ap (λ l. word (get (high_of q) was) l) low ∙ word_of-is q was

around : (w base first more : ℕ) → w % 65536 ≡ (first + more) % 65536 → base ≡ 0 → less w base % 65536 ≡ (first + more) % 65536
around w base first more h e = omega arith

nothing_left : (w base : ℕ) → w ≡ base → less w base % 65536 ≡ (0 + 0) % 65536
nothing_left w base e = omega arith

-- by itself
alone :
    (base : Option WordPair) (p : WordPair) (v : Values) (was : Beside) (x : Registers ℕ)
    → AreCopies v.registers was.entered x → Holds v was x → IsOnIf (arc_by_itself v base p) (less (word_of p x) (base_of base was.entered))
alone None p v was x copies h =
    let on : IsOn (arc_of_bounds (bounds_of p v)) (word_of p x) = IsOn-bounds (bounds_of p v) _ (Within-bounds_of p v was x h) in
    record { more = on.more; most = on.most; is = around (word_of p x) 0 _ on.more on.is refl }
alone (Some q) p v was x copies h = choose (is_as_entered p q v) refl
  where
    choose : (c : Bool) → is_as_entered p q v ≡ c → IsOnIf (cond c (Some (arc 0 0)) None) (less (word_of p x) (word_of q was.entered))
    choose true e = record { more = 0; most = omega arith; is = nothing_left _ _ (word_entered p q v was.entered x e copies) }
    choose false e = tt

linked :
    (byte : OneByte) (p : WordPair) (v : Values) (a b : Bounds) (l : Link) (was : Beside) (x : Registers ℕ)
    → holds_link byte p v a b l ≡ true → AreOneByte (Some byte) was x → AreCopies v.registers was.entered x
    → IsReadIn (facts_of p v.pairs).link a was.memory → IsOtherIn l.other b was.memory → Holds v was x → IsLinked (Some l) p was x
unfolding holds_link
linked byte p v a b l was x h one copies i j m =
    let other = Within-bounds_of_other b l.other v was x j m in
    let known : Option Link = (facts_of p v.pairs).link in
    elim (or_cases _ _ h) [
      | inl first ↦
          elim (or_cases _ _ first) [
            | inl follows ↦ linked_follows byte known l p was x follows one (m.pairs.each p).link
            | inr itself ↦
                AreLinked-more l _ _ _
                (AreMet-follows l _ (arc_by_itself v l.base p) _ _ other (alone l.base p v was x copies m) itself)
          ]
      | inr by_link ↦
          AreLinked-more l _ _ _
          (AreMet-follows l _ (arc_by_link v a l.base known) _ _ other (below known l.base v a p was x i m (m.pairs.each p).link) by_link)
    ]

covered_link :
    (by : Option OneByte) (p : WordPair) (v : Values) (a b : Bounds) (l : Option Link) (was : Beside) (x : Registers ℕ)
    → covers_link by p v a b l ≡ true → AreOneByte by was x → AreCopies v.registers was.entered x
    → IsReadIn (facts_of p v.pairs).link a was.memory → IsReadIn l b was.memory → Holds v was x → IsLinked l p was x
covered_link by p v a b None was x h one copies i j m = tt
covered_link None p v a b (Some l) was x h one copies i j m = linked_plainly p v b l was x h j m
covered_link (Some byte) p v a b (Some l) was x h one copies i j m = linked byte p v a b l was x h one copies i j m

-- ---- pairs

covered_pair :
    (by : Option OneByte) (p : WordPair) (v : Values) (a b : Bounds) (f : PairFacts) (was : Beside) (x : Registers ℕ)
    → covers_pair by p v a b f ≡ true → AreOneByte by was x → AreCopies v.registers was.entered x
    → IsReadIn (facts_of p v.pairs).link a was.memory → IsReadIn f.link b was.memory → Holds v was x → HoldsPair f p was x
covered_pair by p v a b f was x h one copies i j m =
    let parts = and_parts _ _ h in
    let ends = and_parts _ _ parts.0 in
    let first : f.bounds.first ≤ (bounds_of p v).first = leb-true _ _ ends.0 in
    let last : (bounds_of p v).last ≤ f.bounds.last = leb-true _ _ ends.1 in
    let least = (Within-bounds_of p v was x m).least in
    let most = (Within-bounds_of p v was x m).most in
    record { first = omega arith; last = omega arith; link = covered_link by p v a b f.link was x parts.1 one copies i j m }

covered :
    (by : Option OneByte) (v : Values) (a b : PairBounds) (s : Pairs) (was : Beside) (x : Registers ℕ)
    → covers_pairs by v a b s ≡ true → AreOneByte by was x → AreCopies v.registers was.entered x
    → AreReadIn v.pairs a was.memory → AreReadIn s b was.memory → Holds v was x → HoldPairs s was x
unfolding covers_pairs
covered by v a b s was x h one copies i j m = record { each = each }
  where
    each : (p : WordPair) → HoldsPair (facts_of p s) p was x
    each pair.Bc = covered_pair by pair.Bc v a.bc b.bc s.bc was x (and_parts _ _ (and_parts _ _ h).0).0 one copies (i.each pair.Bc) (j.each pair.Bc) m
    each pair.De = covered_pair by pair.De v a.de b.de s.de was x (and_parts _ _ (and_parts _ _ h).0).1 one copies (i.each pair.De) (j.each pair.De) m
    each pair.Hl = covered_pair by pair.Hl v a.hl b.hl s.hl was x (and_parts _ _ h).1 one copies (i.each pair.Hl) (j.each pair.Hl) m

pub covers_pairs_sound :
    (by : Option OneByte) (v : Values) (a b : PairBounds) (s : Pairs) (o : Bool)
    → o ≡ covers_pairs by v a b s → o ≡ true → ArePartOf by v a b s
covers_pairs_sound by v a b s o e h = record { gives = λ was x one copies i j m. covered by v a b s was x (sym e ∙ h) one copies i j m }
