-- A word that is added to HL: the sums, and the carry.
use Rattle.std.proofs.Common.{◌≡◌, ◌∙◌, Option, Some, None, ℕ, ◌+◌, ◌*◌, ◌/◌, ◌%◌, ◌<◌, Bool, true, false, not, ◌&&◌, cond, refl, sym, subst, arith}
use Rattle.std.proofs.lemmas.Bool.{and_parts, eqb-true}
use Rattle.std.proofs.lemmas.Bool.Decides.{nat_tests}
use Rattle.gb_ops.specs.declared.op.Register.TheVariants.{H, L}
use Rattle.gb_ops.specs.declared.registers.Registers.{Registers}
use Rattle.gb_ops.specs.Registers.{set}
use Rattle.gb_domain.specs.declared.pairs.WordPair.{WordPair}
use Rattle.gb_domain.specs.declared.pairs.WordPair.TheVariants as pair
use Rattle.gb_domain.specs.declared.pairs.Bounds.{Bounds}
use Rattle.gb_domain.specs.declared.pairs.Link.{Link}
use Rattle.gb_domain.specs.declared.pairs.Pairs.{Pairs}
use Rattle.gb_domain.specs.Pairs.{facts_of}
use Rattle.gb_pairs.specs.declared.values.Values.{Values}
use Rattle.gb_pairs.specs.declared.moved.HlSum.{HlSum}
use Rattle.gb_pairs.specs.Bounds.{is_one, bounds_of}
use Rattle.gb_pairs.specs.Meaning.{Beside, word_of, IsLinked, HoldsPair, HoldPairs, AreBytes, Holds}
use Rattle.gb_pairs.specs.Written.{is_same_pair, without_register}
use Rattle.gb_pairs.specs.Moved.{goes_round, if_alike, carry_of, sums, moved_link, stepped, with_hl, link_of_sum, added}
use Rattle.gb_pairs.specs.Sound.{Within, with_word, IsCarry, IsWordOf, IsSoundSum}
use Rattle.gb_pairs.proofs.RegisterLaws.{AreBytes-set}
use Rattle.gb_pairs.proofs.BoundsLaws.{Within-bounds_of}
use Rattle.gb_pairs.proofs.WrittenLaws.{HoldPairs-without}
use Rattle.gb_pairs.proofs.StepLaws.{Within-any, IsLinked-moved, word_same, get_with_word, HoldPairs-stepped}
use Rattle.gb_pairs.proofs.CopiedLaws.{linked_copied, unread, other_again}
use Rattle.gb_pairs.specs.Copied.{link_copied}

-- ---- carry and sums

IsCarry-carry_of : (b c : Bounds) (w n : ℕ) → Within b w → Within c n → IsCarry (carry_of b c) (w + n)
unfolding carry_of
IsCarry-carry_of b c w n h k = choose (goes_round b.first c.first) (goes_round b.last c.last) refl refl
  where
    choose :
        (s t : Bool) → goes_round b.first c.first ≡ s → goes_round b.last c.last ≡ t → IsCarry (if_alike s t) (w + n)
    choose true true e f = grind (arith, nat_tests)
    choose true false e f = tt
    choose false true e f = tt
    choose false false e f = grind (arith, nat_tests)

Within-sums :
    (b c : Bounds) (w n : ℕ) → b.last < 65536 → c.last < 65536 → Within b w → Within c n
    → Within (sums (carry_of b c) b c) ((w + n) % 65536)
unfolding carry_of
Within-sums b c w n p q h k = choose (goes_round b.first c.first) (goes_round b.last c.last) refl refl
  where
    choose :
        (s t : Bool) → goes_round b.first c.first ≡ s → goes_round b.last c.last ≡ t
        → Within (sums (if_alike s t) b c) ((w + n) % 65536)
    choose true true e f = record { least = grind (arith, nat_tests); most = grind (arith, nat_tests) }
    choose true false e f = Within-any _ (omega arith)
    choose false true e f = Within-any _ (omega arith)
    choose false false e f = record { least = grind (arith, nat_tests); most = grind (arith, nat_tests) }

-- ---- pairs

-- HL is some other word
HoldPairs-with_hl :
    (b : Bounds) (l : Option Link) (s : Pairs) (w : ℕ) (was : Beside) (x : Registers ℕ)
    → w < 65536 → AreBytes x → HoldPairs s was x → Within b w → IsLinked l pair.Hl was (with_word pair.Hl w x)
    → HoldPairs (with_hl b l s) was (with_word pair.Hl w x)
HoldPairs-with_hl b l s w was x small bytes h k linked = record { each = each }
  where
    low : AreBytes (set L (w % 256) x)
    low = AreBytes-set L _ x (omega arith) bytes

    left : HoldPairs (without_register H (without_register L s)) was (with_word pair.Hl w x)
    left = HoldPairs-without H _ (w / 256) was _ (omega arith) low (HoldPairs-without L s (w % 256) was x (omega arith) bytes h)

    each : (p : WordPair) → HoldsPair (facts_of p (with_hl b l s)) p was (with_word pair.Hl w x)
    each pair.Bc = left.each pair.Bc
    each pair.De = left.each pair.De
    each pair.Hl =
        let is : 256 * (w / 256) + w % 256 ≡ w = omega arith in
        let least = k.least in
        let most = k.most in
        record { first = omega arith; last = omega arith; link = linked }

-- HL is the pair's word and a known one more
linked_sum :
    (from : Option WordPair) (v : Values) (was : Beside) (x : Registers ℕ) (n : ℕ) → AreBytes x → Holds v was x → n < 65536 → IsWordOf from n x
    → IsLinked (link_of_sum from v) pair.Hl was (with_word pair.Hl ((word_of pair.Hl x + n) % 65536) x)
linked_sum None v was x n bytes h small is = tt
linked_sum (Some p) v was x n bytes h small is = choose (is_one hl) (is_same_pair pair.Hl p) refl refl
  where
    hl : Bounds
    hl = bounds_of pair.Hl v

    y : Registers ℕ
    y = with_word pair.Hl n x

    z : Registers ℕ
    z = with_word pair.Hl ((word_of pair.Hl x + n) % 65536) x

    copied : Link
    copied = link_copied pair.Hl p (facts_of p v.pairs).link

    choose :
        (b c : Bool) → is_one hl ≡ b → is_same_pair pair.Hl p ≡ c
        → IsLinked (cond (b && not c) (Some (moved_link hl.first 0 copied)) None) pair.Hl was z
    choose false c e f = tt
    choose true true e f = tt
    choose true false e f =
        let held : n ≡ word_of p x = is in
        let single : hl.first ≡ hl.last = eqb-true _ _ e in
        let within = Within-bounds_of pair.Hl v was x h in
        let least = within.least in
        let most = within.most in
        let known : word_of pair.Hl x ≡ hl.first = omega arith in
        let linked : IsLinked (Some copied) pair.Hl was y =
        linked_copied pair.Hl p (facts_of p v.pairs).link was x y f (word_same pair.Hl n x ∙ held) (λ r k. get_with_word r pair.Hl n x k)
        (h.pairs.each p).link in
        IsLinked-moved copied pair.Hl was y z hl.first 0
        (word_same pair.Hl _ x ∙ subst (λ m. (word_of pair.Hl x + n) % 65536 ≡ (m + hl.first) % 65536) (sym (word_same pair.Hl n x)) (omega arith))
        (other_again copied.other n ((word_of pair.Hl x + n) % 65536) was x (unread pair.Hl p (facts_of p v.pairs).link f)) linked

pairs_added :
    (c : Bounds) (is_hl : Bool) (from : Option WordPair) (v : Values) (was : Beside) (x : Registers ℕ) (n : ℕ)
    → (bounds_of pair.Hl v).last < 65536 → c.last < 65536 → AreBytes x → Holds v was x → Within c n → IsWordOf from n x
    → HoldPairs (added c is_hl from v).pairs was (with_word pair.Hl ((word_of pair.Hl x + n) % 65536) x)
unfolding added
pairs_added c is_hl from v was x n p q bytes h k is = choose (is_one c && not is_hl) refl
  where
    hl : Bounds
    hl = bounds_of pair.Hl v

    sum : Within (sums (carry_of hl c) hl c) ((word_of pair.Hl x + n) % 65536)
    sum = Within-sums hl c _ n p q (Within-bounds_of pair.Hl v was x h) k

    choose :
        (b : Bool) → (is_one c && not is_hl) ≡ b
        → HoldPairs
        (cond b (stepped pair.Hl c.first (sums (carry_of hl c) hl c) v.pairs) (with_hl (sums (carry_of hl c) hl c) (link_of_sum from v) v.pairs)) was
        (with_word pair.Hl ((word_of pair.Hl x + n) % 65536) x)
    choose true e =
        let one : c.first ≡ c.last = eqb-true _ _ (and_parts _ _ e).0 in
        let least = k.least in
        let most = k.most in
        let known : n ≡ c.first = omega arith in
        subst
        (λ m. Within (sums (carry_of hl c) hl c) ((word_of pair.Hl x + m) % 65536)
        → HoldPairs (stepped pair.Hl c.first (sums (carry_of hl c) hl c) v.pairs) was (with_word pair.Hl ((word_of pair.Hl x + m) % 65536) x))
        (sym known)
        (λ m. HoldPairs-stepped pair.Hl c.first _ v.pairs was x bytes h.pairs m)
        sum
    choose false e =
        let last = k.most in
        HoldPairs-with_hl _ (link_of_sum from v) v.pairs _ was x (omega arith) bytes h.pairs sum
        (linked_sum from v was x n bytes h (omega arith) is)

pub added_sound :
    (c : Bounds) (is_hl : Bool) (from : Option WordPair) (v : Values) (o : HlSum)
    → o ≡ added c is_hl from v → (bounds_of pair.Hl v).last < 65536 → c.last < 65536 → IsSoundSum c from v o
unfolding added
added_sound c is_hl from v o e p q =
    subst (λ s. IsSoundSum c from v s) (sym e)
    (record {
      pairs = λ was x n bytes h least most is. pairs_added c is_hl from v was x n p q bytes h (record { least = least; most = most }) is;
      carry = λ was x n bytes h least most. IsCarry-carry_of _ c _ n (Within-bounds_of pair.Hl v was x h) (record { least = least; most = most });
    })
