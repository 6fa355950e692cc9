-- A pair that moved by a known amount: its new bounds, and links with new sums.
use Rattle.std.proofs.Common.{◌≡◌, ℕ, ◌+◌, ◌-◌, ◌*◌, ◌/◌, ◌%◌, ◌<◌, Bool, true, false, ◌&&◌, ◌||◌, cond, nat_lt, nat_le, Option, Some, None, refl, sym, ◌∙◌, ap, subst, arith}
use Rattle.std.proofs.lemmas.Bool.Decides.{nat_tests}
use Rattle.gb_ops.specs.declared.op.Register.{Register}
use Rattle.gb_ops.specs.declared.op.Register.TheVariants.{A, B, C, D, E, H, L}
use Rattle.gb_ops.specs.declared.registers.Registers.{Registers}
use Rattle.gb_ops.specs.Registers.{get}
use Rattle.gb_domain.specs.declared.pairs.WordPair.{WordPair}
use Rattle.gb_domain.specs.declared.pairs.WordPair.TheVariants as pair
use Rattle.gb_domain.specs.declared.pairs.Bounds.{Bounds}
use Rattle.gb_domain.specs.declared.pairs.Other.{Other}
use Rattle.gb_domain.specs.declared.pairs.Other.TheVariants as other
use Rattle.gb_domain.specs.declared.pairs.Link.{Link}
use Rattle.gb_domain.specs.declared.pairs.PairFacts.{PairFacts}
use Rattle.gb_domain.specs.declared.pairs.Pairs.{Pairs}
use Rattle.gb_domain.specs.Pairs.{any_bounds, facts_of}
use Rattle.gb_vals.specs.Logic.{smaller, larger}
use Rattle.gb_pairs.specs.declared.values.Values.{Values}
use Rattle.gb_pairs.specs.Bounds.{bounds_of}
use Rattle.gb_pairs.specs.Meaning.{Beside, word_of, other_of, base_of, IsLinked, HoldsPair, HoldPairs, AreBytes, Holds}
use Rattle.gb_pairs.specs.Written.{is_half, is_same_pair}
use Rattle.gb_pairs.specs.Moved.{moved_link, by_if, bounds_up, bounds_down, reads_half, reads_pair, link_of_step, facts_of_step, stepped, incremented, decremented}
use Rattle.gb_pairs.specs.Sound.{Within, with_word, IsSoundStep}
use Rattle.gb_pairs.proofs.RegisterLaws.{same_pair}
use Rattle.gb_pairs.proofs.BoundsLaws.{Within-bounds_of, word_below}

-- ---- on plain numbers

moved_sum :
    (w o f base s more a b w' o' : ℕ)
    → (w + f * o) % 65536 ≡ (base + s + more) % 65536 → w' ≡ (w + a) % 65536 → o' % 65536 ≡ (o + b) % 65536
    → (w' + f * o') % 65536 ≡ (base + (s + a + f * b) % 65536 + more) % 65536
moved_sum w o f base s more a b w' o' h d e =
    let q : ℕ = o' / 65536 in
    let r : ℕ = (o + b) / 65536 in
    let is : o + b + 65536 * q ≡ o' + 65536 * r = omega arith in
    let times : f * o + f * b + 65536 * (f * q) ≡ f * o' + 65536 * (f * r) = omega (arith, ap (λ n. f * n) is) in
    omega arith

word_split : (w : ℕ) → 256 * (w / 256) + w % 256 ≡ w
word_split w = omega arith

pub stays : (n : ℕ) → n < 65536 → n ≡ (n + 0) % 65536
stays n h = omega arith

-- whatever it is
pub none_more : (n : ℕ) → n % 65536 ≡ (n + 0) % 65536
none_more n = omega arith

pub again : (m n : ℕ) → m ≡ n % 65536 → m % 65536 ≡ n % 65536
again m n h = omega arith

-- ---- links

pub IsLinked-moved :
    (l : Link) (q : WordPair) (was : Beside) (x y : Registers ℕ) (a b : ℕ)
    → word_of q y ≡ (word_of q x + a) % 65536 → other_of l.other was y % 65536 ≡ (other_of l.other was x + b) % 65536
    → IsLinked (Some l) q was x → IsLinked (Some (moved_link a b l)) q was y
IsLinked-moved l q was x y a b d e h =
    record {
      more = h.more;
      most = h.most;
      sum = moved_sum (word_of q x) (other_of l.other was x) l.factor (base_of l.base was.entered) l.sum h.more a b (word_of q y) (other_of l.other was y) h.sum d e;
    }

-- ---- registers where a pair becomes a word

pub word_same : (p : WordPair) (w : ℕ) (x : Registers ℕ) → word_of p (with_word p w x) ≡ w
word_same pair.Bc w x = word_split w
word_same pair.De w x = word_split w
word_same pair.Hl w x = word_split w

pub get_with_word : (r : Register) (p : WordPair) (w : ℕ) (x : Registers ℕ) → is_half r p ≡ false → get r (with_word p w x) ≡ get r x
get_with_word A pair.Bc w x h = refl
get_with_word B pair.Bc w x h = cc
get_with_word C pair.Bc w x h = cc
get_with_word D pair.Bc w x h = refl
get_with_word E pair.Bc w x h = refl
get_with_word H pair.Bc w x h = refl
get_with_word L pair.Bc w x h = refl
get_with_word A pair.De w x h = refl
get_with_word B pair.De w x h = refl
get_with_word C pair.De w x h = refl
get_with_word D pair.De w x h = cc
get_with_word E pair.De w x h = cc
get_with_word H pair.De w x h = refl
get_with_word L pair.De w x h = refl
get_with_word A pair.Hl w x h = refl
get_with_word B pair.Hl w x h = refl
get_with_word C pair.Hl w x h = refl
get_with_word D pair.Hl w x h = refl
get_with_word E pair.Hl w x h = refl
get_with_word H pair.Hl w x h = cc
get_with_word L pair.Hl w x h = cc

word_step :
    (p q : WordPair) (a : ℕ) (x : Registers ℕ) → AreBytes x
    → word_of q (with_word p ((word_of p x + a) % 65536) x) ≡ (word_of q x + by_if (is_same_pair p q) a) % 65536
word_step pair.Bc pair.Bc a x h = word_same pair.Bc _ x
word_step pair.Bc pair.De a x h = stays _ (word_below pair.De x h)
word_step pair.Bc pair.Hl a x h = stays _ (word_below pair.Hl x h)
word_step pair.De pair.Bc a x h = stays _ (word_below pair.Bc x h)
word_step pair.De pair.De a x h = word_same pair.De _ x
word_step pair.De pair.Hl a x h = stays _ (word_below pair.Hl x h)
word_step pair.Hl pair.Bc a x h = stays _ (word_below pair.Bc x h)
word_step pair.Hl pair.De a x h = stays _ (word_below pair.De x h)
word_step pair.Hl pair.Hl a x h = word_same pair.Hl _ x

other_step :
    (p : WordPair) (o : Other) (a : ℕ) (was : Beside) (x : Registers ℕ) → AreBytes x → reads_half p o ≡ false
    → other_of o was (with_word p ((word_of p x + a) % 65536) x) % 65536 ≡ (other_of o was x + by_if (reads_pair p o) a) % 65536
other_step p (other.Register r) a was x h e = ap (λ n. n % 65536) (get_with_word r p _ x e) ∙ none_more _
other_step p (other.Pair q) a was x h e = again _ _ (word_step p q a x h)
other_step p (other.Cell c) a was x h e = none_more _
other_step p other.Nothing a was x h e = refl

-- ---- a pair's step

link_step :
    (p : WordPair) (a : ℕ) (q : WordPair) (l : Option Link) (was : Beside) (x : Registers ℕ) → AreBytes x → IsLinked l q was x
    → IsLinked (link_of_step p a q l) q was (with_word p ((word_of p x + a) % 65536) x)
link_step p a q None was x bytes h = tt
link_step p a q (Some l) was x bytes h = choose (reads_half p l.other) (is_same_pair p q && reads_pair p l.other) refl
  where
    choose :
        (b c : Bool) → reads_half p l.other ≡ b
        → IsLinked
        (cond (b || c) None (Some (moved_link (by_if (is_same_pair p q) a) (by_if (reads_pair p l.other) a) l)))
        q was (with_word p ((word_of p x + a) % 65536) x)
    choose true c e = tt
    choose false true e = tt
    choose false false e = IsLinked-moved l q was x _ _ _ (word_step p q a x bytes) (other_step p l.other a was x bytes e) h

facts_step :
    (p : WordPair) (a : ℕ) (b : Bounds) (q : WordPair) (f : PairFacts) (was : Beside) (x : Registers ℕ)
    → AreBytes x → HoldsPair f q was x → Within b ((word_of p x + a) % 65536)
    → HoldsPair (facts_of_step p a b q f) q was (with_word p ((word_of p x + a) % 65536) x)
facts_step p a b q f was x bytes h k =
    let ends = choose (is_same_pair p q) refl in
    record { first = ends.least; last = ends.most; link = link_step p a q f.link was x bytes h.link }
  where
    choose :
        (c : Bool) → is_same_pair p q ≡ c → Within (cond c b f.bounds) (word_of q (with_word p ((word_of p x + a) % 65536) x))
    choose true e =
        subst (λ r. Within b (word_of r (with_word p ((word_of p x + a) % 65536) x))) (same_pair p q e)
        (subst (λ w. Within b w) (sym (word_same p _ x)) k)
    choose false e =
        let moved : word_of q (with_word p ((word_of p x + a) % 65536) x) ≡ (word_of q x + by_if false a) % 65536 =
        word_step p q a x bytes ∙ ap (λ c. (word_of q x + by_if c a) % 65536) e in
        subst (λ w. Within f.bounds w) (stays _ (word_below q x bytes) ∙ sym moved) (record { least = h.first; most = h.last })

pub HoldPairs-stepped :
    (p : WordPair) (a : ℕ) (b : Bounds) (s : Pairs) (was : Beside) (x : Registers ℕ)
    → AreBytes x → HoldPairs s was x → Within b ((word_of p x + a) % 65536)
    → HoldPairs (stepped p a b s) was (with_word p ((word_of p x + a) % 65536) x)
unfolding stepped
HoldPairs-stepped p a b s was x bytes h k = record { each = each }
  where
    each : (q : WordPair) → HoldsPair (facts_of q (stepped p a b s)) q was (with_word p ((word_of p x + a) % 65536) x)
    each pair.Bc = facts_step p a b pair.Bc s.bc was x bytes (h.each pair.Bc) k
    each pair.De = facts_step p a b pair.De s.de was x bytes (h.each pair.De) k
    each pair.Hl = facts_step p a b pair.Hl s.hl was x bytes (h.each pair.Hl) k

-- ---- bounds

pub Within-any : (w : ℕ) → w < 65536 → Within any_bounds w
Within-any w h = record { least = omega arith; most = omega arith }

pub Within-up : (n : ℕ) (b : Bounds) (w : ℕ) → Within b w → Within (bounds_up n b) ((w + n) % 65536)
unfolding bounds_up
Within-up n b w h = choose (nat_lt (larger b.first b.last + n) 65536) refl
  where
    choose :
        (c : Bool) → nat_lt (larger b.first b.last + n) 65536 ≡ c
        → Within (cond c (record { first = b.first + n; last = b.last + n }) any_bounds) ((w + n) % 65536)
    choose true e = record { least = grind (arith, nat_tests); most = grind (arith, nat_tests) }
    choose false e = Within-any _ (omega arith)

pub Within-down :
    (n g : ℕ) (b : Bounds) (w : ℕ) → n + g ≡ 65536 → w < 65536 → Within b w → Within (bounds_down n b) ((w + g) % 65536)
unfolding bounds_down
Within-down n g b w whole small h = choose (nat_le n (smaller b.first b.last)) refl
  where
    choose :
        (c : Bool) → nat_le n (smaller b.first b.last) ≡ c
        → Within (cond c (record { first = b.first - n; last = b.last - n }) any_bounds) ((w + g) % 65536)
    choose true e = record { least = grind (arith, nat_tests); most = grind (arith, nat_tests) }
    choose false e = Within-any _ (omega arith)

-- ---- INC and DEC of a pair

pub incremented_sound : (p : WordPair) (v : Values) (o : Pairs) → o ≡ incremented p v → IsSoundStep p 1 v o
unfolding incremented
incremented_sound p v o e = subst (λ s. IsSoundStep p 1 v s) (sym e) (record { gives = gives })
  where
    gives :
        (was : Beside) (x : Registers ℕ) → AreBytes x → Holds v was x
        → HoldPairs (stepped p 1 (bounds_up 1 (bounds_of p v)) v.pairs) was (with_word p ((word_of p x + 1) % 65536) x)
    gives was x bytes h = HoldPairs-stepped p 1 _ v.pairs was x bytes h.pairs (Within-up 1 _ _ (Within-bounds_of p v was x h))

pub decremented_sound : (p : WordPair) (v : Values) (o : Pairs) → o ≡ decremented p v → IsSoundStep p 65535 v o
unfolding decremented
decremented_sound p v o e = subst (λ s. IsSoundStep p 65535 v s) (sym e) (record { gives = gives })
  where
    gives :
        (was : Beside) (x : Registers ℕ) → AreBytes x → Holds v was x
        → HoldPairs (stepped p 65535 (bounds_down 1 (bounds_of p v)) v.pairs) was (with_word p ((word_of p x + 65535) % 65536) x)
    gives was x bytes h =
        HoldPairs-stepped p 65535 _ v.pairs was x bytes h.pairs
        (Within-down 1 65535 _ _ refl (word_below p x bytes) (Within-bounds_of p v was x h))
