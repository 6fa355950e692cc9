-- The link of a pair that becomes what another one is holds.
use Rattle.std.proofs.Common.{◌≡◌, ℕ, ◌+◌, ◌*◌, ◌%◌, Bool, true, false, cond, Option, Some, None, refl, sym, ◌∙◌, ap, subst, arith}
use Rattle.gb_ops.specs.declared.op.Register.{Register}
use Rattle.gb_ops.specs.declared.op.Register.TheVariants.{A, B, C, D, E, H, L}
use Rattle.gb_ops.specs.declared.registers.Registers.{Registers}
use Rattle.gb_ops.specs.Pairs.{word}
use Rattle.gb_ops.specs.Registers.{get}
use Rattle.gb_domain.specs.declared.pairs.WordPair.{WordPair}
use Rattle.gb_domain.specs.declared.pairs.WordPair.TheVariants as pair
use Rattle.gb_domain.specs.declared.pairs.Other.{Other}
use Rattle.gb_domain.specs.declared.pairs.Other.TheVariants as other
use Rattle.gb_domain.specs.declared.pairs.Link.{Link}
use Rattle.gb_pairs.specs.Copied.{is_read, equal_to, link_copied}
use Rattle.gb_pairs.specs.Meaning.{Beside, word_of, other_of, base_of, AreLinked, IsLinked}
use Rattle.gb_pairs.specs.Sound.{with_word, IsSoundCopy}
use Rattle.gb_pairs.specs.Written.{is_half, is_same_pair}
use Rattle.gb_pairs.proofs.StepLaws.{none_more, get_with_word}

none_left : (w : ℕ) → (w + 65535 * w) % 65536 ≡ (0 + 0 + 0) % 65536
none_left w = omega arith

-- a pair that isn't p keeps its word where no register but p's changes
word_kept :
    (p q : WordPair) (x y : Registers ℕ)
    → is_same_pair p q ≡ false → ((r : Register) → is_half r p ≡ false → get r y ≡ get r x) → word_of q y ≡ word_of q x
word_kept pair.Bc pair.Bc x y h k = cc
word_kept pair.De pair.De x y h k = cc
word_kept pair.Hl pair.Hl x y h k = cc
word_kept pair.De pair.Bc x y h k = ap (λ b. word b y.c) (k B refl) ∙ ap (λ c. word x.b c) (k C refl)
word_kept pair.Hl pair.Bc x y h k = ap (λ b. word b y.c) (k B refl) ∙ ap (λ c. word x.b c) (k C refl)
word_kept pair.Bc pair.De x y h k = ap (λ b. word b y.e) (k D refl) ∙ ap (λ c. word x.d c) (k E refl)
word_kept pair.Hl pair.De x y h k = ap (λ b. word b y.e) (k D refl) ∙ ap (λ c. word x.d c) (k E refl)
word_kept pair.Bc pair.Hl x y h k = ap (λ b. word b y.l) (k H refl) ∙ ap (λ c. word x.h c) (k L refl)
word_kept pair.De pair.Hl x y h k = ap (λ b. word b y.l) (k H refl) ∙ ap (λ c. word x.h c) (k L refl)

half_unread : (p : WordPair) (r : Register) → is_read p (other.Register r) ≡ false → is_half r p ≡ false
half_unread pair.Bc A h = refl
half_unread pair.Bc B h = cc
half_unread pair.Bc C h = cc
half_unread pair.Bc D h = refl
half_unread pair.Bc E h = refl
half_unread pair.Bc H h = refl
half_unread pair.Bc L h = refl
half_unread pair.De A h = refl
half_unread pair.De B h = refl
half_unread pair.De C h = refl
half_unread pair.De D h = cc
half_unread pair.De E h = cc
half_unread pair.De H h = refl
half_unread pair.De L h = refl
half_unread pair.Hl A h = refl
half_unread pair.Hl B h = refl
half_unread pair.Hl C h = refl
half_unread pair.Hl D h = refl
half_unread pair.Hl E h = refl
half_unread pair.Hl H h = cc
half_unread pair.Hl L h = cc

pair_unread : (p q : WordPair) → is_read p (other.Pair q) ≡ false → is_same_pair p q ≡ false
pair_unread pair.Bc pair.Bc h = cc
pair_unread pair.De pair.De h = cc
pair_unread pair.Hl pair.Hl h = cc
pair_unread pair.De pair.Bc h = refl
pair_unread pair.Hl pair.Bc h = refl
pair_unread pair.Bc pair.De h = refl
pair_unread pair.Hl pair.De h = refl
pair_unread pair.Bc pair.Hl h = refl
pair_unread pair.De pair.Hl h = refl

other_kept :
    (p : WordPair) (o : Other) (was : Beside) (x y : Registers ℕ)
    → is_read p o ≡ false → ((r : Register) → is_half r p ≡ false → get r y ≡ get r x) → other_of o was y ≡ other_of o was x
other_kept p (other.Register r) was x y h k = k r (half_unread p r h)
other_kept p (other.Pair q) was x y h k = word_kept p q x y (pair_unread p q h) k
other_kept p (other.Cell a) was x y h k = refl
other_kept p other.Nothing was x y h k = refl

pub linked_copied :
    (p q : WordPair) (k : Option Link) (was : Beside) (x y : Registers ℕ)
    → is_same_pair p q ≡ false → word_of p y ≡ word_of q x → ((r : Register) → is_half r p ≡ false → get r y ≡ get r x)
    → IsLinked k q was x → IsLinked (Some (link_copied p q k)) p was y
linked_copied p q k was x y apart same kept h = by k h
  where
    alike : AreLinked (equal_to q) 0 (word_of p y) (word_of q y)
    alike =
        subst (λ w. AreLinked (equal_to q) 0 (word_of p y) w) (same ∙ sym (word_kept p q x y apart kept))
        (record { more = 0; most = omega arith; sum = none_left (word_of p y) })

    by : (k : Option Link) → IsLinked k q was x → IsLinked (Some (link_copied p q k)) p was y
    by None h = alike
    by (Some l) h = choose (is_read p l.other) refl
      where
        choose : (b : Bool) → is_read p l.other ≡ b → IsLinked (Some (cond b (equal_to q) l)) p was y
        choose true e = alike
        choose false e =
            subst (λ w. AreLinked l (base_of l.base was.entered) w (other_of l.other was y)) (sym same)
            (subst (λ n. AreLinked l (base_of l.base was.entered) (word_of q x) n) (sym (other_kept p l.other was x y e kept)) h)

-- a copied link reads none of the pair's bytes
pair_read : (p q : WordPair) → is_same_pair p q ≡ false → is_read p (other.Pair q) ≡ false
pair_read pair.Bc pair.Bc h = cc
pair_read pair.De pair.De h = cc
pair_read pair.Hl pair.Hl h = cc
pair_read pair.De pair.Bc h = refl
pair_read pair.Hl pair.Bc h = refl
pair_read pair.Bc pair.De h = refl
pair_read pair.Hl pair.De h = refl
pair_read pair.Bc pair.Hl h = refl
pair_read pair.De pair.Hl h = refl

pub unread : (p q : WordPair) (k : Option Link) → is_same_pair p q ≡ false → is_read p (link_copied p q k).other ≡ false
unread p q None apart = pair_read p q apart
unread p q (Some l) apart = choose (is_read p l.other) refl
  where
    choose : (b : Bool) → is_read p l.other ≡ b → is_read p (cond b (equal_to q) l).other ≡ false
    choose true e = pair_read p q apart
    choose false e = e

-- which stays, whatever word the pair becomes
pub other_again :
    (o : Other) (m n : ℕ) (was : Beside) (x : Registers ℕ) → is_read pair.Hl o ≡ false
    → other_of o was (with_word pair.Hl n x) % 65536 ≡ (other_of o was (with_word pair.Hl m x) + 0) % 65536
other_again o m n was x h =
    let first = other_kept pair.Hl o was x (with_word pair.Hl m x) h (λ r k. get_with_word r pair.Hl m x k) in
    let second = other_kept pair.Hl o was x (with_word pair.Hl n x) h (λ r k. get_with_word r pair.Hl n x k) in
    ap (λ i. i % 65536) (second ∙ sym first) ∙ none_more _

-- ---- the clause of its function

pub link_copied_sound : (p q : WordPair) (k : Option Link) (l : Link) → l ≡ link_copied p q k → IsSoundCopy p q k l
link_copied_sound p q k l e =
    subst (λ m. IsSoundCopy p q k m) (sym e)
    (record { gives = λ was x y apart same kept h. linked_copied p q k was x y apart same kept h })
