-- A register that moved by one: the bounds of its pair, and links with new sums.
use Rattle.std.proofs.Common.{◌≡◌, ℕ, ◌+◌, ◌*◌, ◌%◌, ◌<◌, Bool, true, false, cond, nat_lt, Option, Some, None, refl, sym, ◌∙◌, ap, subst, arith}
use Rattle.std.proofs.lemmas.Bool.Decides.{nat_tests}
use Rattle.gb_ops.specs.declared.op.Register.{Register}
use Rattle.gb_ops.specs.declared.op.Register.TheVariants.{A, B, C, D, E, H, L}
use Rattle.gb_ops.specs.declared.registers.Registers.{Registers}
use Rattle.gb_ops.specs.Registers.{get, set}
use Rattle.gb_domain.specs.declared.pairs.WordPair.{WordPair}
use Rattle.gb_domain.specs.declared.pairs.WordPair.TheVariants as pair
use Rattle.gb_domain.specs.declared.pairs.Other.{Other}
use Rattle.gb_domain.specs.declared.pairs.Other.TheVariants as other
use Rattle.gb_domain.specs.declared.pairs.Link.{Link}
use Rattle.gb_domain.specs.declared.pairs.Pairs.{Pairs}
use Rattle.gb_domain.specs.Pairs.{facts_of}
use Rattle.gb_domain.specs.Places.{is_same_register}
use Rattle.gb_pairs.specs.declared.values.Values.{Values}
use Rattle.gb_pairs.specs.Bounds.{bounds_of}
use Rattle.gb_pairs.specs.Meaning.{Beside, word_of, other_of, IsLinked, HoldsPair, HoldPairs, AreBytes, Holds}
use Rattle.gb_pairs.specs.Written.{is_half, without_register}
use Rattle.gb_pairs.specs.Moved.{by_if, bounds_up, bounds_down, by_byte, other_by_byte, link_of_byte, weight, facts_of_byte_up, facts_of_byte_down, byte_incremented, byte_decremented}
use Rattle.gb_pairs.specs.Sound.{Within, IsSoundByteStep}
use Rattle.gb_domain.proofs.RegisterLaws.{same_register}
use Rattle.gb_pairs.proofs.RegisterLaws.{get_same, get_other, word_other}
use Rattle.gb_pairs.proofs.BoundsLaws.{Within-bounds_of, word_below}
use Rattle.gb_pairs.proofs.WrittenLaws.{HoldPairs-without}
use Rattle.gb_pairs.proofs.StepLaws.{stays, IsLinked-moved, Within-up, Within-down, again, none_more}

-- a byte m becomes n: by how much that moves words that have it as low byte, and as high byte
record IsByteMove (m n low high : ℕ) : Type 0 where
  as_low : (b : ℕ) → b < 256 → 256 * b + n ≡ (256 * b + m + low) % 65536
  as_high : (c : ℕ) → c < 256 → 256 * n + c ≡ (256 * m + c + high) % 65536

moves_up : (m : ℕ) → m < 255 → IsByteMove m ((m + 1) % 256) 1 256
moves_up m h = record { as_low = λ b k. omega arith; as_high = λ c k. omega arith }

moves_down : (m : ℕ) → 0 < m → m < 256 → IsByteMove m ((m + 255) % 256) 65535 65280
moves_down m p h = record { as_low = λ b k. omega arith; as_high = λ c k. omega arith }

word_move :
    (r : Register) (q : WordPair) (n low high : ℕ) (x : Registers ℕ) → AreBytes x → IsByteMove (get r x) n low high
    → word_of q (set r n x) ≡ (word_of q x + by_byte r q low high) % 65536
word_move A pair.Bc n low high x h k = stays _ (word_below pair.Bc x h)
word_move B pair.Bc n low high x h k = k.as_high x.c (h.each C)
word_move C pair.Bc n low high x h k = k.as_low x.b (h.each B)
word_move D pair.Bc n low high x h k = stays _ (word_below pair.Bc x h)
word_move E pair.Bc n low high x h k = stays _ (word_below pair.Bc x h)
word_move H pair.Bc n low high x h k = stays _ (word_below pair.Bc x h)
word_move L pair.Bc n low high x h k = stays _ (word_below pair.Bc x h)
word_move A pair.De n low high x h k = stays _ (word_below pair.De x h)
word_move B pair.De n low high x h k = stays _ (word_below pair.De x h)
word_move C pair.De n low high x h k = stays _ (word_below pair.De x h)
word_move D pair.De n low high x h k = k.as_high x.e (h.each E)
word_move E pair.De n low high x h k = k.as_low x.d (h.each D)
word_move H pair.De n low high x h k = stays _ (word_below pair.De x h)
word_move L pair.De n low high x h k = stays _ (word_below pair.De x h)
word_move A pair.Hl n low high x h k = stays _ (word_below pair.Hl x h)
word_move B pair.Hl n low high x h k = stays _ (word_below pair.Hl x h)
word_move C pair.Hl n low high x h k = stays _ (word_below pair.Hl x h)
word_move D pair.Hl n low high x h k = stays _ (word_below pair.Hl x h)
word_move E pair.Hl n low high x h k = stays _ (word_below pair.Hl x h)
word_move H pair.Hl n low high x h k = k.as_high x.l (h.each L)
word_move L pair.Hl n low high x h k = k.as_low x.h (h.each H)

byte_below : (r : Register) (x : Registers ℕ) → AreBytes x → get r x < 65536
byte_below r x h = let small = h.each r in omega arith

byte_move : (m n low high : ℕ) → IsByteMove m n low high → n ≡ (m + low) % 65536
byte_move m n low high k = let e : 256 * 0 + n ≡ (256 * 0 + m + low) % 65536 = k.as_low 0 (omega arith) in omega arith

register_move :
    (r s : Register) (n low high : ℕ) (x : Registers ℕ) → AreBytes x → IsByteMove (get r x) n low high
    → get s (set r n x) ≡ (get s x + by_if (is_same_register r s) low) % 65536
register_move r s n low high x h k = choose (is_same_register r s) refl
  where
    choose : (b : Bool) → is_same_register r s ≡ b → get s (set r n x) ≡ (get s x + by_if b low) % 65536
    choose true e =
        subst (λ q. get q (set r n x) ≡ (get q x + low) % 65536) (same_register r s e) (get_same r n x ∙ byte_move _ n low high k)
    choose false e = get_other r s n x e ∙ stays _ (byte_below s x h)

other_move :
    (r : Register) (o : Other) (n low high : ℕ) (was : Beside) (x : Registers ℕ) → AreBytes x → IsByteMove (get r x) n low high
    → other_of o was (set r n x) % 65536 ≡ (other_of o was x + other_by_byte r o low high) % 65536
other_move r (other.Register s) n low high was x h k = again _ _ (register_move r s n low high x h k)
other_move r (other.Pair q) n low high was x h k = again _ _ (word_move r q n low high x h k)
other_move r (other.Cell a) n low high was x h k = none_more _
other_move r other.Nothing n low high was x h k = refl

link_move :
    (r : Register) (q : WordPair) (l : Option Link) (n low high : ℕ) (was : Beside) (x : Registers ℕ) → AreBytes x → IsByteMove (get r x) n low high
    → IsLinked l q was x → IsLinked (link_of_byte r low high q l) q was (set r n x)
link_move r q None n low high was x h k m = tt
link_move r q (Some l) n low high was x h k m =
    IsLinked-moved l q was x _ _ _ (word_move r q n low high x h k) (other_move r l.other n low high was x h k) m

-- ---- bounds

weight_up : (r : Register) (q : WordPair) → is_half r q ≡ true → by_byte r q 1 256 ≡ weight r
weight_up A pair.Bc h = cc
weight_up B pair.Bc h = refl
weight_up C pair.Bc h = refl
weight_up D pair.Bc h = cc
weight_up E pair.Bc h = cc
weight_up H pair.Bc h = cc
weight_up L pair.Bc h = cc
weight_up A pair.De h = cc
weight_up B pair.De h = cc
weight_up C pair.De h = cc
weight_up D pair.De h = refl
weight_up E pair.De h = refl
weight_up H pair.De h = cc
weight_up L pair.De h = cc
weight_up A pair.Hl h = cc
weight_up B pair.Hl h = cc
weight_up C pair.Hl h = cc
weight_up D pair.Hl h = cc
weight_up E pair.Hl h = cc
weight_up H pair.Hl h = refl
weight_up L pair.Hl h = refl

weight_down : (r : Register) (q : WordPair) → is_half r q ≡ true → weight r + by_byte r q 65535 65280 ≡ 65536
weight_down A pair.Bc h = cc
weight_down B pair.Bc h = refl
weight_down C pair.Bc h = refl
weight_down D pair.Bc h = cc
weight_down E pair.Bc h = cc
weight_down H pair.Bc h = cc
weight_down L pair.Bc h = cc
weight_down A pair.De h = cc
weight_down B pair.De h = cc
weight_down C pair.De h = cc
weight_down D pair.De h = refl
weight_down E pair.De h = refl
weight_down H pair.De h = cc
weight_down L pair.De h = cc
weight_down A pair.Hl h = cc
weight_down B pair.Hl h = cc
weight_down C pair.Hl h = cc
weight_down D pair.Hl h = cc
weight_down E pair.Hl h = cc
weight_down H pair.Hl h = refl
weight_down L pair.Hl h = refl

facts_up :
    (r : Register) (v : Values) (q : WordPair) (was : Beside) (x : Registers ℕ)
    → AreBytes x → Holds v was x → get r x < 255 → HoldsPair (facts_of_byte_up r v q) q was (set r ((get r x + 1) % 256) x)
facts_up r v q was x bytes h less =
    let ends = choose (is_half r q) refl in
    record { first = ends.least; last = ends.most; link = link_move r q _ _ 1 256 was x bytes (moves_up _ less) (h.pairs.each q).link }
  where
    choose :
        (b : Bool) → is_half r q ≡ b
        → Within (cond b (bounds_up (weight r) (bounds_of q v)) (facts_of q v.pairs).bounds) (word_of q (set r ((get r x + 1) % 256) x))
    choose true e =
        subst (λ w. Within (bounds_up (weight r) (bounds_of q v)) w)
        (ap (λ n. (word_of q x + n) % 65536) (sym (weight_up r q e)) ∙ sym (word_move r q _ 1 256 x bytes (moves_up _ less)))
        (Within-up (weight r) _ _ (Within-bounds_of q v was x h))
    choose false e =
        subst (λ w. Within (facts_of q v.pairs).bounds w) (sym (word_other r q _ x e))
        (record { least = (h.pairs.each q).first; most = (h.pairs.each q).last })

facts_down :
    (r : Register) (v : Values) (q : WordPair) (was : Beside) (x : Registers ℕ)
    → AreBytes x → Holds v was x → 0 < get r x → HoldsPair (facts_of_byte_down r v q) q was (set r ((get r x + 255) % 256) x)
facts_down r v q was x bytes h more =
    let ends = choose (is_half r q) refl in
    record {
      first = ends.least;
      last = ends.most;
      link = link_move r q _ _ 65535 65280 was x bytes (moves_down _ more (bytes.each r)) (h.pairs.each q).link;
    }
  where
    choose :
        (b : Bool) → is_half r q ≡ b
        → Within (cond b (bounds_down (weight r) (bounds_of q v)) (facts_of q v.pairs).bounds) (word_of q (set r ((get r x + 255) % 256) x))
    choose true e =
        subst (λ w. Within (bounds_down (weight r) (bounds_of q v)) w)
        (sym (word_move r q _ 65535 65280 x bytes (moves_down _ more (bytes.each r))))
        (Within-down (weight r) _ _ _ (weight_down r q e) (word_below q x bytes) (Within-bounds_of q v was x h))
    choose false e =
        subst (λ w. Within (facts_of q v.pairs).bounds w) (sym (word_other r q _ x e))
        (record { least = (h.pairs.each q).first; most = (h.pairs.each q).last })

-- ---- INC and DEC of a register

pub byte_incremented_sound : (r : Register) (v : Values) (o : Pairs) → o ≡ byte_incremented r v → IsSoundByteStep r 1 v o
unfolding byte_incremented
byte_incremented_sound r v o e = subst (λ s. IsSoundByteStep r 1 v s) (sym e) (record { gives = gives })
  where
    gives :
        (was : Beside) (x : Registers ℕ) → AreBytes x → Holds v was x → HoldPairs (byte_incremented r v) was (set r ((get r x + 1) % 256) x)
    gives was x bytes h = choose (nat_lt (get r v.registers).hi 255) refl
      where
        each :
            get r x < 255 → (q : WordPair)
            → HoldsPair
            (facts_of q (record { bc = facts_of_byte_up r v pair.Bc; de = facts_of_byte_up r v pair.De; hl = facts_of_byte_up r v pair.Hl }))
            q was (set r ((get r x + 1) % 256) x)
        each less pair.Bc = facts_up r v pair.Bc was x bytes h less
        each less pair.De = facts_up r v pair.De was x bytes h less
        each less pair.Hl = facts_up r v pair.Hl was x bytes h less

        choose :
            (b : Bool) → nat_lt (get r v.registers).hi 255 ≡ b
            → HoldPairs
            (cond b
            (record { bc = facts_of_byte_up r v pair.Bc; de = facts_of_byte_up r v pair.De; hl = facts_of_byte_up r v pair.Hl })
            (without_register r v.pairs)) was
            (set r ((get r x + 1) % 256) x)
        choose true f =
            let most = (h.registers r).most in
            record { each = each (grind (arith, nat_tests)) }
        choose false f = HoldPairs-without r v.pairs _ was x (omega arith) bytes h.pairs

pub byte_decremented_sound : (r : Register) (v : Values) (o : Pairs) → o ≡ byte_decremented r v → IsSoundByteStep r 255 v o
unfolding byte_decremented
byte_decremented_sound r v o e = subst (λ s. IsSoundByteStep r 255 v s) (sym e) (record { gives = gives })
  where
    gives :
        (was : Beside) (x : Registers ℕ) → AreBytes x → Holds v was x → HoldPairs (byte_decremented r v) was (set r ((get r x + 255) % 256) x)
    gives was x bytes h = choose (nat_lt 0 (get r v.registers).lo) refl
      where
        each :
            0 < get r x → (q : WordPair)
            → HoldsPair
            (facts_of q (record { bc = facts_of_byte_down r v pair.Bc; de = facts_of_byte_down r v pair.De; hl = facts_of_byte_down r v pair.Hl }))
            q was (set r ((get r x + 255) % 256) x)
        each more pair.Bc = facts_down r v pair.Bc was x bytes h more
        each more pair.De = facts_down r v pair.De was x bytes h more
        each more pair.Hl = facts_down r v pair.Hl was x bytes h more

        choose :
            (b : Bool) → nat_lt 0 (get r v.registers).lo ≡ b
            → HoldPairs
            (cond b
            (record { bc = facts_of_byte_down r v pair.Bc; de = facts_of_byte_down r v pair.De; hl = facts_of_byte_down r v pair.Hl })
            (without_register r v.pairs)) was
            (set r ((get r x + 255) % 256) x)
        choose true f =
            let least = (h.registers r).least in
            record { each = each (grind (arith, nat_tests)) }
        choose false f = HoldPairs-without r v.pairs _ was x (omega arith) bytes h.pairs
