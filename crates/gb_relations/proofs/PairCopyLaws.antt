-- Where an instruction makes two pairs equal, the bounds of the one hold of the other, and what its link says.
use Rattle.std.proofs.Common.{◌≡◌, ℕ, Bool, true, false, not, ◌&&◌, cond, Option, Some, None, refl, sym, ◌∙◌, ap, subst, inl, inr}
use Rattle.std.proofs.lemmas.Bool.{and_parts, or_cases}
use Rattle.gb_ops.specs.declared.op.Register.{Register}
use Rattle.gb_ops.specs.declared.op.Register.TheVariants.{A, B, C, D, E, H, L}
use Rattle.gb_ops.specs.declared.op.Operand.TheVariants as operand
use Rattle.gb_ops.specs.declared.op.Op.{Op}
use Rattle.gb_ops.specs.declared.op.Op.TheVariants as op
use Rattle.gb_ops.specs.declared.registers.Registers.{Registers}
use Rattle.gb_ops.specs.declared.registers.Flags.{Flags}
use Rattle.gb_ops.specs.declared.registers.Processor.{Processor}
use Rattle.gb_ops.specs.Registers.{get, set}
use Rattle.gb_ops.specs.Pairs.{word}
use Rattle.gb_ops.specs.Effects.{operand_value, store_operand, effect_of}
use Rattle.gb_domain.specs.declared.pairs.WordPair.{WordPair}
use Rattle.gb_domain.specs.declared.pairs.Bounds.{Bounds}
use Rattle.gb_domain.specs.declared.pairs.PairFacts.{PairFacts}
use Rattle.gb_domain.specs.declared.pairs.Pairs.{Pairs}
use Rattle.gb_domain.specs.declared.places.OneByte.{OneByte}
use Rattle.gb_domain.specs.Pairs.{facts_of, IsPairFacts, ArePairs}
use Rattle.gb_pairs.specs.declared.values.Values.{Values}
use Rattle.gb_pairs.specs.Meaning.{Beside, word_of, HoldsPair, HoldPairs, Holds}
use Rattle.gb_pairs.specs.Sound.{Within}
use Rattle.gb_pairs.specs.Reduced.{with_facts}
use Rattle.gb_pairs.specs.Written.{is_half, is_same_pair}
use Rattle.gb_domain.specs.Places.{is_same_register}
use Rattle.gb_domain.proofs.RegisterLaws.{same_register}
use Rattle.gb_pairs.proofs.CopiedLaws.{link_copied_sound}
use Rattle.std.proofs.lemmas.Option.{same_Some}
use Rattle.gb_pairs.proofs.RegisterLaws.{each_facts, get_other}
use Rattle.gb_pairs.proofs.BoundsLaws.{bounds_of_sound}
use Rattle.gb_pairs.proofs.KeptLaws.{bounds_of_below, IsLink-copied}
use Rattle.gb_copies.specs.Meaning.{HoldOneByte}
use Rattle.gb_relations.specs.declared.pair_copies.PairCopy.{PairCopy}
use Rattle.gb_relations.specs.Pairs.{other_half}
use Rattle.gb_relations.specs.PairCopies.{is_high, is_low, are_same_halves, hold_one_byte, makes_equal, copy_by, pair_copy, facts_copied, with_copy, with_pair_copied}

-- ---- a pair by one of its bytes and the other one

abbrev word_by : Bool → ℕ → ℕ → ℕ
word_by true n other = word n other
word_by false n other = word other n

-- r is this byte of p, and q the other one
record IsHalf (high : Bool) (r q : Register) (p : WordPair) : Type 0 where
  own : (x : Registers ℕ) → word_of p x ≡ word_by high (get r x) (get q x)
  after : (n : ℕ) (x : Registers ℕ) → word_of p (set r n x) ≡ word_by high n (get q x)

abbrev IsHalfOf : Bool → Register → Option (Register × WordPair) → Type 0
IsHalfOf high r None = Unit {0}
IsHalfOf high r (Some y) = IsHalf high r y.0 y.1

IsHalfOf-high : (r : Register) → is_high r ≡ true → IsHalfOf true r (other_half r)
IsHalfOf-high A h = tt
IsHalfOf-high B h = record { own = λ x. refl; after = λ n x. refl }
IsHalfOf-high C h = cc
IsHalfOf-high D h = record { own = λ x. refl; after = λ n x. refl }
IsHalfOf-high E h = cc
IsHalfOf-high H h = record { own = λ x. refl; after = λ n x. refl }
IsHalfOf-high L h = cc

IsHalfOf-low : (r : Register) → is_low r ≡ true → IsHalfOf false r (other_half r)
IsHalfOf-low A h = tt
IsHalfOf-low B h = cc
IsHalfOf-low C h = record { own = λ x. refl; after = λ n x. refl }
IsHalfOf-low D h = cc
IsHalfOf-low E h = record { own = λ x. refl; after = λ n x. refl }
IsHalfOf-low H h = cc
IsHalfOf-low L h = record { own = λ x. refl; after = λ n x. refl }

-- the pairs of two registers, both high or both low, are equal behind the copy where the other bytes are
are-equal :
    (high : Bool) (to from : Register) (x y : Register × WordPair) (b : OneByte) (z : Registers ℕ) (memory : ℕ → ℕ) (f : Flags)
    → IsHalf high to x.0 x.1 → IsHalf high from y.0 y.1 → hold_one_byte x.0 y.0 b ≡ true → HoldOneByte b z memory f
    → word_of x.1 (set to (get from z) z) ≡ word_of y.1 z
are-equal high to from x y b z memory f i j e h =
    let p = and_parts (get x.0 b.registers) (get y.0 b.registers) e in
    let same : get x.0 z ≡ get y.0 z = h.registers x.0 p.0 ∙ sym (h.registers y.0 p.1) in
    i.after (get from z) z ∙ ap (word_by high (get from z)) same ∙ sym (j.own z)

-- ---- what is known of the pair that becomes equal

HoldPairs-with_facts :
    (p : WordPair) (f : PairFacts) (s : Pairs) (was : Beside) (x : Registers ℕ) → HoldsPair f p was x → HoldPairs s was x → HoldPairs (with_facts p f s) was x
HoldPairs-with_facts p f s was x h k = record { each = each_facts (λ q f. HoldsPair f q was x) p f s h k.each }

ArePairs-with_facts : (may_be : ℕ → Bool) (p : WordPair) (f : PairFacts) (s : Pairs) → IsPairFacts may_be f → ArePairs may_be s → ArePairs may_be (with_facts p f s)
ArePairs-with_facts may_be p f s is h = record { each = each_facts (λ q f. IsPairFacts may_be f) p f s is h.each }

Within-equal : (b : Bounds) (n m : ℕ) → n ≡ m → Within b m → Within b n
Within-equal b n m e h = subst (λ k. Within b k) (sym e) h

-- ---- the copy

-- what is known before it, and of its two pairs
record IsCopied (to from : Register) (b : OneByte) (v : Values) (s : Pairs) (was : Beside) (z : Registers ℕ) (memory : ℕ → ℕ) (f : Flags) : Type 0 where
  byte : HoldOneByte b z memory f
  values : Holds v was z
  pairs : HoldPairs s was (set to (get from z) z)

-- a register that isn't one of a pair's stays where one of them is set
set_aside : (to : Register) (p : WordPair) (n : ℕ) (z : Registers ℕ) → is_half to p ≡ true → (r : Register) → is_half r p ≡ false → get r (set to n z) ≡ get r z
set_aside to p n z h r k = get_other to r n z (apart (is_same_register to r) refl)
  where
    apart : (b : Bool) → is_same_register to r ≡ b → is_same_register to r ≡ false
    apart false e = e
    apart true e = let same : to ≡ r = same_register to r e in let is : is_half to p ≡ false = subst (λ q. is_half q p ≡ false) (sym same) k in cc

half_of : (r : Register) (x : Register × WordPair) → other_half r ≡ Some x → is_half r x.1 ≡ true
half_of A x h = cc
half_of B x h = subst (λ y. is_half B y.1 ≡ true) (same_Some _ _ h) refl
half_of C x h = subst (λ y. is_half C y.1 ≡ true) (same_Some _ _ h) refl
half_of D x h = subst (λ y. is_half D y.1 ≡ true) (same_Some _ _ h) refl
half_of E x h = subst (λ y. is_half E y.1 ≡ true) (same_Some _ _ h) refl
half_of H x h = subst (λ y. is_half H y.1 ≡ true) (same_Some _ _ h) refl
half_of L x h = subst (λ y. is_half L y.1 ≡ true) (same_Some _ _ h) refl

HoldPairs-equal :
    (high : Bool) (to from : Register) (b : OneByte) (v : Values) (s : Pairs) (was : Beside) (z : Registers ℕ) (memory : ℕ → ℕ) (f : Flags) (x y : Register × WordPair)
    → IsCopied to from b v s was z memory f → IsHalf high to x.0 x.1 → IsHalf high from y.0 y.1 → hold_one_byte x.0 y.0 b ≡ true
    → is_half to x.1 ≡ true → is_same_pair x.1 y.1 ≡ false
    → HoldPairs (with_facts x.1 (facts_copied (record { to = x.1; from = y.1 }) v) s) was (set to (get from z) z)
HoldPairs-equal high to from b v s was z memory f x y k i j e half apart =
    let same : word_of x.1 (set to (get from z) z) ≡ word_of y.1 z = are-equal high to from x y b z memory f i j e k.byte in
    let within = Within-equal _ _ _ same ((bounds_of_sound y.1 v _ refl).gives was z k.values) in
    HoldPairs-with_facts x.1 _ s was _
    (record {
      first = within.least;
      last = within.most;
      link =
          (link_copied_sound x.1 y.1 (facts_of y.1 v.pairs).link _ refl).gives was z (set to (get from z) z) apart same
          (set_aside to x.1 (get from z) z half) (k.values.pairs.each y.1).link;
    })
    k.pairs

-- either byte
HoldPairs-halves :
    (to from : Register) (b : OneByte) (v : Values) (s : Pairs) (was : Beside) (z : Registers ℕ) (memory : ℕ → ℕ) (f : Flags) (x y : Register × WordPair)
    → IsCopied to from b v s was z memory f → are_same_halves to from ≡ true → hold_one_byte x.0 y.0 b ≡ true → is_same_pair x.1 y.1 ≡ false
    → other_half to ≡ Some x → other_half from ≡ Some y
    → HoldPairs (with_facts x.1 (facts_copied (record { to = x.1; from = y.1 }) v) s) was (set to (get from z) z)
HoldPairs-halves to from b v s was z memory f x y k same e apart is other =
    elim (or_cases (is_high to && is_high from) (is_low to && is_low from) same) [
      | inl h ↦ high (and_parts (is_high to) (is_high from) h)
      | inr h ↦ low (and_parts (is_low to) (is_low from) h)
    ]
  where
    high : (is_high to ≡ true) × (is_high from ≡ true) → HoldPairs (with_facts x.1 (facts_copied (record { to = x.1; from = y.1 }) v) s) was (set to (get from z) z)
    high h =
        HoldPairs-equal true to from b v s was z memory f x y k (subst (λ o. IsHalfOf true to o) is (IsHalfOf-high to h.0)) (subst (λ o. IsHalfOf true from o) other (IsHalfOf-high from h.1)) e
        (half_of to x is) apart

    low : (is_low to ≡ true) × (is_low from ≡ true) → HoldPairs (with_facts x.1 (facts_copied (record { to = x.1; from = y.1 }) v) s) was (set to (get from z) z)
    low h =
        HoldPairs-equal false to from b v s was z memory f x y k (subst (λ o. IsHalfOf false to o) is (IsHalfOf-low to h.0)) (subst (λ o. IsHalfOf false from o) other (IsHalfOf-low from h.1)) e
        (half_of to x is) apart

not_true : (b : Bool) → not b ≡ true → b ≡ false
not_true true h = cc
not_true false h = refl

HoldPairs-copy_by :
    (is_whole : Bool) (to from : Register) (b : OneByte) (v : Values) (s : Pairs) (was : Beside) (z : Registers ℕ) (memory : ℕ → ℕ) (f : Flags) (x y : Option (Register × WordPair))
    → IsCopied to from b v s was z memory f → other_half to ≡ x → other_half from ≡ y
    → HoldPairs (with_copy (copy_by is_whole to from b x y) v s) was (set to (get from z) z)
HoldPairs-copy_by is_whole to from b v s was z memory f None y k is other = k.pairs
HoldPairs-copy_by is_whole to from b v s was z memory f (Some x) None k is other = k.pairs
HoldPairs-copy_by is_whole to from b v s was z memory f (Some x) (Some y) k is other = choose (is_whole && makes_equal to from b x y) refl
  where
    choose : (c : Bool) → (is_whole && makes_equal to from b x y) ≡ c
        → HoldPairs (with_copy (cond c (Some (record { to = x.1; from = y.1 })) None) v s) was (set to (get from z) z)
    choose false e = k.pairs
    choose true e =
        let made = (and_parts is_whole (makes_equal to from b x y) e).1 in
        let last = and_parts (are_same_halves to from && not (is_same_pair x.1 y.1)) (hold_one_byte x.0 y.0 b) made in
        let first = and_parts (are_same_halves to from) (not (is_same_pair x.1 y.1)) last.0 in
        HoldPairs-halves to from b v s was z memory f x y k first.0 last.1 (not_true _ first.1) is other

HoldPairs-load :
    (is_whole : Bool) (to from : Register) (b : OneByte) (v : Values) (s : Pairs) (was : Beside) (p : Processor) (memory : ℕ → ℕ) (l h : ℕ)
    → HoldOneByte b p.registers memory p.flags → Holds v was p.registers
    → HoldPairs s was (effect_of (op.Load (operand.Register to) (operand.Register from)) p l h).processor.registers
    → HoldPairs (with_copy (copy_by is_whole to from b (other_half to) (other_half from)) v s) was (effect_of (op.Load (operand.Register to) (operand.Register from)) p l h).processor.registers
unfolding effect_of store_operand operand_value
HoldPairs-load is_whole to from b v s was p memory l h byte values pairs =
    HoldPairs-copy_by is_whole to from b v s was p.registers memory p.flags _ _ (record { byte = byte; values = values; pairs = pairs }) refl refl

pub HoldPairs-with_pair_copied :
    (is_whole : Bool) (o : Op) (b : OneByte) (v : Values) (s : Pairs) (was : Beside) (p : Processor) (memory : ℕ → ℕ) (l h : ℕ)
    → HoldOneByte b p.registers memory p.flags → Holds v was p.registers → HoldPairs s was (effect_of o p l h).processor.registers
    → HoldPairs (with_pair_copied is_whole o b v s) was (effect_of o p l h).processor.registers
unfolding pair_copy
HoldPairs-with_pair_copied is_whole (op.Load (operand.Register to) (operand.Register from)) b v s was p memory l h byte values pairs =
    HoldPairs-load is_whole to from b v s was p memory l h byte values pairs
HoldPairs-with_pair_copied is_whole o b v s was p memory l h byte values pairs = pairs

-- ---- what may be known of pairs

with_copy-kept : (may_be : ℕ → Bool) (c : Option PairCopy) (v : Values) (s : Pairs) → ArePairs may_be v.pairs → ArePairs may_be s → ArePairs may_be (with_copy c v s)
with_copy-kept may_be None v s before h = h
with_copy-kept may_be (Some c) v s before h =
    ArePairs-with_facts may_be c.to (facts_copied c v) s
    (record { last = bounds_of_below may_be c.from v before; link = IsLink-copied may_be c.to c.from (facts_of c.from v.pairs).link (before.each c.from).link }) h

pub with_pair_copied-kept : (may_be : ℕ → Bool) (is_whole : Bool) (o : Op) (b : OneByte) (v : Values) (s : Pairs) → ArePairs may_be v.pairs → ArePairs may_be s → ArePairs may_be (with_pair_copied is_whole o b v s)
with_pair_copied-kept may_be is_whole o b v s before h = with_copy-kept may_be (pair_copy is_whole o b) v s before h
