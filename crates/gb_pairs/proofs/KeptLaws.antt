-- Bounds and sums stay words, and factors stay what they were.
use Rattle.std.proofs.Common.{◌≡◌, ℕ, ◌+◌, ◌<◌, Bool, true, false, not, ◌&&◌, ◌||◌, cond, nat_lt, nat_le, Option, Some, None, refl, sym, subst, arith}
use Rattle.std.specs.Prelude.{IfSome}
use Rattle.std.proofs.lemmas.Bool.Decides.{nat_tests}
use Rattle.gb_ops.specs.declared.op.Register.{Register}
use Rattle.gb_ops.specs.declared.op.Register.TheVariants.{H, L}
use Rattle.gb_ops.specs.Registers.{get}
use Rattle.gb_domain.specs.declared.pairs.WordPair.{WordPair}
use Rattle.gb_domain.specs.declared.pairs.WordPair.TheVariants as pair
use Rattle.gb_domain.specs.declared.pairs.Bounds.{Bounds}
use Rattle.gb_domain.specs.declared.pairs.PairBounds.{PairBounds}
use Rattle.gb_domain.specs.declared.pairs.Link.{Link}
use Rattle.gb_domain.specs.declared.pairs.PairFacts.{PairFacts}
use Rattle.gb_domain.specs.declared.pairs.Pairs.{Pairs}
use Rattle.gb_domain.specs.Pairs.{any_bounds, nothing_known, facts_of, IsLink, IsPairFacts, ArePairs}
use Rattle.gb_vals.specs.Logic.{smaller, larger}
use Rattle.gb_pairs.specs.declared.values.Values.{Values}
use Rattle.gb_pairs.specs.declared.moved.HlSum.{HlSum}
use Rattle.gb_pairs.specs.Bounds.{is_one, bounds_of}
use Rattle.std.specs.Prelude.{is_none}
use Rattle.gb_pairs.specs.Written.{link_without_base, facts_without_base, without_bases, is_half, is_same_pair, reads, link_without, facts_without, without_register}
use Rattle.gb_pairs.specs.Moved.{moved_link, by_if, bounds_up, bounds_down, reads_half, reads_pair, link_of_step, facts_of_step, stepped, incremented, decremented, link_of_byte, weight, facts_of_byte_up, facts_of_byte_down, byte_incremented, byte_decremented, carry_of, sums, with_hl, link_of_sum, added}
use Rattle.gb_pairs.specs.Copied.{is_read, equal_to, link_copied}
use Rattle.gb_pairs.specs.Reduced.{reduced, restricted}
use Rattle.gb_pairs.specs.Sound.{IsCut}
use Rattle.gb_pairs.proofs.CutLaws.{IsPart-bounds_of, reduced_cuts, restricted_cuts}

pub bounds_of_below : (may_be : ℕ → Bool) (p : WordPair) (v : Values) → ArePairs may_be v.pairs → (bounds_of p v).last < 65536
bounds_of_below may_be p v h =
    let own = (h.each p).last in
    let part = (IsPart-bounds_of p v).last in
    omega arith

are_pairs : (may_be : ℕ → Bool) (b d h : PairFacts) → IsPairFacts may_be b → IsPairFacts may_be d → IsPairFacts may_be h → ArePairs may_be (record { bc = b; de = d; hl = h })
are_pairs may_be b d h i j k = record { each = each }
  where
    each : (p : WordPair) → IsPairFacts may_be (facts_of p (record { bc = b; de = d; hl = h }))
    each pair.Bc = i
    each pair.De = j
    each pair.Hl = k

-- ---- forgetting

link_without_kept : (may_be : ℕ → Bool) (r : Register) (l : Option Link) → IfSome l (IsLink may_be) → IfSome (link_without r l) (IsLink may_be)
link_without_kept may_be r None h = tt
link_without_kept may_be r (Some l) h = choose (reads r l.other)
  where
    choose : (b : Bool) → IfSome (cond b None (Some l)) (IsLink may_be)
    choose true = tt
    choose false = h

facts_without_kept : (may_be : ℕ → Bool) (r : Register) (p : WordPair) (f : PairFacts) → IsPairFacts may_be f → IsPairFacts may_be (facts_without r p f)
facts_without_kept may_be r p f h = choose (is_half r p)
  where
    choose : (b : Bool) → IsPairFacts may_be (cond b nothing_known (record f { link = link_without r f.link }))
    choose true = record { last = omega arith; link = tt }
    choose false = record { last = h.last; link = link_without_kept may_be r f.link h.link }

ArePairs-without_register : (may_be : ℕ → Bool) (r : Register) (s : Pairs) → ArePairs may_be s → ArePairs may_be (without_register r s)
unfolding without_register
ArePairs-without_register may_be r s h =
    are_pairs may_be _ _ _ (facts_without_kept may_be r pair.Bc s.bc (h.each pair.Bc)) (facts_without_kept may_be r pair.De s.de (h.each pair.De))
    (facts_without_kept may_be r pair.Hl s.hl (h.each pair.Hl))

pub without_register_kept : (may_be : ℕ → Bool) (r : Register) (s o : Pairs) → o ≡ without_register r s → ArePairs may_be s → ArePairs may_be o
without_register_kept may_be r s o e h = subst (ArePairs may_be) (sym e) (ArePairs-without_register may_be r s h)

-- ---- steps

IsLink-moved : (may_be : ℕ → Bool) (a b : ℕ) (l : Link) → IsLink may_be l → IsLink may_be (moved_link a b l)
IsLink-moved may_be a b l h = record { other = h.other; factor = h.factor; sum = omega arith; width = h.width }

link_of_step_kept : (may_be : ℕ → Bool) (p : WordPair) (a : ℕ) (q : WordPair) (l : Option Link) → IfSome l (IsLink may_be) → IfSome (link_of_step p a q l) (IsLink may_be)
link_of_step_kept may_be p a q None h = tt
link_of_step_kept may_be p a q (Some l) h = choose (reads_half p l.other || (is_same_pair p q && reads_pair p l.other))
  where
    choose : (b : Bool) → IfSome (cond b None (Some (moved_link (by_if (is_same_pair p q) a) (by_if (reads_pair p l.other) a) l))) (IsLink may_be)
    choose true = tt
    choose false = IsLink-moved may_be _ _ l h

either_below : (c : Bool) (b d : Bounds) → b.last < 65536 → d.last < 65536 → (cond c b d).last < 65536
either_below true b d h k = h
either_below false b d h k = k

facts_of_step_kept :
    (may_be : ℕ → Bool) (p : WordPair) (a : ℕ) (b : Bounds) (q : WordPair) (f : PairFacts)
    → b.last < 65536 → IsPairFacts may_be f → IsPairFacts may_be (facts_of_step p a b q f)
facts_of_step_kept may_be p a b q f below h =
    record { last = either_below (is_same_pair p q) b f.bounds below h.last; link = link_of_step_kept may_be p a q f.link h.link }

ArePairs-stepped : (may_be : ℕ → Bool) (p : WordPair) (a : ℕ) (b : Bounds) (s : Pairs) → b.last < 65536 → ArePairs may_be s → ArePairs may_be (stepped p a b s)
unfolding stepped
ArePairs-stepped may_be p a b s below h =
    are_pairs may_be _ _ _ (facts_of_step_kept may_be p a b pair.Bc s.bc below (h.each pair.Bc)) (facts_of_step_kept may_be p a b pair.De s.de below (h.each pair.De))
    (facts_of_step_kept may_be p a b pair.Hl s.hl below (h.each pair.Hl))

bounds_up_below : (n : ℕ) (b : Bounds) → (bounds_up n b).last < 65536
unfolding bounds_up
bounds_up_below n b = choose (nat_lt (larger b.first b.last + n) 65536) refl
  where
    choose :
        (c : Bool) → nat_lt (larger b.first b.last + n) 65536 ≡ c
        → (cond c (record { first = b.first + n; last = b.last + n }) any_bounds).last < 65536
    choose true e = grind (arith, nat_tests)
    choose false e = omega arith

bounds_down_below : (n : ℕ) (b : Bounds) → b.last < 65536 → (bounds_down n b).last < 65536
unfolding bounds_down
bounds_down_below n b h = either_below (nat_le n (smaller b.first b.last)) _ any_bounds (omega arith) (omega arith)

pub incremented_kept : (may_be : ℕ → Bool) (p : WordPair) (v : Values) (o : Pairs) → o ≡ incremented p v → ArePairs may_be v.pairs → ArePairs may_be o
unfolding incremented
incremented_kept may_be p v o e h = subst (ArePairs may_be) (sym e) (ArePairs-stepped may_be p 1 _ v.pairs (bounds_up_below 1 _) h)

pub decremented_kept : (may_be : ℕ → Bool) (p : WordPair) (v : Values) (o : Pairs) → o ≡ decremented p v → ArePairs may_be v.pairs → ArePairs may_be o
unfolding decremented
decremented_kept may_be p v o e h =
    subst (ArePairs may_be) (sym e) (ArePairs-stepped may_be p 65535 _ v.pairs (bounds_down_below 1 _ (bounds_of_below may_be p v h)) h)

-- ---- a byte's step

link_of_byte_kept :
    (may_be : ℕ → Bool) (r : Register) (low high : ℕ) (q : WordPair) (l : Option Link) → IfSome l (IsLink may_be) → IfSome (link_of_byte r low high q l) (IsLink may_be)
link_of_byte_kept may_be r low high q None h = tt
link_of_byte_kept may_be r low high q (Some l) h = IsLink-moved may_be _ _ l h

facts_of_byte_up_kept : (may_be : ℕ → Bool) (r : Register) (v : Values) (q : WordPair) → ArePairs may_be v.pairs → IsPairFacts may_be (facts_of_byte_up r v q)
facts_of_byte_up_kept may_be r v q h =
    record {
      last = either_below (is_half r q) _ (facts_of q v.pairs).bounds (bounds_up_below (weight r) (bounds_of q v)) (h.each q).last;
      link = link_of_byte_kept may_be r 1 256 q _ (h.each q).link;
    }

facts_of_byte_down_kept : (may_be : ℕ → Bool) (r : Register) (v : Values) (q : WordPair) → ArePairs may_be v.pairs → IsPairFacts may_be (facts_of_byte_down r v q)
facts_of_byte_down_kept may_be r v q h =
    record {
      last =
          either_below (is_half r q) _ (facts_of q v.pairs).bounds (bounds_down_below (weight r) _ (bounds_of_below may_be q v h)) (h.each q).last;
      link = link_of_byte_kept may_be r 65535 65280 q _ (h.each q).link;
    }

either_kept : (may_be : ℕ → Bool) (c : Bool) (s t : Pairs) → ArePairs may_be s → ArePairs may_be t → ArePairs may_be (cond c s t)
either_kept may_be true s t h k = h
either_kept may_be false s t h k = k

pub byte_incremented_kept : (may_be : ℕ → Bool) (r : Register) (v : Values) (o : Pairs) → o ≡ byte_incremented r v → ArePairs may_be v.pairs → ArePairs may_be o
unfolding byte_incremented
byte_incremented_kept may_be r v o e h =
    subst (ArePairs may_be) (sym e)
    (either_kept may_be (nat_lt (get r v.registers).hi 255) _ _
    (are_pairs may_be _ _ _ (facts_of_byte_up_kept may_be r v pair.Bc h) (facts_of_byte_up_kept may_be r v pair.De h) (facts_of_byte_up_kept may_be r v pair.Hl h))
    (ArePairs-without_register may_be r v.pairs h))

pub byte_decremented_kept : (may_be : ℕ → Bool) (r : Register) (v : Values) (o : Pairs) → o ≡ byte_decremented r v → ArePairs may_be v.pairs → ArePairs may_be o
unfolding byte_decremented
byte_decremented_kept may_be r v o e h =
    subst (ArePairs may_be) (sym e)
    (either_kept may_be (nat_lt 0 (get r v.registers).lo) _ _
    (are_pairs may_be _ _ _ (facts_of_byte_down_kept may_be r v pair.Bc h) (facts_of_byte_down_kept may_be r v pair.De h) (facts_of_byte_down_kept may_be r v pair.Hl h))
    (ArePairs-without_register may_be r v.pairs h))

-- ---- sums

sums_below : (carry : Option Bool) (x y : Bounds) → (sums carry x y).last < 65536
sums_below None x y = omega arith
sums_below (Some carry) x y = omega arith

pub IsLink-copied : (may_be : ℕ → Bool) (p q : WordPair) (k : Option Link) → IfSome k (IsLink may_be) → IsLink may_be (link_copied p q k)
IsLink-copied may_be p q None h = record { other = tt; factor = refl; sum = omega arith; width = omega arith }
IsLink-copied may_be p q (Some l) h = choose (is_read p l.other)
  where
    choose : (b : Bool) → IsLink may_be (cond b (equal_to q) l)
    choose true = record { other = tt; factor = refl; sum = omega arith; width = omega arith }
    choose false = h

IfSome-link_of_sum : (may_be : ℕ → Bool) (from : Option WordPair) (v : Values) → ArePairs may_be v.pairs → IfSome (link_of_sum from v) (IsLink may_be)
IfSome-link_of_sum may_be None v h = tt
IfSome-link_of_sum may_be (Some p) v h = choose (is_one (bounds_of pair.Hl v) && not (is_same_pair pair.Hl p))
  where
    copied : Link
    copied = link_copied pair.Hl p (facts_of p v.pairs).link

    choose : (b : Bool) → IfSome (cond b (Some (moved_link (bounds_of pair.Hl v).first 0 copied)) None) (IsLink may_be)
    choose true =
        let is = IsLink-copied may_be pair.Hl p (facts_of p v.pairs).link (h.each p).link in
        record { other = is.other; factor = is.factor; sum = omega arith; width = is.width }
    choose false = tt

ArePairs-with_hl : (may_be : ℕ → Bool) (b : Bounds) (l : Option Link) (s : Pairs) → b.last < 65536 → IfSome l (IsLink may_be) → ArePairs may_be s → ArePairs may_be (with_hl b l s)
ArePairs-with_hl may_be b l s below linked h =
    let left = ArePairs-without_register may_be H _ (ArePairs-without_register may_be L s h) in
    are_pairs may_be _ _ _ (left.each pair.Bc) (left.each pair.De) (record { last = below; link = linked })

pub added_kept :
    (may_be : ℕ → Bool) (y : Bounds) (is_hl : Bool) (from : Option WordPair) (v : Values) (o : HlSum) → o ≡ added y is_hl from v → ArePairs may_be v.pairs → ArePairs may_be o.pairs
unfolding added
added_kept may_be y is_hl from v o e h =
    let below = sums_below (carry_of (bounds_of pair.Hl v) y) (bounds_of pair.Hl v) y in
    subst (λ s. ArePairs may_be s.pairs) (sym e)
    (either_kept may_be (is_one y && not is_hl) _ _ (ArePairs-stepped may_be pair.Hl y.first _ v.pairs below h) (ArePairs-with_hl may_be _ _ v.pairs below (IfSome-link_of_sum may_be from v h) h))

-- ---- a procedure is left

IsPairFacts-without_bases : (may_be : ℕ → Bool) (f : PairFacts) → IsPairFacts may_be f → IsPairFacts may_be (facts_without_base f)
IsPairFacts-without_bases may_be f h = record { last = h.last; link = by f.link h.link }
  where
    by : (l : Option Link) → IfSome l (IsLink may_be) → IfSome (link_without_base l) (IsLink may_be)
    by None i = tt
    by (Some l) i = choose (is_none l.base)
      where
        choose : (b : Bool) → IfSome (cond b (Some l) None) (IsLink may_be)
        choose true = i
        choose false = tt

pub without_bases_kept : (may_be : ℕ → Bool) (s o : Pairs) → o ≡ without_bases s → ArePairs may_be s → ArePairs may_be o
unfolding without_bases
without_bases_kept may_be s o e h =
    subst (ArePairs may_be) (sym e)
    (are_pairs may_be _ _ _ (IsPairFacts-without_bases may_be s.bc (h.each pair.Bc)) (IsPairFacts-without_bases may_be s.de (h.each pair.De)) (IsPairFacts-without_bases may_be s.hl (h.each pair.Hl)))

-- ---- reducing

pub ArePairs-cut : (may_be : ℕ → Bool) (v w : Values) → IsCut v w → ArePairs may_be v.pairs → ArePairs may_be w.pairs
ArePairs-cut may_be v w h k =
    record {
      each = λ p.
          let cut = h.last p in
          let below = (k.each p).last in
          record { last = omega arith; link = subst (λ l. IfSome l (IsLink may_be)) (sym (h.link p)) (k.each p).link };
    }

cut_kept : (may_be : ℕ → Bool) (v : Values) (o : Option Values) → IfSome o (IsCut v) → ArePairs may_be v.pairs → IfSome o (λ w. ArePairs may_be w.pairs)
cut_kept may_be v None h k = tt
cut_kept may_be v (Some w) h k = ArePairs-cut may_be v w h k

pub reduced_kept :
    (may_be : ℕ → Bool) (entered read : PairBounds) (v : Values) (o : Option Values) → o ≡ reduced entered read v → ArePairs may_be v.pairs → IfSome o (λ w. ArePairs may_be w.pairs)
reduced_kept may_be entered read v o e = cut_kept may_be v o (reduced_cuts entered read v o e)

pub restricted_kept :
    (may_be : ℕ → Bool) (p : WordPair) (within : Bounds) (v : Values) (o : Option Values)
    → o ≡ restricted p within v → ArePairs may_be v.pairs → IfSome o (λ w. ArePairs may_be w.pairs)
restricted_kept may_be p within v o e = cut_kept may_be v o (restricted_cuts p within v o e)
