-- Reducing loses no registers.
use Rattle.std.proofs.Common.{◌≡◌, ℕ, ◌+◌, ◌-◌, ◌/◌, ◌%◌, ◌<◌, Bool, true, false, ◌==◌, ◌||◌, cond, nat_lt, Option, Some, None, refl, sym, subst, arith}
use Rattle.std.specs.Prelude.{IfSome, option_and_then}
use Rattle.std.proofs.lemmas.Bool.{eqb-true}
use Rattle.std.proofs.lemmas.Bool.Decides.{nat_tests}
use Rattle.gb_ops.specs.declared.op.Register.{Register}
use Rattle.gb_ops.specs.declared.registers.Registers.{Registers}
use Rattle.gb_ops.specs.Registers.{get}
use Rattle.gb_ops.specs.Pairs.{word}
use Rattle.gb_domain.specs.declared.types.Val.{Val}
use Rattle.gb_domain.specs.declared.pairs.WordPair.{WordPair}
use Rattle.gb_domain.specs.declared.pairs.WordPair.TheVariants as pair
use Rattle.gb_domain.specs.declared.pairs.Bounds.{Bounds}
use Rattle.gb_domain.specs.declared.pairs.Other.{Other}
use Rattle.gb_domain.specs.declared.pairs.Other.TheVariants as other
use Rattle.gb_domain.specs.declared.pairs.PairBounds.{PairBounds}
use Rattle.gb_domain.specs.declared.pairs.Link.{Link}
use Rattle.gb_domain.specs.Pairs.{facts_of, bounds_in, IsLink, ArePairs}
use Rattle.gb_vals.specs.Logic.{smaller, larger}
use Rattle.gb_vals.specs.Meaning.{In}
use Rattle.gb_pairs.specs.declared.values.Values.{Values}
use Rattle.gb_pairs.specs.Bounds.{is_empty, high_of, low_of, bounds_of, bounds_of_other, bounds_of_base}
use Rattle.gb_pairs.specs.Meaning.{Beside, word_of, other_of, AreLinked, IsReadIn, AreReadIn, HoldsPair, AreBytes, Holds}
use Rattle.gb_pairs.specs.Reduced.{without_base, unbased, cut_by_other, others_at, values_within, cut_val, with_register, with_bounds, with_register_if, with_bounds_if, cut_other, cut_other_if, high_bounds, low_bounds, with_bytes_if, settled, reduced_by_link, reduced_within, reduced_pair, reduced_once, reduced, restricted}
use Rattle.gb_pairs.specs.Sound.{Within, AreWithin, HoldsIn, IsSoundByLink, IsSoundReducing, IsSoundRestriction, IsCut}
use Rattle.gb_pairs.proofs.BaseLaws.{AreMet, AreMet-alone, IsAlone, IsLink-unbased, IsAlone-unbased}
use Rattle.gb_pairs.proofs.RegisterLaws.{each_set, each_facts}
use Rattle.gb_pairs.proofs.BoundsLaws.{Within-cut, Within-bounds_of, Within-bounds_of_other, word_of-is, word_below, other_below}
use Rattle.gb_pairs.proofs.StrideLaws.{InIf, In-within}
use Rattle.gb_pairs.proofs.CutLaws.{reduced_pair_cuts, reduced_by_two_cuts, reduced_once_cuts}
use Rattle.gb_pairs.proofs.KeptLaws.{bounds_of_below, ArePairs-cut}
use Rattle.gb_pairs.proofs.LinkLaws.{WithinIf, Within-cut_by_other, cut_by_other-last, Within-others_at}

-- ---- parts are replaced

Holds-with_register :
    (r : Register) (y : Val) (v : Values) (was : Beside) (x : Registers ℕ) → In y (get r x) → Holds v was x → Holds (with_register r y v) was x
Holds-with_register r y v was x k h =
    record { registers = each_set (λ q z. In z (get q x)) r y v.registers k h.registers; pairs = h.pairs }

pub Holds-with_bounds :
    (p : WordPair) (b : Bounds) (v : Values) (was : Beside) (x : Registers ℕ) → Within b (word_of p x) → Holds v was x → Holds (with_bounds p b v) was x
Holds-with_bounds p b v was x k h =
    record {
      registers = h.registers;
      pairs = record {
        each = each_facts (λ q f. HoldsPair f q was x) p _ v.pairs
            (record { first = k.least; last = k.most; link = (h.pairs.each p).link })
            h.pairs.each;
      };
    }

-- ---- values are cut

InIf-cut_val : (v : Val) (d : Bounds) (n : ℕ) → In v n → Within d n → InIf (cut_val v d) n
unfolding cut_val
InIf-cut_val v d n h k = choose (nat_lt (smaller v.hi d.last) (larger v.lo d.first)) refl
  where
    choose :
        (b : Bool) → nat_lt (smaller v.hi d.last) (larger v.lo d.first) ≡ b
        → InIf (cond b None (values_within (larger v.lo d.first) (smaller v.hi d.last) v)) n
    choose true e = absurd (grind (arith, nat_tests))
    choose false e = In-within (larger v.lo d.first) (smaller v.hi d.last) v n h (grind (arith, nat_tests)) (grind (arith, nat_tests))

HoldsIn-with_register_if :
    (r : Register) (o : Option Val) (v : Values) (was : Beside) (x : Registers ℕ) → InIf o (get r x) → Holds v was x → HoldsIn (with_register_if r o v) was x
HoldsIn-with_register_if r None v was x k h = k
HoldsIn-with_register_if r (Some y) v was x k h = Holds-with_register r y v was x k h

not_empty : (b : Bounds) (w : ℕ) → Within b w → is_empty b ≡ false
not_empty b w h = grind (arith, nat_tests)

HoldsIn-with_bounds_if :
    (p : WordPair) (b : Bounds) (v : Values) (was : Beside) (x : Registers ℕ) → Within b (word_of p x) → Holds v was x → HoldsIn (with_bounds_if p b v) was x
HoldsIn-with_bounds_if p b v was x k h =
    subst (λ c. HoldsIn (cond c None (Some (with_bounds p b v))) was x) (sym (not_empty b _ k)) (Holds-with_bounds p b v was x k h)

HoldsIn-cut_other :
    (o : Other) (d : Bounds) (v : Values) (was : Beside) (x : Registers ℕ) → Within d (other_of o was x) → Holds v was x → HoldsIn (cut_other o d v) was x
unfolding cut_other
HoldsIn-cut_other (other.Register r) d v was x k h = HoldsIn-with_register_if r _ v was x (InIf-cut_val _ d _ (h.registers r) k) h
HoldsIn-cut_other (other.Pair p) d v was x k h =
    let own = h.pairs.each p in
    HoldsIn-with_bounds_if p _ v was x (Within-cut _ d _ (record { least = own.first; most = own.last }) k) h
HoldsIn-cut_other (other.Cell a) d v was x k h = h
HoldsIn-cut_other other.Nothing d v was x k h = h

HoldsIn-cut_other_if :
    (o : Other) (d : Option Bounds) (v : Values) (was : Beside) (x : Registers ℕ) → WithinIf d (other_of o was x) → Holds v was x → HoldsIn (cut_other_if o d v) was x
HoldsIn-cut_other_if o None v was x k h = h
HoldsIn-cut_other_if o (Some d) v was x k h = HoldsIn-cut_other o d v was x k h

-- ---- a pair's bytes are cut

Within-high_bounds : (b : Bounds) (h l : ℕ) → l < 256 → Within b (word h l) → Within (high_bounds b) h
Within-high_bounds b h l small k =
    let least = k.least in
    let most = k.most in
    record { least = omega arith; most = omega arith }

Within-low_bounds : (b : Bounds) (h l : ℕ) → l < 256 → Within b (word h l) → Within (low_bounds b) l
Within-low_bounds b h l small k = choose (b.first / 256 == b.last / 256) refl
  where
    choose :
        (c : Bool) → (b.first / 256 == b.last / 256) ≡ c
        → Within (cond c (record { first = b.first % 256; last = b.last % 256 }) (record { first = 0; last = 255 })) l
    choose true e =
        let least = k.least in
        let most = k.most in
        let is : b.first / 256 ≡ b.last / 256 = eqb-true _ _ e in
        record { least = omega arith; most = omega arith }
    choose false e = record { least = omega arith; most = omega arith }

HoldsIn-with_bytes_if :
    (p : WordPair) (high low : Option Val) (v : Values) (was : Beside) (x : Registers ℕ)
    → InIf high (get (high_of p) x) → InIf low (get (low_of p) x) → Holds v was x → HoldsIn (with_bytes_if p high low v) was x
HoldsIn-with_bytes_if p None low v was x j k h = j
HoldsIn-with_bytes_if p (Some y) low v was x j k h = HoldsIn-with_register_if (low_of p) low _ was x k (Holds-with_register (high_of p) y v was x j h)

HoldsIn-settled :
    (p : WordPair) (b : Bounds) (v : Values) (was : Beside) (x : Registers ℕ)
    → AreBytes x → Within b (word_of p x) → Holds v was x → HoldsIn (settled p b v) was x
unfolding settled
HoldsIn-settled p b v was x bytes k h =
    let small = bytes.each (low_of p) in
    let within : Within b (word (get (high_of p) x) (get (low_of p) x)) = subst (λ w. Within b w) (sym (word_of-is p x)) k in
    HoldsIn-with_bytes_if p _ _ _ was x
    (InIf-cut_val _ _ _ (h.registers (high_of p)) (Within-high_bounds b _ _ small within))
    (InIf-cut_val _ _ _ (h.registers (low_of p)) (Within-low_bounds b _ _ small within))
    (Holds-with_bounds p b v was x k h)

-- ---- the bytes of memory that links read

IsReadIn-unbased :
    (entered : PairBounds) (l : Option Link) (b : Bounds) (memory : ℕ → ℕ) → IsReadIn l b memory → IsReadIn (unbased entered l) b memory
unfolding without_base
IsReadIn-unbased entered None b memory h = tt
IsReadIn-unbased entered (Some l) b memory h = choose (is_empty c || nat_lt 65535 (l.width + (c.last - c.first)))
  where
    c : Bounds
    c = bounds_of_base l.base entered

    choose :
        (d : Bool)
        → IsReadIn (cond d None (Some (record l { base = None; sum = (l.sum + c.first) % 65536; width = l.width + (c.last - c.first) }))) b memory
    choose true = tt
    choose false = h

AreReadIn-cut : (v w : Values) (read : PairBounds) (memory : ℕ → ℕ) → IsCut v w → AreReadIn v.pairs read memory → AreReadIn w.pairs read memory
AreReadIn-cut v w read memory c h =
    record { each = λ p. subst (λ l. IsReadIn l (bounds_in p read) memory) (sym (c.link p)) (h.each p) }

-- ---- a link

HoldsIn-then :
    (f : Values → Option Values) (o : Option Values) (was : Beside) (x : Registers ℕ)
    → HoldsIn o was x → ((v : Values) → Holds v was x → HoldsIn (f v) was x) → HoldsIn (option_and_then f o) was x
HoldsIn-then f None was x h k = absurd h
HoldsIn-then f (Some v) was x h k = k v h

none_empty : (b c : Bounds) (m n : ℕ) → Within b m → Within c n → (is_empty b || is_empty c) ≡ false
none_empty b c m n h k = grind (arith, nat_tests)

pub HoldsIn-reduced_by_link :
    (p : WordPair) (l : Link) (o b : Bounds) (v : Values) (was : Beside) (x : Registers ℕ)
    → l.factor < 65536 → l.sum < 65536 → b.last < 65536 → AreBytes x → other_of l.other was x < 65536 → Within o (other_of l.other was x) → Within b (word_of p x)
    → AreLinked l 0 (word_of p x) (other_of l.other was x) → Holds v was x → HoldsIn (reduced_by_link p l o b v) was x
unfolding reduced_by_link
HoldsIn-reduced_by_link p l o b v was x factor sum last bytes small j k linked h =
    let met : AreMet l (word_of p x) (other_of l.other was x) = AreMet-alone l _ _ linked in
    let c : Bounds = cut_by_other l o b in
    let within : Within c (word_of p x) = Within-cut_by_other l o b _ _ factor (word_below p x bytes) j k met in
    subst
    (λ e. HoldsIn (cond e None (option_and_then (settled p c) (cut_other_if l.other (others_at l o c) v))) was x)
    (sym (none_empty o c _ _ j within))
    (HoldsIn-then (settled p c) _ was x
    (HoldsIn-cut_other_if l.other _ v was x
    (Within-others_at l o c _ _ factor sum (cut_by_other-last l o b last) (word_below p x bytes) small j within met)
    h)
    (λ w m. HoldsIn-settled p c w was x bytes within m))

-- ---- the registers of all pairs

factor_below : (may_be : ℕ → Bool) (l : Link) → IsLink may_be l → l.factor < 65536
factor_below may_be l h = let is = h.factor in grind (arith, nat_tests)

HoldsIn-reduced_within :
    (may_be : ℕ → Bool) (p : WordPair) (o : Option Link) (m b : Bounds) (v : Values) (was : Beside) (x : Registers ℕ)
    → IfSome o (IsLink may_be) → b.last < 65536 → AreBytes x → IsReadIn o m was.memory → Within b (word_of p x) → IsAlone o (word_of p x) was x → Holds v was x
    → HoldsIn (reduced_within p o m b v) was x
HoldsIn-reduced_within may_be p None m b v was x link last bytes i k linked h = HoldsIn-settled p b v was x bytes k h
HoldsIn-reduced_within may_be p (Some l) m b v was x link last bytes i k linked h =
    HoldsIn-reduced_by_link p l _ b v was x (factor_below may_be l link) link.sum last bytes (other_below m l.other was x i bytes)
    (Within-bounds_of_other m l.other v was x i h) k linked h

HoldsIn-reduced_pair :
    (may_be : ℕ → Bool) (entered read : PairBounds) (p : WordPair) (v : Values) (was : Beside) (x : Registers ℕ)
    → AreWithin entered was.entered → ArePairs may_be v.pairs → AreReadIn v.pairs read was.memory → AreBytes x → Holds v was x
    → HoldsIn (reduced_pair entered read p v) was x
unfolding reduced_pair
HoldsIn-reduced_pair may_be entered read p v was x lay pairs reads bytes h =
    let within = Within-bounds_of p v was x h in
    let l : Option Link = (facts_of p v.pairs).link in
    subst
    (λ e. HoldsIn (cond e None (reduced_within p (unbased entered (facts_of p v.pairs).link) (bounds_in p read) (bounds_of p v) v)) was x)
    (sym (not_empty (bounds_of p v) _ within))
    (HoldsIn-reduced_within may_be p _ (bounds_in p read) (bounds_of p v) v was x (IsLink-unbased may_be entered l (pairs.each p).link) (bounds_of_below may_be p v pairs) bytes
    (IsReadIn-unbased entered l (bounds_in p read) was.memory (reads.each p)) within
    (IsAlone-unbased entered l p was x lay (h.pairs.each p).link) h)

HoldsIn-then_cut :
    (may_be : ℕ → Bool) (f : Values → Option Values) (read : PairBounds) (v : Values) (o : Option Values) (was : Beside) (x : Registers ℕ)
    → ArePairs may_be v.pairs → AreReadIn v.pairs read was.memory → HoldsIn o was x → IfSome o (IsCut v)
    → ((w : Values) → ArePairs may_be w.pairs → AreReadIn w.pairs read was.memory → Holds w was x → HoldsIn (f w) was x)
    → HoldsIn (option_and_then f o) was x
HoldsIn-then_cut may_be f read v None was x pairs reads h c k = absurd h
HoldsIn-then_cut may_be f read v (Some w) was x pairs reads h c k = k w (ArePairs-cut may_be v w c pairs) (AreReadIn-cut v w read was.memory c reads) h

HoldsIn-reduced_once :
    (may_be : ℕ → Bool) (entered read : PairBounds) (v : Values) (was : Beside) (x : Registers ℕ)
    → AreWithin entered was.entered → AreBytes x → ArePairs may_be v.pairs → AreReadIn v.pairs read was.memory → Holds v was x
    → HoldsIn (reduced_once entered read v) was x
unfolding reduced_once
HoldsIn-reduced_once may_be entered read v was x lay bytes pairs reads h =
    HoldsIn-then_cut may_be _ read v _ was x pairs reads
    (HoldsIn-then_cut may_be _ read v _ was x pairs reads
    (HoldsIn-reduced_pair may_be entered read pair.Bc v was x lay pairs reads bytes h)
    (reduced_pair_cuts entered read pair.Bc v)
    (λ w k i m. HoldsIn-reduced_pair may_be entered read pair.De w was x lay k i bytes m))
    (reduced_by_two_cuts entered read v)
    (λ w k i m. HoldsIn-reduced_pair may_be entered read pair.Hl w was x lay k i bytes m)

-- of pairs that are some, whatever types say
pub reduced_sound : (may_be : ℕ → Bool) (entered read : PairBounds) (v : Values) (o : Option Values) → o ≡ reduced entered read v → ArePairs may_be v.pairs → IsSoundReducing entered read v o
unfolding reduced
reduced_sound may_be entered read v o e pairs = subst (λ r. IsSoundReducing entered read v r) (sym e) (record { gives = gives })
  where
    gives :
        (was : Beside) (x : Registers ℕ)
        → AreWithin entered was.entered → AreReadIn v.pairs read was.memory → AreBytes x → Holds v was x → HoldsIn (reduced entered read v) was x
    gives was x lay reads bytes h =
        HoldsIn-then_cut may_be _ read v _ was x pairs reads (HoldsIn-reduced_once may_be entered read v was x lay bytes pairs reads h) (reduced_once_cuts entered read v)
        (λ w k i m. HoldsIn-reduced_once may_be entered read w was x lay bytes k i m)

-- ---- a pair within bounds

pub restricted_sound :
    (p : WordPair) (within : Bounds) (v : Values) (o : Option Values) → o ≡ restricted p within v → IsSoundRestriction p within v o
unfolding restricted
restricted_sound p within v o e =
    subst (λ r. IsSoundRestriction p within v r) (sym e)
    (record {
      gives = λ was x k h. HoldsIn-with_bounds_if p _ v was x (Within-cut (bounds_of p v) within _ (Within-bounds_of p v was x h) k) h;
    })

-- ---- the clauses of functions

pub reduced_by_link_sound :
    (p : WordPair) (l : Link) (o b : Bounds) (v : Values) (r : Option Values)
    → r ≡ reduced_by_link p l o b v → l.factor < 65536 → l.sum < 65536 → b.last < 65536 → IsSoundByLink p l o b v r
reduced_by_link_sound p l o b v r e factor sum last =
    subst (λ s. IsSoundByLink p l o b v s) (sym e)
    (record { gives = λ was x bytes small j k linked h. HoldsIn-reduced_by_link p l o b v was x factor sum last bytes small j k linked h })

-- bounds that are empty leave nothing
pub empty_sound :
    (entered read : PairBounds) (p : WordPair) (v : Values) (b : Bounds) → b ≡ bounds_of p v → b.last < b.first → IsSoundReducing entered read v None
empty_sound entered read p v b e h =
    record {
      gives = λ was x lay reads bytes m.
          let within : Within b (word_of p x) = subst (λ c. Within c (word_of p x)) (sym e) (Within-bounds_of p v was x m) in
          let least = within.least in
          let most = within.most in
          omega arith;
    }

pub no_link_sound :
    (entered read : PairBounds) (p : WordPair) (v : Values) (b : Bounds) (r : Option Values)
    → b ≡ bounds_of p v → r ≡ settled p b v → IsSoundReducing entered read v r
no_link_sound entered read p v b r e f =
    subst (λ s. IsSoundReducing entered read v s) (sym f)
    (record {
      gives = λ was x lay reads bytes h.
          HoldsIn-settled p b v was x bytes (subst (λ c. Within c (word_of p x)) (sym e) (Within-bounds_of p v was x h)) h;
    })

pub link_sound :
    (entered read : PairBounds) (p : WordPair) (v : Values) (l : Link) (o b : Bounds) (r : Option Values)
    → unbased entered (facts_of p v.pairs).link ≡ Some l → o ≡ bounds_of_other (bounds_in p read) l.other v → b ≡ bounds_of p v → IsSoundByLink p l o b v r
    → IsSoundReducing entered read v r
link_sound entered read p v l o b r e f g h =
    record {
      gives = λ was x lay reads bytes m.
          let known = (facts_of p v.pairs).link in
          let is = subst (λ k. IsReadIn k (bounds_in p read) was.memory) e (IsReadIn-unbased entered known (bounds_in p read) was.memory (reads.each p)) in
          h.gives was x bytes (other_below (bounds_in p read) l.other was x is bytes)
          (subst (λ c. Within c (other_of l.other was x)) (sym f) (Within-bounds_of_other (bounds_in p read) l.other v was x is m))
          (subst (λ c. Within c (word_of p x)) (sym g) (Within-bounds_of p v was x m))
          (subst (λ k. IsAlone k (word_of p x) was x) e (IsAlone-unbased entered (facts_of p v.pairs).link p was x lay (m.pairs.each p).link))
          m;
    }

pub sound_then :
    (entered read : PairBounds) (v w : Values) (o r : Option Values)
    → o ≡ Some w → IfSome o (IsCut v) → IsSoundReducing entered read v o → IsSoundReducing entered read w r → IsSoundReducing entered read v r
sound_then entered read v w o r e c h k =
    record {
      gives = λ was x lay reads bytes m.
          k.gives was x lay (AreReadIn-cut v w read was.memory (subst (λ s. IfSome s (IsCut v)) e c) reads) bytes
          (subst (λ s. HoldsIn s was x) e (h.gives was x lay reads bytes m));
    }

pub sound_none :
    (entered read : PairBounds) (v : Values) (o r : Option Values) → o ≡ None → IsSoundReducing entered read v o → IsSoundReducing entered read v r
sound_none entered read v o r e h = record { gives = λ was x lay reads bytes m. absurd (subst (λ s. HoldsIn s was x) e (h.gives was x lay reads bytes m)) }
