-- Of plain pairs reducing leaves the same values, where each pair's own bounds are those that its bytes give.
use Rattle.std.proofs.Common.{◌≡◌, ℕ, ◌/◌, ◌%◌, ◌<◌, ◌≤◌, Bool, true, false, ◌==◌, cond, nat_lt, Option, Some, None, is_none, refl, sym, ◌∙◌, ap, subst, arith}
use Rattle.std.specs.Prelude.{option_and_then}
use Rattle.std.proofs.lemmas.Bool.{and_parts, leb-true}
use Rattle.std.proofs.lemmas.Bool.Decides.{nat_tests}
use Rattle.gb_ops.specs.declared.registers.Registers.{Registers}
use Rattle.gb_ops.specs.Registers.{get}
use Rattle.gb_domain.specs.declared.types.Val.{Val}
use Rattle.gb_domain.specs.declared.pairs.WordPair.{WordPair}
use Rattle.gb_domain.specs.declared.pairs.WordPair.TheVariants as pair
use Rattle.gb_domain.specs.declared.pairs.Bounds.{Bounds}
use Rattle.gb_domain.specs.declared.pairs.PairBounds.{PairBounds}
use Rattle.gb_domain.specs.declared.pairs.Link.{Link}
use Rattle.gb_domain.specs.declared.pairs.PairFacts.{PairFacts}
use Rattle.gb_domain.specs.Pairs.{bounds_in, facts_of}
use Rattle.gb_vals.specs.Logic.{smaller, larger}
use Rattle.gb_pairs.specs.declared.values.Values.{Values}
use Rattle.gb_pairs.specs.Bounds.{cut, is_empty, high_of, low_of, box, bounds_of}
use Rattle.gb_pairs.specs.Plain.{is_plain, are_plain, with_boxes, EndInBytes}
use Rattle.gb_pairs.specs.Reduced.{unbased, values_within, cut_val, with_bounds, high_bounds, low_bounds, with_bytes_if, settled, reduced_within, reduced_pair, reduced_once, reduced}
use Rattle.gb_pairs.specs.Meaning.{Beside, Holds}
use Rattle.gb_pairs.specs.Sound.{IsSoundReducing}
use Rattle.gb_pairs.proofs.RegisterLaws.{each_facts}
use Rattle.gb_pairs.proofs.BoundsLaws.{Within-bytes}
use Rattle.gb_pairs.proofs.ReducedLaws.{Holds-with_bounds}

-- a value's ends are in order, and bytes
record IsOrdered (v : Val) : Type 0 where
  order : v.lo ≤ v.hi
  hi : v.hi < 256

-- a pair's bytes aren't empty, and it says nothing beyond them
record IsPlain (h l : Val) (f : PairFacts) : Type 0 where
  link : f.link ≡ None
  high : IsOrdered h
  low : IsOrdered l
  first : f.bounds.first ≤ (box h l).first
  last : (box h l).last ≤ f.bounds.last

abbrev IsPlainPair : WordPair → Values → Type 0
IsPlainPair p v = IsPlain (get (high_of p) v.registers) (get (low_of p) v.registers) (facts_of p v.pairs)

record ArePlain (v : Values) : Type 0 where
  each : (p : WordPair) → IsPlainPair p v

abbrev box_of : WordPair → Values → Bounds
box_of p v = box (get (high_of p) v.registers) (get (low_of p) v.registers)

abbrev with_box : WordPair → Values → Values
with_box p v = with_bounds p (box_of p v) v

-- ---- one pair

itself : (n : ℕ) → (n == n) ≡ true
itself n = grind (arith, nat_tests)

whole : (v : Val) → values_within v.lo v.hi v ≡ Some v
unfolding values_within
whole v = rw (itself v.lo, itself v.hi) refl

-- a value that lies in the bounds stays
cut_val-whole : (v : Val) (d : Bounds) → d.first ≤ v.lo → v.lo ≤ v.hi → v.hi ≤ d.last → cut_val v d ≡ Some v
unfolding cut_val
cut_val-whole v d first order last =
    let lo : larger v.lo d.first ≡ v.lo = grind (arith, nat_tests) in
    let hi : smaller v.hi d.last ≡ v.hi = grind (arith, nat_tests) in
    let none : nat_lt v.hi v.lo ≡ false = grind (arith, nat_tests) in
    subst (λ n. cond (nat_lt (smaller v.hi d.last) n) None (values_within n (smaller v.hi d.last) v) ≡ Some v) (sym lo)
    (subst (λ n. cond (nat_lt n v.lo) None (values_within v.lo n v) ≡ Some v) (sym hi)
    (subst (λ b. cond b None (values_within v.lo v.hi v) ≡ Some v) (sym none) (whole v)))

high_whole : (high low : Val) (f : PairFacts) → IsPlain high low f → cut_val high (high_bounds (box high low)) ≡ Some high
high_whole high low f h =
    let byte = h.low.hi in
    let order = h.low.order in
    cut_val-whole high (high_bounds (box high low)) (omega arith) h.high.order (omega arith)

low_whole : (high low : Val) (f : PairFacts) → IsPlain high low f → cut_val low (low_bounds (box high low)) ≡ Some low
low_whole high low f h = choose ((box high low).first / 256 == (box high low).last / 256)
  where
    choose :
        (c : Bool)
        → cut_val low (cond c (record { first = (box high low).first % 256; last = (box high low).last % 256 }) (record { first = 0; last = 255 }))
        ≡ Some low
    choose true =
        let byte = h.low.hi in
        let order = h.low.order in
        cut_val-whole low _ (omega arith) order (omega arith)
    choose false =
        let byte = h.low.hi in
        let order = h.low.order in
        cut_val-whole low _ (omega arith) order (omega arith)

-- both bytes become what they are
with_bytes_same :
    (p : WordPair) (b : Bounds) (v : Values)
    → with_bytes_if p (Some (get (high_of p) v.registers)) (Some (get (low_of p) v.registers)) (with_bounds p b v) ≡ Some (with_bounds p b v)
with_bytes_same pair.Bc b v = refl
with_bytes_same pair.De b v = refl
with_bytes_same pair.Hl b v = refl

settled-plain : (p : WordPair) (v : Values) → IsPlainPair p v → settled p (box_of p v) v ≡ Some (with_box p v)
unfolding settled
settled-plain p v h =
    subst (λ y. with_bytes_if p y (cut_val (get (low_of p) v.registers) (low_bounds (box_of p v))) (with_box p v) ≡ Some (with_box p v))
    (sym (high_whole _ _ _ h))
    (subst (λ y. with_bytes_if p (Some (get (high_of p) v.registers)) y (with_box p v) ≡ Some (with_box p v)) (sym (low_whole _ _ _ h))
    (with_bytes_same p (box_of p v) v))

cut-whole : (b c : Bounds) → c.first ≤ b.first → b.last ≤ c.last → cut b c ≡ b
cut-whole b c first last =
    let f : larger b.first c.first ≡ b.first = grind (arith, nat_tests) in
    let l : smaller b.last c.last ≡ b.last = grind (arith, nat_tests) in
    subst (λ n. record { first = n; last = smaller b.last c.last } ≡ b) (sym f)
    (subst (λ n. record { first = b.first; last = n } ≡ b) (sym l) refl)

bounds_of-plain : (p : WordPair) (v : Values) → IsPlainPair p v → bounds_of p v ≡ box_of p v
unfolding bounds_of
bounds_of-plain p v h = cut-whole (box_of p v) _ h.first h.last

box-some : (high low : Val) (f : PairFacts) → IsPlain high low f → is_empty (box high low) ≡ false
box-some high low f h =
    let high_order = h.high.order in
    let low_order = h.low.order in
    grind (arith, nat_tests)

reduced_pair-plain : (entered read : PairBounds) (p : WordPair) (v : Values) → IsPlainPair p v → reduced_pair entered read p v ≡ Some (with_box p v)
unfolding reduced_pair
reduced_pair-plain entered read p v h =
    subst (λ b. cond (is_empty b) None (reduced_within p (unbased entered (facts_of p v.pairs).link) (bounds_in p read) b v) ≡ Some (with_box p v)) (sym (bounds_of-plain p v h))
    (subst (λ e. cond e None (reduced_within p (unbased entered (facts_of p v.pairs).link) (bounds_in p read) (box_of p v) v) ≡ Some (with_box p v)) (sym (box-some _ _ _ h))
    (subst (λ l. reduced_within p (unbased entered l) (bounds_in p read) (box_of p v) v ≡ Some (with_box p v)) (sym h.link) (settled-plain p v h)))

-- ---- all pairs

ArePlain-with_box : (p : WordPair) (v : Values) → ArePlain v → ArePlain (with_box p v)
ArePlain-with_box p v h =
    let k = h.each p in
    record {
      each =
          each_facts (λ q f. IsPlain (get (high_of q) v.registers) (get (low_of q) v.registers) f) p _ v.pairs
          (record {
            link = k.link;
            high = k.high;
            low = k.low;
            first = omega arith;
            last = omega arith;
          })
          h.each;
    }

reduced_once-plain : (entered read : PairBounds) (v : Values) → ArePlain v → reduced_once entered read v ≡ Some (with_boxes v)
unfolding reduced_once with_boxes
reduced_once-plain entered read v h =
    let by_bc = ArePlain-with_box pair.Bc v h in
    let by_de = ArePlain-with_box pair.De _ by_bc in
    subst (λ o. option_and_then (reduced_pair entered read pair.Hl) (option_and_then (reduced_pair entered read pair.De) o) ≡ Some (with_boxes v))
    (sym (reduced_pair-plain entered read pair.Bc v (h.each pair.Bc)))
    (subst (λ o. option_and_then (reduced_pair entered read pair.Hl) o ≡ Some (with_boxes v))
    (sym (reduced_pair-plain entered read pair.De (with_box pair.Bc v) (by_bc.each pair.De)))
    (reduced_pair-plain entered read pair.Hl (with_box pair.De (with_box pair.Bc v)) (by_de.each pair.Hl)))

ArePlain-with_boxes : (v : Values) → ArePlain v → ArePlain (with_boxes v)
unfolding with_boxes
ArePlain-with_boxes v h = ArePlain-with_box pair.Hl _ (ArePlain-with_box pair.De _ (ArePlain-with_box pair.Bc v h))

with_boxes-again : (v : Values) → with_boxes (with_boxes v) ≡ with_boxes v
unfolding with_boxes
with_boxes-again v = refl

reduced-plain : (entered read : PairBounds) (v : Values) → ArePlain v → reduced entered read v ≡ Some (with_boxes v)
unfolding reduced
reduced-plain entered read v h =
    subst (λ o. option_and_then (reduced_once entered read) o ≡ Some (with_boxes v)) (sym (reduced_once-plain entered read v h))
    (reduced_once-plain entered read (with_boxes v) (ArePlain-with_boxes v h) ∙ ap Some (with_boxes-again v))

-- ---- the clauses of functions

is_none-use : (o : Option Link) → is_none o ≡ true → o ≡ None
is_none-use None h = refl
is_none-use (Some l) h = cc

IsPlain-tested :
    (high low : Val) (f : PairFacts)
    → f.link ≡ None → is_plain high low f.bounds ≡ true → high.hi < 256 → low.hi < 256 → IsPlain high low f
IsPlain-tested high low f link h high_byte low_byte =
    let last = and_parts _ _ h in
    let first = and_parts _ _ last.0 in
    let orders = and_parts _ _ first.0 in
    record {
      link = link;
      high = record { order = leb-true _ _ orders.0; hi = high_byte };
      low = record { order = leb-true _ _ orders.1; hi = low_byte };
      first = leb-true _ _ first.1;
      last = leb-true _ _ last.1;
    }

are_plain_by : (v : Values) → IsPlainPair pair.Bc v → IsPlainPair pair.De v → IsPlainPair pair.Hl v → ArePlain v
are_plain_by v bc de hl = record { each = each }
  where
    each : (p : WordPair) → IsPlainPair p v
    each pair.Bc = bc
    each pair.De = de
    each pair.Hl = hl

ArePlain-tested : (v : Values) → are_plain v ≡ true → EndInBytes v.registers → ArePlain v
unfolding are_plain
ArePlain-tested v h bytes =
    let hl = and_parts _ _ h in
    let de = and_parts _ _ hl.0 in
    let bc = and_parts _ _ de.0 in
    let links = and_parts _ _ bc.0 in
    let two = and_parts _ _ links.0 in
    are_plain_by v (IsPlain-tested _ _ v.pairs.bc (is_none-use _ two.0) bc.1 bytes.b bytes.c)
    (IsPlain-tested _ _ v.pairs.de (is_none-use _ two.1) de.1 bytes.d bytes.e)
    (IsPlain-tested _ _ v.pairs.hl (is_none-use _ links.1) hl.1 bytes.h bytes.l)

pub with_boxes_plain :
    (entered read : PairBounds) (v w : Values) → w ≡ with_boxes v → EndInBytes v.registers → are_plain v ≡ true → reduced entered read v ≡ Some w
with_boxes_plain entered read v w e bytes h = reduced-plain entered read v (ArePlain-tested v h bytes) ∙ ap Some (sym e)

Holds-with_box : (p : WordPair) (v : Values) (was : Beside) (x : Registers ℕ) → Holds v was x → Holds (with_box p v) was x
Holds-with_box p v was x h = Holds-with_bounds p (box_of p v) v was x (Within-bytes p v was x h) h

-- of all pairs, plain or not
pub with_boxes_sound : (entered read : PairBounds) (v w : Values) → w ≡ with_boxes v → IsSoundReducing entered read v (Some w)
unfolding with_boxes
with_boxes_sound entered read v w e =
    subst (λ u. IsSoundReducing entered read v (Some u)) (sym e)
    (record {
      gives = λ was x within reads bytes h.
          let by_bc = Holds-with_box pair.Bc v was x h in
          let by_de = Holds-with_box pair.De (with_box pair.Bc v) was x by_bc in
          Holds-with_box pair.Hl (with_box pair.De (with_box pair.Bc v)) was x by_de;
    })
