-- What may be known of pairs behind a call.
use Rattle.std.proofs.Common.{◌≡◌, ℕ, ◌<◌, ◌+◌, ◌-◌, ◌%◌, Bool, true, false, cond, ◌&&◌, ◌||◌, nat_le, nat_lt, Option, Some, None, refl, arith}
use Rattle.std.specs.Prelude.{IfSome}
use Rattle.std.proofs.lemmas.Bool.{and_parts}
use Rattle.std.proofs.lemmas.Bool.Decides.{nat_tests}
use Rattle.gb_ops.specs.declared.registers.Registers.{Registers}
use Rattle.gb_domain.specs.declared.pairs.WordPair.{WordPair}
use Rattle.gb_domain.specs.declared.pairs.WordPair.TheVariants as pair
use Rattle.gb_domain.specs.declared.pairs.Bounds.{Bounds}
use Rattle.gb_domain.specs.declared.pairs.Link.{Link}
use Rattle.gb_domain.specs.declared.pairs.PairFacts.{PairFacts}
use Rattle.gb_domain.specs.declared.relations.Relations.{Relations}
use Rattle.gb_domain.specs.declared.types.Val.{Val}
use Rattle.gb_domain.specs.Pairs.{facts_of, IsLink, IsPairFacts, ArePairs}
use Rattle.gb_product.specs.Below.gb_pairs.declared.values.Values.{Values}
use Rattle.gb_product.specs.Below.gb_pairs.Bounds.{cut, is_empty, bounds_of}
use Rattle.gb_product.specs.Below.gb_pairs.Reduced.{values_of, last_sum, without_base}
use Rattle.gb_product.specs.Below.gb_relations.declared.returned.Kept.{Kept}
use Rattle.gb_product.specs.Below.gb_relations.Returned.{is_nothing, either, with_sums, is_pair_kept, is_other_kept, is_fit, told_by_link, pair_entered, told_by_entry, told_by_bounds, told_link, link_if_kept, link_returned, cut_to_sums, cut_by_base, cut_by_exit, facts_returned, returned}

-- ---- links

IsLink-kept : (may_be : ℕ → Bool) (p : WordPair) (k : Kept) (l : Option Link) → IfSome l (IsLink may_be) → IfSome (link_if_kept p k l) (IsLink may_be)
IsLink-kept may_be p k None h = tt
IsLink-kept may_be p k (Some l) h = by (is_pair_kept p k && is_other_kept p l.other k)
  where
    by : (b : Bool) → IfSome (cond b (Some l) None) (IsLink may_be)
    by true = h
    by false = tt

IsLink-with_sums : (may_be : ℕ → Bool) (l g : Link) → nat_le (l.width + g.width) 65535 ≡ true → IsLink may_be l → IsLink may_be g → IsLink may_be (with_sums l g)
IsLink-with_sums may_be l g e h i = by (is_nothing l.other)
  where
    by : (b : Bool) → IsLink may_be (record { other = cond b g.other l.other; factor = cond b g.factor l.factor; base = g.base; sum = (l.sum + g.sum) % 65536; width = l.width + g.width })
    by true = record { other = i.other; factor = i.factor; sum = omega arith; width = grind (arith, nat_tests) }
    by false = record { other = h.other; factor = h.factor; sum = omega arith; width = grind (arith, nat_tests) }

IsLink-told_by_link : (may_be : ℕ → Bool) (k : Kept) (b : WordPair) (l : Link) (g : Option Link) → IsLink may_be l → IfSome g (IsLink may_be) → IfSome (told_by_link k b l g) (IsLink may_be)
IsLink-told_by_link may_be k b l None h i = tt
IsLink-told_by_link may_be k b l (Some g) h i = by (is_fit k b l g) refl
  where
    by : (c : Bool) → is_fit k b l g ≡ c → IfSome (cond c (Some (with_sums l g)) None) (IsLink may_be)
    by true e = IsLink-with_sums may_be l g (and_parts _ _ e).1 h i
    by false e = tt

IsLink-told_by_entry : (may_be : ℕ → Bool) (l : Link) (q : Option WordPair) → IsLink may_be l → IfSome (told_by_entry l q) (IsLink may_be)
IsLink-told_by_entry may_be l None h = tt
IsLink-told_by_entry may_be l (Some q) h = record { other = h.other; factor = h.factor; sum = h.sum; width = h.width }

IsLink-without_base : (may_be : ℕ → Bool) (b : Bounds) (l : Link) → IsLink may_be l → IfSome (without_base b l) (IsLink may_be)
unfolding without_base
IsLink-without_base may_be b l h = choose (is_empty b) (nat_lt 65535 (l.width + (b.last - b.first))) refl
  where
    choose :
        (c d : Bool) → nat_lt 65535 (l.width + (b.last - b.first)) ≡ d
        → IfSome (cond (c || d) None (Some (record l { base = None; sum = (l.sum + b.first) % 65536; width = l.width + (b.last - b.first) }))) (IsLink may_be)
    choose true d e = tt
    choose false true e = tt
    choose false false e = record { other = h.other; factor = h.factor; sum = omega arith; width = grind (arith, nat_tests) }

IsLink-told_by_bounds : (may_be : ℕ → Bool) (l : Link) (b : Bounds) → IsLink may_be l → IfSome (told_by_bounds l b) (IsLink may_be)
IsLink-told_by_bounds may_be l b h = by (is_nothing l.other)
  where
    by : (c : Bool) → IfSome (cond c None (without_base b l)) (IsLink may_be)
    by true = tt
    by false = IsLink-without_base may_be b l h

IsLink-either : (may_be : ℕ → Bool) (l m : Option Link) → IfSome l (IsLink may_be) → IfSome m (IsLink may_be) → IfSome (either l m) (IsLink may_be)
IsLink-either may_be (Some l) m h i = h
IsLink-either may_be None m h i = i

IsLink-told : (may_be : ℕ → Bool) (k : Kept) (v : Values) (l : Link) (base : Option WordPair) → ArePairs may_be v.pairs → IsLink may_be l → IfSome (told_link k v l base) (IsLink may_be)
IsLink-told may_be k v l None are h = h
IsLink-told may_be k v l (Some b) are h =
    IsLink-either may_be _ _ (IsLink-told_by_link may_be k b l (facts_of b v.pairs).link h (are.each b).link)
    (IsLink-either may_be _ _ (IsLink-told_by_entry may_be l (pair_entered b v) h) (IsLink-told_by_bounds may_be l (bounds_of b v) h))

IsLink-returned : (may_be : ℕ → Bool) (p : WordPair) (k : Kept) (v : Values) (m : Option Link) → ArePairs may_be v.pairs → IfSome m (IsLink may_be) → IfSome (link_returned p k v m) (IsLink may_be)
IsLink-returned may_be p k v (Some m) are i = IsLink-told may_be k v m m.base are i
IsLink-returned may_be p k v None are i = IsLink-kept may_be p k (facts_of p v.pairs).link (are.each p).link

-- ---- bounds

cut_to_sums-below : (l : Option Link) (b : Bounds) → b.last < 65536 → (cut_to_sums l b).last < 65536
cut_to_sums-below None b h = h
cut_to_sums-below (Some l) b h = by (is_nothing l.other && nat_le l.sum (last_sum l))
  where
    by : (c : Bool) → (cond c (cut b (record { first = l.sum; last = last_sum l })) b).last < 65536
    by true = grind (arith, nat_tests)
    by false = h

cut_by_base-below : (v : Values) (l : Link) (base : Option WordPair) (b : Bounds) → b.last < 65536 → (cut_by_base v l base b).last < 65536
cut_by_base-below v l None b h = h
cut_by_base-below v l (Some p) b h = cut_to_sums-below (without_base (bounds_of p v) l) b h

cut_by_exit-below : (v : Values) (l : Option Link) (b : Bounds) → b.last < 65536 → (cut_by_exit v l b).last < 65536
cut_by_exit-below v None b h = h
cut_by_exit-below v (Some l) b h = cut_by_base-below v l l.base b h

-- ---- all of it

IsPairFacts-returned : (may_be : ℕ → Bool) (p : WordPair) (k : Kept) (v : Values) (g : PairFacts) → ArePairs may_be v.pairs → IsPairFacts may_be g → IsPairFacts may_be (facts_returned p k v g)
unfolding facts_returned
IsPairFacts-returned may_be p k v g are i =
    record { last = cut_by_exit-below v g.link _ (by (is_pair_kept p k)); link = IsLink-returned may_be p k v g.link are i.link }
  where
    by : (b : Bool) → (cond b (facts_of p v.pairs).bounds g.bounds).last < 65536
    by true = (are.each p).last
    by false = i.last

pub ArePairs-returned :
    (may_be : ℕ → Bool) (k : Kept) (registers : Registers Val) (s t : Relations) → ArePairs may_be s.pairs → ArePairs may_be t.pairs → ArePairs may_be (returned k registers s t).pairs
unfolding returned
ArePairs-returned may_be k registers s t h i = record { each = λ p. each p }
  where
    v : Values
    v = values_of registers s.pairs

    each : (p : WordPair) → IsPairFacts may_be (facts_of p (returned k registers s t).pairs)
    each pair.Bc = IsPairFacts-returned may_be pair.Bc k v t.pairs.bc h (i.each pair.Bc)
    each pair.De = IsPairFacts-returned may_be pair.De k v t.pairs.de h (i.each pair.De)
    each pair.Hl = IsPairFacts-returned may_be pair.Hl k v t.pairs.hl h (i.each pair.Hl)
