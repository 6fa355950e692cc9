-- A link's pair and its other lie between what the link makes of both ends of the other one, where that doesn't go round.
use Rattle.std.proofs.Common.{◌≡◌, ℕ, ◌+◌, ◌-◌, ◌*◌, ◌/◌, ◌%◌, ◌<◌, ◌≤◌, Bool, true, false, ◌==◌, ◌||◌, cond, nat_lt, Option, Some, None, refl, sym, ap, subst, arith}
use Rattle.std.proofs.lemmas.Bool.{eqb-true}
use Rattle.std.proofs.lemmas.Bool.Decides.{nat_tests}
use Rattle.std.proofs.Math.Nat.{mul-le-mul_left, le-div_iff_mul-le, lt_of_mul-lt-mul_right}
use Rattle.std.proofs.lemmas.Grind.{div_ceil_times}
use Rattle.std.specs.Int.{div_ceil}
use Rattle.gb_domain.specs.declared.pairs.Bounds.{Bounds}
use Rattle.gb_domain.specs.declared.pairs.Link.{Link}
use Rattle.gb_vals.specs.Logic.{smaller}
use Rattle.gb_pairs.specs.Bounds.{cut, is_empty}
use Rattle.gb_pairs.specs.Reduced.{is_rising, size, pair_at, last_pair_at, pairs_at, pairs_width, cut_by_other, last_sum, multiples_at, divided, others_at}
use Rattle.gb_pairs.proofs.BaseLaws.{AreMet}
use Rattle.gb_pairs.specs.Sound.{Within}
use Rattle.gb_pairs.proofs.BoundsLaws.{Within-cut}

-- ---- on plain numbers: g is 65536 less the factor f

-- the pair by its other
pair_is :
    (p g f o s more : ℕ) → p < 65536 → g + f ≡ 65536 → (p + f * o) % 65536 ≡ (s + more) % 65536
    → (s + (g * o + more)) % 65536 ≡ p
pair_is p g f o s more small e h =
    let both : g * o + f * o ≡ 65536 * o = omega (arith, ap (λ n. n * o) e) in
    omega arith

-- a multiple of the other by the pair, where the factor is below 0
falling_is :
    (p g f o s more : ℕ) → p < 65536 → g * o < 65536 → g + f ≡ 65536 → (p + f * o) % 65536 ≡ (s + more) % 65536
    → (s + more + g * o) % 65536 ≡ p
falling_is p g f o s more a b e h =
    let both : g * o + f * o ≡ 65536 * o = omega (arith, ap (λ n. n * o) e) in
    omega arith

-- what is missing to the greatest sum
last_sum_of :
    (p k s more width : ℕ) → more ≤ width → (p + k) % 65536 ≡ (s + more) % 65536
    → (p + (k + (width - more))) % 65536 ≡ (s + width) % 65536
last_sum_of p k s more width few h = omega arith

-- three words that fall by as much as three numbers rise
falls :
    (k k1 k2 p u v s : ℕ) → k1 ≤ k → k ≤ k2 → k2 - k1 ≤ 65535 → p < 65536 → u < 65536 → v < 65536
    → (p + k) % 65536 ≡ s → (u + k1) % 65536 ≡ s → (v + k2) % 65536 ≡ s → v ≤ u → (v ≤ p) × (p ≤ u)
falls k k1 k2 p u v s a b c dp du dv hp hu hv order = (omega arith, omega arith)

-- a link holds of the pairs that it gives for an other
link_of_last : (s g f o width : ℕ) → g + f ≡ 65536 → (((s + g * o) % 65536 + width) % 65536 + f * o) % 65536 ≡ (s + width) % 65536
link_of_last s g f o width e =
    let both : g * o + f * o ≡ 65536 * o = omega (arith, ap (λ n. n * o) e) in
    omega arith

link_of_first : (s g f o width : ℕ) → g + f ≡ 65536 → ((s + g * o) % 65536 + (f * o + width)) % 65536 ≡ (s + width) % 65536
link_of_first s g f o width e =
    let both : g * o + f * o ≡ 65536 * o = omega (arith, ap (λ n. n * o) e) in
    omega arith

-- three words that rise by as much as three numbers
rises :
    (k k1 k2 p u v s : ℕ) → k1 ≤ k → k ≤ k2 → k2 - k1 ≤ 65535 → (s + k1) % 65536 ≡ u → (s + k) % 65536 ≡ p → (s + k2) % 65536 ≡ v
    → u ≤ v → (u ≤ p) × (p ≤ v)
rises k k1 k2 p u v s a b c hu hp hv order = (omega arith, omega arith)

divided_least : (d m o : ℕ) → 0 < m → d ≤ m * o → div_ceil d m ≤ o
divided_least d m o pos h =
    let times : div_ceil d m * m < d + m = (div_ceil_times d m pos).1 in
    let less : div_ceil d m * m < (o + 1) * m = omega arith in
    let below : div_ceil d m < o + 1 = lt_of_mul-lt-mul_right m less in
    omega arith

divided_most : (d m o : ℕ) → 0 < m → m * o ≤ d → o ≤ d / m
divided_most d m o pos h =
    let less : o * m ≤ d = omega arith in
    (le-div_iff_mul-le pos).1 less

pair_by_product : (s g f o : ℕ) → g + f ≡ 65536 → (s + (65536 - (f * o) % 65536)) % 65536 ≡ (s + g * o) % 65536
pair_by_product s g f o e =
    let both : g * o + f * o ≡ 65536 * o = omega (arith, ap (λ n. n * o) e) in
    omega arith

-- as code computes it
pub pair_by_wrapping :
    (s f o : ℕ) → f < 65536 → (s + (65536 - (f * o) % 65536)) % 65536 ≡ (s + (65536 - f) * o) % 65536
pair_by_wrapping s f o less = pair_by_product s (65536 - f) f o (omega arith)

not_above : (n : ℕ) → nat_lt 65535 n ≡ false → n ≤ 65535
not_above n e = grind (arith, nat_tests)

above_zero : (n : ℕ) → (n == 0) ≡ false → 0 < n
above_zero n e = grind (arith, nat_tests)

alone : (m n : ℕ) → m ≡ 1 → m * n ≡ n
alone m n e = omega (arith, ap (λ k. k * n) e)

narrow : (m n last : ℕ) → n ≤ last → nat_lt 65535 (m * last) ≡ false → m * n < 65536
narrow m n last h e =
    let most : m * last ≤ 65535 = not_above _ e in
    let less : m * n ≤ m * last = mul-le-mul_left m h in
    omega arith

smaller_below : (m n : ℕ) → m < 65536 → smaller m n < 65536
smaller_below m n h = grind (arith, nat_tests)

-- ---- what a link says of its pair

-- the pair lies between the pairs of both ends of the other, where these don't go round
between_pairs_rising :
    (s f g w n more width low high : ℕ)
    → g + f ≡ 65536 → f * (high - low) + width ≤ 65535 → w < 65536 → low ≤ n → n ≤ high → more ≤ width
    → (w + f * n) % 65536 ≡ (s + more) % 65536
    → (s + g * high) % 65536 ≤ ((s + g * low) % 65536 + width) % 65536
    → ((s + g * high) % 65536 ≤ w) × (w ≤ ((s + g * low) % 65536 + width) % 65536)
between_pairs_rising s f g w n more width low high whole narrow small least most few linked order =
    let span : ℕ = high - low in
    let high_is : high ≡ low + span = omega arith in
    let product : f * high ≡ f * low + f * span = omega (arith, ap (λ m. f * m) high_is) in
    let up : f * low ≤ f * n = mul-le-mul_left f least in
    let down : f * n ≤ f * high = mul-le-mul_left f most in
    falls (f * n + (width - more)) (f * low) (f * high + width) w _ _ ((s + width) % 65536) (omega arith) (omega arith) (omega arith)
    small (omega arith) (omega arith) (last_sum_of w (f * n) s more width few linked)
    (link_of_last s g f low width whole) (link_of_first s g f high width whole) order

between_pairs_falling :
    (s f g w n more width low high : ℕ)
    → g + f ≡ 65536 → g * (high - low) + width ≤ 65535 → w < 65536 → low ≤ n → n ≤ high → more ≤ width
    → (w + f * n) % 65536 ≡ (s + more) % 65536
    → (s + g * low) % 65536 ≤ ((s + g * high) % 65536 + width) % 65536
    → ((s + g * low) % 65536 ≤ w) × (w ≤ ((s + g * high) % 65536 + width) % 65536)
between_pairs_falling s f g w n more width low high whole narrow small least most few linked order =
    let span : ℕ = high - low in
    let high_is : high ≡ low + span = omega arith in
    let product : g * high ≡ g * low + g * span = omega (arith, ap (λ m. g * m) high_is) in
    let up : g * low ≤ g * n = mul-le-mul_left g least in
    let down : g * n ≤ g * high = mul-le-mul_left g most in
    rises (g * n + more) (g * low) (g * high + width) w _ _ s (omega arith) (omega arith) (omega arith) refl
    (pair_is w g f n s more small whole linked) (omega arith) order

Within-pairs_at :
    (l : Link) (o : Bounds) (w n : ℕ)
    → l.factor < 65536 → w < 65536 → Within o n → AreMet l w n
    → pairs_width l o ≤ 65535 → is_empty (pairs_at l o) ≡ false → Within (pairs_at l o) w
Within-pairs_at l o w n factor small h linked narrow order = choose (is_rising l) narrow order
  where
    whole : 65536 - l.factor + l.factor ≡ 65536
    whole = omega arith

    choose :
        (b : Bool) → cond b l.factor (65536 - l.factor) * (o.last - o.first) + l.width ≤ 65535
        → is_empty
        (cond b (record { first = pair_at l o.last; last = last_pair_at l o.first }) (record { first = pair_at l o.first; last = last_pair_at l o.last }))
        ≡ false
        → Within
        (cond b (record { first = pair_at l o.last; last = last_pair_at l o.first }) (record { first = pair_at l o.first; last = last_pair_at l o.last }))
        w
    choose true p q =
        let ends =
        between_pairs_rising l.sum l.factor (65536 - l.factor) w n linked.more l.width o.first o.last whole p small h.least h.most
        linked.most linked.sum (grind (arith, nat_tests)) in
        record { least = ends.0; most = ends.1 }
    choose false p q =
        let ends =
        between_pairs_falling l.sum l.factor (65536 - l.factor) w n linked.more l.width o.first o.last whole p small h.least h.most
        linked.most linked.sum (grind (arith, nat_tests)) in
        record { least = ends.0; most = ends.1 }

pub Within-cut_by_other :
    (l : Link) (o b : Bounds) (w n : ℕ)
    → l.factor < 65536 → w < 65536 → Within o n → Within b w → AreMet l w n
    → Within (cut_by_other l o b) w
unfolding cut_by_other
Within-cut_by_other l o b w n factor small h k linked =
    choose (nat_lt 65535 (pairs_width l o)) (is_empty (pairs_at l o)) refl refl
  where
    choose :
        (c d : Bool) → nat_lt 65535 (pairs_width l o) ≡ c → is_empty (pairs_at l o) ≡ d
        → Within (cond (c || d) b (cut b (pairs_at l o))) w
    choose true d e f = k
    choose false true e f = k
    choose false false e f =
        Within-cut b _ w k (Within-pairs_at l o w n factor small h linked (not_above (pairs_width l o) e) f)

pub cut_by_other-last : (l : Link) (o b : Bounds) → b.last < 65536 → (cut_by_other l o b).last < 65536
unfolding cut_by_other
cut_by_other-last l o b h = choose (nat_lt 65535 (pairs_width l o) || is_empty (pairs_at l o))
  where
    choose : (c : Bool) → (cond c b (cut b (pairs_at l o))).last < 65536
    choose true = h
    choose false = smaller_below b.last (pairs_at l o).last h

-- ---- what a link says of its other

-- a multiple of the other lies between those of both ends of the pair, where these don't go round
between_multiples_rising :
    (s k w more width low high : ℕ)
    → high < 65536 → k < 65536 → low ≤ w → w ≤ high → more ≤ width → width + (high - low) ≤ 65535 → (w + k) % 65536 ≡ (s + more) % 65536
    → (s + (65536 - high)) % 65536 ≤ ((s + width) % 65536 + (65536 - low)) % 65536
    → ((s + (65536 - high)) % 65536 ≤ k) × (k ≤ ((s + width) % 65536 + (65536 - low)) % 65536)
between_multiples_rising s k w more width low high p q least most few narrow linked order = (omega arith, omega arith)

between_multiples_falling :
    (s k w more width low high : ℕ)
    → high < 65536 → k < 65536 → s < 65536 → low ≤ w → w ≤ high → more ≤ width → width + (high - low) ≤ 65535
    → (s + more + k) % 65536 ≡ w
    → (low + (65536 - (s + width) % 65536)) % 65536 ≤ (high + (65536 - s)) % 65536
    → ((low + (65536 - (s + width) % 65536)) % 65536 ≤ k) × (k ≤ (high + (65536 - s)) % 65536)
between_multiples_falling s k w more width low high p q r least most few narrow linked order = (omega arith, omega arith)

Within-multiples_at :
    (l : Link) (b : Bounds) (w n : ℕ)
    → l.factor < 65536 → l.sum < 65536 → b.last < 65536 → w < 65536 → size l * n < 65536 → Within b w → AreMet l w n
    → l.width + (b.last - b.first) ≤ 65535 → is_empty (multiples_at l b) ≡ false → Within (multiples_at l b) (size l * n)
Within-multiples_at l b w n factor sum last small narrow h linked few order = choose (is_rising l) narrow order
  where
    whole : 65536 - l.factor + l.factor ≡ 65536
    whole = omega arith

    at : Bool → ℕ → ℕ → ℕ
    at c s m = cond c ((s + (65536 - m)) % 65536) ((m + (65536 - s)) % 65536)

    ends_at : Bool → Bounds
    ends_at c =
        cond c (record { first = at c l.sum b.last; last = at c (last_sum l) b.first })
        (record { first = at c (last_sum l) b.first; last = at c l.sum b.last })

    choose :
        (c : Bool) → cond c l.factor (65536 - l.factor) * n < 65536
        → is_empty (ends_at c) ≡ false → Within (ends_at c) (cond c l.factor (65536 - l.factor) * n)
    choose true p q =
        let ends =
        between_multiples_rising l.sum (l.factor * n) w linked.more l.width b.first b.last last p h.least h.most linked.most few
        linked.sum (grind (arith, nat_tests)) in
        record { least = ends.0; most = ends.1 }
    choose false p q =
        let ends =
        between_multiples_falling l.sum ((65536 - l.factor) * n) w linked.more l.width b.first b.last last p sum h.least h.most
        linked.most few (falling_is w (65536 - l.factor) l.factor n l.sum linked.more small p whole linked.sum) (grind (arith, nat_tests)) in
        record { least = ends.0; most = ends.1 }

abbrev pub WithinIf : Option Bounds → ℕ → Type 0
WithinIf None n = Unit {0}
WithinIf (Some d) n = Within d n

Within-divided : (m : ℕ) (d : Bounds) (n : ℕ) → 0 < m → Within d (m * n) → Within (divided m d) n
Within-divided m d n pos h = record { least = divided_least d.first m n pos h.least; most = divided_most d.last m n pos h.most }

pub Within-others_at :
    (l : Link) (o b : Bounds) (w n : ℕ)
    → l.factor < 65536 → l.sum < 65536 → b.last < 65536 → w < 65536 → n < 65536 → Within o n → Within b w → AreMet l w n
    → WithinIf (others_at l o b) n
unfolding others_at
Within-others_at l o b w n factor sum last small below h k linked =
    choose (nat_lt 65535 (l.width + (b.last - b.first))) (is_empty (multiples_at l b)) (size l == 1) (size l == 0)
    (nat_lt 65535 (size l * o.last)) refl refl refl refl refl
  where
    within : (m : ℕ) → m ≡ size l * n → m < 65536 → nat_lt 65535 (l.width + (b.last - b.first)) ≡ false → is_empty (multiples_at l b) ≡ false → Within (multiples_at l b) m
    within m e less few order =
        subst (λ i. Within (multiples_at l b) i) (sym e)
        (Within-multiples_at l b w n factor sum last small (subst (λ i. i < 65536) e less) k linked (not_above (l.width + (b.last - b.first)) few) order)

    choose :
        (t c d e f : Bool)
        → nat_lt 65535 (l.width + (b.last - b.first)) ≡ t → is_empty (multiples_at l b) ≡ c → (size l == 1) ≡ d → (size l == 0) ≡ e
        → nat_lt 65535 (size l * o.last) ≡ f
        → WithinIf
        (cond (t || c) None (cond d (Some (multiples_at l b)) (cond (e || f) None (Some (divided (size l) (multiples_at l b))))))
        n
    choose true c d e f o p q r s = tt
    choose false true d e f o p q r s = tt
    choose false false true e f o p q r s = within n (sym (alone (size l) n (eqb-true _ _ q))) below o p
    choose false false false true f o p q r s = tt
    choose false false false false true o p q r s = tt
    choose false false false false false m p q r s =
        Within-divided (size l) _ n (above_zero (size l) r) (within (size l * n) refl (narrow (size l) n o.last h.most s) m p)
