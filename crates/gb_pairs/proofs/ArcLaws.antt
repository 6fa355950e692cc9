-- Words on arcs: what is known of a pair without asking what its link reads.
use Rattle.std.proofs.Common.{◌≡◌, ℕ, ◌+◌, ◌-◌, ◌*◌, ◌%◌, ◌<◌, ◌≤◌, Bool, true, false, ◌&&◌, cond, nat_lt, nat_le, Option, Some, None, refl, ap, arith}
use Rattle.std.proofs.lemmas.Bool.{leb-true}
use Rattle.std.proofs.lemmas.Bool.Decides.{nat_tests}
use Rattle.std.proofs.Math.Nat.{mul-le-mul_left}
use Rattle.gb_domain.specs.declared.pairs.Bounds.{Bounds}
use Rattle.gb_domain.specs.declared.pairs.Link.{Link}
use Rattle.gb_pairs.specs.declared.covering.Arc.{Arc}
use Rattle.gb_pairs.proofs.BaseLaws.{AreMet}
use Rattle.gb_pairs.specs.Reduced.{is_rising, pair_at, last_pair_at}
use Rattle.gb_pairs.specs.Covering.{arc, arc_by, is_arc_in, arc_of_bounds, arc_of_link, arc_of_sums, arc_of_both, has_sums, follows_on}
use Rattle.gb_pairs.specs.Sound.{Within}

-- as code computes it
pub distance_by_wrapping : (a b : ℕ) → b < 65536 → (a + (65536 - b)) % 65536 ≡ (a + (65536 - b % 65536)) % 65536
distance_by_wrapping a b h = ap (λ n. (a + (65536 - n)) % 65536) (omega arith)

-- a number is one of the words on an arc, modulo 65536
pub record IsOn (a : Arc) (n : ℕ) : Type 0 where
  pub more : ℕ
  pub most : more ≤ a.width
  pub is : n % 65536 ≡ (a.first + more) % 65536

abbrev pub IsOnIf : Option Arc → ℕ → Type 0
IsOnIf None n = Unit {0}
IsOnIf (Some a) n = IsOn a n

-- of a link whose factor is a word
IsOn-arc_by :
    (l : Link) (first width n more : ℕ) → more ≤ width → (l.factor < 65536 → n % 65536 ≡ (first + more) % 65536) → IsOnIf (arc_by l first width) n
IsOn-arc_by l first width n more h e = choose (nat_lt l.factor 65536) (nat_le width 65535) refl
  where
    choose : (a b : Bool) → nat_lt l.factor 65536 ≡ a → IsOnIf (cond (a && b) (Some (arc first width)) None) n
    choose true true word = record { more = more; most = h; is = e (grind (arith, nat_tests)) }
    choose true false word = tt
    choose false b word = tt

whole : (f : ℕ) → f < 65536 → 65536 - f + f ≡ 65536
whole f h = omega arith

further : (n a b m w d : ℕ) → n % 65536 ≡ (a + m) % 65536 → d ≡ (a + (65536 - b % 65536)) % 65536 → n % 65536 ≡ (b + (d + m)) % 65536
further n a b m w d h e = omega arith

pub IsOn-in : (a b : Arc) (n : ℕ) → is_arc_in a b ≡ true → IsOn a n → IsOn b n
IsOn-in a b n h k =
    let d : ℕ = (a.first + (65536 - b.first % 65536)) % 65536 in
    let within : d + a.width ≤ b.width = leb-true _ _ h in
    let most = k.most in
    record { more = d + k.more; most = omega arith; is = further n a.first b.first k.more a.width d k.is refl }

pub IsOn-bounds : (b : Bounds) (w : ℕ) → Within b w → IsOn (arc_of_bounds b) w
IsOn-bounds b w h =
    let least = h.least in
    let most = h.most in
    let is : w ≡ b.first + (w - b.first) = omega arith in
    record { more = w - b.first; most = omega arith; is = ap (λ n. n % 65536) is }

pub AreMet-on : (l : Link) (w n : ℕ) → IsOn (arc_of_sums l) (w + l.factor * n) → AreMet l w n
AreMet-on l w n h = record { more = h.more; most = h.most; sum = h.is }

pub IsOn-sums : (l : Link) (w n : ℕ) → AreMet l w n → IsOn (arc_of_sums l) (w + l.factor * n)
IsOn-sums l w n h = record { more = h.more; most = h.most; is = h.sum }

-- ---- a pair by its link

-- how far the pair lies behind its first word
pair_rising :
    (s f g w n more high : ℕ) → g + f ≡ 65536 → n ≤ high → (w + f * n) % 65536 ≡ (s + more) % 65536
    → w % 65536 ≡ ((s + g * high) % 65536 + (f * (high - n) + more)) % 65536
pair_rising s f g w n more high whole most h =
    let span : ℕ = high - n in
    let high_is : high ≡ n + span = omega arith in
    let by_f : f * high ≡ f * n + f * span = omega (arith, ap (λ m. f * m) high_is) in
    let both : g * high + f * high ≡ 65536 * high = omega (arith, ap (λ m. m * high) whole) in
    omega arith

pair_falling :
    (s f g w n more low : ℕ) → g + f ≡ 65536 → low ≤ n → (w + f * n) % 65536 ≡ (s + more) % 65536
    → w % 65536 ≡ ((s + g * low) % 65536 + (g * (n - low) + more)) % 65536
pair_falling s f g w n more low whole least h =
    let span : ℕ = n - low in
    let n_is : n ≡ low + span = omega arith in
    let by_g : g * n ≡ g * low + g * span = omega (arith, ap (λ m. g * m) n_is) in
    let both : g * n + f * n ≡ 65536 * n = omega (arith, ap (λ m. m * n) whole) in
    omega arith

span_most : (m a b width more : ℕ) → a ≤ b → more ≤ width → m * a + more ≤ m * b + width
span_most m a b width more h k =
    let times : m * a ≤ m * b = mul-le-mul_left m h in
    omega arith

pub IsOn-link :
    (l : Link) (o : Bounds) (w n : ℕ) → Within o n → AreMet l w n → IsOnIf (arc_of_link l o) w
IsOn-link l o w n h linked = choose (is_rising l)
  where
    up : o.last - n ≤ o.last - o.first
    up = let least = h.least in omega arith

    down : n - o.first ≤ o.last - o.first
    down = let most = h.most in omega arith

    at : Bool → Bounds
    at c =
        cond c (record { first = pair_at l o.last; last = last_pair_at l o.first }) (record { first = pair_at l o.first; last = last_pair_at l o.last })

    choose : (c : Bool) → IsOnIf (arc_by l (at c).first (cond c l.factor (65536 - l.factor) * (o.last - o.first) + l.width)) w
    choose true =
        IsOn-arc_by l _ _ w (l.factor * (o.last - n) + linked.more) (span_most l.factor _ _ l.width linked.more up linked.most)
        (λ word. pair_rising l.sum l.factor (65536 - l.factor) w n linked.more o.last (whole l.factor word) h.most linked.sum)
    choose false =
        IsOn-arc_by l _ _ w ((65536 - l.factor) * (n - o.first) + linked.more)
        (span_most (65536 - l.factor) _ _ l.width linked.more down linked.most)
        (λ word. pair_falling l.sum l.factor (65536 - l.factor) w n linked.more o.first (whole l.factor word) h.least linked.sum)

-- ---- the sums of a pair and its other

sum_rising :
    (a f w n more low : ℕ) → low ≤ n → w % 65536 ≡ (a + more) % 65536
    → (w + f * n) % 65536 ≡ ((a + f * low) % 65536 + (f * (n - low) + more)) % 65536
sum_rising a f w n more low least h =
    let span : ℕ = n - low in
    let n_is : n ≡ low + span = omega arith in
    let by_f : f * n ≡ f * low + f * span = omega (arith, ap (λ m. f * m) n_is) in
    omega arith

sum_falling :
    (a f g w n more high : ℕ) → g + f ≡ 65536 → n ≤ high → w % 65536 ≡ (a + more) % 65536
    → (w + f * n) % 65536 ≡ ((a + f * high) % 65536 + (g * (high - n) + more)) % 65536
sum_falling a f g w n more high whole most h =
    let span : ℕ = high - n in
    let high_is : high ≡ n + span = omega arith in
    let by_f : f * high ≡ f * n + f * span = omega (arith, ap (λ m. f * m) high_is) in
    let both : g * span + f * span ≡ 65536 * span = omega (arith, ap (λ m. m * span) whole) in
    omega arith

swapped : (m a b : ℕ) → m + a ≤ b → a + m ≤ b
swapped m a b h = omega arith

IsOn-both : (l : Link) (o : Bounds) (a : Arc) (w n : ℕ) → Within o n → IsOn a w → IsOnIf (arc_of_both l o a) (w + l.factor * n)
IsOn-both l o a w n h on = choose (is_rising l)
  where
    up : n - o.first ≤ o.last - o.first
    up = let most = h.most in omega arith

    down : o.last - n ≤ o.last - o.first
    down = let least = h.least in omega arith

    sums : (c : Bool) → Option Arc
    sums c = arc_by l ((a.first + l.factor * cond c o.first o.last) % 65536) (a.width + cond c l.factor (65536 - l.factor) * (o.last - o.first))

    choose : (c : Bool) → IsOnIf (sums c) (w + l.factor * n)
    choose true =
        let most : l.factor * (n - o.first) + on.more ≤ l.factor * (o.last - o.first) + a.width = span_most l.factor _ _ a.width on.more up on.most in
        IsOn-arc_by l _ _ _ (l.factor * (n - o.first) + on.more) (omega arith)
        (λ word. sum_rising a.first l.factor w n on.more o.first h.least on.is)
    choose false =
        let most : (65536 - l.factor) * (o.last - n) + on.more ≤ (65536 - l.factor) * (o.last - o.first) + a.width =
        span_most (65536 - l.factor) _ _ a.width on.more down on.most in
        IsOn-arc_by l _ _ _ ((65536 - l.factor) * (o.last - n) + on.more) (omega arith)
        (λ word. sum_falling a.first l.factor (65536 - l.factor) w n on.more o.last (whole l.factor word) h.most on.is)

IsOn-has_sums : (l : Link) (a : Option Arc) (n : ℕ) → has_sums l a ≡ true → IsOnIf a n → IsOn (arc_of_sums l) n
IsOn-has_sums l None n h k = cc
IsOn-has_sums l (Some a) n h k = IsOn-in a (arc_of_sums l) n h k

-- a link that follows from where its pair is
pub AreMet-follows :
    (l : Link) (o : Bounds) (a : Option Arc) (w n : ℕ)
    → Within o n → IsOnIf a w → follows_on o l a ≡ true → AreMet l w n
AreMet-follows l o None w n h on k = cc
AreMet-follows l o (Some a) w n h on k = AreMet-on l w n (IsOn-has_sums l _ _ k (IsOn-both l o a w n h on))
