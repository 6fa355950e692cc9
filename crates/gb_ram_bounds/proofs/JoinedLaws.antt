-- What is known of a byte at one of several addresses holds at each of them.
use Rattle.std.proofs.Common.{◌≡◌, ℕ, zero, suc, ◌+◌, ◌-◌, ◌<◌, ◌≤◌, Bool, true, false, ◌==◌, Option, Some, None, refl, sym, ◌∙◌, ap, subst, arith}
use Rattle.std.proofs.lemmas.Bool.{eqb-true}
use Rattle.std.proofs.lemmas.Bool.Decides.{nat_tests}
use Rattle.std.specs.Prelude.{IfSome}
use Rattle.gb_domain.specs.declared.interval.StridedInterval.{StridedInterval}
use Rattle.gb_domain.specs.Interval.{any_byte}
use Rattle.gb_domain.specs.Meaning.{In, InSome, IsOfBytes}
use Rattle.gb_domain.proofs.IntervalLaws.{In-join_first, In-join_second, IsOfBytes-join, IsOfBytes-any, join_any}
use Rattle.gb_ram_bounds.specs.declared.addresses.AddressSet.{AddressSet}
use Rattle.gb_ram_bounds.specs.Addresses.{is_in, joined_with, joined_if, joined_of, or_any, joined_over}
use Rattle.gb_ram_bounds.proofs.FactLaws.{is_in-between}

-- ---- its values

In-with : (o : Option StridedInterval) (w : StridedInterval) (x : ℕ) → In w x → In (joined_with o w) x
In-with None w x h = h
In-with (Some v) w x h = In-join_second v w x h

In-before : (o : Option StridedInterval) (w : StridedInterval) (x : ℕ) → InSome o x → In (joined_with o w) x
In-before None w x h = absurd h
In-before (Some v) w x h = In-join_first v w x h

In-more : (b : Bool) (o : Option StridedInterval) (w : StridedInterval) (x : ℕ) → InSome o x → InSome (joined_if b o w) x
In-more false o w x h = h
In-more true o w x h = In-before o w x h

before : (a n y : ℕ) → y < a + suc n → (a + n == y) ≡ false → y < a + n
before a n y below other = grind (arith, nat_tests)

In-joined_of :
    (counts : ℕ → Bool) (value : ℕ → StridedInterval) (a n y x : ℕ)
    → a ≤ y → y < a + n → counts y ≡ true → In (value y) x → InSome (joined_of counts value a n) x
In-joined_of counts value a zero y x low high c h = absurd (omega arith)
In-joined_of counts value a (suc n) y x low high c h =
    choose (a + n == y) refl (λ less. In-joined_of counts value a n y x low less c h)
  where
    last : counts (a + n) ≡ true → In (value (a + n)) x → InSome (joined_if (counts (a + n)) (joined_of counts value a n) (value (a + n))) x
    last e m = subst (λ b. InSome (joined_if b (joined_of counts value a n) (value (a + n))) x) (sym e) (In-with (joined_of counts value a n) (value (a + n)) x m)

    choose :
        (b : Bool) → (a + n == y) ≡ b → (y < a + n → InSome (joined_of counts value a n) x)
        → InSome (joined_if (counts (a + n)) (joined_of counts value a n) (value (a + n))) x
    choose true e rest =
        let same : a + n ≡ y = eqb-true (a + n) y e in
        last (subst (λ z. counts z ≡ true) (sym same) c) (subst (λ z. In (value z) x) (sym same) h)
    choose false e rest = In-more (counts (a + n)) (joined_of counts value a n) (value (a + n)) x (rest (before a n y high e))

In-or_any : (o : Option StridedInterval) (x : ℕ) → InSome o x → In (or_any o) x
In-or_any None x h = absurd h
In-or_any (Some v) x h = h

pub In-joined_over : (s : AddressSet) (value : ℕ → StridedInterval) (y x : ℕ) → is_in s y ≡ true → In (value y) x → In (joined_over s value) x
unfolding joined_over
In-joined_over s value y x among h =
    let between = is_in-between s y among in
    let first = between.least in
    let last = between.most in
    In-or_any _ x (In-joined_of (is_in s) value s.first (s.last + 1 - s.first) y x first (omega arith) among h)

-- ---- bytes

IsOfBytes-with : (o : Option StridedInterval) (w : StridedInterval) → IfSome o IsOfBytes → IsOfBytes w → IsOfBytes (joined_with o w)
IsOfBytes-with None w h g = g
IsOfBytes-with (Some v) w h g = IsOfBytes-join v w h g

IsOfBytes-if : (b : Bool) (o : Option StridedInterval) (w : StridedInterval) → IfSome o IsOfBytes → IsOfBytes w → IfSome (joined_if b o w) IsOfBytes
IsOfBytes-if false o w h g = h
IsOfBytes-if true o w h g = IsOfBytes-with o w h g

IsOfBytes-of : (counts : ℕ → Bool) (value : ℕ → StridedInterval) (a n : ℕ) → ((y : ℕ) → IsOfBytes (value y)) → IfSome (joined_of counts value a n) IsOfBytes
IsOfBytes-of counts value a zero h = tt
IsOfBytes-of counts value a (suc n) h = IsOfBytes-if (counts (a + n)) (joined_of counts value a n) (value (a + n)) (IsOfBytes-of counts value a n h) (h (a + n))

IsOfBytes-or : (o : Option StridedInterval) → IfSome o IsOfBytes → IsOfBytes (or_any o)
IsOfBytes-or None h = IsOfBytes-any
IsOfBytes-or (Some v) h = h

pub IsOfBytes-joined_over : (s : AddressSet) (value : ℕ → StridedInterval) → ((y : ℕ) → IsOfBytes (value y)) → IsOfBytes (joined_over s value)
unfolding joined_over
IsOfBytes-joined_over s value h = IsOfBytes-or _ (IsOfBytes-of (is_in s) value s.first (s.last + 1 - s.first) h)

-- ---- address by address

joined-next : (counts : ℕ → Bool) (value : ℕ → StridedInterval) (a n : ℕ) → joined_of counts value a (n + 1) ≡ joined_if (counts (a + n)) (joined_of counts value a n) (value (a + n))
joined-next counts value a n = let next : n + 1 ≡ suc n = omega arith in ap (joined_of counts value a) next

-- one that counts
pub joined_more :
    (counts : ℕ → Bool) (value : ℕ → StridedInterval) (a n : ℕ) (o : Option StridedInterval)
    → counts (a + n) ≡ true → o ≡ joined_of counts value a n → Some (joined_with o (value (a + n))) ≡ joined_of counts value a (n + 1)
joined_more counts value a n o c e =
    sym (joined-next counts value a n
    ∙ (ap (λ b. joined_if b (joined_of counts value a n) (value (a + n))) c ∙ ap (λ k. Some (joined_with k (value (a + n)))) (sym e)))

-- one that doesn't
pub joined_same :
    (counts : ℕ → Bool) (value : ℕ → StridedInterval) (a n : ℕ) (o : Option StridedInterval)
    → counts (a + n) ≡ false → o ≡ joined_of counts value a n → o ≡ joined_of counts value a (n + 1)
joined_same counts value a n o c e =
    e ∙ sym (joined-next counts value a n ∙ ap (λ b. joined_if b (joined_of counts value a n) (value (a + n))) c)

-- ---- any byte

any-if : (b : Bool) (w : StridedInterval) → w.hi < 256 → joined_if b (Some any_byte) w ≡ Some any_byte
any-if false w h = refl
any-if true w h = ap Some (join_any w h)

any-more :
    (counts : ℕ → Bool) (value : ℕ → StridedInterval) (a n k : ℕ) → ((y : ℕ) → (value y).hi < 256)
    → joined_of counts value a n ≡ Some any_byte → joined_of counts value a (n + k) ≡ Some any_byte
any-more counts value a n zero small e =
    let same : n + 0 ≡ n = omega arith in
    ap (joined_of counts value a) same ∙ e
any-more counts value a n (suc k) small e =
    let next : n + suc k ≡ suc (n + k) = omega arith in
    ap (joined_of counts value a) next
    ∙ (ap (λ o. joined_if (counts (a + (n + k))) o (value (a + (n + k)))) (any-more counts value a n k small e)
    ∙ any-if (counts (a + (n + k))) (value (a + (n + k))) (small (a + (n + k))))

-- once nothing is known, nothing will be
pub joined_soon :
    (s : AddressSet) (value : ℕ → StridedInterval) (n : ℕ) → ((y : ℕ) → (value y).hi < 256) → n ≤ s.last + 1 - s.first
    → joined_of (is_in s) value s.first n ≡ Some any_byte → joined_over s value ≡ any_byte
unfolding joined_over
joined_soon s value n small few e =
    let all : n + (s.last + 1 - s.first - n) ≡ s.last + 1 - s.first = omega arith in
    ap or_any (ap (joined_of (is_in s) value s.first) (sym all) ∙ any-more (is_in s) value s.first n (s.last + 1 - s.first - n) small e)
