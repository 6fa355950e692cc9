-- Some M-cycles, and then more; and M-cycles without an overflow.
use Rattle.std.proofs.Common.{◌≡◌, ℕ, zero, suc, ◌+◌, ◌-◌, ◌*◌, ◌/◌, ◌%◌, ◌<◌, ◌≤◌, Bool, true, false, ◌&&◌, ◌==◌, if◌then◌else◌, refl, sym, ◌∙◌, ap, arith}
use Rattle.std.proofs.lemmas.Bool.Decides.{nat_tests}
use Rattle.std.proofs.lemmas.Nat.{mul-le}
use Rattle.gb_timer.specs.Timer.{Counters, IsInRange, is_counting, period, counts, overflows, advanced, is_counted_next, overflows_next, counted, ticked, ticks, overflows_in}
use Rattle.gb_timer.proofs.Ticking.{advanced_is, overflows_is}

-- ---- some M-cycles, and then more

ticks_append : (t : Counters) (a b : ℕ) → ticks t (a + b) ≡ ticks (ticks t a) b
unfolding ticks
ticks_append t a zero = let e : a + zero ≡ a = omega arith in rw e refl
ticks_append t a (suc b) = let e : a + suc b ≡ suc (a + b) = omega arith in rw e (ap ticked (ticks_append t a b))

overflows_in_append : (t : Counters) (a b : ℕ) → overflows_in t (a + b) ≡ overflows_in t a + overflows_in (ticks t a) b
unfolding overflows_in
overflows_in_append t a zero = let e : a + zero ≡ a = omega arith in rw e (omega arith)
overflows_in_append t a (suc b) =
    let e : a + suc b ≡ suc (a + b) = omega arith in
    let rest = overflows_in_append t a b in
    let last : overflows_next (ticks t (a + b)) ≡ overflows_next (ticks (ticks t a) b) = ap overflows_next (ticks_append t a b) in
    rw e (omega (arith, rest, last))

counted_small : (b : Bool) (tima tma : ℕ) → tima < 256 → tma < 256 → (if b then counted tima tma else tima) < 256
unfolding counted
counted_small true tima tma h m = grind (arith, nat_tests)
counted_small false tima tma h m = h

in_range_ticked : (t : Counters) → IsInRange t → IsInRange (ticked t)
unfolding ticked
in_range_ticked t h =
    record {
      counter = omega arith;
      tima = counted_small (is_counted_next t) t.tima t.tma h.tima h.tma;
      tma = h.tma;
      tac = h.tac;
    }

in_range_ticks : (t : Counters) (n : ℕ) → IsInRange t → IsInRange (ticks t n)
unfolding ticks
in_range_ticks t zero h = h
in_range_ticks t (suc n) h = in_range_ticked (ticks t n) (in_range_ticks t n h)

pub in_range_advanced : (t : Counters) (n : ℕ) → IsInRange t → IsInRange (advanced t n)
in_range_advanced t n h = rw (advanced_is t n h) (in_range_ticks t n h)

pub advanced_append : (t : Counters) (a b : ℕ) → IsInRange t → advanced t (a + b) ≡ advanced (advanced t a) b
advanced_append t a b h =
    advanced_is t (a + b) h ∙ ticks_append t a b ∙ ap (λ s. ticks s b) (sym (advanced_is t a h))
    ∙ sym (advanced_is (advanced t a) b (in_range_advanced t a h))

pub advanced_zero : (t : Counters) → IsInRange t → advanced t 0 ≡ t
unfolding ticks
advanced_zero t h = advanced_is t 0 h

-- ---- no overflow

overflows_append : (t : Counters) (a b : ℕ) → IsInRange t
    → overflows t (counts t (a + b)) ≡ overflows t (counts t a) + overflows (advanced t a) (counts (advanced t a) b)
overflows_append t a b h =
    rw (
      overflows_is t (a + b) h,
      overflows_is t a h,
      overflows_is (advanced t a) b (in_range_advanced t a h),
      advanced_is t a h,
    )
    (overflows_in_append t a b)

-- where none overflows in some M-cycles, none does in their first ones
pub quiet_first : (t : Counters) (a b : ℕ) → IsInRange t → a ≤ b → overflows t (counts t b) ≡ 0 → overflows t (counts t a) ≡ 0
quiet_first t a b h less none =
    let e : a + (b - a) ≡ b = omega arith in
    let all : overflows t (counts t (a + (b - a))) ≡ 0 = rw e none in
    let parts = overflows_append t a (b - a) h in
    omega (arith, parts, all)

-- nor in those behind them
pub quiet_behind : (t : Counters) (a b : ℕ) → IsInRange t → overflows t (counts t (a + b)) ≡ 0
    → overflows (advanced t a) (counts (advanced t a) b) ≡ 0
quiet_behind t a b h none =
    let parts = overflows_append t a b h in
    omega (arith, parts, none)

-- ---- until TIMA overflows

few_256 : (c tima : ℕ) → tima < 256 → (c + (256 * (255 - tima) + (256 - 1 - c % 256))) / 256 - c / 256 < 256 - tima
few_256 c tima h = omega arith

few_4 : (c tima : ℕ) → tima < 256 → (c + (4 * (255 - tima) + (4 - 1 - c % 4))) / 4 - c / 4 < 256 - tima
few_4 c tima h = omega arith

few_16 : (c tima : ℕ) → tima < 256 → (c + (16 * (255 - tima) + (16 - 1 - c % 16))) / 16 - c / 16 < 256 - tima
few_16 c tima h = omega arith

few_64 : (c tima : ℕ) → tima < 256 → (c + (64 * (255 - tima) + (64 - 1 - c % 64))) / 64 - c / 64 < 256 - tima
few_64 c tima h = omega arith

-- so many counts are fewer than lead to the first overflow
abbrev IsFew : ℕ → ℕ → ℕ → Type 0
IsFew p c tima = (c + (p * (255 - tima) + (p - 1 - c % p))) / p - c / p < 256 - tima

few_by : (is_0 is_1 is_2 : Bool) (c tima : ℕ) → tima < 256 → IsFew (if is_0 then 256 else if is_1 then 4 else if is_2 then 16 else 64) c tima
few_by true _ _ c tima h = few_256 c tima h
few_by false true _ c tima h = few_4 c tima h
few_by false false true c tima h = few_16 c tima h
few_by false false false c tima h = few_64 c tima h

few : (tac c tima : ℕ) → tima < 256 → IsFew (period tac) c tima
unfolding period
few tac c tima h = few_by (tac % 4 == 0) (tac % 4 == 1) (tac % 4 == 2) c tima h

none_of_few : (t : Counters) (k : ℕ) → k < 256 - t.tima → overflows t k ≡ 0
unfolding overflows
none_of_few t k h = grind (arith, nat_tests)

counted_few : (b : Bool) (k tima : ℕ) → tima < 256 → k < 256 - tima → (if b then k else 0) < 256 - tima
counted_few true k tima h few = few
counted_few false k tima h few = omega arith

-- while TIMA counts
pub none_counting : (t : Counters) → t.tima < 256
    → overflows t (counts t (period t.tac * (255 - t.tima) + (period t.tac - 1 - t.counter % period t.tac))) ≡ 0
unfolding counts
none_counting t h = none_of_few t _ (counted_few (is_counting t.tac) _ t.tima h (few t.tac t.counter t.tima h))

-- and while it doesn't
pub none_still : (t : Counters) (n : ℕ) → t.tima < 256 → is_counting t.tac ≡ false → overflows t (counts t n) ≡ 0
unfolding counts
none_still t n h still = rw still (none_of_few t 0 (omega arith))

-- it fits its type
pub product_small : (p tima : ℕ) → p ≤ 256 → p * (255 - tima) ≤ 65280
product_small p tima h = let most : p * (255 - tima) ≤ 256 * 255 = mul-le p (255 - tima) 256 255 h (omega arith) in omega (arith, most)

pub ruleset quiet = (product_small, none_counting, none_still)
