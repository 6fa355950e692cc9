-- What a bus answers of the interrupts that are pending.
use Rattle.std.proofs.Common.{◌≡◌, ◌≢◌, ℕ, ◌+◌, ◌-◌, ◌*◌, ◌/◌, ◌%◌, ◌^◌, ◌<◌, ◌≤◌, Bool, true, ◌&&◌, bit_and, min, nat_lt, zero-add, refl, sym, ap, ◌∙◌, arith}
use Rattle.std.specs.Int.{bit_at}
use Rattle.std.proofs.lemmas.Bool.{lt-ltb}
use Rattle.std.proofs.lemmas.Nat.{and_le_r, pow-add, pow_pos, shr_below}
use Rattle.std.proofs.lemmas.Nat.Bits.{bit_at_and, bit_at_cat_low, bit_at-lt}
use Rattle.gb_ops.specs.declared.registers.Processor.{Processor}
use Rattle.gb_ops.specs.declared.registers.Ime.TheVariants as ime
use Rattle.gb_ops.specs.Memory.{View}
use Rattle.gb_ops.specs.Machine.{is_ime, is_possible, has_enabled_bit}
use Rattle.gb_cpu.specs.Step.{state, IsDispatchable}

-- one that is pending is enabled
pub enabled_is : (ie pending : ℕ) → bit_and pending (ie % 32) ≡ pending → pending ≢ 0 → ie % 32 ≢ 0
enabled_is ie pending h some none =
    let most : bit_and pending (ie % 32) ≤ ie % 32 = and_le_r pending (ie % 32) in
    absurd (omega (arith, some))

bit_low : (n i : ℕ) → i < 5 → bit_at (n % 32) i ≡ bit_at n i
bit_low n i h =
    let low : bit_at (n / 32 * 2 ^ 5 + n % 32) i ≡ bit_at (n % 32) i = bit_at_cat_low (n / 32) 5 (n % 32) i h in
    let whole : n / 32 * 2 ^ 5 + n % 32 ≡ n = omega arith in
    rw whole at (sym low)

-- a number below 32 has no bit behind the fifth
none_above : (n i : ℕ) → n < 32 → 5 ≤ i → bit_at n i ≡ 0
none_above n i small high =
    let great : 2 ^ 5 * 2 ^ (i - 5) ≡ 2 ^ i = sym (pow-add 2 5 (i - 5)) ∙ ap (λ k. 2 ^ k) (omega arith) in
    let positive : 0 < 2 ^ (i - 5) = pow_pos (i - 5) in
    let below : n < 2 ^ (0 + i) = grind (arith, zero-add) in
    let nothing : n / 2 ^ i < 2 ^ 0 = shr_below n 0 i below in
    omega arith

first_five : (i b : ℕ) → b ≡ 1 → (5 ≤ i → b ≡ 0) → i < 5
first_five i b set none = grind arith

-- a bit of what is pending is one of IE's first five
pub pending_bit : (ie pending i : ℕ) → bit_and pending (ie % 32) ≡ pending → bit_at pending i ≡ 1 → (i < 5) × (bit_at ie i ≡ 1)
pending_bit ie pending i some set =
    let both : min (bit_at pending i) (bit_at (ie % 32) i) ≡ 1 = sym (bit_at_and pending (ie % 32) i) ∙ ap (λ n. bit_at n i) some ∙ set in
    let low : bit_at (ie % 32) i ≡ 1 = let small : bit_at (ie % 32) i < 2 = bit_at-lt (ie % 32) i in omega (arith, both) in
    let first : i < 5 = first_five i _ low (none_above (ie % 32) i (omega arith)) in
    (first, sym (bit_low ie i first) ∙ low)

all_true : (a b c d : Bool) → a ≡ true → b ≡ true → c ≡ true → d ≡ true → (a && b && c && d) ≡ true
all_true a b c d ha hb hc hd = rw (ha, hb, hc, hd) refl

-- an interrupt that is pending may be dispatched where IME is on
pub pending_irq :
    (p : Processor) (m : View) (pending i : ℕ) → bit_and pending (m.storage.ie % 32) ≡ pending → bit_at pending i ≡ 1 → is_ime p.ime ime.On ≡ true
    → IsDispatchable (state p m) i
unfolding is_possible
pending_irq p m pending i some set on =
    let bit = pending_bit m.storage.ie pending i some set in
    let test : has_enabled_bit (state p m) i ≡ true = rw (bit.1) refl in
    let below : nat_lt i 5 ≡ true = lt-ltb i 5 (bit.0) in
    record { number = bit.0; possible = λ running. all_true _ _ _ _ running on below test }
