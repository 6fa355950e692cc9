-- The lowest interrupt that IE and IF share.
use Rattle.std.proofs.Common.{ℕ, ◌≡◌, ◌+◌, ◌*◌, ◌/◌, ◌%◌, ◌^◌, ◌<◌, Bool, true, false, not, ◌&&◌, ◌==◌, if◌then◌else◌, refl, sym, ap, bit_and, min, arith, [], ◌∷◌, Option, Some, None, nat_lt, rules}
use Rattle.std.specs.Prelude.{find, IfSome}
use Rattle.std.proofs.lemmas.Bool.{and_parts}
use Rattle.std.proofs.lemmas.Bool.Decides.{nat_tests}
use Rattle.std.specs.Int.{bit_at}
use Rattle.std.proofs.lemmas.Nat.Bits.{and_pow, bit_at_and, bit_at_cat_low, bit_at-lt}
use Rattle.std.proofs.lemmas.Nat.{pow_pos, and_mod}
use Rattle.gb_ops.specs.declared.registers.Processor.{Processor}
use Rattle.gb_ops.specs.declared.registers.Ime.TheVariants as ime
use Rattle.gb_ops.specs.Memory.{View}
use Rattle.gb_ops.specs.Machine.{is_ime, is_possible, has_enabled_bit}
use Rattle.gb_ops.specs.declared.machine.Event.{Event}
use Rattle.gb_ops.specs.declared.machine.Event.TheVariants as event
use Rattle.gb_cpu.specs.declared.step.Cpu.{Cpu}
use Rattle.gb_cpu.specs.Choice.{is_idle}
use Rattle.gb_console.specs.Console.{IsChosen, interrupt}
use Rattle.gb_cpu.specs.Step.{state, IsDispatchable}
use Rattle.gb_cpu.specs.Below.gb_timer.Bits.{is_set}
use Rattle.gb_cpu.specs.Below.gb_timer.Interrupts.{highest_pending, next_irq}
use Rattle.gb_cpu.specs.Below.gb_bus.Contents.{Contents}
use Rattle.gb_cpu.specs.Below.gb_bus.Access.{shared}

times : (b m : ℕ) → b < 2 → 0 < m → not (b * m == 0) ≡ (b == 1)
times b m h p = grind (arith, nat_tests)

pub set_is : (n i : ℕ) → is_set n i ≡ (bit_at n i == 1)
set_is n i = rw (and_pow n i) (times (bit_at n i) (2 ^ i) (bit_at-lt n i) (pow_pos i))

bit_low : (n i : ℕ) → i < 5 → bit_at (n % 32) i ≡ bit_at n i
bit_low n i h =
    let low : bit_at (n / 32 * 2 ^ 5 + n % 32) i ≡ bit_at (n % 32) i = bit_at_cat_low (n / 32) 5 (n % 32) i h in
    let whole : n / 32 * 2 ^ 5 + n % 32 ≡ n = omega arith in
    rw whole at (sym low)

both : (a b : ℕ) → a < 2 → b < 2 → (min a b == 1) ≡ ((a == 1) && (b == 1))
both a b ha hb = grind (arith, nat_tests)

shared_bit : (a b i : ℕ) → i < 5 → is_set (bit_and a b % 32) i ≡ (is_set a i && is_set b i)
shared_bit a b i h = rw (set_is (bit_and a b % 32) i, set_is a i, set_is b i, bit_low (bit_and a b) i h, bit_at_and a b i) (both (bit_at a i) (bit_at b i) (bit_at-lt a i) (bit_at-lt b i))

-- nothing is shared where nothing is enabled
none_shared : (a b : ℕ) → a % 32 ≡ 0 → bit_and a b % 32 ≡ 0
none_shared a b h = rw (and_mod a b 5, h) refl

unless_zero : (x v : ℕ) → (x ≡ 0 → v ≡ 0) → (if x == 0 then 0 else v) ≡ v
unless_zero x v h = grind (arith, nat_tests)

shared_is : (c : Contents) → shared c ≡ bit_and c.view.storage.ie c.requests % 32
unfolding shared
shared_is c = unless_zero (c.view.storage.ie % 32) _ (none_shared c.view.storage.ie c.requests)

and_same : (b : Bool) → (b && b) ≡ b
and_same true = refl
and_same false = refl

-- tests that agree at each interrupt find the same one
same_found : (p q : ℕ → Bool) → ((i : ℕ) → i < 5 → p i ≡ q i) → find p (0 ∷ 1 ∷ 2 ∷ 3 ∷ 4 ∷ []) ≡ find q (0 ∷ 1 ∷ 2 ∷ 3 ∷ 4 ∷ [])
same_found p q h = rw (h 0 (omega arith), h 1 (omega arith), h 2 (omega arith), h 3 (omega arith), h 4 (omega arith)) refl

shared_test : (c : Contents) (i : ℕ) → i < 5 → (is_set (shared c) i && is_set (shared c) i) ≡ (is_set c.view.storage.ie i && is_set c.requests i)
shared_test c i h = rw (and_same (is_set (shared c) i), shared_is c) (shared_bit c.view.storage.ie c.requests i h)

pub shared_irq : (on : Bool) (c : Contents) → next_irq on (shared c) (shared c) ≡ next_irq on c.view.storage.ie c.requests
unfolding next_irq highest_pending
shared_irq on c =
    ap (λ (found : Option ℕ). if on then found else None)
    (same_found (λ i. is_set (shared c) i && is_set (shared c) i) (λ i. is_set c.view.storage.ie i && is_set c.requests i) (shared_test c))

all_true : (a b c d : Bool) → a ≡ true → b ≡ true → c ≡ true → d ≡ true → (a && b && c && d) ≡ true
all_true a b c d ha hb hc hd = rw (ha, hb, hc, hd) refl

enabled : (p : Processor) (v : View) (i : ℕ) (b : Bool) → i < 5 → is_ime p.ime ime.On ≡ true → (is_set v.storage.ie i && b) ≡ true → IsDispatchable (state p v) i
unfolding is_possible
enabled p v i b small on set =
    let bit : is_set v.storage.ie i ≡ true = (and_parts (is_set v.storage.ie i) b set).0 in
    let test : has_enabled_bit (state p v) i ≡ true = rw (set_is v.storage.ie i) at bit in
    let below : nat_lt i 5 ≡ true = search rules in
    record { number = small; possible = λ running. all_true _ _ _ _ running on below test }

picked : (P : ℕ → Type 0) (b : Bool) (i : ℕ) (rest : Option ℕ) → (b ≡ true → P i) → IfSome rest P → IfSome (if b then Some i else rest) P
picked P true i rest h r = h refl
picked P false i rest h r = r

found : (P : ℕ → Type 0) (p : ℕ → Bool) → ((i : ℕ) → i < 5 → p i ≡ true → P i) → IfSome (find p (0 ∷ 1 ∷ 2 ∷ 3 ∷ 4 ∷ [])) P
found P p h =
    picked P (p 0) 0 _ (h 0 (omega arith)) (picked P (p 1) 1 _ (h 1 (omega arith)) (picked P (p 2) 2 _ (h 2 (omega arith)) (picked P (p 3) 3 _ (h 3 (omega arith)) (picked P (p 4) 4 None (h 4 (omega arith)) tt))))

where_on : (P : ℕ → Type 0) (on : Bool) (found : Option ℕ) → (on ≡ true → IfSome found P) → IfSome (if on then found else None) P
where_on P true found h = h refl
where_on P false found h = tt

-- an interrupt that is chosen may be dispatched
pub dispatchable : (p : Processor) (c : Contents) → IfSome (next_irq (is_ime p.ime ime.On) (shared c) (shared c)) (IsDispatchable (state p c.view))
unfolding next_irq highest_pending
dispatchable p c =
    rw (shared_irq (is_ime p.ime ime.On) c)
    (where_on (IsDispatchable (state p c.view)) (is_ime p.ime ime.On) _ (λ (on : is_ime p.ime ime.On ≡ true).
    found (IsDispatchable (state p c.view)) (λ i. is_set c.view.storage.ie i && is_set c.requests i) (λ (i : ℕ) (small : i < 5) (set : (is_set c.view.storage.ie i && is_set c.requests i) ≡ true). enabled p c.view i _ small on set)))

-- the interrupt that was dispatched is the choice
pub dispatches : (cpu : Cpu) (c : Contents) (i : ℕ) (e : Event) → Some i ≡ interrupt cpu c → is_idle cpu ≡ false → e ≡ (if is_idle cpu then event.Wait 0 else event.Irq i) → IsChosen (interrupt cpu c) cpu c e
dispatches cpu c i e is running chosen = rw (← is) (rw running at chosen)
