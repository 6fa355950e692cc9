-- M-cycles in which nothing happens, passed at once, are as many one by one.
use Rattle.std.proofs.Common.{◌≡◌, ℕ, zero, suc, ◌+◌, ◌-◌, Bool, true, false, if◌then◌else◌, refl, sym, ap, ◌∙◌, arith}
use Rattle.gb_ops.specs.Memory.{View, passed}
use Rattle.gb_ppu.specs.Below.gb_timer.Timer as Timer
use Rattle.gb_ppu.proofs.Below.gb_timer_laws.Passing.{advanced_append, advanced_zero}
use Rattle.gb_ppu.specs.Picture as Picture
use Rattle.gb_ppu.proofs.Passing.{advanced-append}
use Rattle.gb_bus.specs.Contents.{Contents}
use Rattle.gb_bus.specs.Access.{shared, advanced}
use Rattle.gb_devices.specs.Devices.{IsStill, after}
use Rattle.gb_bus.specs.Waiting.{Waits}
use Rattle.gb_devices.proofs.Stillness.{still_first, still_behind}
use Rattle.gb_bus.proofs.Stillness.{devices_of, passed_quietly}

-- ---- the view

none_left : (b : Bool) (count : ℕ) → b ≡ false → (if b then 161 else count - 0) ≡ count
none_left true count h = absurd (let bad : true ≡ false = h in cc)
none_left false count h = omega arith

passed_none : (v : View) → v.starting ≡ false → passed v 0 ≡ v
unfolding passed
passed_none v h = λ i. record v { storage = record v.storage { count = none_left v.starting v.storage.count h i }; starting = sym h i }

one_less : (b : Bool) (count n : ℕ) → b ≡ false → (if b then 161 else count - n) - 1 ≡ (if b then 161 else count - suc n)
one_less true count n h = absurd (let bad : true ≡ false = h in cc)
one_less false count n h = omega arith

passed_more : (v : View) (n : ℕ) → v.starting ≡ false → passed (passed v n) 1 ≡ passed v (suc n)
unfolding passed
passed_more v n h = ap (λ (k : ℕ). record v { storage = record v.storage { count = k }; starting = false }) (one_less v.starting v.storage.count n h)

-- ---- all of it

-- n M-cycles in which nothing happens
unfoldable pub quietly : Contents → ℕ → Contents
quietly c n = record c { view = passed c.view n; timer = Timer.advanced c.timer n; picture = Picture.advanced n c.picture }

quietly_none : (c : Contents) → c.view.starting ≡ false → IsStill (devices_of c) 0 → quietly c 0 ≡ c
unfolding quietly Picture.advanced
quietly_none c settled h = rw (passed_none c.view settled, advanced_zero c.timer h.range) refl

same_shared : (c : Contents) (n : ℕ) → shared (quietly c n) ≡ shared c
unfolding quietly shared passed
same_shared c n = refl

quietly_one : (c : Contents) → IsStill (devices_of c) 1 → advanced c 1 ≡ quietly c 1
unfolding advanced quietly
quietly_one c h = passed_quietly (record c { view = passed c.view 1 }) 1 h

quietly_more : (c : Contents) (n : ℕ) → c.view.starting ≡ false → IsStill (devices_of c) n → quietly (quietly c n) 1 ≡ quietly c (suc n)
unfolding quietly
quietly_more c n settled h =
    let e : suc n ≡ n + 1 = omega arith in
    rw (passed_more c.view n settled, e, advanced_append c.timer n 1 h.range, advanced-append n 1 c.picture) refl

still_after : (c : Contents) (n : ℕ) → IsStill (devices_of c) (n + 1) → IsStill (devices_of (quietly c n)) 1
unfolding quietly after
still_after c n h = still_behind (devices_of c) n 1 h

pub waits : (c : Contents) (n : ℕ) → c.view.starting ≡ false → IsStill (devices_of c) n → Waits n c (quietly c n)
waits c zero settled h = quietly_none c settled h
waits c (suc n) settled h =
    let less : IsStill (devices_of c) n = still_first (devices_of c) n (suc n) (omega arith) h in
    let e : suc n ≡ n + 1 = omega arith in
    let last : advanced (quietly c n) 1 ≡ quietly c (suc n) = quietly_one (quietly c n) (still_after c n (rw e at h)) ∙ quietly_more c n settled less in
    (quietly c n, waits c n settled less, same_shared c n, sym last)

-- as the memory does it
pub waited : (c d : Contents) (n : ℕ) → d ≡ record c { view = passed c.view n; timer = Timer.advanced c.timer n; picture = Picture.advanced n c.picture }
    → c.view.starting ≡ false → IsStill (devices_of c) n → Waits n c d
unfolding quietly
waited c d n is settled h = rw is (waits c n settled h)
