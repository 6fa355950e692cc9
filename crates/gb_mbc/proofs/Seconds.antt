-- Many seconds at once are as many single ones.
use Rattle.std.proofs.Common.{◌≡◌, ℕ, zero, suc, ◌+◌, ◌%◌, ◌<◌, Bool, true, false, cond, ◌==◌, ◌||◌, nat_le, refl, ap, sym, ◌∙◌, arith}
use Rattle.std.proofs.lemmas.Bool.Decides.{nat_tests}
use Rattle.gb_mbc.specs.declared.clock.Time.{Time}
use Rattle.gb_mbc.specs.Clock.{IsTime, seconds_later, ticked, second_later, minute_later, hour_later, day_later}
use Rattle.gb_mbc.specs.Counting.{value_after, carries_after}

-- ---- one count more of a field

turned60 :
    (v n : ℕ) → v < 64 → (value_after 60 64 v n == 59) ≡ true → (value_after 60 64 v (suc n) ≡ 0) × (carries_after 60 64 v (suc n) ≡ suc (carries_after 60 64 v n))
unfolding value_after carries_after
turned60 v n s h = grind (arith, nat_tests)

went60 :
    (v n : ℕ) → v < 64 → (value_after 60 64 v n == 59) ≡ false
    → (value_after 60 64 v (suc n) ≡ (value_after 60 64 v n + 1) % 64) × (carries_after 60 64 v (suc n) ≡ carries_after 60 64 v n)
unfolding value_after carries_after
went60 v n s h = grind (arith, nat_tests)

turned24 :
    (v n : ℕ) → v < 32 → (value_after 24 32 v n == 23) ≡ true → (value_after 24 32 v (suc n) ≡ 0) × (carries_after 24 32 v (suc n) ≡ suc (carries_after 24 32 v n))
unfolding value_after carries_after
turned24 v n s h = grind (arith, nat_tests)

went24 :
    (v n : ℕ) → v < 32 → (value_after 24 32 v n == 23) ≡ false
    → (value_after 24 32 v (suc n) ≡ (value_after 24 32 v n + 1) % 32) × (carries_after 24 32 v (suc n) ≡ carries_after 24 32 v n)
unfolding value_after carries_after
went24 v n s h = grind (arith, nat_tests)

-- ---- a time after so many counts of each field

-- so many days later
abbrev days_on : ℕ → Time → Time
days_on n t = record t { days = (t.days + n) % 512; has_carried = t.has_carried || nat_le 512 (t.days + n) }

-- so many hours later
abbrev hours_on : ℕ → Time → Time
hours_on n t = record (days_on (carries_after 24 32 t.hours n) t) { hours = value_after 24 32 t.hours n }

abbrev minutes_on : ℕ → Time → Time
minutes_on n t = record (hours_on (carries_after 60 64 t.minutes n) t) { minutes = value_after 60 64 t.minutes n }

abbrev pub seconds_on : ℕ → Time → Time
seconds_on n t = record (minutes_on (carries_after 60 64 t.seconds n) t) { seconds = value_after 60 64 t.seconds n }

-- one more of each
day_more : (n : ℕ) (t : Time) → t.days < 512 → day_later (days_on n t) ≡ days_on (suc n) t
unfolding day_later
day_more n t h =
    let sum : ((t.days + n) % 512 + 1) % 512 ≡ (t.days + suc n) % 512 = omega arith in
    let carry : ((t.has_carried || nat_le 512 (t.days + n)) || ((t.days + n) % 512 == 511)) ≡ (t.has_carried || nat_le 512 (t.days + suc n)) = grind (arith, nat_tests) in
    rw (sum, carry) refl

hour_by :
    (b : Bool) (n : ℕ) (t : Time) → (value_after 24 32 t.hours n == 23) ≡ b → t.hours < 32 → t.days < 512 → hour_later (hours_on n t) ≡ hours_on (suc n) t
unfolding hour_later day_later
hour_by true n t e h d =
    let turned = turned24 t.hours n h e in
    rw (e, turned.0, turned.1) (ap (λ (u : Time). record u { hours = 0 }) (day_more (carries_after 24 32 t.hours n) t d))
hour_by false n t e h d = let went = went24 t.hours n h e in rw (e, went.0, went.1) refl

-- ---- a field that stays

either-minutes : (b : Bool) (t u : Time) (x : ℕ) → cond b (record t { minutes = x }) (record u { minutes = x }) ≡ record (cond b t u) { minutes = x }
either-minutes true t u x = refl
either-minutes false t u x = refl

either-seconds : (b : Bool) (t u : Time) (x : ℕ) → cond b (record t { seconds = x }) (record u { seconds = x }) ≡ record (cond b t u) { seconds = x }
either-seconds true t u x = refl
either-seconds false t u x = refl

hour-minutes : (t : Time) (x : ℕ) → hour_later (record t { minutes = x }) ≡ record (hour_later t) { minutes = x }
unfolding hour_later day_later
hour-minutes t x = either-minutes (t.hours == 23) (day_later (record t { hours = 0 })) (record t { hours = (t.hours + 1) % 32 }) x

hour-seconds : (t : Time) (x : ℕ) → hour_later (record t { seconds = x }) ≡ record (hour_later t) { seconds = x }
unfolding hour_later day_later
hour-seconds t x = either-seconds (t.hours == 23) (day_later (record t { hours = 0 })) (record t { hours = (t.hours + 1) % 32 }) x

minute-seconds : (t : Time) (x : ℕ) → minute_later (record t { seconds = x }) ≡ record (minute_later t) { seconds = x }
unfolding minute_later
minute-seconds t x =
    rw (hour-seconds (record t { minutes = 0 }) x)
    (either-seconds (t.minutes == 59) (hour_later (record t { minutes = 0 })) (record t { minutes = (t.minutes + 1) % 64 }) x)

minute_by :
    (b : Bool) (n : ℕ) (t : Time) → (value_after 60 64 t.minutes n == 59) ≡ b → IsTime t → minute_later (minutes_on n t) ≡ minutes_on (suc n) t
unfolding minute_later
minute_by true n t e f =
    let turned = turned60 t.minutes n f.minutes e in
    rw (e, turned.0, turned.1)
    (hour-minutes (hours_on (carries_after 60 64 t.minutes n) t) 0 ∙
    (ap (λ (u : Time). record u { minutes = 0 })
    (hour_by (value_after 24 32 t.hours (carries_after 60 64 t.minutes n) == 23) (carries_after 60 64 t.minutes n) t refl f.hours f.days)))
minute_by false n t e f = let went = went60 t.minutes n f.minutes e in rw (e, went.0, went.1) refl

second_by :
    (b : Bool) (n : ℕ) (t : Time) → (value_after 60 64 t.seconds n == 59) ≡ b → IsTime t → second_later (seconds_on n t) ≡ seconds_on (suc n) t
unfolding second_later
second_by true n t e f =
    let turned = turned60 t.seconds n f.seconds e in
    rw (e, turned.0, turned.1)
    (minute-seconds (minutes_on (carries_after 60 64 t.seconds n) t) 0 ∙
    (ap (λ (u : Time). record u { seconds = 0 })
    (minute_by (value_after 60 64 t.minutes (carries_after 60 64 t.seconds n) == 59) (carries_after 60 64 t.seconds n) t refl f)))
second_by false n t e f = let went = went60 t.seconds n f.seconds e in rw (e, went.0, went.1) refl

-- ---- many seconds

none60 : (v : ℕ) → v < 64 → (value_after 60 64 v 0 ≡ v) × (carries_after 60 64 v 0 ≡ 0)
unfolding value_after carries_after
none60 v h = grind (arith, nat_tests)

none24 : (v : ℕ) → v < 32 → (value_after 24 32 v 0 ≡ v) × (carries_after 24 32 v 0 ≡ 0)
unfolding value_after carries_after
none24 v h = grind (arith, nat_tests)

no_carry : (b : Bool) (d : ℕ) → d < 512 → (b || nat_le 512 (d + 0)) ≡ b
no_carry b d h = grind (arith, nat_tests)

none_on : (t : Time) → IsTime t → seconds_on 0 t ≡ t
none_on t f =
    let seconds = none60 t.seconds f.seconds in
    let minutes = none60 t.minutes f.minutes in
    let hours = none24 t.hours f.hours in
    let days : (t.days + 0) % 512 ≡ t.days = let small = f.days in omega arith in
    rw (seconds.0, seconds.1, minutes.0, minutes.1, hours.0, hours.1, days, no_carry t.has_carried t.days f.days) refl

ticks : (t : Time) → t.is_halted ≡ false → ticked t ≡ second_later t
unfolding ticked
ticks t r = rw r refl

pub seconds_later_on : (n : ℕ) (t : Time) → IsTime t → t.is_halted ≡ false → seconds_later n t ≡ seconds_on n t
unfolding seconds_later
seconds_later_on zero t f r = sym (none_on t f)
seconds_later_on (suc n) t f r =
    ap ticked (seconds_later_on n t f r) ∙ ticks (seconds_on n t) r ∙ second_by (value_after 60 64 t.seconds n == 59) n t refl f
