-- The divider and the timer (Pan Docs: Timer and Divider Registers).
use Rattle.std.specs.Prelude.{ℕ, zero, suc, ◌+◌, ◌-◌, ◌/◌, ◌%◌, ◌<◌, Bool, ◌&&◌, ◌==◌, nat_lt, if◌then◌else◌}
use Rattle.gb_timer.specs.Bits.{is_set}

-- M-cycles modulo 16384, TIMA, TMA, and the low three bits of TAC
pub record Counters : Type 0 where
  pub counter : ℕ
  pub tima : ℕ
  pub tma : ℕ
  pub tac : ℕ

-- the registers' ranges
pub record IsInRange (t : Counters) : Type 0 where
  pub counter : t.counter < 16384
  pub tima : t.tima < 256
  pub tma : t.tma < 256
  pub tac : t.tac < 8

abbrev pub at_power_up : Counters
at_power_up = record { counter = 0; tima = 0; tma = 0; tac = 0 }

-- DIV
unfoldable pub div_of : Counters → ℕ
div_of t = t.counter / 64 % 256

-- TAC's bit 2: TIMA counts
abbrev pub is_counting : ℕ → Bool
is_counting tac = is_set tac 2

-- M-cycles from one count of TIMA to the next, by TAC's bits 1 and 0
unfoldable pub period : ℕ → ℕ
period tac =
    if tac % 4 == 0 then 256
    else if tac % 4 == 1 then 4
    else if tac % 4 == 2 then 16
    else 64

-- counts of TIMA in n M-cycles: the multiples of the period after the counter and up to it plus n
unfoldable pub counts : Counters → ℕ → ℕ
counts t n = if is_counting t.tac then (t.counter + n) / period t.tac - t.counter / period t.tac else 0

-- the counts up to TIMA's first overflow
abbrev pub first_overflow : Counters → ℕ
first_overflow t = 256 - t.tima

-- the counts from one overflow, which loads TMA, to the next
abbrev pub between_overflows : Counters → ℕ
between_overflows t = 256 - t.tma

-- TIMA after k counts
unfoldable pub tima_after : Counters → ℕ → ℕ
tima_after t k =
    if nat_lt k (first_overflow t) then t.tima + k
    else t.tma + (k - first_overflow t) % between_overflows t

-- the overflows of TIMA in k counts
unfoldable pub overflows : Counters → ℕ → ℕ
overflows t k =
    if nat_lt k (first_overflow t) then 0
    else 1 + (k - first_overflow t) / between_overflows t

-- after n M-cycles
unfoldable pub advanced : Counters → ℕ → Counters
advanced t n = record t { counter = (t.counter + n) % 16384; tima = tima_after t (counts t n) }

-- whether TIMA counts in the next M-cycle: where the counter comes to a multiple of the period
unfoldable pub is_counted_next : Counters → Bool
is_counted_next t = is_counting t.tac && ((t.counter + 1) % 16384 % period t.tac == 0)

-- TIMA after one count: behind FF comes TMA
unfoldable pub counted : ℕ → ℕ → ℕ
counted tima tma = if tima == 0xFF then tma else tima + 1

-- one M-cycle
unfoldable pub ticked : Counters → Counters
ticked t = record t { counter = (t.counter + 1) % 16384; tima = if is_counted_next t then counted t.tima t.tma else t.tima }

-- the overflows of TIMA in the next M-cycle
unfoldable pub overflows_next : Counters → ℕ
overflows_next t = if is_counted_next t && (t.tima == 0xFF) then 1 else 0

-- n M-cycles, one by one
unfoldable pub ticks : Counters → ℕ → Counters
ticks t zero = t
ticks t (suc n) = ticked (ticks t n)

-- the overflows of TIMA in n M-cycles, one by one
unfoldable pub overflows_in : Counters → ℕ → ℕ
overflows_in t zero = 0
overflows_in t (suc n) = overflows_in t n + overflows_next (ticks t n)
