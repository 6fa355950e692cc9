-- The clock of MBC3 (Pan Docs: MBC3, The Clock Counter Registers). Own: a field counts up within its
-- mask, and carries only from 59, 59, 23 and day 511; the latch copies all five registers.
use Rattle.std.specs.Prelude.{ℕ, zero, suc, ◌+◌, ◌*◌, ◌/◌, ◌%◌, ◌<◌, Bool, false, ◌==◌, ◌&&◌, ◌||◌, if◌then◌else◌}
use Rattle.gb_ops.specs.Flags.{bit_of}
use Rattle.gb_mbc.specs.declared.clock.Time.{Time}
use Rattle.gb_mbc.specs.declared.clock.ClockRegister.{ClockRegister}
use Rattle.gb_mbc.specs.declared.clock.ClockRegister.TheVariants as register

-- the clock of a cartridge: what runs, what was latched, and whether the last write to 6000-7FFF was 00
pub record ClockState : Type 0 where
  pub running : Time
  pub latched : Time
  pub is_armed : Bool

abbrev pub midnight : Time
midnight = record { seconds = 0; minutes = 0; hours = 0; days = 0; is_halted = false; has_carried = false }

abbrev pub clock_at_power_up : ClockState
clock_at_power_up = record { running = midnight; latched = midnight; is_armed = false }

-- ---- time

-- a day later: day 511 sets the carry
unfoldable pub day_later : Time → Time
day_later t = record t { days = (t.days + 1) % 512; has_carried = t.has_carried || (t.days == 511) }

unfoldable pub hour_later : Time → Time
hour_later t = if t.hours == 23 then day_later (record t { hours = 0 }) else record t { hours = (t.hours + 1) % 32 }

unfoldable pub minute_later : Time → Time
minute_later t = if t.minutes == 59 then hour_later (record t { minutes = 0 }) else record t { minutes = (t.minutes + 1) % 64 }

unfoldable pub second_later : Time → Time
second_later t = if t.seconds == 59 then minute_later (record t { seconds = 0 }) else record t { seconds = (t.seconds + 1) % 64 }

-- a second of a clock that may be halted
unfoldable pub ticked : Time → Time
ticked t = if t.is_halted then t else second_later t

-- so many seconds later
unfoldable pub seconds_later : ℕ → Time → Time
seconds_later zero t = t
seconds_later (suc n) t = ticked (seconds_later n t)

-- ---- the registers

-- what a register reads
unfoldable pub field : ClockRegister → Time → ℕ
field register.Seconds t = t.seconds
field register.Minutes t = t.minutes
field register.Hours t = t.hours
field register.DayLow t = t.days % 256
field register.DayHigh t = t.days / 256 + bit_of t.is_halted 64 + bit_of t.has_carried 128

-- a write to a register: of each the bits that it has
unfoldable pub with_field : ClockRegister → ℕ → Time → Time
with_field register.Seconds v t = record t { seconds = v % 64 }
with_field register.Minutes v t = record t { minutes = v % 64 }
with_field register.Hours v t = record t { hours = v % 32 }
with_field register.DayLow v t = record t { days = t.days / 256 * 256 + v }
with_field register.DayHigh v t =
    record t { days = v % 2 * 256 + t.days % 256; is_halted = v / 64 % 2 == 1; has_carried = v / 128 % 2 == 1 }

-- ---- the clock

unfoldable pub advanced : ClockState → ℕ → ClockState
advanced c n = record c { running = seconds_later n c.running }

unfoldable pub latched : ClockState → ClockState
latched c = record c { latched = c.running }

unfoldable pub put : ClockState → ClockRegister → ℕ → ClockState
put c r v = record c { running = with_field r v c.running }

-- a write to 6000-7FFF: 01 behind 00 latches
unfoldable pub commanded : ClockState → ℕ → ClockState
commanded c v = record (if c.is_armed && (v == 1) then latched c else c) { is_armed = v == 0 }

-- the fields lie within their masks
pub record IsTime (t : Time) : Type 0 where
  pub seconds : t.seconds < 64
  pub minutes : t.minutes < 64
  pub hours : t.hours < 32
  pub days : t.days < 512
