-- The timer and the picture over M-cycles in which nothing happens.
use Rattle.std.proofs.Common.{◌≡◌, ℕ, ◌+◌, ◌≤◌, refl}
use Rattle.gb_ppu.specs.Below.gb_timer.Timer.{Counters, IsInRange, counts, overflows}
use Rattle.gb_ppu.proofs.Below.gb_timer_laws.Passing.{in_range_advanced, advanced_append, advanced_zero, quiet_first, quiet_behind}
use Rattle.gb_ppu.specs.declared.picture.Picture.{Picture}
use Rattle.gb_ppu.specs.Picture as Picture
use Rattle.gb_ppu.specs.Picture.{nothing}
use Rattle.gb_ppu.specs.QuietCycles.{IsSilentFor}
use Rattle.gb_ppu.specs.WellFormed.{IsWellFormed}
use Rattle.gb_ppu.proofs.Courses.{IsWellFormed-advanced}
use Rattle.gb_ppu.proofs.Passing.{advanced-append}
use Rattle.gb_ppu.proofs.Silent.{silent-first, silent-behind}
use Rattle.gb_devices.specs.Devices.{DeviceState, IsStill, after}

pub after_none : (t : Counters) (p : Picture) (quiet : ℕ) → IsStill (record { timer = t; picture = p }) quiet → after (record { timer = t; picture = p }) 0 ≡ record { timer = t; picture = p }
unfolding after Picture.advanced
after_none t p quiet h = rw (advanced_zero t h.range) refl

after_append : (d : DeviceState) (a b : ℕ) → IsInRange d.timer → after d (a + b) ≡ after (after d a) b
unfolding after
after_append d a b h = rw (advanced_append d.timer a b h, advanced-append a b d.picture) refl

pub still_first : (d : DeviceState) (a b : ℕ) → a ≤ b → IsStill d b → IsStill d a
still_first d a b less h =
    record {
      overflows = quiet_first d.timer a b h.range less h.overflows;
      quiet = silent-first a b d.picture less h.quiet;
      range = h.range;
      formed = h.formed;
    }

pub still_behind : (d : DeviceState) (a b : ℕ) → IsStill d (a + b) → IsStill (after d a) b
unfolding after
still_behind d a b h =
    record {
      overflows = quiet_behind d.timer a b h.range h.overflows;
      quiet = silent-behind a b d.picture h.formed h.quiet;
      range = in_range_advanced d.timer a h.range;
      formed = IsWellFormed-advanced a d.picture h.formed;
    }

-- some M-cycles are owed, and then n more
pub still_more : (d : DeviceState) (owed n quiet : ℕ) → owed + n ≤ quiet → IsStill d quiet → IsStill (after d owed) n
still_more d owed n quiet few h = still_behind d owed n (still_first d (owed + n) quiet few h)

pub after_more : (d : DeviceState) (owed n quiet : ℕ) → IsStill d quiet → after d (owed + n) ≡ after (after d owed) n
after_more d owed n quiet h = after_append d owed n h.range

pub ruleset owed_more = (still_more, after_more)

pub still_of : (t : Counters) (p : Picture) (a b n : ℕ) → overflows t (counts t a) ≡ 0 → IsInRange t → IsSilentFor b p → IsWellFormed p → n ≤ a → n ≤ b
    → IsStill (record { timer = t; picture = p }) n
still_of t p a b n none range quiet formed first second =
    record {
      overflows = quiet_first t n a range first none;
      quiet = silent-first n b p second quiet;
      range = range;
      formed = formed;
    }
