-- Watched frames one after another.
use Rattle.std.proofs.Common.{◌≡◌, ◌<◌, ℕ, ◌+◌, true, false, add-one, refl, sym, subst, List}
use Rattle.gb_ops.specs.declared.machine.Region.{Region}
use Rattle.gb_printed.specs.Below.gb_console.Below.gb_timer.declared.irqs.Keys.{Keys}
use Rattle.gb_printed.specs.Below.gb_console.Console.{ConsoleState, rom_of}
use Rattle.gb_printed.specs.Below.gb_console.declared.frame.Ending.TheVariants as ending
use Rattle.gb_printed.specs.Below.gb_watch.Watch.{Watches, IsWatchedFrame, IsWatchedRun}
use Rattle.gb_printed.specs.Below.gb_watch.declared.sighting.Watched.{Watched}
use Rattle.gb_printed.specs.Below.gb_watch.declared.sighting.Watched.TheVariants as watched
use Rattle.gb_printed.specs.Below.gb_watch.Verified.{IsVerifiedFor}
use Rattle.gb_printed.proofs.Below.gb_watch_laws.Playing.{faultless_runs}
use Rattle.gb_printed.proofs.Below.gb_console_laws.Running.{steps_played}
use Rattle.gb_witness.specs.Witness.{is_whole}

-- no frame
pub watches_none : (region : Region) (keys : ℕ → Keys) (seconds : ℕ → ℕ) (s : ConsoleState) → Watches region keys seconds 0 s s
watches_none region keys seconds s = refl

-- one more whole frame
pub watches_more : (region : Region) (keys : ℕ → Keys) (seconds : ℕ → ℕ) (n : ℕ) (old before new : ConsoleState) (outcome : Watched) → is_whole outcome ≡ true
    → Watches region keys seconds n old before → IsWatchedFrame region before (keys n) (seconds n) outcome new → Watches region keys seconds (n + 1) old new
watches_more region keys seconds n old before new (watched.Ended ending.Whole) whole watches frame = rw add-one (before, watches, frame)
watches_more region keys seconds n old before new (watched.Ended ending.Locked) whole watches frame = absurd (let bad : false ≡ true = whole in cc)
watches_more region keys seconds n old before new (watched.Ended ending.Stopped) whole watches frame = absurd (let bad : false ≡ true = whole in cc)
watches_more region keys seconds n old before new (watched.Faulted s) whole watches frame = absurd (let bad : false ≡ true = whole in cc)

-- a frame that isn't whole, or has a fault
pub cut_is_run : (region : Region) (keys : ℕ → Keys) (seconds : ℕ → ℕ) (frames n : ℕ) (old before new : ConsoleState) (outcome : Watched) → is_whole outcome ≡ false → n < frames
    → Watches region keys seconds n old before → IsWatchedFrame region before (keys n) (seconds n) outcome new → IsWatchedRun region keys seconds frames old n outcome new
cut_is_run region keys seconds frames n old before new (watched.Ended ending.Whole) cut within watches frame = absurd (let bad : true ≡ false = cut in cc)
cut_is_run region keys seconds frames n old before new (watched.Ended ending.Locked) cut within watches frame = record { within = within; before = before; watches = watches; last = frame }
cut_is_run region keys seconds frames n old before new (watched.Ended ending.Stopped) cut within watches frame = record { within = within; before = before; watches = watches; last = frame }
cut_is_run region keys seconds frames n old before new (watched.Faulted s) cut within watches frame = record { within = within; before = before; watches = watches; last = frame }

-- the cartridge stays
watches_cartridge : (region : Region) (keys : ℕ → Keys) (seconds : ℕ → ℕ) (n : ℕ) (old new : ConsoleState) → Watches region keys seconds n old new → rom_of new ≡ rom_of old
watches_cartridge region keys seconds n old new w =
    let p = faultless_runs region keys seconds n old new w in (steps_played old new p.1.inputs p.0 p.1.steps).cartridge

pub same_verified : (region : Region) (keys : ℕ → Keys) (seconds : ℕ → ℕ) (n : ℕ) (old new : ConsoleState) → Watches region keys seconds n old new
    → IsVerifiedFor (rom_of old) region → IsVerifiedFor (rom_of new) region
same_verified region keys seconds n old new w v = subst (λ (r : List ℕ). IsVerifiedFor r region) (sym (watches_cartridge region keys seconds n old new w)) v
