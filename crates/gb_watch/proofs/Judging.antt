-- Where a certificate with the watched region is right, no fault is told.
use Rattle.std.proofs.Common.{◌≡◌, ℕ, sym, ap, subst, ◌∙◌, List, [], ◌∷◌, ◌++◌, Some}
use Rattle.gb_ops.specs.declared.machine.Event.{Event}
use Rattle.gb_ops.specs.declared.machine.Region.{Region}
use Rattle.gb_ops.specs.Faults.{no_faults}
use Rattle.gb_ops.specs.Play.{MState, IsReached, faults, play}
use Rattle.gb_console.specs.Below.gb_timer.declared.irqs.Keys.{Keys}
use Rattle.gb_console.specs.Below.gb_verify.Headline.{IsSafe}
use Rattle.gb_console.specs.Below.gb_verify.Below.gb_abs_memory.Sound.{IsRom}
use Rattle.gb_console.specs.declared.frame.Ending.{Ending}
use Rattle.gb_console.specs.declared.frame.Ending.TheVariants as ending
use Rattle.gb_console.specs.Console.{ConsoleState, IsReachable, rom_of, machine_of}
use Rattle.gb_console.specs.Frame.{IsFrame}
use Rattle.gb_console.specs.Verified.{IsVerified}
use Rattle.gb_console.proofs.Below.gb_verify_laws.RunLaws.{IsSafe-right}
use Rattle.gb_console.proofs.Going.{goes_reachable}
use Rattle.gb_console.proofs.Whole.{whole_frame}
use Rattle.gb_watch.specs.declared.sighting.Sighting.{Sighting}
use Rattle.gb_watch.specs.declared.sighting.Watched.{Watched}
use Rattle.gb_watch.specs.declared.sighting.Watched.TheVariants as watched
use Rattle.gb_watch.specs.Verified.{IsVerifiedFor}
use Rattle.gb_watch.specs.Watch.{IsFaultlessFrame, IsFaultyFrame, IsWatchedFrame}
use Rattle.gb_watch.proofs.Counting.{goes_rom}
use Rattle.gb_watch.proofs.Playing.{last_none}
use Rattle.gb_watch.proofs.Quietly.{frame_step, frame_goes}

-- no event has a fault where the machine is
no_fault : (rom : List ℕ) (region : Region) (s : MState) (e : Event) → IsVerifiedFor rom region → IsRom rom → IsReachable rom s → faults rom region s e ≡ no_faults
unfolding IsReachable
no_fault rom region s e v cartridge reached =
    let safe : IsSafe rom v.certificate = IsSafe-right rom v.certificate cartridge v.rules v.right in
    let r : IsReached rom region s = reached region in
    let all : (play rom region r.start (r.events ++ e ∷ [])).faults ≡ no_faults =
    subst (λ (g : Region). (play rom g r.start (r.events ++ e ∷ [])).faults ≡ no_faults) v.region_is (safe.faults r.start (r.events ++ e ∷ []) r.is_start) in
    subst (λ (t : MState). faults rom region t e ≡ no_faults) r.leads (last_none rom region r.events r.start e all)

-- so no frame has one
no_sighting : (region : Region) (old : ConsoleState) (keys : Keys) (seconds : ℕ) (s : Sighting) (new : ConsoleState) → IsFaultyFrame region old keys seconds s new
    → IsVerifiedFor (rom_of old) region → IsRom (rom_of old) → IsReachable (rom_of old) (machine_of old) → ⊥
no_sighting region old keys seconds s new f v cartridge reached =
    let same : rom_of f.last ≡ rom_of old = goes_rom region old keys seconds s.number f.last f.goes in
    let there = goes_reachable old keys seconds s.number f.last (frame_goes region old keys seconds s.number f.last f.goes) reached in
    let none = no_fault (rom_of f.last) region (machine_of f.last) s.event (subst (λ (r : List ℕ). IsVerifiedFor r region) (sym same) v) (subst IsRom (sym same) cartridge) there in
    f.meets.faulty (f.meets.faults ∙ none)

-- a frame without a fault is a frame
pub is_frame : (region : Region) (old : ConsoleState) (keys : Keys) (seconds : ℕ) (end : Ending) (new : ConsoleState) → IsFaultlessFrame region old keys seconds end new → IsFrame old keys seconds end new
is_frame region old keys seconds end new f =
    record { steps = f.steps; last = f.last; goes = frame_goes region old keys seconds f.steps f.last f.goes; ends = frame_step region f.last keys _ (Some end) new f.ends }

verified : (rom : List ℕ) (region : Region) → IsVerifiedFor rom region → IsVerified rom
verified rom region v = record { certificate = v.certificate; rules = v.rules; right = v.right }

rom_behind : (region : Region) (old : ConsoleState) (keys : Keys) (seconds : ℕ) (end : Ending) (new : ConsoleState) → IsFaultlessFrame region old keys seconds end new → rom_of new ≡ rom_of old
rom_behind region old keys seconds end new f = f.ends.step.cartridge ∙ goes_rom region old keys seconds f.steps f.last f.goes

pub watched_whole : (region : Region) (old : ConsoleState) (keys : Keys) (seconds : ℕ) (w : Watched) (new : ConsoleState) → IsWatchedFrame region old keys seconds w new
    → IsRom (rom_of old) → IsReachable (rom_of old) (machine_of old) → IsReachable (rom_of new) (machine_of new) → IsVerifiedFor (rom_of old) region → w ≡ watched.Ended ending.Whole
watched_whole region old keys seconds (watched.Ended end) new f cartridge reached there v =
    ap watched.Ended
    (whole_frame old keys seconds end new (is_frame region old keys seconds end new f) (subst IsRom (sym (rom_behind region old keys seconds end new f)) cartridge) there (verified (rom_of old) region v))
watched_whole region old keys seconds (watched.Faulted s) new f cartridge reached there v = absurd (no_sighting region old keys seconds s new f v cartridge reached)
