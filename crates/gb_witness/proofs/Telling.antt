-- What the line says, as a run of the machine.
use Rattle.std.proofs.Common.{◌≡◌, ℕ, sym, ◌∙◌, ap, [], ◌∷◌, ◌++◌}
use Rattle.gb_ops.specs.declared.machine.Faults.{Faults}
use Rattle.gb_ops.specs.declared.machine.CodePlace.{CodePlace}
use Rattle.gb_ops.specs.declared.machine.Region.{Region}
use Rattle.gb_ops.specs.declared.registers.Processor.{Processor}
use Rattle.gb_ops.specs.Faults.{code_place}
use Rattle.gb_ops.specs.Play.{MState, play, within}
use Rattle.gb_printed.specs.Below.gb_console.Below.gb_timer.declared.irqs.Keys.{Keys}
use Rattle.gb_printed.specs.Below.gb_console.Console.{ConsoleState, rom_of, machine_of}
use Rattle.gb_printed.specs.Below.gb_console.declared.frame.Ending.{Ending}
use Rattle.gb_printed.specs.Below.gb_console.declared.frame.Ending.TheVariants as ending
use Rattle.gb_printed.specs.Below.gb_watch.Watch.{IsCutRun, IsWatchedRun, IsWholeRun}
use Rattle.gb_printed.specs.Below.gb_watch.declared.sighting.Sighting.{Sighting}
use Rattle.gb_printed.specs.Below.gb_watch.declared.sighting.Watched.{Watched}
use Rattle.gb_printed.specs.Below.gb_watch.declared.sighting.Watched.TheVariants as watched
use Rattle.gb_printed.proofs.Below.gb_watch_laws.Playing.{faultless_runs, cut_runs, faulty_runs}
use Rattle.gb_witness.specs.Line.{fault_text}
use Rattle.gb_witness.specs.declared.line.CountedIn.TheVariants as counted
use Rattle.gb_witness.specs.Played.{IsFaultlessPlay, IsFaultyPlay, WatchedRunsArePlayed}

whole_played : (region : Region) (keys : ℕ → Keys) (seconds : ℕ → ℕ) (frames : ℕ) (old : ConsoleState) (number : ℕ) (new : ConsoleState)
    → IsWholeRun region keys seconds frames old number new → IsFaultlessPlay region old new
whole_played region keys seconds frames old number new w =
    let p = faultless_runs region keys seconds frames old new w.watches in record { events = p.0; well = p.1 }

cut_played : (region : Region) (keys : ℕ → Keys) (seconds : ℕ → ℕ) (frames : ℕ) (old : ConsoleState) (number : ℕ) (end : Ending) (new : ConsoleState)
    → IsCutRun region keys seconds frames old number (watched.Ended end) new → IsFaultlessPlay region old new
cut_played region keys seconds frames old number end new c =
    let p = cut_runs region keys seconds number old c.before end new c.watches c.last in record { events = p.0; well = p.1 }

fault_played : (region : Region) (keys : ℕ → Keys) (seconds : ℕ → ℕ) (frames : ℕ) (old : ConsoleState) (number : ℕ) (s : Sighting) (new : ConsoleState)
    → IsCutRun region keys seconds frames old number (watched.Faulted s) new → IsFaultyPlay region old s number new
fault_played region keys seconds frames old number s new c =
    let p = faulty_runs region keys seconds number old c.before s new c.watches c.last in
    let state : MState = (play (rom_of old) region (machine_of old) p.0).state in
    let place : s.place ≡ code_place (within (rom_of old) state).memory state.processor.pc =
    p.1.place ∙ ap (λ (q : Processor). code_place (within (rom_of old) state).memory q.pc) p.1.processor in
    record {
      events = p.0;
      fault = p.1;
      text = λ pc. ap (λ (f : Faults). fault_text f counted.Frame number s.place) (sym p.1.faults) ∙ ap (λ (a : CodePlace). fault_text (play (rom_of old) region (machine_of old) (p.0 ++ s.event ∷ [])).faults counted.Frame number a) place;
    }

pub runs_played : WatchedRunsArePlayed
runs_played region keys seconds frames old number (watched.Ended ending.Whole) new w = whole_played region keys seconds frames old number new w
runs_played region keys seconds frames old number (watched.Ended ending.Locked) new w = cut_played region keys seconds frames old number ending.Locked new w
runs_played region keys seconds frames old number (watched.Ended ending.Stopped) new w = cut_played region keys seconds frames old number ending.Stopped new w
runs_played region keys seconds frames old number (watched.Faulted s) new w = fault_played region keys seconds frames old number s new w
