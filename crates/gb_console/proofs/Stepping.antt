-- One step of the console, and what it keeps.
use Rattle.std.proofs.Common.{ℕ, ◌≡◌, ◌+◌, ◌%◌, Bool, true, false, if◌then◌else◌, refl, sym, subst, List}
use Rattle.gb_ops.specs.declared.machine.Event.{Event}
use Rattle.gb_ops.specs.Memory.{View}
use Rattle.gb_ops.specs.Accesses.{Joined, accesses_of, event_cycles}
use Rattle.gb_ops.specs.Machine.{BusState}
use Rattle.gb_ops.specs.Play.{IsStep, MState, outside}
use Rattle.gb_ops.specs.declared.registers.Processor.{Processor}
use Rattle.gb_cpu.specs.Below.gb_timer.declared.irqs.Keys.{Keys}
use Rattle.gb_cpu.specs.Below.gb_ppu.Picture.{frame_cycles}
use Rattle.gb_cpu.specs.Below.gb_bus.Contents.{Contents}
use Rattle.gb_cpu.specs.Below.gb_bus.Access.{IsAccessed}
use Rattle.gb_cpu.specs.Step.{state}
use Rattle.gb_cpu.specs.Below.gb_accesses.Access.{HasFreeBytes}
use Rattle.gb_cpu.specs.Choice.{is_idle, waits_after}
use Rattle.gb_verify.specs.Below.gb_abs_memory.Sound.{IsRom}
use Rattle.gb_console.specs.Console.{ConsoleState, IsConsoleStep, IsChosen, IsReachable, interrupt, taken, told, shown}
use Rattle.gb_console.proofs.Reaching.{next_reachable}

-- what is taken leaves the view
taken_view : (b : Bool) (c : Contents) (keys : Keys) (seconds : ℕ) → (if b then c else told c keys seconds).view ≡ c.view
taken_view true c keys seconds = refl
taken_view false c keys seconds = refl

-- an event from a processor and a memory, of which the machine sees the view, to a console
pub record IsEvent (old : ConsoleState) (m : Contents) (v : View) (e : Event) (new : ConsoleState) : Type 0 where
  pub machine : IsStep (state old.cpu.processor v) e (shown new)
  pub joined : Joined IsAccessed m (accesses_of (state old.cpu.processor v) e) new.contents
  pub choice : IsChosen (interrupt old.cpu m) old.cpu m e
  pub free : HasFreeBytes (state old.cpu.processor v) e
  pub waiting : new.cpu.is_waiting ≡ waits_after old.cpu (state old.cpu.processor v) e
  pub cycles : new.cycles ≡ (old.cycles + event_cycles (state old.cpu.processor v) e) % frame_cycles

from_old : (b : Bool) (old : ConsoleState) (keys : Keys) (seconds : ℕ) (m : Contents) (e : Event) (new : ConsoleState)
    → m ≡ (if b then old.contents else told old.contents keys seconds) → IsEvent old m m.view e new → IsEvent old (if b then old.contents else told old.contents keys seconds) old.contents.view e new
from_old true old keys seconds m e new is h = subst (λ (m : Contents). IsEvent old m m.view e new) is h
from_old false old keys seconds m e new is h = subst (λ (m : Contents). IsEvent old m m.view e new) is h

pub step_of : (old : ConsoleState) (keys : Keys) (seconds : ℕ) (m : Contents) (e : Event) (new : ConsoleState)
    → m ≡ (if is_idle old.cpu then old.contents else told old.contents keys seconds) → old.contents.view.starting ≡ false → IsEvent old m m.view e new → IsConsoleStep old keys seconds e new
unfolding taken outside
step_of old keys seconds m e new is settled h =
    let f = from_old (is_idle old.cpu) old keys seconds m e new is h in
    record {
      choice = f.choice;
      free = f.free;
      cartridge = f.machine.rom;
      machine = f.machine.next settled;
      joined = f.joined;
      waiting = f.waiting;
      cycles = f.cycles;
    }

-- a view that is settled, and shows a cartridge and a reachable state with a processor
pub record IsKept (s : BusState) : Type 0 where
  pub settled : s.memory.starting ≡ false
  pub reachable : IsReachable s.memory.rom (outside s)
  pub cartridge : IsRom s.memory.rom

same_reachable : (new_rom rom : List ℕ) (t s : MState) → new_rom ≡ rom → t ≡ s → IsReachable rom s → IsReachable new_rom t
same_reachable new_rom rom t s h is r = rw (h, is) r

pub step_keeps : (old : BusState) (e : Event) (new : BusState) → IsStep old e new → IsKept old → IsKept new
step_keeps old e new h k =
    record {
      settled = h.starting k.settled;
      reachable =
          same_reachable _ _ (outside new) _ h.rom (h.next k.settled) (next_reachable old.memory.rom (outside old) e k.reachable);
      cartridge = subst IsRom (sym h.rom) k.cartridge;
    }

pub keeps : (p : Processor) (old m : Contents) (b : Bool) (keys : Keys) (seconds : ℕ) (e : Event) (new : BusState)
    → m ≡ (if b then old else told old keys seconds) → IsStep (state p m.view) e new → IsKept (state p old.view) → IsKept new
keeps p old m b keys seconds e new is h k =
    let same : m.view ≡ old.view = rw is (taken_view b old keys seconds) in
    step_keeps (state p m.view) e new h (subst (λ (v : View). IsKept (state p v)) (sym same) k)
