-- Which machine states are reachable.
use Rattle.std.proofs.Common.{ℕ, ◌≡◌, ◌<◌, false, refl, ap, List, [], ◌∷◌, ◌++◌, arith}
use Rattle.std.proofs.lemmas.List.{length-replicate}
use Rattle.std.proofs.lemmas.List.Elements.{All-replicate}
use Rattle.gb_ops.specs.declared.machine.Region.{Region}
use Rattle.gb_ops.specs.declared.machine.Event.{Event}
use Rattle.gb_ops.specs.Play.{MState, IsStart, play, next, processor_at_power_up}
use Rattle.gb_ops.specs.declared.registers.Processor.{Processor}
use Rattle.gb_cpu.specs.Below.gb_ppu.Picture.{frame_cycles}
use Rattle.gb_cpu.specs.Below.gb_bus.Contents.{Contents}
use Rattle.gb_cpu.specs.Below.gb_bus.PowerUp as PowerUp
use Rattle.gb_cpu.specs.Below.gb_bus.PowerUp.{zeros}
use Rattle.gb_verify.specs.Below.gb_abs_memory.Sound.{IsRom}
use Rattle.gb_console.specs.Console.{IsReachable, at_power_up, machine_of}

play_more : (rom : List ℕ) (region : Region) (events : List Event) (s : MState) (e : Event) → (play rom region s (events ++ e ∷ [])).state ≡ next rom (play rom region s events).state e
unfolding play
play_more rom region [] s e = refl
play_more rom region (x ∷ events) s e = play_more rom region events (next rom s x) e

pub next_reachable : (rom : List ℕ) (s : MState) (e : Event) → IsReachable rom s → IsReachable rom (next rom s e)
unfolding IsReachable
next_reachable rom s e r = λ (region : Region).
    let before = r region in
    record {
      start = before.start;
      events = before.events ++ e ∷ [];
      is_start = before.is_start;
      leads = rw (play_more rom region before.events before.start e) (ap (λ x. next rom x e) before.leads);
    }

pub starts : (rom : List ℕ) → IsStart rom (machine_of (at_power_up rom))
unfolding at_power_up PowerUp.at_power_up zeros
starts rom =
    record {
      processor = refl;
      banks = refl;
      ie = refl;
      count = refl;
      work_size = length-replicate {A = ℕ} 0x2000 0;
      work = All-replicate (λ b. b < 256) 0x2000 0 (omega arith);
      high_size = length-replicate {A = ℕ} 127 0;
      high = All-replicate (λ b. b < 256) 127 0 (omega arith);
    }

pub start_reachable : (rom : List ℕ) (s : MState) → IsStart rom s → IsReachable rom s
unfolding IsReachable play
start_reachable rom s h = λ (region : Region). record { start = s; events = []; is_start = h; leads = refl }

-- what a new console keeps
pub fresh : (rom : List ℕ) (m : Contents) (p : Processor) → m ≡ PowerUp.at_power_up rom → p ≡ processor_at_power_up rom → IsRom rom
    → (0 < frame_cycles) × (m.view.starting ≡ false) × IsReachable m.view.rom (record { processor = p; storage = m.view.storage }) × IsRom m.view.rom
unfolding PowerUp.at_power_up at_power_up
fresh rom m p e q cartridge = rw (e, q) (omega arith, refl, start_reachable rom _ (starts rom), cartridge)
