use Rattle.std.proofs.Common.{arith, ap, refl, ◌<◌, ℕ}
use Rattle.std.proofs.lemmas.List.{length-replicate}
use Rattle.std.proofs.lemmas.List.Elements.{All-replicate}
use Rattle.gb_plain.specs.Shown.{CartridgeState}
use Rattle.gb_plain.proofs.state.MachineState.at_power_up.Goals as goal

pub returns : goal.returns
returns c =
    record {
      start = record {
        processor = rw (← c.bytes.ensures) c.at_power_up.ensures.processor;
        banks = ap (λ (made : CartridgeState). made.banks) c.in_ok-cartridge.ensures;
        ie = refl;
        count = c.new.ensures;
        work_size = rw c.in_ok-zeros.ensures.items (length-replicate {A = ℕ} 8192 0);
        work = rw c.in_ok-zeros.ensures.items (All-replicate {X = ℕ} (λ b. b < 256) 8192 0 (omega arith));
        high_size = rw c.in_ok-zeros-2.ensures.items (length-replicate {A = ℕ} 127 0);
        high = rw c.in_ok-zeros-2.ensures.items (All-replicate {X = ℕ} (λ b. b < 256) 127 0 (omega arith));
      };
      rom = ap (λ (made : CartridgeState). made.rom) c.in_ok-cartridge.ensures;
    }
