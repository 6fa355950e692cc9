use Rattle.std.proofs.Common.{arith, ap, refl, sym, ◌<◌, ◌≡◌, ◌∙◌, ℕ}
use Rattle.std.proofs.lemmas.List.{length-replicate}
use Rattle.std.proofs.lemmas.List.Elements.{All-replicate}
use Rattle.gb_ops.specs.Play.{processor_at_power_up}
use Rattle.gb_plain.specs.Shown.{CartridgeState}
use Rattle.gb_plain.proofs.state.MachineState.of.Goals as goal

pub returns-clause-start : goal.returns-clause-start
returns-clause-start c =
    let same : c.in_ok-of.field-0.rom ≡ c.args.rom.now = ap (λ (made : CartridgeState). made.rom) c.in_ok-of.ensures in
    record {
      processor = c.at_power_up.ensures.processor ∙ ap processor_at_power_up (c.bytes.ensures.bytes ∙ sym same);
      banks = ap (λ (made : CartridgeState). made.banks) c.in_ok-of.ensures;
      ie = refl;
      count = c.new.ensures;
      work_size = rw c.in_ok-zeros.ensures.items (length-replicate {A = ℕ} 8192 0);
      work = rw c.in_ok-zeros.ensures.items (All-replicate {X = ℕ} (λ b. b < 256) 8192 0 (omega arith));
      high_size = rw c.in_ok-zeros-2.ensures.items (length-replicate {A = ℕ} 127 0);
      high = rw c.in_ok-zeros-2.ensures.items (All-replicate {X = ℕ} (λ b. b < 256) 127 0 (omega arith));
    }
