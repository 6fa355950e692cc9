-- An effect, as a processor that was changed and what is left to be done (own).
use Rattle.gb_ops.specs.declared.registers.Processor.{Processor}
use Rattle.gb_ops.specs.declared.machine.Effect.{Effect}
use Rattle.gb_effects.specs.declared.effect.Performed.{Performed}

abbrev pub effect : Processor → Performed → Effect
effect p outcome = record { processor = p; write = outcome.write; is_taken = outcome.is_taken }
