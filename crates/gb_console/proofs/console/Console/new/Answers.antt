use Rattle.std.proofs.Common.{ap, ◌∙◌}
use Rattle.gb_ops.specs.Play.{processor_at_power_up}
use Rattle.gb_console.proofs.Reaching.{fresh}
use Rattle.gb_console.proofs.console.Console.new.Goals as goal

pub invariant_of-result : goal.invariant_of-result
invariant_of-result c =
    fresh c.args.rom.now _ _ c.in_ok-memory.ensures (c.at_power_up-cpu.ensures.processor ∙ ap processor_at_power_up c.bytes.ensures.bytes) c.holds_bytes.ensures
