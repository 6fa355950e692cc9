use Rattle.std.proofs.Common.{ℕ, List, ap, subst, ◌∙◌}
use Rattle.gb_faults.specs.Below.gb_cpu.Below.gb_bus.Contents.{Contents}
use Rattle.gb_faults.specs.Quiet.{IsGuard}
use Rattle.gb_hunt.proofs.Parsing.{parsed_is}
use Rattle.gb_hunt.proofs.explore.guard_of.Goals as goal

pub returns-in-Ok : goal.returns-in-Ok
returns-in-Ok c =
    subst (λ (r : List ℕ). IsGuard r c.of.result)
    (parsed_is _ c.in-Ok.rom c.in-Ok.ensures.exact ∙ c.cartridge.ensures.bytes ∙ ap (λ (m : Contents). m.view.rom) c.memory.ensures) c.of.ensures.guards
