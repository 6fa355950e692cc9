use Rattle.std.proofs.Common.{sym, ◌∙◌}
use Rattle.gb_faults.proofs.Limiting.{stays_without, stays_in_transfer, gate_after}
use Rattle.gb_faults.proofs.limits.Limits.after_write.Goals as goal

pub returns-then-is_closed : goal.returns-then-is_closed
returns-then-is_closed c =
    c.with_gate.ensures
    ∙ stays_in_transfer c.args.self.now c.self.inside.rom.now c.self.inside.gate c.self.inside.count c.args.address c.args.value c.self.view_is
    (sym c.is_closed.ensures ∙ c.if-is_closed.true)

pub returns-then-not-has_gate : goal.returns-then-not-has_gate
returns-then-not-has_gate c =
    c.with_gate-then-not-has_gate.ensures
    ∙ stays_without c.args.self.now c.self.inside.rom.now c.self.inside.gate c.self.inside.count c.args.address c.args.value c.self.view_is
    (sym c.has_gate.ensures ∙ c.if-not-has_gate.true)

pub returns : goal.returns
returns c =
    c.with_gate-2.ensures
    ∙ gate_after c.args.self.now c.self.inside.rom.now c.self.inside.gate c.self.inside.count c.args.address c.args.value c.self.view_is
    (sym c.has_gate.ensures ∙ c.if-not-has_gate.false) (sym c.is_closed.ensures ∙ c.if-is_closed.false)
