use Rattle.std.proofs.Common.{sym, ap, ◌∙◌}
use Rattle.gb_ops.specs.declared.machine.Kind.{Kind}
use Rattle.gb_faults.specs.Limits.{has_gate}
use Rattle.gb_faults.proofs.Limiting.{gate_is, other_gate}
use Rattle.gb_faults.proofs.limits.Limits.has_gate.Goals as goal

pub returns-in-Rom : goal.returns-in-Rom
returns-in-Rom c =
    ap (λ (k : Kind). has_gate k c.args.address) (sym c.in-Rom.is)
    ∙ gate_is c.self.inside.kind c.args.self.now c.self.inside.rom.now c.self.inside.gate c.self.inside.count c.args.address c.self.view_is c.self.invariant.0

pub returns-in_default : goal.returns-in_default
returns-in_default c =
    other_gate c.self.inside.kind c.args.address c.in_default.not-Rom
    ∙ gate_is c.self.inside.kind c.args.self.now c.self.inside.rom.now c.self.inside.gate c.self.inside.count c.args.address c.self.view_is c.self.invariant.0
