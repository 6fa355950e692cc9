use Rattle.std.proofs.Common.{◌≡◌, ◌+◌, ◌<◌, ℕ, Bool, true, false, rules, arith}
use Rattle.gb_cpu.specs.Below.gb_bus.Access.{shared}
use Rattle.gb_cpu.specs.Choice.{is_idle}
use Rattle.gb_console.proofs.Going.{some_wait, wait_keeps}
use Rattle.gb_console.proofs.console.Console.wait.Goals as goal

pub invariant_of-self-2 : goal.invariant_of-self-2
invariant_of-self-2 c =
    let goes : is_idle c.self.inside.cpu ≡ false = rw (← c.self.view_is) at c.requires in
    let none : shared c.self.inside.memory ≡ 0 = omega (arith, c.pending.ensures.value, c.if-pending-ne0.false) in
    let held : c.self.inside.memory.pad.keys ≡ c.args.keys.0 = search rules in
    let small : c.self.inside.cycles + c.wait-waited.result < 17556 = omega (arith, c.wait-waited.ensures.few, c.byte_of.ensures, c.self.invariant.0) in
    rw c.from.ensures
    (wait_keeps c.wait-waited.result c.self.inside.cpu c.self.inside.memory _ c.wait-waited.new.self c.self.inside.cycles c.args.keys c.pending.ensures.same goes c.if-not-self.false none held c.self.invariant.1 small c.wait-waited.ensures.waited c.self.invariant.2 c.self.invariant.3)

pub returns : goal.returns
returns c =
    let goes : is_idle c.self.inside.cpu ≡ false = rw (← c.self.view_is) at c.requires in
    let none : shared c.self.inside.memory ≡ 0 = omega (arith, c.pending.ensures.value, c.if-pending-ne0.false) in
    let held : c.self.inside.memory.pad.keys ≡ c.args.keys.0 = search rules in
    let small : c.self.inside.cycles + c.wait-waited.result < 17556 = omega (arith, c.wait-waited.ensures.few, c.byte_of.ensures, c.self.invariant.0) in
    rw (← c.self.view_is)
    (some_wait c.wait-waited.result c.self.inside.cpu c.self.inside.memory _ c.wait-waited.new.self c.self.inside.cycles _ c.args.keys c.pending.ensures.same goes c.if-not-self.false none held c.self.invariant.1 small (omega (arith, c.from.ensures)) c.wait-waited.ensures.waited)
