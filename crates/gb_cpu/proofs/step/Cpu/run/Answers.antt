use Rattle.std.proofs.Common.{rules}
use Rattle.gb_cpu.proofs.Running.{opcode_step}
use Rattle.gb_cpu.proofs.step.Cpu.run.Goals as goal

pub returns : goal.returns
returns g c =
    opcode_step g.B.Bus.shows g.B.Bus.does (g.B.Bus.shared c.args.bus.now) c.args.self.now _ c.args.bus.now c.take-first.new.bus _ c.take-first.result.byte
    c.run_by_opcode.result c.take-first.result.is_free c.requires.unshared c.requires.ready.running c.requires.ready.awake
    (record {
      view = c.take-first.ensures.view;
      gave = c.take-first.ensures.gave;
      free = c.take-first.ensures.free;
      byte = search rules;
      joined = c.take-first.ensures.joined;
    })
    c.run_by_opcode.ensures.runs c.run_by_opcode.ensures.waiting
