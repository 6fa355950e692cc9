use Rattle.std.proofs.Common.{◌∙◌, sym, refl}
use Rattle.gb_events.proofs.Replaying.{none_played, repeated_more, repeated_faulty}
use Rattle.gb_events.proofs.play.play_repeated.Goals as goal

pub loop-number-init : goal.loop-number-init
loop-number-init c = record { rom = refl; whole = none_played c.args.machine.now.state.rom c.args.region c.args.machine.now.state.machine c.args.item.event }

pub loop-number-preserved : goal.loop-number-preserved
loop-number-preserved c = record {
  rom = c.apply.ensures.rom ∙ c.loop-number.invariant.rom;
  whole =
      repeated_more c.loop-number.machine.state.rom c.args.machine.now.state.rom c.args.region c.args.machine.now.state.machine c.loop-number.machine.state.machine c.apply.new.self.state.machine c.args.item.event
      c.loop-number.number c.loop-number.invariant.rom c.loop-number.invariant.whole (sym c.faults-faults.ensures ∙ c.has_fault.ensures.none c.if-has_fault.false) c.apply.ensures.machine;
}

pub returns-then-has_fault-clause-rom : goal.returns-then-has_fault-clause-rom
returns-then-has_fault-clause-rom c = c.loop-number.invariant.rom

pub returns-then-has_fault-clause-replay : goal.returns-then-has_fault-clause-replay
returns-then-has_fault-clause-replay c =
    repeated_faulty c.loop-number.machine.state.rom c.args.machine.now.state.rom c.args.region c.args.machine.now.state.machine c.loop-number.machine.state.machine c.args.item.event c.loop-number.number c.from.result
    c.args.item.count c.faults-faults.result c.place.result c.loop-number.invariant.rom c.from.ensures c.loop-number.invariant.whole c.loop-number-test.true c.faults-faults.ensures
    (c.has_fault.ensures.some c.if-has_fault.true) c.place.ensures
