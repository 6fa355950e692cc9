use Rattle.std.proofs.Common.{◌∙◌, refl, [], arith}
use Rattle.gb_ops.specs.declared.machine.Event.TheVariants as event
use Rattle.gb_events.proofs.Replaying.{items_none, items_more, items_faulty, more_within, faulty_within}
use Rattle.gb_events.proofs.play.play_events.Goals as goal

pub loop-item-init : goal.loop-item-init
loop-item-init c = record { rom = refl; whole = items_none c.args.machine.now.state.rom c.args.region c.args.machine.now.state.machine }

pub overflow_add-number : goal.overflow_add-number
overflow_add-number c =
    let few = more_within c.as_slice-item-items.result.now c.args.list.now c.loop-item.item-index (record { event = event.Run [] []; count = 0 }) c.loop-item.machine.state.rom c.args.machine.now.state.rom c.args.region
    c.args.machine.now.state.machine c.loop-item.machine.state.machine c.play_repeated.new.machine.state.machine c.loop-item.number c.in-Whole.more c.total-total.result c.as_slice-item-items.ensures c.loop-item-test.true
    c.total-total.ensures c.loop-item.invariant.whole c.in-Whole.ensures.replay in
    omega (arith, few, c.total-total.type_inv)

pub loop-item-preserved : goal.loop-item-preserved
loop-item-preserved c = record {
  rom = c.in-Whole.ensures.rom ∙ c.loop-item.invariant.rom;
  whole =
      items_more c.as_slice-item-items.result.now c.args.list.now c.loop-item.item-index (record { event = event.Run [] []; count = 0 }) c.loop-item.machine.state.rom c.args.machine.now.state.rom c.args.region
      c.args.machine.now.state.machine c.loop-item.machine.state.machine c.play_repeated.new.machine.state.machine c.loop-item.number c.in-Whole.more c.as_slice-item-items.ensures c.loop-item-test.true
      c.loop-item.invariant.rom c.loop-item.invariant.whole c.in-Whole.ensures.replay;
}

pub overflow_add-result : goal.overflow_add-result
overflow_add-result c =
    let few = faulty_within c.as_slice-item-items.result.now c.args.list.now c.loop-item.item-index (record { event = event.Run [] []; count = 0 }) c.loop-item.machine.state.rom c.args.machine.now.state.rom c.args.region
    c.args.machine.now.state.machine c.loop-item.machine.state.machine c.play_repeated.new.machine.state.machine c.loop-item.number c.total-total.result c.in-Faulty.faulty c.as_slice-item-items.ensures c.loop-item-test.true
    c.total-total.ensures c.loop-item.invariant.whole c.in-Faulty.ensures.replay in
    omega (arith, few, c.total-total.type_inv)

pub returns-in-Faulty-clause-replay : goal.returns-in-Faulty-clause-replay
returns-in-Faulty-clause-replay c =
    items_faulty c.as_slice-item-items.result.now c.args.list.now c.loop-item.item-index (record { event = event.Run [] []; count = 0 }) c.loop-item.machine.state.rom c.args.machine.now.state.rom c.args.region
    c.args.machine.now.state.machine c.loop-item.machine.state.machine c.play_repeated.new.machine.state.machine c.loop-item.number c.in-Faulty.faulty c.as_slice-item-items.ensures c.loop-item-test.true
    c.loop-item.invariant.rom c.loop-item.invariant.whole c.in-Faulty.ensures.replay
