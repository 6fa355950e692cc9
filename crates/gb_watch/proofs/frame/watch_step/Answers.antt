use Rattle.std.proofs.Common.{refl, sym, ◌∙◌, arith}
use Rattle.gb_watch.proofs.Quietly.{faults_told, ending_told}
use Rattle.gb_watch.proofs.frame.watch_step.Goals as goal

pub returns-then-not-has_none : goal.returns-then-not-has_none
returns-then-not-has_none c = (
  refl,
  record {
    step = c.advance-stepped.ensures.step;
    faults =
        faults_told c.args.guard.now.region c.args.console.now c.advance-stepped.result.event c.advance-stepped.result.met c.limits-limits.result c.processor-processor.result c.event_faults-faults.result c.memory.result.now
        c.event_faults-faults.ensures c.limits-limits.ensures c.memory.ensures c.processor-processor.ensures c.rests.ensures c.advance-stepped.ensures.possible c.advance-stepped.ensures.met;
    faulty = c.has_none.ensures.some c.if-not-has_none.true;
    place = c.place_now-place.ensures;
    met = c.advance-stepped.ensures.met;
    processor = c.processor-processor.ensures;
  },
)

pub returns-in-Some : goal.returns-in-Some
returns-in-Some c = record {
  event = c.advance-stepped.result.event;
  step = c.advance-stepped.ensures.step;
  ending = ending_told c.args.console.now c.advance-stepped.result.event c.advance-stepped.new.self _ _ c.in-Some.ensures (omega (arith, c.cycles-before.ensures.value, c.from.ensures, c.advance-stepped.ensures.cycles));
  faultless =
      sym
      (faults_told c.args.guard.now.region c.args.console.now c.advance-stepped.result.event c.advance-stepped.result.met c.limits-limits.result c.processor-processor.result c.event_faults-faults.result c.memory.result.now
      c.event_faults-faults.ensures c.limits-limits.ensures c.memory.ensures c.processor-processor.ensures c.rests.ensures c.advance-stepped.ensures.possible c.advance-stepped.ensures.met)
      ∙ c.has_none.ensures.none c.if-not-has_none.false;
}

pub returns-in-None : goal.returns-in-None
returns-in-None c = record {
  event = c.advance-stepped.result.event;
  step = c.advance-stepped.ensures.step;
  ending = ending_told c.args.console.now c.advance-stepped.result.event c.advance-stepped.new.self _ _ c.in-None.ensures (omega (arith, c.cycles-before.ensures.value, c.from.ensures, c.advance-stepped.ensures.cycles));
  faultless =
      sym
      (faults_told c.args.guard.now.region c.args.console.now c.advance-stepped.result.event c.advance-stepped.result.met c.limits-limits.result c.processor-processor.result c.event_faults-faults.result c.memory.result.now
      c.event_faults-faults.ensures c.limits-limits.ensures c.memory.ensures c.processor-processor.ensures c.rests.ensures c.advance-stepped.ensures.possible c.advance-stepped.ensures.met)
      ∙ c.has_none.ensures.none c.if-not-has_none.false;
}
