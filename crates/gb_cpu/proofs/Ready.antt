-- A processor that is ready for an instruction.
use Rattle.std.proofs.Common.{◌≡◌, Bool, true, false, ◌||◌, refl}
use Rattle.gb_accesses.specs.Plain.{IsPlain}
use Rattle.gb_cpu.specs.declared.step.Cpu.{Cpu}
use Rattle.gb_cpu.specs.Run.{IsReady}

none_first : (w l s : Bool) → (w || l || s) ≡ false → w ≡ false
none_first true l s h = absurd (let bad : true ≡ false = h in cc)
none_first false l s h = refl

none_behind : (w l s : Bool) → (w || l || s) ≡ false → (l || s) ≡ false
none_behind true l s h = absurd (let bad : true ≡ false = h in cc)
none_behind false l s h = h

pub is_ready : (cpu : Cpu) → (cpu.is_waiting || cpu.processor.locked || cpu.processor.stopped) ≡ false → IsPlain cpu.processor → IsReady cpu
is_ready cpu h plain = record {
  plain = plain;
  running = none_behind cpu.is_waiting cpu.processor.locked cpu.processor.stopped h;
  awake = none_first cpu.is_waiting cpu.processor.locked cpu.processor.stopped h;
}
