-- A processor that is settled before an instruction (own).
use Rattle.std.specs.Prelude.{◌≡◌, ◌≢◌, false}
use Rattle.gb_ops.specs.declared.registers.Ime.TheVariants as ime
use Rattle.gb_ops.specs.declared.registers.Processor.{Processor}

-- no HALT mark is left, and interrupts don't wait for the next instruction
pub record IsPlain (p : Processor) : Type 0 where
  pub unmarked : p.halt_mark ≡ false
  pub decided : p.ime ≢ ime.Pending
