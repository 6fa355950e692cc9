-- The faults of an event by what it met (own).
use Rattle.std.specs.Prelude.{true, Option, Some, None}
use Rattle.gb_ops.specs.declared.machine.Event.{Event}
use Rattle.gb_ops.specs.declared.machine.Event.TheVariants as event
use Rattle.gb_ops.specs.declared.machine.Faults.{Faults}
use Rattle.gb_ops.specs.declared.machine.Region.{Region}
use Rattle.gb_ops.specs.declared.machine.Write.TheVariants as write
use Rattle.gb_ops.specs.declared.op.Row.{Row}
use Rattle.gb_ops.specs.declared.registers.Processor.{Processor}
use Rattle.gb_ops.specs.Faults.{no_faults, either_faults, fetch_faults, all_fetch_faults, fetch_addresses, load_faults, store_faults}
use Rattle.gb_ops.specs.Memory.{View}
use Rattle.gb_ops.specs.Table.{decoded}
use Rattle.gb_cpu.specs.declared.step.Met.{Met}

-- of an instruction after its fetch
abbrev pub row_faults : Option Row → Region → View → Met → Faults
row_faults None region m met = record no_faults { undefined_opcode = true }
row_faults (Some row) region m met = either_faults (load_faults m met.read) (store_faults region m met.write)

unfoldable pub met_faults : Region → View → Processor → Event → Met → Faults
met_faults region m p (event.Run fetch reads) met =
    either_faults (all_fetch_faults m (fetch_addresses p met.bytes)) (row_faults (decoded met.bytes) region m met)
met_faults region m p event.HaltStay met = fetch_faults m p.pc
met_faults region m p event.HaltBug met = fetch_faults m p.pc
met_faults region m p (event.Irq i) met = store_faults region m (write.Push p.sp p.pc)
met_faults region m p (event.Wait n) met = no_faults
