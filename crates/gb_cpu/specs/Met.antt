-- What an event met: the bytes of its instruction, and what it read and wrote besides them (own).
use Rattle.std.specs.Prelude.{ℕ, ◌≡◌, List, Option, Some, None}
use Rattle.gb_ops.specs.declared.machine.Read.{Read}
use Rattle.gb_ops.specs.declared.machine.Write.{Write}
use Rattle.gb_ops.specs.declared.machine.Write.TheVariants as write
use Rattle.gb_ops.specs.declared.machine.Event.{Event}
use Rattle.gb_ops.specs.declared.machine.Event.TheVariants as event
use Rattle.gb_ops.specs.declared.op.Row.{Row}
use Rattle.gb_ops.specs.Effects.{read_of}
use Rattle.gb_ops.specs.Machine.{BusState, fetched, advanced, effect_at}
use Rattle.gb_ops.specs.Table.{decoded}
use Rattle.gb_cpu.specs.declared.step.Met.{Met}

-- what a row's instruction read and wrote; an undefined opcode does neither
abbrev pub IsRowMet : Option Row → BusState → List ℕ → Read → Write → Type 0
IsRowMet None s reads what stored = Unit {0}
IsRowMet (Some row) s reads what stored = (what ≡ read_of row.op (advanced s.processor row)) × (stored ≡ (effect_at s row reads).write)

-- what an instruction or a dispatch met
abbrev pub HasMet : BusState → Event → Met → Type 0
HasMet s (event.Run fetch reads) m =
    (m.bytes ≡ fetched s.memory s.processor fetch) × IsRowMet (decoded (fetched s.memory s.processor fetch)) s reads m.read m.write
HasMet s (event.Irq i) m = m.write ≡ write.Push s.processor.sp s.processor.pc
HasMet s _ m = Unit {0}
