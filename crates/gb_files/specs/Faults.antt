-- The lines of a program's faults (own texts).
use Rattle.std.specs.Prelude.{ℕ, List, codes}
use Rattle.gb_files.specs.declared.trouble.Trouble.{Trouble}
use Rattle.gb_files.specs.declared.trouble.Trouble.TheVariants as trouble

abbrev pub fault_line : Trouble → List ℕ
fault_line trouble.Memory = codes "FAULT memory"
fault_line trouble.Device = codes "FAULT device"
