-- The numbers of the faults.
use Rattle.std.specs.Prelude.{ℕ}
use Rattle.gb_fields.specs.declared.fault.CertFault.{CertFault}
use Rattle.gb_fields.specs.declared.fault.CertFault.TheVariants as fault

abbrev pub number_of : CertFault → ℕ
number_of fault.CutShort = 1
number_of fault.Magic = 2
number_of fault.Version = 3
number_of fault.Count = 4
number_of fault.Field = 5
number_of fault.Order = 6
number_of fault.Region = 7
number_of fault.LeftOver = 8
number_of fault.Memory = 9
