-- The faults of an event by their numbers (own).
use Rattle.std.specs.Prelude.{◌≡◌, ◌≢◌, ◌<◌, ℕ, Bool, true, false, if◌then◌else◌}
use Rattle.gb_ops.specs.declared.machine.Faults.{Faults}
use Rattle.gb_ops.specs.Faults.{no_faults}
use Rattle.gb_witness.specs.declared.fault.FaultKind.{FaultKind}
use Rattle.gb_witness.specs.declared.fault.FaultKind.TheVariants as kind

abbrev pub fault_number : FaultKind → ℕ
fault_number kind.UndefinedOpcode = 1
fault_number kind.FetchedOutside = 2
fault_number kind.StackOutside = 3
fault_number kind.RamClosed = 4
fault_number kind.TransferMet = 5

-- an event with these faults has this one
abbrev pub has_fault : FaultKind → Faults → Bool
has_fault kind.UndefinedOpcode faults = faults.undefined_opcode
has_fault kind.FetchedOutside faults = faults.fetched_outside
has_fault kind.StackOutside faults = faults.stack_outside
has_fault kind.RamClosed faults = faults.ram_closed
has_fault kind.TransferMet faults = faults.transfer_met

-- the fault with the lowest number, of an event that has one
unfoldable pub lowest_fault : Faults → FaultKind
lowest_fault faults =
    if faults.undefined_opcode then kind.UndefinedOpcode
    else if faults.fetched_outside then kind.FetchedOutside
    else if faults.stack_outside then kind.StackOutside
    else if faults.ram_closed then kind.RamClosed
    else kind.TransferMet

-- an event that has faults has this one, and none with a lower number
pub record IsLowestOf (faults : Faults) (lowest : FaultKind) : Type 0 where
  pub applies : has_fault lowest faults ≡ true
  pub least : (other : FaultKind) → fault_number other < fault_number lowest → has_fault other faults ≡ false

abbrev pub LowestFaultApplies : Type 0
LowestFaultApplies = (faults : Faults) → faults ≢ no_faults → IsLowestOf faults (lowest_fault faults)
