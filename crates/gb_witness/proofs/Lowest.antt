-- The lowest fault of an event.
use Rattle.std.proofs.Common.{◌≡◌, ◌≢◌, ◌<◌, ℕ, Bool, true, false, refl, arith}
use Rattle.gb_ops.specs.declared.machine.Faults.{Faults}
use Rattle.gb_ops.specs.Faults.{no_faults}
use Rattle.gb_witness.specs.declared.fault.FaultKind.{FaultKind}
use Rattle.gb_witness.specs.declared.fault.FaultKind.TheVariants as kind
use Rattle.gb_witness.specs.Fault.{lowest_fault, fault_number, has_fault, IsLowestOf, LowestFaultApplies}

abbrev of : Bool → Bool → Bool → Bool → Bool → Faults
of a b c d e = record { undefined_opcode = a; fetched_outside = b; stack_outside = c; ram_closed = d; transfer_met = e }

below_2 : (k : FaultKind) (b c d e : Bool) → fault_number k < 2 → has_fault k (of false b c d e) ≡ false
below_2 kind.UndefinedOpcode b c d e h = refl
below_2 kind.FetchedOutside b c d e h = absurd (omega arith)
below_2 kind.StackOutside b c d e h = absurd (omega arith)
below_2 kind.RamClosed b c d e h = absurd (omega arith)
below_2 kind.TransferMet b c d e h = absurd (omega arith)

below_3 : (k : FaultKind) (c d e : Bool) → fault_number k < 3 → has_fault k (of false false c d e) ≡ false
below_3 kind.UndefinedOpcode c d e h = refl
below_3 kind.FetchedOutside c d e h = refl
below_3 kind.StackOutside c d e h = absurd (omega arith)
below_3 kind.RamClosed c d e h = absurd (omega arith)
below_3 kind.TransferMet c d e h = absurd (omega arith)

below_4 : (k : FaultKind) (d e : Bool) → fault_number k < 4 → has_fault k (of false false false d e) ≡ false
below_4 kind.UndefinedOpcode d e h = refl
below_4 kind.FetchedOutside d e h = refl
below_4 kind.StackOutside d e h = refl
below_4 kind.RamClosed d e h = absurd (omega arith)
below_4 kind.TransferMet d e h = absurd (omega arith)

below_5 : (k : FaultKind) (e : Bool) → fault_number k < 5 → has_fault k (of false false false false e) ≡ false
below_5 kind.UndefinedOpcode e h = refl
below_5 kind.FetchedOutside e h = refl
below_5 kind.StackOutside e h = refl
below_5 kind.RamClosed e h = refl
below_5 kind.TransferMet e h = absurd (omega arith)

below_1 : (k : FaultKind) (f : Faults) → fault_number k < 1 → has_fault k f ≡ false
below_1 kind.UndefinedOpcode f h = absurd (omega arith)
below_1 kind.FetchedOutside f h = absurd (omega arith)
below_1 kind.StackOutside f h = absurd (omega arith)
below_1 kind.RamClosed f h = absurd (omega arith)
below_1 kind.TransferMet f h = absurd (omega arith)

by_parts : (a b c d e : Bool) → of a b c d e ≢ no_faults → IsLowestOf (of a b c d e) (lowest_fault (of a b c d e))
unfolding lowest_fault
by_parts true b c d e h = record { applies = refl; least = λ k lt. below_1 k (of true b c d e) lt }
by_parts false true c d e h = record { applies = refl; least = λ k lt. below_2 k true c d e lt }
by_parts false false true d e h = record { applies = refl; least = λ k lt. below_3 k true d e lt }
by_parts false false false true e h = record { applies = refl; least = λ k lt. below_4 k true e lt }
by_parts false false false false true h = record { applies = refl; least = λ k lt. below_5 k true lt }
by_parts false false false false false h = absurd (h refl)

pub lowest_applies : LowestFaultApplies
lowest_applies f h = by_parts f.undefined_opcode f.fetched_outside f.stack_outside f.ram_closed f.transfer_met h
