use Rattle.std.proofs.Common.{◌≡◌, drop}
use Rattle.gb_cert.specs.Entries.{entries_fault_at}
use Rattle.gb_cert.proofs.order.entries_fault_at.Given as goal

abbrev pub invariant-loop-place : goal.invariant-loop-place
invariant-loop-place l = record {
  number : l.number ≡ l.place-index;
  rest : entries_fault_at l.version l.bytes l.nodes l.procedures l.number (drop l.place-index l.procedures) ≡ entries_fault_at l.version l.bytes l.nodes l.procedures 0 l.procedures;
}
