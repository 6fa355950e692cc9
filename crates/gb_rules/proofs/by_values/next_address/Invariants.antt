use Rattle.std.proofs.Common.{◌≡◌, ℕ, ◌≤◌, ◌<◌, true, Some, slice_get}
use Rattle.std.specs.Prelude.{IfSome}
use Rattle.std.specs.List.{list_any}
use Rattle.gb_successors.specs.Below.gb_domain.Types.{Node}
use Rattle.gb_successors.specs.Below.gb_abs.Cells.{is_at}
use Rattle.gb_rules.specs.Covered.{has_cell_there, IsUpTo}
use Rattle.gb_rules.proofs.by_values.next_address.Given as goal

abbrev pub invariant-loop-number : goal.invariant-loop-number
invariant-loop-number l = record {
  some : IfSome l.next (λ at. (l.fn.least ≤ at) × (has_cell_there l.fn.nodes.cert.now.nodes l.fn.nodes.procedure l.fn.nodes.address at ≡ true));
  first :
      (i at : ℕ) (n : Node) → l.fn.nodes.found.now.first ≤ i → i < l.number → slice_get l.fn.nodes.cert.now.nodes i ≡ Some n
      → l.fn.least ≤ at → list_any (is_at at) n.state.cells ≡ true → IsUpTo l.next at;
}
