use Rattle.std.proofs.Common.{◌≡◌, false, ◌++◌, length, take}
use Rattle.std.specs.List.{flat_map, list_any}
use Rattle.gb_cert.specs.Spelled as by_version
use Rattle.gb_cert.specs.Written.{form_of, node_of, has_no_owner}
use Rattle.gb_cert.proofs.writer.put_nodes.Given as goal

abbrev pub invariant-loop-node : goal.invariant-loop-node
invariant-loop-node l = record {
  written : l.out.items ≡ l.initial.out.items ++ flat_map (λ n. by_version.node l.version l.region (form_of l.procedures) (node_of n)) (take l.node-index l.nodes);
  owners : list_any (has_no_owner (length l.procedures)) (take l.node-index l.nodes) ≡ false;
}
