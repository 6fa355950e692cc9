use Rattle.std.proofs.Common.{◌≡◌, ◌++◌, take}
use Rattle.std.specs.List.{flat_map}
use Rattle.gb_states.specs.Numbers as spelled
use Rattle.gb_cert.proofs.spelled_whole.put_kept_addresses.Given as goal

abbrev pub invariant-loop-address : goal.invariant-loop-address
invariant-loop-address l = l.out.items ≡ l.initial.out.items ++ flat_map spelled.word (take l.address-index l.addresses)
