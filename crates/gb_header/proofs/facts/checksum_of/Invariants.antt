use Rattle.std.proofs.Common.{◌≡◌, take}
use Rattle.std.specs.List.{fold}
use Rattle.gb_header.specs.Header.{checksum_after}
use Rattle.gb_header.proofs.facts.checksum_of.Given as goal

abbrev pub invariant-loop-byte : goal.invariant-loop-byte
invariant-loop-byte l = l.sum ≡ fold checksum_after 0 (take l.byte-index l.byte-items)
