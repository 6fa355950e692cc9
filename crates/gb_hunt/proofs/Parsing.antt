-- A cartridge that is accepted is the bytes that it was read from.
use Rattle.std.proofs.Common.{◌≡◌, ℕ, List, Option, Some, None, Ok, Err}
use Rattle.gb_header.specs.declared.fault.HeaderFault.{HeaderFault}
use Rattle.gb_header.specs.Header.{parsed, taken_or, fault_of}

by_fault : (o : Option HeaderFault) (bytes rom : List ℕ) → Ok rom ≡ taken_or o bytes → rom ≡ bytes
by_fault None bytes rom e = let is : Ok rom ≡ Ok bytes = e in cc
by_fault (Some f) bytes rom e = absurd (let bad : Ok rom ≡ Err f = e in cc)

pub parsed_is : (bytes rom : List ℕ) → Ok rom ≡ parsed bytes → rom ≡ bytes
unfolding parsed
parsed_is bytes rom e = by_fault (fault_of bytes) bytes rom e
