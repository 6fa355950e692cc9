-- Bytes that lie in the stack region.
use Rattle.std.proofs.Common.{ℕ, ◌≤◌, arith}
use Rattle.gb_ops.specs.declared.machine.Region.{Region}
use Rattle.gb_successors.specs.Below.gb_abs.Stack.{AreInRegion}

-- fewer bytes than the need have room
pub fewer_bytes : (region : Region) (base need bytes : ℕ) → AreInRegion region base need → bytes ≤ need → AreInRegion region base bytes
fewer_bytes region base need bytes room le =
    let first = room.first in
    record { first = omega arith; last = room.last }
