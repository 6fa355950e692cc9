-- The console's memory reads back (Memory map; Echo RAM): a byte of plain storage is what was written last.
use Rattle.std.specs.Prelude.{ℕ, ◌≡◌, true, false, List}
use Rattle.gb_ops.specs.Memory.{is_closed, byte_at}
use Rattle.gb_ops.specs.Accesses.{Access, Joined}
use Rattle.gb_ops.specs.ReadsBack.{is_plain, IsSized, AreAddresses, last_written}
use Rattle.gb_bus.specs.Contents.{Contents}
use Rattle.gb_bus.specs.Access.{IsAccessed, byte_read}

-- after any accesses, a read that no transfer closes gives what they wrote last to the byte at b, or
-- what it was before them
abbrev pub ReadsBack : Type 0
ReadsBack =
    (old new : Contents) (accesses : List Access) (b : ℕ) → IsSized old.view → AreAddresses accesses
    → Joined IsAccessed old accesses new → is_plain b ≡ true → is_closed new.view.storage b ≡ false
    → byte_read new b ≡ last_written old.view accesses b (byte_at old.view b)
