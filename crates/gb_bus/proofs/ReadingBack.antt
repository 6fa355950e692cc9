-- The console's memory reads back what was written to it last.
use Rattle.std.proofs.Common.{◌≡◌, ℕ, true, false, sym, ap, ◌∙◌, List, [], ◌∷◌}
use Rattle.gb_ops.specs.Memory.{is_closed, byte_at}
use Rattle.gb_ops.specs.Accesses.{Access, Joined, Reads, Writes, Passes, Acknowledges}
use Rattle.gb_ops.specs.ReadsBack.{is_plain, IsSized, AreAddresses, after_access, after_accesses, last_written}
use Rattle.gb_ops.proofs.ReadingBack.{plain_fixed, reads_back}
use Rattle.gb_bus.specs.Contents.{Contents}
use Rattle.gb_bus.specs.Screen.{pictured}
use Rattle.gb_bus.specs.Access.{IsAccessed, byte_read, advanced, acknowledged}
use Rattle.gb_bus.proofs.Reading.{fixed_is, write_shows}

-- what a bus shows after an access
access_shows : (old new : Contents) (x : Access) → IsAccessed old x new → new.view ≡ after_access old.view x
unfolding after_access advanced pictured acknowledged
access_shows old new (Reads a v) h = ap (λ (c : Contents). c.view) h.1
access_shows old new (Writes a v) h = ap (λ (c : Contents). c.view) h ∙ write_shows old a v
access_shows old new (Passes n) h = ap (λ (c : Contents). c.view) h
access_shows old new (Acknowledges i) h = ap (λ (c : Contents). c.view) h

joined_shows : (old new : Contents) (accesses : List Access) → Joined IsAccessed old accesses new → new.view ≡ after_accesses old.view accesses
unfolding after_accesses
joined_shows old new [] h = ap (λ (c : Contents). c.view) h
joined_shows old new (x ∷ rest) h =
    joined_shows h.0 new rest h.2 ∙ ap (λ m. after_accesses m rest) (access_shows old h.0 x h.1)

pub memory_reads_back : (old new : Contents) (accesses : List Access) (b : ℕ) → IsSized old.view → AreAddresses accesses
    → Joined IsAccessed old accesses new → is_plain b ≡ true → is_closed new.view.storage b ≡ false
    → byte_read new b ≡ last_written old.view accesses b (byte_at old.view b)
memory_reads_back old new accesses b sized small joined plain opened =
    sym (fixed_is new b (plain_fixed new.view b plain opened)) ∙ ap (λ m. byte_at m b) (joined_shows old new accesses joined)
    ∙ reads_back old.view accesses b sized small plain
