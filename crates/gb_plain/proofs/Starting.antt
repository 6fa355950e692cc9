-- What answers a read, and how large the storage is, does not rest on whether a transfer starts as the event ends.
use Rattle.std.proofs.Common.{◌≡◌, ℕ, Bool, List, length, refl}
use Rattle.gb_ops.specs.declared.machine.Mapped.{Mapped}
use Rattle.gb_ops.specs.declared.machine.Mapped.TheVariants as mapped
use Rattle.gb_ops.specs.Memory.{place_by, place_of, byte_by, byte_at, is_free, mapped_at}
use Rattle.gb_ops.specs.Play.{MState}
use Rattle.gb_ops.specs.ReadsBack.{IsSized}
use Rattle.gb_plain.specs.Shown.{shown, resting}

by_place : (to : Mapped) (rom : List ℕ) (s : MState) (starting : Bool) (a : ℕ) → place_by to (resting rom s) a ≡ place_by to (shown rom s starting) a
by_place mapped.Rom rom s starting a = refl
by_place mapped.CartridgeRam rom s starting a = refl
by_place (mapped.WorkRam i) rom s starting a = refl
by_place (mapped.HighRam i) rom s starting a = refl
by_place mapped.InterruptEnable rom s starting a = refl
by_place mapped.Transfer rom s starting a = refl
by_place mapped.Hardware rom s starting a = refl

by_byte : (to : Mapped) (rom : List ℕ) (s : MState) (starting : Bool) (a : ℕ) → byte_by to (resting rom s) a ≡ byte_by to (shown rom s starting) a
by_byte mapped.Rom rom s starting a = refl
by_byte mapped.CartridgeRam rom s starting a = refl
by_byte (mapped.WorkRam i) rom s starting a = refl
by_byte (mapped.HighRam i) rom s starting a = refl
by_byte mapped.InterruptEnable rom s starting a = refl
by_byte mapped.Transfer rom s starting a = refl
by_byte mapped.Hardware rom s starting a = refl

pub place_is : (rom : List ℕ) (s : MState) (starting : Bool) (a : ℕ) → place_of (resting rom s) a ≡ place_of (shown rom s starting) a
unfolding place_of
place_is rom s starting a = rw (by_place (mapped_at a) rom s starting a) refl

pub free_is : (rom : List ℕ) (s : MState) (starting : Bool) (a : ℕ) → is_free (resting rom s) a ≡ is_free (shown rom s starting) a
unfolding is_free
free_is rom s starting a = rw (place_is rom s starting a) refl

pub byte_is : (rom : List ℕ) (s : MState) (starting : Bool) (a : ℕ) → byte_at (resting rom s) a ≡ byte_at (shown rom s starting) a
unfolding byte_at
byte_is rom s starting a = by_byte (mapped_at a) rom s starting a

pub sized_is : (rom : List ℕ) (s : MState) (starting : Bool) → length s.storage.work ≡ 8192 → length s.storage.high ≡ 127 → IsSized (shown rom s starting)
sized_is rom s starting work high = record { work = work; high = high }
