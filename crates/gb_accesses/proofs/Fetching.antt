-- What reads give, over plain values.
use Rattle.std.proofs.Common.{◌≡◌, ℕ, ◌+◌, ◌%◌, Bool, true, false, List, [], ◌∷◌, refl, nat_le}
use Rattle.std.specs.Bool.{OnFalse}
use Rattle.gb_ops.specs.declared.registers.Processor.{Processor}
use Rattle.gb_ops.specs.declared.machine.Read.TheVariants as read
use Rattle.gb_ops.specs.Memory.{View, is_free, byte_at}
use Rattle.gb_ops.specs.Machine.{read_at, read_where, fetched, loaded, length_of, second_address, third_address}
use Rattle.gb_accesses.specs.Access.{Gave, queued, queued_two}

-- a byte that the bus gave, free or not
pub gave : (m : View) (address byte : ℕ) (f : Bool) → f ≡ is_free m address → OnFalse (is_free m address) (byte_at m address ≡ byte) → Gave true m address f byte
unfolding read_where read_at
gave m address byte true is fixed free = rw (← is) refl
gave m address byte false is fixed free =
    let at : byte_at m address ≡ byte = rw (← is) at fixed in rw (← is, at) refl

-- three bytes that the bus gave are what is fetched from the free ones among them
pub fetched_is :
    (m : View) (p : Processor) (b0 b1 b2 : ℕ) (f0 f1 f2 : Bool)
    → Gave true m p.pc f0 b0
    → Gave (nat_le 2 (length_of b0)) m (second_address p) f1 b1
    → Gave (nat_le 3 (length_of b0)) m (third_address p) f2 b2
    → fetched m p (queued f0 b0 (queued f1 b1 (queued f2 b2 (0 ∷ 0 ∷ 0 ∷ [])))) ≡ b0 ∷ b1 ∷ b2 ∷ []
unfolding fetched read_where
fetched_is m p b0 b1 b2 true true true h0 h1 h2 = simp (h0, h1, h2)
fetched_is m p b0 b1 b2 true true false h0 h1 h2 = simp (h0, h1, h2)
fetched_is m p b0 b1 b2 true false true h0 h1 h2 = simp (h0, h1, h2)
fetched_is m p b0 b1 b2 true false false h0 h1 h2 = simp (h0, h1, h2)
fetched_is m p b0 b1 b2 false true true h0 h1 h2 = simp (h0, h1, h2)
fetched_is m p b0 b1 b2 false true false h0 h1 h2 = simp (h0, h1, h2)
fetched_is m p b0 b1 b2 false false true h0 h1 h2 = simp (h0, h1, h2)
fetched_is m p b0 b1 b2 false false false h0 h1 h2 = simp (h0, h1, h2)

pub nothing_is : (m : View) (free : List ℕ) → loaded m read.Nothing free ≡ record { low = 0; high = 0 }
unfolding loaded
nothing_is m free = refl

pub byte_is :
    (m : View) (address b : ℕ) (f : Bool)
    → Gave true m address f b
    → loaded m (read.Byte address) (queued_two f b (0 ∷ 0 ∷ [])) ≡ record { low = b; high = 0 }
unfolding loaded read_where
byte_is m address b true h = simp h
byte_is m address b false h = simp h

pub word_is :
    (m : View) (address b0 b1 : ℕ) (f0 f1 : Bool)
    → Gave true m address f0 b0
    → Gave true m ((address + 1) % 65536) f1 b1
    → loaded m (read.Word address) (queued_two f0 b0 (queued_two f1 b1 (0 ∷ 0 ∷ []))) ≡ record { low = b0; high = b1 }
unfolding loaded read_where
word_is m address b0 b1 true true h0 h1 = simp (h0, h1)
word_is m address b0 b1 true false h0 h1 = simp (h0, h1)
word_is m address b0 b1 false true h0 h1 = simp (h0, h1)
word_is m address b0 b1 false false h0 h1 = simp (h0, h1)
