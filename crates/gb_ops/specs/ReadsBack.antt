-- Plain storage reads back what was written last (Memory map; Echo RAM; OAM DMA transfer; own: what a
-- transfer closes is not written).
use Rattle.std.specs.Prelude.{ℕ, ◌-◌, ◌<◌, Bool, true, false, ◌≡◌, ◌==◌, ◌&&◌, ◌||◌, not, if◌then◌else◌, List, [], ◌∷◌, length}
use Rattle.gb_ops.specs.Cartridge.{is_within}
use Rattle.gb_ops.specs.Memory.{View, is_closed, is_free, byte_at, wrote, passed}
use Rattle.gb_ops.specs.Accesses.{Access, Reads, Writes, Passes, Acknowledges}

-- ---- the bytes of plain storage

-- work RAM with its echo, high RAM, and IE
unfoldable pub is_plain : ℕ → Bool
is_plain a = is_within 0xC000 0xFDFF a || is_within 0xFF80 0xFFFF a

-- the address of a byte without the echo: E000-FDFF are the bytes of C000-DDFF
unfoldable pub unechoed : ℕ → ℕ
unechoed a = if is_within 0xE000 0xFDFF a then a - 0x2000 else a

-- whether two addresses have the same byte
unfoldable pub is_same_byte : ℕ → ℕ → Bool
is_same_byte a b = unechoed a == unechoed b

-- the sizes of work RAM and high RAM
pub record IsSized (m : View) : Type 0 where
  pub work : length m.storage.work ≡ 8192
  pub high : length m.storage.high ≡ 127

-- ---- what was written last

-- what a bus shows after an access, and after several
unfoldable pub after_access : View → Access → View
after_access m (Reads a v) = m
after_access m (Writes a v) = wrote m a v
after_access m (Passes n) = passed m n
after_access m (Acknowledges i) = m

unfoldable pub after_accesses : View → List Access → View
after_accesses m [] = m
after_accesses m (x ∷ rest) = after_accesses (after_access m x) rest

-- a byte after an access: what is written to it, where no transfer closes the address of the write
unfoldable pub byte_after : View → Access → ℕ → ℕ → ℕ
byte_after m (Writes a v) b byte = if is_same_byte a b && not (is_closed m.storage a) then v else byte
byte_after m _ b byte = byte

-- what the accesses wrote last to the byte at b; where they wrote nothing there, the byte as it was
unfoldable pub last_written : View → List Access → ℕ → ℕ → ℕ
last_written m [] b byte = byte
last_written m (x ∷ rest) b byte = last_written (after_access m x) rest b (byte_after m x b byte)

-- what is written is written to addresses
abbrev pub AreAddresses : List Access → Type 0
AreAddresses [] = Unit {0}
AreAddresses (Writes a v ∷ rest) = (a < 65536) × AreAddresses rest
AreAddresses (x ∷ rest) = AreAddresses rest

-- ---- the laws

-- a write of v to plain storage at a that no transfer closes: each address of the byte reads v, all
-- other bytes stay, and so do the cartridge and its controller
pub record IsStored (m : View) (a v : ℕ) : Type 0 where
  pub byte : (b : ℕ) → is_same_byte a b ≡ true → byte_at (wrote m a v) b ≡ v
  pub fixed : (b : ℕ) → is_same_byte a b ≡ true → is_closed m.storage b ≡ false → is_free (wrote m a v) b ≡ false
  pub others : (b : ℕ) → b < 65536 → is_same_byte a b ≡ false → byte_at (wrote m a v) b ≡ byte_at m b
  pub rom : (wrote m a v).rom ≡ m.rom
  pub controller : (wrote m a v).storage.banks ≡ m.storage.banks

abbrev pub WritesAreStored : Type 0
WritesAreStored =
    (m : View) (a v : ℕ) → IsSized m → is_plain a ≡ true → is_closed m.storage a ≡ false → IsStored m a v

-- after any accesses each byte of plain storage is what was written to it last, and the ROM stays
abbrev pub ReadsBack : Type 0
ReadsBack =
    (m : View) (accesses : List Access) (b : ℕ) → IsSized m → AreAddresses accesses → is_plain b ≡ true
    → byte_at (after_accesses m accesses) b ≡ last_written m accesses b (byte_at m b)

abbrev pub RomStays : Type 0
RomStays = (m : View) (accesses : List Access) → (after_accesses m accesses).rom ≡ m.rom
