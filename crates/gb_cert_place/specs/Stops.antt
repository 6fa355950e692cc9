-- Where reading stops: the least number of bytes that decide.
use Rattle.std.specs.Prelude.{◌≡◌, ℕ, Bool, true, false, ◌-◌, ◌≤◌, ◌<◌, List, ◌++◌, length, take, Result, Ok, Err}
use Rattle.gb_fields.specs.declared.fault.CertFault.{CertFault}
use Rattle.gb_fields.specs.declared.fault.CertFault.TheVariants as fault
use Rattle.gb_domain.specs.Certificate.{Certificate}
use Rattle.gb_fields.specs.Format.{Read, followed}
use Rattle.gb_fields.specs.Reading.{any_head_at}
use Rattle.gb_states.specs.WholeReading.{Parts, behind_head, read_certificate}
use Rattle.gb_cert.specs.Skipping.{skipped}
use Rattle.gb_cert_place.specs.declared.block.Block.{Block}
use Rattle.gb_cert_place.specs.declared.block.Part.{Part}
use Rattle.gb_cert_place.specs.declared.block.Stop.{Stop}
use Rattle.gb_cert_place.specs.Blocks.{read_block}

-- The fault says only that bytes are missing.
abbrev pub is_missing : CertFault → Bool
is_missing fault.CutShort = true
is_missing fault.Magic = false
is_missing fault.Version = false
is_missing fault.Count = false
is_missing fault.Field = false
is_missing fault.Order = false
is_missing fault.Region = false
is_missing fault.LeftOver = false
is_missing fault.Memory = false

-- Reading meets this fault, and stops behind so many of the bytes. Fewer of them say only that bytes are missing. These
-- have the fault, whatever follows. Where bytes are missing, it stops at their end.
pub record StopsAt {Y : Type 0} (read : List ℕ → Result Y CertFault) (bytes : List ℕ) (e : CertFault) (stop : ℕ) : Type 0 where
  pub meets : read bytes ≡ Err e
  pub within : stop ≤ length bytes
  pub before : (j : ℕ) → j < stop → read (take j bytes) ≡ Err fault.CutShort
  pub decided : (more : List ℕ) → (e ≡ fault.CutShort → ⊥) → read (take stop bytes ++ more) ≡ Err e
  pub cut : e ≡ fault.CutShort → stop ≡ length bytes

-- The same of what a walk found, which counts the bytes that are left, also before its block.
pub record Stopped {X : Type 0} (read : Read X) (bytes : List ℕ) (s : Stop) : Type 0 where
  pub order : s.left ≤ s.before
  pub few : s.before ≤ length bytes
  pub stops : StopsAt read bytes s.fault (length bytes - s.left)

-- The walk stopped in a block that stands where the relation says: the block's bytes, read by its rule, have the fault and stop there.
pub record StopsIn (stands_at : Part → Block → List ℕ → Type 0) (s : Stop) : Type 0 where
  pub rest : List ℕ
  pub stands : stands_at s.part s.block rest
  pub size : length rest ≡ s.before
  pub stops : StopsAt (read_block s.block) rest s.fault (s.before - s.left)

-- A walk over a part passes it, or stops where reading does.
abbrev pub Walks : {A X : Type 0} → (A → List ℕ) → Result A Stop → Read X → List ℕ → Type 0
Walks view (Ok rest) read bytes = skipped read bytes ≡ Ok (view rest)
Walks view (Err s) read bytes = Stopped read bytes s

-- The same where the part has a value that is kept.
abbrev pub Finds : {A X : Type 0} → (A → X × List ℕ) → Result A Stop → Read X → List ℕ → Type 0
Finds view (Ok x) read bytes = read bytes ≡ Ok (view x)
Finds view (Err s) read bytes = Stopped read bytes s

-- ---- certificates

-- the head, the facts, the procedures and the nodes
unfoldable pub parts_at : Read Parts
parts_at = followed any_head_at behind_head

-- The bytes have this fault, and so many of them decide. Left-over bytes are those behind a certificate.
pub data IsFaultAt (bytes : List ℕ) : CertFault → ℕ → Type 0 where
  Decided : {e : CertFault} {stop : ℕ} → StopsAt read_certificate bytes e stop → IsFaultAt bytes e stop
  Behind : {stop : ℕ} → read_certificate bytes ≡ Err fault.LeftOver → stop < length bytes → (c : Certificate) → read_certificate (take stop bytes) ≡ Ok c
      → ((j : ℕ) → j < stop → read_certificate (take j bytes) ≡ Err fault.CutShort) → IsFaultAt bytes fault.LeftOver stop
