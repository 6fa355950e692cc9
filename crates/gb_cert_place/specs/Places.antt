-- The place of a fault, from where a walk stopped.
use Rattle.std.specs.Prelude.{ℕ, ◌+◌, ◌-◌, ◌≤◌, Bool, true, false, List, Option, Some, None, ◌≡◌, length, Ok, Err}
use Rattle.gb_fields.specs.declared.fault.CertFault.{CertFault}
use Rattle.gb_fields.specs.declared.fault.CertFault.TheVariants as fault
use Rattle.gb_domain.specs.Certificate.{Certificate}
use Rattle.gb_states.specs.WholeReading.{read_certificate}
use Rattle.gb_cert.specs.Skipping.{skipped}
use Rattle.gb_states.specs.WholeSpelling.{Spells}
use Rattle.gb_cert_place.specs.declared.block.Part.TheVariants as part
use Rattle.gb_cert_place.specs.declared.field.Field.TheVariants as field
use Rattle.gb_cert_place.specs.declared.place.Sought.{Sought}
use Rattle.gb_cert_place.specs.declared.place.Sought.TheVariants as sought
use Rattle.gb_cert_place.specs.declared.block.Stop.{Stop}
use Rattle.gb_cert_place.specs.declared.field.Field.{Field}
use Rattle.gb_cert_place.specs.declared.place.FaultPlace.{FaultPlace}
use Rattle.gb_cert_place.specs.Layout.{layout, Contains, field_at}
use Rattle.gb_cert_place.specs.Standing.{InCertificate}
use Rattle.gb_cert_place.specs.Stops.{is_missing, IsFaultAt, StopsIn, parts_at}

abbrev pub byte_by : Bool → ℕ → ℕ
byte_by true taken = taken
byte_by false taken = taken - 1

-- the byte that the fault falls on, of a block of which so many bytes were taken: the one that is missing, or the last
abbrev pub fault_byte : CertFault → ℕ → ℕ
fault_byte e taken = byte_by (is_missing e) taken

-- the same of a stop in its block
abbrev pub byte_of : Stop → ℕ
byte_of stop = fault_byte stop.fault (stop.before - stop.left)

-- the field in which a walk over so many bytes stopped
abbrev pub place_of : ℕ → Stop → FaultPlace
place_of length stop = record {
  fault = stop.fault;
  part = stop.part;
  field = (field_at stop.block (byte_of stop)).0;
  offset = length - stop.before + (field_at stop.block (byte_of stop)).1;
  end = length - stop.left;
}

abbrev pub is_memory : CertFault → Bool
is_memory fault.CutShort = false
is_memory fault.Magic = false
is_memory fault.Version = false
is_memory fault.Count = false
is_memory fault.Field = false
is_memory fault.Order = false
is_memory fault.Region = false
is_memory fault.LeftOver = false
is_memory fault.Memory = true

abbrev pub behind_field : CertFault → Field
behind_field fault.CutShort = field.Entries
behind_field fault.Magic = field.Entries
behind_field fault.Version = field.Entries
behind_field fault.Count = field.Entries
behind_field fault.Field = field.Entries
behind_field fault.Order = field.Entries
behind_field fault.Region = field.Entries
behind_field fault.LeftOver = field.LeftOver
behind_field fault.Memory = field.Entries

-- the place of a fault behind the last node
abbrev pub behind : ℕ → CertFault → FaultPlace
behind stop e = record { fault = e; part = part.End; field = behind_field e; offset = stop; end = stop }

-- The field of the place contains the byte that the fault falls on: it has this width, and what decides ends within it.
pub record FallsIn (length : ℕ) (s : Stop) (width : ℕ) : Type 0 where
  pub contains : Contains (layout s.block) (byte_of s) (field_at s.block (byte_of s)).0 (field_at s.block (byte_of s)).1 width
  pub ends : (place_of length s).end ≤ (place_of length s).offset + width

-- The place is that of a field of a block. The block stands there, in this part of the certificate, by all that is before it, which
-- can be read; and it has the fault by its own rule. Or each field is right by itself, and the fault is behind the last node.
pub data IsFound (bytes : List ℕ) : FaultPlace → Type 0 where
  InField : {s : Stop} {width : ℕ} → StopsIn (InCertificate bytes) s → FallsIn (length bytes) s width → IsFound bytes (place_of (length bytes) s)
  AtEnd : (rest : List ℕ) (e : CertFault) → skipped parts_at bytes ≡ Ok rest → IsFound bytes (behind (length bytes - length rest) e)

-- The bytes are a certificate, or have this fault, unless it is memory's.
abbrev pub IsFaultOf : List ℕ → Option CertFault → Type 0
IsFaultOf bytes None = (c : Certificate) × Spells bytes c
IsFaultOf bytes (Some e) = (e ≡ fault.Memory → ⊥) → read_certificate bytes ≡ Err e

-- What is said of the bytes is right: they are a certificate, or reading stops there with that fault. Memory runs out only
-- where each field is right by itself.
abbrev pub IsAnswer : List ℕ → Sought → Type 0
IsAnswer bytes sought.Certificate = (c : Certificate) × Spells bytes c
IsAnswer bytes (sought.Fault p) = IsFaultAt bytes p.fault p.end × IsFound bytes p
IsAnswer bytes sought.NoMemory = (rest : List ℕ) × (skipped parts_at bytes ≡ Ok rest)
