-- The entries of procedures, by the places of procedures and nodes in the bytes of a certificate.
use Rattle.std.specs.Prelude.{ℕ, ◌+◌, ◌-◌, Bool, not, ◌||◌, ◌==◌, nat_le, nat_lt, false, List, [], ◌∷◌, drop, slice_get, Option, Some, None, Result, Ok, Err}
use Rattle.gb_states.specs.Below.gb_fields.declared.fault.CertFault.{CertFault}
use Rattle.gb_states.specs.Below.gb_fields.Format.{both}
use Rattle.gb_states.specs.Below.gb_fields.Limits.{namesake_limit}
use Rattle.gb_states.specs.Below.gb_fields.Reading.{word, node_number}
use Rattle.gb_states.specs.WholeReading.{number_by, fault_by, or_else}

-- the key of a node: the number of its procedure, and its address
abbrev pub Key : Type 0
Key = ℕ × ℕ

abbrev pub key_found : Result (Key × List ℕ) CertFault → Option Key
key_found (Ok p) = Some p.0
key_found (Err e) = None

-- of the node at this place, if there is one
abbrev pub key_at_place : Bool → List ℕ → Option ℕ → Option Key
key_at_place fourth bytes None = None
key_at_place fourth bytes (Some place) = key_found (both (number_by fourth) word (drop place bytes))

abbrev pub entry_found : Bool → List ℕ → List ℕ → Result (ℕ × List ℕ) CertFault → Option Key
entry_found fourth bytes nodes (Ok p) = key_at_place fourth bytes (slice_get nodes p.0)
entry_found fourth bytes nodes (Err e) = None

-- the key of the entry node of the procedure at this place
unfoldable pub entry_key : ℕ → List ℕ → List ℕ → ℕ → Option Key
entry_key version bytes nodes place = entry_found (version == 4) bytes nodes (node_number version (drop place bytes))

abbrev pub address_of : Option Key → ℕ
address_of None = 0
address_of (Some k) = k.1

abbrev pub is_of_number : ℕ → Option Key → Bool
is_of_number number None = false
is_of_number number (Some k) = k.0 == number

-- where the procedure at this place begins, if there is one
abbrev pub entry_address : ℕ → List ℕ → List ℕ → Option ℕ → ℕ
entry_address version bytes nodes None = 0
entry_address version bytes nodes (Some place) = address_of (entry_key version bytes nodes place)

unfoldable pub is_in_order_at : ℕ → List ℕ → List ℕ → List ℕ → ℕ → Bool
is_in_order_at version bytes nodes places number = nat_lt number 2 || nat_le (entry_address version bytes nodes (slice_get places (number - 1))) (entry_address version bytes nodes (slice_get places number))

unfoldable pub is_uncrowded_at : ℕ → List ℕ → List ℕ → List ℕ → ℕ → Bool
is_uncrowded_at version bytes nodes places number =
    nat_le number namesake_limit || not (entry_address version bytes nodes (slice_get places number) == entry_address version bytes nodes (slice_get places (number - namesake_limit)))

-- what is wrong with the entry of the procedure with this number, at this place
unfoldable pub entry_fault_at : ℕ → List ℕ → List ℕ → List ℕ → ℕ → ℕ → Option CertFault
entry_fault_at version bytes nodes places number place =
    fault_by (not (version == 4) || is_uncrowded_at version bytes nodes places number) (is_of_number number (entry_key version bytes nodes place)) (not (version == 4) || is_in_order_at version bytes nodes places number)

-- what is wrong with the first entry that is wrong; the first of these procedures has this number
unfoldable pub entries_fault_at : ℕ → List ℕ → List ℕ → List ℕ → ℕ → List ℕ → Option CertFault
entries_fault_at version bytes nodes places number [] = None
entries_fault_at version bytes nodes places number (q ∷ qs) = or_else (entry_fault_at version bytes nodes places number q) (entries_fault_at version bytes nodes places (number + 1) qs)
