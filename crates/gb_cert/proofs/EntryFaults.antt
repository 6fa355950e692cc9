-- Asking the procedures of any version for what is wrong with their entries, one after the other, by their places.
use Rattle.std.proofs.Common.{◌≡◌, ℕ, ◌+◌, ◌<◌, ◌≤◌, true, false, List, ◌∷◌, length, drop, get_or, Option, Some, None, refl, ap, ◌∙◌, add-one, drop-cons}
use Rattle.std.specs.Prelude.{is_some}
use Rattle.std.proofs.lemmas.List.{drop_all}
use Rattle.gb_states.specs.Below.gb_fields.declared.fault.CertFault.{CertFault}
use Rattle.gb_states.specs.WholeReading.{or_else}
use Rattle.gb_cert.specs.Entries.{entry_fault_at, entries_fault_at}

-- the first of those that are left, and the others
pub one_entry : (version number i : ℕ) (bytes nodes places ps : List ℕ) → i < length ps
    → entries_fault_at version bytes nodes places number (drop i ps) ≡ or_else (entry_fault_at version bytes nodes places number (get_or ps i 0)) (entries_fault_at version bytes nodes places (number + 1) (drop (i + 1) ps))
unfolding entries_fault_at
one_entry version number i bytes nodes places ps lt =
    let e : drop i ps ≡ get_or ps i 0 ∷ drop (i + 1) ps = drop-cons ps i 0 lt ∙ rw add-one refl in
    ap (λ (qs : List ℕ). entries_fault_at version bytes nodes places number qs) e

pub no_entry : (version number i : ℕ) (bytes nodes places ps : List ℕ) → length ps ≤ i → entries_fault_at version bytes nodes places number (drop i ps) ≡ None
unfolding entries_fault_at
no_entry version number i bytes nodes places ps le = ap (λ (qs : List ℕ). entries_fault_at version bytes nodes places number qs) (drop_all i ps le)

pub some_fault : (o p total : Option CertFault) → is_some o ≡ true → or_else o p ≡ total → o ≡ total
some_fault (Some e) p total h g = g
some_fault None p total h g = cc

pub no_fault : (o p total : Option CertFault) → is_some o ≡ false → or_else o p ≡ total → p ≡ total
no_fault (Some e) p total h g = cc
no_fault None p total h g = g
