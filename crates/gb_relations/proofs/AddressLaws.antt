-- Where a byte is stored or read, as far as that is known, and which addresses those are.
use Rattle.std.proofs.Common.{◌≡◌, ℕ, ◌-◌, ◌≤◌, Bool, true, false, not, ◌&&◌, ◌||◌, cond, nat_le, Option, Some, None, refl, subst, arith}
use Rattle.std.proofs.lemmas.Bool.Decides.{nat_tests}
use Rattle.std.proofs.lemmas.Bool.{and_parts, eqb-true}
use Rattle.gb_ops.specs.declared.machine.Region.{Region}
use Rattle.gb_domain.specs.declared.pairs.Bounds.{Bounds}
use Rattle.gb_domain.specs.declared.places.Place.{Place}
use Rattle.gb_domain.specs.declared.places.Place.TheVariants as place
use Rattle.gb_domain.specs.declared.places.StackBytes.{StackBytes}
use Rattle.gb_domain.specs.Areas.{meets, is_item, is_place_at}
use Rattle.gb_pairs.specs.Bounds.{is_one}
use Rattle.gb_relations.specs.Places.{is_ram, is_free, place_if, free_place, stored_place, is_echo, behind_echo, loaded_place, stored_at, place_read, loaded_at}

-- a place that is known is this address, one where a byte may be one
abbrev pub IsAt : (ℕ → Bool) → ℕ → Option Place → Type 0
IsAt may_be a None = Unit {0}
IsAt may_be a (Some p) = (p ≡ place.Address a) × (may_be a ≡ true)

pub free-ram : (region : Region) (a : ℕ) → is_free region a ≡ true → is_ram a ≡ true
free-ram region a h = (and_parts (is_ram a) (not (meets region a a)) h).0

pub placed-ram : (stack : StackBytes) (a : ℕ) → is_place_at stack a ≡ true → is_ram a ≡ true
placed-ram stack a h =
    (and_parts (nat_le a a) (is_ram a) (and_parts (nat_le a a && is_ram a) (not (meets stack.region a a) || is_item stack.base stack.count a) h).0).1

pub free-placed : (stack : StackBytes) (a : ℕ) → is_free stack.region a ≡ true → is_place_at stack a ≡ true
free-placed stack a h =
    let self : nat_le a a ≡ true = grind (arith, nat_tests) in
    let both = and_parts (is_ram a) (not (meets stack.region a a)) h in
    simp (self, both.0, both.1)

pub IsAt-place_if : (may_be : ℕ → Bool) (a : ℕ) → IsAt may_be a (place_if may_be a)
IsAt-place_if may_be a = choose (may_be a) refl
  where
    choose : (b : Bool) → may_be a ≡ b → IsAt may_be a (cond b (Some (place.Address a)) None)
    choose true e = (refl, e)
    choose false e = tt

pub only_one : (addresses : Bounds) (a : ℕ) → addresses.first ≤ a → a ≤ addresses.last → is_one addresses ≡ true → addresses.first ≡ a
only_one addresses a low high e =
    let same : addresses.first ≡ addresses.last = eqb-true addresses.first addresses.last e in
    omega arith

pub IsAt-stored_place :
    (region : Region) (addresses : Bounds) (a : ℕ)
    → addresses.first ≤ a → a ≤ addresses.last → IsAt (is_free region) a (stored_place region addresses)
unfolding stored_place
IsAt-stored_place region addresses a low high = choose (is_one addresses) refl
  where
    choose : (b : Bool) → is_one addresses ≡ b → IsAt (is_free region) a (cond b (free_place region addresses.first) None)
    choose true e =
        subst (λ n. IsAt (is_free region) n (free_place region addresses.first)) (only_one addresses a low high e)
        (IsAt-place_if (is_free region) addresses.first)
    choose false e = tt

pub IsAt-loaded_place :
    (region : Region) (addresses : Bounds) (a : ℕ)
    → addresses.first ≤ a → a ≤ addresses.last → IsAt (is_free region) (behind_echo a) (loaded_place region addresses)
unfolding loaded_place
IsAt-loaded_place region addresses a low high = choose (is_one addresses) refl
  where
    choose :
        (b : Bool) → is_one addresses ≡ b → IsAt (is_free region) (behind_echo a) (cond b (free_place region (behind_echo addresses.first)) None)
    choose true e =
        subst (λ n. IsAt (is_free region) (behind_echo n) (free_place region (behind_echo addresses.first))) (only_one addresses a low high e)
        (IsAt-place_if (is_free region) (behind_echo addresses.first))
    choose false e = tt

-- ---- places of the one byte

pub IsAt-stored_at :
    (stack : StackBytes) (addresses : Bounds) (a : ℕ)
    → addresses.first ≤ a → a ≤ addresses.last → IsAt (is_place_at stack) a (stored_at stack addresses)
unfolding stored_at
IsAt-stored_at stack addresses a low high = choose (is_one addresses) refl
  where
    choose : (b : Bool) → is_one addresses ≡ b → IsAt (is_place_at stack) a (cond b (place_if (is_place_at stack) addresses.first) None)
    choose true e =
        subst (λ n. IsAt (is_place_at stack) n (place_if (is_place_at stack) addresses.first)) (only_one addresses a low high e)
        (IsAt-place_if (is_place_at stack) addresses.first)
    choose false e = tt

-- outside the stack region it is such an address too
IsAt-placed : (stack : StackBytes) (a : ℕ) (p : Option Place) → IsAt (is_free stack.region) a p → IsAt (is_place_at stack) a p
IsAt-placed stack a None at = tt
IsAt-placed stack a (Some p) at = (at.0, free-placed stack a at.1)

pub IsAt-place_read : (stack : StackBytes) (a : ℕ) → IsAt (is_place_at stack) (behind_echo a) (place_read stack a)
IsAt-place_read stack a = choose (is_echo a)
  where
    choose :
        (b : Bool)
        → IsAt (is_place_at stack) (cond b (a - 0x2000) a) (cond b (free_place stack.region (a - 0x2000)) (place_if (is_place_at stack) a))
    choose true = IsAt-placed stack (a - 0x2000) _ (IsAt-place_if (is_free stack.region) (a - 0x2000))
    choose false = IsAt-place_if (is_place_at stack) a

pub IsAt-loaded_at :
    (stack : StackBytes) (addresses : Bounds) (a : ℕ)
    → addresses.first ≤ a → a ≤ addresses.last → IsAt (is_place_at stack) (behind_echo a) (loaded_at stack addresses)
unfolding loaded_at
IsAt-loaded_at stack addresses a low high = choose (is_one addresses) refl
  where
    choose : (b : Bool) → is_one addresses ≡ b → IsAt (is_place_at stack) (behind_echo a) (cond b (place_read stack addresses.first) None)
    choose true e =
        subst (λ n. IsAt (is_place_at stack) (behind_echo n) (place_read stack addresses.first)) (only_one addresses a low high e)
        (IsAt-place_read stack addresses.first)
    choose false e = tt
