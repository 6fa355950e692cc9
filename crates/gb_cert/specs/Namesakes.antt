-- The procedures that begin at one address, main apart.
use Rattle.std.specs.Prelude.{◌≡◌, ℕ, ◌≤◌, ◌<◌, List, [], ◌∷◌, length, map, slice_get, Some}
use Rattle.gb_domain.specs.Types.{ProcedureParts, Node}
use Rattle.gb_domain.specs.Certificate.{Certificate}
use Rattle.gb_states.specs.WholeRules.{entry_in}

abbrev pub behind_main : List ProcedureParts → List ProcedureParts
behind_main [] = []
behind_main (main ∷ procedures) = procedures

-- where a procedure begins, as the key of a row
abbrev pub start_of : List Node → ProcedureParts → ℕ × ℕ
start_of nodes p = (0, entry_in nodes (Some p))

-- the keys of the procedures behind main
unfoldable pub starts : Certificate → List (ℕ × ℕ)
starts c = map (start_of c.nodes) (behind_main c.procedures)

-- All procedures behind main that begin at the address are among those from first to below after.
pub record AreAmong (c : Certificate) (address first after : ℕ) : Type 0 where
  pub behind_main : 0 < first
  pub within : after ≤ length c.procedures
  pub all : (i : ℕ) (p : ProcedureParts) → 0 < i → slice_get c.procedures i ≡ Some p → entry_in c.nodes (Some p) ≡ address → (first ≤ i) × (i < after)

-- And all those begin there.
pub record AreNamesakes (c : Certificate) (address first after : ℕ) : Type 0 where
  pub among : AreAmong c address first after
  pub each : (i : ℕ) (p : ProcedureParts) → first ≤ i → i < after → slice_get c.procedures i ≡ Some p → entry_in c.nodes (Some p) ≡ address
