-- Vectors, lane by lane (own).
use Rattle.std.specs.Prelude.{◌≡◌, ℕ, ◌<◌, List, length, slice_index}

-- n lanes, by index
pub record HasLanes (n : ℕ) (v : List ℕ) (lane : ℕ → ℕ) : Type 0 where
  pub len : length v ≡ n
  pub lanes : (i : ℕ) → i < n → slice_index v i ≡ lane i
