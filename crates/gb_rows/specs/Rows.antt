-- Rows in order of their keys: a procedure's number, then an address (own).
use Rattle.std.specs.Prelude.{◌≡◌, ℕ, ◌+◌, ◌≤◌, ◌<◌, Bool, true, false, ◌&&◌, ◌||◌, not, ◌==◌, nat_lt, List, length, slice_get, Some}

-- The first key comes before the second, and is another.
abbrev pub is_before : ℕ × ℕ → ℕ × ℕ → Bool
is_before a b = nat_lt a.0 b.0 || a.0 == b.0 && nat_lt a.1 b.1

-- No key comes before an earlier one.
abbrev pub AreInOrder : List (ℕ × ℕ) → Type 0
AreInOrder keys = (i j : ℕ) (a b : ℕ × ℕ) → i ≤ j → slice_get keys i ≡ Some a → slice_get keys j ≡ Some b → is_before b a ≡ false

-- A key comes before a target, or may be the target too.
abbrev pub is_counted : Bool → ℕ × ℕ → ℕ × ℕ → Bool
is_counted true target key = not (is_before target key)
is_counted false target key = is_before key target

-- The rows below low are counted, and those from high on are not: the number of those that are lies between them.
pub record IsBetween (keys : List (ℕ × ℕ)) (with_targets : Bool) (target : ℕ × ℕ) (low high : ℕ) : Type 0 where
  pub order : low ≤ high
  pub within : high ≤ length keys
  pub counted : (i : ℕ) (k : ℕ × ℕ) → i < low → slice_get keys i ≡ Some k → is_counted with_targets target k ≡ true
  pub others : (i : ℕ) (k : ℕ × ℕ) → high ≤ i → slice_get keys i ≡ Some k → is_counted with_targets target k ≡ false

-- The rows with this key are those from first to below after.
pub record IsFound (keys : List (ℕ × ℕ)) (key : ℕ × ℕ) (first after : ℕ) : Type 0 where
  pub order : first ≤ after
  pub within : after ≤ length keys
  pub each : (i : ℕ) → first ≤ i → i < after → slice_get keys i ≡ Some key
  pub all : (i : ℕ) → slice_get keys i ≡ Some key → (first ≤ i) × (i < after)
  pub before : (i : ℕ) (k : ℕ × ℕ) → i < first → slice_get keys i ≡ Some k → is_before k key ≡ true

-- Where n keys were asked before, so many more at most are asked now.
abbrev pub AskedAtMost : (ℕ → Type 0) → (ℕ → Type 0) → ℕ → Type 0
AskedAtMost before now most = (n : ℕ) → before n → (m : ℕ) × (m ≤ most) × now (n + m)
