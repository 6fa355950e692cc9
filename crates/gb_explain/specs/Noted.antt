-- What the count of differences says.
use Rattle.std.specs.Prelude.{◌≡◌, ℕ, Bool, true}

-- Where there is none behind, there was none before, and what was compared is covered.
abbrev pub IsNoted : ℕ → ℕ → Bool → Type 0
IsNoted before after is_covered = after ≡ 0 → (before ≡ 0) × (is_covered ≡ true)
