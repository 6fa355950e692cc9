-- What a sink tells of its bytes.
use Rattle.std.specs.Prelude.{◌≡◌, ℕ, List, ◌++◌, Option, Some, None}

-- a sink that tells its bytes has these at their end
abbrev pub Gains : Option (List ℕ) → List ℕ → Option (List ℕ) → Type 0
Gains None bytes new = new ≡ None
Gains (Some old) bytes new = new ≡ Some (old ++ bytes)
