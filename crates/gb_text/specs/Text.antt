-- Texts that the program prints.
use Rattle.std.specs.Prelude.{◌≡◌, ℕ, ◌≤◌, ◌+◌, ◌/◌, ◌%◌, nat_lt, if◌then◌else◌, List, [], ◌∷◌, ◌++◌, length, take, Option, Some, None}

-- the end of a line
abbrev pub line_feed : List ℕ
line_feed = 10 ∷ []

-- a hexadecimal digit, upper case
abbrev pub hex_digit : ℕ → ℕ
hex_digit n = if nat_lt n 10 then 48 + n else 55 + n

-- a byte as two of them
abbrev pub hex_byte : ℕ → List ℕ
hex_byte n = hex_digit (n / 16) ∷ hex_digit (n % 16) ∷ []

-- a word as four of them, the high byte first
abbrev pub hex_word : ℕ → List ℕ
hex_word n = hex_byte (n / 256) ++ hex_byte (n % 256)

-- a sink that tells its bytes has a beginning of these at their end
abbrev pub GainsBeginning : Option (List ℕ) → List ℕ → Option (List ℕ) → Type 0
GainsBeginning None bytes new = new ≡ None
GainsBeginning (Some old) bytes new = (n : ℕ) × (n ≤ length bytes) × (new ≡ Some (old ++ take n bytes))
