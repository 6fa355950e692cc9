-- The lines of a screen (own texts).
use Rattle.std.specs.Prelude.{ℕ, ◌+◌, ◌*◌, ◌%◌, List, [], ◌∷◌, ◌++◌, flat_map}
use Rattle.hex.specs.Hex.{encode_lower}
use Rattle.gb_text.specs.Text.{line_feed}

-- four shades in a byte, two bits each, the leftmost in the high bits
abbrev pub byte_of : ℕ → ℕ → ℕ → ℕ → ℕ
byte_of a b c d = 64 * (a % 4) + 16 * (b % 4) + 4 * (c % 4) + d % 4

-- the bytes of a line of shades
unfoldable pub packed : List ℕ → List ℕ
packed (a ∷ b ∷ c ∷ d ∷ rest) = byte_of a b c d ∷ packed rest
packed _ = []

-- a line of the screen
unfoldable pub line_text : List ℕ → List ℕ
line_text shades = encode_lower (packed shades) ++ line_feed

-- its lines, from the top on
abbrev pub screen_text : List (List ℕ) → List ℕ
screen_text lines = flat_map line_text lines
