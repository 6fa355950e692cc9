-- How numbers are spelled in bytes (own format).
use Rattle.std.specs.Prelude.{ℕ, ◌/◌, ◌%◌, Bool, true, false, ◌==◌, List, [], ◌∷◌, ◌++◌}

abbrev pub word : ℕ → List ℕ
word n = n % 256 ∷ n / 256 ∷ []

abbrev pub quad : ℕ → List ℕ
quad n = word (n % 65536) ++ word (n / 65536)

abbrev pub node_number_by : Bool → ℕ → List ℕ
node_number_by true = word
node_number_by false = quad

-- the number of a node, or of all nodes: two bytes in version 1, else four
unfoldable pub node_number : ℕ → ℕ → List ℕ
node_number version = node_number_by (version == 1)

-- yes is 1, no is 0
abbrev pub flag : Bool → ℕ
flag true = 1
flag false = 0
