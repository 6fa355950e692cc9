-- Which file is standard input (own).
use Rattle.std.specs.Prelude.{ℕ, List, Bool, codes}
use Rattle.std.specs.Str.{bytes_eq}

-- a lone hyphen
abbrev pub is_input : List ℕ → Bool
is_input name = bytes_eq name (codes "-")
