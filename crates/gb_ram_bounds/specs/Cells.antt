-- Which addresses have a memory cell (own).
use Rattle.std.specs.Prelude.{ℕ, ◌==◌, Bool, true, false, List, [], ◌∷◌, Option, Some, None, if◌then◌else◌}
use Rattle.gb_domain.specs.declared.interval.StridedInterval.{StridedInterval}
use Rattle.gb_domain.specs.declared.types.Cell.{Cell}
use Rattle.gb_domain.specs.Values.{interval_of}

-- what the cell at an address says of its byte, origins apart
abbrev pub cell_at : List Cell → ℕ → Option StridedInterval
cell_at [] a = None
cell_at (c ∷ cells) a = if c.address == a then Some (interval_of c.val) else cell_at cells a

abbrev pub is_there : Option StridedInterval → Bool
is_there None = false
is_there (Some v) = true

unfoldable pub has_cell : List Cell → ℕ → Bool
has_cell cells a = is_there (cell_at cells a)
