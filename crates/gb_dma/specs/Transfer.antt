-- The count of an OAM transfer (own; Pan Docs: OAM DMA Transfer).
use Rattle.std.specs.Prelude.{ℕ, ◌-◌}

-- the count as a transfer starts
abbrev pub started : ℕ
started = 161

-- the count after n M-cycles: 0 at least
unfoldable pub left_after : ℕ → ℕ → ℕ
left_after count n = count - n
