-- The joypad (Pan Docs: Joypad Input).
use Rattle.std.specs.Prelude.{ℕ, ◌+◌, ◌*◌, Bool, not, ◌&&◌, ◌||◌, if◌then◌else◌, [], ◌∷◌}
use Rattle.std.specs.List.{list_any}
use Rattle.gb_timer.specs.declared.irqs.Keys.{Keys}
use Rattle.gb_timer.specs.Bits.{is_set}

-- the bits of a set of keys: 0 A, 1 B, 2 Select, 3 Start, 4 Right, 5 Left, 6 Up, 7 Down
abbrev pub key_bits : Keys → ℕ
key_bits keys = keys.0

-- bits 5 and 4 of FF00, in their place, and the keys that are held
pub record Pad : Type 0 where
  pub select : ℕ
  pub keys : ℕ

-- a line, one of FF00's bits 0 to 3, is low where its group is selected (by a 0: the buttons by bit 5, the directions by bit 4) and its key held
unfoldable pub is_low : Pad → ℕ → Bool
is_low p line = (not (is_set p.select 5) && is_set p.keys line) || (not (is_set p.select 4) && is_set p.keys (line + 4))

-- what a line reads
unfoldable pub level : Pad → ℕ → ℕ
level p line = if is_low p line then 0 else 1

-- FF00: bits 7 and 6 read as 1
unfoldable pub joyp : Pad → ℕ
joyp p = 0xC0 + p.select + 8 * level p 3 + 4 * level p 2 + 2 * level p 1 + level p 0

-- the interrupt's request: a line was high and is low
unfoldable pub is_requested : Pad → Pad → Bool
is_requested old new = list_any (λ line. not (is_low old line) && is_low new line) (0 ∷ 1 ∷ 2 ∷ 3 ∷ [])
