-- The window's own line (Pan Docs: Window).
use Rattle.std.specs.Prelude.{ℕ, Bool, ◌+◌, if◌then◌else◌, Option, Some, None}

-- the window's own line goes on where the line before showed the window
abbrev pub counted : Bool → Option ℕ → Option ℕ
counted shown None = None
counted shown (Some n) = if shown then Some (n + 1) else Some n

-- from the first line on at whose start LY equals WY there is a window, at its line 0
abbrev pub compared : Bool → Option ℕ → Option ℕ
compared is_equal None = if is_equal then Some 0 else None
compared is_equal (Some n) = Some n

-- a frame begins without a window
abbrev pub kept : Bool → Option ℕ → Option ℕ
kept is_first window = if is_first then None else window
