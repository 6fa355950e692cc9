-- Which interrupt comes next (Pan Docs: Interrupts, Interrupt priorities).
use Rattle.std.specs.Prelude.{ℕ, Bool, ◌&&◌, if◌then◌else◌, [], ◌∷◌, Option, None, find}
use Rattle.gb_timer.specs.declared.irqs.Irqs.{Irqs}
use Rattle.gb_timer.specs.Bits.{is_set}

-- the bits of a set of interrupts: 0 VBlank, 1 STAT, 2 timer, 3 serial, 4 joypad
abbrev pub irq_bits : Irqs → ℕ
irq_bits irqs = irqs.0

-- the first interrupt, by priority, that is both enabled in IE and requested in IF
unfoldable pub highest_pending : ℕ → ℕ → Option ℕ
highest_pending ie flags = find (λ i. is_set ie i && is_set flags i) (0 ∷ 1 ∷ 2 ∷ 3 ∷ 4 ∷ [])

-- the interrupt that is dispatched: none where IME isn't on
unfoldable pub next_irq : Bool → ℕ → ℕ → Option ℕ
next_irq ime ie flags = if ime then highest_pending ie flags else None
