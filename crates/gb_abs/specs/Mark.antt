-- Where the HALT mark does no harm (halt: halt bug; own).
use Rattle.std.specs.Prelude.{◌≡◌, ℕ, false, List, ◌⊎◌}
use Rattle.gb_ops.specs.declared.registers.Ime.TheVariants.{Off}
use Rattle.gb_ops.specs.Memory.{is_free, byte_at}
use Rattle.gb_ops.specs.Play.{MState, within}

-- The mark is clear. Or it is set while interrupts are off, before a NOP that is read in any case: under the mark
-- the byte at PC is read twice, so that the NOP leaves PC where it is, and the mark clear.
abbrev pub IsMarkHarmless : List ℕ → MState → Type 0
IsMarkHarmless rom x =
    (x.processor.halt_mark ≡ false)
    ⊎ ((x.processor.ime ≡ Off)
    × (is_free (within rom x).memory x.processor.pc ≡ false)
    × (byte_at (within rom x).memory x.processor.pc ≡ 0))
