use Rattle.std.proofs.Common.{◌≡◌, ℕ, ◌+◌, ◌-◌, ◌%◌, ◌<◌, ◌≤◌, get_or}
use Rattle.gb_ppu.specs.Seen.{seen}
use Rattle.gb_ppu.specs.FrontLine.{mixed_byte}
use Rattle.gb_ppu.proofs.mixing.mix_line.Given as goal

abbrev pub invariant-loop-x : goal.invariant-loop-x
invariant-loop-x l =
    (l.x ≤ 160)
    × (l.x % 16 ≡ 0)
    × ((k : ℕ) → k < l.x → get_or l.line k 0 ≡ mixed_byte (seen l.scene) (get_or l.colours (k + 8) 0) (get_or l.pixels (k + 8) 0))

abbrev pub decreases-loop-x : goal.decreases-loop-x
decreases-loop-x l = 160 - l.x
