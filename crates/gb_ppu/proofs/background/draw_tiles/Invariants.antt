use Rattle.std.proofs.Common.{◌≡◌, ℕ, ◌+◌, ◌-◌, ◌%◌, ◌<◌, ◌≤◌, get_or}
use Rattle.gb_ppu.specs.Maps.{map_colour}
use Rattle.gb_ppu.proofs.background.draw_tiles.Given as goal

abbrev pub invariant-loop-at : goal.invariant-loop-at
invariant-loop-at l =
    (l.from ≤ l.at)
    × (l.column ≡ (l.u + (l.at - l.from)) % 256)
    × (l.column % 8 ≡ 0)
    × ((k : ℕ) → l.from ≤ k → k < l.at → get_or l.colours k 0 ≡ map_colour l.scene.video_ram.now l.scene.lcdc l.is_second ((l.u + (k - l.from)) % 256) l.v)
    × ((k : ℕ) → k < l.from → get_or l.colours k 0 ≡ get_or l.fn.colours k 0)

abbrev pub decreases-loop-at : goal.decreases-loop-at
decreases-loop-at l = 176 - l.at
