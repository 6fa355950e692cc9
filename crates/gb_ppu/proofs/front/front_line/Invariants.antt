use Rattle.std.proofs.Common.{◌*◌}
use Rattle.gb_ppu.specs.Seen.{seen}
use Rattle.gb_ppu.proofs.FrontWalk.{IsWalkedLine}
use Rattle.gb_ppu.proofs.front.front_line.Given as goal

abbrev pub invariant-loop-group : goal.invariant-loop-group
invariant-loop-group l = IsWalkedLine (seen l.scene) l.y l.met l.front.xs l.front.pixels (4 * l.group)

abbrev pub invariant-loop-i : goal.invariant-loop-i
invariant-loop-i l = IsWalkedLine (seen l.scene) l.y l.met l.front.xs l.front.pixels l.i
