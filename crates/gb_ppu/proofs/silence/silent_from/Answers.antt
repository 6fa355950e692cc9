use Rattle.std.proofs.Common.{arith}
use Rattle.gb_ppu.proofs.Silent.{quiet_is_silent}
use Rattle.gb_ppu.proofs.silence.silent_from.Goals as goal

pub returns-else-has_no_mode_source : goal.returns-else-has_no_mode_source
returns-else-has_no_mode_source c = quiet_is_silent _ _ c.requires.formed (λ on. omega (arith, c.quiet_at.ensures))
