use Rattle.gb_ppu.proofs.WellFormed.{IsWellFormed-power_up}
use Rattle.gb_ppu.proofs.InFrame.{framed-power_up}
use Rattle.gb_ppu.proofs.ppu.Ppu.new.Goals as goal

pub invariant_of-result : goal.invariant_of-result
invariant_of-result c = (IsWellFormed-power_up, framed-power_up)
