use Rattle.std.proofs.Common.{sym}
use Rattle.gb_header.proofs.Lowest.{lowest_fault}
use Rattle.gb_header.proofs.rom.Rom.parse.Goals as goal

pub returns-in-Some-clause-fault : goal.returns-in-Some-clause-fault
returns-in-Some-clause-fault c = lowest_fault _ _ (sym c.in-Some.ensures)
