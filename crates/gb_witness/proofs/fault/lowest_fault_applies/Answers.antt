use Rattle.gb_witness.proofs.Lowest.{lowest_applies}
use Rattle.gb_witness.proofs.fault.lowest_fault_applies.Goals as goal

pub returns : goal.returns
returns c = lowest_applies
