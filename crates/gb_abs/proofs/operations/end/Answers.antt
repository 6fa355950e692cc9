use Rattle.gb_abs.proofs.OperationLaws.{end_inhabited}
use Rattle.gb_abs.proofs.operations.end.Goals as goal

pub returns-clause-inhabited : goal.returns-clause-inhabited
returns-clause-inhabited c = end_inhabited c.args.starts c.args.cycles c.args.core.now c.pass.new.core c.pass.ensures.exact
