use Rattle.std.proofs.Common.{◌∙◌, ap}
use Rattle.gb_successors.specs.Below.gb_abs.Operations.{core_settle}
use Rattle.gb_rules.proofs.LowestLaws.{settled_core}
use Rattle.gb_rules.proofs.ways.reason_of_ways.Goals as goal

pub reason_of_settled-requires-clause-core : goal.reason_of_settled-requires-clause-core
reason_of_settled-requires-clause-core c = settled_core _ c.if-core.false ∙ ap core_settle c.core-core.ensures
