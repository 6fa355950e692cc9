use Rattle.std.proofs.Common.{Some, None}
use Rattle.gb_verify.proofs.WidenedText.{told_text}
use Rattle.gb_verify.proofs.widen.told.Goals as goal

pub returns-in-None : goal.returns-in-None
returns-in-None c = told_text c.args.state.now.relations None c.requires.narrow.relations c.in-None.ensures

pub returns-in-Some : goal.returns-in-Some
returns-in-Some c = told_text c.args.state.now.relations (Some c.in-Some.field-0) c.requires.narrow.relations c.in-Some.ensures
