use Rattle.std.proofs.Common.{sym, ◌∙◌}
use Rattle.gb_abs_memory.proofs.ShownLaws.{known_bank-none}
use Rattle.gb_abs_memory.proofs.shown.known_bank.Goals as goal

pub returns-clause-complete : goal.returns-clause-complete
returns-clause-complete c = λ below k none bank all.
    known_bank-none c.args.rom.now c.args.ctl.now c.args.address _ bank c.shown.ensures.power c.shown.ensures.most below k (sym c.shown.ensures.known ∙ none) all
