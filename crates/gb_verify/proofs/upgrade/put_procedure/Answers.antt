use Rattle.std.proofs.Common.{◌∙◌, ap}
use Rattle.gb_rules.specs.Below.gb_states.Spelling as spelled
use Rattle.gb_verify.proofs.FileLaws.{on_err, when_ok, when_err}
use Rattle.gb_verify.proofs.UpgradeLaws.{procedure_whole, procedure_begun, procedure_entered}
use Rattle.gb_verify.proofs.upgrade.put_procedure.Goals as goal

pub returns-in_err-put_all-clause-beginning : goal.returns-in_err-put_all-clause-beginning
returns-in_err-put_all-clause-beginning g c =
    let entry_is = c.node_number.ensures ∙ ap (spelled.node_number 2) c.entry.ensures in
    on_err c.from_residual.result (procedure_begun c.args.cert.now.version c.args.procedure.now _ c.args.body.now _ _ entry_is c.requires.body c.in_err-put_all.ensures.beginning)

pub returns-clause-whole : goal.returns-clause-whole
returns-clause-whole g c =
    let entry_is = c.node_number.ensures ∙ ap (spelled.node_number 2) c.entry.ensures in
    when_ok c.put_all-2.result (λ gains. procedure_whole c.args.cert.now.version c.args.procedure.now _ c.args.body.now _ _ _ entry_is c.requires.body c.in_ok-put_all.ensures.whole gains) c.put_all-2.ensures.whole

pub returns-clause-beginning : goal.returns-clause-beginning
returns-clause-beginning g c =
    let entry_is = c.node_number.ensures ∙ ap (spelled.node_number 2) c.entry.ensures in
    when_err c.put_all-2.result (λ gains. procedure_entered c.args.cert.now.version c.args.procedure.now _ c.args.body.now _ _ _ entry_is c.requires.body c.in_ok-put_all.ensures.whole gains) c.put_all-2.ensures.beginning
