use Rattle.std.proofs.Common.{subst}
use Rattle.std.proofs.lemmas.Result.{err_from_is_err_and}
use Rattle.gb_states.specs.declared.form.Form.TheVariants.{Older}
use Rattle.gb_cert_place.specs.Standing.{InExit, InNamed, InEnding, EndsNamed, EndsOlder}
use Rattle.gb_cert_place.proofs.NamedLaws.{is_fourth, is_not_fourth}
use Rattle.gb_cert_place.proofs.StandingLaws.{stops_within}
use Rattle.gb_cert_place.proofs.walk.walk_ending.Goals as goal

pub returns-in_err-form-clause-block : goal.returns-in_err-form-clause-block
returns-in_err-form-clause-block c =
    let p = err_from_is_err_and c.from_residual.result c.from_residual.ensures.1 in
    rw (p.1, p.2) (stops_within (InNamed c.args.number c.args.facts c.args.base c.args.is_main c.args.region c.args.bytes.now) (InEnding c.args.number c.args.version c.args.facts c.args.base c.args.is_main c.args.region c.args.bytes.now) c.in_err-form.field-0.0 (λ q b rest a. EndsNamed (is_fourth c.args.version c.if-version-eq4.true) a) c.in_err-form.ensures.block)

pub returns-in_err-end-clause-block : goal.returns-in_err-end-clause-block
returns-in_err-end-clause-block c =
    let p = err_from_is_err_and c.from_residual-in_err-end.result c.from_residual-in_err-end.ensures.1 in
    rw (p.1, p.2) (stops_within (InExit c.args.number (Older c.of.result) c.args.is_main c.args.region c.args.bytes.now) (InEnding c.args.number c.args.version c.args.facts c.args.base c.args.is_main c.args.region c.args.bytes.now) c.in_err-end.field-0.0
    (λ q b rest a. EndsOlder (is_not_fourth c.args.version c.if-version-eq4.false) (subst (λ r. InExit c.args.number (Older r) c.args.is_main c.args.region c.args.bytes.now q b rest) c.of.ensures a)) c.in_err-end.ensures.block)
