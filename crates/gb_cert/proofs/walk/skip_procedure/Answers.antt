use Rattle.std.proofs.Common.{subst}
use Rattle.gb_domain.specs.declared.rules.Rules.{Rules}
use Rattle.gb_states.specs.Below.gb_fields.Format.{Gives}
use Rattle.gb_states.specs.Reading.{body_at}
use Rattle.gb_cert.specs.Skipping.{skipped}
use Rattle.gb_cert.proofs.Skipping.{entry_then}
use Rattle.gb_cert.proofs.walk.skip_procedure.Goals as goal

pub returns : goal.returns
returns c =
    let e = entry_then c.args.version c.args.region c.args.nodes c.args.is_main c.args.bytes.now c.in_ok-_entry._entry c.in_ok-_entry.rest.now c.in_ok-_entry.ensures in
    rw e (subst (λ (r : Rules). Gives (λ x. x.now) c.skip_body.result (skipped (body_at r c.args.is_main c.args.region) c.in_ok-_entry.rest.now)) c.of.ensures c.skip_body.ensures)
