use Rattle.std.proofs.Common.{◌≡◌, ◌<◌, ℕ, length, get_or, drop, Ok, Err, sym, ap, ◌∙◌, subst, arith}
use Rattle.std.specs.Prelude.{◌==◌}
use Rattle.std.proofs.lemmas.Grind.{get_or_default_zero}
use Rattle.gb_domain.specs.declared.rules.Rules.{Rules}
use Rattle.gb_states.specs.Below.gb_fields.Reading.{node_number}
use Rattle.gb_states.specs.Reading.{body_at}
use Rattle.gb_cert.specs.Skipping.{skipped}
use Rattle.gb_cert.specs.Places.{certificate_in}
use Rattle.gb_cert.proofs.Placing.{at-length}
use Rattle.gb_cert.proofs.OlderBodies.{body-lent, body-passed}
use Rattle.gb_cert.proofs.ProcedureLending.{procedure-entry}
use Rattle.gb_cert.proofs.cert.Cert.procedure_body.Goals as goal

pub index-start-requires : goal.index-start-requires
index-start-requires c =
    let lt : c.args.i < length (certificate_in c.self.inside.bytes.now).procedures = rw c.self.view_is c.requires.number in
    let k = at-length _ _ _ _ _ c.self.invariant.procedures_at in
    omega arith

pub unreachable-requires : goal.unreachable-requires
unreachable-requires c =
    let lt : c.args.i < length (certificate_in c.self.inside.bytes.now).procedures = rw c.self.view_is c.requires.number in
    let k = at-length _ _ _ _ _ c.self.invariant.procedures_at in
    let small : c.args.i < length c.self.inside.procedures.items = omega arith in
    let place : c.index-start.result.now ≡ get_or c.self.inside.procedures.items c.args.i 0 = c.index-start.ensures ∙ get_or_default_zero c.self.inside.procedures.items c.args.i c.index-start.result.now small in
    let from : c.from_place.result.now ≡ drop (get_or c.self.inside.procedures.items c.args.i 0) c.self.inside.bytes.now = c.from_place.ensures ∙ ap (λ (n : ℕ). drop n c.self.inside.bytes.now) place in
    procedure-entry c.self.inside.bytes.now c.self.inside.version c.self.inside.region c.self.inside.facts.items c.self.inside.forms.items c.self.inside.procedures.items c.self.inside.nodes.items (certificate_in c.self.inside.bytes.now) c.args.i c.in_default.field-0 c.self.invariant lt (ap (node_number c.self.inside.version) (sym from) ∙ c.in_default.ensures)

pub unreachable-requires-in_default-skip_body : goal.unreachable-requires-in_default-skip_body
unreachable-requires-in_default-skip_body c =
    let lt : c.args.i < length (certificate_in c.self.inside.bytes.now).procedures = rw c.self.view_is c.requires.number in
    let k = at-length _ _ _ _ _ c.self.invariant.procedures_at in
    let small : c.args.i < length c.self.inside.procedures.items = omega arith in
    let place : c.index-start.result.now ≡ get_or c.self.inside.procedures.items c.args.i 0 = c.index-start.ensures ∙ get_or_default_zero c.self.inside.procedures.items c.args.i c.index-start.result.now small in
    let from : c.from_place.result.now ≡ drop (get_or c.self.inside.procedures.items c.args.i 0) c.self.inside.bytes.now = c.from_place.ensures ∙ ap (λ (n : ℕ). drop n c.self.inside.bytes.now) place in
    let right : node_number c.self.inside.version (drop (get_or c.self.inside.procedures.items c.args.i 0) c.self.inside.bytes.now) ≡ Ok (c.in-Ok._entry, c.in-Ok.body.now) = ap (node_number c.self.inside.version) (sym from) ∙ c.in-Ok.ensures in
    let wrong = subst (λ (r : Rules). skipped (body_at r (c.args.i == 0) c.self.inside.region) c.in-Ok.body.now ≡ Err c.in_default-skip_body.field-0) c.of-rules.ensures c.in_default-skip_body.ensures in
    body-passed c.self.inside.bytes.now c.self.inside.version c.self.inside.region c.self.inside.facts.items c.self.inside.forms.items c.self.inside.procedures.items c.self.inside.nodes.items (certificate_in c.self.inside.bytes.now) c.args.i c.in-Ok._entry c.in-Ok.body.now c.in_default-skip_body.field-0 c.self.invariant (rw c.self.view_is c.requires.older) lt right wrong

pub taken-requires : goal.taken-requires
taken-requires c =
    let lt : c.args.i < length (certificate_in c.self.inside.bytes.now).procedures = rw c.self.view_is c.requires.number in
    let k = at-length _ _ _ _ _ c.self.invariant.procedures_at in
    let small : c.args.i < length c.self.inside.procedures.items = omega arith in
    let place : c.index-start.result.now ≡ get_or c.self.inside.procedures.items c.args.i 0 = c.index-start.ensures ∙ get_or_default_zero c.self.inside.procedures.items c.args.i c.index-start.result.now small in
    let from : c.from_place.result.now ≡ drop (get_or c.self.inside.procedures.items c.args.i 0) c.self.inside.bytes.now = c.from_place.ensures ∙ ap (λ (n : ℕ). drop n c.self.inside.bytes.now) place in
    let right : node_number c.self.inside.version (drop (get_or c.self.inside.procedures.items c.args.i 0) c.self.inside.bytes.now) ≡ Ok (c.in-Ok._entry, c.in-Ok.body.now) = ap (node_number c.self.inside.version) (sym from) ∙ c.in-Ok.ensures in
    let passed = subst (λ (r : Rules). skipped (body_at r (c.args.i == 0) c.self.inside.region) c.in-Ok.body.now ≡ Ok c.in-Ok-skip_body.behind.now) c.of-rules.ensures c.in-Ok-skip_body.ensures in
    (body-lent c.self.inside.bytes.now c.self.inside.version c.self.inside.region c.self.inside.facts.items c.self.inside.forms.items c.self.inside.procedures.items c.self.inside.nodes.items (certificate_in c.self.inside.bytes.now) c.args.i c.in-Ok._entry c.in-Ok.body.now c.in-Ok-skip_body.behind.now c.self.invariant (rw c.self.view_is c.requires.older) lt right passed).0

pub returns : goal.returns
returns c =
    let lt : c.args.i < length (certificate_in c.self.inside.bytes.now).procedures = rw c.self.view_is c.requires.number in
    let k = at-length _ _ _ _ _ c.self.invariant.procedures_at in
    let small : c.args.i < length c.self.inside.procedures.items = omega arith in
    let place : c.index-start.result.now ≡ get_or c.self.inside.procedures.items c.args.i 0 = c.index-start.ensures ∙ get_or_default_zero c.self.inside.procedures.items c.args.i c.index-start.result.now small in
    let from : c.from_place.result.now ≡ drop (get_or c.self.inside.procedures.items c.args.i 0) c.self.inside.bytes.now = c.from_place.ensures ∙ ap (λ (n : ℕ). drop n c.self.inside.bytes.now) place in
    let right : node_number c.self.inside.version (drop (get_or c.self.inside.procedures.items c.args.i 0) c.self.inside.bytes.now) ≡ Ok (c.in-Ok._entry, c.in-Ok.body.now) = ap (node_number c.self.inside.version) (sym from) ∙ c.in-Ok.ensures in
    let passed = subst (λ (r : Rules). skipped (body_at r (c.args.i == 0) c.self.inside.region) c.in-Ok.body.now ≡ Ok c.in-Ok-skip_body.behind.now) c.of-rules.ensures c.in-Ok-skip_body.ensures in
    let lent = body-lent c.self.inside.bytes.now c.self.inside.version c.self.inside.region c.self.inside.facts.items c.self.inside.forms.items c.self.inside.procedures.items c.self.inside.nodes.items (certificate_in c.self.inside.bytes.now) c.args.i c.in-Ok._entry c.in-Ok.body.now c.in-Ok-skip_body.behind.now c.self.invariant (rw c.self.view_is c.requires.older) lt right passed in
    rw (← c.self.view_is, c.taken.ensures, ← c.self.invariant.version_is) lent.1
