use Rattle.std.proofs.Common.{◌≡◌, ◌<◌, ℕ, length, get_or, drop, Ok, sym, ap, ◌∙◌, arith}
use Rattle.std.proofs.lemmas.Grind.{get_or_default_zero}
use Rattle.gb_states.specs.Below.gb_fields.Reading.{node_number}
use Rattle.gb_cert.specs.Places.{certificate_in}
use Rattle.gb_cert.proofs.Placing.{at-length}
use Rattle.gb_cert.proofs.ProcedureLending.{procedure-lent, procedure-entry}
use Rattle.gb_cert.proofs.cert.Cert.procedure.Goals as goal

pub index-place-requires : goal.index-place-requires
index-place-requires c =
    let lt : c.args.i < length (certificate_in c.self.inside.bytes.now).procedures = rw c.self.view_is c.requires in
    let k = at-length _ _ _ _ _ c.self.invariant.procedures_at in
    omega arith

pub unreachable-requires : goal.unreachable-requires
unreachable-requires c =
    let lt : c.args.i < length (certificate_in c.self.inside.bytes.now).procedures = rw c.self.view_is c.requires in
    let k = at-length _ _ _ _ _ c.self.invariant.procedures_at in
    let small : c.args.i < length c.self.inside.procedures.items = omega arith in
    let place : c.index-place.result.now ≡ get_or c.self.inside.procedures.items c.args.i 0 = c.index-place.ensures ∙ get_or_default_zero c.self.inside.procedures.items c.args.i c.index-place.result.now small in
    let from : c.from_place.result.now ≡ drop (get_or c.self.inside.procedures.items c.args.i 0) c.self.inside.bytes.now = c.from_place.ensures ∙ ap (λ (n : ℕ). drop n c.self.inside.bytes.now) place in
    procedure-entry c.self.inside.bytes.now c.self.inside.version c.self.inside.region c.self.inside.facts.items c.self.inside.forms.items c.self.inside.procedures.items c.self.inside.nodes.items (certificate_in c.self.inside.bytes.now) c.args.i c.in-Err.field-0 c.self.invariant lt (ap (node_number c.self.inside.version) (sym from) ∙ c.in-Err.ensures)

pub of_parts-requires : goal.of_parts-requires
of_parts-requires c =
    let lt : c.args.i < length (certificate_in c.self.inside.bytes.now).procedures = rw c.self.view_is c.requires in
    let k = at-length _ _ _ _ _ c.self.invariant.procedures_at in
    let small : c.args.i < length c.self.inside.procedures.items = omega arith in
    let place : c.index-place.result.now ≡ get_or c.self.inside.procedures.items c.args.i 0 = c.index-place.ensures ∙ get_or_default_zero c.self.inside.procedures.items c.args.i c.index-place.result.now small in
    let from : c.from_place.result.now ≡ drop (get_or c.self.inside.procedures.items c.args.i 0) c.self.inside.bytes.now = c.from_place.ensures ∙ ap (λ (n : ℕ). drop n c.self.inside.bytes.now) place in
    let right : node_number c.self.inside.version (drop (get_or c.self.inside.procedures.items c.args.i 0) c.self.inside.bytes.now) ≡ Ok (c.in-Ok.entry, c.in-Ok.body.now) = ap (node_number c.self.inside.version) (sym from) ∙ c.in-Ok.ensures in
    rw c.as_slice.ensures.value (procedure-lent c.self.inside.bytes.now c.self.inside.version c.self.inside.region c.self.inside.facts.items c.self.inside.forms.items c.self.inside.procedures.items c.self.inside.nodes.items (certificate_in c.self.inside.bytes.now) c.args.i c.in-Ok.entry c.in-Ok.body.now c.self.invariant lt right).0

pub returns : goal.returns
returns c =
    let lt : c.args.i < length (certificate_in c.self.inside.bytes.now).procedures = rw c.self.view_is c.requires in
    let k = at-length _ _ _ _ _ c.self.invariant.procedures_at in
    let small : c.args.i < length c.self.inside.procedures.items = omega arith in
    let place : c.index-place.result.now ≡ get_or c.self.inside.procedures.items c.args.i 0 = c.index-place.ensures ∙ get_or_default_zero c.self.inside.procedures.items c.args.i c.index-place.result.now small in
    let from : c.from_place.result.now ≡ drop (get_or c.self.inside.procedures.items c.args.i 0) c.self.inside.bytes.now = c.from_place.ensures ∙ ap (λ (n : ℕ). drop n c.self.inside.bytes.now) place in
    let right : node_number c.self.inside.version (drop (get_or c.self.inside.procedures.items c.args.i 0) c.self.inside.bytes.now) ≡ Ok (c.in-Ok.entry, c.in-Ok.body.now) = ap (node_number c.self.inside.version) (sym from) ∙ c.in-Ok.ensures in
    let found = (procedure-lent c.self.inside.bytes.now c.self.inside.version c.self.inside.region c.self.inside.facts.items c.self.inside.forms.items c.self.inside.procedures.items c.self.inside.nodes.items (certificate_in c.self.inside.bytes.now) c.args.i c.in-Ok.entry c.in-Ok.body.now c.self.invariant lt right).1 in
    rw (← c.self.view_is, c.of_parts.ensures, c.as_slice.ensures.value) found
