use Rattle.std.proofs.Common.{◌≡◌, ◌<◌, ◌==◌, ℕ, length, get_or, drop, Ok, sym, ap, ◌∙◌, arith}
use Rattle.std.proofs.lemmas.Grind.{get_or_default_zero}
use Rattle.gb_states.specs.Below.gb_fields.Format.{both}
use Rattle.gb_states.specs.Below.gb_fields.Reading.{word}
use Rattle.gb_states.specs.Forms.{form_by}
use Rattle.gb_states.specs.WholeRules.{form_in}
use Rattle.gb_states.specs.WholeReading.{number_by}
use Rattle.gb_cert.specs.Places.{certificate_in}
use Rattle.gb_cert.proofs.Placing.{at-length}
use Rattle.gb_cert.proofs.Lending.{few-facts, node-lent, node-front}
use Rattle.gb_cert.proofs.cert.Cert.node.Goals as goal

pub index-place-requires : goal.index-place-requires
index-place-requires c =
    let lt : c.args.i < length (certificate_in c.self.inside.bytes.now).nodes = rw c.self.view_is c.requires in
    let k = at-length _ _ _ _ _ c.self.invariant.nodes_at in
    omega arith

pub form_of-form-requires : goal.form_of-form-requires
form_of-form-requires c = rw c.as_slice-facts.ensures.value (few-facts c.self.inside.bytes.now c.self.inside.version c.self.inside.region c.self.inside.facts.items c.self.inside.forms.items c.self.inside.procedures.items c.self.inside.nodes.items (certificate_in c.self.inside.bytes.now) c.self.invariant)

pub unreachable-requires : goal.unreachable-requires
unreachable-requires c =
    let lt : c.args.i < length (certificate_in c.self.inside.bytes.now).nodes = rw c.self.view_is c.requires in
    let k = at-length _ _ _ _ _ c.self.invariant.nodes_at in
    let small : c.args.i < length c.self.inside.nodes.items = omega arith in
    let place : c.index-place.result.now ≡ get_or c.self.inside.nodes.items c.args.i 0 = c.index-place.ensures ∙ get_or_default_zero c.self.inside.nodes.items c.args.i c.index-place.result.now small in
    let from : c.from_place.result.now ≡ drop (get_or c.self.inside.nodes.items c.args.i 0) c.self.inside.bytes.now = c.from_place.ensures ∙ ap (λ (n : ℕ). drop n c.self.inside.bytes.now) place in
    node-front c.self.inside.bytes.now c.self.inside.version c.self.inside.region c.self.inside.facts.items c.self.inside.forms.items c.self.inside.procedures.items c.self.inside.nodes.items (certificate_in c.self.inside.bytes.now) c.args.i c.in-Err.field-0 c.self.invariant lt (ap (both (number_by (c.self.inside.version == 4)) (both word word)) (sym from) ∙ c.in-Err.ensures)

pub of_parts-requires : goal.of_parts-requires
of_parts-requires c =
    let lt : c.args.i < length (certificate_in c.self.inside.bytes.now).nodes = rw c.self.view_is c.requires in
    let k = at-length _ _ _ _ _ c.self.invariant.nodes_at in
    let small : c.args.i < length c.self.inside.nodes.items = omega arith in
    let place : c.index-place.result.now ≡ get_or c.self.inside.nodes.items c.args.i 0 = c.index-place.ensures ∙ get_or_default_zero c.self.inside.nodes.items c.args.i c.index-place.result.now small in
    let from : c.from_place.result.now ≡ drop (get_or c.self.inside.nodes.items c.args.i 0) c.self.inside.bytes.now = c.from_place.ensures ∙ ap (λ (n : ℕ). drop n c.self.inside.bytes.now) place in
    let right : both (number_by (c.self.inside.version == 4)) (both word word) (drop (get_or c.self.inside.nodes.items c.args.i 0) c.self.inside.bytes.now) ≡ Ok (c.in-Ok.front, c.in-Ok.state.now) = ap (both (number_by (c.self.inside.version == 4)) (both word word)) (sym from) ∙ c.in-Ok.ensures in
    let form : c.form_of-form.result ≡ form_by (c.self.inside.version == 4) c.self.inside.version (length c.self.inside.facts.items) (form_in c.self.inside.forms.items c.in-Ok.front.0) = rw (← c.as_slice-facts.ensures.value, ← c.as_slice-forms.ensures.value) c.form_of-form.ensures in
    rw form (node-lent c.self.inside.bytes.now c.self.inside.version c.self.inside.region c.self.inside.facts.items c.self.inside.forms.items c.self.inside.procedures.items c.self.inside.nodes.items (certificate_in c.self.inside.bytes.now) c.args.i c.in-Ok.front c.in-Ok.state.now c.self.invariant lt right).0

pub returns : goal.returns
returns c =
    let lt : c.args.i < length (certificate_in c.self.inside.bytes.now).nodes = rw c.self.view_is c.requires in
    let k = at-length _ _ _ _ _ c.self.invariant.nodes_at in
    let small : c.args.i < length c.self.inside.nodes.items = omega arith in
    let place : c.index-place.result.now ≡ get_or c.self.inside.nodes.items c.args.i 0 = c.index-place.ensures ∙ get_or_default_zero c.self.inside.nodes.items c.args.i c.index-place.result.now small in
    let from : c.from_place.result.now ≡ drop (get_or c.self.inside.nodes.items c.args.i 0) c.self.inside.bytes.now = c.from_place.ensures ∙ ap (λ (n : ℕ). drop n c.self.inside.bytes.now) place in
    let right : both (number_by (c.self.inside.version == 4)) (both word word) (drop (get_or c.self.inside.nodes.items c.args.i 0) c.self.inside.bytes.now) ≡ Ok (c.in-Ok.front, c.in-Ok.state.now) = ap (both (number_by (c.self.inside.version == 4)) (both word word)) (sym from) ∙ c.in-Ok.ensures in
    let form : c.form_of-form.result ≡ form_by (c.self.inside.version == 4) c.self.inside.version (length c.self.inside.facts.items) (form_in c.self.inside.forms.items c.in-Ok.front.0) = rw (← c.as_slice-facts.ensures.value, ← c.as_slice-forms.ensures.value) c.form_of-form.ensures in
    let found = (node-lent c.self.inside.bytes.now c.self.inside.version c.self.inside.region c.self.inside.facts.items c.self.inside.forms.items c.self.inside.procedures.items c.self.inside.nodes.items (certificate_in c.self.inside.bytes.now) c.args.i c.in-Ok.front c.in-Ok.state.now c.self.invariant lt right).1 in
    rw (← c.self.view_is, c.of_parts.ensures, form) found
