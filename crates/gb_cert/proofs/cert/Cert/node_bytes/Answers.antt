use Rattle.std.proofs.Common.{◌≡◌, ◌<◌, ℕ, length, get_or, drop, ap, ◌∙◌, arith}
use Rattle.std.proofs.lemmas.Grind.{get_or_default_zero}
use Rattle.gb_cert.specs.Places.{certificate_in}
use Rattle.gb_cert.proofs.Placing.{at-length}
use Rattle.gb_cert.proofs.Lending.{nodes-lent}
use Rattle.gb_cert.proofs.cert.Cert.node_bytes.Goals as goal

pub index-place-requires : goal.index-place-requires
index-place-requires c =
    let k = at-length _ _ _ _ _ c.self.invariant.nodes_at in
    let some = c.self.invariant.spells.is_certificate.some_node in
    omega arith

pub returns : goal.returns
returns c =
    let k = at-length _ _ _ _ _ c.self.invariant.nodes_at in
    let some = c.self.invariant.spells.is_certificate.some_node in
    let small : 0 < length c.self.inside.nodes.items = omega arith in
    let place : c.index-place.result.now ≡ get_or c.self.inside.nodes.items 0 0 = c.index-place.ensures ∙ get_or_default_zero c.self.inside.nodes.items 0 c.index-place.result.now small in
    let all = nodes-lent c.self.inside.bytes.now c.self.inside.version c.self.inside.region c.self.inside.facts.items c.self.inside.forms.items c.self.inside.procedures.items c.self.inside.nodes.items (certificate_in c.self.inside.bytes.now) c.self.invariant in
    rw (← c.self.view_is) (c.from_place.ensures ∙ ap (λ (n : ℕ). drop n c.self.inside.bytes.now) place ∙ all)
