use Rattle.std.proofs.Common.{◌≡◌, ◌∙◌, ℕ, List, true, false, Bool, not, sym, ap, drop, refl}
use Rattle.gb_cert.specs.Borrowed.{state_in}
use Rattle.gb_states.specs.Checked.{are_none}
use Rattle.gb_cert.proofs.StateLending.{is-plain}
use Rattle.gb_cert.proofs.state.StateRef.has_lists.Goals as goal

not_false : (b : Bool) → not b ≡ false → b ≡ true
not_false true h = refl
not_false false h = cc

pub returns-clause-lists : goal.returns-clause-lists
returns-clause-lists c = λ h.
    let i = c.self.inside in
    let none : are_none i.form (drop 40 i.bytes.now) ≡ true = sym (c.are_none.ensures ∙ ap (λ (b : List ℕ). are_none i.form b) c.from_place.ensures) ∙ not_false c.are_none.result h in
    let plain = is-plain i.form i.role i.region i.bytes.now (state_in i.form i.role i.region i.bytes.now) c.self.invariant none in
    rw (← c.self.view_is) (plain.items, plain.cells)

pub returns-clause-relations : goal.returns-clause-relations
returns-clause-relations c = λ h.
    let i = c.self.inside in
    let none : are_none i.form (drop 40 i.bytes.now) ≡ true = sym (c.are_none.ensures ∙ ap (λ (b : List ℕ). are_none i.form b) c.from_place.ensures) ∙ not_false c.are_none.result h in
    let plain = is-plain i.form i.role i.region i.bytes.now (state_in i.form i.role i.region i.bytes.now) c.self.invariant none in
    rw (← c.self.view_is) plain.relations

pub returns-clause-summary : goal.returns-clause-summary
returns-clause-summary c = λ h.
    let i = c.self.inside in
    let none : are_none i.form (drop 40 i.bytes.now) ≡ true = sym (c.are_none.ensures ∙ ap (λ (b : List ℕ). are_none i.form b) c.from_place.ensures) ∙ not_false c.are_none.result h in
    let plain = is-plain i.form i.role i.region i.bytes.now (state_in i.form i.role i.region i.bytes.now) c.self.invariant none in
    rw (← c.self.view_is) plain.summary
