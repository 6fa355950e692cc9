use Rattle.std.proofs.Common.{◌*◌, ℕ, ◌∙◌, sym, ap, drop, arith}
use Rattle.gb_cert.specs.Borrowed.{state_in, item_width}
use Rattle.gb_cert.proofs.StateLending.{core-fits, CountsOff, items-are, told-is, told-right}
use Rattle.gb_cert.proofs.state.StateRef.told_in_full.Goals as goal

pub told_by-told-requires : goal.told_by-told-requires
told_by-told-requires c =
    let i = c.self.inside in
    core-fits i.form i.role i.region i.bytes.now (state_in i.form i.role i.region i.bytes.now) c.self.invariant

pub overflow_cast-count : goal.overflow_cast-count
overflow_cast-count c =
    let i = c.self.inside in
    let f : CountsOff (item_width c.self.inside.form) (drop 40 c.self.inside.bytes.now) c.counted.result.0.now c.counted.result.1.now = λ n xs rest e l. c.counted.ensures n xs rest (c.from_place.ensures ∙ e) (l ∙ ap (λ (w : ℕ). w * n) (sym c.item_width.ensures.exact)) in
    let items = items-are i.form i.role i.region i.bytes.now c.counted.result.0.now c.counted.result.1.now (state_in i.form i.role i.region i.bytes.now) c.self.invariant f in
    omega (arith, items.long, items.few)

pub unreachable-requires : goal.unreachable-requires
unreachable-requires c =
    let i = c.self.inside in
    let f : CountsOff (item_width c.self.inside.form) (drop 40 c.self.inside.bytes.now) c.counted.result.0.now c.counted.result.1.now = λ n xs rest e l. c.counted.ensures n xs rest (c.from_place.ensures ∙ e) (l ∙ ap (λ (w : ℕ). w * n) (sym c.item_width.ensures.exact)) in
    told-right i.form i.role i.region i.bytes.now c.counted.result.0.now c.counted.result.1.now (state_in i.form i.role i.region i.bytes.now) c.in_default.field-0 c.self.invariant f c.in_default.ensures

pub returns-clause-relations : goal.returns-clause-relations
returns-clause-relations c =
    let i = c.self.inside in
    let f : CountsOff (item_width c.self.inside.form) (drop 40 c.self.inside.bytes.now) c.counted.result.0.now c.counted.result.1.now = λ n xs rest e l. c.counted.ensures n xs rest (c.from_place.ensures ∙ e) (l ∙ ap (λ (w : ℕ). w * n) (sym c.item_width.ensures.exact)) in
    let told = told-is i.form i.role i.region i.bytes.now c.counted.result.0.now c.counted.result.1.now c.in-Ok.cells.now c.counted-2.result.0.now c.counted-2.result.1.now c.in-Ok.said.0 c.in-Ok.said.1 (state_in i.form i.role i.region i.bytes.now) c.self.invariant f c.in-Ok.ensures c.counted-2.ensures in
    rw (← c.self.view_is) told.relations

pub returns-clause-summary : goal.returns-clause-summary
returns-clause-summary c =
    let i = c.self.inside in
    let f : CountsOff (item_width c.self.inside.form) (drop 40 c.self.inside.bytes.now) c.counted.result.0.now c.counted.result.1.now = λ n xs rest e l. c.counted.ensures n xs rest (c.from_place.ensures ∙ e) (l ∙ ap (λ (w : ℕ). w * n) (sym c.item_width.ensures.exact)) in
    let told = told-is i.form i.role i.region i.bytes.now c.counted.result.0.now c.counted.result.1.now c.in-Ok.cells.now c.counted-2.result.0.now c.counted-2.result.1.now c.in-Ok.said.0 c.in-Ok.said.1 (state_in i.form i.role i.region i.bytes.now) c.self.invariant f c.in-Ok.ensures c.counted-2.ensures in
    rw (← c.self.view_is) told.summary

pub returns-clause-listed : goal.returns-clause-listed
returns-clause-listed c =
    let i = c.self.inside in
    let f : CountsOff (item_width c.self.inside.form) (drop 40 c.self.inside.bytes.now) c.counted.result.0.now c.counted.result.1.now = λ n xs rest e l. c.counted.ensures n xs rest (c.from_place.ensures ∙ e) (l ∙ ap (λ (w : ℕ). w * n) (sym c.item_width.ensures.exact)) in
    let told = told-is i.form i.role i.region i.bytes.now c.counted.result.0.now c.counted.result.1.now c.in-Ok.cells.now c.counted-2.result.0.now c.counted-2.result.1.now c.in-Ok.said.0 c.in-Ok.said.1 (state_in i.form i.role i.region i.bytes.now) c.self.invariant f c.in-Ok.ensures c.counted-2.ensures in
    rw (← c.self.view_is) told.listed

pub returns-clause-long : goal.returns-clause-long
returns-clause-long c =
    let i = c.self.inside in
    let f : CountsOff (item_width c.self.inside.form) (drop 40 c.self.inside.bytes.now) c.counted.result.0.now c.counted.result.1.now = λ n xs rest e l. c.counted.ensures n xs rest (c.from_place.ensures ∙ e) (l ∙ ap (λ (w : ℕ). w * n) (sym c.item_width.ensures.exact)) in
    let told = told-is i.form i.role i.region i.bytes.now c.counted.result.0.now c.counted.result.1.now c.in-Ok.cells.now c.counted-2.result.0.now c.counted-2.result.1.now c.in-Ok.said.0 c.in-Ok.said.1 (state_in i.form i.role i.region i.bytes.now) c.self.invariant f c.in-Ok.ensures c.counted-2.ensures in
    rw (← c.self.view_is) told.long

pub returns-clause-few : goal.returns-clause-few
returns-clause-few c =
    let i = c.self.inside in
    let f : CountsOff (item_width c.self.inside.form) (drop 40 c.self.inside.bytes.now) c.counted.result.0.now c.counted.result.1.now = λ n xs rest e l. c.counted.ensures n xs rest (c.from_place.ensures ∙ e) (l ∙ ap (λ (w : ℕ). w * n) (sym c.item_width.ensures.exact)) in
    let told = told-is i.form i.role i.region i.bytes.now c.counted.result.0.now c.counted.result.1.now c.in-Ok.cells.now c.counted-2.result.0.now c.counted-2.result.1.now c.in-Ok.said.0 c.in-Ok.said.1 (state_in i.form i.role i.region i.bytes.now) c.self.invariant f c.in-Ok.ensures c.counted-2.ensures in
    rw (← c.self.view_is) told.few

pub returns-clause-older : goal.returns-clause-older
returns-clause-older c =
    let i = c.self.inside in
    let f : CountsOff (item_width c.self.inside.form) (drop 40 c.self.inside.bytes.now) c.counted.result.0.now c.counted.result.1.now = λ n xs rest e l. c.counted.ensures n xs rest (c.from_place.ensures ∙ e) (l ∙ ap (λ (w : ℕ). w * n) (sym c.item_width.ensures.exact)) in
    let told = told-is i.form i.role i.region i.bytes.now c.counted.result.0.now c.counted.result.1.now c.in-Ok.cells.now c.counted-2.result.0.now c.counted-2.result.1.now c.in-Ok.said.0 c.in-Ok.said.1 (state_in i.form i.role i.region i.bytes.now) c.self.invariant f c.in-Ok.ensures c.counted-2.ensures in
    rw (← c.self.view_is) told.older
