use Rattle.std.proofs.Common.{◌*◌, ℕ, ◌/◌, ◌∙◌, sym, ap, drop, length}
use Rattle.gb_domain.specs.Relations.{no_relations}
use Rattle.gb_domain.specs.Silent.{level_alone}
use Rattle.gb_cert.specs.Borrowed.{state_in, item_width}
use Rattle.gb_cert.proofs.StateLending.{core-fits, CountsOff, items-are, read-fourth, told-is, none-of-three, none-of-five}
use Rattle.gb_cert.proofs.state.StateRef.level.Goals as goal

pub test_in-requires : goal.test_in-requires
test_in-requires c =
    let i = c.self.inside in
    core-fits i.form i.role i.region i.bytes.now (state_in i.form i.role i.region i.bytes.now) c.self.invariant

pub returns-clause-items : goal.returns-clause-items
returns-clause-items c =
    let i = c.self.inside in
    let f : CountsOff (item_width c.self.inside.form) (drop 40 c.self.inside.bytes.now) c.counted.result.0.now c.counted.result.1.now = λ n xs rest e l. c.counted.ensures n xs rest (c.from_place.ensures ∙ e) (l ∙ ap (λ (w : ℕ). w * n) (sym c.item_width.ensures.exact)) in
    let items = items-are i.form i.role i.region i.bytes.now c.counted.result.0.now c.counted.result.1.now (state_in i.form i.role i.region i.bytes.now) c.self.invariant f in
    rw (← c.self.view_is) (none-of-three c.counted.result.0.now (state_in i.form i.role i.region i.bytes.now).items c.if-items-eq0.true items.long)

pub returns-clause-cells : goal.returns-clause-cells
returns-clause-cells c =
    let i = c.self.inside in
    let f : CountsOff (item_width c.self.inside.form) (drop 40 c.self.inside.bytes.now) c.counted.result.0.now c.counted.result.1.now = λ n xs rest e l. c.counted.ensures n xs rest (c.from_place.ensures ∙ e) (l ∙ ap (λ (w : ℕ). w * n) (sym c.item_width.ensures.exact)) in
    let read = read-fourth i.form i.role i.region (length c.counted.result.0.now / 3) c.in-Fourth.facts c.in-Fourth.field-1 i.bytes.now c.counted.result.1.now c.in-Some.cells.now c.test_in.result no_relations (level_alone c.in-Some.level) c.in-Fourth.is c.test_in.ensures c.in-Some.ensures in
    let told = told-is i.form i.role i.region i.bytes.now c.counted.result.0.now c.counted.result.1.now c.in-Some.cells.now c.counted-2.result.0.now c.counted-2.result.1.now no_relations (level_alone c.in-Some.level) (state_in i.form i.role i.region i.bytes.now) c.self.invariant f read c.counted-2.ensures in
    rw (← c.self.view_is) (none-of-five c.counted-2.result.0.now (state_in i.form i.role i.region i.bytes.now).cells c.if-counted-eq0.true told.long)

pub returns-clause-relations : goal.returns-clause-relations
returns-clause-relations c =
    let i = c.self.inside in
    let f : CountsOff (item_width c.self.inside.form) (drop 40 c.self.inside.bytes.now) c.counted.result.0.now c.counted.result.1.now = λ n xs rest e l. c.counted.ensures n xs rest (c.from_place.ensures ∙ e) (l ∙ ap (λ (w : ℕ). w * n) (sym c.item_width.ensures.exact)) in
    let read = read-fourth i.form i.role i.region (length c.counted.result.0.now / 3) c.in-Fourth.facts c.in-Fourth.field-1 i.bytes.now c.counted.result.1.now c.in-Some.cells.now c.test_in.result no_relations (level_alone c.in-Some.level) c.in-Fourth.is c.test_in.ensures c.in-Some.ensures in
    let told = told-is i.form i.role i.region i.bytes.now c.counted.result.0.now c.counted.result.1.now c.in-Some.cells.now c.counted-2.result.0.now c.counted-2.result.1.now no_relations (level_alone c.in-Some.level) (state_in i.form i.role i.region i.bytes.now) c.self.invariant f read c.counted-2.ensures in
    rw (← c.self.view_is) (sym told.relations)

pub returns-clause-summary : goal.returns-clause-summary
returns-clause-summary c =
    let i = c.self.inside in
    let f : CountsOff (item_width c.self.inside.form) (drop 40 c.self.inside.bytes.now) c.counted.result.0.now c.counted.result.1.now = λ n xs rest e l. c.counted.ensures n xs rest (c.from_place.ensures ∙ e) (l ∙ ap (λ (w : ℕ). w * n) (sym c.item_width.ensures.exact)) in
    let read = read-fourth i.form i.role i.region (length c.counted.result.0.now / 3) c.in-Fourth.facts c.in-Fourth.field-1 i.bytes.now c.counted.result.1.now c.in-Some.cells.now c.test_in.result no_relations (level_alone c.in-Some.level) c.in-Fourth.is c.test_in.ensures c.in-Some.ensures in
    let told = told-is i.form i.role i.region i.bytes.now c.counted.result.0.now c.counted.result.1.now c.in-Some.cells.now c.counted-2.result.0.now c.counted-2.result.1.now no_relations (level_alone c.in-Some.level) (state_in i.form i.role i.region i.bytes.now) c.self.invariant f read c.counted-2.ensures in
    rw (← c.self.view_is) (sym told.summary)
