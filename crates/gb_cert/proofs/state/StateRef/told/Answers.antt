use Rattle.std.proofs.Common.{◌*◌, ℕ, ◌/◌, ◌∙◌, sym, ap, drop, length}
use Rattle.gb_domain.specs.Relations.{no_relations}
use Rattle.gb_domain.specs.Silent.{level_alone}
use Rattle.gb_cert.specs.Borrowed.{state_in, item_width}
use Rattle.gb_cert.proofs.StateLending.{core-fits, CountsOff, read-fourth, told-is}
use Rattle.gb_cert.proofs.state.StateRef.told.Goals as goal

pub test_in-requires : goal.test_in-requires
test_in-requires c =
    let i = c.self.inside in
    core-fits i.form i.role i.region i.bytes.now (state_in i.form i.role i.region i.bytes.now) c.self.invariant

pub returns-clause-relations : goal.returns-clause-relations
returns-clause-relations c =
    let i = c.self.inside in
    let f : CountsOff (item_width c.self.inside.form) (drop 40 c.self.inside.bytes.now) c.counted.result.0.now c.counted.result.1.now = λ n xs rest e l. c.counted.ensures n xs rest (c.from_place.ensures ∙ e) (l ∙ ap (λ (w : ℕ). w * n) (sym c.item_width.ensures.exact)) in
    let read = read-fourth i.form i.role i.region (length c.counted.result.0.now / 3) c.in-Fourth.facts c.in-Fourth.field-1 i.bytes.now c.counted.result.1.now c.in-Some.cells.now c.test_in.result no_relations (level_alone c.in-Some.level) c.in-Fourth.is c.test_in.ensures c.in-Some.ensures in
    let told = told-is i.form i.role i.region i.bytes.now c.counted.result.0.now c.counted.result.1.now c.in-Some.cells.now c.counted-2.result.0.now c.counted-2.result.1.now no_relations (level_alone c.in-Some.level) (state_in i.form i.role i.region i.bytes.now) c.self.invariant f read c.counted-2.ensures in
    rw (← c.self.view_is) (c.default.ensures ∙ told.relations)

pub returns-clause-summary : goal.returns-clause-summary
returns-clause-summary c =
    let i = c.self.inside in
    let f : CountsOff (item_width c.self.inside.form) (drop 40 c.self.inside.bytes.now) c.counted.result.0.now c.counted.result.1.now = λ n xs rest e l. c.counted.ensures n xs rest (c.from_place.ensures ∙ e) (l ∙ ap (λ (w : ℕ). w * n) (sym c.item_width.ensures.exact)) in
    let read = read-fourth i.form i.role i.region (length c.counted.result.0.now / 3) c.in-Fourth.facts c.in-Fourth.field-1 i.bytes.now c.counted.result.1.now c.in-Some.cells.now c.test_in.result no_relations (level_alone c.in-Some.level) c.in-Fourth.is c.test_in.ensures c.in-Some.ensures in
    let told = told-is i.form i.role i.region i.bytes.now c.counted.result.0.now c.counted.result.1.now c.in-Some.cells.now c.counted-2.result.0.now c.counted-2.result.1.now no_relations (level_alone c.in-Some.level) (state_in i.form i.role i.region i.bytes.now) c.self.invariant f read c.counted-2.ensures in
    rw (← c.self.view_is) (c.of_level.ensures ∙ told.summary)

pub returns-clause-listed : goal.returns-clause-listed
returns-clause-listed c =
    let i = c.self.inside in
    let f : CountsOff (item_width c.self.inside.form) (drop 40 c.self.inside.bytes.now) c.counted.result.0.now c.counted.result.1.now = λ n xs rest e l. c.counted.ensures n xs rest (c.from_place.ensures ∙ e) (l ∙ ap (λ (w : ℕ). w * n) (sym c.item_width.ensures.exact)) in
    let read = read-fourth i.form i.role i.region (length c.counted.result.0.now / 3) c.in-Fourth.facts c.in-Fourth.field-1 i.bytes.now c.counted.result.1.now c.in-Some.cells.now c.test_in.result no_relations (level_alone c.in-Some.level) c.in-Fourth.is c.test_in.ensures c.in-Some.ensures in
    let told = told-is i.form i.role i.region i.bytes.now c.counted.result.0.now c.counted.result.1.now c.in-Some.cells.now c.counted-2.result.0.now c.counted-2.result.1.now no_relations (level_alone c.in-Some.level) (state_in i.form i.role i.region i.bytes.now) c.self.invariant f read c.counted-2.ensures in
    rw (← c.self.view_is) told.listed

pub returns-clause-long : goal.returns-clause-long
returns-clause-long c =
    let i = c.self.inside in
    let f : CountsOff (item_width c.self.inside.form) (drop 40 c.self.inside.bytes.now) c.counted.result.0.now c.counted.result.1.now = λ n xs rest e l. c.counted.ensures n xs rest (c.from_place.ensures ∙ e) (l ∙ ap (λ (w : ℕ). w * n) (sym c.item_width.ensures.exact)) in
    let read = read-fourth i.form i.role i.region (length c.counted.result.0.now / 3) c.in-Fourth.facts c.in-Fourth.field-1 i.bytes.now c.counted.result.1.now c.in-Some.cells.now c.test_in.result no_relations (level_alone c.in-Some.level) c.in-Fourth.is c.test_in.ensures c.in-Some.ensures in
    let told = told-is i.form i.role i.region i.bytes.now c.counted.result.0.now c.counted.result.1.now c.in-Some.cells.now c.counted-2.result.0.now c.counted-2.result.1.now no_relations (level_alone c.in-Some.level) (state_in i.form i.role i.region i.bytes.now) c.self.invariant f read c.counted-2.ensures in
    rw (← c.self.view_is) told.long

pub returns-clause-few : goal.returns-clause-few
returns-clause-few c =
    let i = c.self.inside in
    let f : CountsOff (item_width c.self.inside.form) (drop 40 c.self.inside.bytes.now) c.counted.result.0.now c.counted.result.1.now = λ n xs rest e l. c.counted.ensures n xs rest (c.from_place.ensures ∙ e) (l ∙ ap (λ (w : ℕ). w * n) (sym c.item_width.ensures.exact)) in
    let read = read-fourth i.form i.role i.region (length c.counted.result.0.now / 3) c.in-Fourth.facts c.in-Fourth.field-1 i.bytes.now c.counted.result.1.now c.in-Some.cells.now c.test_in.result no_relations (level_alone c.in-Some.level) c.in-Fourth.is c.test_in.ensures c.in-Some.ensures in
    let told = told-is i.form i.role i.region i.bytes.now c.counted.result.0.now c.counted.result.1.now c.in-Some.cells.now c.counted-2.result.0.now c.counted-2.result.1.now no_relations (level_alone c.in-Some.level) (state_in i.form i.role i.region i.bytes.now) c.self.invariant f read c.counted-2.ensures in
    rw (← c.self.view_is) told.few

pub returns-clause-older : goal.returns-clause-older
returns-clause-older c =
    let i = c.self.inside in
    let f : CountsOff (item_width c.self.inside.form) (drop 40 c.self.inside.bytes.now) c.counted.result.0.now c.counted.result.1.now = λ n xs rest e l. c.counted.ensures n xs rest (c.from_place.ensures ∙ e) (l ∙ ap (λ (w : ℕ). w * n) (sym c.item_width.ensures.exact)) in
    let read = read-fourth i.form i.role i.region (length c.counted.result.0.now / 3) c.in-Fourth.facts c.in-Fourth.field-1 i.bytes.now c.counted.result.1.now c.in-Some.cells.now c.test_in.result no_relations (level_alone c.in-Some.level) c.in-Fourth.is c.test_in.ensures c.in-Some.ensures in
    let told = told-is i.form i.role i.region i.bytes.now c.counted.result.0.now c.counted.result.1.now c.in-Some.cells.now c.counted-2.result.0.now c.counted-2.result.1.now no_relations (level_alone c.in-Some.level) (state_in i.form i.role i.region i.bytes.now) c.self.invariant f read c.counted-2.ensures in
    rw (← c.self.view_is) told.older
