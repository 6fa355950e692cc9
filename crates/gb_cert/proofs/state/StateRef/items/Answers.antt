use Rattle.std.proofs.Common.{◌*◌, ℕ, ◌∙◌, sym, ap, drop}
use Rattle.gb_cert.specs.Borrowed.{state_in, item_width}
use Rattle.gb_cert.proofs.StateLending.{CountsOff, items-are}
use Rattle.gb_cert.proofs.state.StateRef.items.Goals as goal

pub returns-clause-listed : goal.returns-clause-listed
returns-clause-listed c =
    let i = c.self.inside in
    let f : CountsOff (item_width c.self.inside.form) (drop 40 c.self.inside.bytes.now) c.counted.result.0.now c.counted.result.1.now = λ n xs rest e l. c.counted.ensures n xs rest (c.from_place.ensures ∙ e) (l ∙ ap (λ (w : ℕ). w * n) (sym c.item_width.ensures.exact)) in
    rw (← c.self.view_is) (items-are i.form i.role i.region i.bytes.now c.counted.result.0.now c.counted.result.1.now (state_in i.form i.role i.region i.bytes.now) c.self.invariant f).listed

pub returns-clause-long : goal.returns-clause-long
returns-clause-long c =
    let i = c.self.inside in
    let f : CountsOff (item_width c.self.inside.form) (drop 40 c.self.inside.bytes.now) c.counted.result.0.now c.counted.result.1.now = λ n xs rest e l. c.counted.ensures n xs rest (c.from_place.ensures ∙ e) (l ∙ ap (λ (w : ℕ). w * n) (sym c.item_width.ensures.exact)) in
    rw (← c.self.view_is) (items-are i.form i.role i.region i.bytes.now c.counted.result.0.now c.counted.result.1.now (state_in i.form i.role i.region i.bytes.now) c.self.invariant f).long

pub returns-clause-few : goal.returns-clause-few
returns-clause-few c =
    let i = c.self.inside in
    let f : CountsOff (item_width c.self.inside.form) (drop 40 c.self.inside.bytes.now) c.counted.result.0.now c.counted.result.1.now = λ n xs rest e l. c.counted.ensures n xs rest (c.from_place.ensures ∙ e) (l ∙ ap (λ (w : ℕ). w * n) (sym c.item_width.ensures.exact)) in
    rw (← c.self.view_is) (items-are i.form i.role i.region i.bytes.now c.counted.result.0.now c.counted.result.1.now (state_in i.form i.role i.region i.bytes.now) c.self.invariant f).few

pub returns-clause-older : goal.returns-clause-older
returns-clause-older c =
    let i = c.self.inside in
    let f : CountsOff (item_width c.self.inside.form) (drop 40 c.self.inside.bytes.now) c.counted.result.0.now c.counted.result.1.now = λ n xs rest e l. c.counted.ensures n xs rest (c.from_place.ensures ∙ e) (l ∙ ap (λ (w : ℕ). w * n) (sym c.item_width.ensures.exact)) in
    rw (← c.self.view_is) (items-are i.form i.role i.region i.bytes.now c.counted.result.0.now c.counted.result.1.now (state_in i.form i.role i.region i.bytes.now) c.self.invariant f).older
