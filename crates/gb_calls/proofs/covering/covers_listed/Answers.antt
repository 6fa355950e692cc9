use Rattle.std.proofs.Common.{◌≡◌, true, false, List, [], length, Option, Some, None, is_none, is_some, refl, sym, ap, subst, ◌∙◌, ◌≤◌}
use Rattle.gb_domain.specs.declared.relations.Relations.{Relations}
use Rattle.gb_domain.specs.declared.pairs.Bounds.{Bounds}
use Rattle.gb_domain.specs.declared.types.Cell.{Cell}
use Rattle.gb_domain.specs.declared.types.Val.{Val}
use Rattle.gb_domain.specs.Relations.{no_relations}
use Rattle.gb_product.specs.Below.gb_abs.Covering.{covers_items}
use Rattle.gb_product.specs.Below.gb_relations.Transfer.{values_of}
use Rattle.gb_product.specs.Covering.{covers_relations}
use Rattle.gb_product.proofs.NothingLaws.{nothing_covered}
use Rattle.gb_calls.proofs.CoveringLaws.{covers_less}
use Rattle.gb_calls.proofs.covering.covers_listed.Goals as goal

no_bounds : (o : Option Bounds) → is_some o ≡ false → is_none o ≡ true
no_bounds None h = refl
no_bounds (Some b) h = cc

pub returns : goal.returns
returns c =
    let program = c.args.program.now in
    let s = c.args.states.now in
    let cells = s.lists.now.cells in
    let said = s.summary.now in
    let t = c.args.claimed.now in
    let words = c.holds_words.ensures in
    let related : covers_relations program s.core.now.registers cells said s.relations.now t.relations ≡ true =
    (ap (λ (r : Relations). covers_relations program s.core.now.registers cells said s.relations.now r) c.in-Some.ensures.relations ∙ nothing_covered program s.core.now.registers cells said s.relations.now no_relations refl words.bc words.de words.hl) in
    let no_items : covers_items s.lists.now.items [] ≡ true = (ap (λ (vs : List Val). covers_items vs []) (sym c.items.ensures.items) ∙ sym c.if-are_none.ensures) in
    let none : length s.lists.now.cells ≡ 0 = (ap (λ (cs : List Cell). length cs) (sym c.cells.ensures.cells) ∙ c.if-cells-eq0.true) in
    let aside : is_none s.summary.now.aside ≡ true = (ap (λ (b : Option Bounds). is_none b) (sym c.aside.ensures) ∙ no_bounds c.aside.result c.if-is_none.ensures) in
    sym
    (covers_less c.args.program.now (values_of s.core.now.registers s.relations.now.pairs) s.core.now.ctl s.lists.now.cells s.summary.now s.lists.now.items t.items (covers_relations program s.core.now.registers cells said s.relations.now t.relations) t.cells t.summary c.in-Some.level
    c.in-Some.ensures.items c.in-Some.ensures.cells c.in-Some.ensures.summary no_items related none aside (subst (λ n. c.in-Some.level ≤ n) c.level-2.ensures c.if-level.true))
