use Rattle.std.proofs.Common.{◌-◌, ◌≤◌, length, take, ap, ◌∙◌, refl, subst}
use Rattle.gb_summaries.proofs.ReturningLaws.{all_appended}
use Rattle.gb_summaries.proofs.returning.append_fills.Goals as goal

-- src/returning.rt:148:1
pub returns : goal.returns
returns c =
    all_appended 8 c.loop-fill.fill-index c.args.fills.now.items c.args.others.now (take (8 - length c.args.fills.now.items) c.args.others.now) c.loop-fill.fills.items
    c.requires refl (subst (λ xs. length xs ≤ c.loop-fill.fill-index) (c.first_fills-fill-items.ensures ∙ ap (λ n. take (8 - n) c.args.others.now) c.len-room.ensures.value) c.loop-fill-test.false) c.loop-fill.invariant.0
