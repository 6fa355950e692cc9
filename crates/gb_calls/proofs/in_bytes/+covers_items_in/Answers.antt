use Rattle.gb_calls.proofs.ItemLaws.{none_covered, fewer_covered, then_covered, else_covered}
use Rattle.gb_calls.proofs.in_bytes.+covers_items_in.Goals as goal

pub returns-in_default : goal.returns-in_default
returns-in_default t c = none_covered c.args.s.now c.args.bytes.now c.are_none.result c.in_default.len_below c.are_none.ensures

pub returns-in-empty : goal.returns-in-empty
returns-in-empty t c = fewer_covered c.args.s.now c.args.bytes.now c.in-empty.len_below c.in-len3-up.len_at_least

pub returns-then-covers_val_of : goal.returns-then-covers_val_of
returns-then-covers_val_of t c =
    then_covered c.args.s.now c.args.bytes.now c.covers_val_of.result c.covers_items_in.result c.in-len1-up.len_at_least c.in-len3-up.len_at_least
    c.covers_val_of.ensures c.covers_items_in.ensures c.if-covers_val_of.true

pub returns-else-covers_val_of : goal.returns-else-covers_val_of
returns-else-covers_val_of t c =
    else_covered c.args.s.now c.args.bytes.now c.covers_val_of.result c.in-len1-up.len_at_least c.in-len3-up.len_at_least c.covers_val_of.ensures c.if-covers_val_of.false
