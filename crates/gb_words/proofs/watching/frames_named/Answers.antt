use Rattle.std.proofs.Common.{◌≡◌, Ok, Err, sym, ◌∙◌, arith}
use Rattle.gb_words.proofs.WatchWords.{decimal_has_no_plus, decimal_is_read, decimal_value}
use Rattle.gb_words.proofs.watching.frames_named.Goals as goal

pub returns-then-begins_with_plus-clause-all : goal.returns-then-begins_with_plus-clause-all
returns-then-begins_with_plus-clause-all c n few is = sym (decimal_has_no_plus n c.args.word.now few is) ∙ sym c.if-begins_with_plus.ensures

pub returns-in_default-clause-all : goal.returns-in_default-clause-all
returns-in_default-clause-all c n few is =
    let bad : Err c.in_default.field-0 ≡ Ok n = decimal_is_read n c.args.word.now (Err c.in_default.field-0) few is c.in_default.ensures.value.0 in cc

pub returns-else-frames-clause-all : goal.returns-else-frames-clause-all
returns-else-frames-clause-all c n few is =
    let same : c.in-Ok.frames ≡ n = decimal_value n c.in-Ok.frames c.args.word.now few is c.in-Ok.ensures.value.0 in absurd (omega (arith, same, few, c.if-frames.false))
