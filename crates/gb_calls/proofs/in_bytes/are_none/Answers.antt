use Rattle.gb_calls.proofs.ItemLaws.{some_uncovered}
use Rattle.gb_calls.proofs.in_bytes.are_none.Goals as goal

pub returns-in-len1-up : goal.returns-in-len1-up
returns-in-len1-up c = some_uncovered c.args.s.now c.in-len1-up.len_at_least
