use Rattle.gb_verify.proofs.FileLaws.{on_err}
use Rattle.gb_verify.proofs.WidenedText.{cut_at, taken_at}
use Rattle.gb_verify.proofs.widen.put_ranges.Goals as goal

pub returns-in_err-put_all-2-clause-beginning : goal.returns-in_err-put_all-2-clause-beginning
returns-in_err-put_all-2-clause-beginning g c =
    on_err c.from_residual-in_err-put_all-2.result (cut_at _ _ _ _ _ _ _ c.loop-range.range-index _ c.loop-range-test.true c.range_bytes.ensures c.loop-range.invariant.remains c.in_err-put_all-2.ensures.beginning)

pub loop-range-preserved : goal.loop-range-preserved
loop-range-preserved g c = record {
  works = c.in_ok-put_all-2.ensures.failed;
  remains = taken_at _ _ _ _ _ _ _ c.loop-range.range-index _ c.loop-range-test.true c.range_bytes.ensures c.loop-range.invariant.remains c.in_ok-put_all-2.ensures.whole;
}
