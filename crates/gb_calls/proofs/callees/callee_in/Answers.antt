use Rattle.std.proofs.Common.{◌≡◌, ◌≤◌, true, false, sym, ◌∙◌, arith}
use Rattle.gb_calls.specs.Calls.{is_entry, callee_of}
use Rattle.gb_calls.proofs.CalleeLaws.{callee-taken, callee-passed}
use Rattle.gb_calls.proofs.NumberLaws.{callee-first, callee-last}
use Rattle.gb_calls.proofs.callees.callee_in.Goals as goal

pub loop-i-init : goal.loop-i-init
loop-i-init c =
    callee-first c.args.program.now c.args.cert.now c.args.setting c.args.address c.args.state.now c.numbers_at-first.result.0 c.numbers_at-first.result.1 c.numbers_at-first.ensures

pub returns-then-is_entry : goal.returns-then-is_entry
unfolding callee_of
returns-then-is_entry c =
    let begins : is_entry c.args.program.now c.args.cert.now c.args.setting c.args.address c.args.state.now c.procedure-procedure.result ≡ true =
    sym c.is_entry.ensures ∙ c.if-is_entry.true in
    record {
      exact = sym (callee-taken c.args.program.now c.args.cert.now c.args.setting c.args.address c.args.state.now c.loop-i.i c.procedure-procedure.result c.procedure-procedure.ensures begins)
          ∙ c.loop-i.invariant;
    }

pub loop-i-preserved : goal.loop-i-preserved
loop-i-preserved c =
    let apart : is_entry c.args.program.now c.args.cert.now c.args.setting c.args.address c.args.state.now c.procedure-procedure.result ≡ false =
    sym c.is_entry.ensures ∙ c.if-is_entry.false in
    sym (callee-passed c.args.program.now c.args.cert.now c.args.setting c.args.address c.args.state.now c.loop-i.i c.procedure-procedure.result c.procedure-procedure.ensures apart)
    ∙ c.loop-i.invariant

pub returns : goal.returns
unfolding callee_of
returns c =
    let behind : c.numbers_at-first.result.1 ≤ c.loop-i.i = let not_before = c.loop-i-test.false in omega arith in
    record {
      exact = sym (callee-last c.args.program.now c.args.cert.now c.args.setting c.args.address c.args.state.now c.numbers_at-first.result.0 c.numbers_at-first.result.1 c.loop-i.i c.numbers_at-first.ensures c.loop-i.auto.i behind)
          ∙ c.loop-i.invariant;
    }
