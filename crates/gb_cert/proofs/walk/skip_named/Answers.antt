use Rattle.std.proofs.Common.{◌≡◌, ◌∙◌, ℕ, ap, subst, length, Ok, Err}
use Rattle.std.proofs.lemmas.Result.{err_from_is_err_and}
use Rattle.gb_states.specs.WholeReading.{exit_at}
use Rattle.gb_cert.specs.Skipping.{skipped, past}
use Rattle.gb_cert.proofs.FourthSkipping.{mark_then}
use Rattle.gb_cert.proofs.walk.skip_named.Goals as goal

pub returns-in_err-after : goal.returns-in_err-after
returns-in_err-after c =
    let p = err_from_is_err_and c.from_residual-in_err-after.result c.from_residual-in_err-after.ensures.1 in
    let e = mark_then c.args.facts c.args.base c.args.is_main c.args.region c.args.bytes.now c.in_ok-kept.kept.items c.in_ok-kept.rest.now c.in_ok-_mark._mark c.in_ok-_mark.rest.now c.in_ok-kept.ensures c.in_ok-_mark.ensures in
    let f = subst (λ (n : ℕ). skipped (exit_at c.args.facts (record { kept = n; base = c.args.base }) c.args.is_main c.args.region) c.in_ok-_mark.rest.now ≡ Err c.in_err-after.field-0.0) c.len.ensures.value c.in_err-after.ensures in
    rw (p.1, p.2) (e ∙ ap (λ r. past r (λ rest. Ok (record { kept = length c.in_ok-kept.kept.items; base = c.args.base }, rest))) f)

pub returns : goal.returns
returns c =
    let e = mark_then c.args.facts c.args.base c.args.is_main c.args.region c.args.bytes.now c.in_ok-kept.kept.items c.in_ok-kept.rest.now c.in_ok-_mark._mark c.in_ok-_mark.rest.now c.in_ok-kept.ensures c.in_ok-_mark.ensures in
    let f = subst (λ (n : ℕ). skipped (exit_at c.args.facts (record { kept = n; base = c.args.base }) c.args.is_main c.args.region) c.in_ok-_mark.rest.now ≡ Ok c.in_ok-after.after.now) c.len.ensures.value c.in_ok-after.ensures in
    rw c.len.ensures.value (e ∙ ap (λ r. past r (λ rest. Ok (record { kept = length c.in_ok-kept.kept.items; base = c.args.base }, rest))) f)
