use Rattle.std.proofs.Common.{◌≡◌, ℕ, ◌+◌, ◌≤◌, ◌-◌, Some, sym, ◌∙◌, ap, arith}
use Rattle.gb_domain.specs.Interval.{any_byte}
use Rattle.gb_domain.specs.Values.{interval_of}
use Rattle.gb_product.specs.Below.gb_summaries.Below.gb_ram_bounds.Addresses.{is_in, joined_with}
use Rattle.gb_product.specs.Covering.{byte_in}
use Rattle.gb_abs_memory.specs.Access.{home_of}
use Rattle.gb_successors.proofs.JoinedLaws.{told_soon, joined_more}
use Rattle.gb_successors.proofs.loads.joined_told.Goals as goal

pub returns-then-is_any : goal.returns-then-is_any
returns-then-is_any c =
    let a = c.args in
    let value : ℕ → _ = λ (b : ℕ). interval_of (byte_in a.program.now a.values.now a.cells.now a.summary.now (home_of b)) in
    let all : c.joined_with-all.result ≡ joined_with c.loop-more.known (value (a.addresses.first + c.loop-more.more)) =
    rw (c.interval_of.ensures.exact, c.byte_in-val.ensures, c.home_of.ensures) at c.joined_with-all.ensures in
    let any : c.joined_with-all.result ≡ any_byte = c.is_any.ensures c.if-is_any.true in
    let more = joined_more (is_in a.addresses) value a.addresses.first c.loop-more.more c.loop-more.known (sym c.is_in.ensures ∙ c.if-is_in.true) c.loop-more.invariant in
    let below = c.loop-more-test.true in
    let count = c.count_of-more-end.ensures in
    let few : c.loop-more.more + 1 ≤ a.addresses.last + 1 - a.addresses.first = omega arith in
    any
    ∙ sym (told_soon a.program.now a.values.now a.cells.now a.summary.now a.addresses (c.loop-more.more + 1) c.hold_bytes.ensures few
    (sym more ∙ ap Some (sym all ∙ any)))
