use Rattle.std.proofs.Common.{sym, ◌∙◌, ◌+◌, ap, drop, arith}
use Rattle.gb_states.specs.WholeReading.{or_else}
use Rattle.gb_cert.specs.Entries.{entries_fault_at}
use Rattle.gb_cert.proofs.EntryFaults.{one_entry, no_entry, some_fault, no_fault}
use Rattle.gb_cert.proofs.order.entries_fault_at.Goals as goal

pub returns-then-is_some : goal.returns-then-is_some
returns-then-is_some c =
    let i = c.loop-place.place-index in
    let one = one_entry c.args.version c.loop-place.number i c.args.bytes.now c.args.nodes.now c.args.procedures.now c.args.procedures.now c.loop-place-test.true in
    some_fault _ _ (entries_fault_at c.args.version c.args.bytes.now c.args.nodes.now c.args.procedures.now 0 c.args.procedures.now) (sym c.is_some.ensures ∙ c.if-is_some.true) (ap (λ o. or_else o (entries_fault_at c.args.version c.args.bytes.now c.args.nodes.now c.args.procedures.now (c.loop-place.number + 1) (drop (i + 1) c.args.procedures.now))) c.entry_fault_at-fault.ensures ∙ (sym one ∙ c.loop-place.invariant.rest))

pub loop-place-preserved : goal.loop-place-preserved
loop-place-preserved c =
    let i = c.loop-place.place-index in
    let one = one_entry c.args.version c.loop-place.number i c.args.bytes.now c.args.nodes.now c.args.procedures.now c.args.procedures.now c.loop-place-test.true in
    record {
      number = omega arith;
      rest = no_fault c.entry_fault_at-fault.result _ (entries_fault_at c.args.version c.args.bytes.now c.args.nodes.now c.args.procedures.now 0 c.args.procedures.now) (sym c.is_some.ensures ∙ c.if-is_some.false) (ap (λ o. or_else o (entries_fault_at c.args.version c.args.bytes.now c.args.nodes.now c.args.procedures.now (c.loop-place.number + 1) (drop (i + 1) c.args.procedures.now))) c.entry_fault_at-fault.ensures ∙ (sym one ∙ c.loop-place.invariant.rest));
    }

pub returns : goal.returns
returns c = sym (no_entry c.args.version c.loop-place.number c.loop-place.place-index c.args.bytes.now c.args.nodes.now c.args.procedures.now c.args.procedures.now c.loop-place-test.false) ∙ c.loop-place.invariant.rest
