use Rattle.std.proofs.Common.{◌≡◌, ◌==◌, ◌<◌, ◌∙◌, ℕ, List, length, sym, ap, subst, Some, None, Err, arith}
use Rattle.std.proofs.lemmas.Result.{err_from_is_err_and}
use Rattle.gb_states.specs.declared.form.ProcedureForm.{ProcedureForm}
use Rattle.gb_states.specs.Below.gb_fields.Reading.{head_in}
use Rattle.gb_states.specs.WholeReading.{procedures_at, nodes_at}
use Rattle.gb_states.specs.WholeSpelling as spelled
use Rattle.gb_cert.specs.Places.{AreFormed}
use Rattle.gb_cert.specs.Entries.{entries_fault_at}
use Rattle.gb_cert.proofs.WholeLaying.{is-head, last-small, few-facts, facts-left, no-head, no-facts, no-procedures, no-nodes, forms-few, walked, no-entries, some-left, is-found, none_of}
use Rattle.gb_cert.proofs.parse.walk.Goals as goal

pub returns-in_err-head : goal.returns-in_err-head
returns-in_err-head c =
    let p = err_from_is_err_and c.from_residual.result c.from_residual.ensures.1 in
    rw (p.1, p.2) (λ m. no-head c.args.bytes.now c.in_err-head.field-0.0 c.in_err-head.ensures)

pub returns-in_err-facts : goal.returns-in_err-facts
returns-in_err-facts c =
    let p = err_from_is_err_and c.from_residual-in_err-facts.result c.from_residual-in_err-facts.ensures.1 in
    rw (p.1, p.2) (λ m. no-facts c.args.bytes.now (head_in c.in_ok-head.head) c.in_ok-head.rest.now c.in_err-facts.field-0.0 c.in_ok-head.ensures (c.in_err-facts.ensures m))

pub overflow_cast-fact_count : goal.overflow_cast-fact_count
overflow_cast-fact_count c =
    let few : length c.in_ok-facts.facts.items < 65536 = few-facts c.args.bytes.now (head_in c.in_ok-head.head) c.in_ok-head.rest.now c.in_ok-facts.facts.items c.in_ok-facts.rest.now (λ i. omega (arith, c.type_inv.bytes i)) c.in_ok-head.ensures c.in_ok-facts.ensures in
    let is : length c.as_slice.result.now ≡ length c.in_ok-facts.facts.items = (ap length c.as_slice.ensures.value) in
    omega (arith, few, is)

pub place_procedures-requires-clause-few : goal.place_procedures-requires-clause-few
place_procedures-requires-clause-few c = (is-head c.args.bytes.now (head_in c.in_ok-head.head) c.in_ok-head.rest.now (λ i. omega (arith, c.type_inv.bytes i)) c.in_ok-head.ensures).few_nodes

pub place_procedures-requires-clause-last : goal.place_procedures-requires-clause-last
place_procedures-requires-clause-last c = last-small c.args.bytes.now (head_in c.in_ok-head.head) c.in_ok-head.rest.now (λ i. omega (arith, c.type_inv.bytes i)) c.in_ok-head.ensures

pub place_procedures-requires-clause-left : goal.place_procedures-requires-clause-left
place_procedures-requires-clause-left c = facts-left c.args.bytes.now (head_in c.in_ok-head.head) c.in_ok-head.rest.now c.in_ok-facts.facts.items c.in_ok-facts.rest.now (λ i. omega (arith, c.type_inv.bytes i)) c.in_ok-head.ensures c.in_ok-facts.ensures

pub returns-in_err-procedures : goal.returns-in_err-procedures
returns-in_err-procedures c =
    let p = err_from_is_err_and c.from_residual-in_err-procedures.result c.from_residual-in_err-procedures.ensures.1 in
    rw (p.1, p.2) (λ m. no-procedures c.args.bytes.now (head_in c.in_ok-head.head) c.in_ok-head.rest.now c.in_ok-facts.facts.items c.in_ok-facts.rest.now c.in_err-procedures.field-0.0 c.in_ok-head.ensures c.in_ok-facts.ensures (subst (λ (n : ℕ). procedures_at (head_in c.in_ok-head.head) n c.in_ok-facts.rest.now ≡ Err c.in_err-procedures.field-0.0) (ap length c.as_slice.ensures.value) (c.in_err-procedures.ensures m)))

pub place_nodes-requires-clause-procedures : goal.place_nodes-requires-clause-procedures
place_nodes-requires-clause-procedures c = (is-head c.args.bytes.now (head_in c.in_ok-head.head) c.in_ok-head.rest.now (λ i. omega (arith, c.type_inv.bytes i)) c.in_ok-head.ensures).few_procedures

pub place_nodes-requires-clause-few : goal.place_nodes-requires-clause-few
place_nodes-requires-clause-few c = rw c.as_slice-2.ensures.value (forms-few c.args.bytes.now (head_in c.in_ok-head.head) c.in_ok-head.rest.now c.in_ok-facts.facts.items c.in_ok-facts.rest.now c.in_ok-procedures.procedures.items c.in_ok-procedures.forms.items c.in_ok-procedures.rest.now (λ i. omega (arith, c.type_inv.bytes i)) c.in_ok-head.ensures c.in_ok-facts.ensures (subst (λ (m : ℕ). AreFormed (c.in_ok-head.head.version == 4) (spelled.procedure_by (c.in_ok-head.head.version == 4) c.in_ok-head.head.version c.in_ok-head.head.region) c.args.bytes.now (procedures_at (head_in c.in_ok-head.head) m c.in_ok-facts.rest.now) c.in_ok-procedures.procedures.items c.in_ok-procedures.forms.items c.in_ok-procedures.rest.now) (ap length c.as_slice.ensures.value) c.in_ok-procedures.ensures))

pub returns-in_err-nodes : goal.returns-in_err-nodes
returns-in_err-nodes c =
    let p = err_from_is_err_and c.from_residual-in_err-nodes.result c.from_residual-in_err-nodes.ensures.1 in
    rw (p.1, p.2) (λ m. no-nodes c.args.bytes.now (head_in c.in_ok-head.head) c.in_ok-head.rest.now c.in_ok-facts.facts.items c.in_ok-facts.rest.now c.in_ok-procedures.procedures.items c.in_ok-procedures.forms.items c.in_ok-procedures.rest.now c.in_err-nodes.field-0.0 c.in_ok-head.ensures c.in_ok-facts.ensures (subst (λ (m : ℕ). AreFormed (c.in_ok-head.head.version == 4) (spelled.procedure_by (c.in_ok-head.head.version == 4) c.in_ok-head.head.version c.in_ok-head.head.region) c.args.bytes.now (procedures_at (head_in c.in_ok-head.head) m c.in_ok-facts.rest.now) c.in_ok-procedures.procedures.items c.in_ok-procedures.forms.items c.in_ok-procedures.rest.now) (ap length c.as_slice.ensures.value) c.in_ok-procedures.ensures)
    (subst (λ (fs : List ProcedureForm). nodes_at (head_in c.in_ok-head.head) (length c.in_ok-facts.facts.items) fs c.in_ok-procedures.rest.now ≡ Err c.in_err-nodes.field-0.0) c.as_slice-2.ensures.value (subst (λ (n : ℕ). nodes_at (head_in c.in_ok-head.head) n c.as_slice-2.result.now c.in_ok-procedures.rest.now ≡ Err c.in_err-nodes.field-0.0) (ap length c.as_slice.ensures.value) (c.in_err-nodes.ensures m))))

pub returns-in-Some : goal.returns-in-Some
returns-in-Some c = λ m.
    let w = walked c.args.bytes.now (head_in c.in_ok-head.head) c.in_ok-head.rest.now c.in_ok-facts.facts.items c.in_ok-facts.rest.now c.in_ok-procedures.procedures.items c.in_ok-procedures.forms.items c.in_ok-procedures.rest.now c.in_ok-nodes.nodes.items c.in_ok-nodes.rest.now (length c.as_slice.result.now) c.as_slice-2.result.now (ap length c.as_slice.ensures.value) c.as_slice-2.ensures.value (λ i. omega (arith, c.type_inv.bytes i)) c.in_ok-head.ensures c.in_ok-facts.ensures c.in_ok-procedures.ensures c.in_ok-nodes.ensures in
    let e : entries_fault_at c.in_ok-head.head.version c.args.bytes.now c.in_ok-nodes.nodes.items c.in_ok-procedures.procedures.items 0 c.in_ok-procedures.procedures.items ≡ Some c.in-Some.fault = rw (← c.as_slice-3.ensures.value, ← c.as_slice-4.ensures.value) (sym c.in-Some.ensures) in
    no-entries c.args.bytes.now (head_in c.in_ok-head.head) c.in_ok-head.rest.now c.in_ok-facts.facts.items c.in_ok-facts.rest.now c.in_ok-procedures.procedures.items c.in_ok-procedures.forms.items c.in_ok-procedures.rest.now c.in_ok-nodes.nodes.items c.in_ok-nodes.rest.now c.in-Some.fault w e

pub returns-then-not-is_empty : goal.returns-then-not-is_empty
returns-then-not-is_empty c = λ m.
    let w = walked c.args.bytes.now (head_in c.in_ok-head.head) c.in_ok-head.rest.now c.in_ok-facts.facts.items c.in_ok-facts.rest.now c.in_ok-procedures.procedures.items c.in_ok-procedures.forms.items c.in_ok-procedures.rest.now c.in_ok-nodes.nodes.items c.in_ok-nodes.rest.now (length c.as_slice.result.now) c.as_slice-2.result.now (ap length c.as_slice.ensures.value) c.as_slice-2.ensures.value (λ i. omega (arith, c.type_inv.bytes i)) c.in_ok-head.ensures c.in_ok-facts.ensures c.in_ok-procedures.ensures c.in_ok-nodes.ensures in
    let e : entries_fault_at c.in_ok-head.head.version c.args.bytes.now c.in_ok-nodes.nodes.items c.in_ok-procedures.procedures.items 0 c.in_ok-procedures.procedures.items ≡ None = rw (← c.as_slice-3.ensures.value, ← c.as_slice-4.ensures.value) (sym c.entries_fault_at-fault.ensures ∙ none_of c.entries_fault_at-fault.result c.in_default.not-Some) in
    some-left c.args.bytes.now (head_in c.in_ok-head.head) c.in_ok-head.rest.now c.in_ok-facts.facts.items c.in_ok-facts.rest.now c.in_ok-procedures.procedures.items c.in_ok-procedures.forms.items c.in_ok-procedures.rest.now c.in_ok-nodes.nodes.items c.in_ok-nodes.rest.now w e (sym c.is_empty.ensures ∙ c.if-not-is_empty.true)

pub returns : goal.returns
returns c =
    let w = walked c.args.bytes.now (head_in c.in_ok-head.head) c.in_ok-head.rest.now c.in_ok-facts.facts.items c.in_ok-facts.rest.now c.in_ok-procedures.procedures.items c.in_ok-procedures.forms.items c.in_ok-procedures.rest.now c.in_ok-nodes.nodes.items c.in_ok-nodes.rest.now (length c.as_slice.result.now) c.as_slice-2.result.now (ap length c.as_slice.ensures.value) c.as_slice-2.ensures.value (λ i. omega (arith, c.type_inv.bytes i)) c.in_ok-head.ensures c.in_ok-facts.ensures c.in_ok-procedures.ensures c.in_ok-nodes.ensures in
    let e : entries_fault_at c.in_ok-head.head.version c.args.bytes.now c.in_ok-nodes.nodes.items c.in_ok-procedures.procedures.items 0 c.in_ok-procedures.procedures.items ≡ None = rw (← c.as_slice-3.ensures.value, ← c.as_slice-4.ensures.value) (sym c.entries_fault_at-fault.ensures ∙ none_of c.entries_fault_at-fault.result c.in_default.not-Some) in
    is-found c.args.bytes.now (head_in c.in_ok-head.head) c.in_ok-head.rest.now c.in_ok-facts.facts.items c.in_ok-facts.rest.now c.in_ok-procedures.procedures.items c.in_ok-procedures.forms.items c.in_ok-procedures.rest.now c.in_ok-nodes.nodes.items c.in_ok-nodes.rest.now w e (sym c.is_empty.ensures ∙ c.if-not-is_empty.false)
