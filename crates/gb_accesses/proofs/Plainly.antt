-- Where no HALT mark is left and interrupts don't wait, an instruction begins its work by PC alone.
use Rattle.std.proofs.Common.{◌≡◌, ◌≢◌, ℕ, ◌+◌, ◌%◌, refl, sym, ap, ◌∙◌}
use Rattle.gb_ops.specs.declared.op.Row.{Row}
use Rattle.gb_ops.specs.declared.registers.Ime.{Ime}
use Rattle.gb_ops.specs.declared.registers.Ime.TheVariants as ime
use Rattle.gb_ops.specs.declared.registers.Processor.{Processor}
use Rattle.gb_ops.specs.Machine.{advanced, settled, ime_after, way_of, mark_of}
use Rattle.gb_accesses.specs.Plain.{IsPlain}

ime_kept : (i : Ime) → i ≢ ime.Pending → ime_after i ≡ i
unfolding ime_after
ime_kept ime.Off h = refl
ime_kept ime.Pending h = absurd (h refl)
ime_kept ime.On h = refl

settled_plainly : (p : Processor) → IsPlain p → settled p ≡ p
settled_plainly p h = λ i. record p { ime = ime_kept p.ime h.decided i; halt_mark = sym h.unmarked i }

pub no_mark : (p : Processor) → IsPlain p → mark_of p ≡ 0
no_mark p h = rw h.unmarked refl

pub advanced_plainly : (p : Processor) (row : Row) → IsPlain p → advanced p row ≡ record p { pc = (p.pc + way_of row.op row.length 0) % 65536 }
unfolding advanced
advanced_plainly p row h =
    ap (λ (m : ℕ). record (settled p) { pc = (p.pc + way_of row.op row.length m) % 65536 }) (no_mark p h)
    ∙ ap (λ (q : Processor). record q { pc = (p.pc + way_of row.op row.length 0) % 65536 }) (settled_plainly p h)
