use Rattle.std.proofs.Common.{◌≡◌, ◌∙◌, ◌≤◌, ap, arith, length, take, ℕ}
use Rattle.gb_domain.specs.Limits.{rules_of}
use Rattle.gb_command_line.specs.Below.gb_verify.Below.gb_states.WholeSpelling as whole
use Rattle.gb_command_line.specs.Below.gb_verify.Widened.{widened}
use Rattle.gb_program.specs.Fourth.{nodes_of}
use Rattle.gb_program.proofs.FourthLaws.{entry_within, exit_free, exit_older, nodes_few, placed_is, procedure_of}
use Rattle.gb_program.proofs.fourth.placed_text.Goals as goal

pub count-requires : goal.count-requires
count-requires c = omega (arith, c.entry.ensures, entry_within c.args.cert.now c.args.number c.procedure-procedure.result c.requires.certificate c.procedure-procedure.ensures)

pub overflow_add-entry : goal.overflow_add-entry
overflow_add-entry c = omega (arith, c.requires.room, c.count.ensures.few, c.entry.ensures, entry_within c.args.cert.now c.args.number c.procedure-procedure.result c.requires.certificate c.procedure-procedure.ensures, nodes_few c.args.cert.now c.requires.certificate)

pub procedure_text-requires-clause-older : goal.procedure_text-requires-clause-older
procedure_text-requires-clause-older c = exit_older c.args.cert.now c.args.number c.procedure-procedure.result c.requires.certificate c.procedure-procedure.ensures

pub procedure_text-requires-clause-kept : goal.procedure_text-requires-clause-kept
procedure_text-requires-clause-kept c = (procedure_of c.args.cert.now c.args.number c.procedure-procedure.result c.requires.certificate c.procedure-procedure.ensures).1.kept

pub procedure_text-requires-clause-mark : goal.procedure_text-requires-clause-mark
procedure_text-requires-clause-mark c = (procedure_of c.args.cert.now c.args.number c.procedure-procedure.result c.requires.certificate c.procedure-procedure.ensures).1.mark

pub returns : goal.returns
returns c =
    c.procedure_text.ensures c.args.cert.now.region (exit_free c.args.cert.now c.args.number c.procedure-procedure.result c.requires.certificate c.procedure-procedure.ensures)
    ∙ placed_is (whole.procedure c.args.cert.now.region) c.args.cert.now c.args.before c.args.number c.count.result c.procedure-procedure.result c.of.result c.procedure-procedure.ensures (c.of.ensures ∙ ap rules_of c.version.ensures)
    (c.count.ensures.exact ∙ ap (λ (k : ℕ). length (nodes_of c.args.number (take k (widened c.args.cert.now).nodes))) c.entry.ensures)
