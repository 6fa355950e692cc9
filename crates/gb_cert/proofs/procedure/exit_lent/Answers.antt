use Rattle.std.proofs.Common.{Bool, subst, arith}
use Rattle.gb_cert.proofs.ProcedureLending.{ExitIs, exit-is, exit-read}
use Rattle.gb_cert.proofs.procedure.exit_lent.Goals as goal

pub unreachable-requires : goal.unreachable-requires
unreachable-requires c = exit-read c.args.form c.args.is_main c.args.region c.args.bytes.now c.in_default.field-0 c.requires.right c.in_default.ensures

pub of_parts-requires : goal.of_parts-requires
of_parts-requires c =
    let a = c.args in
    let is = exit-is a.form a.is_main a.region a.bytes.now c.in-Ok.exit.now c.in-Ok.returns c.requires.fit (λ i. omega (arith, c.type_inv.bytes i)) c.requires.right c.in-Ok.ensures in
    (subst (λ (b : Bool). ExitIs a.form a.is_main a.region a.bytes.now c.in-Ok.exit.now b) c.if-returns.true is).0

pub returns-then-returns : goal.returns-then-returns
returns-then-returns c =
    let a = c.args in
    let is = exit-is a.form a.is_main a.region a.bytes.now c.in-Ok.exit.now c.in-Ok.returns c.requires.fit (λ i. omega (arith, c.type_inv.bytes i)) c.requires.right c.in-Ok.ensures in
    rw c.of_parts.ensures (subst (λ (b : Bool). ExitIs a.form a.is_main a.region a.bytes.now c.in-Ok.exit.now b) c.if-returns.true is).1

pub returns-else-returns : goal.returns-else-returns
returns-else-returns c =
    let a = c.args in
    let is = exit-is a.form a.is_main a.region a.bytes.now c.in-Ok.exit.now c.in-Ok.returns c.requires.fit (λ i. omega (arith, c.type_inv.bytes i)) c.requires.right c.in-Ok.ensures in
    subst (λ (b : Bool). ExitIs a.form a.is_main a.region a.bytes.now c.in-Ok.exit.now b) c.if-returns.false is
