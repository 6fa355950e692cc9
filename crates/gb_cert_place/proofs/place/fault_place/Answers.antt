use Rattle.std.proofs.Common.{sym}
use Rattle.gb_cert_place.specs.Places.{InField}
use Rattle.gb_cert_place.proofs.Containing.{falls_in}
use Rattle.gb_cert_place.proofs.PlaceLaws.{of_parts, behind_parts, is_other}
use Rattle.gb_cert_place.proofs.place.fault_place.Goals as goal

pub returns-else-is_memory : goal.returns-else-is_memory
returns-else-is_memory c =
    rw (c.behind.ensures, c.saturating_sub.ensures) (behind_parts c.args.bytes.now c.in-Ok.rest.now c.in-Some.fault c.in-Ok.ensures.reads (c.in-Some.ensures (is_other c.in-Some.fault (sym c.if-is_memory.ensures))))

pub returns-in-Err : goal.returns-in-Err
returns-in-Err c =
    let p = c.in-Err.ensures.reads in
    let b = c.in-Err.ensures.block in
    rw c.place_of.ensures (of_parts c.args.bytes.now c.in-Err.stop p, InField b (falls_in c.args.bytes.now c.in-Err.stop p.order p.few b).1)

pub returns-then-is_memory : goal.returns-then-is_memory
returns-then-is_memory c = (c.in-Ok.rest.now, c.in-Ok.ensures.reads)
