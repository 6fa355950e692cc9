use Rattle.std.proofs.Common.{◌∙◌, sym, arith}
use Rattle.gb_cert_place.specs.Blocks.{read_block}
use Rattle.gb_cert_place.proofs.BlockLaws.{IsLocal-block}
use Rattle.gb_cert_place.proofs.Stopping.{reads_on, stops_here, stops_at_end}
use Rattle.gb_cert_place.proofs.block.deciding.Goals as goal

pub returns-in-Ok : goal.returns-in-Ok
returns-in-Ok c =
    let k = sym c.requires ∙ reads_on (read_block c.args.block) (IsLocal-block c.args.block) c.args.bytes.now c.loop-i.i tt c.in-Ok.field-0.now c.in-Ok.ensures in
    absurd cc

pub returns-then-not-is_missing : goal.returns-then-not-is_missing
returns-then-not-is_missing c =
    stops_here (read_block c.args.block) (IsLocal-block c.args.block) c.args.bytes.now c.args.fault c.in-Err.found c.loop-i.i c.requires c.loop-i-test.true c.loop-i.invariant c.in-Err.ensures (sym c.if-not-is_missing.ensures)

pub returns : goal.returns
returns c = stops_at_end (read_block c.args.block) (IsLocal-block c.args.block) c.args.bytes.now c.args.fault c.requires (λ j lt. c.loop-i.invariant j (omega arith))
