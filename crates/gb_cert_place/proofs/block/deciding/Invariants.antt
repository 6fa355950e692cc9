use Rattle.gb_cert_place.specs.Blocks.{read_block}
use Rattle.gb_cert_place.proofs.Stopping.{IsShort}
use Rattle.gb_cert_place.proofs.block.deciding.Given as goal

abbrev pub invariant-loop-i : goal.invariant-loop-i
invariant-loop-i l = IsShort (read_block l.block) l.bytes l.i
