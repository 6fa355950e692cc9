use Rattle.std.proofs.Common.{arith}
use Rattle.std.proofs.lemmas.List.{take_min}
use Rattle.std.proofs.lemmas.Grind.{common_steps}
use Rattle.gb_text.proofs.kept_bytes.KeptBytes.into_line.Goals as goal

pub returns : goal.returns
returns c = grind (arith, common_steps, take_min 96 c.args.self.bytes)
