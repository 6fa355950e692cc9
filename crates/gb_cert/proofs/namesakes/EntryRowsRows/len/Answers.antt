use Rattle.std.proofs.Common.{arith}
use Rattle.gb_cert.proofs.NamesakeLaws.{starts_length}
use Rattle.gb_cert.proofs.namesakes.EntryRowsRows.len.Goals as goal

pub returns : goal.returns
returns c = let many = starts_length c.args.self.now.cert.now in omega arith
