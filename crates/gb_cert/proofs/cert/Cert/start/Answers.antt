use Rattle.std.proofs.Common.{◌+◌, ◌<◌, length, arith}
use Rattle.gb_cert.proofs.NamesakeLaws.{starts_length, start_at}
use Rattle.gb_cert.proofs.cert.Cert.start.Goals as goal

pub overflow_cast-i : goal.overflow_cast-i
overflow_cast-i c = let many = starts_length c.args.self.now in omega arith

pub overflow_add-i : goal.overflow_add-i
overflow_add-i c = let many = starts_length c.args.self.now in omega arith

pub entry_address-requires : goal.entry_address-requires
entry_address-requires c = let many = starts_length c.args.self.now in omega arith

pub returns : goal.returns
returns c =
    let many = starts_length c.args.self.now in
    let there : c.args.i + 1 < length c.args.self.now.procedures = omega arith in
    start_at c.args.self.now c.args.i c.entry_address.result there c.entry_address.ensures
