use Rattle.std.proofs.Common.{append_assoc, rules}
use Rattle.gb_cert.specs.Spelled.{vals}
use Rattle.gb_cert.proofs.spelled.put_vals.Goals as goal

pub returns : goal.returns
unfolding vals
returns c = search (rules, append_assoc)
