use Rattle.gb_printed.proofs.Files.{lowest_fault}
use Rattle.gb_printed.proofs.commands.file_line.Goals as goal

pub returns-in-Err-clause-fault : goal.returns-in-Err-clause-fault
returns-in-Err-clause-fault c = lowest_fault c.args.file.now c.in-Err.fault c.in-Err.ensures.exact
