-- What a program ends with after a verdict.
use Rattle.gb_explain.specs.Below.gb_verify.declared.verify.Outcome.{Outcome}
use Rattle.gb_explain.specs.Below.gb_verify.declared.verify.Outcome.TheVariants as outcome
use Rattle.gb_command_line.specs.declared.status.Status.{Status}
use Rattle.gb_command_line.specs.declared.status.Status.TheVariants as status

abbrev pub verify_status : Outcome → Status
verify_status outcome.Accepted = status.Done
verify_status outcome.Refused = status.Refused
verify_status outcome.Unreadable = status.Unreadable
verify_status outcome.NoMemory = status.Failed
