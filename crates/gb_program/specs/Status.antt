-- What the program ends with, by what became of a command.
use Rattle.std.specs.Prelude.{Option, Some, None, Result, Ok, Err}
use Rattle.gb_command_line.specs.Below.gb_header.declared.fault.HeaderFault.{HeaderFault}
use Rattle.gb_events.specs.Below.gb_console.declared.frame.Ending.{Ending}
use Rattle.gb_events.specs.Below.gb_console.declared.frame.Ending.TheVariants as ending
use Rattle.gb_command_line.specs.Below.gb_fields.declared.fault.CertFault.{CertFault}
use Rattle.gb_command_line.specs.Below.gb_fields.declared.fault.CertFault.TheVariants.{Memory}
use Rattle.gb_command_line.specs.Below.gb_verify.declared.upgrade.Upgraded.{Upgraded}
use Rattle.gb_command_line.specs.Below.gb_verify.declared.upgrade.Upgraded.TheVariants as upgrade
use Rattle.gb_events.specs.Below.gb_printed.declared.commands.RunOutcome.{RunOutcome}
use Rattle.gb_events.specs.Below.gb_printed.declared.commands.RunOutcome.TheVariants as played
use Rattle.gb_events.specs.Below.gb_watch.declared.sighting.Watched.{Watched}
use Rattle.gb_events.specs.Below.gb_watch.declared.sighting.Watched.TheVariants as watched
use Rattle.gb_events.specs.Below.gb_witness.declared.files.WatchOutcome.{WatchOutcome}
use Rattle.gb_events.specs.Below.gb_witness.declared.files.WatchOutcome.TheVariants as watch
use Rattle.gb_events.specs.declared.files.ReplayOutcome.{ReplayOutcome}
use Rattle.gb_events.specs.declared.files.ReplayOutcome.TheVariants as replay
use Rattle.gb_events.specs.declared.play.Replayed.{Replayed}
use Rattle.gb_events.specs.declared.play.Replayed.TheVariants as replayed
use Rattle.gb_command_line.specs.declared.status.Status.{Status}
use Rattle.gb_command_line.specs.declared.status.Status.TheVariants as status
use Rattle.gb_command_line.specs.Below.gb_files.declared.trouble.Trouble.{Trouble}
use Rattle.gb_command_line.specs.Below.gb_files.declared.trouble.Trouble.TheVariants as trouble

-- of a file with this fault, or none
abbrev pub header_status : Option HeaderFault → Status
header_status None = status.Done
header_status (Some fault) = status.Unreadable

-- of a certificate's file with this fault, or none; Memory is no fault of the file
abbrev pub show_status : Option CertFault → Status
show_status None = status.Done
show_status (Some Memory) = status.Failed
show_status (Some fault) = status.Unreadable

abbrev pub upgrade_status : Upgraded → Status
upgrade_status upgrade.Written = status.Done
upgrade_status upgrade.Unreadable = status.Unreadable
upgrade_status upgrade.NoMemory = status.Failed

abbrev pub ending_status : Ending → Status
ending_status ending.Whole = status.Done
ending_status ending.Locked = status.Refused
ending_status ending.Stopped = status.Refused

-- where memory ran out, nothing was printed yet
abbrev pub run_status : RunOutcome → Result Status Trouble
run_status (played.Ended end) = Ok (ending_status end)
run_status (played.NoCartridge fault) = Ok status.Unreadable
run_status played.NoMemory = Err trouble.Memory

abbrev pub watched_status : Watched → Status
watched_status (watched.Ended end) = ending_status end
watched_status (watched.Faulted sighting) = status.Refused

-- where memory ran out, nothing was printed yet
abbrev pub watch_status : WatchOutcome → Result Status Trouble
watch_status (watch.Told told) = Ok (watched_status told.watched)
watch_status (watch.NoCartridge fault) = Ok status.Unreadable
watch_status watch.NoMemory = Err trouble.Memory

abbrev pub replayed_status : Replayed → Status
replayed_status (replayed.Whole number) = status.Done
replayed_status (replayed.Faulty told) = status.Refused

-- where memory ran out, nothing was printed yet
abbrev pub replay_status : ReplayOutcome → Result Status Trouble
replay_status (replay.Told told) = Ok (replayed_status told)
replay_status (replay.NoCartridge fault) = Ok status.Unreadable
replay_status replay.NoMemory = Err trouble.Memory
