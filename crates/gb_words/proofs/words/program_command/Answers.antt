use Rattle.gb_words.specs.CommandLine.{header_app, hunt_app, plain_app, run_app, show_app, upgrade_app, verify_app, watch_app}
use Rattle.gb_words.proofs.words.program_command.Goals as goal

pub returns : goal.returns
returns c =
    let verify_is = c.with_command-program.ensures plain_app verify_app c.plain_command.ensures c.verify_command.ensures in
    let header_is = c.with_command-program-2.ensures _ header_app verify_is c.header_command.ensures in
    let show_is = c.with_command-program-3.ensures _ show_app header_is c.show_command.ensures in
    let upgrade_is = c.with_command-program-4.ensures _ upgrade_app show_is c.upgrade_command.ensures in
    let run_is = c.with_command-program-5.ensures _ run_app upgrade_is c.run_command.ensures in
    let watch_is = c.with_command-program-6.ensures _ watch_app run_is c.watch_command.ensures in
    c.with_command.ensures _ hunt_app watch_is c.hunt_command.ensures
