use Rattle.gb_watch.proofs.Judging.{watched_whole}
use Rattle.gb_watch.proofs.frame.watch_frame.Goals as goal

pub returns-clause-verified : goal.returns-clause-verified
returns-clause-verified c = λ v. watched_whole c.args.region c.args.console.now c.args.keys c.args.seconds c.watch_steps-watched.result c.watch_steps-watched.new.console c.watch_steps-watched.ensures c.holds_cartridge.ensures c.reached.ensures c.reached-2.ensures v
