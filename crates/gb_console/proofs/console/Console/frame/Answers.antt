use Rattle.gb_console.proofs.Frames.{idle_frame}
use Rattle.gb_console.proofs.Whole.{whole_frame}
use Rattle.gb_console.proofs.console.Console.frame.Goals as goal

pub returns-clause-idle : goal.returns-clause-idle
returns-clause-idle c = λ h. idle_frame c.args.self.now c.args.keys c.args.seconds c.run_frame-ending.result c.run_frame-ending.new.self h (c.run_frame-ending.ensures.unchanged h) c.run_frame-ending.ensures.frame

pub returns-clause-verified : goal.returns-clause-verified
returns-clause-verified c = λ h. whole_frame c.args.self.now c.args.keys c.args.seconds c.run_frame-ending.result c.run_frame-ending.new.self c.run_frame-ending.ensures.frame c.holds_cartridge.ensures c.reached.ensures h
