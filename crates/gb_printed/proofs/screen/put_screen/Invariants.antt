use Rattle.std.proofs.Common.{◌≡◌, false, take}
use Rattle.gb_text.specs.Sink.{Gains}
use Rattle.gb_printed.specs.Screen.{screen_text}
use Rattle.gb_printed.proofs.screen.put_screen.Given as goal

abbrev pub invariant-loop-shades : goal.invariant-loop-shades
invariant-loop-shades g l = record {
  works : g.W.Sink.has_failed l.out ≡ false;
  taken : Gains (g.W.Sink.contents l.fn.out) (screen_text (take l.shades-index l.screen)) (g.W.Sink.contents l.out);
}
