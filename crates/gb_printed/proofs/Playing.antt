-- Frames one after another.
use Rattle.std.proofs.Common.{ℕ, ◌+◌, List, add-one, refl}
use Rattle.gb_watch.specs.Below.gb_console.Console.{ConsoleState}
use Rattle.gb_watch.specs.Below.gb_console.declared.frame.Ending.TheVariants as ending
use Rattle.gb_printed.specs.Script.{Plays, IsFrameAt}

-- no frame
pub plays_none : (script : List ℕ) (s : ConsoleState) → Plays script 0 s s
plays_none script s = refl

-- one more whole frame
pub plays_more : (script : List ℕ) (n : ℕ) (old before new : ConsoleState) → Plays script n old before → IsFrameAt script n before ending.Whole new → Plays script (n + 1) old new
plays_more script n old before new plays frame = rw add-one (before, plays, frame)
