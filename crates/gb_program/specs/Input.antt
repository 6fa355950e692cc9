-- Which commands have standard input twice (own).
use Rattle.std.specs.Prelude.{Bool, false, ◌&&◌, ◌||◌, ℕ, List, Option, Some, None}
use Rattle.std.specs.Borrow.{Bor}
use Rattle.gb_command_line.specs.Below.gb_files.Input.{is_input}
use Rattle.gb_words.specs.declared.watching.WatchOptions.{WatchOptions}
use Rattle.gb_words.specs.declared.words.Task.{Task}
use Rattle.gb_words.specs.declared.words.Task.TheVariants as task

-- a file that is named, and is standard input
abbrev pub is_given_input : Option (Bor (List ℕ)) → Bool
is_given_input None = false
is_given_input (Some name) = is_input name.now

-- two of the files of `watch` are: of the cartridge, of a script or a list of events, and of the options
abbrev pub has_watched_twice : List ℕ → List ℕ → WatchOptions → Bool
has_watched_twice rom script options =
    is_input rom && is_input script || (is_input rom || is_input script) && is_given_input options.cert
    || (is_input rom || is_input script || is_given_input options.cert) && is_given_input options.symbols

-- two files of a command are standard input, which can be read only once
abbrev pub has_input_twice : Task → Bool
has_input_twice (task.Verify rom cert) = is_input rom.now && is_input cert.now
has_input_twice (task.Run rom script frames) = is_input rom.now && is_input script.now
has_input_twice (task.Watch rom script frames options) = has_watched_twice rom.now script.now options
has_input_twice (task.Replay rom events options) = has_watched_twice rom.now events.now options
has_input_twice (task.Hunt rom options) = is_input rom.now && is_given_input options.symbols
has_input_twice _ = false
