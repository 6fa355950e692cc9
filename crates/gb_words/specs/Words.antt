-- Which words stand for which task.
use Rattle.std.specs.Prelude.{◌≡◌, ◌==◌, ◌||◌, ◌⊎◌, Bool, true, false, not, ℕ, pos, List, [], ◌∷◌, codes, if◌then◌else◌, Option, Some, None, is_some, option_map}
use Rattle.std.specs.Str.{bytes_eq}
use Rattle.std.specs.Str.Parse.{signed_digits_value}
use Rattle.clap.specs.Words.{IsSignedIn, Text}
use Rattle.gb_words.specs.declared.words.TargetVersion.{TargetVersion}
use Rattle.gb_words.specs.declared.words.TargetVersion.TheVariants as version
use Rattle.gb_words.specs.declared.watching.WatchOption.{WatchOption}
use Rattle.gb_words.specs.declared.watching.WatchOption.TheVariants as option
use Rattle.gb_words.specs.declared.watching.WatchOptions.{WatchOptions}
use Rattle.gb_words.specs.HuntWords.{HuntTexts, hunt_options_in, hunt_texts_of, no_hunt_texts}
use Rattle.gb_words.specs.declared.words.Task.{Task}
use Rattle.gb_words.specs.declared.words.Task.TheVariants as task

-- a word that may be a flag
abbrev pub begins_with_hyphen : Text → Bool
begins_with_hyphen [] = false
begins_with_hyphen (x ∷ xs) = x == 45

abbrev pub begins_with_plus : Text → Bool
begins_with_plus [] = false
begins_with_plus (x ∷ xs) = x == 43

-- the values among a command's words: a first `--` says that each word after it is a value, also
-- one that begins with a hyphen
abbrev pub values_in : List Text → List Text
values_in [] = []
values_in (word ∷ words) = if bytes_eq word (codes "--") then words else word ∷ values_in words

-- a command's name, and behind it these values and no more
pub record IsCommand (words : List Text) (name : Text) (values : List Text) : Type 0 where
  pub rest : List Text
  pub command : words ≡ name ∷ rest
  pub values_are : values_in rest ≡ values

-- clap's parser of numbers from 0 to 36,000 takes the word, and this is the number that it writes
pub record IsFrames (word : Text) (frames : ℕ) : Type 0 where
  pub is_taken : IsSignedIn (pos 0) (pos 36000) word
  pub number : signed_digits_value 10 word ≡ pos frames

-- it may name a file: one that begins with a hyphen does only where it is no more than that
abbrev pub is_file : Text → Bool
is_file word = bytes_eq word (codes "-") || not (begins_with_hyphen word)

abbrev pub version_word : TargetVersion → Text
version_word version.Two = codes "2"
version_word version.Three = codes "3"
version_word version.Four = codes "4"

-- `upgrade --to`, a version, and the name of a file
pub record IsUpgradeTo (words : List Text) (to : TargetVersion) (cert : Text) : Type 0 where
  pub are : words ≡ codes "upgrade" ∷ codes "--to" ∷ version_word to ∷ cert ∷ []
  pub file : is_file cert ≡ true

-- the same, or `upgrade` and the name of a file, which asks for version 2
abbrev pub IsUpgrade : List Text → TargetVersion → Text → Type 0
IsUpgrade words version.Two cert = IsCommand words (codes "upgrade") (cert ∷ []) ⊎ IsUpgradeTo words version.Two cert
IsUpgrade words version.Three cert = IsUpgradeTo words version.Three cert
IsUpgrade words version.Four cert = IsUpgradeTo words version.Four cert

-- `run`, the names of two files, and a number of frames
pub record IsRun (words : List Text) (rom script : Text) (frames : ℕ) : Type 0 where
  pub word : Text
  pub command : IsCommand words (codes "run") (rom ∷ script ∷ word ∷ [])
  pub frames_are : IsFrames word frames

-- the values of the options of `watch`
pub record WatchTexts : Type 0 where
  pub stack : Option Text
  pub cert : Option Text
  pub symbols : Option Text
  pub events : Option Text

abbrev pub no_texts : WatchTexts
no_texts = record { stack = None; cert = None; symbols = None; events = None }

abbrev pub option_named : Text → Option WatchOption
option_named word =
    if bytes_eq word (codes "--stack") then Some option.Stack
    else (if bytes_eq word (codes "--cert") then Some option.Cert
    else (if bytes_eq word (codes "--sym") then Some option.Symbols
    else (if bytes_eq word (codes "--events") then Some option.Events
    else None)))

-- an option comes once
abbrev pub once : Option Text → WatchTexts → Option WatchTexts
once None texts = Some texts
once (Some value) texts = None

abbrev pub with_option : WatchOption → Text → WatchTexts → Option WatchTexts
with_option option.Stack value texts = once texts.stack (record texts { stack = Some value })
with_option option.Cert value texts = once texts.cert (record texts { cert = Some value })
with_option option.Symbols value texts = once texts.symbols (record texts { symbols = Some value })
with_option option.Events value texts = once texts.events (record texts { events = Some value })

abbrev pub with_named : Option WatchOption → Text → Option WatchTexts → Option WatchTexts
with_named (Some x) value (Some texts) = with_option x value texts
with_named _ value _ = None

-- the options that some words are: names, each with its value behind it, in any order
unfoldable pub options_in : List Text → Option WatchTexts
options_in [] = Some no_texts
options_in (name ∷ []) = None
options_in (name ∷ value ∷ rest) = with_named (option_named name) value (options_in rest)

abbrev pub texts_of : WatchOptions → WatchTexts
texts_of options = record {
  stack = option_map (λ s. s.now) options.stack;
  cert = option_map (λ s. s.now) options.cert;
  symbols = option_map (λ s. s.now) options.symbols;
  events = option_map (λ s. s.now) options.events;
}

-- options of which one names a file of events, and options of which none does
abbrev pub are_options_with_events : Option WatchTexts → Bool
are_options_with_events None = false
are_options_with_events (Some texts) = is_some texts.events

abbrev pub are_options_without_events : Option WatchTexts → Bool
are_options_without_events None = false
are_options_without_events (Some texts) = not (is_some texts.events)

-- `watch`, the names of two files, a number of frames, and options of which none names a file of events
pub record IsWatchWith (words : List Text) (rom script : Text) (frames : ℕ) (texts : WatchTexts) : Type 0 where
  pub word : Text
  pub options : List Text
  pub are : words ≡ codes "watch" ∷ rom ∷ script ∷ word ∷ options
  pub rom_is : is_file rom ≡ true
  pub script_is : is_file script ≡ true
  pub frames_are : IsFrames word frames
  pub options_are : options_in options ≡ Some texts
  pub no_events : texts.events ≡ None

-- the same without options
pub record IsPlainWatch (words : List Text) (rom script : Text) (frames : ℕ) (texts : WatchTexts) : Type 0 where
  pub word : Text
  pub command : IsCommand words (codes "watch") (rom ∷ script ∷ word ∷ [])
  pub frames_are : IsFrames word frames
  pub no_options : texts ≡ no_texts

abbrev pub IsWatch : List Text → Text → Text → ℕ → WatchTexts → Type 0
IsWatch words rom script frames texts = IsPlainWatch words rom script frames texts ⊎ IsWatchWith words rom script frames texts

-- `watch`, the name of a file, and options of which one names a file of events
pub record IsReplay (words : List Text) (rom events : Text) (texts : WatchTexts) : Type 0 where
  pub options : List Text
  pub are : words ≡ codes "watch" ∷ rom ∷ options
  pub rom_is : is_file rom ≡ true
  pub options_are : options_in options ≡ Some texts
  pub events_are : texts.events ≡ Some events

-- `hunt`, the name of a file, and options
pub record IsHuntWith (words : List Text) (rom : Text) (texts : HuntTexts) : Type 0 where
  pub options : List Text
  pub are : words ≡ codes "hunt" ∷ rom ∷ options
  pub rom_is : is_file rom ≡ true
  pub options_are : hunt_options_in options ≡ Some texts

-- the same without options
pub record IsPlainHunt (words : List Text) (rom : Text) (texts : HuntTexts) : Type 0 where
  pub command : IsCommand words (codes "hunt") (rom ∷ [])
  pub no_options : texts ≡ no_hunt_texts

abbrev pub IsHunt : List Text → Text → HuntTexts → Type 0
IsHunt words rom texts = IsPlainHunt words rom texts ⊎ IsHuntWith words rom texts

-- the words are those of the task
abbrev pub StandFor : List Text → Task → Type 0
StandFor words task.Stored = words ≡ []
StandFor words (task.Verify rom cert) = IsCommand words (codes "verify") (rom.now ∷ cert.now ∷ [])
StandFor words (task.Header rom) = IsCommand words (codes "header") (rom.now ∷ [])
StandFor words (task.Show cert) = IsCommand words (codes "show") (cert.now ∷ [])
StandFor words (task.Upgrade cert to) = IsUpgrade words to cert.now
StandFor words (task.Run rom script frames) = IsRun words rom.now script.now frames
StandFor words (task.Watch rom script frames options) = IsWatch words rom.now script.now frames (texts_of options)
StandFor words (task.Replay rom events options) = IsReplay words rom.now events.now (texts_of options)
StandFor words (task.Hunt rom options) = IsHunt words rom.now (hunt_texts_of options)
