-- Which words stand for which options of `hunt`.
use Rattle.std.specs.Prelude.{Bool, true, false, List, [], ◌∷◌, codes, if◌then◌else◌, Option, Some, None, option_map}
use Rattle.std.specs.Str.{bytes_eq}
use Rattle.clap.specs.Words.{Text}
use Rattle.gb_words.specs.declared.hunting.HuntOption.{HuntOption}
use Rattle.gb_words.specs.declared.hunting.HuntOption.TheVariants as option
use Rattle.gb_words.specs.declared.hunting.HuntOptions.{HuntOptions}

-- the values of the options
pub record HuntTexts : Type 0 where
  pub frames : Option Text
  pub seconds : Option Text
  pub seed : Option Text
  pub stack : Option Text
  pub keys : Option Text
  pub events : Option Text
  pub symbols : Option Text
  pub any_timing : Bool

abbrev pub no_hunt_texts : HuntTexts
no_hunt_texts = record { frames = None; seconds = None; seed = None; stack = None; keys = None; events = None; symbols = None; any_timing = false }

abbrev pub hunt_option_named : Text → Option HuntOption
hunt_option_named word =
    if bytes_eq word (codes "--frames") then Some option.Frames
    else (if bytes_eq word (codes "--seconds") then Some option.Seconds
    else (if bytes_eq word (codes "--seed") then Some option.Seed
    else (if bytes_eq word (codes "--stack") then Some option.Stack
    else (if bytes_eq word (codes "--keys") then Some option.Keys
    else (if bytes_eq word (codes "--events") then Some option.Events
    else (if bytes_eq word (codes "--sym") then Some option.Symbols
    else None))))))

abbrev pub given : HuntOption → HuntTexts → Option Text
given option.Frames texts = texts.frames
given option.Seconds texts = texts.seconds
given option.Seed texts = texts.seed
given option.Stack texts = texts.stack
given option.Keys texts = texts.keys
given option.Events texts = texts.events
given option.Symbols texts = texts.symbols

abbrev pub with_value : HuntOption → Text → HuntTexts → HuntTexts
with_value option.Frames value texts = record texts { frames = Some value }
with_value option.Seconds value texts = record texts { seconds = Some value }
with_value option.Seed value texts = record texts { seed = Some value }
with_value option.Stack value texts = record texts { stack = Some value }
with_value option.Keys value texts = record texts { keys = Some value }
with_value option.Events value texts = record texts { events = Some value }
with_value option.Symbols value texts = record texts { symbols = Some value }

-- what is not given yet
abbrev pub if_new : Option Text → HuntTexts → Option HuntTexts
if_new None texts = Some texts
if_new (Some value) texts = None

-- an option comes once
abbrev pub with_hunt_option : HuntOption → Text → HuntTexts → Option HuntTexts
with_hunt_option x value texts = if_new (given x texts) (with_value x value texts)

abbrev pub with_hunt_named : Option HuntOption → Text → Option HuntTexts → Option HuntTexts
with_hunt_named (Some x) value (Some texts) = with_hunt_option x value texts
with_hunt_named _ value _ = None

abbrev pub is_any_timing : Text → Bool
is_any_timing word = bytes_eq word (codes "--any-timing")

-- it is asked for once
abbrev pub with_any_timing : Option HuntTexts → Option HuntTexts
with_any_timing None = None
with_any_timing (Some texts) = if texts.any_timing then None else Some (record texts { any_timing = true })

-- the options that some words are, in any order: names, each with its value behind it, and `--any-timing`
unfoldable pub hunt_options_in : List Text → Option HuntTexts
hunt_options_in [] = Some no_hunt_texts
hunt_options_in (name ∷ []) = if is_any_timing name then with_any_timing (Some no_hunt_texts) else None
hunt_options_in (name ∷ value ∷ rest) =
    if is_any_timing name then with_any_timing (hunt_options_in (value ∷ rest))
    else with_hunt_named (hunt_option_named name) value (hunt_options_in rest)

abbrev pub hunt_texts_of : HuntOptions → HuntTexts
hunt_texts_of options = record {
  frames = option_map (λ s. s.now) options.frames;
  seconds = option_map (λ s. s.now) options.seconds;
  seed = option_map (λ s. s.now) options.seed;
  stack = option_map (λ s. s.now) options.stack;
  keys = option_map (λ s. s.now) options.keys;
  events = option_map (λ s. s.now) options.events;
  symbols = option_map (λ s. s.now) options.symbols;
  any_timing = options.any_timing;
}
