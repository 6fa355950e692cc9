-- A command's name and as many values as it takes, none of which begins with a hyphen, are taken
-- without a fault where the last value passes its parser.
use Rattle.std.proofs.Common.{◌≡◌, ◌≤◌, ◌+◌, Bool, true, false, ◌&&◌, ◌⊎◌, inl, inr, List, [], ◌∷◌, ◌++◌, length, Option, Some, None, is_some, refl, ap, sym, ◌∙◌, arith, append_assoc, fold}
use Rattle.std.specs.Prelude.{if◌then◌else◌, option_and_then}
use Rattle.std.specs.Option.{option_map_or}
use Rattle.std.specs.Str.{bytes_eq}
use Rattle.std.proofs.lemmas.List.{append-nil, length-append}
use Rattle.clap.specs.Kinds.{HasKind, IsAmong, Kinds, or_else}
use Rattle.clap.specs.Faults.{built_fault, bundle_fault, check_fault, defaults_fault, entered_fault, fault_of, flag_word_fault, is_simple_and_free, level_fault, settle_fault, step_fault, turn_fault, walk_fault}
use Rattle.clap.specs.Walk.{Held, Names, Rule, Step, Text, after_step, finished, idle, long_or_other, nothing_held, settled, trailing, value, walk, walk_from, walked}
use Rattle.clap.specs.Simple.{App, Shape, entered, names_of}
use Rattle.clap.specs.Lexer.{long_of, long_of_rest, short_of, short_of_rest, strip_byte}
use Rattle.clap.specs.Values.{kind_of}
use Rattle.clap.specs.declared.error.Error.{Error}
use Rattle.clap.specs.declared.error.kind.ErrorKind.{ErrorKind}
use Rattle.clap.specs.declared.error.kind.ErrorKind.TheVariants as kind
use Rattle.gb_words.specs.CommandLine.{program_app}
use Rattle.gb_words.specs.Words.{begins_with_hyphen}
use Rattle.gb_words.proofs.PlainWords.{word_is_value}
use Rattle.gb_words.proofs.LeafWalk.{HasAll, HasNoDefaults, HasRoom, Takes, TakesOne, at, below, exactly, held_at, last_value, position_at, rows_before}
use Rattle.gb_words.proofs.Leaves.{Command, header, hunt, leaf_of, name_of, rules_for, run, show, takes, upgrade, verify, watch, whole}
use Rattle.gb_words.proofs.CommandWalk.{command_fault, names, settling, start, stopped_at, stopped_walk, top}

-- ---- a word that begins with no hyphen

no_dashes : (word : Text) → begins_with_hyphen word ≡ false → bytes_eq word (45 ∷ 45 ∷ []) ≡ false
no_dashes [] plain = refl
no_dashes (x ∷ xs) plain = ap (λ b. b && bytes_eq xs (45 ∷ [])) plain

no_long_flag : (word : Text) → begins_with_hyphen word ≡ false → long_of word ≡ None
no_long_flag [] plain = refl
no_long_flag (x ∷ xs) plain = ap (λ b. option_and_then long_of_rest (option_and_then (strip_byte 45) (if b then Some xs else None))) plain

no_short_flag : (word : Text) → begins_with_hyphen word ≡ false → short_of word ≡ None
no_short_flag [] plain = refl
no_short_flag (x ∷ xs) plain = ap (λ b. option_and_then short_of_rest (if b then Some xs else None)) plain

no_fault : (c : List Rule) (again : Bool) (word : Text) (h : Held) → begins_with_hyphen word ≡ false
    → (if bytes_eq word (45 ∷ 45 ∷ []) then [] else flag_word_fault c again (long_of word) word h) ≡ []
no_fault c again word h plain = ap (λ (b : Bool). if b then [] else flag_word_fault c again (long_of word) word h) (no_dashes word plain)
    ∙ ap (λ o. flag_word_fault c again o word h) (no_long_flag word plain)
    ∙ ap (λ o. option_map_or (λ flags. bundle_fault c again flags h) o []) (no_short_flag word plain)

-- ---- any level, from where its walk ends

level_from : (s : Shape) (all : Names) (words : List Text) (has_subcommand : Bool) (h : Held) → walk_fault s all (walk_from nothing_held) words ≡ []
    → (walk s.rules all nothing_held words).held ≡ h → settle_fault s.rules s.args_override_self h ≡ []
    → defaults_fault (settled s.rules h).rows s.rules ≡ [] → check_fault s (finished s.rules h) has_subcommand ≡ []
    → level_fault s all nothing_held words has_subcommand [] ≡ []
level_from s all words has_subcommand h clear e settle defaults check =
    ap (λ k. or_else k (or_else (settle_fault s.rules s.args_override_self (walk s.rules all nothing_held words).held)
    (or_else (defaults_fault (settled s.rules (walk s.rules all nothing_held words).held).rows s.rules) (check_fault s (finished s.rules (walk s.rules all nothing_held words).held) has_subcommand)))) clear
    ∙ ap (λ k. or_else (settle_fault s.rules s.args_override_self k) (or_else (defaults_fault (settled s.rules k).rows s.rules) (check_fault s (finished s.rules k) has_subcommand))) e
    ∙ ap (λ k. or_else k (or_else (defaults_fault (settled s.rules h).rows s.rules) (check_fault s (finished s.rules h) has_subcommand))) settle
    ∙ ap (λ k. or_else k (check_fault s (finished s.rules h) has_subcommand)) defaults
    ∙ check

-- ---- the words behind a command's name

-- none begins with a hyphen
abbrev pub ArePlain : List Text → Type 0
ArePlain [] = Unit {0}
ArePlain (word ∷ words) = (begins_with_hyphen word ≡ false) × ArePlain words

module _ (s : Shape) (rules : List Rule) (takes : Takes s rules) where
  abbrev met_at : List Text → Text → Held × Step
  met_at vs word =
      if bytes_eq word (45 ∷ 45 ∷ []) then (held_at rules vs, trailing (position_at vs)) else long_or_other s.rules idle word (long_of word) (held_at rules vs)

  met_plain : (vs : List Text) (word : Text) → begins_with_hyphen word ≡ false → met_at vs word ≡ (held_at rules vs, value)
  met_plain vs word plain =
      word_is_value s.rules takes.no_flags s.args_override_self (bytes_eq word (45 ∷ 45 ∷ [])) (position_at vs) word (rows_before vs rules) (last_value vs rules) (no_fault s.rules s.args_override_self word (held_at rules vs) plain)
      ∙ ap (λ (b : Bool). (held_at rules vs, (if b then trailing (position_at vs) else value))) (no_dashes word plain)

  turn_taken : (vs : List Text) (word : Text) → begins_with_hyphen word ≡ false → HasRoom s rules vs → turn_fault s [] (at rules false vs) word ≡ []
  turn_taken vs word plain clear =
      ap (λ k. or_else k (step_fault s (position_at vs) (met_at vs word).0 (met_at vs word).1)) (no_fault s.rules s.args_override_self word (held_at rules vs) plain)
      ∙ ap (λ m. step_fault s (position_at vs) m.0 m.1) (met_plain vs word plain)
      ∙ clear

  walked_plain : (vs : List Text) (word : Text) → begins_with_hyphen word ≡ false → walked s.rules [] (at rules false vs) word ≡ after_step s.rules word (at rules false vs) (held_at rules vs) value
  unfolding walked
  walked_plain vs word plain = ap (λ m. after_step s.rules word (at rules false vs) m.0 m.1) (met_plain vs word plain)

  walk_taken : (vs words : List Text) → ArePlain words → length vs + length words ≤ length rules
      → (walk_fault s [] (at rules false vs) words ≡ []) × (fold (walked s.rules []) (at rules false vs) words ≡ at rules false (vs ++ words))
  unfolding walk_fault
  walk_taken vs [] plain few = (refl, ap (at rules false) (sym (append-nil vs)))
  walk_taken vs (word ∷ rest) plain few =
      let room = below (length rules) (HasRoom s rules) takes.has_room vs (omega arith) in
      let step = walked_plain vs word plain.0 ∙ below (length rules) (TakesOne s rules false word) (takes.takes_one false word) vs (omega arith) in
      let tail = walk_taken (vs ++ word ∷ []) rest plain.1 (omega (arith, length-append vs (word ∷ []))) in (
        ap (λ k. or_else k (walk_fault s [] (walked s.rules [] (at rules false vs) word) rest)) (turn_taken vs word plain.0 room)
            ∙ ap (λ w. walk_fault s [] w rest) step
            ∙ tail.0,
        ap (λ w. fold (walked s.rules []) w rest) step ∙ tail.1 ∙ ap (at rules false) (append_assoc vs (word ∷ []) rest),
      )

  leaf_taken : (words : List Text) → ArePlain words → length words ≡ length rules → settle_fault s.rules s.args_override_self (held_at rules words) ≡ []
      → level_fault s [] nothing_held words false [] ≡ []
  leaf_taken words plain count settles =
      let walk_is = walk_taken [] words plain (omega arith) in
      level_from s [] words false (held_at rules words) walk_is.0 (ap (λ w. w.held) walk_is.1) settles
      (exactly (length rules) (HasNoDefaults s rules) takes.no_defaults words count) (exactly (length rules) (HasAll s rules) takes.has_all words count)

-- ---- the whole line

abbrev line : Command → List Text → List Text
line c values = name_of c ∷ values

line_walk : (c : Command) (values : List Text)
    → (walk_fault top names start (line c values) ≡ []) × (walk top.rules names nothing_held (line c values) ≡ stopped_at (name_of c) values)
unfolding walk_fault walked
line_walk verify values = stopped_walk (name_of verify) [] values
line_walk header values = stopped_walk (name_of header) [] values
line_walk show values = stopped_walk (name_of show) [] values
line_walk upgrade values = stopped_walk (name_of upgrade) [] values
line_walk run values = stopped_walk (name_of run) [] values
line_walk watch values = stopped_walk (name_of watch) [] values
line_walk hunt values = stopped_walk (name_of hunt) [] values

top_taken : (c : Command) (values : List Text) → level_fault top names nothing_held (line c values) true [] ≡ []
unfolding defaults_fault
top_taken c values = level_from top names (line c values) true nothing_held (line_walk c values).0 (ap (λ w. w.held) (line_walk c values).1) refl refl refl

-- the faults of a level that enters a subcommand, from where the walk stops
fault_from : (app : App) (words : List Text) (stop : Option (Text × List Text)) → (walk app.top.rules (names_of app) nothing_held words).stopped ≡ stop
    → is_some (entered app stop) ≡ true → entered_fault app stop ≡ [] → level_fault app.top (names_of app) nothing_held words true [] ≡ [] → built_fault app nothing_held words ≡ []
fault_from app words stop e has below level =
    ap (λ o. level_fault app.top (names_of app) nothing_held words (is_some (entered app o)) (entered_fault app o)) e
    ∙ ap (λ b. level_fault app.top (names_of app) nothing_held words b (entered_fault app stop)) has
    ∙ ap (λ k. level_fault app.top (names_of app) nothing_held words true k) below
    ∙ level

is_entered : (c : Command) (values : List Text) → is_some (entered whole (Some (name_of c, values))) ≡ true
is_entered verify values = refl
is_entered header values = refl
is_entered show values = refl
is_entered upgrade values = refl
is_entered run values = refl
is_entered watch values = refl
is_entered hunt values = refl

command_taken : (c : Command) (values : List Text) → ArePlain values → length values ≡ length (rules_for c) → settling c values ≡ [] → fault_of program_app (line c values) ≡ []
command_taken c values plain count settles =
    fault_from whole (line c values) (Some (name_of c, values)) (ap (λ w. w.stopped) (line_walk c values).1) (is_entered c values)
    (command_fault c values ∙ leaf_taken (leaf_of c) (rules_for c) (takes c) values plain count settles) (top_taken c values)

-- ---- what an error is then

no_kind : (k : ErrorKind) (kinds : Kinds) → kinds ≡ [] → (k ≡ kind.OutOfMemory) ⊎ IsAmong k kinds → k ≡ kind.OutOfMemory
no_kind k kinds none (inl e) = e
no_kind k [] none (inr among) = elim among [ ]
no_kind k (x ∷ xs) none (inr among) = absurd cc

-- an error of the program's command at these words is want of memory
pub wants_memory : (c : Command) (values : List Text) (app : App) (words : List Text) (e : Error) → app ≡ program_app → words ≡ line c values → ArePlain values
    → length values ≡ length (rules_for c) → settling c values ≡ [] → (is_simple_and_free app ≡ true → HasKind (fault_of app words) e) → kind_of e ≡ kind.OutOfMemory
wants_memory c values app words e is words_are plain count settles has =
    no_kind (kind_of e) (fault_of app words) (ap (λ x. fault_of x words) is ∙ ap (fault_of program_app) words_are ∙ command_taken c values plain count settles) (has (ap is_simple_and_free is))
