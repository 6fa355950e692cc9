-- What a parse makes of the program's words: where it finds no fault they are a command's name and
-- a value for each of its arguments.
use Rattle.std.proofs.Common.{◌≡◌, Bool, true, false, ◌||◌, ◌==◌, ◌⊎◌, inl, inr, List, [], ◌∷◌, ◌++◌, length, Option, Some, None, option_map, is_some, refl, ap, sym, ◌∙◌, subst, append_assoc, codes, fold}
use Rattle.std.specs.Prelude.{if◌then◌else◌}
use Rattle.std.specs.Str.{bytes_eq}
use Rattle.std.proofs.lemmas.Slice.Eq.{bytes_eq-Decides}
use Rattle.std.proofs.lemmas.List.{append-nil}
use Rattle.clap.specs.Kinds.{Kinds, or_else}
use Rattle.clap.specs.Faults.{check_fault, entered_fault, fault_of, is_simple_and_free, level_fault, other_fault, settle_fault, step_fault, turn_fault, walk_fault}
use Rattle.clap.specs.Walk.{Held, Names, Row, Step, Text, Walk, after_step, finished, idle, nothing_held, rows_after, subcommand_or_other, trailing, value, walk, walk_from, walked}
use Rattle.clap.specs.Simple.{HasMatchesOf, App, Shape, entered, is_simple, names_of, subcommand_of, subcommand_rows_of}
use Rattle.clap.specs.declared.parser.matches.ArgMatches.{ArgMatches}
use Rattle.gb_words.specs.CommandLine.{program_app}
use Rattle.gb_words.specs.Words.{IsCommand}
use Rattle.gb_words.proofs.PlainWords.{HasNoFlags, both_clear, no_long, no_short, word_is_value}
use Rattle.gb_words.proofs.LeafWalk.{gives_values, held_at, level_clear, value_rows}
use Rattle.gb_words.proofs.Leaves.{Command, header, hunt, leaf_of, name_of, rules_for, run, show, takes, upgrade, verify, watch, whole}

abbrev pub top : Shape
top = whole.top

abbrev pub names : Names
names = names_of whole

top_has_no_flags : HasNoFlags top.rules
top_has_no_flags = record {
  no_long = λ again name v h. no_long top.rules (bytes_eq (codes "help") name || false) (bytes_eq (codes "version") name || false) again v h;
  no_short = λ again x rest h next. no_short top.rules (104 == x || false) (86 == x || false) again rest h next;
}

-- ---- the first word

abbrev pub start : Walk
start = walk_from nothing_held

abbrev pub stopped_at : Text → List Text → Walk
stopped_at name rest = record start { stopped = Some (name, rest) }

abbrev after_dashes : Walk
after_dashes = record start { is_trailing = true }

abbrev met : Option Text → Text → Held × Step
met name word = subcommand_or_other top.rules name idle 1 word nothing_held

abbrev started : Option Text → Text → Walk
started name word = after_step top.rules word start (met name word).0 (met name word).1

abbrev first_fault : Option Text → Text → Kinds
first_fault name word = or_else (other_fault top name word nothing_held) (step_fault top 1 (met name word).0 (met name word).1)

-- a word that names no subcommand is `--`
dashes_or_stray : (is_dashes : Bool) (word : Text) → step_fault top 1 nothing_held (if is_dashes then trailing 1 else value) ≡ []
    → after_step top.rules word start nothing_held (if is_dashes then trailing 1 else value) ≡ after_dashes
dashes_or_stray true word clear = refl
dashes_or_stray false word clear = absurd cc

no_command : (word : Text) → first_fault None word ≡ [] → started None word ≡ after_dashes
no_command word clear =
    let parts = both_clear (other_fault top None word nothing_held) _ clear in
    let dashes = bytes_eq word (45 ∷ 45 ∷ []) in
    let is = word_is_value top.rules top_has_no_flags false dashes 1 word [] None parts.0 in
    let step = dashes_or_stray dashes word (ap (λ m. step_fault top 1 m.0 m.1) (sym is) ∙ parts.1) in
    ap (λ m. after_step top.rules word start m.0 m.1) is ∙ step

-- the subcommand that is met, by the tests of the names; the last is `help`
abbrev named : Bool → Bool → Bool → Bool → Bool → Bool → Bool → Bool → Option Text
named is_verify is_header is_show is_upgrade is_run is_watch is_hunt is_help = option_map (λ (s : Text × List Text). s.0) (if is_verify then Some (codes "verify", [])
    else (if is_header then Some (codes "header", []) else (if is_show then Some (codes "show", []) else (if is_upgrade then Some (codes "upgrade", [])
    else (if is_run then Some (codes "run", []) else (if is_watch then Some (codes "watch", []) else (if is_hunt then Some (codes "hunt", []) else (if is_help then Some (codes "help", []) else None))))))))

abbrev tested : Bool → Bool → Bool → Bool → Bool → Bool → Bool → Command → Bool
tested is_verify is_header is_show is_upgrade is_run is_watch is_hunt verify = is_verify
tested is_verify is_header is_show is_upgrade is_run is_watch is_hunt header = is_header
tested is_verify is_header is_show is_upgrade is_run is_watch is_hunt show = is_show
tested is_verify is_header is_show is_upgrade is_run is_watch is_hunt upgrade = is_upgrade
tested is_verify is_header is_show is_upgrade is_run is_watch is_hunt run = is_run
tested is_verify is_header is_show is_upgrade is_run is_watch is_hunt watch = is_watch
tested is_verify is_header is_show is_upgrade is_run is_watch is_hunt hunt = is_hunt

first_word : (is_verify is_header is_show is_upgrade is_run is_watch is_hunt is_help : Bool) (word : Text) → first_fault (named is_verify is_header is_show is_upgrade is_run is_watch is_hunt is_help) word ≡ []
    → ((c : Command) × (tested is_verify is_header is_show is_upgrade is_run is_watch is_hunt c ≡ true) × (started (named is_verify is_header is_show is_upgrade is_run is_watch is_hunt is_help) word ≡ stopped_at (name_of c) []))
    ⊎ (started (named is_verify is_header is_show is_upgrade is_run is_watch is_hunt is_help) word ≡ after_dashes)
first_word true is_header is_show is_upgrade is_run is_watch is_hunt is_help word clear = inl (verify, refl, refl)
first_word false true is_show is_upgrade is_run is_watch is_hunt is_help word clear = inl (header, refl, refl)
first_word false false true is_upgrade is_run is_watch is_hunt is_help word clear = inl (show, refl, refl)
first_word false false false true is_run is_watch is_hunt is_help word clear = inl (upgrade, refl, refl)
first_word false false false false true is_watch is_hunt is_help word clear = inl (run, refl, refl)
first_word false false false false false true is_hunt is_help word clear = inl (watch, refl, refl)
first_word false false false false false false true is_help word clear = inl (hunt, refl, refl)
first_word false false false false false false false true word clear = absurd cc
first_word false false false false false false false false word clear = inr (no_command word clear)

-- ---- the words behind it

-- a name takes all words behind it
pub stopped_walk : (name : Text) (before rest : List Text)
    → (walk_fault top names (stopped_at name before) rest ≡ []) × (fold (walked top.rules names) (stopped_at name before) rest ≡ stopped_at name (before ++ rest))
unfolding walk_fault walked
stopped_walk name before [] = (refl, ap (stopped_at name) (sym (append-nil before)))
stopped_walk name before (word ∷ rest) =
    let tail = stopped_walk name (before ++ word ∷ []) rest in
    (tail.0, tail.1 ∙ ap (stopped_at name) (append_assoc before (word ∷ []) rest))

-- behind `--` nothing may follow
nothing_after : (rest : List Text) → walk_fault top names after_dashes rest ≡ [] → (fold (walked top.rules names) after_dashes rest).stopped ≡ None
unfolding walk_fault
nothing_after [] clear = refl
nothing_after (word ∷ rest) clear = absurd cc

-- where the walk stops
abbrev stop : List Text → Option (Text × List Text)
stop words = (walk top.rules names nothing_held words).stopped

-- a command was met, or none
abbrev Stop : List Text → Type 0
Stop words = ((c : Command) × (rest : List Text) × (words ≡ name_of c ∷ rest) × (stop words ≡ Some (name_of c, rest))) ⊎ (stop words ≡ None)

is_text : (a b : Text) → (bytes_eq a b || false) ≡ true → b ≡ a
is_text a b e = sym ((bytes_eq-Decides a b).0 (or_false (bytes_eq a b) e))
  where
    or_false : (b : Bool) → (b || false) ≡ true → b ≡ true
    or_false true h = refl
    or_false false h = h

abbrev tests : Text → Command → Bool
tests word = tested (bytes_eq (codes "verify") word || false) (bytes_eq (codes "header") word || false) (bytes_eq (codes "show") word || false) (bytes_eq (codes "upgrade") word || false)
    (bytes_eq (codes "run") word || false) (bytes_eq (codes "watch") word || false) (bytes_eq (codes "hunt") word || false)

is_name : (c : Command) (word : Text) → tests word c ≡ true → word ≡ name_of c
is_name verify word e = is_text (codes "verify") word e
is_name header word e = is_text (codes "header") word e
is_name show word e = is_text (codes "show") word e
is_name upgrade word e = is_text (codes "upgrade") word e
is_name run word e = is_text (codes "run") word e
is_name watch word e = is_text (codes "watch") word e
is_name hunt word e = is_text (codes "hunt") word e

stop_of : (words : List Text) → walk_fault top names start words ≡ [] → Stop words
unfolding walk_fault walked
stop_of [] clear = inr refl
stop_of (word ∷ rest) clear =
    let parts = both_clear (turn_fault top names start word) _ clear in
    let first = first_word (bytes_eq (codes "verify") word || false) (bytes_eq (codes "header") word || false) (bytes_eq (codes "show") word || false) (bytes_eq (codes "upgrade") word || false) (bytes_eq (codes "run") word || false) (bytes_eq (codes "watch") word || false) (bytes_eq (codes "hunt") word || false) (bytes_eq (codes "help") word || false) word parts.0 in
    elim first [
      | inl here ↦
          let walk_is = ap (λ w. fold (walked top.rules names) w rest) here.2 ∙ (stopped_walk (name_of here.0) [] rest).1 in
          inl (here.0, rest, ap (λ w. w ∷ rest) (is_name here.0 word here.1), ap (λ w. w.stopped) walk_is)
      | inr dashes ↦ inr (ap (λ w. (fold (walked top.rules names) w rest).stopped) dashes ∙ nothing_after rest (subst (λ w. walk_fault top names w rest ≡ []) dashes parts.1))
    ]

-- ---- what the words stand for

abbrev pub settling : Command → List Text → Kinds
settling c values = settle_fault (leaf_of c).rules (leaf_of c).args_override_self (held_at (rules_for c) values)

-- what a parse without a fault says of the words and keeps of them
pub record ReadsCommand (words : List Text) : Type 0 where
  pub command : Command
  pub values : List Text
  pub is : IsCommand words (name_of command) values
  pub count : length values ≡ length (rules_for command)
  pub settles : settling command values ≡ []
  pub kept : subcommand_of program_app words ≡ Some (name_of command, value_rows values (rules_for command))

entered_is : (c : Command) (rest : List Text) → entered whole (Some (name_of c, rest)) ≡ Some (name_of c, rows_after (leaf_of c).rules [] rest)
entered_is verify rest = refl
entered_is header rest = refl
entered_is show rest = refl
entered_is upgrade rest = refl
entered_is run rest = refl
entered_is watch rest = refl
entered_is hunt rest = refl

pub command_fault : (c : Command) (rest : List Text) → entered_fault whole (Some (name_of c, rest)) ≡ level_fault (leaf_of c) [] nothing_held rest false []
command_fault verify rest = refl
command_fault header rest = refl
command_fault show rest = refl
command_fault upgrade rest = refl
command_fault run rest = refl
command_fault watch rest = refl
command_fault hunt rest = refl

-- without a subcommand the last checks are at fault
no_subcommand : (rows : List Row) (stop : Option (Text × List Text)) → stop ≡ None → check_fault top rows (is_some (entered whole stop)) ≡ [] → ⊥
no_subcommand rows stop none clear = let bad : check_fault top rows false ≡ [] = ap (λ o. check_fault top rows (is_some (entered whole o))) (sym none) ∙ clear in cc

command_read : (words : List Text) (c : Command) (rest : List Text) → words ≡ name_of c ∷ rest → stop words ≡ Some (name_of c, rest)
    → entered_fault whole (stop words) ≡ [] → ReadsCommand words
command_read words c rest words_are stopped clear =
    let given = gives_values (leaf_of c) (rules_for c) (takes c) rest (sym (command_fault c rest) ∙ ap (entered_fault whole) (sym stopped) ∙ clear) in
    record {
      command = c;
      values = given.all;
      is = record { rest = rest; command = words_are; values_are = given.values_are };
      count = given.count;
      settles = given.settles;
      kept = ap (entered whole) stopped ∙ entered_is c rest ∙ ap (λ rows. Some (name_of c, rows)) given.rows_are;
    }

reads_command : (words : List Text) → fault_of program_app words ≡ [] → ReadsCommand words
reads_command words clear =
    let level = level_clear top names words _ _ clear in
    elim (stop_of words level.walk_is) [
      | inl met ↦ command_read words met.0 met.1 met.2 met.3 level.below_is
      | inr none ↦ absurd (no_subcommand (finished top.rules (walk top.rules names nothing_held words).held) (stop words) none level.checks)
    ]

-- ---- what the caller reads

-- the matches of a command that is the program's, which a parse gave without a fault
pub parsed : (words : List Text) (app : App) (m : ArgMatches) → app ≡ program_app → HasMatchesOf app words m → (is_simple_and_free app ≡ true → fault_of app words ≡ [])
    → (r : ReadsCommand words) × (subcommand_rows_of m ≡ Some (name_of r.command, value_rows r.values (rules_for r.command)))
parsed words app m is has clear =
    let read = reads_command words (ap (λ a. fault_of a words) (sym is) ∙ clear (ap is_simple_and_free is)) in
    (read, (has (ap is_simple is)).1 ∙ ap (λ a. subcommand_of a words) is ∙ read.kept)
