-- The program's commands, as they are built: each takes a value for each of its arguments.
use Rattle.std.proofs.Common.{◌≡◌, ◌∙◌, ◌==◌, ◌||◌, ℕ, false, List, ap, sym, refl, codes, find}
use Rattle.std.specs.Prelude.{if◌then◌else◌, unwrap_or}
use Rattle.std.specs.Str.{bytes_eq}
use Rattle.clap.specs.Faults.{defaults_fault, long_fault, short_fault}
use Rattle.clap.specs.Walk.{Rule, Text, answers_to, arg_by_long, arg_by_short}
use Rattle.clap.specs.Simple.{App, Shape, built, label_of}
use Rattle.gb_words.specs.CommandLine.{certificate_rules, header_rules, program_app, run_rules, verify_rules}
use Rattle.gb_words.proofs.PlainWords.{HasNoFlags, flag_named, no_long, no_short}
use Rattle.gb_words.proofs.LeafWalk.{Takes}

pub data Command : Type 0 where
  verify : Command
  header : Command
  show : Command
  upgrade : Command
  run : Command
  watch : Command
  hunt : Command

abbrev pub name_of : Command → Text
name_of verify = codes "verify"
name_of header = codes "header"
name_of show = codes "show"
name_of upgrade = codes "upgrade"
name_of run = codes "run"
name_of watch = codes "watch"
name_of hunt = codes "hunt"

by_name : Text → Command
by_name name = if bytes_eq (codes "verify") name then verify else (if bytes_eq (codes "header") name then header
    else (if bytes_eq (codes "show") name then show else (if bytes_eq (codes "upgrade") name then upgrade else (if bytes_eq (codes "run") name then run
    else (if bytes_eq (codes "watch") name then watch else hunt)))))

by_name_is : (c : Command) → by_name (name_of c) ≡ c
unfolding by_name
by_name_is verify = refl
by_name_is header = refl
by_name_is show = refl
by_name_is upgrade = refl
by_name_is run = refl
by_name_is watch = refl
by_name_is hunt = refl

pub same_command : (c d : Command) → name_of c ≡ name_of d → c ≡ d
same_command c d e = sym (by_name_is c) ∙ ap by_name e ∙ by_name_is d

abbrev pub rules_for : Command → List Rule
rules_for verify = verify_rules
rules_for header = header_rules
rules_for show = certificate_rules
rules_for upgrade = certificate_rules
rules_for run = run_rules
rules_for watch = run_rules
rules_for hunt = header_rules

-- the program's command, as it is built
abbrev pub whole : App
whole = built program_app

abbrev pub leaf_of : Command → Shape
leaf_of c = unwrap_or (find (λ s. answers_to (name_of c) (label_of s)) whole.subs) whole.top

flags_are_two : (s : Shape) → ((name : Text) → arg_by_long s.rules name ≡ flag_named (bytes_eq (codes "help") name || false) false)
    → ((x : ℕ) → arg_by_short s.rules x ≡ flag_named (104 == x || false) false) → HasNoFlags s.rules
flags_are_two s long short = record {
  no_long = λ again name v h clear. no_long s.rules (bytes_eq (codes "help") name || false) false again v h (ap (λ o. long_fault s.rules again o v h) (sym (long name)) ∙ clear);
  no_short = λ again x rest h next clear. no_short s.rules (104 == x || false) false again rest h next (ap (λ o. short_fault s.rules again o rest h next) (sym (short x)) ∙ clear);
}

verify_takes : Takes (leaf_of verify) verify_rules
unfolding defaults_fault
verify_takes = record {
  no_flags = flags_are_two (leaf_of verify) (λ name. refl) (λ x. refl);
  has_room = (refl, λ a. (refl, λ b. tt));
  takes_one = λ t word. (refl, λ a. (refl, λ b. tt));
  is_full = λ a b clear. cc;
  misses = (λ clear. cc, λ a. (λ clear. cc, λ b. tt));
  has_all = λ a b. refl;
  keeps_all = λ a b. refl;
  no_defaults = λ a b. refl;
}

header_takes : Takes (leaf_of header) header_rules
unfolding defaults_fault
header_takes = record {
  no_flags = flags_are_two (leaf_of header) (λ name. refl) (λ x. refl);
  has_room = (refl, λ a. tt);
  takes_one = λ t word. (refl, λ a. tt);
  is_full = λ a clear. cc;
  misses = (λ clear. cc, λ a. tt);
  has_all = λ a. refl;
  keeps_all = λ a. refl;
  no_defaults = λ a. refl;
}

show_takes : Takes (leaf_of show) certificate_rules
unfolding defaults_fault
show_takes = record {
  no_flags = flags_are_two (leaf_of show) (λ name. refl) (λ x. refl);
  has_room = (refl, λ a. tt);
  takes_one = λ t word. (refl, λ a. tt);
  is_full = λ a clear. cc;
  misses = (λ clear. cc, λ a. tt);
  has_all = λ a. refl;
  keeps_all = λ a. refl;
  no_defaults = λ a. refl;
}

upgrade_takes : Takes (leaf_of upgrade) certificate_rules
unfolding defaults_fault
upgrade_takes = record {
  no_flags = flags_are_two (leaf_of upgrade) (λ name. refl) (λ x. refl);
  has_room = (refl, λ a. tt);
  takes_one = λ t word. (refl, λ a. tt);
  is_full = λ a clear. cc;
  misses = (λ clear. cc, λ a. tt);
  has_all = λ a. refl;
  keeps_all = λ a. refl;
  no_defaults = λ a. refl;
}

run_takes : Takes (leaf_of run) run_rules
unfolding defaults_fault
run_takes = record {
  no_flags = flags_are_two (leaf_of run) (λ name. refl) (λ x. refl);
  has_room = (refl, λ a. (refl, λ b. (refl, λ c. tt)));
  takes_one = λ t word. (refl, λ a. (refl, λ b. (refl, λ c. tt)));
  is_full = λ a b c clear. cc;
  misses = (λ clear. cc, λ a. (λ clear. cc, λ b. (λ clear. cc, λ c. tt)));
  has_all = λ a b c. refl;
  keeps_all = λ a b c. refl;
  no_defaults = λ a b c. refl;
}

watch_takes : Takes (leaf_of watch) run_rules
unfolding defaults_fault
watch_takes = record {
  no_flags = flags_are_two (leaf_of watch) (λ name. refl) (λ x. refl);
  has_room = (refl, λ a. (refl, λ b. (refl, λ c. tt)));
  takes_one = λ t word. (refl, λ a. (refl, λ b. (refl, λ c. tt)));
  is_full = λ a b c clear. cc;
  misses = (λ clear. cc, λ a. (λ clear. cc, λ b. (λ clear. cc, λ c. tt)));
  has_all = λ a b c. refl;
  keeps_all = λ a b c. refl;
  no_defaults = λ a b c. refl;
}

hunt_takes : Takes (leaf_of hunt) header_rules
unfolding defaults_fault
hunt_takes = record {
  no_flags = flags_are_two (leaf_of hunt) (λ name. refl) (λ x. refl);
  has_room = (refl, λ a. tt);
  takes_one = λ t word. (refl, λ a. tt);
  is_full = λ a clear. cc;
  misses = (λ clear. cc, λ a. tt);
  has_all = λ a. refl;
  keeps_all = λ a. refl;
  no_defaults = λ a. refl;
}

pub takes : (c : Command) → Takes (leaf_of c) (rules_for c)
takes verify = verify_takes
takes header = header_takes
takes show = show_takes
takes upgrade = upgrade_takes
takes run = run_takes
takes watch = watch_takes
takes hunt = hunt_takes
