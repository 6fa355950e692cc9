-- The program's command line, as clap is told it.
use Rattle.std.specs.Prelude.{◌≡◌, true, false, codes, List, [], ◌∷◌, pos, Some, Result, IfOk}
use Rattle.clap.specs.Words.{App, Rule, Text, app_of, new_app, new_rule, with_subcommand}
use Rattle.clap.specs.declared.builder.command.Command.{Command}
use Rattle.clap.specs.declared.builder.command.Command.TheViews.{out-Command as fields_of}
use Rattle.clap.specs.declared.builder.value_parser.ValueParser.TheVariants as parser

-- a name of a file, which has to be there
abbrev pub file_rule : Text → Rule
file_rule id = record (new_rule id) { value_names = 1; required = true }

-- a number of frames, which has to be there
abbrev pub frames_rule : Text → Rule
frames_rule id = record (file_rule id) { parser = Some (parser.Signed (pos 0) (pos 36000)) }

-- a command that takes a value for each of these, in their order
abbrev pub command_app : Text → List Rule → App
command_app name rules = let a = new_app name in record a {
  top = record a.top { rules = rules };
}

abbrev pub verify_rules : List Rule
verify_rules = file_rule (codes "rom") ∷ file_rule (codes "cert") ∷ []

abbrev pub header_rules : List Rule
header_rules = file_rule (codes "rom") ∷ []

abbrev pub certificate_rules : List Rule
certificate_rules = file_rule (codes "cert") ∷ []

abbrev pub run_rules : List Rule
run_rules = file_rule (codes "rom") ∷ file_rule (codes "script") ∷ frames_rule (codes "frames") ∷ []

abbrev pub verify_app : App
verify_app = command_app (codes "verify") verify_rules

abbrev pub header_app : App
header_app = command_app (codes "header") header_rules

abbrev pub show_app : App
show_app = command_app (codes "show") certificate_rules

abbrev pub upgrade_app : App
upgrade_app = command_app (codes "upgrade") certificate_rules

abbrev pub run_app : App
run_app = command_app (codes "run") run_rules

abbrev pub watch_app : App
watch_app = command_app (codes "watch") run_rules

abbrev pub hunt_app : App
hunt_app = command_app (codes "hunt") header_rules

-- the program itself takes no more than its subcommands
abbrev pub plain_app : App
plain_app = let a = new_app (codes "gulmyrek") in record a {
  top = record a.top {
    no_binary_name = true;
    subcommand_required = true;
    has_version = true;
  };
}

abbrev pub program_app : App
program_app = with_subcommand (with_subcommand (with_subcommand (with_subcommand (with_subcommand (with_subcommand (with_subcommand plain_app verify_app.top) header_app.top) show_app.top) upgrade_app.top) run_app.top) watch_app.top) hunt_app.top

-- where the command could be built it is this one, and none of its arguments is its subcommands' too
abbrev pub Makes : {E : Type 0} → Result Command E → App → Type 0
Makes result app = IfOk result (λ command. (app_of command ≡ app) × ((fields_of command).has_globals ≡ false))
