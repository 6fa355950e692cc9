-- The command that a parse met, and what the program reads of its matches.
use Rattle.std.proofs.Common.{◌≡◌, ℕ, List, [], ◌∷◌, length, Option, Some, None, option_map, is_some, true, pos, ap, refl, sym, subst, ◌∙◌, codes, Box, box_value, inl}
use Rattle.std.specs.Str.Parse.{signed_digits_value}
use Rattle.clap.specs.Words.{IsSignedIn}
use Rattle.clap.specs.Faults.{fault_of, is_simple_and_free}
use Rattle.clap.specs.Walk.{Row, Text, first_of, one_of, rows_of}
use Rattle.clap.specs.Simple.{App, HasMatchesOf, subcommand_rows, subcommand_rows_of}
use Rattle.clap.specs.Matches.{first_value, found_of, one_text, subcommand_name_of}
use Rattle.clap.specs.declared.parser.matches.ArgMatches.{ArgMatches}
use Rattle.clap.specs.declared.parser.matches.ArgMatches.TheViews.{out-ArgMatches, out-SubCommand}
use Rattle.clap.specs.declared.parser.matches.SubCommand.{SubCommand}
use Rattle.clap.proofs.WalkLemmas.{first_value-rows, one_text-rows}
use Rattle.gb_words.specs.CommandLine.{file_rule, program_app, run_rules, verify_rules}
use Rattle.gb_words.specs.HuntWords.{HuntTexts, no_hunt_texts}
use Rattle.gb_words.specs.Words.{IsCommand, IsHunt, IsRun, IsWatch, WatchTexts, no_texts}
use Rattle.gb_words.proofs.LeafWalk.{exactly, value_rows}
use Rattle.gb_words.proofs.Leaves.{Command, header, hunt, name_of, rules_for, run, same_command, show, upgrade, verify, watch}
use Rattle.gb_words.proofs.CommandWalk.{parsed, settling}
use Rattle.gb_words.proofs.Frames.{is_taken, watch_is_taken}

-- the subcommand that a parse met, by its name and its rows
pub record IsMet (words : List Text) (name : Text) (rows : List Row) : Type 0 where
  pub command : Command
  pub values : List Text
  pub name_is : name ≡ name_of command
  pub rows_are : rows ≡ value_rows values (rules_for command)
  pub is : IsCommand words (name_of command) values
  pub count : length values ≡ length (rules_for command)
  pub settles : settling command values ≡ []

pub some_same : {A : Type 0} {a b : A} → Some a ≡ Some b → a ≡ b
some_same e = cc

name_of_rows : {Z : Type 0} (o : Option (Box SubCommand Z)) (name : Text) (rows : List Row) → subcommand_rows o ≡ Some (name, rows)
    → option_map (λ b. (out-SubCommand (box_value b)).name.now) o ≡ Some name
name_of_rows None name rows e = absurd cc
name_of_rows (Some b) name rows e = ap (option_map (λ (p : Text × List Row). p.0)) e

pub met : (words : List Text) (app : App) (m : ArgMatches) (name : Text) (rows : List Row) → app ≡ program_app → HasMatchesOf app words m
    → (is_simple_and_free app ≡ true → fault_of app words ≡ []) → Some name ≡ subcommand_name_of m → Some rows ≡ option_map (λ p. p.1) (subcommand_rows_of m)
    → IsMet words name rows
met words app m name rows is has clear name_is rows_are =
    let p = parsed words app m is has clear in
    record {
      command = p.0.command;
      values = p.0.values;
      name_is = some_same (name_is ∙ name_of_rows (out-ArgMatches m).subcommand (name_of p.0.command) _ p.1);
      rows_are = some_same (rows_are ∙ ap (option_map (λ (q : Text × List Row). q.1)) p.1);
      is = p.0.is;
      count = p.0.count;
      settles = p.0.settles;
    }

-- it is one of the program's commands
pub is_known : (words : List Text) (name : Text) (rows : List Row) → IsMet words name rows → (name ≡ codes "verify" → ⊥) → (name ≡ codes "header" → ⊥)
    → (name ≡ codes "show" → ⊥) → (name ≡ codes "upgrade" → ⊥) → (name ≡ codes "run" → ⊥) → (name ≡ codes "watch" → ⊥) → (name ≡ codes "hunt" → ⊥) → ⊥
is_known words name rows g not_verify not_header not_show not_upgrade not_run not_watch not_hunt = go g.command g.name_is
  where
    go : (c : Command) → name ≡ name_of c → ⊥
    go verify e = not_verify e
    go header e = not_header e
    go show e = not_show e
    go upgrade e = not_upgrade e
    go run e = not_run e
    go watch e = not_watch e
    go hunt e = not_hunt e

-- ---- each command

pub record GivesVerify (words : List Text) (rows : List Row) : Type 0 where
  pub rom : Text
  pub cert : Text
  pub is : IsCommand words (codes "verify") (rom ∷ cert ∷ [])
  pub rows_are : rows ≡ value_rows (rom ∷ cert ∷ []) verify_rules

-- of a command that takes one file
pub record GivesFile (words : List Text) (rows : List Row) (name id : Text) : Type 0 where
  pub file : Text
  pub is : IsCommand words name (file ∷ [])
  pub rows_are : rows ≡ value_rows (file ∷ []) (file_rule id ∷ [])

-- of a command that plays a script
pub record GivesRun (words : List Text) (rows : List Row) (name : Text) : Type 0 where
  pub rom : Text
  pub script : Text
  pub frames : Text
  pub is : IsCommand words name (rom ∷ script ∷ frames ∷ [])
  pub taken : IsSignedIn (pos 0) (pos 36000) frames
  pub rows_are : rows ≡ value_rows (rom ∷ script ∷ frames ∷ []) run_rules

-- by the name, the command is this one
named : (P : Type 0) (words : List Text) (name : Text) (rows : List Row) → IsMet words name rows → (c : Command) → name ≡ name_of c
    → ((values : List Text) → rows ≡ value_rows values (rules_for c) → IsCommand words (name_of c) values → settling c values ≡ [] → length values ≡ length (rules_for c) → P) → P
named P words name rows g c e found =
    let is : c ≡ g.command = same_command c g.command (sym e ∙ g.name_is) in
    subst (λ (d : Command). ((values : List Text) → rows ≡ value_rows values (rules_for d) → IsCommand words (name_of d) values → settling d values ≡ []
    → length values ≡ length (rules_for d) → P)) is found g.values g.rows_are g.is g.settles g.count

pub gives_verify : (words : List Text) (name : Text) (rows : List Row) → IsMet words name rows → name ≡ codes "verify" → GivesVerify words rows
gives_verify words name rows g e = named (GivesVerify words rows) words name rows g verify e
    (λ values r i s count. exactly 2 (λ vs. rows ≡ value_rows vs verify_rules → IsCommand words (codes "verify") vs → GivesVerify words rows)
    (λ rom cert are is. record { rom = rom; cert = cert; is = is; rows_are = are }) values count r i)

gives_file : (c : Command) (id : Text) → rules_for c ≡ file_rule id ∷ [] → (words : List Text) (name : Text) (rows : List Row) → IsMet words name rows
    → name ≡ name_of c → GivesFile words rows (name_of c) id
gives_file c id rules words name rows g e = named (GivesFile words rows (name_of c) id) words name rows g c e
    (λ values r i s count. exactly 1 (λ vs. rows ≡ value_rows vs (rules_for c) → IsCommand words (name_of c) vs → GivesFile words rows (name_of c) id)
    (λ file are is. record { file = file; is = is; rows_are = are ∙ ap (value_rows (file ∷ [])) rules }) values (count ∙ ap length rules) r i)

pub gives_header : (words : List Text) (name : Text) (rows : List Row) → IsMet words name rows → name ≡ codes "header" → GivesFile words rows (codes "header") (codes "rom")
gives_header = gives_file header (codes "rom") refl

pub gives_hunt : (words : List Text) (name : Text) (rows : List Row) → IsMet words name rows → name ≡ codes "hunt" → GivesFile words rows (codes "hunt") (codes "rom")
gives_hunt = gives_file hunt (codes "rom") refl

pub gives_show : (words : List Text) (name : Text) (rows : List Row) → IsMet words name rows → name ≡ codes "show" → GivesFile words rows (codes "show") (codes "cert")
gives_show = gives_file show (codes "cert") refl

pub gives_upgrade : (words : List Text) (name : Text) (rows : List Row) → IsMet words name rows → name ≡ codes "upgrade" → GivesFile words rows (codes "upgrade") (codes "cert")
gives_upgrade = gives_file upgrade (codes "cert") refl

gives_script : (c : Command) → rules_for c ≡ run_rules → ((rom script frames : Text) → settling c (rom ∷ script ∷ frames ∷ []) ≡ [] → IsSignedIn (pos 0) (pos 36000) frames)
    → (words : List Text) (name : Text) (rows : List Row) → IsMet words name rows → name ≡ name_of c → GivesRun words rows (name_of c)
gives_script c rules taken words name rows g e = named (GivesRun words rows (name_of c)) words name rows g c e
    (λ values r i s count. exactly 3 (λ vs. rows ≡ value_rows vs (rules_for c) → IsCommand words (name_of c) vs → settling c vs ≡ [] → GivesRun words rows (name_of c))
    (λ rom script frames are is settles. record {
      rom = rom;
      script = script;
      frames = frames;
      is = is;
      taken = taken rom script frames settles;
      rows_are = are ∙ ap (value_rows (rom ∷ script ∷ frames ∷ [])) rules;
    }) values (count ∙ ap length rules) r i s)

pub gives_run : (words : List Text) (name : Text) (rows : List Row) → IsMet words name rows → name ≡ codes "run" → GivesRun words rows (codes "run")
gives_run = gives_script run refl is_taken

pub gives_watch : (words : List Text) (name : Text) (rows : List Row) → IsMet words name rows → name ≡ codes "watch" → GivesRun words rows (codes "watch")
gives_watch = gives_script watch refl watch_is_taken

-- ---- the getters

-- an argument's value, by the rows, is there
pub has_value : (m : ArgMatches) (id text : Text) (rows : List Row) → rows_of (found_of m) ≡ rows → first_of id rows ≡ Some text → is_some (first_value (found_of m) id) ≡ true
has_value m id text rows rows_are e = ap is_some (first_value-rows (found_of m) id ∙ ap (first_of id) rows_are ∙ e)

-- and is what was read
pub value_is : (m : ArgMatches) (id text read : Text) (rows : List Row) → rows_of (found_of m) ≡ rows → first_of id rows ≡ Some text
    → first_value (found_of m) id ≡ Some read → text ≡ read
value_is m id text read rows rows_are e got = some_same (sym e ∙ ap (first_of id) (sym rows_are) ∙ sym (first_value-rows (found_of m) id) ∙ got)

-- what a typed getter reads
pub one_is : (m : ArgMatches) (id text : Text) (rows : List Row) → rows_of (found_of m) ≡ rows → one_of id rows ≡ Some text → one_text (found_of m) id ≡ Some text
one_is m id text rows rows_are e = one_text-rows (found_of m) id ∙ ap (one_of id) rows_are ∙ e

-- ---- the same words, by values that are equal

pub as_file : (words : List Text) (name a file : Text) → file ≡ a → IsCommand words name (file ∷ []) → IsCommand words name (a ∷ [])
as_file words name a file e is = subst (λ x. IsCommand words name (x ∷ [])) e is

pub as_verify : (words : List Text) (a b rom cert : Text) → rom ≡ a → cert ≡ b → IsCommand words (codes "verify") (rom ∷ cert ∷ [])
    → IsCommand words (codes "verify") (a ∷ b ∷ [])
as_verify words a b rom cert e f is = subst (λ x. IsCommand words (codes "verify") (x ∷ b ∷ [])) e (subst (λ y. IsCommand words (codes "verify") (rom ∷ y ∷ [])) f is)

pub as_run : (words : List Text) (a b : Text) (n : ℕ) (rows : List Row) (g : GivesRun words rows (codes "run")) → g.rom ≡ a → g.script ≡ b → signed_digits_value 10 g.frames ≡ pos n → IsRun words a b n
as_run words a b n rows g e f number = record {
  word = g.frames;
  command = subst (λ x. IsCommand words (codes "run") (x ∷ b ∷ g.frames ∷ [])) e (subst (λ y. IsCommand words (codes "run") (g.rom ∷ y ∷ g.frames ∷ [])) f g.is);
  frames_are = record { is_taken = g.taken; number = number };
}

pub as_hunt : (words : List Text) (a : Text) (rows : List Row) (g : GivesFile words rows (codes "hunt") (codes "rom")) (texts : HuntTexts) → g.file ≡ a
    → texts ≡ no_hunt_texts → IsHunt words a texts
as_hunt words a rows g texts e none = inl (record {
  command = as_file words (codes "hunt") a g.file e g.is;
  no_options = none;
})

pub as_watch : (words : List Text) (a b : Text) (n : ℕ) (rows : List Row) (g : GivesRun words rows (codes "watch")) (texts : WatchTexts) → g.rom ≡ a → g.script ≡ b
    → signed_digits_value 10 g.frames ≡ pos n → texts ≡ no_texts → IsWatch words a b n texts
as_watch words a b n rows g texts e f number none = inl (record {
  word = g.frames;
  command = subst (λ x. IsCommand words (codes "watch") (x ∷ b ∷ g.frames ∷ [])) e (subst (λ y. IsCommand words (codes "watch") (g.rom ∷ y ∷ g.frames ∷ [])) f g.is);
  frames_are = record { is_taken = g.taken; number = number };
  no_options = none;
})
