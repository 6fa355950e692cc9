use Rattle.std.proofs.Common.{◌≡◌, inl, ◌∷◌, ◌∙◌, [], codes, decimal, map, sym, refl, ap, pos}
use Rattle.std.specs.Str.Parse.{ExplainsUnsignedError, HasUnsignedDigitsIfOk, ParsesUnsigned}
use Rattle.clap.specs.Words.{found_of, rows_of, without_minus}
use Rattle.clap.proofs.TakesLemmas.{passed_up}
use Rattle.gb_words.specs.CommandLine.{program_app}
use Rattle.gb_words.proofs.Leaves.{header, run, show, upgrade, verify}
use Rattle.gb_words.proofs.CommandTaken.{wants_memory}
use Rattle.gb_words.proofs.Frames.{decimal_is_frames, reads, settles}
use Rattle.gb_words.proofs.MetCommand.{as_file, as_hunt, as_run, as_verify, met, gives_header, gives_hunt, gives_run, gives_show, gives_upgrade, gives_verify, gives_watch, as_watch, has_value, is_known, one_is, some_same, value_is}
use Rattle.gb_words.proofs.words.read_words.Goals as goal

-- ---- `verify`

pub value-rom-requires : goal.value-rom-requires
value-rom-requires c =
    let g = met (map (λ s. s.now) c.args.words.now) program_app c.in_ok-matches.matches c.in-Some-subcommand.name.now (rows_of (found_of c.in-Some-subcommand.arguments.now)) refl c.in_ok-matches.ensures.matches c.in_ok-matches.ensures.kinds c.in-Some-subcommand.ensures.name c.in-Some-subcommand.ensures.rows in
    let v = gives_verify _ _ _ g c.in-verify.is in
    record { present = has_value c.in-Some-subcommand.arguments.now (codes "rom") v.rom _ v.rows_are refl }

pub value-cert-requires : goal.value-cert-requires
value-cert-requires c =
    let g = met (map (λ s. s.now) c.args.words.now) program_app c.in_ok-matches.matches c.in-Some-subcommand.name.now (rows_of (found_of c.in-Some-subcommand.arguments.now)) refl c.in_ok-matches.ensures.matches c.in_ok-matches.ensures.kinds c.in-Some-subcommand.ensures.name c.in-Some-subcommand.ensures.rows in
    let v = gives_verify _ _ _ g c.in-verify.is in
    record { present = has_value c.in-Some-subcommand.arguments.now (codes "cert") v.cert _ v.rows_are refl }

pub returns-in-verify-clause-stands : goal.returns-in-verify-clause-stands
returns-in-verify-clause-stands c =
    let g = met (map (λ s. s.now) c.args.words.now) program_app c.in_ok-matches.matches c.in-Some-subcommand.name.now (rows_of (found_of c.in-Some-subcommand.arguments.now)) refl c.in_ok-matches.ensures.matches c.in_ok-matches.ensures.kinds c.in-Some-subcommand.ensures.name c.in-Some-subcommand.ensures.rows in
    let v = gives_verify _ _ _ g c.in-verify.is in
    let rom_is = value_is c.in-Some-subcommand.arguments.now (codes "rom") v.rom c.value-rom.result.now _ v.rows_are refl c.value-rom.ensures in
    let cert_is = value_is c.in-Some-subcommand.arguments.now (codes "cert") v.cert c.value-cert.result.now _ v.rows_are refl c.value-cert.ensures in
    as_verify (map (λ s. s.now) c.args.words.now) _ _ v.rom v.cert rom_is cert_is v.is

-- ---- `header`

pub value-rom-requires-in-header : goal.value-rom-requires-in-header
value-rom-requires-in-header c =
    let g = met (map (λ s. s.now) c.args.words.now) program_app c.in_ok-matches.matches c.in-Some-subcommand.name.now (rows_of (found_of c.in-Some-subcommand.arguments.now)) refl c.in_ok-matches.ensures.matches c.in_ok-matches.ensures.kinds c.in-Some-subcommand.ensures.name c.in-Some-subcommand.ensures.rows in
    let h = gives_header _ _ _ g c.in-header.is in
    record { present = has_value c.in-Some-subcommand.arguments.now (codes "rom") h.file _ h.rows_are refl }

pub returns-in-header-clause-stands : goal.returns-in-header-clause-stands
returns-in-header-clause-stands c =
    let g = met (map (λ s. s.now) c.args.words.now) program_app c.in_ok-matches.matches c.in-Some-subcommand.name.now (rows_of (found_of c.in-Some-subcommand.arguments.now)) refl c.in_ok-matches.ensures.matches c.in_ok-matches.ensures.kinds c.in-Some-subcommand.ensures.name c.in-Some-subcommand.ensures.rows in
    let h = gives_header _ _ _ g c.in-header.is in
    as_file (map (λ s. s.now) c.args.words.now) _ _ h.file (value_is c.in-Some-subcommand.arguments.now (codes "rom") h.file c.value-rom-in-header.result.now _ h.rows_are refl c.value-rom-in-header.ensures) h.is

-- ---- `show`

pub value-cert-requires-in-show : goal.value-cert-requires-in-show
value-cert-requires-in-show c =
    let g = met (map (λ s. s.now) c.args.words.now) program_app c.in_ok-matches.matches c.in-Some-subcommand.name.now (rows_of (found_of c.in-Some-subcommand.arguments.now)) refl c.in_ok-matches.ensures.matches c.in_ok-matches.ensures.kinds c.in-Some-subcommand.ensures.name c.in-Some-subcommand.ensures.rows in
    let h = gives_show _ _ _ g c.in-show.is in
    record { present = has_value c.in-Some-subcommand.arguments.now (codes "cert") h.file _ h.rows_are refl }

pub returns-in-show-clause-stands : goal.returns-in-show-clause-stands
returns-in-show-clause-stands c =
    let g = met (map (λ s. s.now) c.args.words.now) program_app c.in_ok-matches.matches c.in-Some-subcommand.name.now (rows_of (found_of c.in-Some-subcommand.arguments.now)) refl c.in_ok-matches.ensures.matches c.in_ok-matches.ensures.kinds c.in-Some-subcommand.ensures.name c.in-Some-subcommand.ensures.rows in
    let h = gives_show _ _ _ g c.in-show.is in
    as_file (map (λ s. s.now) c.args.words.now) _ _ h.file (value_is c.in-Some-subcommand.arguments.now (codes "cert") h.file c.value-cert-in-show.result.now _ h.rows_are refl c.value-cert-in-show.ensures) h.is

-- ---- `upgrade`

pub value-cert-requires-in-upgrade : goal.value-cert-requires-in-upgrade
value-cert-requires-in-upgrade c =
    let g = met (map (λ s. s.now) c.args.words.now) program_app c.in_ok-matches.matches c.in-Some-subcommand.name.now (rows_of (found_of c.in-Some-subcommand.arguments.now)) refl c.in_ok-matches.ensures.matches c.in_ok-matches.ensures.kinds c.in-Some-subcommand.ensures.name c.in-Some-subcommand.ensures.rows in
    let h = gives_upgrade _ _ _ g c.in-upgrade.is in
    record { present = has_value c.in-Some-subcommand.arguments.now (codes "cert") h.file _ h.rows_are refl }

pub returns-in-upgrade-clause-stands : goal.returns-in-upgrade-clause-stands
returns-in-upgrade-clause-stands c =
    let g = met (map (λ s. s.now) c.args.words.now) program_app c.in_ok-matches.matches c.in-Some-subcommand.name.now (rows_of (found_of c.in-Some-subcommand.arguments.now)) refl c.in_ok-matches.ensures.matches c.in_ok-matches.ensures.kinds c.in-Some-subcommand.ensures.name c.in-Some-subcommand.ensures.rows in
    let h = gives_upgrade _ _ _ g c.in-upgrade.is in
    inl (as_file (map (λ s. s.now) c.args.words.now) _ _ h.file (value_is c.in-Some-subcommand.arguments.now (codes "cert") h.file c.value-cert-in-upgrade.result.now _ h.rows_are refl c.value-cert-in-upgrade.ensures) h.is)

-- ---- `run`

pub value-rom-requires-in-run : goal.value-rom-requires-in-run
value-rom-requires-in-run c =
    let g = met (map (λ s. s.now) c.args.words.now) program_app c.in_ok-matches.matches c.in-Some-subcommand.name.now (rows_of (found_of c.in-Some-subcommand.arguments.now)) refl c.in_ok-matches.ensures.matches c.in_ok-matches.ensures.kinds c.in-Some-subcommand.ensures.name c.in-Some-subcommand.ensures.rows in
    let r = gives_run _ _ _ g c.in-run.is in
    record { present = has_value c.in-Some-subcommand.arguments.now (codes "rom") r.rom _ r.rows_are refl }

pub value-script-requires : goal.value-script-requires
value-script-requires c =
    let g = met (map (λ s. s.now) c.args.words.now) program_app c.in_ok-matches.matches c.in-Some-subcommand.name.now (rows_of (found_of c.in-Some-subcommand.arguments.now)) refl c.in_ok-matches.ensures.matches c.in_ok-matches.ensures.kinds c.in-Some-subcommand.ensures.name c.in-Some-subcommand.ensures.rows in
    let r = gives_run _ _ _ g c.in-run.is in
    record { present = has_value c.in-Some-subcommand.arguments.now (codes "script") r.script _ r.rows_are refl }

pub unreachable-requires-in_default-get_one : goal.unreachable-requires-in_default-get_one
unreachable-requires-in_default-get_one c =
    let g = met (map (λ s. s.now) c.args.words.now) program_app c.in_ok-matches.matches c.in-Some-subcommand.name.now (rows_of (found_of c.in-Some-subcommand.arguments.now)) refl c.in_ok-matches.ensures.matches c.in_ok-matches.ensures.kinds c.in-Some-subcommand.ensures.name c.in-Some-subcommand.ensures.rows in
    let r = gives_run _ _ _ g c.in-run.is in
    let frames_are = reads _ (λ bs x. ParsesUnsigned 32 10 bs x × ExplainsUnsignedError 10 bs x × HasUnsignedDigitsIfOk bs x) (λ bs x gives. gives.0) r.frames c.get_one.result
    (c.get_one.ensures.value (without_minus r.frames) (one_is c.in-Some-subcommand.arguments.now (codes "frames") (without_minus r.frames) _ r.rows_are refl)) r.taken in
    c.in_default-get_one.not-Some frames_are.0 frames_are.1

pub returns-in-run-clause-stands : goal.returns-in-run-clause-stands
returns-in-run-clause-stands c =
    let g = met (map (λ s. s.now) c.args.words.now) program_app c.in_ok-matches.matches c.in-Some-subcommand.name.now (rows_of (found_of c.in-Some-subcommand.arguments.now)) refl c.in_ok-matches.ensures.matches c.in_ok-matches.ensures.kinds c.in-Some-subcommand.ensures.name c.in-Some-subcommand.ensures.rows in
    let r = gives_run _ _ _ g c.in-run.is in
    let frames_are = reads _ (λ bs x. ParsesUnsigned 32 10 bs x × ExplainsUnsignedError 10 bs x × HasUnsignedDigitsIfOk bs x) (λ bs x gives. gives.0) r.frames c.get_one.result
    (c.get_one.ensures.value (without_minus r.frames) (one_is c.in-Some-subcommand.arguments.now (codes "frames") (without_minus r.frames) _ r.rows_are refl)) r.taken in
    let rom_is = value_is c.in-Some-subcommand.arguments.now (codes "rom") r.rom c.value-rom-in-run.result.now _ r.rows_are refl c.value-rom-in-run.ensures in
    let script_is = value_is c.in-Some-subcommand.arguments.now (codes "script") r.script c.value-script.result.now _ r.rows_are refl c.value-script.ensures in
    let n_is : frames_are.0 ≡ c.in-Some-get_one.frames = some_same (sym frames_are.1 ∙ c.in-Some-get_one.is) in
    as_run (map (λ s. s.now) c.args.words.now) _ _ _ _ r rom_is script_is (frames_are.2 ∙ ap pos n_is)

-- ---- `watch`

pub value-rom-requires-in-watch : goal.value-rom-requires-in-watch
value-rom-requires-in-watch c =
    let g = met (map (λ s. s.now) c.args.words.now) program_app c.in_ok-matches.matches c.in-Some-subcommand.name.now (rows_of (found_of c.in-Some-subcommand.arguments.now)) refl c.in_ok-matches.ensures.matches c.in_ok-matches.ensures.kinds c.in-Some-subcommand.ensures.name c.in-Some-subcommand.ensures.rows in
    let r = gives_watch _ _ _ g c.in-watch.is in
    record { present = has_value c.in-Some-subcommand.arguments.now (codes "rom") r.rom _ r.rows_are refl }

pub value-script-requires-in-watch : goal.value-script-requires-in-watch
value-script-requires-in-watch c =
    let g = met (map (λ s. s.now) c.args.words.now) program_app c.in_ok-matches.matches c.in-Some-subcommand.name.now (rows_of (found_of c.in-Some-subcommand.arguments.now)) refl c.in_ok-matches.ensures.matches c.in_ok-matches.ensures.kinds c.in-Some-subcommand.ensures.name c.in-Some-subcommand.ensures.rows in
    let r = gives_watch _ _ _ g c.in-watch.is in
    record { present = has_value c.in-Some-subcommand.arguments.now (codes "script") r.script _ r.rows_are refl }

pub unreachable-requires-in_default-get_one-2 : goal.unreachable-requires-in_default-get_one-2
unreachable-requires-in_default-get_one-2 c =
    let g = met (map (λ s. s.now) c.args.words.now) program_app c.in_ok-matches.matches c.in-Some-subcommand.name.now (rows_of (found_of c.in-Some-subcommand.arguments.now)) refl c.in_ok-matches.ensures.matches c.in_ok-matches.ensures.kinds c.in-Some-subcommand.ensures.name c.in-Some-subcommand.ensures.rows in
    let r = gives_watch _ _ _ g c.in-watch.is in
    let frames_are = reads _ (λ bs x. ParsesUnsigned 32 10 bs x × ExplainsUnsignedError 10 bs x × HasUnsignedDigitsIfOk bs x) (λ bs x gives. gives.0) r.frames c.get_one-in-watch.result
    (c.get_one-in-watch.ensures.value (without_minus r.frames) (one_is c.in-Some-subcommand.arguments.now (codes "frames") (without_minus r.frames) _ r.rows_are refl)) r.taken in
    c.in_default-get_one-2.not-Some frames_are.0 frames_are.1

pub returns-in-watch-clause-stands : goal.returns-in-watch-clause-stands
returns-in-watch-clause-stands c =
    let g = met (map (λ s. s.now) c.args.words.now) program_app c.in_ok-matches.matches c.in-Some-subcommand.name.now (rows_of (found_of c.in-Some-subcommand.arguments.now)) refl c.in_ok-matches.ensures.matches c.in_ok-matches.ensures.kinds c.in-Some-subcommand.ensures.name c.in-Some-subcommand.ensures.rows in
    let r = gives_watch _ _ _ g c.in-watch.is in
    let frames_are = reads _ (λ bs x. ParsesUnsigned 32 10 bs x × ExplainsUnsignedError 10 bs x × HasUnsignedDigitsIfOk bs x) (λ bs x gives. gives.0) r.frames c.get_one-in-watch.result
    (c.get_one-in-watch.ensures.value (without_minus r.frames) (one_is c.in-Some-subcommand.arguments.now (codes "frames") (without_minus r.frames) _ r.rows_are refl)) r.taken in
    let rom_is = value_is c.in-Some-subcommand.arguments.now (codes "rom") r.rom c.value-rom-in-watch.result.now _ r.rows_are refl c.value-rom-in-watch.ensures in
    let script_is = value_is c.in-Some-subcommand.arguments.now (codes "script") r.script c.value-script-in-watch.result.now _ r.rows_are refl c.value-script-in-watch.ensures in
    let n_is : frames_are.0 ≡ c.in-Some-get_one-2.frames = some_same (sym frames_are.1 ∙ c.in-Some-get_one-2.is) in
    as_watch (map (λ s. s.now) c.args.words.now) _ _ _ _ r _ rom_is script_is (frames_are.2 ∙ ap pos n_is) c.none.ensures

-- ---- `hunt`

pub value-rom-requires-in-hunt : goal.value-rom-requires-in-hunt
value-rom-requires-in-hunt c =
    let g = met (map (λ s. s.now) c.args.words.now) program_app c.in_ok-matches.matches c.in-Some-subcommand.name.now (rows_of (found_of c.in-Some-subcommand.arguments.now)) refl c.in_ok-matches.ensures.matches c.in_ok-matches.ensures.kinds c.in-Some-subcommand.ensures.name c.in-Some-subcommand.ensures.rows in
    let h = gives_hunt _ _ _ g c.in-hunt.is in
    record { present = has_value c.in-Some-subcommand.arguments.now (codes "rom") h.file _ h.rows_are refl }

pub returns-in-hunt-clause-stands : goal.returns-in-hunt-clause-stands
returns-in-hunt-clause-stands c =
    let g = met (map (λ s. s.now) c.args.words.now) program_app c.in_ok-matches.matches c.in-Some-subcommand.name.now (rows_of (found_of c.in-Some-subcommand.arguments.now)) refl c.in_ok-matches.ensures.matches c.in_ok-matches.ensures.kinds c.in-Some-subcommand.ensures.name c.in-Some-subcommand.ensures.rows in
    let h = gives_hunt _ _ _ g c.in-hunt.is in
    let rom_is = value_is c.in-Some-subcommand.arguments.now (codes "rom") h.file c.value-rom-in-hunt.result.now _ h.rows_are refl c.value-rom-in-hunt.ensures in
    as_hunt (map (λ s. s.now) c.args.words.now) _ _ h _ rom_is c.none-in-hunt.ensures

-- ---- other words

pub unreachable-requires-in_default-name : goal.unreachable-requires-in_default-name
unreachable-requires-in_default-name c =
    let g = met (map (λ s. s.now) c.args.words.now) program_app c.in_ok-matches.matches c.in-Some-subcommand.name.now (rows_of (found_of c.in-Some-subcommand.arguments.now)) refl c.in_ok-matches.ensures.matches c.in_ok-matches.ensures.kinds c.in-Some-subcommand.ensures.name c.in-Some-subcommand.ensures.rows in
    is_known _ _ _ g c.in_default-name.not-verify c.in_default-name.not-header c.in_default-name.not-show c.in_default-name.not-upgrade c.in_default-name.not-run c.in_default-name.not-watch c.in_default-name.not-hunt

-- ---- an error of words that are taken

pub returns-in_err-matches-clause-verify : goal.returns-in_err-matches-clause-verify
returns-in_err-matches-clause-verify c rom cert words_are plain_rom plain_cert =
    let wants = wants_memory verify (rom ∷ cert ∷ []) program_app (map (λ s. s.now) c.args.words.now) c.in_err-matches.field-0.0 refl words_are (plain_rom, (plain_cert, tt)) refl refl c.in_err-matches.ensures.kinds in
    passed_up c.from_residual.result c.in_err-matches.field-0.0 _ c.from_residual.ensures.1 wants

pub returns-in_err-matches-clause-header : goal.returns-in_err-matches-clause-header
returns-in_err-matches-clause-header c rom words_are plain =
    let wants = wants_memory header (rom ∷ []) program_app (map (λ s. s.now) c.args.words.now) c.in_err-matches.field-0.0 refl words_are (plain, tt) refl refl c.in_err-matches.ensures.kinds in
    passed_up c.from_residual.result c.in_err-matches.field-0.0 _ c.from_residual.ensures.1 wants

pub returns-in_err-matches-clause-show : goal.returns-in_err-matches-clause-show
returns-in_err-matches-clause-show c cert words_are plain =
    let wants = wants_memory show (cert ∷ []) program_app (map (λ s. s.now) c.args.words.now) c.in_err-matches.field-0.0 refl words_are (plain, tt) refl refl c.in_err-matches.ensures.kinds in
    passed_up c.from_residual.result c.in_err-matches.field-0.0 _ c.from_residual.ensures.1 wants

pub returns-in_err-matches-clause-upgrade : goal.returns-in_err-matches-clause-upgrade
returns-in_err-matches-clause-upgrade c cert words_are plain =
    let wants = wants_memory upgrade (cert ∷ []) program_app (map (λ s. s.now) c.args.words.now) c.in_err-matches.field-0.0 refl words_are (plain, tt) refl refl c.in_err-matches.ensures.kinds in
    passed_up c.from_residual.result c.in_err-matches.field-0.0 _ c.from_residual.ensures.1 wants

pub returns-in_err-matches-clause-run : goal.returns-in_err-matches-clause-run
returns-in_err-matches-clause-run c rom script frames n words_are plain_rom plain_script plain_frames is =
    let wants = wants_memory run (rom ∷ script ∷ frames ∷ []) program_app (map (λ s. s.now) c.args.words.now) c.in_err-matches.field-0.0 refl words_are (plain_rom, (plain_script, (plain_frames, tt))) refl (settles rom script frames is.is_taken) c.in_err-matches.ensures.kinds in
    passed_up c.from_residual.result c.in_err-matches.field-0.0 _ c.from_residual.ensures.1 wants

pub returns-in_err-matches-clause-run_decimal : goal.returns-in_err-matches-clause-run_decimal
returns-in_err-matches-clause-run_decimal c rom script n words_are plain_rom plain_script few =
    let wants = wants_memory run (rom ∷ script ∷ decimal n ∷ []) program_app (map (λ s. s.now) c.args.words.now) c.in_err-matches.field-0.0 refl words_are (plain_rom, (plain_script, ((decimal_is_frames n few).1, tt))) refl (settles rom script (decimal n) (decimal_is_frames n few).0.is_taken) c.in_err-matches.ensures.kinds in
    passed_up c.from_residual.result c.in_err-matches.field-0.0 _ c.from_residual.ensures.1 wants
