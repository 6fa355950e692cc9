use Rattle.std.proofs.Common.{◌∙◌, ℕ, List, subst, Result, Ok, Err}
use Rattle.std.specs.Prelude.{OnErr}
use Rattle.gb_text.specs.Sink.{Gains}
use Rattle.gb_text.specs.Text.{GainsBeginning}
use Rattle.gb_events.proofs.FileLaws.{replayed_file, begun_file}
use Rattle.gb_events.proofs.files.replay_bytes.Goals as goal

on_err : {A E : Type 0} (r : Result A E) (P : Type 0) → P → OnErr r P
on_err (Ok a) P p = tt
on_err (Err e) P p = p

pub returns-in_err-put_all-clause-beginning : goal.returns-in_err-put_all-clause-beginning
returns-in_err-put_all-clause-beginning g c =
    on_err c.from_residual-in_err-put_all.result _
    (begun_file c.args.file.now c.in-Ok.rom c.args.list.now c.args.region c.in-Ok-replay_rom.replayed (g.W.Sink.contents c.args.out.now) (g.W.Sink.contents c.put_all-2.new.out) c.in-Ok.ensures.exact
    c.in-Ok-replay_rom.ensures
    (subst (λ (text : List ℕ). GainsBeginning (g.W.Sink.contents c.args.out.now) text (g.W.Sink.contents c.put_all-2.new.out)) (c.as_slice-2.ensures ∙ c.replay_line.ensures) c.in_err-put_all.ensures.beginning))

pub returns-clause-written : goal.returns-clause-written
returns-clause-written g c =
    replayed_file c.args.file.now c.in-Ok.rom c.args.list.now c.args.region c.in-Ok-replay_rom.replayed (g.W.Sink.contents c.args.out.now) (g.W.Sink.contents c.put_all-2.new.out) c.in-Ok.ensures.exact
    c.in-Ok-replay_rom.ensures
    (subst (λ (text : List ℕ). Gains (g.W.Sink.contents c.args.out.now) text (g.W.Sink.contents c.put_all-2.new.out)) (c.as_slice-2.ensures ∙ c.replay_line.ensures) c.in_ok-put_all.ensures.whole)
