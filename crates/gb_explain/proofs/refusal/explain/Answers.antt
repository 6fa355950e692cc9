use Rattle.gb_explain.proofs.Refusals.{told}
use Rattle.gb_explain.proofs.refusal.explain.Goals as goal

pub returns-in-Ok-parse : goal.returns-in-Ok-parse
returns-in-Ok-parse c = record {
  refused = told c.args.rom.now c.args.cert.now c.in-Ok.rom c.in-Ok-parse.cert c.explain_verdict.result c.in-Ok.ensures.exact c.in-Ok-parse.ensures.exact c.explain_verdict.ensures;
}
