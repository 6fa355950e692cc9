use Rattle.std.proofs.Common.{◌≡◌, ◌++◌, take}
use Rattle.std.specs.List.{flat_map}
use Rattle.gb_cert.specs.Spelled as by_version
use Rattle.gb_cert.specs.Written.{procedure_of, ProceduresKeepLimits}
use Rattle.gb_cert.proofs.writer.put_procedures.Given as goal

abbrev pub invariant-loop-procedure : goal.invariant-loop-procedure
invariant-loop-procedure l = record {
  written : l.out.items ≡ l.initial.out.items ++ flat_map (λ p. by_version.procedure l.version l.region (procedure_of p)) (take l.procedure-index l.procedures);
  kept : ProceduresKeepLimits l.version l.nodes (take l.procedure-index l.procedures);
}
