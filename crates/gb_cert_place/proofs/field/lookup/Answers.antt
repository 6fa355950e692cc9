use Rattle.std.proofs.Common.{◌∙◌, sym, arith}
use Rattle.gb_cert_place.specs.declared.field.Field.TheVariants as field
use Rattle.gb_cert_place.proofs.LookupLaws.{lookup_here, lookup_on, lookup_end}
use Rattle.gb_cert_place.proofs.field.lookup.Goals as goal

pub returns-then-byte-start-clause-field : goal.returns-then-byte-start-clause-field
returns-then-byte-start-clause-field c =
    sym (lookup_here c.loop-field.found (field.Magic, 0) c.loop-field.start c.loop-field.field-index c.args.byte c.args.layout.now c.loop-field-test.true c.loop-field.invariant.0 c.if-byte-start.true) ∙ c.loop-field.invariant.1.1

pub loop-field-preserved : goal.loop-field-preserved
loop-field-preserved c = (
  let le = c.loop-field.invariant.0 in omega arith,
  (
    c.loop-field.invariant.0,
    lookup_on c.loop-field.found (field.Magic, 0) c.loop-field.start c.loop-field.field-index c.args.byte c.args.layout.now c.loop-field-test.true c.loop-field.invariant.0 c.if-byte-start.false ∙ c.loop-field.invariant.1.1,
  ),
)

pub returns-clause-field : goal.returns-clause-field
returns-clause-field c = sym (lookup_end c.loop-field.found c.loop-field.start c.loop-field.field-index c.args.byte c.args.layout.now c.loop-field-test.false) ∙ c.loop-field.invariant.1.1
