use Rattle.std.proofs.Common.{◌≡◌, ◌≤◌, drop}
use Rattle.gb_cert_place.specs.declared.field.Field.TheVariants as field
use Rattle.gb_cert_place.specs.Layout.{lookup}
use Rattle.gb_cert_place.proofs.field.lookup.Given as goal

abbrev pub invariant-loop-field : goal.invariant-loop-field
invariant-loop-field l = (l.start ≤ l.byte) × ((l.found.1 ≤ l.byte) × (lookup l.found l.start (drop l.field-index l.layout) l.byte ≡ lookup (field.Magic, 0) 0 l.layout l.byte))
