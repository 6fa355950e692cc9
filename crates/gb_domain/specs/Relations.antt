-- A state of whose parts nothing is known together (own format).
use Rattle.std.specs.Prelude.{None}
use Rattle.gb_domain.specs.declared.relations.Relations.{Relations}
use Rattle.gb_domain.specs.Pairs.{no_pairs}
use Rattle.gb_domain.specs.Places.{no_byte}

abbrev pub no_relations : Relations
no_relations = record { byte = no_byte; zero = None; pairs = no_pairs }
