-- States by their parts.
use Rattle.std.specs.Prelude.{ℕ}
use Rattle.gb_domain.specs.declared.relations.Relations.{Relations}
use Rattle.gb_domain.specs.declared.types.Core.{Core}
use Rattle.gb_domain.specs.declared.types.Val.{Val}
use Rattle.gb_domain.specs.Summaries.{SummaryParts, Program}
use Rattle.gb_domain.specs.Types.{AbsState}
use Rattle.gb_product.specs.Covering.{byte_in, values_in}

-- states with this core, of which this is known together, which say this of the whole program, and the items and cells of others
abbrev pub with_parts : Core → Relations → SummaryParts → AbsState → AbsState
with_parts core r m s = record s { core = core; relations = r; summary = m }

-- the byte at an address, as a state of the program knows it: by its cell, by the facts that hold or by its fills
abbrev pub byte_there : Program → AbsState → ℕ → Val
byte_there program s a = byte_in program (values_in s) s.cells s.summary a
