-- What the states of a certificate may speak of beside themselves (own format).
use Rattle.std.specs.Prelude.{ℕ, Bool, ◌==◌, List}
use Rattle.gb_ops.specs.Cartridge.{kind_of}
use Rattle.gb_abs_memory.specs.Below.gb_domain.Certificate.{Certificate}
use Rattle.gb_abs_memory.specs.Below.gb_domain.Summaries.{Program}
use Rattle.gb_abs_memory.specs.Windows.{known_kind}

-- the rules are those of version 4
abbrev pub is_fourth : Certificate → Bool
is_fourth cert = cert.version == 4

-- the cartridge's controller and the facts, in versions 1 to 3 nothing
unfoldable pub program_of : List ℕ → Certificate → Program
program_of rom cert = record { is_whole = is_fourth cert; kind = known_kind (is_fourth cert) (kind_of rom); facts = cert.facts }
