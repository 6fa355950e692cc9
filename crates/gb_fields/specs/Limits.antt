-- How many of each a certificate may have (own format).
use Rattle.std.specs.Prelude.{ℕ, Bool, true, false, ◌==◌}
use Rattle.gb_domain.specs.declared.rules.Rules.{Rules}
use Rattle.gb_domain.specs.declared.rules.Rules.TheVariants.{Simple, Extended}

abbrev pub procedure_limit : ℕ
procedure_limit = 255

-- nodes, in version 1 or not
abbrev pub node_limit_by : Bool → ℕ
node_limit_by true = 65535
node_limit_by false = 1048576

-- nodes, by the version
unfoldable pub node_limit : ℕ → ℕ
node_limit version = node_limit_by (version == 1)

-- ranges of a procedure
abbrev pub range_limit : ℕ
range_limit = 8

-- ranges of main, or of another procedure: in version 3 main writes all RAM outside the region
unfoldable pub range_room : Rules → Bool → ℕ
range_room Extended true = 0
range_room _ _ = range_limit

-- The bytes of what the stack is counted in: words in versions 1 and 2, bytes in version 3.
unfoldable pub unit : Rules → ℕ
unit Simple = 2
unit Extended = 1

-- how many of them a state's items are
unfoldable pub item_limit : Rules → ℕ
item_limit Simple = 16
item_limit Extended = 255

-- how many of them a procedure needs
unfoldable pub need_limit : Rules → ℕ
need_limit Simple = 4096
need_limit Extended = 8192

-- the greatest number of an origin
unfoldable pub origin_limit : Rules → ℕ
origin_limit Simple = 9
origin_limit Extended = 11

-- ---- version 4

-- procedures: as many as two bytes count, or as in versions 1 to 3
abbrev pub procedure_limit_by : Bool → ℕ
procedure_limit_by true = 65535
procedure_limit_by false = procedure_limit

-- facts
abbrev pub fact_limit : ℕ
fact_limit = 4096

-- fills of a state
abbrev pub fill_limit : ℕ
fill_limit = 8

-- addresses that a procedure names to be kept
abbrev pub kept_limit : ℕ
kept_limit = 16

-- those of main, which names none, or of another procedure
abbrev pub kept_room : Bool → ℕ
kept_room true = 0
kept_room false = kept_limit

-- procedures, main apart, whose entry nodes have one address
abbrev pub namesake_limit : ℕ
namesake_limit = 1024
