-- By which rules the states of a certificate are taken on, and how much a state holds (own format).
use Rattle.std.specs.Prelude.{ℕ, ◌==◌, ◌||◌, if◌then◌else◌}
use Rattle.gb_domain.specs.declared.rules.Rules.{Rules}
use Rattle.gb_domain.specs.declared.rules.Rules.TheVariants.{Simple, Extended}

-- those of versions 3 and 4, or of versions 1 and 2
unfoldable pub rules_of : ℕ → Rules
rules_of version = if version == 3 || version == 4 then Extended else Simple

-- the most bytes of the stack
unfoldable pub item_room : Rules → ℕ
item_room Simple = 32
item_room Extended = 255

-- the most memory cells
unfoldable pub cell_room : Rules → ℕ
cell_room Simple = 32
cell_room Extended = 64
