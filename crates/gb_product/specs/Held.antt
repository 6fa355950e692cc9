-- Where bytes of the stack may be places of the one byte (own rules: version 4).
use Rattle.std.specs.Prelude.{ℕ, if◌then◌else◌}
use Rattle.gb_ops.specs.declared.machine.Region.{Region}
use Rattle.gb_domain.specs.declared.places.StackBytes.{StackBytes}
use Rattle.gb_domain.specs.declared.relations.Relations.{Relations}
use Rattle.gb_domain.specs.declared.setting.Setting.{Setting}
use Rattle.gb_summaries.specs.Below.gb_pairs.Written.{without_bases}
use Rattle.gb_summaries.specs.Below.gb_relations.Items.{held_places, places_outside}

-- the stack of a procedure where so many items are held: by the rules of version 4 they may be places, where the base is known
unfoldable pub stack_held : Setting → Region → ℕ → StackBytes
stack_held z region count = record { region = region; base = if z.is_whole then z.base else 0; count = count }

-- what is known together where the stack holds these items now
abbrev pub held_relations : StackBytes → Relations → Relations
held_relations stack r = record r { byte = held_places stack r.byte }

-- what is known together as another procedure begins: nothing of items, and no link to what a pair held as the one before was entered
abbrev pub relations_outside : Region → Relations → Relations
relations_outside region r = record r { byte = places_outside region r.byte; pairs = without_bases r.pairs }
