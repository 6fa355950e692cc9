-- Definitions of the crates below that attributes open by name.
pub use Rattle.gb_command_line.specs.Below.gb_verify.Below.gb_states.RelationSpelling.{places_by, facts, pairs}
pub use Rattle.gb_command_line.specs.Below.gb_verify.Below.gb_states.Numbers.{node_number}
pub use Rattle.gb_command_line.specs.Below.gb_verify.Below.gb_states.Spelling.{val, range}
pub use Rattle.gb_command_line.specs.Below.gb_verify.Widened.{widened_procedure}
