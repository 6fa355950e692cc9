-- Definitions of the crates below that attributes open by name.
pub use Rattle.gb_rules.specs.Below.gb_states.Numbers.{node_number, word}
pub use Rattle.gb_rules.specs.Below.gb_states.Spelling.{exit, range, state, val}
