-- A definition of a crate below that attributes open by name, beside another one of its name.
pub use Rattle.gb_rules.specs.Below.gb_states.Spelling.{node_number}
