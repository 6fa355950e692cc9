-- Definitions of the crates below that attributes open by name.
pub use Rattle.gb_states.specs.Below.gb_fields.Limits.{node_limit, unit}
pub use Rattle.gb_states.specs.Below.gb_fields.Reading.{base_at}
