-- Definitions of the crates below that attributes open by name.
pub use Rattle.gb_successors.specs.Below.gb_domain.Limits.{item_room}
