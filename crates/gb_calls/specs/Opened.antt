-- Definitions of the crates below that attributes open by name.
pub use Rattle.gb_product.specs.Below.gb_abs.Covering.{covers_core, covers_flags, covers_parts, covers_registers, covers_val}
pub use Rattle.gb_product.specs.Below.gb_abs.Stack.{pushed}
