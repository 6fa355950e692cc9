-- Definitions of the crates below that attributes open by name.
pub use Rattle.gb_verify.specs.Below.gb_abs.Covering.{covers_controller, covers_core, covers_low_bank, covers_flags, covers_kept, covers_registers}
pub use Rattle.gb_verify.specs.Below.gb_product.Covering.{covers, covers_cells}
