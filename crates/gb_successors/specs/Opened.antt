-- Definitions of the crates below that attributes open by name.
pub use Rattle.gb_product.specs.Below.gb_abs.Bytes.{without_newest}
pub use Rattle.gb_product.specs.Below.gb_abs.Stack.{pushed, youngest}
pub use Rattle.gb_product.specs.Below.gb_abs_effects.Sides.{sides_of}
pub use Rattle.gb_product.specs.Below.gb_summaries.Below.gb_ram_bounds.Addresses.{joined_over}
pub use Rattle.gb_abs_memory.specs.Access.{is_table}
pub use Rattle.gb_product.specs.Below.gb_abs.Located.{item_at}
