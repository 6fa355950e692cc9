-- Definitions of the crates below, for those above.
pub use Rattle.gb_product.specs.Below.gb_abs_effects as gb_abs_effects
pub use Rattle.gb_product.specs as gb_product
pub use Rattle.gb_abs_memory.specs.Below.gb_abs as gb_abs
pub use Rattle.gb_product.specs.Below.gb_vals as gb_vals
pub use Rattle.gb_product.specs.Below.gb_relations as gb_relations
pub use Rattle.gb_product.specs.Below.gb_pairs as gb_pairs
pub use Rattle.gb_domain.specs as gb_domain
pub use Rattle.gb_abs_memory.specs as gb_abs_memory
