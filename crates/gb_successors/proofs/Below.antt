-- Laws of the crates below, for those above.
pub use Rattle.gb_product.proofs.Below.gb_abs_effects_laws as gb_abs_effects_laws
pub use Rattle.gb_product.proofs as gb_product_laws
pub use Rattle.gb_product.proofs.Below.gb_abs_laws as gb_abs_laws
pub use Rattle.gb_product.proofs.Below.gb_pairs_laws as gb_pairs_laws
pub use Rattle.gb_product.proofs.Below.gb_relations_laws as gb_relations_laws
pub use Rattle.gb_abs_memory.proofs.Below.gb_vals_laws as gb_vals_laws
pub use Rattle.gb_abs_memory.proofs as gb_abs_memory_laws
